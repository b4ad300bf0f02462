-- What a part of a performance needs: words for what is called, and units for cells and closures.
use Rattle.std.specs.Prelude.{◌⊎◌, ℕ, ◌+◌, ◌*◌, ◌<◌, List, [], ◌∷◌, count_by, is_some, max}
use Rattle.action_terms.specs.Information.{Token}
use Rattle.action_terms.specs.Bindings.{lookup}
use Rattle.action_terms.specs.Actions.{Yielder, StoredIn, OnTwo, OnOne, Item, Single, Them, Primitive, Give, EscapeWith, Check, Bind, BindRec, Store, Send, Node, Simple, Enact, Apply, Branch, Action}
use Rattle.action_terms.specs.Acting.{Tree, Run, Ended, Called, Par, First, Second, Or, Cut, Trap, Over}
use Rattle.action_terms.specs.Steps.{Effect, Allocates, Made, Step}
use Rattle.action_terms.specs.Performances.{State, IsOpen, after}

-- how much an action's parts need: the slots of its main procedure, those of the body with a root, 0 where it is none, and the tokens which the closures of that body capture
pub record Sizes : Type 0 where
  pub main_slots : ℕ
  pub slots : ℕ → ℕ
  pub captured : ℕ → List Token

-- the slots of the bodies that are called in a tree
abbrev pub called_slots : Sizes → Tree → ℕ
called_slots m (Run k d b) = 0
called_slots m (Ended z) = 0
called_slots m (Called c x) = m.slots c + called_slots m x
called_slots m (Par k x y) = called_slots m x + called_slots m y
called_slots m (First k x d b) = called_slots m x
called_slots m (Second k d1 b1 x) = called_slots m x
called_slots m (Or x k2 d b) = called_slots m x
called_slots m (Cut x) = called_slots m x
called_slots m (Trap k x b) = called_slots m x
called_slots m (Over x b) = called_slots m x

-- the words that a state needs
abbrev pub words : Sizes → State → ℕ
words m s = m.main_slots + called_slots m s.tree

-- a closure takes a unit, and one more for each captured token that is bound where it is made
abbrev pub closure_units : Sizes → Made → ℕ
closure_units m c = 1 + count_by (λ t. is_some (lookup t c.binds)) (m.captured c.body)

abbrev pub closures_units : Sizes → List Made → ℕ
closures_units m [] = 0
closures_units m (c ∷ cs) = closure_units m c + closures_units m cs

-- a cell takes a unit
abbrev pub effect_units : Effect → ℕ
effect_units Allocates = 1
effect_units _ = 0

-- the units that steps spend
abbrev pub units : Sizes → List Step → ℕ
units m [] = 0
units m (n ∷ steps) = effect_units n.effect + closures_units m n.made + units m steps

-- more words or units than there are
abbrev pub Exceeds : Sizes → (stack units_left : ℕ) → List Step → State → Type 0
Exceeds m stack room steps s = (stack < words m s) ⊎ (room < units m steps)

-- the part with these steps, which lead to the state, passes a capacity of so many words and units: at its end, or after one further step
abbrev pub Passes : Action → Sizes → (stack room : ℕ) → List Step → State → Type 0
Passes a m stack room steps s =
    Exceeds m stack room steps s ⊎ ((n : Step) × IsOpen a s n × Exceeds m stack room (n ∷ steps) (after n s))

-- ---- measures of an action

-- the yielders in a yielder, itself too; those in the body of a closure are the body's
abbrev pub yielder_count : Yielder → ℕ
yielder_count (StoredIn s y) = 1 + yielder_count y
yielder_count (OnTwo f y1 y2) = 1 + (yielder_count y1 + yielder_count y2)
yielder_count (OnOne f y) = 1 + yielder_count y
yielder_count _ = 1

abbrev pub items_yielder_count : List Item → ℕ
items_yielder_count [] = 0
items_yielder_count (Single y ∷ is) = yielder_count y + items_yielder_count is
items_yielder_count (Them ∷ is) = 1 + items_yielder_count is

abbrev pub primitive_yielder_count : Primitive → ℕ
primitive_yielder_count (Give is) = items_yielder_count is
primitive_yielder_count (EscapeWith is) = items_yielder_count is
primitive_yielder_count (Check y) = yielder_count y
primitive_yielder_count (Bind t y) = yielder_count y
primitive_yielder_count (BindRec t c) = 1
primitive_yielder_count (Store y1 y2) = yielder_count y1 + yielder_count y2
primitive_yielder_count (Send y) = yielder_count y
primitive_yielder_count _ = 0

-- the yielders of a node
abbrev pub node_yielder_count : Node → ℕ
node_yielder_count (Simple p) = primitive_yielder_count p
node_yielder_count (Enact y) = yielder_count y
node_yielder_count (Apply y is) = yielder_count y + items_yielder_count is
node_yielder_count (Branch y l r) = yielder_count y
node_yielder_count _ = 0

-- the greatest number of yielders of one node
abbrev pub most_yielders : Action → ℕ
most_yielders [] = 0
most_yielders (n ∷ a) = max (node_yielder_count n) (most_yielders a)

-- how many instructions a compiled action takes at most for a step: w is the greatest length of data or bindings, z the greatest number of yielders of one node
abbrev pub factor : ℕ → ℕ → ℕ
factor w z = 400 + 24 * (w + 1) * (z + 1)
