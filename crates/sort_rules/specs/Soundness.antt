-- What an admissible table says of performances.
use Rattle.std.specs.Prelude.{◌≡◌, ℕ, ℤ, false, List, None}
use Rattle.action_terms.specs.Information.{Binds, Data, Storage}
use Rattle.action_terms.specs.Bindings.{meets}
use Rattle.action_terms.specs.Actions.{Yielder, And, Chain, AndThen, Then, Hence, Before, Both, Phases, Action, node_at}
use Rattle.action_terms.specs.Acting.{Run, Ended, Par, Second, Done, Esc}
use Rattle.action_terms.specs.Yielding.{yields}
use Rattle.action_terms.specs.Steps.{Step}
use Rattle.action_terms.specs.Performances.{OneOf, State, IsPart}
use Rattle.action_terms.specs.Frames.{Frame, plug}
use Rattle.sort_rules.specs.Admissible.{is_clash}
use Rattle.sort_rules.specs.Parts.{Part, union}
use Rattle.sort_rules.specs.Tables.{MarkedTable}
use Rattle.sort_rules.specs.Fitting.{BindsFit, CellsFit, Enters, StateFits, TreeFits, ends_of, sorted}
use Rattle.sort_rules.specs.Shapes.{EntersInShape, CompletesInShape, EscapesInShape}
use Rattle.action_terms.specs.Suited.{IsSuitedNode}
use Rattle.sort_rules.specs.Operands.{Blocks, node_yielders}

-- node k is to be performed with data d and bindings b: they have the length and the domain of its row, its yielders look up and combine data of the sorts that they want, and what yields nothing does so by an unset cell or an operation without a result
pub record RunsInSort (a : Action) (t : MarkedTable) (cells : Storage) (k : ℕ) (d : Data) (b : Binds) : Type 0 where
  pub shape : EntersInShape t k d b
  pub suited : IsSuitedNode (node_at a k) d b cells
  pub yields : (y : Yielder) → OneOf y (node_yielders (node_at a k)) → yields y d b cells ≡ None → Blocks d b cells y

-- so it is wherever what the node is given and receives fits its row
abbrev pub NodesRunInSort : Action → MarkedTable → Type 0
NodesRunInSort a t =
    (w : List ℕ) (cells : Storage) (k : ℕ) (d : Data) (b : Binds) → CellsFit (sorted a t) w cells → Enters (sorted a t) w k d b → RunsInSort a t cells k d b

-- what ends as node k may has the lengths and the domain of its row
pub record EndsInShape (a : Action) (t : MarkedTable) (w : List ℕ) (k : ℕ) : Type 0 where
  pub completes : (d : Data) (b : Binds) → TreeFits (sorted a t) a w (Ended (Done d b)) (ends_of t k) → CompletesInShape t k d b
  pub escapes : (d : Data) → TreeFits (sorted a t) a w (Ended (Esc d)) (ends_of t k) → EscapesInShape t k d

-- bindings that fit two parts whose union is no clash have no token in common
abbrev pub UnionsComplete : Action → MarkedTable → Type 0
UnionsComplete a t =
    (w : List ℕ) (b b2 : Binds) (x y : Part) → BindsFit (sorted a t) w b x → BindsFit (sorted a t) w b2 y → is_clash (union x y) ≡ false → meets b b2 ≡ false

-- two parts in order complete with the union of their bindings
abbrev pub Unites : Chain → Type 0
Unites AndThen = Unit {0}
Unites Then = Unit {0}
Unites Hence = ⊥
Unites Before = ⊥

-- the state fits; each node that is to be performed anywhere in its tree is in sort; and where two parts have completed whose bindings are to be united, they have no token in common
pub record IsInSort (a : Action) (t : MarkedTable) (s : State) : Type 0 where
  pub fits : StateFits (sorted a t) a s
  pub runs : (fs : List Frame) (k : ℕ) (d : Data) (b : Binds) → s.tree ≡ plug fs (Run k d b) → RunsInSort a t s.world.cells k d b
  pub unions : (fs : List Frame) (k l r : ℕ) (d1 : Data) (b1 : Binds) (d2 : Data) (b2 : Binds)
      → s.tree ≡ plug fs (Par k (Ended (Done d1 b1)) (Ended (Done d2 b2))) → node_at a k ≡ Both And l r → meets b1 b2 ≡ false
  pub unions_in_order : (fs : List Frame) (k l r : ℕ) (q : Chain) (d1 : Data) (b1 : Binds) (d2 : Data) (b2 : Binds)
      → s.tree ≡ plug fs (Second k d1 b1 (Ended (Done d2 b2))) → node_at a k ≡ Phases q l r → Unites q → meets b1 b2 ≡ false

-- so is every state of every performance over every input
abbrev pub PerformancesInSort : Action → MarkedTable → Type 0
PerformancesInSort a t = (input : List ℤ) (steps : List Step) (s : State) → IsPart a input steps s → IsInSort a t s
