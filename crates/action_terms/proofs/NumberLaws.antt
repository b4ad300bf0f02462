-- The numbers of the action of a graph are those of its yielders: each is an integer of 64 signed bits.
use Rattle.std.proofs.Common.{ℕ, zero, suc, List, [], ◌∷◌, get_or, map}
use Rattle.std.specs.Prelude.{All}
use Rattle.std.proofs.lemmas.List.Elements.{All-head, All-tail, All-map}
use Rattle.action_terms.specs.Numbering.{ListedNode, Listed, KindFits}
use Rattle.action_terms.specs.Actions.{Yielder, ClosureOf, Item, Single}
use Rattle.action_terms.specs.Literals.{YielderFits, ItemFits, NodeFits, NumbersFit}
use Rattle.action_terms.specs.Meaning.{item_of, picked, items_from, node_of, node_with, action_of}
use Rattle.action_terms.specs.declared.kinds.Kind.{Kind}
use Rattle.action_terms.specs.declared.kinds.Kind.TheVariants as kind
use Rattle.action_terms.specs.declared.kinds.YKind.{YKind}
use Rattle.action_terms.specs.declared.kinds.YKind.TheVariants as ykind
use Rattle.action_terms.proofs.ItemsHold.{picked-hold, items_from-hold}

-- the first item, and the second, are data
first_fits : (y : Yielder) (is : List Item) → All ItemFits (Single y ∷ is) → YielderFits y
first_fits y is h = All-head ItemFits (Single y) is h

two_fit : (y1 y2 : Yielder) → All ItemFits (Single y1 ∷ Single y2 ∷ []) → YielderFits y1 × YielderFits y2
two_fit y1 y2 h = (first_fits y1 (Single y2 ∷ []) h, first_fits y2 [] (All-tail ItemFits (Single y1) (Single y2 ∷ []) h))

-- a yielder is a number that fits, or has those of its arguments
item_of-fits : (k : YKind) (tk : List ℕ) (c : ℕ) (is : List Item) → KindFits k → All ItemFits is → ItemFits (item_of k tk c is)
item_of-fits (ykind.Number n) tk c is fits h = fits
item_of-fits (ykind.Truth b) tk c is fits h = tt
item_of-fits (ykind.Given s zero) tk c is fits h = tt
item_of-fits (ykind.Given s (suc n)) tk c is fits h = tt
item_of-fits (ykind.Bound s) tk c is fits h = tt
item_of-fits (ykind.Stored s) tk c (Single y ∷ []) fits h = first_fits y [] h
item_of-fits ykind.Sum tk c (Single y1 ∷ Single y2 ∷ []) fits h = two_fit y1 y2 h
item_of-fits ykind.Difference tk c (Single y1 ∷ Single y2 ∷ []) fits h = two_fit y1 y2 h
item_of-fits ykind.Product tk c (Single y1 ∷ Single y2 ∷ []) fits h = two_fit y1 y2 h
item_of-fits ykind.Quotient tk c (Single y1 ∷ Single y2 ∷ []) fits h = two_fit y1 y2 h
item_of-fits ykind.Remainder tk c (Single y1 ∷ Single y2 ∷ []) fits h = two_fit y1 y2 h
item_of-fits ykind.Negation tk c (Single y ∷ []) fits h = first_fits y [] h
item_of-fits ykind.Is tk c (Single y1 ∷ Single y2 ∷ []) fits h = two_fit y1 y2 h
item_of-fits ykind.Less tk c (Single y1 ∷ Single y2 ∷ []) fits h = two_fit y1 y2 h
item_of-fits ykind.Not tk c (Single y ∷ []) fits h = first_fits y [] h
item_of-fits ykind.Both tk c (Single y1 ∷ Single y2 ∷ []) fits h = two_fit y1 y2 h
item_of-fits ykind.Either tk c (Single y1 ∷ Single y2 ∷ []) fits h = two_fit y1 y2 h
item_of-fits ykind.Closure tk c is fits h = tt
item_of-fits _ tk c is fits h = tt

-- the numbers of each operand fit
abbrev OperandsFit : List (List Item) → Type 0
OperandsFit os = All (λ is. All ItemFits is) os

first_operand : (is : List Item) (os : List (List Item)) → OperandsFit (is ∷ os) → All ItemFits is
first_operand is os h = All-head (λ is. All ItemFits is) is os h

second_operand : (is js : List Item) → OperandsFit (is ∷ js ∷ []) → All ItemFits js
second_operand is js h = first_operand js [] (All-tail (λ is. All ItemFits is) is (js ∷ []) h)

first_datum : (y : Yielder) (os : List (List Item)) → OperandsFit ((Single y ∷ []) ∷ os) → YielderFits y
first_datum y os h = first_fits y [] (first_operand (Single y ∷ []) os h)

node_of-fits : (k : Kind) (tk : List ℕ) (c : ℕ) (parts : List ℕ) (os : List (List Item)) → OperandsFit os → NodeFits (node_of k tk c parts os)
node_of-fits kind.Give tk c parts (is ∷ []) h = first_operand is [] h
node_of-fits kind.EscapeWith tk c parts (is ∷ []) h = first_operand is [] h
node_of-fits kind.Check tk c parts ((Single y ∷ []) ∷ []) h = first_datum y [] h
node_of-fits kind.Bind tk c parts ((Single y ∷ []) ∷ []) h = first_datum y [] h
node_of-fits kind.BindRec tk c parts ((Single (ClosureOf b) ∷ []) ∷ []) h = tt
node_of-fits kind.Store tk c parts ((Single y1 ∷ []) ∷ (Single y2 ∷ []) ∷ []) h =
    (first_datum y1 ((Single y2 ∷ []) ∷ []) h, first_fits y2 [] (second_operand (Single y1 ∷ []) (Single y2 ∷ []) h))
node_of-fits kind.Send tk c parts ((Single y ∷ []) ∷ []) h = first_datum y [] h
node_of-fits kind.Enact tk c parts ((Single y ∷ []) ∷ []) h = first_datum y [] h
node_of-fits kind.Apply tk c parts ((Single y ∷ []) ∷ is ∷ []) h = (first_datum y (is ∷ []) h, second_operand (Single y ∷ []) is h)
node_of-fits kind.Furthermore tk c (l ∷ []) os h = tt
node_of-fits kind.Or tk c (l ∷ r ∷ []) os h = tt
node_of-fits kind.And tk c (l ∷ r ∷ []) os h = tt
node_of-fits kind.AndThen tk c (l ∷ r ∷ []) os h = tt
node_of-fits kind.Then tk c (l ∷ r ∷ []) os h = tt
node_of-fits kind.Trap tk c (l ∷ r ∷ []) os h = tt
node_of-fits kind.Hence tk c (l ∷ r ∷ []) os h = tt
node_of-fits kind.Moreover tk c (l ∷ r ∷ []) os h = tt
node_of-fits kind.Before tk c (l ∷ r ∷ []) os h = tt
node_of-fits kind.Branch tk c (l ∷ r ∷ []) ((Single y ∷ []) ∷ []) h = first_datum y [] h
node_of-fits _ tk c parts os h = tt

-- so those of each node of the action fit
pub numbers-fit : (g : Listed) → All (λ y. KindFits y.kind) g.yielders → NumbersFit (action_of g)
numbers-fit g h =
    let items = items_from 0 g.yielders in
    let fit = items_from-hold ItemFits tt (λ l. KindFits l.kind) (λ l args fits args_fit. item_of-fits l.kind l.token l.body args fits args_fit) 0 g.yielders h in
    let operands = λ (n : ListedNode). All-map (λ is. All ItemFits is) (picked 0 items) n.operands (λ i d less. picked-hold ItemFits tt 0 items (get_or n.operands i d) fit) in
    All-map NodeFits (node_with items) g.nodes (λ k d less.
    let n = get_or g.nodes k d in
    node_of-fits n.kind n.token n.body n.children (map (picked 0 items) n.operands) (operands n))
