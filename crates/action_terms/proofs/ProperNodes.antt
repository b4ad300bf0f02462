-- A node names its parts, its body, and the closures in its operands.
use Rattle.std.proofs.Common.{ℕ, ◌<◌, List, [], ◌∷◌, ◌++◌}
use Rattle.std.specs.Prelude.{All}
use Rattle.std.proofs.lemmas.List.Elements.{All-nil, All-cons, All-head, All-tail, All-append}
use Rattle.action_terms.specs.Actions.{Yielder, Item, Single, ClosureOf}
use Rattle.action_terms.specs.Steps.{closures_in, closures_in_items}
use Rattle.action_terms.specs.Meaning.{node_of}
use Rattle.action_terms.specs.Proper.{named}
use Rattle.action_terms.specs.declared.kinds.Kind.{Kind}
use Rattle.action_terms.specs.declared.kinds.Kind.TheVariants as kind
use Rattle.action_terms.proofs.ProperYielders.{ItemBelow, closures_in_items-below, one_below}

-- the closures in the items of each operand have bodies below this count
abbrev pub OperandsBelow : ℕ → List (List Item) → Type 0
OperandsBelow count os = All (λ is. All (ItemBelow count) is) os

first_operand : (count : ℕ) (is : List Item) (os : List (List Item)) → OperandsBelow count (is ∷ os) → All (ItemBelow count) is
first_operand count is os h = All-head (λ is. All (ItemBelow count) is) is os h

-- the first operand, where it is a datum
first_datum : (count : ℕ) (y : Yielder) (os : List (List Item)) → OperandsBelow count ((Single y ∷ []) ∷ os) → All (λ k. k < count) (closures_in y)
first_datum count y os h = one_below count y (first_operand count (Single y ∷ []) os h)

-- the operands are a datum and items
datum_and_items : (count : ℕ) (y : Yielder) (is : List Item) → OperandsBelow count ((Single y ∷ []) ∷ is ∷ []) → All (λ k. k < count) (closures_in y ++ closures_in_items is)
datum_and_items count y is h =
    let rest = All-tail (λ is. All (ItemBelow count) is) (Single y ∷ []) (is ∷ []) h in
    All-append (λ k. k < count) (closures_in y) (closures_in_items is) (first_datum count y (is ∷ []) h) (closures_in_items-below count is (first_operand count is [] rest))

pub node_of-below : (count : ℕ) (k : Kind) (tk : List ℕ) (c : ℕ) (parts : List ℕ) (os : List (List Item)) → c < count → All (λ k. k < count) parts → OperandsBelow count os → All (λ k. k < count) (named (node_of k tk c parts os))
node_of-below count kind.Give tk c parts (is ∷ []) body below h = closures_in_items-below count is (first_operand count is [] h)
node_of-below count kind.EscapeWith tk c parts (is ∷ []) body below h = closures_in_items-below count is (first_operand count is [] h)
node_of-below count kind.Check tk c parts ((Single y ∷ []) ∷ []) body below h = first_datum count y [] h
node_of-below count kind.Bind tk c parts ((Single y ∷ []) ∷ []) body below h = first_datum count y [] h
node_of-below count kind.BindRec tk c parts ((Single (ClosureOf b) ∷ []) ∷ []) body below h = first_datum count (ClosureOf b) [] h
node_of-below count kind.Store tk c parts ((Single y1 ∷ []) ∷ (Single y2 ∷ []) ∷ []) body below h =
    let rest = All-tail (λ is. All (ItemBelow count) is) (Single y1 ∷ []) ((Single y2 ∷ []) ∷ []) h in
    All-append (λ k. k < count) (closures_in y1) (closures_in y2) (first_datum count y1 ((Single y2 ∷ []) ∷ []) h) (first_datum count y2 [] rest)
node_of-below count kind.Send tk c parts ((Single y ∷ []) ∷ []) body below h = first_datum count y [] h
node_of-below count kind.Enact tk c parts ((Single y ∷ []) ∷ []) body below h = first_datum count y [] h
node_of-below count kind.Apply tk c parts ((Single y ∷ []) ∷ is ∷ []) body below h = datum_and_items count y is h
node_of-below count kind.Unfold tk c parts os body below h = All-cons (λ k. k < count) c [] body (All-nil (λ k. k < count))
node_of-below count kind.Unfolding tk c parts os body below h = All-cons (λ k. k < count) c [] body (All-nil (λ k. k < count))
node_of-below count kind.Furthermore tk c (l ∷ []) os body below h = below
node_of-below count kind.Or tk c (l ∷ r ∷ []) os body below h = below
node_of-below count kind.And tk c (l ∷ r ∷ []) os body below h = below
node_of-below count kind.AndThen tk c (l ∷ r ∷ []) os body below h = below
node_of-below count kind.Then tk c (l ∷ r ∷ []) os body below h = below
node_of-below count kind.Trap tk c (l ∷ r ∷ []) os body below h = below
node_of-below count kind.Hence tk c (l ∷ r ∷ []) os body below h = below
node_of-below count kind.Moreover tk c (l ∷ r ∷ []) os body below h = below
node_of-below count kind.Before tk c (l ∷ r ∷ []) os body below h = below
node_of-below count kind.Branch tk c (l ∷ r ∷ []) ((Single y ∷ []) ∷ []) body below h =
    All-append (λ k. k < count) (closures_in y) (l ∷ r ∷ []) (first_datum count y [] h) below
node_of-below count _ tk c parts os body below h = All-nil (λ k. k < count)
