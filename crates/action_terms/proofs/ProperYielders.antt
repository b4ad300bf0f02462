-- The closures in the items of a graph have the bodies of its yielders.
use Rattle.std.proofs.Common.{ℕ, zero, suc, ◌<◌, List, [], ◌∷◌, ◌++◌}
use Rattle.std.specs.Prelude.{All}
use Rattle.std.proofs.lemmas.List.Elements.{All-nil, All-cons, All-head, All-tail, All-append}
use Rattle.action_terms.specs.Numbering.{ListedYielder}
use Rattle.action_terms.specs.Actions.{Yielder, Item, Single, Them}
use Rattle.action_terms.specs.Steps.{closures_in, closures_in_items}
use Rattle.action_terms.specs.Meaning.{item_of, items_from}
use Rattle.action_terms.specs.declared.kinds.YKind.{YKind}
use Rattle.action_terms.specs.declared.kinds.YKind.TheVariants as ykind
use Rattle.action_terms.proofs.ItemsHold.{items_from-hold}

-- each closure in the item has a body below this count
abbrev pub ItemBelow : ℕ → Item → Type 0
ItemBelow count (Single y) = All (λ k. k < count) (closures_in y)
ItemBelow count Them = Unit {0}

pub closures_in_items-below : (count : ℕ) (is : List Item) → All (ItemBelow count) is → All (λ k. k < count) (closures_in_items is)
closures_in_items-below count [] h = All-nil (λ k. k < count)
closures_in_items-below count (Single y ∷ is) h =
    All-append (λ k. k < count) (closures_in y) (closures_in_items is) (All-head (ItemBelow count) (Single y) is h) (closures_in_items-below count is (All-tail (ItemBelow count) (Single y) is h))
closures_in_items-below count (Them ∷ is) h = closures_in_items-below count is (All-tail (ItemBelow count) Them is h)

-- the one item, or the two
pub one_below : (count : ℕ) (y : Yielder) → All (ItemBelow count) (Single y ∷ []) → All (λ k. k < count) (closures_in y)
one_below count y h = All-head (ItemBelow count) (Single y) [] h

two_below : (count : ℕ) (y1 y2 : Yielder) → All (ItemBelow count) (Single y1 ∷ Single y2 ∷ []) → All (λ k. k < count) (closures_in y1 ++ closures_in y2)
two_below count y1 y2 h =
    All-append (λ k. k < count) (closures_in y1) (closures_in y2) (All-head (ItemBelow count) (Single y1) (Single y2 ∷ []) h) (one_below count y2 (All-tail (ItemBelow count) (Single y1) (Single y2 ∷ []) h))

-- a yielder has the closures of its arguments, or is one
item_of-below : (count : ℕ) (k : YKind) (tk : List ℕ) (c : ℕ) (is : List Item) → c < count → All (ItemBelow count) is → ItemBelow count (item_of k tk c is)
item_of-below count (ykind.Number n) tk c is body h = All-nil (λ k. k < count)
item_of-below count (ykind.Truth b) tk c is body h = All-nil (λ k. k < count)
item_of-below count (ykind.Given s zero) tk c is body h = All-nil (λ k. k < count)
item_of-below count (ykind.Given s (suc n)) tk c is body h = All-nil (λ k. k < count)
item_of-below count (ykind.Bound s) tk c is body h = All-nil (λ k. k < count)
item_of-below count (ykind.Stored s) tk c (Single y ∷ []) body h = one_below count y h
item_of-below count ykind.Sum tk c (Single y1 ∷ Single y2 ∷ []) body h = two_below count y1 y2 h
item_of-below count ykind.Difference tk c (Single y1 ∷ Single y2 ∷ []) body h = two_below count y1 y2 h
item_of-below count ykind.Product tk c (Single y1 ∷ Single y2 ∷ []) body h = two_below count y1 y2 h
item_of-below count ykind.Quotient tk c (Single y1 ∷ Single y2 ∷ []) body h = two_below count y1 y2 h
item_of-below count ykind.Remainder tk c (Single y1 ∷ Single y2 ∷ []) body h = two_below count y1 y2 h
item_of-below count ykind.Negation tk c (Single y ∷ []) body h = one_below count y h
item_of-below count ykind.Is tk c (Single y1 ∷ Single y2 ∷ []) body h = two_below count y1 y2 h
item_of-below count ykind.Less tk c (Single y1 ∷ Single y2 ∷ []) body h = two_below count y1 y2 h
item_of-below count ykind.Not tk c (Single y ∷ []) body h = one_below count y h
item_of-below count ykind.Both tk c (Single y1 ∷ Single y2 ∷ []) body h = two_below count y1 y2 h
item_of-below count ykind.Either tk c (Single y1 ∷ Single y2 ∷ []) body h = two_below count y1 y2 h
item_of-below count ykind.Closure tk c is body h = All-cons (λ k. k < count) c [] body (All-nil (λ k. k < count))
item_of-below count _ tk c is body h = tt

-- where the bodies of all yielders are below the count, so are those of the closures in the items
pub items_from-below : (count y : ℕ) (ls : List ListedYielder) → All (λ l. l.body < count) ls → All (ItemBelow count) (items_from y ls)
items_from-below count =
    items_from-hold (ItemBelow count) tt (λ l. l.body < count) (λ l args body below. item_of-below count l.kind l.token l.body args body below)
