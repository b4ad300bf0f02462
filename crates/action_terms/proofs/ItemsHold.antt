-- What holds of the item of each yielder where it holds of its arguments holds of all items of a graph.
use Rattle.std.proofs.Common.{ℕ, zero, suc, ◌-◌, List, [], ◌∷◌}
use Rattle.std.specs.Prelude.{All, slice_get}
use Rattle.std.proofs.lemmas.List.Elements.{All-nil, All-cons, All-head, All-tail}
use Rattle.action_terms.specs.Numbering.{ListedYielder}
use Rattle.action_terms.specs.Actions.{Item, Them}
use Rattle.action_terms.specs.Meaning.{item_of, item_or_them, picked, items_from}

module _ (P : Item → Type 0) (them : P Them) where
  -- of an item by its place
  item-holds : (i : ℕ) (is : List Item) → All P is → P (item_or_them (slice_get is i))
  item-holds i [] h = them
  item-holds zero (j ∷ is) h = All-head P j is h
  item-holds (suc i) (j ∷ is) h = item-holds i is (All-tail P j is h)

  -- of the items of some numbers
  pub picked-hold : (y : ℕ) (is : List Item) (ns : List ℕ) → All P is → All P (picked y is ns)
  picked-hold y is [] h = All-nil P
  picked-hold y is (n ∷ ns) h = All-cons P (item_or_them (slice_get is (n - y))) (picked y is ns) (item-holds (n - y) is h) (picked-hold y is ns h)

  -- of all items, where S holds of all yielders
  module _ (S : ListedYielder → Type 0) (each : (l : ListedYielder) (args : List Item) → S l → All P args → P (item_of l.kind l.token l.body args)) where
    pub items_from-hold : (y : ℕ) (ls : List ListedYielder) → All S ls → All P (items_from y ls)
    items_from-hold y [] h = All-nil P
    items_from-hold y (l ∷ ls) h =
        let later = items_from (suc y) ls in
        let args = picked (suc y) later l.children in
        let rest = items_from-hold (suc y) ls (All-tail S l ls h) in
        All-cons P (item_of l.kind l.token l.body args) later (each l args (All-head S l ls h) (picked-hold (suc y) later l.children rest)) rest
