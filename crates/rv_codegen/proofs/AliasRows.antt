-- Nodes find what they are given in consecutive words.
use Rattle.std.proofs.Common.{◌≡◌, ⊎_elim, ℕ, zero, suc, ◌+◌, ◌≤◌, List, [], ◌∷◌, length, get_or, refl, sym, ap, subst, ◌∙◌, arith}
use Rattle.std.specs.Prelude.{All, Option, Some, None, nat_eq}
use Rattle.std.specs.List.{range_with_len}
use Rattle.std.proofs.lemmas.Bool.{cases_lt}
use Rattle.action_terms.specs.Actions.{Action, AndThen, Before, Hence, Node, Phases, Then, Trapping, node_at}
use Rattle.sort_rules.specs.Procedures.{whole_of}
use Rattle.sort_rules.specs.Tables.{MarkedTable}
use Rattle.sort_rules.proofs.Choices.{of_choice}
use Rattle.frame_layout.specs.Layouts.{AreConsecutive, HasApartNodes, IsLayout}
use Rattle.frame_layout.specs.Places.{Frame, PlacedNode}
use Rattle.frame_layout.proofs.GraphParts.{HasTrees}
use Rattle.rv_codegen.specs.Aliases.{AreByNumber, from_whole, given_in, given_of, handed_at, nowhere, place_at}
use Rattle.rv_codegen.proofs.Holding.{in_row}
use Rattle.rv_codegen.proofs.LayoutWords.{escaped-row, in-row, layout-words, past-nowhere}

-- ---- consecutive words stand in a row

row-range : (x n : ℕ) → range_with_len x n ≡ in_row x n
row-range x zero = refl
row-range x (suc n) = ap (λ ys. x ∷ ys) (row-range (x + 1) n)

pub row-of : (xs : List ℕ) → AreConsecutive xs → xs ≡ in_row (get_or xs 0 0) (length xs)
row-of [] h = refl
row-of (y ∷ xs) (x, e) =
    let first : y ≡ x = cc in
    e ∙ row-range x (length (y ∷ xs)) ∙ ap (λ z. in_row z (length (y ∷ xs))) (sym first)

none-row : AreConsecutive []
none-row = (0, refl)

module _ (a : Action) (trees : HasTrees a) (t : MarkedTable) (fs : List Frame) (laid : IsLayout a t fs) (apart : All HasApartNodes fs) (ns : List PlacedNode) (by_number : AreByNumber a fs ns) where
  past : (k : ℕ) → length a ≤ k → place_at ns k ≡ nowhere
  past k le = past-nowhere ns k (omega (arith, le, by_number.long))

  own-in : (k : ℕ) → AreConsecutive (place_at ns k).data_in
  own-in k = ⊎_elim (λ within. in-row a trees t fs laid apart ns by_number k within) (λ le. subst (λ (n : PlacedNode). AreConsecutive n.data_in) (sym (past k le)) none-row) (cases_lt k (length a))

  pub own-out : (k : ℕ) → AreConsecutive (place_at ns k).data_out
  own-out k = ⊎_elim (λ within. (layout-words a trees t fs laid apart ns by_number).consecutive k within) (λ le. subst (λ (n : PlacedNode). AreConsecutive n.data_out) (sym (past k le)) none-row) (cases_lt k (length a))

  own-escaped : (k : ℕ) → AreConsecutive (place_at ns k).escaped
  own-escaped k = ⊎_elim (λ within. escaped-row a trees t fs laid apart ns by_number k within) (λ le. subst (λ (n : PlacedNode). AreConsecutive n.escaped) (sym (past k le)) none-row) (cases_lt k (length a))

  -- a part finds its data where its node does, or where another node leaves or escapes with its own
  part-row : (n : Node) (gs : List ℕ) (k : ℕ) → AreConsecutive gs → AreConsecutive (given_in (place_at ns) n gs k)
  part-row (Phases Then l r) gs k h = of_choice (nat_eq k l) gs (place_at ns l).data_out AreConsecutive (λ e. h) (λ e. own-out l)
  part-row (Trapping l r) gs k h = of_choice (nat_eq k l) gs (place_at ns l).escaped AreConsecutive (λ e. h) (λ e. own-escaped l)
  part-row (Phases AndThen l r) gs k h = h
  part-row (Phases Hence l r) gs k h = h
  part-row (Phases Before l r) gs k h = h
  part-row _ gs k h = h

  handed-row : (m k : ℕ) → AreConsecutive (handed_at (given_in (place_at ns)) (λ j. (place_at ns j).data_in) a m k)
  handed-row zero k = own-in k
  handed-row (suc m) k = go (whole_of a k) (handed-row m)
    where
      go : (o : Option ℕ) → ((j : ℕ) → AreConsecutive (handed_at (given_in (place_at ns)) (λ j. (place_at ns j).data_in) a m j))
          → AreConsecutive (from_whole (given_in (place_at ns)) a (handed_at (given_in (place_at ns)) (λ j. (place_at ns j).data_in) a m) (place_at ns k).data_in k o)
      go None below = own-in k
      go (Some n) below = part-row (node_at a n) (handed_at (given_in (place_at ns)) (λ j. (place_at ns j).data_in) a m n) k (below n)

  pub given-row : (k : ℕ) → given_of (place_at ns) a k ≡ in_row (get_or (given_of (place_at ns) a k) 0 0) (length (given_of (place_at ns) a k))
  given-row k = row-of (given_of (place_at ns) a k) (handed-row k k)
