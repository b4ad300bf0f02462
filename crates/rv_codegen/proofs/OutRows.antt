-- Nodes leave their data in consecutive words.
use Rattle.std.proofs.Common.{◌≡◌, ℕ, zero, suc, ◌+◌, List, [], ◌∷◌, length, get_or, drop, take, refl, ap, ◌∙◌}
use Rattle.std.specs.Prelude.{All, Option, Some, None, nat_eq}
use Rattle.std.specs.List.{range_with_len}
use Rattle.action_terms.specs.Actions.{Action, AndThen, Before, Both, Hence, Node, Phases, Then, node_at}
use Rattle.sort_rules.specs.Procedures.{whole_of}
use Rattle.sort_rules.specs.Tables.{MarkedTable}
use Rattle.sort_rules.proofs.Choices.{of_choice}
use Rattle.frame_layout.specs.Layouts.{AreConsecutive, HasApartNodes, IsLayout}
use Rattle.frame_layout.specs.Places.{Frame, PlacedNode}
use Rattle.frame_layout.proofs.GraphParts.{HasTrees}
use Rattle.rv_codegen.specs.Aliases.{AreByNumber, back_places, from_whole, front_places, handed_at, of_part, out_in, out_of, place_at, whole_places}
use Rattle.rv_codegen.proofs.AliasRows.{own-out, row-of}
use Rattle.rv_codegen.proofs.Holding.{in_row}

-- ---- a front of consecutive words, and what stands behind it

take-consecutive : (n : ℕ) (xs : List ℕ) → AreConsecutive xs → AreConsecutive (take n xs)
take-consecutive zero xs h = (0, refl)
take-consecutive (suc n) [] h = (0, refl)
take-consecutive (suc n) (y ∷ xs) (x, e) =
    let first : y ≡ x = cc in
    let rest : xs ≡ range_with_len (x + 1) (length xs) = cc in
    (x, ap (λ z. z ∷ take n xs) first ∙ ap (λ ys. x ∷ ys) (front n xs x rest))
  where
    front : (n : ℕ) (xs : List ℕ) (x : ℕ) → xs ≡ range_with_len (x + 1) (length xs) → take n xs ≡ range_with_len (x + 1) (length (take n xs))
    front zero xs x e = refl
    front (suc n) [] x e = refl
    front (suc n) (y ∷ xs) x e =
        let first : y ≡ x + 1 = cc in
        let rest : xs ≡ range_with_len (x + 1 + 1) (length xs) = cc in
        ap (λ z. z ∷ take n xs) first ∙ ap (λ ys. (x + 1) ∷ ys) (front n xs (x + 1) rest)

drop-consecutive : (n : ℕ) (xs : List ℕ) → AreConsecutive xs → AreConsecutive (drop n xs)
drop-consecutive zero xs h = h
drop-consecutive (suc n) [] h = (0, refl)
drop-consecutive (suc n) (y ∷ xs) (x, e) =
    let rest : xs ≡ range_with_len (x + 1) (length xs) = cc in
    drop-consecutive n xs (x + 1, rest)

module _ (p : ℕ → PlacedNode) (own : (k : ℕ) → AreConsecutive (p k).data_out) where
  whole-row : (k : ℕ) (os : List ℕ) → AreConsecutive os → AreConsecutive (whole_places (p k).data_out os)
  whole-row k os h = of_choice (nat_eq (length (p k).data_out) (length os)) os (p k).data_out AreConsecutive (λ e. h) (λ e. own k)

  front-row : (l r : ℕ) (os : List ℕ) → AreConsecutive os → AreConsecutive (front_places (p l).data_out (p r).data_out os)
  front-row l r os h = of_choice (nat_eq (length (p l).data_out + length (p r).data_out) (length os)) (take (length (p l).data_out) os) (p l).data_out AreConsecutive (λ e. take-consecutive (length (p l).data_out) os h) (λ e. own l)

  back-row : (l r : ℕ) (os : List ℕ) → AreConsecutive os → AreConsecutive (back_places (p l).data_out (p r).data_out os)
  back-row l r os h = of_choice (nat_eq (length (p l).data_out + length (p r).data_out) (length os)) (drop (length (p l).data_out) os) (p r).data_out AreConsecutive (λ e. drop-consecutive (length (p l).data_out) os h) (λ e. own r)

  both-row : (l r k : ℕ) (os : List ℕ) → AreConsecutive os → AreConsecutive (of_part l k (front_places (p l).data_out (p r).data_out os) (back_places (p l).data_out (p r).data_out os))
  both-row l r k os h = of_choice (nat_eq k l) (front_places (p l).data_out (p r).data_out os) (back_places (p l).data_out (p r).data_out os) AreConsecutive (λ e. front-row l r os h) (λ e. back-row l r os h)

  part-row : (n : Node) (os : List ℕ) (k : ℕ) → AreConsecutive os → AreConsecutive (out_in p n os k)
  part-row (Both j l r) os k h = both-row l r k os h
  part-row (Phases Then l r) os k h = of_choice (nat_eq k l) (p l).data_out (whole_places (p r).data_out os) AreConsecutive (λ e. own l) (λ e. whole-row r os h)
  part-row (Phases AndThen l r) os k h = both-row l r k os h
  part-row (Phases Hence l r) os k h = both-row l r k os h
  part-row (Phases Before l r) os k h = both-row l r k os h
  part-row _ os k h = whole-row k os h

  handed-row : (a : Action) (m k : ℕ) → AreConsecutive (handed_at (out_in p) (λ j. (p j).data_out) a m k)
  handed-row a zero k = own k
  handed-row a (suc m) k = go (whole_of a k) (handed-row a m)
    where
      go : (o : Option ℕ) → ((j : ℕ) → AreConsecutive (handed_at (out_in p) (λ j. (p j).data_out) a m j)) → AreConsecutive (from_whole (out_in p) a (handed_at (out_in p) (λ j. (p j).data_out) a m) (p k).data_out k o)
      go None below = own k
      go (Some n) below = part-row (node_at a n) (handed_at (out_in p) (λ j. (p j).data_out) a m n) k (below n)

module _ (a : Action) (trees : HasTrees a) (t : MarkedTable) (fs : List Frame) (laid : IsLayout a t fs) (apart : All HasApartNodes fs) (ns : List PlacedNode) (by_number : AreByNumber a fs ns) where
  pub out-row : (k : ℕ) → out_of (place_at ns) a k ≡ in_row (get_or (out_of (place_at ns) a k) 0 0) (length (out_of (place_at ns) a k))
  out-row k = row-of (out_of (place_at ns) a k) (handed-row (place_at ns) (own-out a trees t fs laid apart ns by_number) a k k)
