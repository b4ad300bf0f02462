-- How the nodes of a procedure are placed, one after the other.
use Rattle.std.proofs.Common.{◌≡◌, ℕ, ◌+◌, ◌*◌, ◌<◌, ◌≤◌, Bool, true, false, List, [], ◌∷◌, ◌++◌, length, get_or, drop, refl, sym, ap, ◌∙◌, arith, append_assoc, length-drop}
use Rattle.std.specs.Prelude.{nat_eq, if◌then◌else◌}
use Rattle.std.proofs.lemmas.List.{append-nil, drop_more}
use Rattle.sort_rules.specs.Tables.{MarkedTable}
use Rattle.frame_layout.specs.declared.lengths.Lengths.{Lengths}
use Rattle.frame_layout.specs.Places.{Frame, PlacedNode}
use Rattle.frame_layout.specs.Placing.{AreLengths, end_words, entry_end, entry_words, out_end, out_words, placed_all, placed_at, placed_frame, rest_end, rest_words}
use Rattle.frame_layout.proofs.Placed.{placed-ends}

-- what some nodes complete with stands one behind the other from any word on
pub out_end-from : (t : MarkedTable) (x y : ℕ) (ks : List ℕ) → out_end t (x + y) ks ≡ x + out_end t y ks
out_end-from t x y [] = refl
out_end-from t x y (k ∷ ks) =
    let more : x + y + out_words t k ≡ x + (y + out_words t k) = omega arith in
    ap (λ (n : ℕ). out_end t n ks) more ∙ out_end-from t x (y + out_words t k) ks

pub rest_words-most : (t : MarkedTable) (c k : ℕ) → rest_words t c k ≤ entry_words t k + end_words t k
rest_words-most t c k = go (nat_eq k c)
  where
    go : (b : Bool) → (if b then end_words t k else entry_words t k + end_words t k) ≤ entry_words t k + end_words t k
    go true = omega arith
    go false = omega arith

-- the first i nodes are placed
pub record ArePlacedSo (t : MarkedTable) (front c : ℕ) (ks : List ℕ) (i out rest : ℕ) (places : List PlacedNode) : Type 0 where
  pub low : out ≤ 160 + 64 * i
  pub high : rest ≤ 160 + 64 * length ks + 264 * i
  pub places_are : places ++ placed_all t front c out rest (drop i ks) ≡ placed_all t front c (entry_end t front c) (out_end t (entry_end t front c) ks) ks
  pub ends : rest_end t c rest (drop i ks) ≡ rest_end t c (out_end t (entry_end t front c) ks) ks

pub placing-none : (t : MarkedTable) (front c : ℕ) (ks : List ℕ) (l : Lengths) (words : ℕ) → front ≤ 32 → AreLengths t c l → words ≡ out_end t 0 ks → words ≤ 64 * length ks
    → ArePlacedSo t front c ks 0 (front + l.g + l.h) (front + l.g + l.h + words) []
placing-none t front c ks l words low are e few =
    let start : front + l.g + l.h ≡ entry_end t front c = omega (arith, are.data_in, are.binds_in) in
    let zero_more : entry_end t front c + 0 ≡ entry_end t front c = omega arith in
    let whole : front + l.g + l.h + words ≡ out_end t (entry_end t front c) ks =
    omega (arith, start, e, out_end-from t (entry_end t front c) 0 ks, ap (λ (n : ℕ). out_end t n ks) zero_more) in
    record {
      low = omega (arith, low, l.few);
      high = omega (arith, low, l.few, few);
      places_are = ap (λ (x : ℕ). placed_all t front c x (front + l.g + l.h + words) ks) start ∙ ap (λ (x : ℕ). placed_all t front c (entry_end t front c) x ks) whole;
      ends = ap (λ (x : ℕ). rest_end t c x ks) whole;
    }

pub placing-more : (t : MarkedTable) (front c : ℕ) (ks : List ℕ) (i out rest : ℕ) (places : List PlacedNode) (l : Lengths) (n : PlacedNode) → i < length ks → AreLengths t (get_or ks i 0) l → n ≡ placed_at t front c out rest (get_or ks i 0)
    → ArePlacedSo t front c ks i out rest places → ArePlacedSo t front c ks (i + 1) (out + l.o) (n.keep + 8) (places ++ n ∷ [])
placing-more t front c ks i out rest places l n less are e h =
    let k : ℕ = get_or ks i 0 in
    let left = drop_more ks i 0 less in
    let next : n.keep + 8 ≡ rest + rest_words t c k = ap (λ (m : PlacedNode). m.keep + 8) e ∙ placed-ends t front c out rest k in
    let outs : out + l.o ≡ out + out_words t k = omega (arith, are.data_out) in
    let few = l.few in
    let most : rest_words t c k ≤ 264 = omega (arith, rest_words-most t c k, are.data_in, are.binds_in, are.binds_out, are.escaped, few) in
    let after : placed_all t front c (out + l.o) (n.keep + 8) (drop (i + 1) ks) ≡ placed_all t front c (out + out_words t k) (rest + rest_words t c k) (drop (i + 1) ks)
    = ap (λ (x : ℕ). placed_all t front c x (n.keep + 8) (drop (i + 1) ks)) outs ∙ ap (λ (x : ℕ). placed_all t front c (out + out_words t k) x (drop (i + 1) ks)) next in
    record {
      low = omega (arith, h.low, few);
      high = omega (arith, h.high, next, most);
      places_are = append_assoc places (n ∷ []) (placed_all t front c (out + l.o) (n.keep + 8) (drop (i + 1) ks))
          ∙ ap (λ (ns : List PlacedNode). places ++ n ∷ ns) after
          ∙ ap (λ (m : PlacedNode). places ++ m ∷ placed_all t front c (out + out_words t k) (rest + rest_words t c k) (drop (i + 1) ks)) e
          ∙ ap (λ (js : List ℕ). places ++ placed_all t front c out rest js) (sym left)
          ∙ h.places_are;
      ends = ap (λ (x : ℕ). rest_end t c x (drop (i + 1) ks)) next ∙ ap (rest_end t c rest) (sym left) ∙ h.ends;
    }

abbrev frame : ℕ → ℕ → List PlacedNode → Frame
frame c x ns = record { root = c; words = x; nodes = ns }

-- all nodes are placed
pub placing-all : (t : MarkedTable) (front c : ℕ) (ks : List ℕ) (i out rest : ℕ) (places : List PlacedNode) → length ks ≤ i → ArePlacedSo t front c ks i out rest places → record { root = c; words = rest; nodes = places } ≡ placed_frame t front c ks
placing-all t front c ks i out rest places all h =
    let none : drop i ks ≡ [] = empty (drop i ks) (omega (arith, length-drop i ks)) in
    let ends : rest ≡ rest_end t c (out_end t (entry_end t front c) ks) ks = sym (ap (rest_end t c rest) none) ∙ h.ends in
    let nodes : places ≡ placed_all t front c (entry_end t front c) (out_end t (entry_end t front c) ks) ks = sym (append-nil places) ∙ sym (ap (λ (js : List ℕ). places ++ placed_all t front c out rest js) none) ∙ h.places_are in
    let first : frame c rest places ≡ frame c (rest_end t c (out_end t (entry_end t front c) ks) ks) places = ap (λ (x : ℕ). frame c x places) ends in
    first ∙ ap (frame c (rest_end t c (out_end t (entry_end t front c) ks) ks)) nodes
  where
    empty : (js : List ℕ) → length js ≤ 0 → js ≡ []
    empty [] h = refl
    empty (j ∷ js) h = absurd (omega arith)
