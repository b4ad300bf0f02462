-- The part of a variable, by how many parts of the pattern stand before it.
use Rattle.std.proofs.Common.{◌≡◌, ◌∙◌, ℕ, zero, suc, ◌+◌, ◌<◌, Bool, true, false, List, [], ◌∷◌, length, drop, map, get_or, Some, None, option_to_list, refl, sym, ap, arith}
use Rattle.std.specs.Prelude.{if◌then◌else◌, slice_get, option_map}
use Rattle.std.specs.List.{list_any}
use Rattle.std.specs.Str.{bytes_eq}
use Rattle.meta_terms.specs.PlainItems.{PlainPatternPart, plain_pattern_part}
use Rattle.meta_terms.specs.declared.items.PatternPart.{PatternPart}
use Rattle.equation_expand.specs.Meaning.{Part, part_of}

none-left : (ps : List PlainPatternPart) (v : List ℕ) → part_of ps [] v ≡ None
none-left [] v = refl
none-left (p ∷ ps) v = refl

-- whether a part of a pattern has the variable
abbrev pub has : List ℕ → PlainPatternPart → Bool
has v p = list_any (bytes_eq v) (option_to_list p.variable)

part-here : (ps : List PlainPatternPart) (xs : List Part) (k : ℕ) (v : List ℕ) (p : PlainPatternPart) → slice_get ps k ≡ Some p → has v p ≡ true → part_of (drop k ps) (drop k xs) v ≡ slice_get xs k
part-here [] xs k v p e h = absurd (cc)
part-here (q ∷ ps) [] zero v p e h = refl
part-here (q ∷ ps) (x ∷ xs) zero v p e h = let same : q ≡ p = cc in ap (λ b. if b then Some x else part_of ps xs v) (ap (has v) same ∙ h)
part-here (q ∷ ps) [] (suc k) v p e h = none-left (drop k ps) v
part-here (q ∷ ps) (x ∷ xs) (suc k) v p e h = part-here ps xs k v p e h

part-later : (ps : List PlainPatternPart) (xs : List Part) (k : ℕ) (v : List ℕ) (p : PlainPatternPart) → slice_get ps k ≡ Some p → has v p ≡ false → part_of (drop k ps) (drop k xs) v ≡ part_of (drop (suc k) ps) (drop (suc k) xs) v
part-later [] xs k v p e h = absurd (cc)
part-later (q ∷ ps) [] zero v p e h = sym (none-left ps v)
part-later (q ∷ ps) (x ∷ xs) zero v p e h = let same : q ≡ p = cc in ap (λ b. if b then Some x else part_of ps xs v) (ap (has v) same ∙ h)
part-later (q ∷ ps) [] (suc k) v p e h = none-left (drop k ps) v ∙ sym (none-left (drop (suc k) ps) v)
part-later (q ∷ ps) (x ∷ xs) (suc k) v p e h = part-later ps xs k v p e h

pattern-at : (ps : List PatternPart) (k : ℕ) (d : PatternPart) → k < length ps → slice_get (map plain_pattern_part ps) k ≡ Some (plain_pattern_part (get_or ps k d))
pattern-at [] k d h = absurd (omega arith)
pattern-at (p ∷ ps) zero d h = refl
pattern-at (p ∷ ps) (suc k) d h = pattern-at ps k d (omega arith)

-- the part at the place has the variable
pub here : (ps : List PatternPart) (xs : List Part) (k : ℕ) (d : PatternPart) (v : List ℕ) → k < length ps → has v (plain_pattern_part (get_or ps k d)) ≡ true
    → part_of (drop k (map plain_pattern_part ps)) (drop k xs) v ≡ slice_get xs k
here ps xs k d v h e = part-here (map plain_pattern_part ps) xs k v (plain_pattern_part (get_or ps k d)) (pattern-at ps k d h) e

-- it has not
pub later : (ps : List PatternPart) (xs : List Part) (k : ℕ) (d : PatternPart) (v : List ℕ) → k < length ps → has v (plain_pattern_part (get_or ps k d)) ≡ false
    → part_of (drop k (map plain_pattern_part ps)) (drop k xs) v ≡ part_of (drop (k + 1) (map plain_pattern_part ps)) (drop (k + 1) xs) v
later ps xs k d v h e =
    let next : suc k ≡ k + 1 = omega arith in
    part-later (map plain_pattern_part ps) xs k v (plain_pattern_part (get_or ps k d)) (pattern-at ps k d h) e
    ∙ ap (λ n. part_of (drop n (map plain_pattern_part ps)) (drop n xs) v) next

-- none is left
pub at-end : (ps : List PatternPart) (xs : List Part) (k : ℕ) (v : List ℕ) → (k < length ps → ⊥) → part_of (drop k (map plain_pattern_part ps)) (drop k xs) v ≡ None
at-end [] xs zero v h = refl
at-end [] xs (suc k) v h = refl
at-end (p ∷ ps) xs zero v h = absurd (h (omega arith))
at-end (p ∷ ps) [] (suc k) v h = none-left (drop k (map plain_pattern_part ps)) v
at-end (p ∷ ps) (x ∷ xs) (suc k) v h = at-end ps xs k v (λ l. h (omega (arith, l)))

pub slice-mapped : {A B : Type 0} (f : A → B) (xs : List A) (k : ℕ) → option_map f (slice_get xs k) ≡ slice_get (map f xs) k
slice-mapped f [] k = refl
slice-mapped f (x ∷ xs) zero = refl
slice-mapped f (x ∷ xs) (suc k) = slice-mapped f xs k
