-- Sets by inclusion: the union is the least set above two, and the operations are monotone.
use Rattle.std.proofs.Common.{Bool, List, [], false, not, refl, true, ℕ, ◌∷◌, ◌≡◌}
use Rattle.std.proofs.lemmas.Bool.{and_from}
use Rattle.action_terms.specs.Performances.{Here, OneOf}
use Rattle.action_terms.specs.declared.kinds.Sort.TheVariants as sort
use Rattle.action_terms.specs.declared.kinds.Sort.{Sort}
use Rattle.sort_rules.specs.Numbers.{is_none}
use Rattle.sort_rules.specs.Sets.{ACell, AClosure, ATruth, AnInteger, Atom, Has, IsSubset, Set, inside, is_empty, outside, set_union}
use Rattle.sort_rules.proofs.Choices.{both_left, both_right, either, or_from, or_left, or_right}
use Rattle.sort_rules.proofs.NumberLists.{merged_from, merged_left, merged_right}

pub subset_refl : {x : Set} → IsSubset x x
subset_refl = record { each = λ a h. h }

pub subset_trans : {x y z : Set} → IsSubset x y → IsSubset y z → IsSubset x z
subset_trans f g = record { each = λ a h. g.each a (f.each a h) }

pub union_left : {x : Set} (y : Set) → IsSubset x (set_union x y)
union_left {x} y = record { each = go }
  where
    go : (a : Atom) → Has x a → Has (set_union x y) a
    go AnInteger h = or_left x.integer y.integer h
    go ATruth h = or_left x.truth y.truth h
    go (ACell k) h = merged_left x.cells y.cells k h
    go (AClosure k) h = merged_left x.abstractions y.abstractions k h

pub union_right : (x : Set) {y : Set} → IsSubset y (set_union x y)
union_right x {y} = record { each = go }
  where
    go : (a : Atom) → Has y a → Has (set_union x y) a
    go AnInteger h = or_right x.integer y.integer h
    go ATruth h = or_right x.truth y.truth h
    go (ACell k) h = merged_right x.cells y.cells k h
    go (AClosure k) h = merged_right x.abstractions y.abstractions k h

pub union_least : {x y z : Set} → IsSubset x z → IsSubset y z → IsSubset (set_union x y) z
union_least {x} {y} {z} f g = record { each = go }
  where
    go : (a : Atom) → Has (set_union x y) a → Has z a
    go AnInteger h = either (f.each AnInteger) (g.each AnInteger) (or_from x.integer y.integer h)
    go ATruth h = either (f.each ATruth) (g.each ATruth) (or_from x.truth y.truth h)
    go (ACell k) h = either (f.each (ACell k)) (g.each (ACell k)) (merged_from x.cells y.cells k h)
    go (AClosure k) h = either (f.each (AClosure k)) (g.each (AClosure k)) (merged_from x.abstractions y.abstractions k h)

pub inside_mono : {x y : Set} (s : Sort) → IsSubset x y → IsSubset (inside s x) (inside s y)
inside_mono {x} {y} s f = record { each = go s }
  where
    nothing : {A : Type 0} → false ≡ true → A
    nothing h = absurd (cc)

    go : (s : Sort) (a : Atom) → Has (inside s x) a → Has (inside s y) a
    go sort.Integer AnInteger h = f.each AnInteger h
    go sort.Integer ATruth h = nothing h
    go sort.Integer (ACell k) h = elim h [ ]
    go sort.Integer (AClosure k) h = elim h [ ]
    go sort.Truth AnInteger h = nothing h
    go sort.Truth ATruth h = f.each ATruth h
    go sort.Truth (ACell k) h = elim h [ ]
    go sort.Truth (AClosure k) h = elim h [ ]
    go sort.Cell AnInteger h = nothing h
    go sort.Cell ATruth h = nothing h
    go sort.Cell (ACell k) h = f.each (ACell k) h
    go sort.Cell (AClosure k) h = elim h [ ]
    go sort.Abstraction AnInteger h = nothing h
    go sort.Abstraction ATruth h = nothing h
    go sort.Abstraction (ACell k) h = elim h [ ]
    go sort.Abstraction (AClosure k) h = f.each (AClosure k) h

-- ---- empty sets
not_true : (b : Bool) → not b ≡ true → b ≡ true → ⊥
not_true true h g = cc
not_true false h g = cc

is_not : (b : Bool) → (b ≡ true → ⊥) → not b ≡ true
is_not true h = absurd (h refl)
is_not false h = refl

nil_has : (xs : List ℕ) → is_none xs ≡ true → (k : ℕ) → OneOf k xs → ⊥
nil_has [] h k g = elim g [ ]
nil_has (x ∷ xs) h k g = cc

is_nil_of : (xs : List ℕ) → ((k : ℕ) → OneOf k xs → ⊥) → is_none xs ≡ true
is_nil_of [] h = refl
is_nil_of (x ∷ xs) h = absurd (h x Here)

pub empty_has : (x : Set) → is_empty x ≡ true → (a : Atom) → Has x a → ⊥
empty_has x h AnInteger g = not_true x.integer (both_left _ _ h) g
empty_has x h ATruth g = not_true x.truth (both_left _ _ (both_right (not x.integer) _ h)) g
empty_has x h (ACell k) g = nil_has x.cells (both_left _ _ (both_right (not x.truth) _ (both_right (not x.integer) _ h))) k g
empty_has x h (AClosure k) g = nil_has x.abstractions (both_right (is_none x.cells) _ (both_right (not x.truth) _ (both_right (not x.integer) _ h))) k g

has_none : (x : Set) → ((a : Atom) → Has x a → ⊥) → is_empty x ≡ true
has_none x h = and_from _ _ (is_not x.integer (h AnInteger)) (and_from _ _ (is_not x.truth (h ATruth)) (and_from _ _ (is_nil_of x.cells (λ k. h (ACell k))) (is_nil_of x.abstractions (λ k. h (AClosure k)))))

pub empty_mono : {x y : Set} → IsSubset x y → is_empty y ≡ true → is_empty x ≡ true
empty_mono {x} {y} f h = has_none x (λ a g. empty_has y h a (f.each a g))

pub outside_mono : (s : Sort) {x y : Set} → IsSubset x y → IsSubset (outside s x) (outside s y)
outside_mono s {x} {y} f = record { each = go s }
  where
    no : {A : Type 0} → false ≡ true → A
    no h = absurd {0} (cc)

    go : (s : Sort) (a : Atom) → Has (outside s x) a → Has (outside s y) a
    go sort.Integer AnInteger h = no h
    go sort.Integer ATruth h = f.each ATruth h
    go sort.Integer (ACell k) h = f.each (ACell k) h
    go sort.Integer (AClosure k) h = f.each (AClosure k) h
    go sort.Truth AnInteger h = f.each AnInteger h
    go sort.Truth ATruth h = no h
    go sort.Truth (ACell k) h = f.each (ACell k) h
    go sort.Truth (AClosure k) h = f.each (AClosure k) h
    go sort.Cell AnInteger h = f.each AnInteger h
    go sort.Cell ATruth h = f.each ATruth h
    go sort.Cell (ACell k) h = elim h [ ]
    go sort.Cell (AClosure k) h = f.each (AClosure k) h
    go sort.Abstraction AnInteger h = f.each AnInteger h
    go sort.Abstraction ATruth h = f.each ATruth h
    go sort.Abstraction (ACell k) h = f.each (ACell k) h
    go sort.Abstraction (AClosure k) h = elim h [ ]
