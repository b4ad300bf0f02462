-- The place of a function among those that are declared.
use Rattle.std.proofs.Common.{◌≡◌, ◌∙◌, ℕ, zero, suc, ◌+◌, ◌<◌, true, false, not, List, [], ◌∷◌, length, drop, get_or, map, refl, ap, arith}
use Rattle.std.specs.Prelude.{if◌then◌else◌}
use Rattle.std.specs.List.{position_or_len}
use Rattle.std.specs.Str.{bytes_eq}
use Rattle.meta_terms.specs.declared.items.Declaration.{Declaration}
use Rattle.meta_terms.specs.PlainItems.{PlainDeclaration, plain_declaration}

abbrev pub name_of : Declaration → List ℕ
name_of f = f.function.now

-- the declaration at the place is of the function
pub at-name : (f : List ℕ) (list : List Declaration) (k : ℕ) (d : Declaration) → k < length list → bytes_eq f (get_or list k d).function.now ≡ true → position_or_len (bytes_eq f) (map name_of (drop k list)) ≡ 0
at-name f [] k d h e = absurd (omega arith)
at-name f (x ∷ list) zero d h e = ap (λ b. if not b then 1 + position_or_len (bytes_eq f) (map name_of list) else 0) e
at-name f (x ∷ list) (suc k) d h e = at-name f list k d (omega (arith, h)) e

-- it isn't
pub past-name : (f : List ℕ) (list : List Declaration) (k : ℕ) (d : Declaration) → k < length list → bytes_eq f (get_or list k d).function.now ≡ false
    → position_or_len (bytes_eq f) (map name_of (drop k list)) ≡ 1 + position_or_len (bytes_eq f) (map name_of (drop (k + 1) list))
past-name f [] k d h e = absurd (omega arith)
past-name f (x ∷ list) zero d h e = ap (λ b. if not b then 1 + position_or_len (bytes_eq f) (map name_of list) else 0) e
past-name f (x ∷ list) (suc k) d h e =
    let same : suc (k + 1) ≡ suc k + 1 = omega arith in
    past-name f list k d (omega (arith, h)) e ∙ ap (λ n. 1 + position_or_len (bytes_eq f) (map name_of (drop n (x ∷ list)))) same

-- the same outside the arena
pub names-plain : (list : List Declaration) → map name_of list ≡ map (λ (f : PlainDeclaration). f.function) (map plain_declaration list)
names-plain [] = refl
names-plain (x ∷ list) = ap (λ ns. x.function.now ∷ ns) (names-plain list)
