-- The value of a numeral.
use Rattle.std.proofs.Common.{◌≡◌, ◌∙◌, ℕ, ◌≤◌, true, false, List, [], ◌∷◌, Some, None, refl, ap, arith}
use Rattle.std.specs.Prelude.{◌&&◌, ◌==◌, ◌^◌, ℤ, pos, nat_le, nat_lt, if◌then◌else◌, IsTrue}
use Rattle.std.specs.List.{list_all}
use Rattle.std.specs.Option.{option_map, option_and_then}
use Rattle.std.specs.Str.{all_ascii_digits}
use Rattle.std.proofs.lemmas.Bool.{and_parts, and_from, leb-true, ne_eqb}
use Rattle.acg_base.specs.Decimals.{number_of, spelled_i64, spelled_number, fits_i64}
use Rattle.acg_base.proofs.DecimalLemmas.{spelled_number-digits}
use Rattle.meta_lex.specs.Bytes.{is_digit}
use Rattle.source_lex.specs.Forms.{is_numeral}

digits : (bytes : List ℕ) → list_all is_digit bytes ≡ true → all_ascii_digits bytes ≡ true
digits [] h = refl
digits (b ∷ bytes) h =
    let p = and_parts (is_digit b) (list_all is_digit bytes) h in
    and_from _ (all_ascii_digits bytes) p.0 (digits bytes p.1)

-- what the bytes of a numeral spell
pub numeral-spells : (bytes : List ℕ) → is_numeral bytes ≡ true → spelled_i64 bytes ≡ (if nat_lt (number_of bytes) (2 ^ 63) then Some (pos (number_of bytes)) else None)
numeral-spells [] h = absurd (let r : false ≡ true = h in cc)
numeral-spells (b ∷ bytes) h =
    let all = digits (b ∷ bytes) h in
    let first = and_parts (is_digit b) (list_all is_digit bytes) h in
    let low : 48 ≤ b = leb-true 48 b (and_parts (nat_le 48 b) (nat_le b 57) first.0).0 in
    let no_minus : (b == 45) ≡ false = ne_eqb b 45 (λ e. omega (arith, e, low)) in
    let spelled : spelled_number (b ∷ bytes) ≡ Some (number_of (b ∷ bytes)) = spelled_number-digits (b ∷ bytes) (omega arith) all in
    ap (λ t. option_and_then (λ (z : ℤ). if fits_i64 z then Some z else None) (if t then option_map (λ n. Rattle.std.specs.Prelude.neg_ℤ (pos n)) (spelled_number bytes) else option_map pos (spelled_number (b ∷ bytes)))) no_minus
    ∙ ap (λ o. option_and_then (λ (z : ℤ). if fits_i64 z then Some z else None) (option_map pos o)) spelled
