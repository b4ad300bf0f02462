-- What bytes spell: the decimal of an integer spells it, and `parse` reads exactly what is spelled.
use Rattle.std.proofs.Common.{◌≡◌, ℕ, zero, suc, ◌^◌, ◌<◌, ◌≤◌, ◌≤ℤ◌, ◌<ℤ◌, Bool, true, false, cond, ◌&&◌, eqb, List, ◌∷◌, length, Some, None, refl, arith, rules, nat_lt, ℤ, pos, negsuc, neg_ℤ, w64, FitsSigned}
use Rattle.std.specs.Prelude.{nat_abs}
use Rattle.std.specs.Option.{option_map, option_and_then}
use Rattle.std.specs.Str.{all_ascii_digits}
use Rattle.acg_base.specs.Decimals.{unsigned_decimal_of, decimal_of, number_of, spelled_number, spelled_i64, fits_i64}
use Rattle.acg_base.proofs.DecimalLemmas.{spelled_number-digits, spelled_integer-digits, spelled_number-unsigned_decimal_of, spelled_integer-unsigned_decimal_of}

-- one digit or more, and the number that they spell
pub record Spells (bytes : List ℕ) (number : ℕ) : Type 0 where
  pub some : 0 < length bytes
  pub digits : all_ascii_digits bytes ≡ true
  pub value : number ≡ number_of bytes

spelled_number-some : (bytes : List ℕ) (number : ℕ) → spelled_number bytes ≡ Some number → Spells bytes number
spelled_number-some bytes number h =
    elim (nat_lt 0 (length bytes)) as (λ t. nat_lt 0 (length bytes) ≡ t → cond (t && all_ascii_digits bytes) (Some (number_of bytes)) None ≡ Some number → Spells bytes number) [
      | false ↦ λ e k. cc
      | true ↦ λ e k. elim (all_ascii_digits bytes) as (λ t. all_ascii_digits bytes ≡ t → cond t (Some (number_of bytes)) None ≡ Some number → Spells bytes number)
          [ false ↦ λ d j. cc | true ↦ λ d j. record { some = search rules; digits = d; value = cc } ] refl k
    ] refl h

fits-minus : (number : ℕ) → number ≤ 2 ^ 63 → fits_i64 (neg_ℤ (pos number)) ≡ true
fits-minus zero h = refl
fits-minus (suc number) h = search rules

fits-minus-bound : (number : ℕ) → fits_i64 (neg_ℤ (pos number)) ≡ true → number ≤ 2 ^ 63
fits-minus-bound zero h = omega arith
fits-minus-bound (suc number) h = let small : number < 2 ^ 63 = search rules in omega arith

pub decimal_of-nonnegative : (integer : ℤ) → pos 0 ≤ℤ integer → decimal_of integer ≡ unsigned_decimal_of (nat_abs integer)
decimal_of-nonnegative (pos number) h = refl
decimal_of-nonnegative (negsuc number) h = absurd (search rules)

pub decimal_of-negative : (integer : ℤ) → integer <ℤ pos 0 → decimal_of integer ≡ 45 ∷ unsigned_decimal_of (nat_abs integer)
decimal_of-negative (pos number) h = absurd (search rules)
decimal_of-negative (negsuc number) h = refl

-- the decimal of an integer of 64 signed bits spells it
pub spelled_i64-decimal_of : (integer : ℤ) → FitsSigned w64 integer → spelled_i64 (decimal_of integer) ≡ Some integer
spelled_i64-decimal_of (pos number) fits =
    let small : number < 2 ^ 63 = fits.sfits in
    let test : nat_lt number (2 ^ 63) ≡ true = search rules in
    rw (spelled_integer-unsigned_decimal_of number (omega arith), test) refl
spelled_i64-decimal_of (negsuc number) fits =
    let small : number < 2 ^ 63 = fits.sfits in
    let test : nat_lt number (2 ^ 63) ≡ true = search rules in
    rw (spelled_number-unsigned_decimal_of (suc number) (omega arith), test) refl

some-of : (t : Bool) (x y : ℤ) → cond t (Some x) None ≡ Some y → (t ≡ true) × (x ≡ y)
some-of true x y h = (refl, cc)
some-of false x y h = cc

-- bytes that spell an integer of 64 signed bits behind a minus
pub spelled_i64-minus : (bytes : List ℕ) (integer : ℤ) → spelled_i64 (45 ∷ bytes) ≡ Some integer → (number : ℕ) × Spells bytes number × (number ≤ 2 ^ 63)
spelled_i64-minus bytes integer h =
    elim (spelled_number bytes) as (λ o. spelled_number bytes ≡ o → option_and_then (λ z. cond (fits_i64 z) (Some z) None) (option_map (λ n. neg_ℤ (pos n)) o) ≡ Some integer → (number : ℕ) × Spells bytes number × (number ≤ 2 ^ 63)) [
      | None ↦ λ e k. cc
      | Some number ↦ λ e k. (number, spelled_number-some bytes number e, fits-minus-bound number ((some-of (fits_i64 (neg_ℤ (pos number))) (neg_ℤ (pos number)) integer k).0))
    ] refl h

-- bytes that spell one with no minus
pub spelled_i64-plain : (byte : ℕ) (bytes : List ℕ) (integer : ℤ) → eqb byte 45 ≡ false → spelled_i64 (byte ∷ bytes) ≡ Some integer → (number : ℕ) × Spells (byte ∷ bytes) number × (number < 2 ^ 63)
spelled_i64-plain byte bytes integer apart h =
    let h2 : option_and_then (λ z. cond (fits_i64 z) (Some z) None) (option_map pos (spelled_number (byte ∷ bytes))) ≡ Some integer = rw apart at h in
    elim (spelled_number (byte ∷ bytes)) as (λ o. spelled_number (byte ∷ bytes) ≡ o → option_and_then (λ z. cond (fits_i64 z) (Some z) None) (option_map pos o) ≡ Some integer → (number : ℕ) × Spells (byte ∷ bytes) number × (number < 2 ^ 63)) [
      | None ↦ λ e k. cc
      | Some number ↦ λ e k. (number, spelled_number-some (byte ∷ bytes) number e, (let test : nat_lt number (2 ^ 63) ≡ true = (some-of (fits_i64 (pos number)) (pos number) integer k).0 in search rules))
    ] refl h2

pub spelled_i64-minus_of : (bytes : List ℕ) → all_ascii_digits bytes ≡ true → 0 < length bytes → number_of bytes ≤ 2 ^ 63 → spelled_i64 (45 ∷ bytes) ≡ Some (neg_ℤ (pos (number_of bytes)))
spelled_i64-minus_of bytes digits some fits = rw (spelled_number-digits bytes some digits, fits-minus (number_of bytes) fits) refl

pub spelled_i64-plain_of : (byte : ℕ) (bytes : List ℕ) → eqb byte 45 ≡ false → all_ascii_digits (byte ∷ bytes) ≡ true → number_of (byte ∷ bytes) < 2 ^ 63 → spelled_i64 (byte ∷ bytes) ≡ Some (pos (number_of (byte ∷ bytes)))
spelled_i64-plain_of byte bytes apart digits fits =
    let test : nat_lt (number_of (byte ∷ bytes)) (2 ^ 63) ≡ true = search rules in
    rw (spelled_integer-digits (byte ∷ bytes) (omega arith) digits, test) refl
