-- The decimal of a number: its recursion, its length, and that its digits spell the number.
use Rattle.std.proofs.Common.{◌≡◌, ℕ, zero, suc, ◌+◌, ◌/◌, ◌%◌, ◌^◌, ◌<◌, ◌≤◌, true, false, eqb, List, [], ◌∷◌, ◌++◌, length, Some, refl, ap, ◌∙◌, arith, rules, length-append, lit<, nat_lt, pos}
use Rattle.std.specs.Fmt.{decimal}
use Rattle.std.specs.Str.{all_ascii_digits}
use Rattle.std.proofs.lemmas.Fmt.{AppendsLastDigit, decimal_from_appends, length-decimal-le_succ, length-decimal-le, decimal_nonempty, digits_decimal, digits_value-decimal}
use Rattle.std.proofs.lemmas.Str.Parse.{IsNumeralModel, numerals_by_weight, tells_all_ascii_digits}
use Rattle.acg_base.specs.Decimals.{decimal_within, unsigned_decimal_of, number_of, spelled_number, spelled_integer}

decimal_within-digit : (places number : ℕ) → number < 10 → decimal_within (suc places) number ≡ (48 + number) ∷ []
unfolding decimal_within
decimal_within-digit places number small =
    let test : nat_lt number 10 ≡ true = search rules in rw (test, decimal_within) refl

decimal_within-step : (places number : ℕ) → 10 ≤ number → decimal_within (suc places) number ≡ decimal_within places (number / 10) ++ (48 + number % 10) ∷ []
unfolding decimal_within
decimal_within-step places number large =
    let test : nat_lt number 10 ≡ false = search rules in rw (test, decimal_within) refl

-- the definition puts the last digit last, as the library's `decimal` does
within_appends : AppendsLastDigit decimal_within
within_appends = record { one = decimal_within-digit; more = decimal_within-step }

-- places to spare change nothing
decimal_within-spare : (more less number : ℕ) → number < more → number < less → decimal_within more number ≡ decimal_within less number
decimal_within-spare zero less number h k = absurd (omega arith)
decimal_within-spare (suc more) zero number h k = absurd (omega arith)
decimal_within-spare (suc more) (suc less) number h k =
    elim (nat_lt number 10) as (λ t. nat_lt number 10 ≡ t → decimal_within (suc more) number ≡ decimal_within (suc less) number) [
      | true ↦ λ e. let small : number < 10 = search rules in rw (decimal_within-digit more number small, decimal_within-digit less number small) refl
      | false ↦ λ e. let large : 10 ≤ number = search rules in
          let same : decimal_within more (number / 10) ≡ decimal_within less (number / 10) = decimal_within-spare more less (number / 10) (omega arith) (omega arith) in
          rw (decimal_within-step more number large, decimal_within-step less number large, same) refl
    ] refl

-- the recursion of the decimal: a number below ten is its one digit
pub unsigned_decimal_of-digit : (number : ℕ) → number < 10 → unsigned_decimal_of number ≡ (48 + number) ∷ []
unfolding unsigned_decimal_of
unsigned_decimal_of-digit number small = decimal_within-digit number number small

-- and every other is the decimal of its tenth with its last digit behind it
pub unsigned_decimal_of-step : (number : ℕ) → 10 ≤ number → unsigned_decimal_of number ≡ unsigned_decimal_of (number / 10) ++ (48 + number % 10) ∷ []
unfolding unsigned_decimal_of
unsigned_decimal_of-step number large =
    let same : decimal_within number (number / 10) ≡ decimal_within (suc (number / 10)) (number / 10) = decimal_within-spare number (suc (number / 10)) (number / 10) (omega arith) (omega arith) in
    rw (decimal_within-step number number large, same) refl

pub length-unsigned_decimal_of-digit : (number : ℕ) → number < 10 → length (unsigned_decimal_of number) ≡ 1
length-unsigned_decimal_of-digit number small = ap length (unsigned_decimal_of-digit number small)

pub length-unsigned_decimal_of-step : (number : ℕ) → 10 ≤ number → length (unsigned_decimal_of number) ≡ length (unsigned_decimal_of (number / 10)) + 1
length-unsigned_decimal_of-step number large =
    ap length (unsigned_decimal_of-step number large) ∙ length-append (unsigned_decimal_of (number / 10)) ((48 + number % 10) ∷ [])

-- of 64 bits it is the library's text
unsigned_decimal_of-decimal : (number : ℕ) → number < 2 ^ 64 → unsigned_decimal_of number ≡ decimal number
unfolding unsigned_decimal_of
unsigned_decimal_of-decimal number small =
    decimal_from_appends decimal_within within_appends (suc number) number small (omega (arith, length-decimal-le_succ number small))

-- the words of this crate for digits and their number
pub spelling : IsNumeralModel (λ ds. all_ascii_digits ds ≡ true) number_of
spelling = numerals_by_weight _ tells_all_ascii_digits number_of (search rules)

pub length-unsigned_decimal_of : (number : ℕ) → number < 2 ^ 64 → length (unsigned_decimal_of number) ≤ 20
length-unsigned_decimal_of number small =
    rw (unsigned_decimal_of-decimal number small) (length-decimal-le 20 number (lit< tt) (omega arith) small)

pub length-unsigned_decimal_of-half : (number : ℕ) → number ≤ 2 ^ 63 → length (unsigned_decimal_of number) ≤ 19
length-unsigned_decimal_of-half number small =
    let below : number < 2 ^ 64 = omega arith in
    rw (unsigned_decimal_of-decimal number below) (length-decimal-le 19 number (lit< tt) (omega arith) below)

unsigned_decimal_of-digits : (number : ℕ) → number < 2 ^ 64 → all_ascii_digits (unsigned_decimal_of number) ≡ true
unsigned_decimal_of-digits number small =
    rw (unsigned_decimal_of-decimal number small) (digits_decimal spelling number small)

number_of-unsigned_decimal_of : (number : ℕ) → number < 2 ^ 64 → number_of (unsigned_decimal_of number) ≡ number
number_of-unsigned_decimal_of number small =
    rw (unsigned_decimal_of-decimal number small) (digits_value-decimal spelling number small)

unsigned_decimal_of-nonempty : (number : ℕ) → number < 2 ^ 64 → 0 < length (unsigned_decimal_of number)
unsigned_decimal_of-nonempty number small =
    rw (unsigned_decimal_of-decimal number small) (decimal_nonempty number small)

pub spelled_number-digits : (bytes : List ℕ) → 0 < length bytes → all_ascii_digits bytes ≡ true → spelled_number bytes ≡ Some (number_of bytes)
spelled_number-digits bytes some digits =
    let test : nat_lt 0 (length bytes) ≡ true = search rules in rw (test, digits) refl

pub spelled_integer-digits : (bytes : List ℕ) → 0 < length bytes → all_ascii_digits bytes ≡ true → spelled_integer bytes ≡ Some (pos (number_of bytes))
spelled_integer-digits [] some digits = absurd (omega arith)
spelled_integer-digits (byte ∷ bytes) some digits =
    let apart : eqb byte 45 ≡ false = grind arith in
    rw (apart, spelled_number-digits (byte ∷ bytes) some digits) refl

-- the decimal of an unsigned number spells it
pub spelled_number-unsigned_decimal_of : (number : ℕ) → number < 2 ^ 64 → spelled_number (unsigned_decimal_of number) ≡ Some number
spelled_number-unsigned_decimal_of number small =
    spelled_number-digits _ (unsigned_decimal_of-nonempty number small) (unsigned_decimal_of-digits number small)
    ∙ ap Some (number_of-unsigned_decimal_of number small)

pub spelled_integer-unsigned_decimal_of : (number : ℕ) → number < 2 ^ 64 → spelled_integer (unsigned_decimal_of number) ≡ Some (pos number)
spelled_integer-unsigned_decimal_of number small =
    spelled_integer-digits _ (unsigned_decimal_of-nonempty number small) (unsigned_decimal_of-digits number small)
    ∙ ap (λ value. Some (pos value)) (number_of-unsigned_decimal_of number small)

pub ruleset decimals = (length-unsigned_decimal_of-digit, length-unsigned_decimal_of-step, unsigned_decimal_of-digit, unsigned_decimal_of-step, length-unsigned_decimal_of, length-unsigned_decimal_of-half, spelled_number-unsigned_decimal_of)
