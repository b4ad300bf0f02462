-- `parse` reads exactly the integers that bytes spell with no plus.
use Rattle.std.proofs.Common.{◌≡◌, ◌≢◌, ℕ, zero, suc, ◌<◌, ◌≤◌, ◌^◌, true, false, eqb, List, [], ◌∷◌, length, get_or, Some, None, Ok, Err, Result, refl, sym, ap, ◌∙◌, arith, rules, ℤ, pos, neg_ℤ, w64}
use Rattle.std.specs.Result.{result_ok, OkIff}
use Rattle.std.specs.Str.{all_ascii_digits, IsUtf8, IsAscii}
use Rattle.std.specs.Str.Parse.{ParsesSigned}
use Rattle.std.proofs.lemmas.Str.{IsUtf8-from_ascii}
use Rattle.std.proofs.lemmas.Str.Ascii.{IsAscii-nil}
use Rattle.std.proofs.lemmas.Fmt.{IsAscii-from_digits}
use Rattle.std.proofs.lemmas.Str.Parse.{parse_signed_minus, parse_signed_plain}
use Rattle.acg_base.specs.Decimals.{number_of, spelled_i64}
use Rattle.acg_base.proofs.DecimalLemmas.{spelling}
use Rattle.acg_base.proofs.SpellingLemmas.{spelled_i64-minus, spelled_i64-plain, spelled_i64-minus_of, spelled_i64-plain_of}

-- nothing is spelled where a spelled integer would be absurd
spells_nothing : (bytes : List ℕ) → ((integer : ℤ) → spelled_i64 bytes ≡ Some integer → ⊥) → None ≡ spelled_i64 bytes
spells_nothing bytes none =
    elim (spelled_i64 bytes) as (λ o. spelled_i64 bytes ≡ o → None ≡ o) [ None ↦ λ e. refl | Some integer ↦ λ e. absurd (none integer e) ] refl

from_minus : {E : Type 0} (bytes : List ℕ) (r : Result ℤ E) → ParsesSigned w64 10 (45 ∷ bytes) r → result_ok r ≡ spelled_i64 (45 ∷ bytes)
from_minus {E} bytes r h =
    elim r as (λ (q : Result ℤ E). OkIff q ((all_ascii_digits bytes ≡ true) × (0 < length bytes) × (number_of bytes ≤ 2 ^ 63)) (neg_ℤ (pos (number_of bytes))) → result_ok q ≡ spelled_i64 (45 ∷ bytes)) [
      | Ok x ↦ λ o. ap Some o.1 ∙ sym (spelled_i64-minus_of bytes o.0.0 o.0.1 o.0.2)
      | Err e ↦ λ o. spells_nothing (45 ∷ bytes) (λ integer s. let p = spelled_i64-minus bytes integer s in o (p.1.digits, p.1.some, rw (sym p.1.value) p.2))
    ]
    (parse_signed_minus spelling w64 (45 ∷ bytes) r h refl)

from_plain : {E : Type 0} (byte : ℕ) (bytes : List ℕ) (r : Result ℤ E) → ParsesSigned w64 10 (byte ∷ bytes) r → byte ≢ 43 → byte ≢ 45 → eqb byte 45 ≡ false → result_ok r ≡ spelled_i64 (byte ∷ bytes)
from_plain {E} byte bytes r h plus minus apart =
    elim r as (λ (q : Result ℤ E). OkIff q ((all_ascii_digits (byte ∷ bytes) ≡ true) × (0 < length (byte ∷ bytes)) × (number_of (byte ∷ bytes) < 2 ^ 63)) (pos (number_of (byte ∷ bytes))) → result_ok q ≡ spelled_i64 (byte ∷ bytes)) [
      | Ok x ↦ λ o. ap Some o.1 ∙ sym (spelled_i64-plain_of byte bytes apart o.0.0 o.0.2)
      | Err e ↦ λ o. spells_nothing (byte ∷ bytes) (λ integer s. let p = spelled_i64-plain byte bytes integer apart s in o (p.1.digits, p.1.some, rw (sym p.1.value) p.2))
    ]
    (parse_signed_plain spelling w64 (byte ∷ bytes) r h plus minus)

from_nothing : {E : Type 0} (r : Result ℤ E) → ParsesSigned w64 10 [] r → result_ok r ≡ None
from_nothing {E} r h =
    elim r as (λ (q : Result ℤ E). OkIff q ((all_ascii_digits [] ≡ true) × (0 < length {A = ℕ} []) × (number_of [] < 2 ^ 63)) (pos (number_of [])) → result_ok q ≡ None)
    [ Ok x ↦ λ o. absurd (let none : 0 < 0 = o.0.1 in omega arith) | Err e ↦ λ o. refl ]
    (parse_signed_plain spelling w64 [] r h (omega arith) (omega arith))

pub spelled_i64-from_parse : {E : Type 0} (bytes : List ℕ) (r : Result ℤ E) → ParsesSigned w64 10 bytes r → get_or bytes 0 0 ≢ 43 → result_ok r ≡ spelled_i64 bytes
spelled_i64-from_parse [] r h plus = from_nothing r h
spelled_i64-from_parse {E} (byte ∷ bytes) r h plus =
    elim (eqb byte 45) as (λ t. eqb byte 45 ≡ t → result_ok r ≡ spelled_i64 (byte ∷ bytes)) [
      | true ↦ λ e. let is : byte ≡ 45 = search rules in rw is (from_minus bytes r (rw is at h))
      | false ↦ λ e. from_plain byte bytes r h plus (let apart : byte ≢ 45 = search rules in apart) e
    ] refl

ascii-cons : (byte : ℕ) (bytes : List ℕ) → byte < 128 → IsAscii bytes → IsAscii (byte ∷ bytes)
ascii-cons byte bytes small rest zero = small
ascii-cons byte bytes small rest (suc i) = rest i

-- bytes that spell an integer are ASCII
spelled_ascii : (bytes : List ℕ) (integer : ℤ) → spelled_i64 bytes ≡ Some integer → IsAscii bytes
spelled_ascii [] integer s = IsAscii-nil
spelled_ascii (byte ∷ bytes) integer s =
    elim (eqb byte 45) as (λ t. eqb byte 45 ≡ t → IsAscii (byte ∷ bytes)) [
      | true ↦ λ e. let is : byte ≡ 45 = search rules in
          let p = spelled_i64-minus bytes integer (rw is at s) in
          let digits : IsAscii bytes = IsAscii-from_digits bytes (spelling.to bytes p.1.digits) in
          rw is (ascii-cons 45 bytes (omega arith) digits)
      | false ↦ λ e. let p = spelled_i64-plain byte bytes integer e s in
          IsAscii-from_digits (byte ∷ bytes) (spelling.to (byte ∷ bytes) p.1.digits)
    ] refl

-- bytes that are no text spell nothing
pub spelled_i64-no_text : (bytes : List ℕ) → (IsUtf8 bytes → ⊥) → spelled_i64 bytes ≡ None
spelled_i64-no_text bytes none = sym (spells_nothing bytes (λ integer s. none (IsUtf8-from_ascii bytes (spelled_ascii bytes integer s))))

-- no bytes begin with no plus
pub no_plus : (bytes : List ℕ) → length bytes ≡ 0 → get_or bytes 0 0 ≢ 43
no_plus [] none = omega arith
no_plus (byte ∷ bytes) none = absurd (omega arith)
