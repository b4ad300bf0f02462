-- Integers as bytes, and messages as lines.
use Rattle.std.proofs.Common.{◌≡◌, ℕ, zero, suc, ◌-◌, ◌*◌, ◌^◌, ◌<◌, ◌≤◌, ℤ, List, [], ◌∷◌, ◌++◌, length, take, drop, get_or, refl, sym, ap, ◌∙◌, arith, append_assoc}
use Rattle.std.specs.Int.{w64, cast_signed, from_le_bytes}
use Rattle.std.specs.Int.Signed.{mag}
use Rattle.std.proofs.lemmas.Int.{to_z-of_z}
use Rattle.std.proofs.lemmas.List.{take_all}
use mir.Val.{of_z, to_z}
use Rattle.action_terms.specs.Performances.{records}
use Rattle.acg_words.specs.Lines.{message_line, message_lines}
use Rattle.acg_driver.specs.Runs.{output_lines}
use Rattle.acg_driver.specs.Sending.{IsWhole}

pub records-append : (count : ℕ) (xs ys : List ℕ) → length xs ≡ 8 * count → records (xs ++ ys) ≡ records xs ++ records ys
records-append zero [] ys h = refl
records-append zero (b0 ∷ xs) ys h = absurd (omega (arith, h))
records-append (suc count) (b0 ∷ (b1 ∷ (b2 ∷ (b3 ∷ (b4 ∷ (b5 ∷ (b6 ∷ (b7 ∷ xs)))))))) ys h =
    ap (λ ms. cast_signed w64 (from_le_bytes w64 (b0 ∷ b1 ∷ b2 ∷ b3 ∷ b4 ∷ b5 ∷ b6 ∷ b7 ∷ [])) ∷ ms) (records-append count xs ys (omega (arith, h)))
records-append (suc count) [] ys h = absurd (omega (arith, h))
records-append (suc count) (b0 ∷ []) ys h = absurd (omega (arith, h))
records-append (suc count) (b0 ∷ (b1 ∷ [])) ys h = absurd (omega (arith, h))
records-append (suc count) (b0 ∷ (b1 ∷ (b2 ∷ []))) ys h = absurd (omega (arith, h))
records-append (suc count) (b0 ∷ (b1 ∷ (b2 ∷ (b3 ∷ [])))) ys h = absurd (omega (arith, h))
records-append (suc count) (b0 ∷ (b1 ∷ (b2 ∷ (b3 ∷ (b4 ∷ []))))) ys h = absurd (omega (arith, h))
records-append (suc count) (b0 ∷ (b1 ∷ (b2 ∷ (b3 ∷ (b4 ∷ (b5 ∷ [])))))) ys h = absurd (omega (arith, h))
records-append (suc count) (b0 ∷ (b1 ∷ (b2 ∷ (b3 ∷ (b4 ∷ (b5 ∷ (b6 ∷ []))))))) ys h = absurd (omega (arith, h))

pub regroup : (xs ys zs : List ℕ) → xs ++ (ys ++ zs) ≡ (xs ++ ys) ++ zs
regroup xs ys zs = sym (append_assoc xs ys zs)

pub message_lines-append : (ms ns : List ℤ) → message_lines (ms ++ ns) ≡ message_lines ms ++ message_lines ns
message_lines-append [] ns = refl
message_lines-append (m ∷ ms) ns =
    ap (λ lines. message_line m ++ lines) (message_lines-append ms ns) ∙ regroup (message_line m) (message_lines ms) (message_lines ns)

pub output_lines-append : (xs ys : List ℕ) → IsWhole xs → output_lines (xs ++ ys) ≡ output_lines xs ++ output_lines ys
output_lines-append xs ys whole =
    ap message_lines (records-append whole.0 xs ys whole.1) ∙ message_lines-append (records xs) (records ys)

-- the first message of 8 bytes or more, as a program reads it
pub records-first : (bytes : List ℕ) (m : ℤ) → 8 ≤ length bytes → mag m < 2 ^ 63 →
    m ≡ cast_signed w64 (from_le_bytes w64 (get_or bytes 0 0 ∷ get_or bytes 1 0 ∷ get_or bytes 2 0 ∷ get_or bytes 3 0 ∷ get_or bytes 4 0 ∷ get_or bytes 5 0 ∷ get_or bytes 6 0 ∷ get_or bytes 7 0 ∷ [])) →
    records bytes ≡ to_z w64 (of_z w64 m) ∷ records (take (length bytes - 8) (drop 8 bytes))
records-first (b0 ∷ (b1 ∷ (b2 ∷ (b3 ∷ (b4 ∷ (b5 ∷ (b6 ∷ (b7 ∷ bytes)))))))) m h small e =
    let read : cast_signed w64 (from_le_bytes w64 (b0 ∷ b1 ∷ b2 ∷ b3 ∷ b4 ∷ b5 ∷ b6 ∷ b7 ∷ [])) ≡ to_z w64 (of_z w64 m) =
    sym e ∙ sym (to_z-of_z w64 m (record { sfits = small }))
    in
    let all : ℕ = length (b0 ∷ (b1 ∷ (b2 ∷ (b3 ∷ (b4 ∷ (b5 ∷ (b6 ∷ (b7 ∷ bytes)))))))) in
    let rest : take (all - 8) bytes ≡ bytes = take_all (all - 8) bytes (omega arith) in
    ap (λ first. first ∷ records bytes) read ∙ ap (λ behind. to_z w64 (of_z w64 m) ∷ records behind) (sym rest)
records-first [] m h small e = absurd (omega (arith, h))
records-first (b0 ∷ []) m h small e = absurd (omega (arith, h))
records-first (b0 ∷ (b1 ∷ [])) m h small e = absurd (omega (arith, h))
records-first (b0 ∷ (b1 ∷ (b2 ∷ []))) m h small e = absurd (omega (arith, h))
records-first (b0 ∷ (b1 ∷ (b2 ∷ (b3 ∷ [])))) m h small e = absurd (omega (arith, h))
records-first (b0 ∷ (b1 ∷ (b2 ∷ (b3 ∷ (b4 ∷ []))))) m h small e = absurd (omega (arith, h))
records-first (b0 ∷ (b1 ∷ (b2 ∷ (b3 ∷ (b4 ∷ (b5 ∷ [])))))) m h small e = absurd (omega (arith, h))
records-first (b0 ∷ (b1 ∷ (b2 ∷ (b3 ∷ (b4 ∷ (b5 ∷ (b6 ∷ []))))))) m h small e = absurd (omega (arith, h))
