-- The words of the program that sends messages do so.
use Rattle.std.proofs.Common.{◌≡◌, ℕ, ◌+◌, ◌*◌, ◌^◌, ◌<◌, ◌≤◌, List, [], ◌∷◌, ◌++◌, length, map, Some, refl, sym, ap, ◌∙◌, subst, arith, All, length-append, get_or, Fits, w64}
use Rattle.std.proofs.lemmas.Grind.{get_or_default_zero}
use Rattle.rv_code.specs.Encode.{encode}
use Rattle.rv_code.specs.Machine.{loaded}
use Rattle.rv_code.specs.declared.instruction.Inst.{Inst}
use Rattle.rv_asm.specs.Assembly.{total, code_from, code_of}
use Rattle.rv_asm.specs.Conventions.{code_address, region_address}
use Rattle.rv_asm.specs.Messages.{messages_code, messages_program, SendsMessages, SendsAlways}
use Rattle.rv_asm.specs.Pieces.{load_constant, send_word}
use Rattle.rv_asm.specs.declared.item.Item.TheVariants.{Plain}
use Rattle.rv_asm.proofs.Constants.{length-load_constant}
use Rattle.rv_asm.proofs.Encodings.{words-encoded, program_segments-encoded}
use Rattle.rv_asm.proofs.Messages.{messages-compiled}

-- numbers of 64 bits are below 2^64, all of them
pub all-words : (ms : List ℕ) → ((i : ℕ) → Fits w64 (get_or ms i 0)) → All (λ w. w < 2 ^ 64) ms
all-words ms h k d lt = rw (get_or_default_zero ms k d lt) (omega (arith, h k))

-- plain items become the instructions that they are
pub code_from-plain : (at : ℕ → ℕ) (n : ℕ) (is : List Inst) → code_from at n (map Plain is) ≡ is
code_from-plain at n [] = refl
code_from-plain at n (i ∷ is) = ap (λ k. i ∷ k) (code_from-plain at (n + 1) is)

pub total-plain : (is : List Inst) → total (map Plain is) ≡ length is
total-plain [] = refl
total-plain (i ∷ is) = omega (arith, total-plain is)

length-messages_code : (ms : List ℕ) → (0 < length (messages_code ms)) × (length (messages_code ms) ≤ 14 * length ms + 3)
length-messages_code [] = (omega arith, omega arith)
length-messages_code (m ∷ ms) =
    let load = load_constant 10 m in
    let rest = messages_code ms in
    let h = length-messages_code ms in
    let l = length-append load (send_word 10 0 ++ rest) in
    let few = length-load_constant 10 m in
    (omega (arith, l, h.0), omega (arith, l, h.1, few))

-- at most 64 messages take less than a page of 4096 bytes
pub messages_program-few : (base : ℕ) (ms : List ℕ) → length ms ≤ 64 → (0 < length (messages_program base ms)) × (length (messages_program base ms) ≤ 1024)
messages_program-few base ms h =
    let l = length-append (load_constant 3 base) (messages_code ms) in
    let few = length-load_constant 3 base in
    let rest = length-messages_code ms in
    (omega (arith, l, rest.0), omega (arith, l, rest.1, few))

pub sends-always :
    (ms words : List ℕ) → length ms ≤ 64 → All (λ w. w < 2 ^ 64) ms →
    map Some words ≡ map encode (code_of (map Plain (messages_program 69632 ms))) →
    SendsAlways ms words
sends-always ms words few small e stack units input s u bytes =
    let code = messages_program 69632 ms in
    let size = messages_program-few 69632 ms few in
    let same : code_of (map Plain code) ≡ code = code_from-plain _ 0 code in
    let encoded = words-encoded words code (e ∙ ap (map encode) same) in
    let stands : region_address (4 * length code) ≡ 69632 = omega (arith, size.0, size.1) in
    let sends = messages-compiled ms 69632 stack units input stands (omega (arith, size.1)) s u small bytes in
    subst (λ p. SendsMessages ms (loaded code_address p input)) (sym (program_segments-encoded words code stack units encoded)) sends
