-- The bytes of messages, as the machine writes them.
use Rattle.std.proofs.Common.{◌≡◌, ℕ, zero, suc, ◌/◌, ◌%◌, ◌^◌, ℤ, List, [], ◌∷◌, ◌++◌, refl, sym, ap, ap₂, ◌∙◌, append_assoc, append-nil}
use Rattle.std.proofs.Math.Nat.{div-div-eq-div-mul, div-one, pow-suc}
use Rattle.std.specs.Int.{byte_at, bytes_low_first}
use Rattle.rv_code.specs.Bytes.{bytes_of}
use Rattle.rv_asm.specs.Conventions.{integer_word}
use Rattle.action_terms.specs.Performances.{message_bytes, messages_bytes}

byte_at-is : (i n : ℕ) → n / 256 ^ i % 256 ≡ byte_at i n
byte_at-is zero n = ap (λ m. m % 256) (div-one n)
byte_at-is (suc i) n = refl

bytes_of-from : (k i n : ℕ) → bytes_of k (n / 256 ^ i) ≡ bytes_low_first i k n
unfolding bytes_of
bytes_of-from zero i n = refl
bytes_of-from (suc k) i n =
    let next : n / 256 ^ i / 256 ≡ n / 256 ^ suc i = div-div-eq-div-mul n (256 ^ i) 256 ∙ ap (λ m. n / m) (sym (pow-suc 256 i)) in
    ap₂ ◌∷◌ (byte_at-is i n) (ap (bytes_of k) next ∙ bytes_of-from k (suc i) n)

-- the 8 bytes of an integer's word are those of the message
pub bytes_of-message : (z : ℤ) → bytes_of 8 (integer_word z) ≡ message_bytes z
bytes_of-message z = ap (bytes_of 8) (sym (div-one (integer_word z))) ∙ bytes_of-from 8 0 (integer_word z)

-- one message more
pub messages_bytes-append : (ns : List ℤ) (n : ℤ) → messages_bytes (ns ++ n ∷ []) ≡ messages_bytes ns ++ message_bytes n
messages_bytes-append [] n = append-nil (message_bytes n)
messages_bytes-append (m ∷ ns) n = ap (λ bs. message_bytes m ++ bs) (messages_bytes-append ns n) ∙ sym (append_assoc (message_bytes m) (messages_bytes ns) (message_bytes n))
