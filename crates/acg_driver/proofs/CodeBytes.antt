-- The bytes of the words of code.
use Rattle.std.proofs.Common.{◌≡◌, ℕ, ◌*◌, ◌/◌, ◌%◌, ◌^◌, List, [], ◌∷◌, ◌++◌, length, sym, ap, ◌∙◌, arith, w32, length-append}
use Rattle.std.specs.Int.{to_le_bytes}
use Rattle.std.proofs.lemmas.List.{append-nil, append_assoc}
use Rattle.rv_code.specs.Bytes.{bytes_of}
use Rattle.rv_code.proofs.ByteLaws.{length-bytes}
use Rattle.rv_asm.specs.Conventions.{instruction_bytes}

-- the four bytes of a word
pub bytes-word : (n : ℕ) → bytes_of 4 n ≡ to_le_bytes w32 n
unfolding bytes_of
bytes-word n =
    let two : n / 256 / 256 ≡ n / 256 ^ 2 = omega arith in
    let three : n / 256 / 256 / 256 ≡ n / 256 ^ 3 = omega arith in
    ap (λ m. n % 256 ∷ n / 256 % 256 ∷ m % 256 ∷ n / 256 / 256 / 256 % 256 ∷ []) two ∙ ap (λ m. n % 256 ∷ n / 256 % 256 ∷ n / 256 ^ 2 % 256 ∷ m % 256 ∷ []) three

-- the bytes of one more word
pub instruction_bytes-push : (ws : List ℕ) (w : ℕ) → instruction_bytes (ws ++ w ∷ []) ≡ instruction_bytes ws ++ to_le_bytes w32 w
unfolding instruction_bytes
instruction_bytes-push [] w = append-nil (bytes_of 4 w) ∙ bytes-word w
instruction_bytes-push (v ∷ ws) w = ap (λ bytes. bytes_of 4 v ++ bytes) (instruction_bytes-push ws w) ∙ sym (append_assoc (bytes_of 4 v) (instruction_bytes ws) (to_le_bytes w32 w))

pub length-instruction_bytes : (ws : List ℕ) → length (instruction_bytes ws) ≡ 4 * length ws
unfolding instruction_bytes
length-instruction_bytes [] = omega arith
length-instruction_bytes (w ∷ ws) =
    omega (arith, length-append (bytes_of 4 w) (instruction_bytes ws), length-bytes 4 w, length-instruction_bytes ws)
