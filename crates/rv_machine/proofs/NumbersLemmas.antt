-- Numbers and the bytes that spell them.
use Rattle.std.proofs.Common.{◌≡◌, ℕ, ◌+◌, ◌*◌, ◌/◌, ◌%◌, ◌^◌, List, [], ◌∷◌, length, refl, arith, set, slice_index, w16, w32, w64}
use Rattle.std.specs.Int.{to_le_bytes}
use Rattle.rv_code.specs.Bytes.{number_of, bytes_of}

-- the number that one byte spells
pub number-byte : (bs : List ℕ) → length bs ≡ 1 → number_of bs ≡ slice_index bs 0
unfolding number_of
number-byte [] h = absurd (omega (arith, h))
number-byte (a ∷ []) h = omega arith
number-byte (a ∷ (b ∷ rest)) h = absurd (omega (arith, h))

-- the number that two bytes spell
pub number-half : (bs : List ℕ) → length bs ≡ 2 → number_of bs ≡ slice_index bs 0 + 256 * slice_index bs 1
unfolding number_of
number-half [] h = absurd (omega (arith, h))
number-half (a ∷ []) h = absurd (omega (arith, h))
number-half (a ∷ (b ∷ [])) h = omega arith
number-half (a ∷ (b ∷ (c ∷ rest))) h = absurd (omega (arith, h))

-- the number that four bytes spell
pub number-word : (bs : List ℕ) → length bs ≡ 4 →
    number_of bs ≡ slice_index bs 0 + 256 * slice_index bs 1 + 65536 * slice_index bs 2 + 16777216 * slice_index bs 3
unfolding number_of
number-word [] h = absurd (omega (arith, h))
number-word (a ∷ []) h = absurd (omega (arith, h))
number-word (a ∷ (b ∷ [])) h = absurd (omega (arith, h))
number-word (a ∷ (b ∷ (c ∷ []))) h = absurd (omega (arith, h))
number-word (a ∷ (b ∷ (c ∷ (d ∷ [])))) h = omega arith
number-word (a ∷ (b ∷ (c ∷ (d ∷ (e ∷ rest))))) h = absurd (omega (arith, h))

-- the number that eight bytes spell
pub number-double : (bs : List ℕ) → length bs ≡ 8 →
    number_of bs ≡ slice_index bs 0 + 2 ^ 8 * slice_index bs 1 + 2 ^ 16 * slice_index bs 2 + 2 ^ 24 * slice_index bs 3
    + 2 ^ 32 * slice_index bs 4 + 2 ^ 40 * slice_index bs 5 + 2 ^ 48 * slice_index bs 6 + 2 ^ 56 * slice_index bs 7
unfolding number_of
number-double [] h = absurd (omega (arith, h))
number-double (a ∷ []) h = absurd (omega (arith, h))
number-double (a ∷ (b ∷ [])) h = absurd (omega (arith, h))
number-double (a ∷ (b ∷ (c ∷ []))) h = absurd (omega (arith, h))
number-double (a ∷ (b ∷ (c ∷ (d ∷ [])))) h = absurd (omega (arith, h))
number-double (a ∷ (b ∷ (c ∷ (d ∷ (e ∷ []))))) h = absurd (omega (arith, h))
number-double (a ∷ (b ∷ (c ∷ (d ∷ (e ∷ (f ∷ [])))))) h = absurd (omega (arith, h))
number-double (a ∷ (b ∷ (c ∷ (d ∷ (e ∷ (f ∷ (g ∷ []))))))) h = absurd (omega (arith, h))
number-double (a ∷ (b ∷ (c ∷ (d ∷ (e ∷ (f ∷ (g ∷ (i ∷ [])))))))) h = omega arith
number-double (a ∷ (b ∷ (c ∷ (d ∷ (e ∷ (f ∷ (g ∷ (i ∷ (j ∷ rest))))))))) h = absurd (omega (arith, h))

pub ruleset words = (number-word)

pub ruleset numbers = (number-byte, number-half, number-word, number-double)

-- the eight bytes of a number
pub bytes-double : (n : ℕ) → bytes_of 8 n ≡ to_le_bytes w64 n
unfolding bytes_of
bytes-double n =
    let two : n / 256 / 256 ≡ n / 256 ^ 2 = omega arith in
    let three : n / 256 / 256 / 256 ≡ n / 256 ^ 3 = omega arith in
    let four : n / 256 / 256 / 256 / 256 ≡ n / 256 ^ 4 = omega arith in
    let five : n / 256 / 256 / 256 / 256 / 256 ≡ n / 256 ^ 5 = omega arith in
    let six : n / 256 / 256 / 256 / 256 / 256 / 256 ≡ n / 256 ^ 6 = omega arith in
    let seven : n / 256 / 256 / 256 / 256 / 256 / 256 / 256 ≡ n / 256 ^ 7 = omega arith in
    rw (seven, six, five, four, three, two) refl

-- the four lowest
pub bytes-word : (n : ℕ) → bytes_of 4 n ≡ to_le_bytes w32 (n % 2 ^ 32)
unfolding bytes_of
bytes-word n =
    let zero : n % 256 ≡ n % 2 ^ 32 % 256 = omega arith in
    let one : n / 256 % 256 ≡ n % 2 ^ 32 / 256 % 256 = omega arith in
    let two : n / 256 / 256 % 256 ≡ n % 2 ^ 32 / 256 ^ 2 % 256 = omega arith in
    let three : n / 256 / 256 / 256 % 256 ≡ n % 2 ^ 32 / 256 ^ 3 % 256 = omega arith in
    rw (three, two, one, zero) refl

-- the two lowest
pub bytes-half : (n : ℕ) → bytes_of 2 n ≡ to_le_bytes w16 (n % 2 ^ 16)
unfolding bytes_of
bytes-half n =
    let zero : n % 256 ≡ n % 2 ^ 16 % 256 = omega arith in
    let one : n / 256 % 256 ≡ n % 2 ^ 16 / 256 % 256 = omega arith in
    rw (one, zero) refl

-- the lowest
pub bytes-byte : (out : List ℕ) (n : ℕ) → length out ≡ 1 → bytes_of 1 n ≡ set out 0 (n % 256)
unfolding bytes_of
bytes-byte [] n h = absurd (omega (arith, h))
bytes-byte (a ∷ []) n h = refl
bytes-byte (a ∷ (b ∷ rest)) n h = absurd (omega (arith, h))
