-- What stands in fields that were written one behind the other.
use Rattle.std.proofs.Common.{◌≡◌, ℕ, suc, ◌+◌, ◌^◌, ◌<◌, List, [], ◌∷◌, ◌++◌, length, drop, sym, ap, ◌∙◌, arith}
use Rattle.byteorder.specs.Endian.{little_number}
use Rattle.byteorder.specs.Numbers.{length-bytes_low_first, little_number-reads_back}
use Rattle.elf_image.specs.Fields.{field, number}

pub field-length : (n x : ℕ) → length (field n x) ≡ n
unfolding field
field-length n x = length-bytes_low_first 0 n x

-- what stands behind some bytes
pub drop-behind : {X : Type 0} (xs ys : List X) (at : ℕ) → drop (length xs + at) (xs ++ ys) ≡ drop at ys
drop-behind [] ys at = ap (λ k. drop k ys) (omega arith)
drop-behind (x ∷ xs) ys at = ap (λ k. drop k (x ∷ (xs ++ ys))) (let e : suc (length xs) + at ≡ suc (length xs + at) = omega arith in e) ∙ drop-behind xs ys at

pub number-behind : (xs ys : List ℕ) (n at : ℕ) → number n (length xs + at) (xs ++ ys) ≡ number n at ys
unfolding number
number-behind xs ys n at = ap (little_number n) (drop-behind xs ys at)

-- a field is passed over
pub number-skip : (n at m x : ℕ) (ys : List ℕ) → number n (m + at) (field m x ++ ys) ≡ number n at ys
number-skip n at m x ys =
    ap (λ k. number n (k + at) (field m x ++ ys)) (sym (field-length m x)) ∙ number-behind (field m x) ys n at

-- the first field
pub number-first : (n x : ℕ) (ys : List ℕ) → x < 256 ^ n → number n 0 (field n x ++ ys) ≡ x
unfolding number field
number-first n x ys h = little_number-reads_back n x ys h
