-- Laws of bytes and the numbers that they spell.
use Rattle.std.proofs.Common.{◌≡◌, ℕ, zero, suc, ◌+◌, ◌*◌, ◌/◌, ◌%◌, ◌^◌, ◌<◌, List, [], ◌∷◌, length, refl, sym, ap, ◌∙◌, arith, All}
use Rattle.std.proofs.lemmas.Nat.{mod-pow-add, pow-add}
use Rattle.std.proofs.lemmas.List.Elements.{All-head, All-tail, All-nil, All-cons}
use Rattle.rv_code.specs.Bytes.{number_of, bytes_of}

pub number-bytes : (k n : ℕ) → number_of (bytes_of k n) ≡ n % 2 ^ (8 * k)
unfolding number_of bytes_of
number-bytes zero n = omega arith
number-bytes (suc k) n =
    let h : number_of (bytes_of k (n / 256)) ≡ n / 2 ^ 8 % 2 ^ (8 * k) = number-bytes k (n / 256) in
    let e : 8 * suc k ≡ 8 * k + 8 = omega arith in
    ap (λ m. n % 256 + 256 * m) h ∙ sym (ap (λ j. n % 2 ^ j) e ∙ mod-pow-add n (8 * k) 8 ∙ omega arith)

pub length-bytes : (k n : ℕ) → length (bytes_of k n) ≡ k
unfolding bytes_of
length-bytes zero n = refl
length-bytes (suc k) n = ap suc (length-bytes k (n / 256))

pub bytes-number : (bs : List ℕ) → All (λ b. b < 256) bs → bytes_of (length bs) (number_of bs) ≡ bs
unfolding number_of bytes_of
bytes-number [] h = refl
bytes-number (b ∷ bs) h =
    let s : b < 256 = All-head (λ x. x < 256) b bs h in
    let m : (b + 256 * number_of bs) % 256 ≡ b = omega arith in
    let d : (b + 256 * number_of bs) / 256 ≡ number_of bs = omega arith in
    rw (m, d, bytes-number bs (All-tail (λ x. x < 256) b bs h)) refl

pub bytes-small : (k n : ℕ) → All (λ b. b < 256) (bytes_of k n)
unfolding bytes_of
bytes-small zero n = All-nil (λ b. b < 256)
bytes-small (suc k) n = All-cons (λ b. b < 256) (n % 256) (bytes_of k (n / 256)) (omega arith) (bytes-small k (n / 256))

pub number-below : (bs : List ℕ) → All (λ b. b < 256) bs → number_of bs < 2 ^ (8 * length bs)
unfolding number_of
number-below [] h = omega arith
number-below (b ∷ bs) h =
    let s : b < 256 = All-head (λ x. x < 256) b bs h in
    let r = number-below bs (All-tail (λ x. x < 256) b bs h) in
    let e : 8 * length (b ∷ bs) ≡ 8 * length bs + 8 = omega arith in
    rw (e, pow-add 2 (8 * length bs) 8) (omega arith)
