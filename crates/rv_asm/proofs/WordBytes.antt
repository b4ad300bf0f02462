-- The bytes of words: a word, or the front of one, is read and written among them.
use Rattle.std.proofs.Common.{◌≡◌, ℕ, zero, suc, ◌+◌, ◌*◌, ◌<◌, ◌≤◌, ◌^◌, min, List, [], ◌∷◌, ◌++◌, length, get_or, take, drop, set, replicate, refl, sym, ap, ◌∙◌, subst, arith, append_assoc, append-nil, length-append, take_at, drop_at, drop-drop, All}
use Rattle.std.proofs.lemmas.List.{replicate-append-replicate, drop-append-le, length-drop, length-take}
use Rattle.std.proofs.lemmas.List.Elements.{All-append, All-drop, All-take}
use Rattle.rv_code.specs.Bytes.{number_of, bytes_of, put_at}
use Rattle.rv_code.proofs.ByteLaws.{length-bytes, bytes-number, bytes-small, number-below}
use Rattle.rv_asm.specs.WordMachine.{word_bytes, received_word}

pub length-word_bytes : (ws : List ℕ) → length (word_bytes ws) ≡ 8 * length ws
unfolding word_bytes
length-word_bytes [] = refl
length-word_bytes (w ∷ ws) = length-append (bytes_of 8 w) (word_bytes ws) ∙ omega (arith, length-bytes 8 w, length-word_bytes ws)

pub word_bytes-append : (ws : List ℕ) (w : ℕ) → word_bytes (ws ++ (w ∷ [])) ≡ word_bytes ws ++ bytes_of 8 w
unfolding word_bytes
word_bytes-append [] w = append-nil (bytes_of 8 w)
word_bytes-append (v ∷ ws) w = ap (λ l. bytes_of 8 v ++ l) (word_bytes-append ws w) ∙ sym (append_assoc (bytes_of 8 v) (word_bytes ws) (bytes_of 8 w))

drop-word_bytes : (i w : ℕ) (ws : List ℕ) → drop (8 * suc i) (word_bytes (w ∷ ws)) ≡ drop (8 * i) (word_bytes ws)
unfolding word_bytes
drop-word_bytes i w ws =
    let e : 8 * suc i ≡ 8 + 8 * i = omega arith in
    rw e (sym (drop-drop (8 * i) 8 (bytes_of 8 w ++ word_bytes ws)) ∙ ap (drop (8 * i)) (drop_at (bytes_of 8 w) (word_bytes ws) 8 (length-bytes 8 w)))

-- the eight bytes of a word
pub take-word_bytes : (ws : List ℕ) (i : ℕ) → i < length ws → take 8 (drop (8 * i) (word_bytes ws)) ≡ bytes_of 8 (get_or ws i 0)
unfolding word_bytes
take-word_bytes [] i h = absurd (omega arith)
take-word_bytes (w ∷ ws) zero h = take_at (bytes_of 8 w) (word_bytes ws) 8 (length-bytes 8 w)
take-word_bytes (w ∷ ws) (suc i) h = ap (take 8) (drop-word_bytes i w ws) ∙ take-word_bytes ws i (omega arith)

put_at-append : (a xs bs : List ℕ) (i m : ℕ) → m ≡ length a + i → put_at (a ++ xs) m bs ≡ a ++ put_at xs i bs
put_at-append [] xs bs i m e = let z : m ≡ i = omega arith in ap (λ n. put_at xs n bs) z
put_at-append (x ∷ a) xs bs i zero e = absurd (omega arith)
put_at-append (x ∷ a) xs bs i (suc m) e =
    let l : suc m + length bs ≡ suc (m + length bs) = omega arith in
    rw l (ap (λ t. x ∷ t) (put_at-append a xs bs i m (omega arith)))

-- a whole word written
pub put_at-word_bytes : (ws : List ℕ) (i v : ℕ) → i < length ws → put_at (word_bytes ws) (8 * i) (bytes_of 8 v) ≡ word_bytes (set ws i v)
unfolding word_bytes
put_at-word_bytes [] i v h = absurd (omega arith)
put_at-word_bytes (w ∷ ws) zero v h =
    let e : 0 + length (bytes_of 8 v) ≡ 8 = omega (arith, length-bytes 8 v) in
    rw (e, drop_at (bytes_of 8 w) (word_bytes ws) 8 (length-bytes 8 w)) refl
put_at-word_bytes (w ∷ ws) (suc i) v h =
    put_at-append (bytes_of 8 w) (word_bytes ws) (bytes_of 8 v) (8 * i) (8 * suc i) (omega (arith, length-bytes 8 w))
    ∙ ap (λ t. bytes_of 8 w ++ t) (put_at-word_bytes ws i v (omega arith))

-- a word with its front replaced by some bytes
abbrev with_front : ℕ → List ℕ → ℕ
with_front old bs = number_of (put_at (bytes_of 8 old) 0 bs)

length-front : (old : ℕ) (bs : List ℕ) → length bs ≤ 8 → length (put_at (bytes_of 8 old) 0 bs) ≡ 8
length-front old bs l = length-append bs (drop (0 + length bs) (bytes_of 8 old)) ∙ omega (arith, length-drop (0 + length bs) (bytes_of 8 old), length-bytes 8 old)

small-front : (old : ℕ) (bs : List ℕ) → All (λ b. b < 256) bs → All (λ b. b < 256) (put_at (bytes_of 8 old) 0 bs)
small-front old bs s = All-append (λ b. b < 256) bs _ s (All-drop (λ b. b < 256) (0 + length bs) (bytes_of 8 old) (bytes-small 8 old))

-- at most eight bytes written to the front of a word
put_at-front :
    (ws : List ℕ) (i : ℕ) (bs : List ℕ) → i < length ws → length bs ≤ 8 → All (λ b. b < 256) bs →
    put_at (word_bytes ws) (8 * i) bs ≡ word_bytes (set ws i (with_front (get_or ws i 0) bs))
unfolding word_bytes
put_at-front [] i bs h l s = absurd (omega arith)
put_at-front (w ∷ ws) zero bs h l s =
    let t = put_at (bytes_of 8 w) 0 bs in
    let whole : bytes_of 8 (number_of t) ≡ t = ap (λ k. bytes_of k (number_of t)) (sym (length-front w bs l)) ∙ bytes-number t (small-front w bs s) in
    let fits : 0 + length bs ≤ length (bytes_of 8 w) = omega (arith, length-bytes 8 w) in
    rw (whole, drop-append-le (0 + length bs) (bytes_of 8 w) (word_bytes ws) fits) (sym (append_assoc bs (drop (0 + length bs) (bytes_of 8 w)) (word_bytes ws)))
put_at-front (w ∷ ws) (suc i) bs h l s =
    put_at-append (bytes_of 8 w) (word_bytes ws) bs (8 * i) (8 * suc i) (omega (arith, length-bytes 8 w))
    ∙ ap (λ t. bytes_of 8 w ++ t) (put_at-front ws i bs (omega arith) l s)

-- what a call that receives writes
pub put_at-received :
    (ws : List ℕ) (i n : ℕ) (input : List ℕ) → i < length ws → n ≤ 8 → All (λ b. b < 256) input →
    put_at (word_bytes ws) (8 * i) (take n input) ≡ word_bytes (set ws i (with_front (get_or ws i 0) (take n input)))
put_at-received ws i n input h l s =
    put_at-front ws i (take n input) h (omega (arith, length-take n input)) (All-take (λ b. b < 256) n input s)

pub received_word-below : (old : ℕ) (input : List ℕ) → All (λ b. b < 256) input → received_word old input < 2 ^ 64
received_word-below old input s =
    let m = min 8 (length input) in
    let bs = take m input in
    let l : length bs ≤ 8 = omega (arith, length-take m input) in
    let small : All (λ b. b < 256) bs = All-take (λ b. b < 256) m input s in
    subst (λ k. number_of (put_at (bytes_of 8 old) 0 bs) < 2 ^ (8 * k)) (length-front old bs l) (number-below (put_at (bytes_of 8 old) 0 bs) (small-front old bs small))

-- the bytes of zeros
bytes_of-zero : bytes_of 8 0 ≡ replicate 8 0
unfolding bytes_of
bytes_of-zero = refl

pub word_bytes-replicate : (n : ℕ) → word_bytes (replicate n 0) ≡ replicate (8 * n) 0
unfolding word_bytes
word_bytes-replicate zero = refl
word_bytes-replicate (suc n) =
    let e : 8 * suc n ≡ 8 + 8 * n = omega arith in
    rw (e, word_bytes-replicate n, bytes_of-zero) (replicate-append-replicate 8 (8 * n) 0)
