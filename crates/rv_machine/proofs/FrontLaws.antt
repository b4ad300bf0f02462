-- Bytes of which a front is kept: how many there are, reading and writing within the front, and reading behind it.
use Rattle.std.proofs.Common.{◌≡◌, ℕ, ◌+◌, ◌-◌, ◌≤◌, ◌<◌, ◌⊎◌, List, [], ◌++◌, length, take, drop, refl, sym, ap, ◌∙◌, arith, min, append_assoc, ⊎_elim}
use Rattle.std.specs.Prelude.{replicate}
use Rattle.std.proofs.Math.Seq.{take-append-add, drop-append-add}
use Rattle.std.proofs.lemmas.Bool.{cases_lt}
use Rattle.std.proofs.lemmas.List.{length-append, length-drop, take-append-le, drop-append-le, drop_all, take_rest, drop_min, length-replicate, replicate-append-replicate, take-replicate, drop-replicate}
use Rattle.rv_code.specs.Bytes.{put_at}
use Rattle.rv_machine.specs.Fronts.{padded}
use Rattle.rv_machine.proofs.SentLaws.{put_at-length}

-- how many bytes there are
pub padded-length : (size : ℕ) (front : List ℕ) → length front ≤ size → length (padded size front) ≡ size
padded-length size front h = rw (length-append, length-replicate) (omega (arith, h))

-- a longer front
pub padded-grown : (size to : ℕ) (front : List ℕ) → length front ≤ to → to ≤ size → padded size (padded to front) ≡ padded size front
padded-grown size to front g h =
    let sum : to - length front + (size - to) ≡ size - length front = omega (arith, g, h) in
    rw (padded-length to front g, append_assoc, replicate-append-replicate, sum) refl

-- ---- reading

-- bytes within the front
pub read-within : (size from count : ℕ) (front : List ℕ) → from + count ≤ length front →
    take count (drop from (padded size front)) ≡ take count (drop from front)
read-within size from count front h =
    let zeros : List ℕ = replicate (size - length front) 0 in
    let enough : count ≤ length (drop from front) = rw length-drop (omega (arith, h)) in
    rw (drop-append-le from front zeros (omega (arith, h)), take-append-le count (drop from front) zeros enough) refl

-- so many bytes of a list with zeros behind it
taken-zeros : (count zeros : ℕ) (bytes : List ℕ) → length bytes ≤ count → count ≤ length bytes + zeros →
    take count (bytes ++ replicate zeros 0) ≡ padded count bytes
taken-zeros count zeros bytes g h =
    let sum : count ≡ length bytes + (count - length bytes) = omega (arith, g) in
    let all = take-append-add bytes (replicate zeros 0) (count - length bytes) in
    let few = take-replicate (count - length bytes) zeros 0 (omega (arith, g, h)) in
    ap (λ n. take n (bytes ++ replicate zeros 0)) sum ∙ all ∙ ap (λ behind. bytes ++ behind) few

-- what is left of the front, and zeros
rest-padded : (size from : ℕ) (front : List ℕ) → drop from (padded size front) ≡ drop from front ++ replicate (size - length front - (from - length front)) 0
rest-padded size from front =
    let zeros : List ℕ = replicate (size - length front) 0 in
    ⊎_elim
    (λ lt.
    let all : size - length front - (from - length front) ≡ size - length front = omega (arith, lt) in
    rw all (drop-append-le from front zeros (omega (arith, lt))))
    (λ ge.
    let sum : from ≡ length front + (from - length front) = omega (arith, ge) in
    let empty : drop from front ≡ [] = drop_all from front ge in
    rw empty (ap (λ n. drop n (front ++ zeros)) sum ∙ drop-append-add front zeros (from - length front) ∙ drop-replicate (from - length front) (size - length front) 0))
    (cases_lt from (length front))

-- bytes that aren't all within the front
pub read-behind : (size from count : ℕ) (front : List ℕ) → length front < from + count → from + count ≤ size →
    take count (drop from (padded size front)) ≡ padded count (drop from front)
read-behind size from count front g h =
    let left : length (drop from front) ≡ length front - from = length-drop from front in
    let zeros = size - length front - (from - length front) in
    ap (take count) (rest-padded size from front) ∙ taken-zeros count zeros (drop from front) (omega (arith, left, g)) (omega (arith, left, g, h))

-- what is left of the front from a place on, or from its end on
pub rest-taken : (from start : ℕ) (front : List ℕ) → start ≡ min from (length front) →
    take (length front - start) (drop start front) ≡ drop from front
rest-taken from start front e = rw e (take_rest front (min from (length front)) ∙ drop_min from front)

-- the same bytes, copied over the first of eight zeros
pub copied-zeros : (count : ℕ) (bytes : List ℕ) → length bytes ≤ count → count ≤ 8 →
    take count (bytes ++ drop (length bytes) (replicate 8 0)) ≡ padded count bytes
copied-zeros count bytes g h = rw drop-replicate (taken-zeros count (8 - length bytes) bytes g (omega (arith, g, h)))

-- ---- writing

-- bytes that are written within the front
pub padded-written : (size from : ℕ) (front bytes : List ℕ) → from + length bytes ≤ length front →
    padded size (put_at front from bytes) ≡ put_at (padded size front) from bytes
padded-written size from front bytes h =
    let zeros : List ℕ = replicate (size - length front) 0 in
    let low : take from (front ++ zeros) ≡ take from front = take-append-le from front zeros (omega (arith, h)) in
    let high : drop (from + length bytes) (front ++ zeros) ≡ drop (from + length bytes) front ++ zeros =
    drop-append-le (from + length bytes) front zeros h
    in
    rw (put_at-length front bytes from h, low, high, append_assoc, append_assoc) refl
