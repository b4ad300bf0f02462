-- The headers and the bytes of segments, one segment more; and how far a file reaches.
use Rattle.std.proofs.Common.{◌≡◌, ℕ, ◌+◌, ◌-◌, ◌*◌, ◌^◌, ◌≤◌, nat_eq, false, if◌then◌else◌, List, [], ◌∷◌, ◌++◌, length, take, replicate, All, sum_by, refl, sym, ap, ◌∙◌, append_assoc, arith, length-append}
use Rattle.std.proofs.lemmas.Bool.{ne_eqb}
use Rattle.std.proofs.lemmas.List.{append-nil, length-take, length-replicate}
use Rattle.std.proofs.lemmas.List.Elements.{All-head, All-tail, All-take}
use Rattle.std.proofs.lemmas.List.Sums.{sum_by-cons, sum_by-take-le}
use Rattle.rv_code.specs.Images.{Image, ImageSegment, IsImage}
use Rattle.elf_image.specs.Files.{aligned, offset_behind, end_behind, piece_behind, program_header, program_headers, contents, end_of, headers_end}

pub end_of-push : (end : ℕ) (ss : List ImageSegment) (s : ImageSegment) → end_of end (ss ++ s ∷ []) ≡ end_behind (end_of end ss) s
unfolding end_of
end_of-push end [] s = refl
end_of-push end (t ∷ ss) s = end_of-push (end_behind end t) ss s

pub headers-push : (end : ℕ) (ss : List ImageSegment) (s : ImageSegment)
    → program_headers end (ss ++ s ∷ []) ≡ program_headers end ss ++ program_header (offset_behind (end_of end ss) s) s
unfolding program_headers end_of
headers-push end [] s = append-nil (program_header (offset_behind end s) s)
headers-push end (t ∷ ss) s =
    ap (λ (rest : List ℕ). program_header (offset_behind end t) t ++ rest) (headers-push (end_behind end t) ss s)
    ∙ sym (append_assoc (program_header (offset_behind end t) t) (program_headers (end_behind end t) ss) (program_header (offset_behind (end_of (end_behind end t) ss) s) s))

pub contents-push : (end : ℕ) (ss : List ImageSegment) (s : ImageSegment)
    → contents end (ss ++ s ∷ []) ≡ contents end ss ++ piece_behind (end_of end ss) s
unfolding contents end_of
contents-push end [] s = append-nil (piece_behind end s)
contents-push end (t ∷ ss) s =
    ap (λ (rest : List ℕ). piece_behind end t ++ rest) (contents-push (end_behind end t) ss s)
    ∙ sym (append_assoc (piece_behind end t) (contents (end_behind end t) ss) (piece_behind (end_of (end_behind end t) ss) s))

-- there are bytes
pub some-bytes : (b : ℕ) (bytes : List ℕ) → nat_eq (length (b ∷ bytes)) 0 ≡ false
some-bytes b bytes = ne_eqb (length (b ∷ bytes)) 0 (λ h. omega arith)

-- the bytes of a segment reach to its end
pieces : (end : ℕ) (bytes : List ℕ)
    → end + length (if nat_eq (length bytes) 0 then [] else replicate (aligned end - end) 0 ++ bytes) ≡ (if nat_eq (length bytes) 0 then end else aligned end + length bytes)
pieces end [] = omega arith
pieces end (b ∷ bytes) = rw (some-bytes b bytes) (omega (arith, length-append (replicate (aligned end - end) 0) (b ∷ bytes), length-replicate {A = ℕ} (aligned end - end) 0))

pub piece-length : (end : ℕ) (s : ImageSegment) → end + length (piece_behind end s) ≡ end_behind end s
piece-length end s = pieces end s.bytes

-- the bytes of segments reach to their end
pub contents-length : (end : ℕ) (ss : List ImageSegment) → end + length (contents end ss) ≡ end_of end ss
unfolding contents end_of
contents-length end [] = omega arith
contents-length end (s ∷ ss) =
    let first = piece-length end s in
    let rest = contents-length (end_behind end s) ss in
    omega (arith, first, rest, length-append (piece_behind end s) (contents (end_behind end s) ss))

-- an end is at most a page and its bytes behind the one before
ends : (end : ℕ) (bytes : List ℕ) → (if nat_eq (length bytes) 0 then end else aligned end + length bytes) ≤ end + (4096 + length bytes)
ends end [] = omega arith
ends end (b ∷ bytes) = rw (some-bytes b bytes) (omega arith)

-- the same for each segment
pub end_of-bound : (end : ℕ) (ss : List ImageSegment) → All (λ s. length s.bytes ≤ s.size) ss
    → end_of end ss ≤ end + (4096 * length ss + sum_by (λ s. s.size) ss)
unfolding end_of
end_of-bound end [] h = omega arith
end_of-bound end (s ∷ ss) h =
    let first : end_behind end s ≤ end + (4096 + length s.bytes) = ends end s.bytes in
    let sized : length s.bytes ≤ s.size = All-head (λ t. length t.bytes ≤ t.size) s ss h in
    let rest = end_of-bound (end_behind end s) ss (All-tail (λ t. length t.bytes ≤ t.size) s ss h) in
    omega (arith, first, sized, rest, sum_by-cons (λ t. t.size) s ss)

-- an end is not below where it began
pub end_of-above : (end : ℕ) (ss : List ImageSegment) → end ≤ end_of end ss
unfolding end_of
end_of-above end [] = omega arith
end_of-above end (s ∷ ss) = omega (arith, piece-length end s, end_of-above (end_behind end s) ss)

-- the file of an image ends below 2^32
pub end_of-image : (image : Image) → IsImage image → (i : ℕ) → end_of (headers_end (length image.segments)) (take i image.segments) ≤ 2 ^ 32
end_of-image image h i =
    let ss = image.segments in
    let bound = end_of-bound (headers_end (length ss)) (take i ss) (All-take (λ t. length t.bytes ≤ t.size) i ss h.sizes) in
    omega (arith, bound, length-take i ss, sum_by-take-le (λ t. t.size) ss i, h.few, h.total)
