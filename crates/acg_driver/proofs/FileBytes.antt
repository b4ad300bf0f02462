-- The file of an image is of bytes, where those of its segments are.
use Rattle.std.proofs.Common.{ℕ, zero, suc, ◌-◌, ◌*◌, ◌%◌, ◌/◌, ◌^◌, ◌<◌, Bool, true, false, if◌then◌else◌, List, [], ◌∷◌, ◌++◌, length, nat_eq, replicate, arith}
use Rattle.std.specs.Prelude.{All}
use Rattle.std.specs.Int.{byte_at, bytes_low_first}
use Rattle.std.proofs.lemmas.List.Elements.{All-nil, All-cons, All-head, All-tail, All-append, All-replicate}
use Rattle.rv_code.specs.Images.{Image, ImageSegment}
use Rattle.elf_image.specs.Fields.{field}
use Rattle.elf_image.specs.Files.{identification, kind_fields, place_fields, size_fields, file_header, front_fields, extent_fields, program_header, program_headers, contents, aligned, offset_behind, end_behind, piece_behind, headers_end, file_of}

abbrev AreBytes : List ℕ → Type 0
AreBytes xs = All (λ b. b < 256) xs

both : (xs ys : List ℕ) → AreBytes xs → AreBytes ys → AreBytes (xs ++ ys)
both xs ys = All-append (λ b. b < 256) xs ys

byte_at-small : (i n : ℕ) → byte_at i n < 256
byte_at-small zero n = omega arith
byte_at-small (suc i) n = let q : ℕ = n / 256 ^ suc i in let small : q % 256 < 256 = omega arith in small

low-small : (i k n : ℕ) → AreBytes (bytes_low_first i k n)
low-small i zero n = All-nil (λ b. b < 256)
low-small i (suc k) n = All-cons (λ b. b < 256) (byte_at i n) (bytes_low_first (suc i) k n) (byte_at-small i n) (low-small (suc i) k n)

field-small : (n x : ℕ) → AreBytes (field n x)
unfolding field
field-small n x = low-small 0 n x

byte : (x : ℕ) (xs : List ℕ) → x < 256 → AreBytes xs → AreBytes (x ∷ xs)
byte x xs = All-cons (λ b. b < 256) x xs

identification-small : AreBytes identification
identification-small =
    let zeros : List ℕ = replicate 9 0 in
    byte 127 (69 ∷ 76 ∷ 70 ∷ 2 ∷ 1 ∷ 1 ∷ zeros) (omega arith)
    (byte 69 (76 ∷ 70 ∷ 2 ∷ 1 ∷ 1 ∷ zeros) (omega arith)
    (byte 76 (70 ∷ 2 ∷ 1 ∷ 1 ∷ zeros) (omega arith)
    (byte 70 (2 ∷ 1 ∷ 1 ∷ zeros) (omega arith)
    (byte 2 (1 ∷ 1 ∷ zeros) (omega arith)
    (byte 1 (1 ∷ zeros) (omega arith)
    (byte 1 (zeros) (omega arith)
    (All-replicate (λ b. b < 256) 9 0 (omega arith))))))))

kind-small : AreBytes kind_fields
unfolding kind_fields
kind-small = both identification _ identification-small (both (field 2 2) _ (field-small 2 2) (both (field 2 243) (field 4 1) (field-small 2 243) (field-small 4 1)))

place-small : (entry : ℕ) → AreBytes (place_fields entry)
unfolding place_fields
place-small entry = both (field 8 entry) _ (field-small 8 entry) (both (field 8 64) _ (field-small 8 64) (both (field 8 0) (field 4 0) (field-small 8 0) (field-small 4 0)))

size-small : (count : ℕ) → AreBytes (size_fields count)
unfolding size_fields
size-small count =
    both (field 2 64) _ (field-small 2 64)
    (both (field 2 56) _ (field-small 2 56)
    (both (field 2 count) _ (field-small 2 count) (both (field 2 0) _ (field-small 2 0) (both (field 2 0) (field 2 0) (field-small 2 0) (field-small 2 0)))))

front-small : (flags offset : ℕ) → AreBytes (front_fields flags offset)
unfolding front_fields
front-small flags offset = both (field 4 1) _ (field-small 4 1) (both (field 4 flags) (field 8 offset) (field-small 4 flags) (field-small 8 offset))

extent-small : (s : ImageSegment) → AreBytes (extent_fields s)
unfolding extent_fields
extent-small s =
    both (field 8 s.address) _ (field-small 8 s.address)
    (both (field 8 s.address) _ (field-small 8 s.address)
    (both (field 8 (length s.bytes)) _ (field-small 8 (length s.bytes)) (both (field 8 s.size) (field 8 4096) (field-small 8 s.size) (field-small 8 4096))))

programs-small : (end : ℕ) (ss : List ImageSegment) → AreBytes (program_headers end ss)
unfolding program_headers
programs-small end [] = All-nil (λ b. b < 256)
programs-small end (s ∷ ss) =
    both (program_header (offset_behind end s) s) (program_headers (end_behind end s) ss)
    (both (front_fields s.flags (offset_behind end s)) (extent_fields s) (front-small s.flags (offset_behind end s)) (extent-small s))
    (programs-small (end_behind end s) ss)

unless-small : (b : Bool) (xs : List ℕ) → AreBytes xs → AreBytes (if b then [] else xs)
unless-small true xs small = All-nil (λ b. b < 256)
unless-small false xs small = small

piece-small : (end : ℕ) (s : ImageSegment) → AreBytes s.bytes → AreBytes (piece_behind end s)
piece-small end s small =
    unless-small (nat_eq (length s.bytes) 0) (replicate (aligned end - end) 0 ++ s.bytes)
    (both (replicate (aligned end - end) 0) s.bytes (All-replicate (λ b. b < 256) (aligned end - end) 0 (omega arith)) small)

contents-small : (end : ℕ) (ss : List ImageSegment) → All (λ s. AreBytes s.bytes) ss → AreBytes (contents end ss)
unfolding contents
contents-small end [] small = All-nil (λ b. b < 256)
contents-small end (s ∷ ss) small =
    both (piece_behind end s) (contents (end_behind end s) ss) (piece-small end s (All-head (λ p. AreBytes p.bytes) s ss small))
    (contents-small (end_behind end s) ss (All-tail (λ p. AreBytes p.bytes) s ss small))

-- so it is
pub file-small : (image : Image) → All (λ s. All (λ b. b < 256) s.bytes) image.segments → All (λ b. b < 256) (file_of image)
file-small image small =
    let count = length image.segments in
    both (file_header image.entry count) _
    (both kind_fields (place_fields image.entry ++ size_fields count) kind-small (both (place_fields image.entry) (size_fields count) (place-small image.entry) (size-small count)))
    (both (program_headers (headers_end count) image.segments) (contents (headers_end count) image.segments) (programs-small (headers_end count) image.segments) (contents-small (headers_end count) image.segments small))
