-- The file of an image passes all checks of reading, and gives the image.
use Rattle.std.proofs.Common.{◌≡◌, ℕ, suc, ◌+◌, ◌-◌, ◌*◌, ◌%◌, ◌^◌, ◌<◌, ◌≤◌, nat_eq, if◌then◌else◌, List, [], ◌∷◌, ◌++◌, length, take, drop, replicate, All, refl, inl, inr, sym, ap, ◌∙◌, subst, append_assoc, arith, length-append}
use Rattle.std.proofs.lemmas.Bool.{cases_lt}
use Rattle.std.proofs.lemmas.List.{append-nil, length-drop, length-replicate, drop-drop, take-append-le, take_all}
use Rattle.std.proofs.lemmas.List.Elements.{All-head, All-tail}
use Rattle.rv_code.specs.Images.{Image, ImageSegment, IsImage}
use Rattle.elf_image.specs.Fields.{field, number, kind_of, machine_of, entry_of, table_of, header_size, header_count, header_at, type_at, offset_at, file_size_at, segment_at}
use Rattle.elf_image.specs.Files.{identification, kind_fields, place_fields, size_fields, front_fields, extent_fields, file_header, aligned, offset_behind, end_behind, piece_behind, program_header, program_headers, contents, end_of, headers_end, IsWritable, file_of}
use Rattle.elf_image.specs.Reading.{IsWithin, segments_of, image_by, IsFileOf}
use Rattle.elf_image.proofs.FieldLaws.{field-length, drop-behind, number-behind, number-skip, number-first}
use Rattle.elf_image.proofs.FileLaws.{some-bytes, piece-length, end_of-above, end_of-image}
use Rattle.elf_image.proofs.SegmentLaws.{segments-load}

-- ---- the header

-- the header, and what stands behind it
abbrev header_then : (entry count : ℕ) (rest : List ℕ) → List ℕ
header_then entry count rest =
    identification
    ++ (field 2 2 ++ (field 2 243 ++ (field 4 1 ++ (field 8 entry ++ (field 8 64 ++ (field 8 0 ++ (field 4 0
    ++ (field 2 64 ++ (field 2 56 ++ (field 2 count ++ (field 2 0 ++ (field 2 0 ++ (field 2 0 ++ rest)))))))))))))

header-then : (entry count : ℕ) (rest : List ℕ) → file_header entry count ++ rest ≡ header_then entry count rest
unfolding kind_fields place_fields size_fields
header-then entry count rest = simp append_assoc refl

pub header-length : (entry count : ℕ) → length (file_header entry count) ≡ 64
unfolding kind_fields place_fields size_fields
header-length entry count = simp (length-append, field-length) refl

record Fields (file : List ℕ) (entry count : ℕ) : Type 0 where
  kind : kind_of file ≡ 2
  machine : machine_of file ≡ 243
  begins : entry_of file ≡ entry
  table : table_of file ≡ 64
  size : header_size file ≡ 56
  many : header_count file ≡ count

header-fields : (entry count : ℕ) (rest : List ℕ) → entry < 2 ^ 64 → count < 2 ^ 16 → Fields (header_then entry count rest) entry count
header-fields entry count rest e c =
    record {
      kind = number-behind identification _ 2 0 ∙ number-first 2 2 _ (omega arith);
      machine = number-behind identification _ 2 2 ∙ number-skip 2 0 2 2 _ ∙ number-first 2 243 _ (omega arith);
      begins = number-behind identification _ 8 8 ∙ number-skip 8 6 2 2 _ ∙ number-skip 8 4 2 243 _ ∙ number-skip 8 0 4 1 _ ∙ number-first 8 entry _ e;
      table =
          number-behind identification _ 8 16 ∙ number-skip 8 14 2 2 _ ∙ number-skip 8 12 2 243 _ ∙ number-skip 8 8 4 1 _ ∙ number-skip 8 0 8 entry _
          ∙ number-first 8 64 _ (omega arith);
      size =
          number-behind identification _ 2 38 ∙ number-skip 2 36 2 2 _ ∙ number-skip 2 34 2 243 _ ∙ number-skip 2 30 4 1 _ ∙ number-skip 2 22 8 entry _
          ∙ number-skip 2 14 8 64 _ ∙ number-skip 2 6 8 0 _ ∙ number-skip 2 2 4 0 _ ∙ number-skip 2 0 2 64 _ ∙ number-first 2 56 _ (omega arith);
      many =
          number-behind identification _ 2 40 ∙ number-skip 2 38 2 2 _ ∙ number-skip 2 36 2 243 _ ∙ number-skip 2 32 4 1 _ ∙ number-skip 2 24 8 entry _
          ∙ number-skip 2 16 8 64 _ ∙ number-skip 2 8 8 0 _ ∙ number-skip 2 4 4 0 _ ∙ number-skip 2 2 2 64 _ ∙ number-skip 2 0 2 56 _ ∙ number-first 2 count _ c;
    }

-- ---- a program header

-- a program header and its segment's bytes stand in the file
record StandsAt (file : List ℕ) (k : ℕ) (s : ImageSegment) : Type 0 where
  type : type_at file k ≡ 1
  same : segment_at file k ≡ s
  within : IsWithin file (offset_at file k) (file_size_at file k)

record Numbers (header : List ℕ) (offset : ℕ) (s : ImageSegment) : Type 0 where
  type : number 4 0 header ≡ 1
  flags : number 4 4 header ≡ s.flags
  place : number 8 8 header ≡ offset
  address : number 8 16 header ≡ s.address
  many : number 8 32 header ≡ length s.bytes
  size : number 8 40 header ≡ s.size

-- the numbers of a segment fit the fields
record Fits (s : ImageSegment) : Type 0 where
  flags : s.flags ≤ 7
  sized : length s.bytes ≤ s.size
  low : s.address + s.size ≤ 2 ^ 32

program-numbers : (offset : ℕ) (s : ImageSegment) (rest : List ℕ) → offset < 2 ^ 64 → Fits s → Numbers (program_header offset s ++ rest) offset s
unfolding front_fields extent_fields
program-numbers offset s rest o fits =
    let whole : program_header offset s ++ rest
    ≡ field 4 1 ++ (field 4 s.flags ++ (field 8 offset ++ (field 8 s.address ++ (field 8 s.address ++ (field 8 (length s.bytes) ++ (field 8 s.size ++ (field 8 4096 ++ rest))))))) =
    simp append_assoc refl in
    let flags : s.flags < 256 ^ 4 = omega (arith, fits.flags) in
    let address : s.address < 256 ^ 8 = omega (arith, fits.low) in
    let bytes : length s.bytes < 256 ^ 8 = omega (arith, fits.low, fits.sized) in
    let size : s.size < 256 ^ 8 = omega (arith, fits.low) in
    rw whole
    (record {
      type = number-first 4 1 _ (omega arith);
      flags = number-skip 4 0 4 1 _ ∙ number-first 4 s.flags _ flags;
      place = number-skip 8 4 4 1 _ ∙ number-skip 8 0 4 s.flags _ ∙ number-first 8 offset _ o;
      address = number-skip 8 12 4 1 _ ∙ number-skip 8 8 4 s.flags _ ∙ number-skip 8 0 8 offset _ ∙ number-first 8 s.address _ address;
      many =
          number-skip 8 28 4 1 _ ∙ number-skip 8 24 4 s.flags _ ∙ number-skip 8 16 8 offset _ ∙ number-skip 8 8 8 s.address _ ∙ number-skip 8 0 8 s.address _
          ∙ number-first 8 (length s.bytes) _ bytes;
      size =
          number-skip 8 36 4 1 _ ∙ number-skip 8 32 4 s.flags _ ∙ number-skip 8 24 8 offset _ ∙ number-skip 8 16 8 s.address _ ∙ number-skip 8 8 8 s.address _
          ∙ number-skip 8 0 8 (length s.bytes) _ ∙ number-first 8 s.size _ size;
    })

-- ---- the bytes of a segment

-- the range of some bytes that stand behind an end
record Range (file : List ℕ) (offset : ℕ) (bytes : List ℕ) : Type 0 where
  taken : take (length bytes) (drop offset file) ≡ bytes
  within : IsWithin file offset (length bytes)

piece-range : (file rest : List ℕ) (end : ℕ) (bytes : List ℕ)
    → drop end file ≡ (if nat_eq (length bytes) 0 then [] else replicate (aligned end - end) 0 ++ bytes) ++ rest
    → Range file (if nat_eq (length bytes) 0 then 0 else aligned end) bytes
piece-range file rest end [] h = record { taken = refl; within = inl refl }
piece-range file rest end (b ∷ bytes) h =
    let zeros : List ℕ = replicate (aligned end - end) 0 in
    let all : List ℕ = b ∷ bytes in
    let piece : drop end file ≡ (zeros ++ all) ++ rest = rw (some-bytes b bytes) at h in
    let count : length zeros ≡ aligned end - end = length-replicate {A = ℕ} (aligned end - end) 0 in
    let split : aligned end ≡ end + (length zeros + 0) = omega (arith, count) in
    let there : drop (aligned end) file ≡ all ++ rest =
    ap (λ k. drop k file) split ∙ sym (drop-drop (length zeros + 0) end file) ∙ ap (drop (length zeros + 0)) (piece ∙ append_assoc zeros all rest)
    ∙ drop-behind zeros (all ++ rest) 0 in
    rw (some-bytes b bytes)
    (record {
      taken = ap (take (length all)) there ∙ take-append-le (length all) all rest (omega arith) ∙ take_all (length all) all (omega arith);
      within = inr (omega (arith, length-drop (aligned end) file, ap length there, length-append all rest));
    })

-- where bytes stand fits its field
range-low : (end : ℕ) (bytes : List ℕ) → end ≤ 2 ^ 32 → (if nat_eq (length bytes) 0 then 0 else aligned end) < 2 ^ 64
range-low end [] h = omega arith
range-low end (b ∷ bytes) h = rw (some-bytes b bytes) (omega (arith, h))

-- ---- all program headers

-- the program headers of segments stand from one on, and their bytes behind an end
record Stand (file : List ℕ) (k end : ℕ) (ss : List ImageSegment) : Type 0 where
  table : table_of file ≡ 64
  back : List ℕ
  headers : drop (64 + 56 * k) file ≡ program_headers end ss ++ back
  bytes : drop end file ≡ contents end ss
  below : end_of end ss ≤ 2 ^ 32

program-length : (offset : ℕ) (s : ImageSegment) → length (program_header offset s) ≡ 56
unfolding front_fields extent_fields
program-length offset s = simp (length-append, field-length) refl

stand-first : (file : List ℕ) (k end : ℕ) (s : ImageSegment) (ss : List ImageSegment) → Fits s → Stand file k end (s ∷ ss) → StandsAt file k s
unfolding program_headers contents
stand-first file k end s ss fits h =
    let offset = offset_behind end s in
    let behind = program_headers (end_behind end s) ss in
    let at : header_at file k ≡ program_header offset s ++ (behind ++ h.back) =
    ap (λ t. drop (t + 56 * k) file) h.table ∙ h.headers ∙ append_assoc (program_header offset s) behind h.back in
    let low : offset < 2 ^ 64 = range-low end s.bytes (omega (arith, end_of-above end (s ∷ ss), h.below)) in
    let numbers : Numbers (header_at file k) offset s = rw at (program-numbers offset s (behind ++ h.back) low fits) in
    let range : Range file offset s.bytes = piece-range file (contents (end_behind end s) ss) end s.bytes h.bytes in
    let flags : s.flags % 8 ≡ s.flags = omega (arith, fits.flags) in
    record {
      type = numbers.type;
      same = rw (numbers.address, numbers.flags, numbers.many, numbers.place, numbers.size, range.taken, flags) refl;
      within = rw (numbers.many, numbers.place) range.within;
    }

stand-rest : (file : List ℕ) (k end : ℕ) (s : ImageSegment) (ss : List ImageSegment) → Stand file k end (s ∷ ss) → Stand file (suc k) (end_behind end s) ss
unfolding program_headers contents end_of
stand-rest file k end s ss h =
    let header = program_header (offset_behind end s) s in
    let behind = program_headers (end_behind end s) ss in
    let next : 64 + 56 * suc k ≡ (64 + 56 * k) + (length header + 0) = omega (arith, program-length (offset_behind end s) s) in
    let piece : end_behind end s ≡ end + (length (piece_behind end s) + 0) = omega (arith, piece-length end s) in
    record {
      table = h.table;
      back = h.back;
      headers =
          ap (λ n. drop n file) next ∙ sym (drop-drop (length header + 0) (64 + 56 * k) file)
          ∙ ap (drop (length header + 0)) (h.headers ∙ append_assoc header behind h.back) ∙ drop-behind header (behind ++ h.back) 0;
      bytes =
          ap (λ n. drop n file) piece ∙ sym (drop-drop (length (piece_behind end s) + 0) end file)
          ∙ ap (drop (length (piece_behind end s) + 0)) h.bytes ∙ drop-behind (piece_behind end s) (contents (end_behind end s) ss) 0;
      below = h.below;
    }

-- all of their segments are read
stand-segments : (file : List ℕ) (k end : ℕ) (ss : List ImageSegment) → All Fits ss → Stand file k end ss
    → segments_of file (k + length ss) ≡ segments_of file k ++ ss
stand-segments file k end [] fits h = ap (segments_of file) (omega arith) ∙ sym (append-nil (segments_of file k))
stand-segments file k end (s ∷ ss) fits h =
    let first = stand-first file k end s ss (All-head Fits s ss fits) h in
    let later = stand-segments file (suc k) (end_behind end s) ss (All-tail Fits s ss fits) (stand-rest file k end s ss h) in
    let next : k + length (s ∷ ss) ≡ suc k + length ss = omega arith in
    ap (segments_of file) next ∙ later
    ∙ ap (λ xs. xs ++ ss) (segments-load file k first.type ∙ ap (λ t. segments_of file k ++ t ∷ []) first.same)
    ∙ append_assoc (segments_of file k) (s ∷ []) ss

-- and the ranges of their bytes don't pass the end
stand-within : (file : List ℕ) (k end : ℕ) (ss : List ImageSegment) → All Fits ss → Stand file k end ss
    → (j : ℕ) → k ≤ j → j < k + length ss → IsWithin file (offset_at file j) (file_size_at file j)
stand-within file k end [] fits h j low high = absurd (omega (arith, low, high))
stand-within file k end (s ∷ ss) fits h j low high = elim (cases_lt k j) [
  | inl later ↦
      stand-within file (suc k) (end_behind end s) ss (All-tail Fits s ss fits) (stand-rest file k end s ss h) j (omega (arith, later)) (omega (arith, high))
  | inr there ↦
      subst (λ i. IsWithin file (offset_at file i) (file_size_at file i)) (let e : k ≡ j = omega (arith, low, there) in e)
      (stand-first file k end s ss (All-head Fits s ss fits) h).within
]

headers-length : (end : ℕ) (ss : List ImageSegment) → length (program_headers end ss) ≡ 56 * length ss
unfolding program_headers
headers-length end [] = refl
headers-length end (s ∷ ss) =
    omega (arith, headers-length (end_behind end s) ss, program-length (offset_behind end s) s, length-append (program_header (offset_behind end s) s) (program_headers (end_behind end s) ss))

-- ---- the whole file

-- what stands behind the headers
pub headers-reach : (entry : ℕ) (ss : List ImageSegment)
    → length (file_header entry (length ss) ++ program_headers (headers_end (length ss)) ss) ≡ headers_end (length ss)
headers-reach entry ss =
    let header = file_header entry (length ss) in
    let programs = program_headers (headers_end (length ss)) ss in
    omega (arith, header-length entry (length ss), headers-length (headers_end (length ss)) ss, length-append header programs)

-- the three parts make the file
pub parts : (entry : ℕ) (ss : List ImageSegment) (first second whole : List ℕ)
    → first ≡ file_header entry (length ss) → second ≡ first ++ program_headers (headers_end (length ss)) ss → whole ≡ second ++ contents (length second) ss
    → whole ≡ file_of (record { entry = entry; segments = ss })
parts entry ss first second whole f s w =
    let end = headers_end (length ss) in
    let header = file_header entry (length ss) in
    let programs = program_headers end ss in
    let there : second ≡ header ++ programs = s ∙ ap (λ xs. xs ++ programs) f in
    w ∙ ap (λ xs. xs ++ contents (length xs) ss) there ∙ ap (λ n. (header ++ programs) ++ contents n ss) (headers-reach entry ss)
    ∙ append_assoc header programs (contents end ss)

fields-of : (image : Image) → IsImage image → IsWritable image → Fields (file_of image) image.entry (length image.segments)
fields-of image h w =
    let count = length image.segments in
    let rest = program_headers (headers_end count) image.segments ++ contents (headers_end count) image.segments in
    let whole : file_of image ≡ header_then image.entry count rest = header-then image.entry count rest in
    rw whole (header-fields image.entry count rest w (omega (arith, h.few)))

stands-of : (image : Image) → IsImage image → IsWritable image → Stand (file_of image) 0 (headers_end (length image.segments)) image.segments
stands-of image h w =
    let count = length image.segments in
    let end = headers_end count in
    let header = file_header image.entry count in
    let programs = program_headers end image.segments in
    let bytes = contents end image.segments in
    let behind : 64 + 56 * 0 ≡ length header + 0 = omega (arith, header-length image.entry count) in
    let all : end ≡ length (header ++ programs) + 0 =
    omega (arith, header-length image.entry count, headers-length end image.segments, length-append header programs) in
    record {
      table = (fields-of image h w).table;
      back = bytes;
      headers = ap (λ n. drop n (file_of image)) behind ∙ drop-behind header (programs ++ bytes) 0;
      bytes =
          ap (λ n. drop n (file_of image)) all ∙ ap (drop (length (header ++ programs) + 0)) (sym (append_assoc header programs bytes))
          ∙ drop-behind (header ++ programs) bytes 0;
      below = subst (λ ss. end_of end ss ≤ 2 ^ 32) (take_all count image.segments (omega arith)) (end_of-image image h count);
    }

pub file-length : (image : Image)
    → length (file_of image) ≡ headers_end (length image.segments) + length (contents (headers_end (length image.segments)) image.segments)
file-length image =
    let count = length image.segments in
    let end = headers_end count in
    let programs = program_headers end image.segments in
    let bytes = contents end image.segments in
    omega (arith, header-length image.entry count, headers-length end image.segments, length-append (file_header image.entry count) (programs ++ bytes), length-append programs bytes)

pub written : (image : Image) → IsImage image → IsWritable image → IsFileOf (file_of image) image
unfolding segments_of kind_fields
written image h w =
    let file = file_of image in
    let count = length image.segments in
    let fields = fields-of image h w in
    let stands = stands-of image h w in
    let long = file-length image in
    let fits : All Fits image.segments = λ i d within. record { flags = h.flags i d within; sized = h.sizes i d within; low = h.low i d within } in
    let segments : segments_of file (header_count file) ≡ image.segments =
    ap (segments_of file) (let e : header_count file ≡ 0 + count = omega (arith, fields.many) in e) ∙ stand-segments file 0 (headers_end count) image.segments fits stands in
    let gives : image ≡ image_by file (header_count file) = rw (segments, fields.begins) refl in
    record {
      header = record {
        long = omega (arith, long);
        magic = refl;
        class = refl;
        machine = fields.machine;
        kind = fields.kind;
        table = (fields.size, (omega (arith, fields.many, h.few), inr (omega (arith, fields.table, fields.many, long))));
      };
      loads = record {
        within = λ k below load. stand-within file 0 (headers_end count) image.segments fits stands k (omega arith) (omega (arith, below, fields.many));
        valid = subst IsImage gives h;
      };
      gives = gives;
    }
