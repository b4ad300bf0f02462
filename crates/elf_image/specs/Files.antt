-- The file of an image.
use Rattle.std.specs.Prelude.{ℕ, ◌+◌, ◌-◌, ◌*◌, ◌/◌, ◌^◌, ◌<◌, nat_eq, if◌then◌else◌, List, [], ◌∷◌, ◌++◌, length, replicate}
use Rattle.rv_code.specs.Images.{Image, ImageSegment}
use Rattle.elf_image.specs.Fields.{field}

-- the first 16 bytes: the magic ones, then 64-bit numbers, lowest byte first, version 1
abbrev pub identification : List ℕ
identification = 127 ∷ 69 ∷ 76 ∷ 70 ∷ 2 ∷ 1 ∷ 1 ∷ 0 ∷ 0 ∷ 0 ∷ 0 ∷ 0 ∷ 0 ∷ 0 ∷ 0 ∷ 0 ∷ []

-- the kind, the machine and the version of the file
unfoldable pub kind_fields : List ℕ
kind_fields = identification ++ (field 2 2 ++ (field 2 243 ++ field 4 1))

-- the entry, and where the program headers begin; no sections and no flags
unfoldable pub place_fields : (entry : ℕ) → List ℕ
place_fields entry = field 8 entry ++ (field 8 64 ++ (field 8 0 ++ field 4 0))

-- the sizes of this header and of a program header, and how many program headers there are; no sections
unfoldable pub size_fields : (count : ℕ) → List ℕ
size_fields count = field 2 64 ++ (field 2 56 ++ (field 2 count ++ (field 2 0 ++ (field 2 0 ++ field 2 0))))

-- the header of a file, of 64 bytes
abbrev pub file_header : (entry count : ℕ) → List ℕ
file_header entry count = kind_fields ++ (place_fields entry ++ size_fields count)

-- the least multiple of 4096 not below an end
abbrev pub aligned : (end : ℕ) → ℕ
aligned end = (end + 4095) / 4096 * 4096

-- where the bytes of a segment stand behind an end: one without bytes stands nowhere, and has 0
abbrev pub offset_behind : (end : ℕ) → ImageSegment → ℕ
offset_behind end s = if nat_eq (length s.bytes) 0 then 0 else aligned end

-- the end of the bytes up to those of a segment
abbrev pub end_behind : (end : ℕ) → ImageSegment → ℕ
end_behind end s = if nat_eq (length s.bytes) 0 then end else aligned end + length s.bytes

-- the bytes of a segment, with zeros before them
abbrev pub piece_behind : (end : ℕ) → ImageSegment → List ℕ
piece_behind end s = if nat_eq (length s.bytes) 0 then [] else replicate (aligned end - end) 0 ++ s.bytes

-- to load, the flags, and where the bytes stand
unfoldable pub front_fields : (flags offset : ℕ) → List ℕ
front_fields flags offset = field 4 1 ++ (field 4 flags ++ field 8 offset)

-- the address twice, the number of bytes, the size, and what the bytes are aligned to
unfoldable pub extent_fields : ImageSegment → List ℕ
extent_fields s =
    field 8 s.address ++ (field 8 s.address ++ (field 8 (length s.bytes) ++ (field 8 s.size ++ field 8 4096)))

-- a program header, of 56 bytes
abbrev pub program_header : (offset : ℕ) → ImageSegment → List ℕ
program_header offset s = front_fields s.flags offset ++ extent_fields s

-- the program headers of segments whose bytes stand behind an end
unfoldable pub program_headers : (end : ℕ) → List ImageSegment → List ℕ
program_headers end [] = []
program_headers end (s ∷ ss) = program_header (offset_behind end s) s ++ program_headers (end_behind end s) ss

-- the bytes of segments, which stand behind an end
unfoldable pub contents : (end : ℕ) → List ImageSegment → List ℕ
contents end [] = []
contents end (s ∷ ss) = piece_behind end s ++ contents (end_behind end s) ss

-- the end of the bytes of segments that stand behind an end
unfoldable pub end_of : (end : ℕ) → List ImageSegment → ℕ
end_of end [] = end
end_of end (s ∷ ss) = end_of (end_behind end s) ss

-- the end of the headers of so many segments
abbrev pub headers_end : (count : ℕ) → ℕ
headers_end count = 64 + 56 * count

-- an image whose numbers have room in the fields of a file: its entry in 64 bits
abbrev pub IsWritable : Image → Type 0
IsWritable image = image.entry < 2 ^ 64

-- the file of an image: its headers, and behind them the bytes of its segments
abbrev pub file_of : Image → List ℕ
file_of image =
    let count = length image.segments in
    file_header image.entry count
    ++ (program_headers (headers_end count) image.segments ++ contents (headers_end count) image.segments)
