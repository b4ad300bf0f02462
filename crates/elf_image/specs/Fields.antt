-- Fields of image files: numbers of some bytes each, the lowest byte first.
use Rattle.std.specs.Prelude.{ℕ, ◌+◌, ◌*◌, ◌%◌, List, take, drop}
use Rattle.byteorder.specs.Endian.{little_bytes, little_number}
use Rattle.rv_code.specs.Images.{ImageSegment}

-- the n bytes of a number
unfoldable pub field : (n x : ℕ) → List ℕ
field n x = little_bytes n x

-- the number in the n bytes from a place on
unfoldable pub number : (n at : ℕ) → List ℕ → ℕ
number n at bytes = little_number n (drop at bytes)

-- ---- the header of a file

-- what kind of file it is: 2 is a program that stands at its addresses
abbrev pub kind_of : List ℕ → ℕ
kind_of file = number 2 16 file

-- what machine it is for: 243 is RISC-V
abbrev pub machine_of : List ℕ → ℕ
machine_of file = number 2 18 file

-- the address of the first instruction
abbrev pub entry_of : List ℕ → ℕ
entry_of file = number 8 24 file

-- where the program headers begin
abbrev pub table_of : List ℕ → ℕ
table_of file = number 8 32 file

-- how many bytes a program header has
abbrev pub header_size : List ℕ → ℕ
header_size file = number 2 54 file

-- how many program headers there are
abbrev pub header_count : List ℕ → ℕ
header_count file = number 2 56 file

-- ---- program headers, numbered from 0

-- the bytes from a program header on
abbrev pub header_at : List ℕ → ℕ → List ℕ
header_at file k = drop (table_of file + 56 * k) file

-- what it is for: 1 is a segment to load
abbrev pub type_at : List ℕ → ℕ → ℕ
type_at file k = number 4 0 (header_at file k)

-- where the bytes of its segment begin in the file
abbrev pub offset_at : List ℕ → ℕ → ℕ
offset_at file k = number 8 8 (header_at file k)

-- how many bytes of the file its segment has
abbrev pub file_size_at : List ℕ → ℕ → ℕ
file_size_at file k = number 8 32 (header_at file k)

-- its segment: the bytes are those of its range in the file, and its size is that in memory. Of the flags the lowest three
-- count
abbrev pub segment_at : List ℕ → ℕ → ImageSegment
segment_at file k = record {
  address = number 8 16 (header_at file k);
  flags = number 4 4 (header_at file k) % 8;
  bytes = take (file_size_at file k) (drop (offset_at file k) file);
  size = number 8 40 (header_at file k);
}
