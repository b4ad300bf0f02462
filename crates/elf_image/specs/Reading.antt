-- Reading bytes as an image: the checks, in their order.
use Rattle.std.specs.Prelude.{◌≡◌, ◌⊎◌, ℕ, zero, suc, ◌+◌, ◌*◌, ◌^◌, ◌<◌, ◌≤◌, All, sum_by, nat_eq, if◌then◌else◌, List, [], ◌∷◌, ◌++◌, length, take, drop}
use Rattle.rv_code.specs.Images.{Image, ImageSegment, IsImage, AreApart, image_limit}
use Rattle.elf_image.specs.Fields.{kind_of, machine_of, entry_of, table_of, header_size, header_count, type_at, offset_at, file_size_at, segment_at}
use Rattle.elf_image.specs.declared.error.ImageError.{ImageError}
use Rattle.elf_image.specs.declared.error.ImageError.TheVariants.{Memory, Short, Magic, Class, Machine, Kind, Header, Segment}

-- a range of the file doesn't pass its end; one without bytes never does
abbrev pub IsWithin : List ℕ → (offset size : ℕ) → Type 0
IsWithin file offset size = (size ≡ 0) ⊎ (offset + size ≤ length file)

-- ---- the checks of the header

abbrev pub IsLong : List ℕ → Type 0
IsLong file = 64 ≤ length file

abbrev pub HasMagic : List ℕ → Type 0
HasMagic file = take 4 file ≡ 127 ∷ 69 ∷ 76 ∷ 70 ∷ []

-- 64-bit numbers, lowest byte first, version 1
abbrev pub HasClass : List ℕ → Type 0
HasClass file = take 3 (drop 4 file) ≡ 2 ∷ 1 ∷ 1 ∷ []

abbrev pub HasMachine : List ℕ → Type 0
HasMachine file = machine_of file ≡ 243

abbrev pub HasKind : List ℕ → Type 0
HasKind file = kind_of file ≡ 2

-- at most 16 program headers of 56 bytes, which don't pass the end of the file
abbrev pub HasTable : List ℕ → Type 0
HasTable file = (header_size file ≡ 56) × ((header_count file ≤ 16) × IsWithin file (table_of file) (56 * header_count file))

-- the header passes its checks
pub record HasHeader (file : List ℕ) : Type 0 where
  pub long : IsLong file
  pub magic : HasMagic file
  pub class : HasClass file
  pub machine : HasMachine file
  pub kind : HasKind file
  pub table : HasTable file

-- ---- the checks of the segments

-- the segments of the first n program headers: headers that are for something else are passed over
unfoldable pub segments_of : List ℕ → ℕ → List ImageSegment
segments_of file zero = []
segments_of file (suc n) =
    if nat_eq (type_at file n) 1 then segments_of file n ++ segment_at file n ∷ [] else segments_of file n

-- the image that the first n program headers give
abbrev pub image_by : List ℕ → ℕ → Image
image_by file n = record { entry = entry_of file; segments = segments_of file n }

-- a stretch of memory, as a segment without bytes
abbrev pub stretch : (address size : ℕ) → ImageSegment
stretch address size = record { address = address; flags = 0; bytes = []; size = size }

-- a segment with so many bytes, from an address on and of a size, makes an image with those before it
pub record Joins (before : List ImageSegment) (file_size address size : ℕ) : Type 0 where
  pub sized : file_size ≤ size
  pub low : address + size ≤ 2 ^ 32
  pub total : sum_by (λ s. s.size) before + size ≤ image_limit
  pub apart : All (λ s. AreApart s (stretch address size)) before

-- the first n program headers pass their checks: the ranges of their segments don't pass the end of the file, and they give
-- an image
pub record Loads (file : List ℕ) (n : ℕ) : Type 0 where
  pub within : (k : ℕ) → k < n → type_at file k ≡ 1 → IsWithin file (offset_at file k) (file_size_at file k)
  pub valid : IsImage (image_by file n)

-- ---- what is read

-- all checks pass, and the image is the one that all program headers give
pub record IsFileOf (file : List ℕ) (image : Image) : Type 0 where
  pub header : HasHeader file
  pub loads : Loads file (header_count file)
  pub gives : image ≡ image_by file (header_count file)

-- the check is the first that fails; want of memory is none
abbrev pub IsRefused : List ℕ → ImageError → Type 0
IsRefused file Short = IsLong file → ⊥
IsRefused file Magic = IsLong file × (HasMagic file → ⊥)
IsRefused file Class = IsLong file × (HasMagic file × (HasClass file → ⊥))
IsRefused file Machine = IsLong file × (HasMagic file × (HasClass file × (HasMachine file → ⊥)))
IsRefused file Kind = IsLong file × (HasMagic file × (HasClass file × (HasMachine file × (HasKind file → ⊥))))
IsRefused file Header =
    IsLong file × (HasMagic file × (HasClass file × (HasMachine file × (HasKind file × (HasTable file → ⊥)))))
IsRefused file (Segment index) =
    HasHeader file × ((index < header_count file) × (Loads file index × (Loads file (suc index) → ⊥)))
IsRefused file Memory = Unit {0}
