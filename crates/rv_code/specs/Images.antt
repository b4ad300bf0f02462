-- Images: what a machine is loaded from.
use Rattle.std.specs.Prelude.{◌≡◌, ◌⊎◌, ◌+◌, ◌-◌, ◌^◌, ◌≤◌, ℕ, List, ◌++◌, length, map, replicate, sum_by, All, AllPairs}
use Rattle.acg_base.specs.declared.limits.TheConstants.{LIMIT_IMAGE}
use Rattle.rv_code.specs.Machine.{Segment, State, loaded}

-- a segment of an image: flags are the sum of X 1, W 2 and R 4, and zeros stand behind its bytes up to its size
pub record ImageSegment : Type 0 where
  pub address : ℕ
  pub flags : ℕ
  pub bytes : List ℕ
  pub size : ℕ

-- the entry is the address of the first instruction
pub record Image : Type 0 where
  pub entry : ℕ
  pub segments : List ImageSegment

-- no address is in both
abbrev pub AreApart : ImageSegment → ImageSegment → Type 0
AreApart s t = (s.size ≡ 0) ⊎ ((t.size ≡ 0) ⊎ ((s.address + s.size ≤ t.address) ⊎ (t.address + t.size ≤ s.address)))

-- the most bytes of an image's segments
abbrev pub image_limit : ℕ
image_limit = LIMIT_IMAGE

-- what is asked of every image
pub record IsImage (image : Image) : Type 0 where
  pub few : length image.segments ≤ 16
  pub flags : All (λ s. s.flags ≤ 7) image.segments
  pub sizes : All (λ s. length s.bytes ≤ s.size) image.segments
  pub low : All (λ s. s.address + s.size ≤ 2 ^ 32) image.segments
  pub apart : AllPairs AreApart image.segments
  pub total : sum_by (λ s. s.size) image.segments ≤ image_limit

-- the memory of a segment
abbrev pub filled : ImageSegment → Segment
filled s = record { address = s.address; flags = s.flags; bytes = s.bytes ++ replicate (s.size - length s.bytes) 0 }

-- the state before the first instruction of an image on an input
abbrev pub started : Image → (input : List ℕ) → State
started image input = loaded image.entry (map filled image.segments) input
