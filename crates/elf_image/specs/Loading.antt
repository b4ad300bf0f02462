-- The state in which a run of an image's file begins.
use Rattle.std.specs.Prelude.{◌≡◌, ℕ, List}
use Rattle.rv_code.specs.Images.{Image, started}
use Rattle.rv_code.specs.Machine.{State}
use Rattle.elf_image.specs.Reading.{IsFileOf}

-- the bytes pass all checks of reading, and their run on an input begins in this state
abbrev pub IsLoadOf : (file input : List ℕ) → State → Type 0
IsLoadOf file input state = (image : Image) × IsFileOf file image × (state ≡ started image input)
