-- What the bytes of a file are: those of an image, or none.
use Rattle.std.specs.Prelude.{ℕ, ◌<◌, ◌≤◌, List, length}
use Rattle.acg_base.specs.declared.limits.TheConstants.{LIMIT_IMAGE}
use Rattle.rv_code.specs.Images.{Image}
use Rattle.elf_image.specs.Reading.{IsFileOf, IsRefused}
use Rattle.elf_image.specs.declared.error.ImageError.{ImageError}
use Rattle.elf_image.specs.declared.error.ImageError.TheVariants as error
use Rattle.acg_words.specs.declared.line.Line.{Line}
use Rattle.acg_words.specs.declared.line.Line.TheVariants.{Memory, LimitImage, ImageShort, ImageMagic, ImageClass, ImageMachine, ImageKind, ImageHeader, ImageSegment}

-- bytes that aren't too many pass all checks of reading, and give the image
abbrev pub GivesImage : (bytes : List ℕ) → Image → Type 0
GivesImage bytes image = (length bytes ≤ LIMIT_IMAGE) × IsFileOf bytes image

-- bytes that aren't too many fail a check, which is the first that they fail
abbrev pub FailsCheck : (bytes : List ℕ) → ImageError → Type 0
FailsCheck bytes e = (length bytes ≤ LIMIT_IMAGE) × IsRefused bytes e

-- the line with which bytes are refused as an image: they are too many, or fail a check. Memory may run out
abbrev pub RefusesImage : (bytes : List ℕ) → Line → Type 0
RefusesImage bytes LimitImage = LIMIT_IMAGE < length bytes
RefusesImage bytes ImageShort = FailsCheck bytes error.Short
RefusesImage bytes ImageMagic = FailsCheck bytes error.Magic
RefusesImage bytes ImageClass = FailsCheck bytes error.Class
RefusesImage bytes ImageMachine = FailsCheck bytes error.Machine
RefusesImage bytes ImageKind = FailsCheck bytes error.Kind
RefusesImage bytes ImageHeader = FailsCheck bytes error.Header
RefusesImage bytes (ImageSegment index) = FailsCheck bytes (error.Segment index)
RefusesImage bytes Memory = Unit {0}
RefusesImage bytes _ = ⊥
