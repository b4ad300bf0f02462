-- What compiling an action gives: the bytes of an image that is right for it.
use Rattle.std.specs.Prelude.{◌≡◌, ℕ, ◌<◌, All, List, [], Some, slice_get}
use Rattle.acg_base.specs.declared.capacity.Capacity.{Capacity}
use Rattle.action_terms.specs.Actions.{Action}
use Rattle.action_terms.specs.Meaning.{action_of}
use Rattle.action_terms.specs.Numbering.{Listed}
use Rattle.rv_code.specs.Images.{Image}
use Rattle.rv_asm.specs.Conventions.{instruction_bytes}
use Rattle.elf_image.specs.Files.{file_of}
use Rattle.elf_image.specs.Reading.{IsFileOf}
use Rattle.rv_codegen.specs.Built.{unbuilt}
use Rattle.rv_codegen.specs.Measures.{factor_by}
use Rattle.rv_codegen.specs.RightImage.{Subject, IsRight, compiled_image}
use Rattle.sort_rules.specs.Admissible.{IsLeast, IsIllSorted, IsWellSorted}
use Rattle.sort_rules.specs.Tables.{MarkedTable}
use Rattle.acg_driver.specs.declared.compiling.Built.{Built}
use Rattle.acg_driver.specs.declared.compiling.CompileError.{CompileError}
use Rattle.acg_driver.specs.declared.compiling.CompileError.TheVariants.{Memory, IllSorted, Unbuilt}

-- what an image of the graph's action is compared with: a table of its sorts, and a capacity
abbrev pub subject_for : Listed → MarkedTable → Capacity → Subject
subject_for g t c = record { action = action_of g; table = t; stack = c.stack; units = c.units }

-- these are bytes that pass all checks of reading, and the image that they give is right
pub record IsRightFile (file : List ℕ) (image : Image) (x : Subject) : Type 0 where
  pub bytes : All (λ b. b < 256) file
  pub read : IsFileOf file image
  pub right : IsRight image x

-- the graph's action has code, and the table of its sorts is the least. The bytes are exactly the file of the image of some
-- code for the capacity, and right for the action; the factor is that of the action by this table
pub record IsCompiled (g : Listed) (t : MarkedTable) (c : Capacity) (built : Built) : Type 0 where
  pub whole : unbuilt (action_of g) ≡ []
  pub least : IsLeast (action_of g) t
  pub words : List ℕ
  pub exact : built.image.items ≡ file_of (compiled_image (instruction_bytes words) c.stack c.units)
  pub right : IsRightFile built.image.items (compiled_image (instruction_bytes words) c.stack c.units) (subject_for g t c)
  pub factor : built.factor ≡ factor_by (action_of g) t

-- why an action isn't compiled: no table of sorts is admissible for it, and the node is the least with a clash in the least
-- marked table; or it is well-sorted, and the node is the least of those that have no code yet; or memory ran out
abbrev pub IsUncompiledFor : Action → CompileError → Type 0
IsUncompiledFor a (IllSorted node) = IsIllSorted a node
IsUncompiledFor a (Unbuilt node) = IsWellSorted a × (slice_get (unbuilt a) 0 ≡ Some node)
IsUncompiledFor a Memory = Unit {0}
