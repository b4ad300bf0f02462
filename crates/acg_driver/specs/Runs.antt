-- What the run of a graph's action says.
use Rattle.std.specs.Prelude.{◌≡◌, ℕ, ◌<◌, All, zero, suc, List, [], ◌++◌}
use Rattle.acg_base.specs.declared.capacity.Capacity.{Capacity}
use Rattle.acg_base.specs.declared.status.Status.{Status}
use Rattle.action_terms.specs.Numbering.{Listed}
use Rattle.action_terms.specs.Meaning.{action_of}
use Rattle.action_terms.specs.Performances.{records}
use Rattle.rv_code.specs.Machine.{State, Outcome, Ran, Exited, Trapped, run}
use Rattle.rv_code.specs.Images.{Image}
use Rattle.elf_image.specs.Files.{file_of}
use Rattle.elf_image.specs.Loading.{IsLoadOf}
use Rattle.rv_codegen.specs.Measures.{factor_by}
use Rattle.rv_codegen.specs.RightImage.{Subject}
use Rattle.sort_rules.specs.Admissible.{IsLeast}
use Rattle.sort_rules.specs.Tables.{MarkedTable}
use Rattle.rv_machine.specs.Machines.{MachineValue, loaded_machine}
use Rattle.acg_words.specs.Lines.{header_line, message_lines}
use Rattle.acg_words.specs.declared.line.Line.{Line}
use Rattle.acg_words.specs.declared.line.Line.TheVariants.{Completed, Failed, Escaped, Full, Running}
use Rattle.acg_driver.specs.Compiling.{subject_for, IsRightFile}
use Rattle.acg_driver.specs.Says.{SaysBehind}
use Rattle.acg_driver.specs.declared.running.Loaded.{Loaded}

-- the messages of an output, a line each
abbrev pub output_lines : List ℕ → List ℕ
output_lines output = message_lines (records output)

-- the line that an exit with a code has
abbrev pub IsExit : ℕ → Line → Type 0
IsExit zero line = line ≡ Completed
IsExit (suc zero) line = line ≡ Failed
IsExit (suc (suc zero)) line = line ≡ Escaped
IsExit (suc (suc (suc zero))) line = line ≡ Full
IsExit (suc (suc (suc (suc code)))) line = ⊥

-- what a run says: the messages that were sent, then the line of its exit, or that it is still running
abbrev pub IsRunOf : Outcome → (text : List ℕ) → Status → Type 0
IsRunOf (Ran s) text status = SaysBehind (output_lines s.output) Running text status
IsRunOf (Exited code output) text status = (line : Line) × IsExit code line × SaysBehind (output_lines output) line text status
IsRunOf (Trapped cause) text status = ⊥

-- the bytes are the file of an image that is right for the graph's action by this table, with the capacity
abbrev pub IsMadeFor : Listed → MarkedTable → Capacity → (file : List ℕ) → Image → Type 0
IsMadeFor g t c file image = (file ≡ file_of image) × IsRightFile file image (subject_for g t c)

-- the action of the graph is well-sorted, and the file of some image is right for it by its least table, with the
-- capacity; behind the header line, with this capacity and the factor by that table, stands the run of the machine that is
-- loaded from the bytes of this file, on the bytes of an input, for at most so many instructions
abbrev pub IsRun : Listed → Capacity → (budget : ℕ) (left text : List ℕ) → Status → Type 0
IsRun g c budget left text status =
    (t : MarkedTable) × IsLeast (action_of g) t
    × ((file : List ℕ) × (image : Image) × IsMadeFor g t c file image
    × ((start : State) × IsLoadOf file left start × All (λ b. b < 256) left
    × ((rest : List ℕ) × (text ≡ header_line c.stack c.units (factor_by (action_of g) t) ++ rest)
    × IsRunOf (run budget start) rest status)))

-- the machine stands before the first instruction of the image that such a file gives
abbrev pub IsRightStart : Listed → MarkedTable → Capacity → MachineValue → Type 0
IsRightStart g t c machine =
    (file : List ℕ) × (image : Image) × IsMadeFor g t c file image × (machine ≡ loaded_machine image)

-- so does the machine that is loaded, by the least table, and the factor is that of the action by this table
abbrev pub IsLoaded : Listed → Capacity → Loaded → Type 0
IsLoaded g c loaded =
    (t : MarkedTable) × IsLeast (action_of g) t
    × (IsRightStart g t c loaded.machine × (loaded.factor ≡ factor_by (action_of g) t))
