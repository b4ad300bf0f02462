-- The command `run [budget=N] IMAGE [INPUT]`.
use Rattle.std.specs.Prelude.{◌≡◌, ◌⊎◌, ℕ, ◌≤◌, List, [], ◌∷◌, length, Option}
use Rattle.acg_base.specs.declared.limits.TheConstants.{LIMIT_IMAGE}
use Rattle.acg_base.specs.declared.status.Status.{Status}
use Rattle.rv_code.specs.Machine.{State, Outcome, Ran, Exited, Trapped, run}
use Rattle.rv_code.specs.Images.{Image}
use Rattle.elf_image.specs.Loading.{IsLoadOf}
use Rattle.rv_machine.specs.Machines.{last, loaded_machine}
use Rattle.acg_words.specs.declared.line.Line.{Line}
use Rattle.acg_words.specs.declared.line.Line.TheVariants as line
use Rattle.acg_driver.specs.Texts.{IsUnread}
use Rattle.acg_driver.specs.ImageFiles.{GivesImage, RefusesImage}
use Rattle.acg_driver.specs.Inputs.{IsBytesOf, RefusesInput}
use Rattle.acg_driver.specs.Says.{SaysBehind}
use Rattle.acg_driver.specs.declared.commands.run.Ready.{Ready}

-- what is said of an outcome: the bytes of the output as they are, and then that so many instructions ran without an end,
-- the code of the exit, or why and where the machine trapped, which stood before that instruction then
abbrev pub EndsAs : Outcome → (before : State) → (text : List ℕ) → Status → Type 0
EndsAs (Ran s) before text status = SaysBehind s.output line.Running text status
EndsAs (Exited code output) before text status = SaysBehind output (line.Exited code) text status
EndsAs (Trapped cause) before text status = SaysBehind before.output (line.Trapped cause before.pc) text status

-- what is said of a run of at most so many instructions
abbrev pub IsRunFrom : (budget : ℕ) (start : State) (text : List ℕ) → Status → Type 0
IsRunFrom budget start text status = EndsAs (run budget start) (last budget start) text status

-- the bytes are an image's
abbrev pub IsImageFile : (bytes : List ℕ) → Type 0
IsImageFile bytes = (x : Image) × GivesImage bytes x

-- the input is read where the image is one
abbrev pub GoesOnRun : (givens : List (List ℕ)) → Type 0
GoesOnRun (bytes ∷ []) = IsImageFile bytes
GoesOnRun _ = ⊥

-- the line with which it is refused, from what its files gave: the image's file isn't read or is no image, and then
-- the input's file isn't read or is too long
abbrev pub RefusesRun : (image : List ℕ) → (input : Option (List ℕ)) → (givens : List (List ℕ)) → Line → Type 0
RefusesRun image input [] line = IsUnread image line
RefusesRun image input (bytes ∷ givens) line =
    ((givens ≡ []) × RefusesImage bytes line) ⊎ (IsImageFile bytes × RefusesInput input givens line)

-- what is said where it isn't refused: the run of the machine that is loaded from the bytes, on the input
abbrev pub SaysRun : ℕ → (input : Option (List ℕ)) → (givens : List (List ℕ)) → (text : List ℕ) → Status → Type 0
SaysRun budget input [] text status = ⊥
SaysRun budget input (bytes ∷ givens) text status =
    (length bytes ≤ LIMIT_IMAGE) × ((left : List ℕ) × IsBytesOf input givens left
    × ((start : State) × IsLoadOf bytes left start × IsRunFrom budget start text status))

-- the machine stands before the first instruction of that run, beside its input
abbrev pub StartsRun : (input : Option (List ℕ)) → (givens : List (List ℕ)) → Ready → Type 0
StartsRun input [] ready = ⊥
StartsRun input (bytes ∷ givens) ready =
    (x : Image) × GivesImage bytes x × (IsBytesOf input givens ready.input.items × (ready.machine ≡ loaded_machine x))
