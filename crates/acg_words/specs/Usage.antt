-- How the program is used: its commands, and the statuses with which they end.
use Rattle.std.specs.Prelude.{◌≡◌, ℕ, List, [], ◌∷◌, ◌++◌, codes}
use Rattle.std.specs.List.{concat, flat_map}
use Rattle.acg_base.specs.Decimals.{unsigned_decimal_of}
use Rattle.acg_base.specs.Statuses.{code_of}
use Rattle.acg_base.specs.declared.status.Status.{Status}
use Rattle.acg_base.specs.declared.status.Status.TheVariants.{Done, Failed, Escaped, Full, Running, ExitAbove, Words, ReadFault, WriteFault, Description, Source, Uncovered, Numeral, IllSorted, Limit, Memory, Image, Trapped, Action}
use Rattle.acg_words.specs.Commands.{name_of, options_of, commands}
use Rattle.acg_words.specs.Settings.{sign_of, counts_of, least_of, greatest_of, default_of}
use Rattle.acg_words.specs.declared.settings.Setting.{Setting}
use Rattle.acg_words.specs.declared.settings.Setting.TheVariants.{Stack, Units, Budget}
use Rattle.acg_words.specs.declared.table.Kind.{Kind}
use Rattle.acg_words.specs.declared.table.Kind.TheVariants.{Act, Run, Perform, Help, Version}
use Rattle.acg_words.specs.declared.table.Row.{Row}

-- the operands of a command
abbrev pub operands_of : Kind → List ℕ
operands_of Act = codes " ACTION [INPUT]"
operands_of Run = codes " IMAGE [INPUT]"
operands_of Perform = codes " N ACTION [INPUT]"
operands_of Help = []
operands_of Version = []

-- what a command does
abbrev pub about_of : Kind → List ℕ
about_of Act = codes "compiles the action in the file ACTION, and runs its image"
about_of Run = codes "runs the image in the file IMAGE"
about_of Perform = codes "performs the action; N, a number below 2^63, chooses each step"
about_of Help = codes "prints this"
about_of Version = codes "prints the version"

pub record IsRow (kind : Kind) (row : Row) : Type 0 where
  pub name : row.name.now ≡ name_of kind
  pub settings : row.settings.now ≡ options_of kind
  pub operands : row.operands.now ≡ operands_of kind
  pub about : row.about.now ≡ about_of kind

-- what a status means
abbrev pub meaning_of : Status → List ℕ
meaning_of Done = codes "done, or the action has completed"
meaning_of Failed = codes "the action has failed"
meaning_of Escaped = codes "the action has escaped"
meaning_of Full = codes "the run needs more memory than it has"
meaning_of Running = codes "the instructions or steps of a run were taken without an end"
meaning_of ExitAbove = codes "the image has exited with a code above 3"
meaning_of Words = codes "the words are no command line"
meaning_of ReadFault = codes "a file can't be read"
meaning_of WriteFault = codes "the output can't be written"
meaning_of Description = codes "the description is none, or breaks a rule"
meaning_of Source = codes "the source has no tree, or more than one"
meaning_of Uncovered = codes "a phrase has no equation"
meaning_of Numeral = codes "a numeral is too large"
meaning_of IllSorted = codes "the action isn't well-sorted"
meaning_of Limit = codes "a file or an action is too large"
meaning_of Memory = codes "memory ran out"
meaning_of Image = codes "the image is refused"
meaning_of Trapped = codes "the machine has trapped on the image"
meaning_of Action = codes "the file holds no action, or one that can't be compiled"

-- an option, where a command takes it
abbrev pub option_text : Setting → List ℕ
option_text setting = concat (codes " [" ∷ sign_of setting ∷ codes "N]" ∷ [])

-- the operands of a command, and a line that says what it does
abbrev pub about_text : (operands about : List ℕ) → List ℕ
about_text operands about = concat (operands ∷ codes "\n    " ∷ about ∷ codes "\n" ∷ [])

-- a command: how it is written, and what it does
abbrev pub command_lines : Kind → List ℕ
command_lines kind =
    (codes "acg " ++ name_of kind) ++ (flat_map option_text (options_of kind) ++ about_text (operands_of kind) (about_of kind))

-- the options that there are
abbrev pub options : List Setting
options = Stack ∷ Units ∷ Budget ∷ []

-- an option: what its number counts, the range, and the number where no word says one
abbrev pub option_line : Setting → List ℕ
option_line setting =
    concat (codes "option " ∷ sign_of setting ∷ codes "N: " ∷ counts_of setting ∷ codes ", from " ∷ unsigned_decimal_of (least_of setting)
    ∷ codes " to " ∷ unsigned_decimal_of (greatest_of setting) ∷ codes ", or " ∷ unsigned_decimal_of (default_of setting)
    ∷ codes " where none are said\n" ∷ [])

-- a status: its number, and what it means
abbrev pub status_line : Status → List ℕ
status_line status = concat (codes "status " ∷ unsigned_decimal_of (code_of status) ∷ codes ": " ∷ meaning_of status ∷ codes "\n" ∷ [])

-- the statuses with which commands end
abbrev pub statuses : List Status
statuses =
    Done ∷ Failed ∷ Escaped ∷ Full ∷ Running ∷ ExitAbove ∷ Words ∷ ReadFault ∷ WriteFault ∷ IllSorted ∷ Limit ∷ Memory ∷ Image ∷ Trapped ∷ Action ∷ []

-- each command that there is, then each option, and then each status with which they end
unfoldable pub usage : List ℕ
usage = flat_map command_lines commands ++ (flat_map option_line options ++ flat_map status_line statuses)

-- the name of the program, and its version
abbrev pub version_line : List ℕ
version_line = codes "acg 0.2.0\n"
