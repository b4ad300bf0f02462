-- Command lines.
use Rattle.std.specs.Prelude.{ℕ, ◌^◌, nat_lt, ◌==◌, Bool, if◌then◌else◌, List, [], ◌∷◌, length, codes, Option, Some, None, option_map, option_and_then}
use Rattle.std.specs.List.{list_any}
use Rattle.std.specs.Str.{bytes_eq}
use Rattle.acg_base.specs.Decimals.{spelled_number}
use Rattle.acg_base.specs.declared.capacity.Capacity.{Capacity}
use Rattle.acg_words.specs.Settings.{IsCapacity, IsBudget, told_by}
use Rattle.acg_words.specs.declared.command.Act.{Act as ActValue}
use Rattle.acg_words.specs.declared.command.Run.{Run as RunValue}
use Rattle.acg_words.specs.declared.command.Perform.{Perform as PerformValue}
use Rattle.acg_words.specs.declared.command.Command.{Command as Request}
use Rattle.acg_words.specs.declared.command.Command.TheVariants as request
use Rattle.acg_words.specs.declared.settings.Setting.{Setting}
use Rattle.acg_words.specs.declared.settings.Setting.TheVariants.{Stack, Units, Budget}
use Rattle.acg_words.specs.declared.settings.Settings.{Settings}
use Rattle.acg_words.specs.declared.table.Kind.{Kind}
use Rattle.acg_words.specs.declared.table.Kind.TheVariants as kind

-- what a command line asks for: the command with what its options say, and the names of its files
pub data Command : Type 0 where
  Act : (capacity : Capacity) (budget : ℕ) (action : List ℕ) (input : Option (List ℕ)) → Command
  Run : (budget : ℕ) (image : List ℕ) (input : Option (List ℕ)) → Command
  Perform : (number : ℕ) (action : List ℕ) (input : Option (List ℕ)) → Command
  Help : Command
  Version : Command

-- the name of a command
abbrev pub name_of : Kind → List ℕ
name_of kind.Act = codes "act"
name_of kind.Run = codes "run"
name_of kind.Perform = codes "perform"
name_of kind.Help = codes "help"
name_of kind.Version = codes "version"

-- the first of some commands that has the name
abbrev pub first_named : List Kind → (name : List ℕ) → Option Kind
first_named [] name = None
first_named (kind ∷ kinds) name = if bytes_eq (name_of kind) name then Some kind else first_named kinds name

-- the commands that there are
abbrev pub commands : List Kind
commands = kind.Act ∷ kind.Run ∷ kind.Perform ∷ kind.Help ∷ kind.Version ∷ []

-- the command with the name
abbrev pub kind_of : (name : List ℕ) → Option Kind
kind_of name = first_named commands name

-- the options of a command, in the order in which words say them
abbrev pub options_of : Kind → List Setting
options_of kind.Act = Stack ∷ Units ∷ Budget ∷ []
options_of kind.Run = Budget ∷ []
options_of kind.Perform = []
options_of kind.Help = []
options_of kind.Version = []

-- a number of `perform`: one digit or more, below 2^63
abbrev pub schedule_number : List ℕ → Option ℕ
schedule_number word = option_and_then (λ n. if nat_lt n (2 ^ 63) then Some n else None) (spelled_number word)

-- `act ACTION [INPUT]`
abbrev pub act_of : Settings → List (List ℕ) → Option Command
act_of s (action ∷ []) = Some (Act s.capacity s.budget action None)
act_of s (action ∷ input ∷ []) = Some (Act s.capacity s.budget action (Some input))
act_of s _ = None

-- `run IMAGE [INPUT]`
abbrev pub run_of : Settings → List (List ℕ) → Option Command
run_of s (image ∷ []) = Some (Run s.budget image None)
run_of s (image ∷ input ∷ []) = Some (Run s.budget image (Some input))
run_of s _ = None

-- `perform N ACTION [INPUT]`
abbrev pub perform_of : List (List ℕ) → Option Command
perform_of (number ∷ action ∷ []) = option_map (λ n. Perform n action None) (schedule_number number)
perform_of (number ∷ action ∷ input ∷ []) = option_map (λ n. Perform n action (Some input)) (schedule_number number)
perform_of _ = None

-- `help`, `version`
abbrev pub alone_of : Command → List (List ℕ) → Option Command
alone_of command [] = Some command
alone_of command _ = None

-- the command with what its options say and these operands. Every other list of operands is none
abbrev pub words_of : Kind → Settings → List (List ℕ) → Option Command
words_of kind.Act s operands = act_of s operands
words_of kind.Run s operands = run_of s operands
words_of kind.Perform s operands = perform_of operands
words_of kind.Help s operands = alone_of Help operands
words_of kind.Version s operands = alone_of Version operands

-- what a command's words behind its name ask for: first its options, and then its operands
abbrev pub command_by : Kind → List (List ℕ) → Option Command
command_by kind words = option_and_then (λ told. words_of kind told.0 told.1) (told_by (options_of kind) words)

-- what words ask for, none of which is empty: the first is the command's name
abbrev pub command_with : List (List ℕ) → Option Command
command_with [] = None
command_with (name ∷ words) = option_and_then (λ kind. command_by kind words) (kind_of name)

-- a word with no bytes
abbrev pub is_empty : (word : List ℕ) → Bool
is_empty word = length word == 0

-- what a list of words asks for. Every list of words that is none of these, or has an empty word, is no command
unfoldable pub command_of : List (List ℕ) → Option Command
command_of words = if list_any is_empty words then None else command_with words

-- the numbers of a command's options are in their ranges
abbrev pub HasRanges : Command → Type 0
HasRanges (Act capacity budget action input) = IsCapacity capacity × IsBudget budget
HasRanges (Run budget image input) = IsBudget budget
HasRanges _ = Unit {0}

-- the commands that values of the program stand for
abbrev pub act_asked : ActValue → Command
act_asked act = Act act.capacity act.budget act.action.now (option_map (λ file. file.now) act.input)

abbrev pub run_asked : RunValue → Command
run_asked run = Run run.budget run.image.now (option_map (λ file. file.now) run.input)

abbrev pub perform_asked : PerformValue → Command
perform_asked perform = Perform perform.number perform.action.now (option_map (λ file. file.now) perform.input)

abbrev pub asked : Request → Command
asked (request.Act act) = act_asked act
asked (request.Run run) = run_asked run
asked (request.Perform perform) = perform_asked perform
asked request.Help = Help
asked request.Version = Version
