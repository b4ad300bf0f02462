-- What serving a command line says, and what it does to the store and the sink.
use Rattle.std.specs.Prelude.{◌≡◌, ◌⊎◌, ℕ, ◌≤◌, IsTrue, List, [], ◌∷◌, ◌++◌, length, Option, Some, None}
use Rattle.acg_base.specs.Outside.{Contents}
use Rattle.acg_base.specs.declared.limits.TheConstants.{LIMIT_INPUT}
use Rattle.acg_base.specs.declared.sink.Sink.{Ghosts as Sink}
use Rattle.acg_base.specs.declared.status.Status.{Status}
use Rattle.acg_base.specs.declared.status.Status.TheVariants as status
use Rattle.acg_base.specs.declared.store.Store.{Ghosts as Store}
use Rattle.action_terms.specs.Numbering.{Listed}
use Rattle.action_terms.specs.Meaning.{action_of}
use Rattle.sort_rules.specs.Admissible.{IsWellSorted}
use Rattle.rv_code.specs.Images.{Image}
use Rattle.acg_words.specs.Commands.{Command, Act, Run, Perform, Help, Version, command_of}
use Rattle.acg_words.specs.Lines.{read_fault_line}
use Rattle.acg_words.specs.Prints.{Answered}
use Rattle.acg_words.specs.Usage.{usage, version_line}
use Rattle.acg_words.specs.declared.line.Line.{Line}
use Rattle.acg_words.specs.declared.line.Line.TheVariants.{Words}
use Rattle.acg_driver.specs.Texts.{Reads}
use Rattle.acg_driver.specs.ImageFiles.{GivesImage}
use Rattle.acg_driver.specs.Says.{Says, SaysOne}
use Rattle.acg_driver.specs.Files.{files_if, readings_of, ReadOnly, FaultsWhere, Lacks, missing_file}
use Rattle.acg_driver.specs.Commands.Act.{RefusesAct, GoesOnAct, IsBuilt, RunsAct}
use Rattle.acg_driver.specs.Commands.Run.{RefusesRun, GoesOnRun, SaysRun}
use Rattle.acg_driver.specs.Commands.Perform.{RefusesPerform, GoesOnPerform, SaysPerform}

-- the line with which a command is refused, from what its files gave
abbrev pub Refuses : Command → (givens : List (List ℕ)) → Line → Type 0
Refuses (Act capacity budget action input) givens line = RefusesAct action input givens line
Refuses (Run budget image input) givens line = RefusesRun image input givens line
Refuses (Perform n action input) givens line = RefusesPerform action input givens line
Refuses Help givens line = ⊥
Refuses Version givens line = ⊥

-- for what the first of its files gave it reads its next one
abbrev pub GoesOn : Command → (givens : List (List ℕ)) → Type 0
GoesOn (Act capacity budget action input) givens = GoesOnAct givens
GoesOn (Run budget image input) givens = GoesOnRun givens
GoesOn (Perform n action input) givens = GoesOnPerform givens
GoesOn Help givens = ⊥
GoesOn Version givens = ⊥

-- what a command says that isn't refused
abbrev pub Carries : Command → (givens : List (List ℕ)) → (text : List ℕ) → Status → Type 0
Carries (Act capacity budget action input) givens text status = RunsAct capacity budget input givens text status
Carries (Run budget image input) givens text status = SaysRun budget input givens text status
Carries (Perform n action input) givens text status = SaysPerform n input givens text status
Carries Help givens text s = (givens ≡ []) × ((text ≡ usage) × (s ≡ status.Done))
Carries Version givens text s = (givens ≡ []) × ((text ≡ version_line) × (s ≡ status.Done))

-- what a command says, from what its files gave: a line that refuses it, or what it is there for
abbrev pub Replies : Command → (givens : List (List ℕ)) → (text : List ℕ) → Status → Type 0
Replies command givens text status = SaysOne (Refuses command givens) text status ⊎ Carries command givens text status

-- words that are no command are refused
abbrev pub RepliesIf : Option Command → (givens : List (List ℕ)) → (text : List ℕ) → Status → Type 0
RepliesIf None givens text status = (givens ≡ []) × Says Words text status
RepliesIf (Some command) givens text status = Replies command givens text status

abbrev pub GoesOnIf : Option Command → (givens : List (List ℕ)) → Type 0
GoesOnIf None givens = ⊥
GoesOnIf (Some command) givens = GoesOn command givens

-- what a request does. The first of its files are read, once each, and what is said is right for what they gave. The
-- sink gets that text, and its status is answered. Or the sink gets a front of the text, since its last write failed, and
-- the answer says so
pub record Served {S K : Type 0} (store : Store S) (sink : Sink K) (asked : Option Command) (old new : S) (out gained : K) (result : Status) : Type 0 where
  pub givens : List (List ℕ)
  pub text : List ℕ
  pub status : Status
  pub said : RepliesIf asked givens text status
  pub read : ReadOnly store (readings_of (files_if asked) givens) status old new
  pub answered : Answered sink text status out gained result

-- where a read fault is answered, a sink gets its line with this name
abbrev pub Names : {K : Type 0} (sink : Sink K) (name : List ℕ) (old new : K) → Status → Type 0
Names sink name old new result =
    result ≡ status.ReadFault → IsTrue (sink.tells old) → sink.written new ≡ sink.written old ++ read_fault_line name

-- one of the files that a request reads isn't there
abbrev pub LacksAny : Contents → Option Command → Type 0
LacksAny contents asked = Lacks (GoesOnIf asked) contents (files_if asked)

-- over a store that fails only at names that aren't there: a read fault is answered where a file is lacking, and its line
-- names the first that isn't there
pub record ServedSurely {K : Type 0} (sink : Sink K) (contents : Contents) (asked : Option Command) (old new : K) (result : Status) : Type 0 where
  pub faults : FaultsWhere (LacksAny contents asked) result
  pub named : Names sink (missing_file contents (files_if asked)) old new result

-- the statuses of a performance that isn't refused
abbrev pub IsOfPerformance : Status → Type 0
IsOfPerformance status.Done = Unit {0}
IsOfPerformance status.Failed = Unit {0}
IsOfPerformance status.Escaped = Unit {0}
IsOfPerformance status.Running = Unit {0}
IsOfPerformance status.Memory = Unit {0}
IsOfPerformance _ = ⊥

-- the bytes of the input of a command: there are none where it names no file
abbrev pub IsInput : Contents → Option (List ℕ) → (bytes : List ℕ) → Type 0
IsInput contents None bytes = bytes ≡ []
IsInput contents (Some name) bytes = contents name ≡ Some bytes

-- the statuses of the run of an image that isn't refused
abbrev pub IsOfRun : Status → Type 0
IsOfRun status.Full = Unit {0}
IsOfRun status = IsOfPerformance status

-- the statuses of the run of an image that was made elsewhere
abbrev pub IsOfImage : Status → Type 0
IsOfImage status.ExitAbove = Unit {0}
IsOfImage status.Trapped = Unit {0}
IsOfImage status = IsOfRun status

-- nothing is refused, unless memory runs out: with an input within its limit, an action that reads, is well-sorted and
-- whose nodes have code is run; so is an image that passes all checks; and an action that reads is performed
abbrev pub PerformsAsked : Contents → Option Command → Status → Type 0
PerformsAsked contents (Some (Act capacity budget action input)) result =
    (content : List ℕ) (g : Listed) (bytes : List ℕ) → contents action ≡ Some content → IsBuilt content g → IsWellSorted (action_of g)
    → IsInput contents input bytes → length bytes ≤ LIMIT_INPUT → IsOfRun result
PerformsAsked contents (Some (Run budget image input)) result =
    (content : List ℕ) (x : Image) (bytes : List ℕ) → contents image ≡ Some content → GivesImage content x
    → IsInput contents input bytes → length bytes ≤ LIMIT_INPUT → IsOfImage result
PerformsAsked contents (Some (Perform n action input)) result =
    (content : List ℕ) (g : Listed) (bytes : List ℕ) → contents action ≡ Some content → Reads content g
    → IsInput contents input bytes → length bytes ≤ LIMIT_INPUT → IsOfPerformance result
PerformsAsked contents _ result = Unit {0}

abbrev pub Performs : Contents → (words : List (List ℕ)) → Status → Type 0
Performs contents words result = PerformsAsked contents (command_of words) result

-- what a command does, or words that are none, over any store and any sink
pub record Handled {S K : Type 0} (store : Store S) (sink : Sink K) (asked : Option Command) (old new : S) (out gained : K) (result : Status) : Type 0 where
  pub served : Served store sink asked old new out gained result
  pub surely : IsTrue (store.sure old) → ServedSurely sink (store.contents old) asked out gained result
  pub idle : files_if asked ≡ [] → new ≡ old
