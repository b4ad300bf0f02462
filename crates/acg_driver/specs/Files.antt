-- The files that a command reads, and what is read of them.
use Rattle.std.specs.Prelude.{◌≡◌, ◌⊎◌, ℕ, zero, suc, List, [], ◌∷◌, ◌++◌, length, Option, Some, None, IsTrue, Result, Ok, Err, IfOk, IfErr}
use Rattle.acg_base.specs.Outside.{Contents, SameContents, Reading, counted, front}
use Rattle.acg_base.specs.declared.limits.TheConstants.{LIMIT_ACTION, LIMIT_IMAGE, LIMIT_INPUT}
use Rattle.acg_base.specs.declared.status.Status.{Status}
use Rattle.acg_base.specs.declared.status.Status.TheVariants as status
use Rattle.acg_base.specs.declared.store.Store.{Ghosts}
use Rattle.acg_words.specs.Commands.{Command, Act, Run, Perform, Help, Version}
use Rattle.acg_words.specs.Lines.{status_of}
use Rattle.acg_words.specs.declared.line.Line.{Line}
use Rattle.acg_words.specs.declared.line.Line.TheVariants.{ReadFault}

-- what a file holds
pub data Role : Type 0 where
  Action : Role
  Image : Role
  Input : Role

-- the most bytes that it may have
abbrev pub limit_of : Role → ℕ
limit_of Action = LIMIT_ACTION
limit_of Image = LIMIT_IMAGE
limit_of Input = LIMIT_INPUT

-- a file: what it holds, and its name
pub record File : Type 0 where
  pub role : Role
  pub name : List ℕ

abbrev pub file : Role → List ℕ → File
file role name = record { role = role; name = name }

-- the files of a command, in the order in which they are read: an input may have none
abbrev pub input_files : Option (List ℕ) → List File
input_files None = []
input_files (Some input) = file Input input ∷ []

abbrev pub files_of : Command → List File
files_of (Act capacity budget action input) = file Action action ∷ input_files input
files_of (Run budget image input) = file Image image ∷ input_files input
files_of (Perform n action input) = file Action action ∷ input_files input
files_of Help = []
files_of Version = []

-- words that are no command have none
abbrev pub files_if : Option Command → List File
files_if None = []
files_if (Some command) = files_of command

-- the reading of a file, with its limit, that gave these bytes
abbrev pub reading : File → (given : List ℕ) → Reading
reading f given = record { name = f.name; limit = limit_of f.role; given = given }

-- the readings of the first files, one of each, that gave these bytes
abbrev pub readings_of : List File → (givens : List (List ℕ)) → List Reading
readings_of files [] = []
readings_of [] (given ∷ givens) = []
readings_of (f ∷ files) (given ∷ givens) = reading f given ∷ readings_of files givens

-- what was given is the content at the name: as many bytes as the limit allows, and one more where there are more
abbrev pub IsGiven : Contents → Reading → Type 0
IsGiven contents r = (content : List ℕ) × (contents r.name ≡ Some content) × (r.given ≡ front r.limit content)

abbrev pub AreGiven : Contents → List Reading → Type 0
AreGiven contents [] = Unit {0}
AreGiven contents (r ∷ rs) = IsGiven contents r × AreGiven contents rs

-- a count of failed reads behind a request that says a status: one more for a read fault, and no more for any other
abbrev pub faults_with : Status → ℕ → ℕ
faults_with status.ReadFault count = counted count
faults_with _ count = count

-- a count behind so many calls that are counted
abbrev pub counted_by : (calls count : ℕ) → ℕ
counted_by zero count = count
counted_by (suc calls) count = counted_by calls (counted count)

-- a count of reads behind a request that was given so many and says a status: as many more; one more, which failed, for a
-- read fault; and for want of memory as many, or one more, for which there was none
abbrev pub ReadsWith : (given : ℕ) → Status → (old new : ℕ) → Type 0
ReadsWith given status.ReadFault old new = new ≡ counted_by (suc given) old
ReadsWith given status.Memory old new = (new ≡ counted_by given old) ⊎ (new ≡ counted_by (suc given) old)
ReadsWith given _ old new = new ≡ counted_by given old

-- a request with this status asked a store for these readings and for nothing else, and changed nothing of it
pub record ReadOnly {S : Type 0} (store : Ghosts S) (gained : List Reading) (status : Status) (old new : S) : Type 0 where
  pub logged : IsTrue (store.logs old) → store.readings new ≡ store.readings old ++ gained
  pub given : IsTrue (store.tells old) → AreGiven (store.contents old) gained
  pub same : IsTrue (store.tells old) → SameContents (store.contents old) (store.contents new)
  pub reads : ReadsWith (length gained) status (store.reads old) (store.reads new)
  pub faults : store.failed_reads new ≡ faults_with status (store.failed_reads old)
  pub writes : store.failed_writes new ≡ store.failed_writes old
  pub tells_still : store.tells new ≡ store.tells old
  pub logs_still : store.logs new ≡ store.logs old
  pub sure_still : store.sure new ≡ store.sure old

-- one of the files isn't there; those before it are there, and with what they give a command goes on to the next one
abbrev pub Lacks : (GoesOn : (givens : List (List ℕ)) → Type 0) → Contents → List File → Type 0
Lacks GoesOn contents [] = ⊥
Lacks GoesOn contents (f ∷ files) =
    (contents f.name ≡ None)
    ⊎ ((given : List ℕ) × IsGiven contents (reading f given) × GoesOn (given ∷ [])
    × Lacks (λ more. GoesOn (given ∷ more)) contents files)

-- the name of the first of the files that isn't there
abbrev pub first_missing : Option (List ℕ) → (name next : List ℕ) → List ℕ
first_missing None name next = name
first_missing (Some content) name next = next

abbrev pub missing_file : Contents → List File → List ℕ
missing_file contents [] = []
missing_file contents (f ∷ files) = first_missing (contents f.name) f.name (missing_file contents files)

-- a read fault is answered where a file is lacking, unless memory runs out before or a write fails
pub record FaultsWhere (IsLacking : Type 0) (result : Status) : Type 0 where
  pub only : result ≡ status.ReadFault → IsLacking
  pub all : IsLacking → (result ≡ status.ReadFault) ⊎ ((result ≡ status.Memory) ⊎ (result ≡ status.WriteFault))

-- the status of what a store was asked for, before anything is said
abbrev pub read_status : {A : Type 0} → Result A Line → Status
read_status (Ok a) = status.Done
read_status (Err line) = status_of line

-- the line of a read fault has this name
abbrev pub NamesFault : (name : List ℕ) → Line → Type 0
NamesFault name (ReadFault other) = other ≡ name
NamesFault name _ = Unit {0}

-- no further file is read
abbrev pub never : (givens : List (List ℕ)) → Type 0
never givens = ⊥

-- over a store that fails only at names that aren't there: a read fault comes where a file is lacking, and names the
-- first that isn't there
pub record AsksSurely {A : Type 0} (GoesOn : (givens : List (List ℕ)) → Type 0) (contents : Contents) (files : List File) (result : Result A Line) : Type 0 where
  pub faults : FaultsWhere (Lacks GoesOn contents files) (read_status result)
  pub named : IfErr result (NamesFault (missing_file contents files))

-- what is gathered from files that are read in their order. Either there is what is wanted, for what all of them gave; or a
-- line that refuses what the first of them gave. `GoesOn` says for which givens the next one is read
pub record Gathered
    {S A : Type 0} (store : Ghosts S) (files : List File) (GoesOn : (givens : List (List ℕ)) → Type 0)
    (Refuses : (givens : List (List ℕ)) → Line → Type 0) (Wanted : (givens : List (List ℕ)) → A → Type 0)
    (old new : S) (result : Result A Line) : Type 0
  where
    pub wanted : IfOk result (λ a. (givens : List (List ℕ)) × Wanted givens a × ReadOnly store (readings_of files givens) status.Done old new)
    pub refused : IfErr result (λ line. (givens : List (List ℕ)) × Refuses givens line × ReadOnly store (readings_of files givens) (status_of line) old new)
    pub surely : IsTrue (store.sure old) → AsksSurely GoesOn (store.contents old) files result
