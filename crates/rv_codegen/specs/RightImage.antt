-- What it means that an image is right for an action, a table of its sorts and a capacity.
use Rattle.std.specs.Prelude.{◌≡◌, ℕ, zero, suc, ◌+◌, ◌*◌, ◌<◌, ◌≤◌, ℤ, All, List, [], ◌∷◌, length}
use Rattle.rv_code.specs.Machine.{Outcome, Ran, Exited, Trapped, run}
use Rattle.rv_code.specs.Images.{Image, IsImage, started}
use Rattle.rv_asm.specs.Conventions.{code_address, region_address, region_size}
use Rattle.action_terms.specs.Information.{Binds, Data}
use Rattle.action_terms.specs.Actions.{Action}
use Rattle.action_terms.specs.Acting.{End, Done, Esc, Fail}
use Rattle.action_terms.specs.Steps.{Step}
use Rattle.action_terms.specs.Performances.{State, IsPart, HasEnded, messages_bytes, records}
use Rattle.action_terms.specs.Need.{Passes}
use Rattle.sort_rules.specs.Measures.{sizes}
use Rattle.sort_rules.specs.Tables.{MarkedTable}
use Rattle.rv_codegen.specs.Measures.{node_count, factor_by}

-- ---- an image of compiled code

-- the code can be fetched and not read; behind it lies the region, which can be read and written and has no bytes in the image
abbrev pub compiled_image : (code : List ℕ) → (stack units : ℕ) → Image
compiled_image code stack units = record {
  entry = code_address;
  segments =
      record { address = code_address; flags = 1; bytes = code; size = length code }
      ∷ record { address = region_address (length code); flags = 6; bytes = []; size = region_size stack units }
      ∷ [];
}

-- what an image is compared with: the action, a table of its sorts, the words of the stack, and the units
pub record Subject : Type 0 where
  pub action : Action
  pub table : MarkedTable
  pub stack : ℕ
  pub units : ℕ

-- the most bytes of code for so many action nodes and yielders
abbrev pub code_limit : ℕ → ℕ
code_limit nodes = 4096 * nodes + 65536

-- the image loads, each segment of it is of bytes, and it is one of compiled code for the capacity that isn't too long
pub record Loads (image : Image) (x : Subject) : Type 0 where
  pub valid : IsImage image
  pub bytes : All (λ part. All (λ b. b < 256) part.bytes) image.segments
  pub code : List ℕ
  pub compiled : image ≡ compiled_image code x.stack x.units
  pub short : length code ≤ code_limit (node_count x.action)

-- ---- what the machine shows of performances

-- some performance over the input has ended so, and these bytes are its messages
abbrev pub SomeEnd : Subject → (input output : List ℕ) → End → Type 0
SomeEnd x input output z =
    (steps : List Step) × (messages : List ℤ) × HasEnded x.action (records input) steps z messages × (output ≡ messages_bytes messages)

-- some part of a performance over the input passes the capacity, with the slots and the captured tokens of the table, and these bytes are its messages
abbrev pub SomePass : Subject → (input output : List ℕ) → Type 0
SomePass x input output =
    (steps : List Step) × (s : State) × IsPart x.action (records input) steps s × (output ≡ messages_bytes s.world.output) × Passes x.action (sizes x.action x.table) x.stack x.units steps s

-- some part of a performance over the input has these bytes as its messages, and m instructions are at most the factor for each of its steps, and the factor once more
abbrev pub KeepsPace : Subject → (input output : List ℕ) → (m : ℕ) → Type 0
KeepsPace x input output m =
    (steps : List Step) × (s : State) × IsPart x.action (records input) steps s × (output ≡ messages_bytes s.world.output) × (m ≤ factor_by x.action x.table * (length steps + 1))

-- exit code 0 is for completed, 1 for failed, 2 for escaped, 3 for full, and there is no other
abbrev pub ShowsExit : Subject → (input output : List ℕ) → (code : ℕ) → Type 0
ShowsExit x input output zero = (d : Data) × (b : Binds) × SomeEnd x input output (Done d b)
ShowsExit x input output (suc zero) = SomeEnd x input output Fail
ShowsExit x input output (suc (suc zero)) = (d : Data) × SomeEnd x input output (Esc d)
ShowsExit x input output (suc (suc (suc zero))) = SomePass x input output
ShowsExit x input output (suc (suc (suc (suc code)))) = ⊥

-- after m instructions the machine has kept the pace, or it has exited as a performance ends; it never traps
abbrev pub Shows : Subject → (input : List ℕ) → (m : ℕ) → Outcome → Type 0
Shows x input m (Ran s) = KeepsPace x input s.output m
Shows x input m (Exited code output) = ShowsExit x input output code
Shows x input m (Trapped cause) = ⊥

-- the image loads; and for every input and every number of instructions the machine, started on it, shows what performances do
pub record IsRight (image : Image) (x : Subject) : Type 0 where
  pub loads : Loads image x
  pub shows : (input : List ℕ) → All (λ b. b < 256) input → (m : ℕ) → Shows x input m (run m (started image input))
