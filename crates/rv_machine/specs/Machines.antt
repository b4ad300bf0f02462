-- The machine and its input as callers see them, and what the definition says of their steps and runs.
use Rattle.std.specs.Prelude.{◌≡◌, ℕ, zero, suc, ◌+◌, ◌-◌, ◌^◌, ◌<◌, nat_le, if◌then◌else◌, List, [], ◌∷◌, ◌++◌, length, drop, map, replicate}
use Rattle.acg_base.specs.Outside.{counted}
use Rattle.rv_code.specs.Machine.{Segment, State, Outcome, Ran, Exited, Trapped, step, run}
use Rattle.rv_code.specs.Images.{Image, filled}
use Rattle.rv_code.specs.declared.cause.Cause.{Cause}

-- a machine: the address of the next instruction, its 32 registers, its memory, and how many instructions it ran
pub record MachineValue : Type 0 where
  pub pc : ℕ
  pub registers : List ℕ
  pub segments : List Segment
  pub taken : ℕ

-- an input: its bytes, and how many of them are taken
pub record InputValue : Type 0 where
  pub bytes : List ℕ
  pub at : ℕ

-- the bytes that are left
abbrev pub left : InputValue → List ℕ
left input = drop input.at input.bytes

-- the state of the definition in which a machine is, on the input that is left and the output so far
abbrev pub state_of : MachineValue → (input output : List ℕ) → State
state_of machine input output =
    record {
      pc = machine.pc;
      registers = machine.registers;
      segments = machine.segments;
      input = input;
      output = output;
    }

-- the machine before the first instruction of an image
abbrev pub loaded_machine : Image → MachineValue
loaded_machine image =
    record { pc = image.entry; registers = replicate 32 0; segments = map filled image.segments; taken = 0 }

-- the output behind an instruction that ran; an exit and a trap send nothing
abbrev pub output_behind : Outcome → List ℕ
output_behind (Ran s) = s.output
output_behind (Exited code output) = []
output_behind (Trapped cause) = []

-- the bytes that the next instruction sends: those of a call 64, and none of any other
unfoldable pub sent : MachineValue → List ℕ
sent machine = output_behind (step (state_of machine [] []))

-- goes on from the state behind an instruction, or stays in the state before one that exits or traps
abbrev pub state_behind : Outcome → (before : State) → (State → State) → State
state_behind (Ran s) before go = go s
state_behind (Exited code output) before go = before
state_behind (Trapped cause) before go = before

-- the state in which at most n instructions end: behind all of them, or before the one that exits or traps
unfoldable pub last : ℕ → State → State
last zero s = s
last (suc n) s = state_behind (step s) s (last n)

-- the bytes that at most n instructions send
unfoldable pub sent_in : ℕ → MachineValue → (input : List ℕ) → List ℕ
sent_in n machine input = (last n (state_of machine input [])).output

-- how many writes a sink had, behind an instruction that sends a piece in one write: one more where there are bytes in it
abbrev pub write_counted : (piece : List ℕ) → (before : ℕ) → ℕ
write_counted [] before = before
write_counted (byte ∷ bytes) before = counted before

-- how many writes a sink had, behind at most n instructions: each that sends bytes makes one write, and no other does
unfoldable pub writes_behind : ℕ → MachineValue → (input : List ℕ) → (before : ℕ) → ℕ
writes_behind zero machine input before = before
writes_behind (suc n) machine input before =
    write_counted (drop (length (sent_in n machine input)) (sent_in (suc n) machine input))
    (writes_behind n machine input before)

-- the next instruction leads from one machine and its input to others, whatever the output so far
abbrev pub Steps : (old : MachineValue) (input : List ℕ) (new : MachineValue) (rest : List ℕ) → Type 0
Steps old input new rest =
    (output : List ℕ) → step (state_of old input output) ≡ Ran (state_of new rest (output ++ sent old))

-- the next instruction exits, whatever the output so far
abbrev pub StepExits : MachineValue → (input : List ℕ) → (code : ℕ) → Type 0
StepExits machine input code = (output : List ℕ) → step (state_of machine input output) ≡ Exited code output

-- the next instruction traps, whatever the output so far
abbrev pub StepTraps : MachineValue → (input : List ℕ) → Cause → Type 0
StepTraps machine input cause = (output : List ℕ) → step (state_of machine input output) ≡ Trapped cause

-- the next instruction runs and sends bytes, whatever the output so far
abbrev pub StepSends : MachineValue → (input : List ℕ) → Type 0
StepSends machine input =
    (output : List ℕ) → output_behind (step (state_of machine input output)) ≡ output ++ sent machine

-- n instructions more are counted, up to the greatest value of 64 bits
abbrev pub IsCounted : ℕ → (old new : MachineValue) → Type 0
IsCounted n old new = new.taken ≡ (if nat_le n (2 ^ 64 - 1 - old.taken) then old.taken + n else 2 ^ 64 - 1)

-- n instructions lead from one machine and its input to others, whatever the output so far
abbrev pub Runs : ℕ → (old : MachineValue) (input : List ℕ) (new : MachineValue) (rest : List ℕ) → Type 0
Runs n old input new rest =
    (output : List ℕ) → run n (state_of old input output) ≡ Ran (state_of new rest (output ++ sent_in n old input))

-- fewer than n instructions lead from one machine and its input to others, and are what the new one counts more
abbrev pub RunsBelow : ℕ → (old : MachineValue) (input : List ℕ) (new : MachineValue) (rest : List ℕ) → Type 0
RunsBelow n old input new rest =
    (count : ℕ) × ((count < n) × (Runs count old input new rest × IsCounted count old new))

-- a run of at most n instructions exits, whatever the output so far
abbrev pub RunExits : ℕ → MachineValue → (input : List ℕ) → (code : ℕ) → Type 0
RunExits n machine input code =
    (output : List ℕ) → run n (state_of machine input output) ≡ Exited code (output ++ sent_in n machine input)

-- a run of at most n instructions traps, whatever the output so far
abbrev pub RunTraps : ℕ → MachineValue → (input : List ℕ) → Cause → Type 0
RunTraps n machine input cause = (output : List ℕ) → run n (state_of machine input output) ≡ Trapped cause
