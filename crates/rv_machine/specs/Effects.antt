-- What the parts of a step say of one another.
use Rattle.std.specs.Prelude.{◌≡◌, ◌≢◌, ℕ, ◌<◌, List, [], length, Some, Result, Ok, Err, ⊤}
use Rattle.acg_base.specs.Outside.{counted}
use Rattle.rv_code.specs.Machine.{State, Outcome, Ran, Trapped, read_bytes, receive_call, send_call, execute, step}
use Rattle.rv_code.specs.declared.cause.Cause.{Cause}
use Rattle.rv_code.specs.declared.instruction.Inst.{Inst}
use Rattle.rv_code.specs.declared.instruction.Inst.TheVariants.{Shift, Ecall}
use Rattle.rv_machine.specs.declared.answers.Turn.{Turn}
use Rattle.rv_machine.specs.declared.answers.Turn.TheVariants as turn
use Rattle.rv_machine.specs.Machines.{MachineValue, InputValue, left, state_of, sent, Steps, StepExits, StepTraps}

-- an effect on states that only the machine takes part in: it runs and leaves the new machine, or traps and leaves the old one
abbrev pub Does : Result (Unit {0}) Cause → (old new : MachineValue) → (effect : State → Outcome) → Type 0
Does (Ok done) old new effect =
    ((input output : List ℕ) → effect (state_of old input output) ≡ Ran (state_of new input output)) × (new.taken ≡ old.taken)
Does (Err cause) old new effect = ((input output : List ℕ) → effect (state_of old input output) ≡ Trapped cause) × (new ≡ old)

-- the next instruction, or the trap where there is none
abbrev pub Fetches : Result Inst Cause → MachineValue → Type 0
Fetches (Ok inst) machine = (input output : List ℕ) → step (state_of machine input output) ≡ execute inst (state_of machine input output)
Fetches (Err cause) machine = (input output : List ℕ) → step (state_of machine input output) ≡ Trapped cause

-- the next instruction is a call
pub record AtCall (machine : MachineValue) : Type 0 where
  pub next : (input output : List ℕ) → step (state_of machine input output) ≡ execute Ecall (state_of machine input output)

-- the next instruction is call 63
pub record AtReceive (machine : MachineValue) (address size : ℕ) : Type 0 where
  pub next : (input output : List ℕ) → step (state_of machine input output) ≡ receive_call (state_of machine input output) address size

-- the next instruction is call 64
pub record AtSend (machine : MachineValue) (address size : ℕ) : Type 0 where
  pub next : (input output : List ℕ) → step (state_of machine input output) ≡ send_call (state_of machine input output) address size

-- the next instruction is call 64, and sends these bytes, of which there is one at least
pub record IsSend (machine : MachineValue) (address size : ℕ) : Type 0 where
  pub at : AtSend machine address size
  pub some : size ≢ 0
  pub bytes : List ℕ
  pub read : Some bytes ≡ read_bytes machine.segments 4 address size
  pub whole : length bytes ≡ size

-- what the next instruction does to a machine and its input, where it sends nothing; where it sends, nothing is done yet
pub record Turns (result : Turn) (old : MachineValue) (input : InputValue) (new : MachineValue) (rest : InputValue) : Type 0 where
  pub ran : result ≡ turn.Ran → Steps old (left input) new (left rest)
  pub silent : result ≡ turn.Ran → sent old ≡ []
  pub exited : (code : ℕ) → result ≡ turn.Exited code → StepExits old (left input) code
  pub trapped : (cause : Cause) → result ≡ turn.Trapped cause → StepTraps old (left input) cause
  pub sends : (address size : ℕ) → result ≡ turn.Sends address size → IsSend old address size
  pub stays : result ≢ turn.Ran → (new ≡ old) × (rest ≡ input)
  pub taken : new.taken ≡ old.taken
  pub bytes : rest.bytes ≡ input.bytes

-- the amount of a shift is below 64
abbrev pub AmountFits : Inst → Type 0
AmountFits (Shift op rd rs1 amount) = amount < 64
AmountFits _ = ⊤

-- the next instruction ran and was counted, whatever the input, and it sends nothing
pub record RunsPlainly (old new : MachineValue) : Type 0 where
  pub ran : (input : List ℕ) → Steps old input new input
  pub silent : sent old ≡ []
  pub taken : new.taken ≡ counted old.taken
