-- What a step and a run do to a machine, its input and its sink.
use Rattle.std.specs.Prelude.{◌≡◌, ◌≢◌, ℕ, ◌<◌, ◌≤◌, Bool, true, IsTrue, List, [], ◌++◌}
use Rattle.acg_base.specs.Outside.{Rose, counted, GainsFrontOf}
use Rattle.rv_code.specs.declared.cause.Cause.{Cause}
use Rattle.rv_machine.specs.declared.answers.Step.{Step}
use Rattle.rv_machine.specs.declared.answers.Step.TheVariants as step
use Rattle.rv_machine.specs.declared.answers.Run.{Run}
use Rattle.rv_machine.specs.declared.answers.Run.TheVariants as run
use Rattle.rv_machine.specs.declared.answers.Quiet.{Quiet}
use Rattle.rv_machine.specs.declared.answers.QuietEnd.TheVariants as quiet
use Rattle.rv_machine.specs.Machines.{MachineValue, InputValue, left, sent, sent_in, writes_behind, Steps, StepExits, StepTraps, StepSends, Runs, RunsBelow, IsCounted, RunExits, RunTraps}

-- what one instruction does. A sink, which has these members, gets what it sends, in one write: no other instruction writes to it.
-- A fault of the sink comes only at an instruction that runs by the definition and sends bytes
pub record Stepped {K : Type 0} (written : K → List ℕ) (faults writes : K → ℕ) (tells last_failed : K → Bool) (result : Step) (old : MachineValue) (input : InputValue) (out : K) (new : MachineValue) (rest : InputValue) (gained : K) : Type 0 where
  pub ran : result ≡ step.Ran → Steps old (left input) new (left rest)
  pub exited : (code : ℕ) → result ≡ step.Exited code → StepExits old (left input) code
  pub trapped : (cause : Cause) (pc : ℕ) → result ≡ step.Trapped cause pc →
      StepTraps old (left input) cause × (pc ≡ old.pc)
  pub fault : result ≡ step.SinkFault → (sent old ≢ []) × StepSends old (left input)
  pub stays : result ≢ step.Ran → (new ≡ old) × (rest ≡ input)
  pub taken : result ≡ step.Ran → new.taken ≡ counted old.taken
  pub bytes : rest.bytes ≡ input.bytes
  pub untouched : sent old ≡ [] → gained ≡ out
  pub idle : result ≢ step.Ran → result ≢ step.SinkFault → gained ≡ out
  pub told : result ≡ step.Ran → IsTrue (tells out) → written gained ≡ written out ++ sent old
  pub part : result ≡ step.SinkFault → IsTrue (tells out) →
      GainsFrontOf (sent old) (written out) (written gained)
  pub once : sent old ≢ [] → writes gained ≡ counted (writes out)
  pub failed : result ≡ step.SinkFault →
      (faults gained ≡ counted (faults out)) × (last_failed gained ≡ true)
  pub rose : result ≡ step.SinkFault → Rose (faults out) (faults gained)
  pub still : result ≢ step.SinkFault → faults gained ≡ faults out
  pub counts : faults out ≤ faults gained
  pub tells_still : tells gained ≡ tells out

-- fewer than n instructions lead from one machine and its input to others, and are what the new one counts more; a sink
-- had their writes and the failed one, and behind its bytes, where it tells them, stands what they send, and a front of
-- what the next one sends
abbrev pub WroteBelow : ℕ → (old : MachineValue) (input : List ℕ) (new : MachineValue) (rest : List ℕ) → (tells : Bool) (before behind : List ℕ) (first all : ℕ) → Type 0
WroteBelow n old input new rest tells before behind first all =
    (count : ℕ) × ((count < n) × (Runs count old input new rest × (IsCounted count old new
    × ((all ≡ counted (writes_behind count old input first))
    × (IsTrue tells → GainsFrontOf (sent new) (before ++ sent_in count old input) behind)))))

-- what a run of at most so many instructions does. Where fewer ran, the machine and the input stand before the one that
-- ended the run. The sink gets what the run sends, one write for each instruction that sends bytes, or a front of it where
-- it fails, which comes only at an instruction that runs by the definition and sends bytes
pub record RanWithin {K : Type 0} (written : K → List ℕ) (faults writes : K → ℕ) (tells last_failed : K → Bool) (most : ℕ) (result : Run) (old : MachineValue) (input : InputValue) (out : K) (new : MachineValue) (rest : InputValue) (gained : K) : Type 0 where
  pub all : result ≡ run.Budget → Runs most old (left input) new (left rest) × IsCounted most old new
  pub fewer : result ≢ run.Budget → RunsBelow most old (left input) new (left rest)
  pub exited : (code : ℕ) → result ≡ run.Exited code →
      RunExits most old (left input) code × StepExits new (left rest) code
  pub trapped : (cause : Cause) (pc : ℕ) → result ≡ run.Trapped cause pc →
      RunTraps most old (left input) cause × (StepTraps new (left rest) cause × (pc ≡ new.pc))
  pub fault : result ≡ run.SinkFault → (sent new ≢ []) × StepSends new (left rest)
  pub bytes : rest.bytes ≡ input.bytes
  pub told : result ≢ run.SinkFault → IsTrue (tells out) →
      written gained ≡ written out ++ sent_in most old (left input)
  pub wrote : result ≢ run.SinkFault → writes gained ≡ writes_behind most old (left input) (writes out)
  pub part : result ≡ run.SinkFault → WroteBelow most old (left input) new (left rest)
      (tells out) (written out) (written gained) (writes out) (writes gained)
  pub failed : result ≡ run.SinkFault →
      (faults gained ≡ counted (faults out)) × (last_failed gained ≡ true)
  pub still : result ≢ run.SinkFault → faults gained ≡ faults out
  pub counts : faults out ≤ faults gained
  pub tells_still : tells gained ≡ tells out

-- what a run of at most so many instructions does that stops before one that sends bytes: those that ran sent nothing,
-- and the machine and the input stand behind them
pub record RanQuietly (most : ℕ) (result : Quiet) (old : MachineValue) (input : InputValue) (new : MachineValue) (rest : InputValue) : Type 0 where
  pub ran : Runs result.ran old (left input) new (left rest)
  pub silent : sent_in result.ran old (left input) ≡ []
  pub counted : IsCounted result.ran old new
  pub bytes : rest.bytes ≡ input.bytes
  pub within : result.ran ≤ most
  pub fewer : result.end ≢ quiet.Budget → result.ran < most
  pub all : result.end ≡ quiet.Budget → result.ran ≡ most
  pub exited : (code : ℕ) → result.end ≡ quiet.Exited code → StepExits new (left rest) code
  pub trapped : (cause : Cause) (pc : ℕ) → result.end ≡ quiet.Trapped cause pc →
      StepTraps new (left rest) cause × (pc ≡ new.pc)
  pub sends : result.end ≡ quiet.Sends → (sent new ≢ []) × StepSends new (left rest)

-- an instruction that sends was done, whatever the input; what it sends is in nobody's hands
pub record PassedOver (old new : MachineValue) : Type 0 where
  pub ran : (input : List ℕ) → Steps old input new input
  pub taken : new.taken ≡ counted old.taken
