-- Runs whose output is passed on as it is.
use Rattle.std.proofs.Common.{◌≡◌, ◌≢◌, ℕ, ◌<◌, List, [], ◌++◌, IsTrue, refl, sym, ap, ◌∙◌, subst, append_assoc}
use Rattle.acg_base.specs.Outside.{counted, GainsFrontOf}
use Rattle.acg_base.specs.declared.sink.Sink.{Ghosts}
use Rattle.rv_code.specs.Machine.{State, Outcome, Ran, Exited, Trapped, run}
use Rattle.rv_code.specs.declared.cause.Cause.{Cause}
use Rattle.rv_machine.specs.Machines.{MachineValue, state_of, last, sent, sent_in, StepTraps, StepSends, Runs, RunExits, RunTraps}
use Rattle.rv_machine.proofs.GrowsLemmas.{sent_in-passes}
use Rattle.rv_machine.proofs.RunsLemmas.{last-end, trapped-end}
use Rattle.acg_words.specs.Lines.{bytes_of, status_of, trapped_line}
use Rattle.acg_words.specs.Prints.{Broke}
use Rattle.acg_words.specs.declared.line.Line.{Line}
use Rattle.acg_words.specs.declared.line.Line.TheVariants as line
use Rattle.acg_words.proofs.PrintsLemmas.{front_of_second}
use Rattle.acg_driver.specs.Commands.Run.{EndsAs, IsRunFrom}
use Rattle.acg_driver.proofs.RunLemmas.{OutputIs, run-output}

-- what is said of a run that exits
pub exit-says : (b : ℕ) (m : MachineValue) (i : List ℕ) (code : ℕ) → RunExits b m i code →
    IsRunFrom b (state_of m i []) (sent_in b m i ++ bytes_of (line.Exited code)) (status_of (line.Exited code))
exit-says b m i code exits = rw (exits []) (refl, refl)

-- of one that traps
pub trap-says : (n b : ℕ) (m : MachineValue) (i : List ℕ) (k : MachineValue) (j : List ℕ) (cause : Cause) (pc : ℕ) →
    Runs n m i k j → StepTraps k j cause → n < b → pc ≡ k.pc → RunTraps b m i cause →
    IsRunFrom b (state_of m i []) (sent_in b m i ++ bytes_of (line.Trapped cause pc)) (status_of (line.Trapped cause pc))
unfolding sent_in
trap-says n b m i k j cause pc r s h is traps =
    let before : last b (state_of m i []) ≡ state_of k j (sent_in n m i) =
    last-end n b (state_of m i []) _ _ (trapped-end cause) h (r []) (s _)
    in
    let there : pc ≡ (last b (state_of m i [])).pc = is ∙ sym (ap (λ t. t.pc) before) in
    rw (traps []) (ap (λ p. (last b (state_of m i [])).output ++ trapped_line cause p) there, refl)

-- and of one that doesn't end
pub running-says : (b : ℕ) (m : MachineValue) (i : List ℕ) (k : MachineValue) (j : List ℕ) → Runs b m i k j →
    IsRunFrom b (state_of m i []) (sent_in b m i ++ bytes_of line.Running) (status_of line.Running)
running-says b m i k j r = rw (r []) (refl, refl)

-- a line that is right behind an output
pub record EndsWith (o : Outcome) (before : State) (output : List ℕ) : Type 0 where
  pub line : Line
  pub right : EndsAs o before (output ++ bytes_of line) (status_of line)

outcome-ends : (o : Outcome) (before : State) → OutputIs before.output o → EndsWith o before before.output
outcome-ends (Ran s) before is = record { line = line.Running; right = (ap (λ output. output ++ bytes_of line.Running) (sym is), refl) }
outcome-ends (Exited code sent) before is = record { line = line.Exited code; right = (ap (λ output. output ++ bytes_of (line.Exited code)) (sym is), refl) }
outcome-ends (Trapped cause) before is = record { line = line.Trapped cause before.pc; right = (refl, refl) }

-- a run says something, which begins with its output
pub whole-end : (b : ℕ) (m : MachineValue) (i : List ℕ) → EndsWith (run b (state_of m i [])) (last b (state_of m i [])) (sent_in b m i)
unfolding sent_in
whole-end b m i = outcome-ends (run b (state_of m i [])) (last b (state_of m i [])) (run-output b (state_of m i []))

-- what is said of a run, where it sends at an instruction
pub record PassesAt (b n : ℕ) (m : MachineValue) (i : List ℕ) (k : MachineValue) : Type 0 where
  pub rest : List ℕ
  pub line : Line
  pub right : IsRunFrom b (state_of m i []) ((sent_in n m i ++ sent k) ++ (rest ++ bytes_of line)) (status_of line)

pub passes-at : (n b : ℕ) (m : MachineValue) (i : List ℕ) (k : MachineValue) (j : List ℕ) → n < b → Runs n m i k j → sent k ≢ [] → StepSends k j → PassesAt b n m i k
passes-at n b m i k j h r some sends =
    let all = whole-end b m i in
    let passes = sent_in-passes n b m i k j h r some sends in
    let split = ap (λ output. output ++ bytes_of all.line) passes.1 ∙ append_assoc (sent_in n m i ++ sent k) passes.0 (bytes_of all.line) in
    record {
      rest = passes.0;
      line = all.line;
      right = subst (λ text. IsRunFrom b (state_of m i []) text (status_of all.line)) split all.right;
    }

module _ {K : Type 0} {sink : Ghosts K} where
  -- a sink that failed at the bytes of one instruction took a front of what was sent up to them
  pub broke-at :
      (before piece : List ℕ) {old new : K} →
      (IsTrue (sink.tells old) → GainsFrontOf piece (sink.written old ++ before) (sink.written new)) →
      sink.faults new ≡ counted (sink.faults old) → IsTrue (sink.last_failed new) → sink.tells new ≡ sink.tells old →
      Broke sink (before ++ piece) old new
  broke-at before piece {old} {new} gains one failed still = record {
    part = λ told. front_of_second before piece (sink.written old) (sink.written old ++ before) (sink.written new) refl (gains told);
    last = failed;
    one = one;
    tells_still = still;
  }
