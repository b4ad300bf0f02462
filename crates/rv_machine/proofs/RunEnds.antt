-- What a loop of steps has done so far, and how it ends.
use Rattle.std.proofs.Common.{◌≡◌, ℕ, ◌+◌, ◌<◌, Bool, List, [], ◌∷◌, ◌++◌, refl, sym, ap, ◌∙◌, arith, append-nil, append_assoc}
use Rattle.std.specs.Prelude.{◌≢◌, IsTrue}
use Rattle.acg_base.specs.Outside.{counted}
use Rattle.rv_code.specs.declared.cause.Cause.{Cause}
use Rattle.rv_machine.specs.declared.answers.Step.TheVariants as step
use Rattle.rv_machine.specs.declared.answers.Run.TheVariants as run
use Rattle.rv_machine.specs.Machines.{MachineValue, InputValue, left, sent, sent_in, write_counted, writes_behind, Runs, IsCounted}
use Rattle.rv_machine.specs.Effects.{RunsPlainly}
use Rattle.rv_machine.specs.Stepping.{Stepped, RanWithin}
use Rattle.rv_machine.proofs.RunsLemmas.{runs-none, runs-more, sent_in-none, sent_in-more, sent_in-exit, sent_in-trap, run-exits, run-traps, writes_behind-none, writes_behind-more, writes_behind-end, counted-none, counted-more}

-- n instructions led from a machine, its input and its sink to others, without a fault
pub record RanSo {K : Type 0} (written : K → List ℕ) (faults writes : K → ℕ) (tells : K → Bool) (n : ℕ) (old : MachineValue) (input : InputValue) (out : K) (new : MachineValue) (rest : InputValue) (gained : K) : Type 0 where
  pub runs : Runs n old (left input) new (left rest)
  pub counted : IsCounted n old new
  pub bytes : rest.bytes ≡ input.bytes
  pub still : faults gained ≡ faults out
  pub telling : tells gained ≡ tells out
  pub wrote : writes gained ≡ writes_behind n old (left input) (writes out)
  pub told : IsTrue (tells out) → written gained ≡ written out ++ sent_in n old (left input)

module _ {K : Type 0} (written : K → List ℕ) (faults writes : K → ℕ) (tells : K → Bool) (old : MachineValue) (input : InputValue) (out : K) where
  pub begins : RanSo written faults writes tells 0 old input out old input out
  begins = record {
    runs = runs-none old (left input);
    counted = counted-none old;
    bytes = refl;
    still = refl;
    telling = refl;
    wrote = sym (writes_behind-none old (left input) (writes out));
    told = λ _. rw (sent_in-none old (left input)) (sym (append-nil (written out)));
  }

-- what makes no write with an empty piece, and one with another
once : (piece : List ℕ) (first all : ℕ) → (piece ≡ [] → all ≡ first) → (piece ≢ [] → all ≡ counted first) → all ≡ write_counted piece first
once [] first all none one = none refl
once (byte ∷ bytes) first all none one = one (λ e. cc)

module _ {K : Type 0} (written : K → List ℕ) (faults writes : K → ℕ) (tells last_failed : K → Bool) (n : ℕ) (old : MachineValue) (input : InputValue) (out : K) (m : MachineValue) (i : InputValue) (k : K) (before : RanSo written faults writes tells n old input out m i k) where
  -- one more instruction
  pub goes-on : (new : MachineValue) (rest : InputValue) (gained : K) → Stepped written faults writes tells last_failed step.Ran m i k new rest gained →
      RanSo written faults writes tells (n + 1) old input out new rest gained
  goes-on new rest gained h =
      let steps = h.ran refl in
      record {
        runs = runs-more n old (left input) m (left i) new (left rest) before.runs steps;
        counted = counted-more n old m new before.counted (h.taken refl);
        bytes = h.bytes ∙ before.bytes;
        still = h.still (λ e. cc) ∙ before.still;
        telling = h.tells_still ∙ before.telling;
        wrote = rw (writes_behind-more n old (left input) m (left i) new (left rest) (writes out) before.runs steps, ← before.wrote)
            (once (sent m) (writes k) (writes gained) (λ e. ap writes (h.untouched e)) h.once);
        told = λ told.
            rw (
              h.told refl (rw before.telling told),
              before.told told,
              sent_in-more n old (left input) m (left i) new (left rest) before.runs steps,
              append_assoc,
            )
            refl;
      }

  -- one more instruction that sends nothing
  pub goes-on-plainly : (new : MachineValue) → RunsPlainly m new → RanSo written faults writes tells (n + 1) old input out new i k
  goes-on-plainly new h =
      let steps = h.ran (left i) in
      let sent_more = sent_in-more n old (left input) m (left i) new (left i) before.runs steps in
      let same : sent_in (n + 1) old (left input) ≡ sent_in n old (left input) = rw (sent_more, h.silent) (append-nil (sent_in n old (left input))) in
      record {
        runs = runs-more n old (left input) m (left i) new (left i) before.runs steps;
        counted = counted-more n old m new before.counted h.taken;
        bytes = before.bytes;
        still = before.still;
        telling = before.telling;
        wrote = rw (writes_behind-more n old (left input) m (left i) new (left i) (writes out) before.runs steps, h.silent) before.wrote;
        told = λ told. rw same (before.told told);
      }

  -- all instructions ran
  pub ends-all : RanWithin written faults writes tells last_failed n run.Budget old input out m i k
  ends-all = record {
    all = λ _. (before.runs, before.counted);
    fewer = λ h. absurd (h refl);
    exited = λ code e. absurd (cc);
    trapped = λ cause pc e. absurd (cc);
    fault = λ e. absurd (cc);
    bytes = before.bytes;
    told = λ _ told. before.told told;
    wrote = λ _. before.wrote;
    part = λ e. absurd (cc);
    failed = λ e. absurd (cc);
    still = λ _. before.still;
    counts = omega (arith, before.still);
    tells_still = before.telling;
  }

  -- the next instruction exits
  pub ends-exit : (most code : ℕ) (new : MachineValue) (rest : InputValue) (gained : K) → n < most →
      Stepped written faults writes tells last_failed (step.Exited code) m i k new rest gained →
      RanWithin written faults writes tells last_failed most (run.Exited code) old input out new rest gained
  ends-exit most code new rest gained h s =
      let stays = s.stays (λ e. cc) in
      let exits = s.exited code refl in
      let idle = s.idle (λ e. cc) (λ e. cc) in
      let silent = λ (b : ℕ). sent_in-exit n b old (left input) m (left i) code before.runs exits in
      let runs = run-exits n most old (left input) m (left i) code before.runs exits h in
      rw (stays.0, stays.1, idle)
      (record {
        all = λ e. absurd (cc);
        fewer = λ _. (n, (h, (before.runs, before.counted)));
        exited = λ c e. let same : code ≡ c = cc in rw (← same) (runs, exits);
        trapped = λ cause pc e. absurd (cc);
        fault = λ e. absurd (cc);
        bytes = before.bytes;
        told = λ _ told. rw (sent_in-exit n most old (left input) m (left i) code before.runs exits h) (before.told told);
        wrote = λ _. rw (writes_behind-end n most old (left input) (writes out) silent h) before.wrote;
        part = λ e. absurd (cc);
        failed = λ e. absurd (cc);
        still = λ _. before.still;
        counts = omega (arith, before.still);
        tells_still = before.telling;
      })

  -- the next instruction traps
  pub ends-trap : (most : ℕ) (cause : Cause) (pc : ℕ) (new : MachineValue) (rest : InputValue) (gained : K) → n < most →
      Stepped written faults writes tells last_failed (step.Trapped cause pc) m i k new rest gained →
      RanWithin written faults writes tells last_failed most (run.Trapped cause pc) old input out new rest gained
  ends-trap most cause pc new rest gained h s =
      let stays = s.stays (λ e. cc) in
      let traps = s.trapped cause pc refl in
      let idle = s.idle (λ e. cc) (λ e. cc) in
      let silent = λ (b : ℕ). sent_in-trap n b old (left input) m (left i) cause before.runs traps.0 in
      let runs = run-traps n most old (left input) m (left i) cause before.runs traps.0 h in
      rw (stays.0, stays.1, idle)
      (record {
        all = λ e. absurd (cc);
        fewer = λ _. (n, (h, (before.runs, before.counted)));
        exited = λ code e. absurd (cc);
        trapped = λ c p e. let same : cause ≡ c = cc in let at : p ≡ m.pc = cc (traps.1) in rw (← same) (runs, (traps.0, at));
        fault = λ e. absurd (cc);
        bytes = before.bytes;
        told = λ _ told. rw (sent_in-trap n most old (left input) m (left i) cause before.runs traps.0 h) (before.told told);
        wrote = λ _. rw (writes_behind-end n most old (left input) (writes out) silent h) before.wrote;
        part = λ e. absurd (cc);
        failed = λ e. absurd (cc);
        still = λ _. before.still;
        counts = omega (arith, before.still);
        tells_still = before.telling;
      })

  -- the sink fails at the next instruction
  pub ends-fault : (most : ℕ) (new : MachineValue) (rest : InputValue) (gained : K) → n < most →
      Stepped written faults writes tells last_failed step.SinkFault m i k new rest gained →
      RanWithin written faults writes tells last_failed most run.SinkFault old input out new rest gained
  ends-fault most new rest gained h s =
      let stays = s.stays (λ e. cc) in
      let fault = s.fault refl in
      let count : writes gained ≡ counted (writes_behind n old (left input) (writes out)) = rw (← before.wrote) (s.once fault.0) in
      rw (stays.0, stays.1)
      (record {
        all = λ e. absurd (cc);
        fewer = λ _. (n, (h, (before.runs, before.counted)));
        exited = λ code e. absurd (cc);
        trapped = λ cause pc e. absurd (cc);
        fault = λ _. fault;
        bytes = before.bytes;
        told = λ e. absurd (e refl);
        wrote = λ e. absurd (e refl);
        part = λ _.
            (n, (h, (before.runs, (before.counted, (count, λ told. rw (← before.told told) (s.part refl (rw before.telling told)))))));
        failed = λ _. rw (← before.still) (s.failed refl);
        still = λ e. absurd (e refl);
        counts = omega (arith, before.still, s.counts);
        tells_still = s.tells_still ∙ before.telling;
      })
