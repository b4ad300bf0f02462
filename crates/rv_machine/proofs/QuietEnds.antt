-- What a loop of instructions that send nothing has done so far, and how it ends.
use Rattle.std.proofs.Common.{◌≡◌, ℕ, ◌+◌, ◌<◌, [], refl, ◌∙◌, arith}
use Rattle.rv_code.specs.declared.cause.Cause.{Cause}
use Rattle.rv_machine.specs.declared.answers.Turn.TheVariants as turn
use Rattle.rv_machine.specs.declared.answers.QuietEnd.TheVariants as quiet
use Rattle.rv_machine.specs.Machines.{MachineValue, InputValue, left, sent_in, Runs, IsCounted, StepExits, StepTraps}
use Rattle.rv_machine.specs.Effects.{IsSend, Turns, RunsPlainly}
use Rattle.rv_machine.specs.Stepping.{RanQuietly}
use Rattle.acg_base.specs.Outside.{counted}
use Rattle.rv_machine.proofs.RunsLemmas.{runs-none, runs-more, sent_in-none, sent_in-more, counted-none, counted-more}
use Rattle.rv_machine.proofs.StepsLemmas.{is-send-not_empty, is-send-sends}

-- n instructions led from a machine and its input to others, and sent nothing
pub record RanSilently (n : ℕ) (old : MachineValue) (input : InputValue) (new : MachineValue) (rest : InputValue) : Type 0 where
  pub runs : Runs n old (left input) new (left rest)
  pub silent : sent_in n old (left input) ≡ []
  pub counted : IsCounted n old new
  pub bytes : rest.bytes ≡ input.bytes

pub begins : (old : MachineValue) (input : InputValue) → RanSilently 0 old input old input
begins old input = record {
  runs = runs-none old (left input);
  silent = sent_in-none old (left input);
  counted = counted-none old;
  bytes = refl;
}

module _ (n : ℕ) (old : MachineValue) (input : InputValue) (m : MachineValue) (i : InputValue) (before : RanSilently n old input m i) where
  -- one more instruction, which is then counted
  pub goes-on : (new : MachineValue) (rest : InputValue) (more : MachineValue) → Turns turn.Ran m i new rest →
      more ≡ record new { taken = counted new.taken } → RanSilently (n + 1) old input more rest
  goes-on new rest more h e =
      let steps = h.ran refl in
      let taken : more.taken ≡ counted m.taken = rw (e, h.taken) refl in
      record {
        runs = rw e (runs-more n old (left input) m (left i) new (left rest) before.runs steps);
        silent = rw (sent_in-more n old (left input) m (left i) new (left rest) before.runs steps, before.silent, h.silent refl) refl;
        counted = counted-more n old m more before.counted taken;
        bytes = h.bytes ∙ before.bytes;
      }

  -- one more instruction that sends nothing
  pub goes-on-plainly : (new : MachineValue) → RunsPlainly m new → RanSilently (n + 1) old input new i
  goes-on-plainly new h = record {
    runs = runs-more n old (left input) m (left i) new (left i) before.runs (h.ran (left i));
    silent = rw (sent_in-more n old (left input) m (left i) new (left i) before.runs (h.ran (left i)), before.silent, h.silent) refl;
    counted = counted-more n old m new before.counted h.taken;
    bytes = before.bytes;
  }

  -- all instructions ran
  pub ends-all : RanQuietly n (record { end = quiet.Budget; ran = n }) old input m i
  ends-all = record {
    ran = before.runs;
    silent = before.silent;
    counted = before.counted;
    bytes = before.bytes;
    within = omega arith;
    fewer = λ e. absurd (e refl);
    all = λ _. refl;
    exited = λ code e. absurd (cc);
    trapped = λ cause pc e. absurd (cc);
    sends = λ e. absurd (cc);
  }

  -- the next instruction exits
  pub ends-exit : (most code : ℕ) → n < most → StepExits m (left i) code →
      RanQuietly most (record { end = quiet.Exited code; ran = n }) old input m i
  ends-exit most code h exits = record {
    ran = before.runs;
    silent = before.silent;
    counted = before.counted;
    bytes = before.bytes;
    within = omega arith;
    fewer = λ _. h;
    all = λ e. absurd (cc);
    exited = λ c e. let same : code ≡ c = cc in rw (← same) exits;
    trapped = λ cause pc e. absurd (cc);
    sends = λ e. absurd (cc);
  }

  -- the next instruction traps
  pub ends-trap : (most : ℕ) (cause : Cause) → n < most → StepTraps m (left i) cause →
      RanQuietly most (record { end = quiet.Trapped cause m.pc; ran = n }) old input m i
  ends-trap most cause h traps = record {
    ran = before.runs;
    silent = before.silent;
    counted = before.counted;
    bytes = before.bytes;
    within = omega arith;
    fewer = λ _. h;
    all = λ e. absurd (cc);
    exited = λ code e. absurd (cc);
    trapped = λ c pc e. let same : cause ≡ c = cc in let at : m.pc ≡ pc = cc in (rw (← same) traps, rw (← at) refl);
    sends = λ e. absurd (cc);
  }

  -- the next instruction sends
  pub ends-send : (most address size : ℕ) → n < most → IsSend m address size →
      RanQuietly most (record { end = quiet.Sends; ran = n }) old input m i
  ends-send most address size h send = record {
    ran = before.runs;
    silent = before.silent;
    counted = before.counted;
    bytes = before.bytes;
    within = omega arith;
    fewer = λ _. h;
    all = λ e. absurd (cc);
    exited = λ code e. absurd (cc);
    trapped = λ cause pc e. absurd (cc);
    sends = λ _. (is-send-not_empty m address size send, is-send-sends m address size (left i) send);
  }
