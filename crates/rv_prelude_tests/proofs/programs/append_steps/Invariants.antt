-- So much code for the steps so far, and no label of it.
use Rattle.std.proofs.Common.{◌≡◌, ℕ, ◌+◌, ◌*◌, ◌≤◌}
use Rattle.rv_asm.specs.Assembly.{is_placed, total}
use Rattle.rv_prelude_tests.proofs.programs.append_steps.Given as goal

abbrev pub invariant-loop-step : goal.invariant-loop-step
invariant-loop-step l = record {
  labels : l.asm.labels ≡ l.initial.asm.labels;
  short : total l.asm.items ≤ total l.initial.asm.items + 21 * l.step-index;
  placed : (k : ℕ) → is_placed l.asm.items k ≡ is_placed l.initial.asm.items k;
}
