-- So much code for the words so far.
use Rattle.std.proofs.Common.{◌≡◌, ◌+◌, ◌*◌, ◌≤◌}
use Rattle.rv_asm.specs.Assembly.{total}
use Rattle.rv_yield_tests.proofs.programs.append_words.Given as goal

abbrev pub invariant-loop-i : goal.invariant-loop-i
invariant-loop-i l = record {
  labels : l.asm.labels ≡ l.initial.asm.labels;
  short : total l.asm.items ≤ total l.initial.asm.items + 17 * l.i;
}
