use Rattle.std.proofs.Common.{◌≡◌, ℕ, ◌+◌}
use Rattle.rv_asm.specs.Assembly.{total, is_placed}
use Rattle.acg_driver_tests.proofs.assembled.append_sums.Given as goal

abbrev pub invariant-loop-index : goal.invariant-loop-index
invariant-loop-index l = record {
  labels : l.asm.labels ≡ l.fn.asm.labels;
  words : total l.asm.items ≡ total l.fn.asm.items + l._index;
  placed : (k : ℕ) → is_placed l.asm.items k ≡ is_placed l.fn.asm.items k;
}
