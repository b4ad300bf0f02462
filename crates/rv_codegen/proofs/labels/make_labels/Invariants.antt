use Rattle.std.proofs.Common.{◌≡◌, ℕ, ◌+◌, ◌<◌, slice_index, length}
use Rattle.rv_codegen.proofs.labels.make_labels.Given as goal

-- as many labels as turns, with numbers that follow one another
abbrev pub invariant-loop : goal.invariant-loop
invariant-loop l = record {
  len : length l.labels.items ≡ l.counter;
  numbers : (i : ℕ) → i < l.counter → slice_index l.labels.items i ≡ l.fn.asm.labels + i;
  asm : l.asm ≡ record l.fn.asm { labels = l.fn.asm.labels + l.counter };
}
