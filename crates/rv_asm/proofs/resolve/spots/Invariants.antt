use Rattle.std.proofs.Common.{◌≡◌, ℕ, ◌+◌, ◌<◌, take, drop, slice_index, vec_len}
use Rattle.rv_asm.specs.Assembly.{total, spot}
use Rattle.rv_asm.proofs.resolve.spots.Given as goal

abbrev pub invariant-loop-index : goal.invariant-loop-index
invariant-loop-index l = record {
  before : l.before ≡ total (take l.index l.items);
  len : vec_len l.spots ≡ l.labels;
  spots : (k : ℕ) → k < l.labels → slice_index l.spots.items k ≡ l.before + spot (drop l.index l.items) k;
}
