use Rattle.std.proofs.Common.{◌≡◌, ◌<◌, ℕ, length, slice_index}
use Rattle.sort_rules.proofs.roots.own_numbers.Given as goal

-- the first numbers are there
abbrev pub invariant-loop-k : goal.invariant-loop-k
invariant-loop-k l = record {
  long : length l.numbers.items ≡ l.k;
  own : (j : ℕ) → j < l.k → slice_index l.numbers.items j ≡ j;
}
