use Rattle.std.proofs.Common.{◌≡◌, ◌<◌, ℕ, get_or}
use Rattle.tree_pick.proofs.Looked.{taken}
use Rattle.tree_pick.proofs.choices.first_of.Given as goal

abbrev pub invariant-loop-k : goal.invariant-loop-k
invariant-loop-k l = (j : ℕ) → j < l.k → get_or l.found j (taken 0 0 0) ≡ l.first
