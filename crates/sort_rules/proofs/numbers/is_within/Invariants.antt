use Rattle.std.proofs.Common.{◌≡◌, ◌-◌, ◌≤◌, length, drop}
use Rattle.sort_rules.specs.Numbers.{are_listed}
use Rattle.sort_rules.specs.Wellformed.{Ascending}
use Rattle.sort_rules.proofs.numbers.is_within.Given as goal

-- what is left is to be found in what is left
abbrev pub invariant-loop-i : goal.invariant-loop-i
invariant-loop-i l = record {
  rest : are_listed (drop l.i l.xs) (drop l.j l.ys) ≡ are_listed l.xs l.ys;
  ascending : Ascending (drop l.i l.xs);
  ascending2 : Ascending (drop l.j l.ys);
  first : l.i ≤ length l.xs;
  second : l.j ≤ length l.ys;
}

abbrev pub decreases-loop-i : goal.decreases-loop-i
decreases-loop-i l = length l.ys - l.j
