use Rattle.std.proofs.Common.{length, ◌≡◌}
use Rattle.sort_rules.proofs.MarkedLaws.{AreMarked}
use Rattle.sort_rules.proofs.marking.marked_rows.Given as goal

-- the first rows are there
abbrev pub invariant-loop-i : goal.invariant-loop-i
invariant-loop-i l = record { count : length l.marked.items ≡ l.i; marked : AreMarked l.rows l.contents l.marked.items l.i }
