use Rattle.std.proofs.Common.{◌≡◌, map, drop}
use Rattle.action_text.specs.Numbers.{name_number}
use Rattle.action_text.specs.Tables.{other_of}
use Rattle.action_text.specs.Rows.{other_at}
use Rattle.action_text.proofs.lookup.find_other_in.Given as goal

abbrev pub invariant-loop-row : goal.invariant-loop-row
invariant-loop-row l = other_of (map other_at l.rows) (name_number l.name) ≡ other_of (map other_at (drop l.row-index l.rows)) (name_number l.name)
