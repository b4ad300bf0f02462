use Rattle.std.proofs.Common.{◌≡◌, map, drop}
use Rattle.action_text.specs.Numbers.{class_number, name_number}
use Rattle.action_text.specs.Tables.{line_of}
use Rattle.action_text.specs.Rows.{line_at}
use Rattle.action_text.proofs.lookup.find_row_in.Given as goal

abbrev pub invariant-loop-row : goal.invariant-loop-row
invariant-loop-row l = line_of (map line_at l.rows) (name_number l.name) (class_number l.class) ≡ line_of (map line_at (drop l.row-index l.rows)) (name_number l.name) (class_number l.class)
