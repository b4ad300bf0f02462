use Rattle.std.proofs.Common.{◌≡◌, drop}
use Rattle.sort_rules.specs.MarkedRows.{contents_in}
use Rattle.sort_rules.specs.Values.{all_contents}
use Rattle.sort_rules.specs.Views.{value_part}
use Rattle.sort_rules.proofs.judging.all_contents.Given as goal

-- the last ones are joined
abbrev pub invariant-loop-i : goal.invariant-loop-i
invariant-loop-i l = value_part l.value ≡ all_contents (contents_in l.rows) (drop l.i l.nodes)
