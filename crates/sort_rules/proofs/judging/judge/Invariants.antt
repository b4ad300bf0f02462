use Rattle.std.proofs.Common.{◌≡◌, drop, map}
use Rattle.std.specs.Prelude.{reverse}
use Rattle.sort_rules.specs.MarkedRows.{contents_in}
use Rattle.sort_rules.specs.Postorder.{judged_by_all}
use Rattle.sort_rules.specs.Views.{judgement_of, marked_binds_of, marked_tuple_of}
use Rattle.sort_rules.proofs.judging.judge.Given as goal

-- the last ones are judged
abbrev pub invariant-loop-i : goal.invariant-loop-i
invariant-loop-i l =
    map judgement_of (reverse l.stack.items) ≡ judged_by_all (contents_in l.context.rows.now) (marked_tuple_of l.context.g) (marked_binds_of l.context.h) (drop l.i l.views.items)
