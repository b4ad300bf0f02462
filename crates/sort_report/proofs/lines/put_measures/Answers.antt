use Rattle.std.proofs.Common.{append_assoc}
use Rattle.sort_report.proofs.ReportLaws.{length-action_of}
use Rattle.sort_report.proofs.lines.put_measures.Goals as goal

pub returns : goal.returns
returns c =
    rw (c.in_ok-put-4.ensures, c.in_ok-put_number-3.ensures, c.in_ok-put-3.ensures, c.in_ok-put_number-2.ensures)
    (rw (c.in_ok-put-2.ensures, c.in_ok-put_number.ensures, c.in_ok-put.ensures)
    (rw (c.in_ok-factor.ensures, c.from-2.ensures, c.in_ok-most_yielders.ensures.most, c.from.ensures, c.width.ensures.width, c.requires.rows, length-action_of c.args.graph.now) (simp append_assoc)))
