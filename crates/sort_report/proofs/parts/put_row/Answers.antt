use Rattle.std.proofs.Common.{append_assoc}
use Rattle.sort_report.proofs.parts.put_row.Goals as goal

pub returns : goal.returns
returns c =
    rw (c.in_ok-put_tuple-3.ensures, c.in_ok-put-5.ensures, c.in_ok-put_binds-2.ensures, c.in_ok-put-4.ensures, c.in_ok-put_tuple-2.ensures)
    (rw (c.in_ok-put-3.ensures, c.in_ok-put_binds.ensures, c.in_ok-put-2.ensures, c.in_ok-put_tuple.ensures, c.in_ok-put.ensures)
    (simp append_assoc))
