use Rattle.chart_parse.proofs.Bits.{has_tests}
use Rattle.chart_parse.proofs.rows.has.Goals as goal

pub returns : goal.returns
returns c = has_tests _ _
