use Rattle.chart_parse.proofs.Bits.{inserted}
use Rattle.chart_parse.proofs.rows.insert.Goals as goal

pub returns-clause-one : goal.returns-clause-one
returns-clause-one c = inserted c.args.row.now c.args.e c.requires
