use Rattle.std.proofs.Common.{ℕ, List, subst}
use Rattle.chart_parse.specs.Rows.{Has}
use Rattle.chart_parse.proofs.Bits.{none_there}
use Rattle.chart_parse.proofs.rows.empty.Goals as goal

pub returns-clause-none : goal.returns-clause-none
returns-clause-none c e h = none_there c.args.width e (subst (λ (r : List ℕ). Has r e) (c.in_ok-vec.ensures.items_if_clones_equal (λ y q. q)) h)
