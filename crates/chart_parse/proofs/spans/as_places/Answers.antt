use Rattle.std.proofs.Common.{arith, get_or}
use Rattle.std.proofs.lemmas.List.Elements.{Contains-get_or}
use Rattle.chart_parse.proofs.spans.as_places.Goals as goal

pub overflow_cast-list : goal.overflow_cast-list
overflow_cast-list c = omega (arith, c.requires (get_or c.args.list.now c.loop-k.k 0) (Contains-get_or c.args.list.now c.loop-k.k 0 c.loop-k-test.true))
