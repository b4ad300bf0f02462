use Rattle.std.proofs.Common.{subst}
use Rattle.chart_parse.specs.Charts.{PlainChart}
use Rattle.tree_pick.specs.Corners.{AreAllCorners}
use Rattle.tree_pick.proofs.AllCorners.{no_growth}
use Rattle.tree_pick.proofs.parse.Parse.leads.Goals as goal

pub returns : goal.returns
returns c un j k can =
    let all = subst (λ (v : PlainChart). AreAllCorners v.grammar c.self.inside.corners.now.pairs.keys) c.self.view_is c.self.invariant.5 in
    no_growth c.args.self.now.grammar c.args.self.now.kinds c.self.inside.corners.now.pairs.keys all c.args.whole j c.args.first k (c.is_corner.ensures un) can
