use Rattle.std.proofs.Common.{◌+◌, sym, subst}
use Rattle.chart_parse.specs.Places.{width_of}
use Rattle.chart_parse.proofs.NearRows.{AreEmpty, empty_none, empty_next}
use Rattle.chart_parse.proofs.near.no_near.Goals as goal

pub loop-init : goal.loop-init
loop-init c = subst (AreEmpty (width_of c.args.source.now.kinds.now) 0) (sym c.new-near.ensures.items) (empty_none (width_of c.args.source.now.kinds.now))

pub loop-preserved : goal.loop-preserved
loop-preserved c =
    let width = width_of c.args.source.now.kinds.now in
    subst (AreEmpty width (c.loop.counter + 1)) (sym c.in_ok-push.ensures.items)
    (empty_next width c.loop.counter c.loop.near.items c.in_ok-empty.field-0 c.loop.invariant c.in_ok-empty.ensures.len c.in_ok-empty.ensures.none)
