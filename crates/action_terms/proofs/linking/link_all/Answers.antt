use Rattle.std.proofs.Common.{◌≡◌, ◌+◌, ◌-◌, ◌<◌, length, arith}
use Rattle.action_terms.proofs.SealLemmas.{links_more}
use Rattle.action_terms.proofs.linking.link_all.Goals as goal

pub loop-i-preserved : goal.loop-i-preserved
loop-i-preserved c =
    let within : c.loop-i.i - 1 < length c.args.entered.now = omega (arith, c.loop-i.auto.i, c.loop-i-test.true) in
    let next : c.loop-i.i - 1 + 1 ≡ c.loop-i.i = omega (arith, c.loop-i-test.true) in
    links_more c.args.entered.now (c.loop-i.i - 1) c.loop-i.i _ c.link.new.self within next (c.in_ok-link.ensures _ c.loop-i.invariant)
