use Rattle.meta_check.proofs.Filling.{part_pushed}
use Rattle.meta_check.proofs.equations.parts_of.Goals as goal

pub loop-part-preserved : goal.loop-part-preserved
loop-part-preserved c =
    part_pushed c.args.pattern.now c.loop-part.part-index _ c.loop-part.parts.items c.push.new.self.items c.loop-part-test.true c.loop-part.invariant c.in_ok-push.ensures.items
