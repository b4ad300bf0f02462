use Rattle.action_sos.specs.Views.{frame_of}
use Rattle.action_sos.proofs.CountedParts.{depth-outer}
use Rattle.action_sos.proofs.part.Part.inmost_first.Goals as goal

pub loop-frame-smaller : goal.loop-frame-smaller
loop-frame-smaller c = depth-outer c.loop-frame.part c.in-Some.outer (frame_of c.in-Some.frame) c.loop-frame.invariant.0 c.in-Some.ensures.counted c.in-Some.ensures.frames
