use Rattle.std.proofs.Common.{◌-◌, arith}
use Rattle.action_sos.specs.Views.{frame_of, part_of}
use Rattle.action_sos.proofs.CountedParts.{depth-outer, passed-frame}
use Rattle.action_sos.proofs.part.Part.break_off.Goals as goal

pub loop-frame-smaller-in-Some-broken_beside : goal.loop-frame-smaller-in-Some-broken_beside
loop-frame-smaller-in-Some-broken_beside c =
    depth-outer c.loop-frame.part c.in-Some.outer (frame_of c.in-Some.frame) c.loop-frame.invariant.0 c.in-Some.ensures.counted c.in-Some.ensures.frames

pub loop-frame-preserved-in-Some-broken_beside : goal.loop-frame-preserved-in-Some-broken_beside
loop-frame-preserved-in-Some-broken_beside c =
    let past = c.loop-frame.invariant in
    passed-frame c.loop-frame.part c.in-Some.outer (frame_of c.in-Some.frame) past.0 c.in-Some.ensures.counted c.in-Some.ensures.frames
    (part_of c.args.self).frames past.2.0 c.loop-frame.left (c.loop-frame.left - 1) c.args.index past.1 past.2.1 past.2.2
    (grind (arith, c.in-Some-broken_beside.ensures.one, c.if-left-eq0.false))

pub loop-frame-smaller : goal.loop-frame-smaller
loop-frame-smaller c =
    depth-outer c.loop-frame.part c.in-Some.outer (frame_of c.in-Some.frame) c.loop-frame.invariant.0 c.in-Some.ensures.counted c.in-Some.ensures.frames

pub loop-frame-preserved : goal.loop-frame-preserved
loop-frame-preserved c =
    let past = c.loop-frame.invariant in
    passed-frame c.loop-frame.part c.in-Some.outer (frame_of c.in-Some.frame) past.0 c.in-Some.ensures.counted c.in-Some.ensures.frames
    (part_of c.args.self).frames past.2.0 c.loop-frame.left c.loop-frame.left c.args.index past.1 past.2.1 past.2.2
    (omega (arith, c.in_default-broken_beside.ensures.none))
