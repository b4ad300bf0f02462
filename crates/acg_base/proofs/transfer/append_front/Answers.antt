-- What the reads so far gave stands behind the old bytes.
use Rattle.std.proofs.Common.{arith, ◌∙◌}
use Rattle.std.proofs.Transfers.{starts_with_trans}
use Rattle.std.proofs.KnownBytes.{Consumes-more}
use Rattle.acg_base.proofs.TransferLemmas.{front-full, front-ended}
use Rattle.acg_base.proofs.transfer.append_front.Goals as goal

pub loop-left-preserved : goal.loop-left-preserved
loop-left-preserved g c =
    let old = c.args.into.now.items in
    let mid = c.loop-left.into.items in
    let new = c.append_some.new.into.items in
    let kept = c.loop-left.invariant in
    let grew = c.in-Ok.ensures.grows in
    record {
      stays = starts_with_trans new mid old c.append_some.ensures.stays kept.stays;
      room = omega (arith, kept.room, grew.0, grew.1);
      gave = Consumes-more _ _ _ old mid new kept.stays c.append_some.ensures.stays kept.gave c.in-Ok.ensures.gives;
      passed = c.append_some.ensures.passed (rw c.in-Ok.is (λ fault. cc)) ∙ kept.passed;
      source = c.append_some.ensures.source_still ∙ kept.source;
    }

pub returns-after-loop-left-clause-done : goal.returns-after-loop-left-clause-done
returns-after-loop-left-clause-done g c =
    let kept = c.loop-left.invariant in
    front-full _ _ c.args.into.now.items c.loop-left.into.items c.args.limit kept.stays kept.gave (omega (arith, kept.room, c.loop-left-test.false))

pub returns-in-Ok-eq0-clause-done : goal.returns-in-Ok-eq0-clause-done
returns-in-Ok-eq0-clause-done g c =
    let old = c.args.into.now.items in
    let mid = c.loop-left.into.items in
    let new = c.append_some.new.into.items in
    let kept = c.loop-left.invariant in
    let stays = starts_with_trans new mid old c.append_some.ensures.stays kept.stays in
    let gave = Consumes-more _ _ _ old mid new kept.stays c.append_some.ensures.stays kept.gave c.in-Ok-eq0.ensures.gives in
    front-ended _ _ old new c.args.limit stays gave (omega (arith, kept.room, c.in-Ok-eq0.ensures.grows.1)) (c.in-Ok-eq0.ensures.ends (omega arith))
