use Rattle.std.proofs.Common.{◌+◌, refl}
use Rattle.sort_report.specs.Report.{numbered}
use Rattle.sort_report.proofs.SeparatedLaws.{separated-grown}
use Rattle.sort_report.proofs.parts.put_numbered.Goals as goal

pub loop-index-preserved : goal.loop-index-preserved
loop-index-preserved c =
    separated-grown c.args.text.now.items 124 c.args.members (c.args.members + c.loop-index.index) (numbered c.args.word.now) c.args.numbers.now c.loop-index.index 0 _ c.loop-index-test.true refl refl c.loop-index.invariant c.in_ok-put_member.ensures
