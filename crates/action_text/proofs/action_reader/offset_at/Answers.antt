use Rattle.std.proofs.Common.{sym}
use Rattle.action_text.proofs.TextAnswers.{offset_here, offset_past}
use Rattle.action_text.proofs.action_reader.offset_at.Goals as goal

pub returns-then-place-list : goal.returns-then-place-list
returns-then-place-list c = sym (offset_here c.args.list.now c.args.place c.args.size _ c.if-place-list.true)

pub returns-else-place-list : goal.returns-else-place-list
returns-else-place-list c = sym (offset_past c.args.list.now c.args.place c.args.size c.if-place-list.false)
