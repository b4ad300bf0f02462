use Rattle.action_text.proofs.SpacedTokens.{said_more}
use Rattle.action_text.proofs.unfinished.Text.say.Goals as goal

pub returns : goal.returns
returns c tokens says =
    said_more _ tokens c.args.token.now c.begin.new.self.bytes.items (c.in_ok-begin.ensures.bytes tokens says) c.in_ok-extend_from_slice.ensures.items c.in_ok-begin.ensures.last
