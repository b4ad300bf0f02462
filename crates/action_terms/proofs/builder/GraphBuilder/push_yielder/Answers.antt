use Rattle.std.proofs.Common.{◌<◌, length}
use Rattle.action_terms.proofs.BuilderLemmas.{keeps-yielder, length_below}
use Rattle.action_terms.proofs.builder.GraphBuilder.push_yielder.Goals as goal

pub invariant_of-self-2 : goal.invariant_of-self-2
invariant_of-self-2 c =
    let s = c.self.inside in
    let less : length s.pushed.items < 65536 = length_below s.pushed c.len.result 65536 c.len.ensures c.if-len-ge-NODE_LIMIT.false in
    keeps-yielder s.pushed.items c.push.new.self.items _ s.expected c.reserve.new.self c.follow.new.self s.actions s.yielders c.self.invariant less
    c.in_ok-push.ensures.items c.in_ok-reserve.ensures.same c.follow.ensures
