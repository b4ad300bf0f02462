use Rattle.std.proofs.Common.{arith, length, ◌<◌}
use Rattle.binding_capture.specs.Asked.{tokens_of}
use Rattle.binding_capture.proofs.Listing.{named-more}
use Rattle.binding_capture.proofs.named.push_named_in_data.Goals as goal

pub loop-i-preserved : goal.loop-i-preserved
loop-i-preserved c =
    let within : c.loop-i.i < length c.args.numbers.now = omega (arith, c.loop-i-test.true) in
    named-more c.args.graph.now.yielders c.args.numbers.now c.loop-i.i 0 within (tokens_of c.loop-i.tokens.items) (tokens_of c.push_named_in_item.new.tokens.items) _
    c.loop-i.invariant c.in_ok-push_named_in_item.ensures
