use Rattle.std.proofs.Common.{Some}
use Rattle.std.proofs.lemmas.List.Elements.{All-pop}
use Rattle.action_terms.specs.Forms.{IsDatum}
use Rattle.binding_capture.specs.Asked.{tokens_of}
use Rattle.binding_capture.proofs.Listing.{data-left, named-next}
use Rattle.binding_capture.proofs.named.push_named_in.Goals as goal

pub loop-next-preserved : goal.loop-next-preserved
loop-next-preserved c =
    let g = c.args.graph.now in
    let inv = c.loop-next.invariant in
    let left = c.loop-next.left.items in
    let rest = c.pop.new.self.items in
    let left2 = c.push_arguments.new.left.items in
    let next = c.in-Some.next in
    let popped = All-pop (IsDatum g.yielders) c.loop-next.left.items c.pop.new.self.items (Some c.in-Some.next) c.in-Some.ensures.items inv.data_left in
    let taken = c.in-Some.ensures.items in
    let put = c.in_ok-push_arguments.ensures in
    let view = c.yielder_view-view.ensures in
    record {
      named = named-next g left rest left2 next c.yielder_view-view.result view popped.1 taken put (tokens_of c.loop-next.tokens.items) (tokens_of c.push_own.new.tokens.items) _ inv.named c.in_ok-push_own.ensures;
      data_left = data-left g left rest left2 next c.yielder_view-view.result view popped.1 taken put popped.0;
    }
