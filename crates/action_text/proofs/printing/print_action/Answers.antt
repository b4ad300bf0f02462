use Rattle.std.proofs.Common.{◌∙◌, ◌++◌, ◌∷◌, [], Some, sym, ap, subst, arith}
use Rattle.action_text.specs.declared.print_jobs.Side.TheVariants.{Whole}
use Rattle.action_text.specs.declared.print_jobs.Part.TheVariants as part
use Rattle.action_text.specs.declared.print_jobs.Job.TheVariants as job
use Rattle.action_text.specs.Canonical.{action_tokens}
use Rattle.action_text.proofs.PrintedGraphs.{printing_starts, node_due, action_found, yielder_found, yielder_there, action_printed, yielder_printed, all_printed}
use Rattle.action_text.proofs.ViewLabels.{view_has_place}
use Rattle.action_text.proofs.ReadableGraphs.{AllReadable, readable_more, text_read}
use Rattle.action_text.proofs.printing.print_action.Goals as goal

pub loop-text-init : goal.loop-text-init
loop-text-init c = record {
  prints = λ t is. printing_starts c.args.graph.now t c.new-text.result c.push.new.self.items is c.new-text.ensures
      (c.in_ok-push.ensures.items ∙ ap (λ y. y ++ job.Part (part.Action Whole) ∷ []) c.new-stack.ensures.items);
  readable = λ h. h;
}

pub view-requires : goal.view-requires
view-requires c = (action_found _ c.loop-text.invariant.prints c.in_ok-part.ensures.printed (c.in-Some.is ∙ ap Some c.in-Action.is) c.nodes-nodes.ensures.of_an_action).0

pub overflow_add-action : goal.overflow_add-action
overflow_add-action c =
    let found = action_found _ c.loop-text.invariant.prints c.in_ok-part.ensures.printed (c.in-Some.is ∙ ap Some c.in-Action.is) c.nodes-nodes.ensures.of_an_action in
    omega (arith, found.1)

pub loop-text-smaller-in-Action : goal.loop-text-smaller-in-Action
loop-text-smaller-in-Action c =
    let found = action_found _ c.loop-text.invariant.prints c.in_ok-part.ensures.printed (c.in-Some.is ∙ ap Some c.in-Action.is) c.nodes-nodes.ensures.of_an_action in
    omega (arith, found.0)

pub loop-text-preserved-in-Action : goal.loop-text-preserved-in-Action
loop-text-preserved-in-Action c = record {
  prints = λ t is. action_printed c.args.graph.now c.nodes-nodes.ensures.of_an_action c.in-Action.side _ _ _ c.loop-text.action c.loop-text.yielder c.view.result t c.view.ensures
      (node_due c.args.graph.now _ _ _ _ _ (part.Action c.in-Action.side) c.loop-text.action c.loop-text.yielder t (c.in-Some.is ∙ ap Some c.in-Action.is) c.in_ok-part.ensures.printed (c.loop-text.invariant.prints t is))
      c.in_ok-push_action-in-Action.ensures;
  readable = c.loop-text.invariant.readable;
}

pub yielder_view-requires : goal.yielder_view-requires
yielder_view-requires c = (yielder_found _ c.loop-text.invariant.prints c.in_ok-part.ensures.printed (c.in-Some.is ∙ ap Some c.in-Yielder.is) c.nodes-nodes.ensures.of_an_action).0

pub push_yielder-requires : goal.push_yielder-requires
push_yielder-requires c =
    let found = yielder_found _ c.loop-text.invariant.prints c.in_ok-part.ensures.printed (c.in-Some.is ∙ ap Some c.in-Yielder.is) c.nodes-nodes.ensures.of_an_action in
    let there = yielder_there c.args.graph.now c.loop-text.yielder found.0 in
    view_has_place c.args.graph.now c.nodes-nodes.ensures.of_an_action c.loop-text.yielder there.0 c.yielder_view.result there.1 c.yielder_view.ensures

pub overflow_add-yielder : goal.overflow_add-yielder
overflow_add-yielder c =
    let found = yielder_found _ c.loop-text.invariant.prints c.in_ok-part.ensures.printed (c.in-Some.is ∙ ap Some c.in-Yielder.is) c.nodes-nodes.ensures.of_an_action in
    omega (arith, found.1)

pub loop-text-smaller : goal.loop-text-smaller
loop-text-smaller c =
    let found = yielder_found _ c.loop-text.invariant.prints c.in_ok-part.ensures.printed (c.in-Some.is ∙ ap Some c.in-Yielder.is) c.nodes-nodes.ensures.of_an_action in
    omega (arith, found.0)

pub loop-text-preserved : goal.loop-text-preserved
loop-text-preserved c =
    let found = yielder_found _ c.loop-text.invariant.prints c.in_ok-part.ensures.printed (c.in-Some.is ∙ ap Some c.in-Yielder.is) c.nodes-nodes.ensures.of_an_action in
    record {
      prints = λ t is. yielder_printed c.args.graph.now c.nodes-nodes.ensures.of_an_action _ _ _ c.loop-text.action c.loop-text.yielder c.yielder_view.result t c.yielder_view.ensures
          (node_due c.args.graph.now _ _ _ _ _ part.Yielder c.loop-text.action c.loop-text.yielder t (c.in-Some.is ∙ ap Some c.in-Yielder.is) c.in_ok-part.ensures.printed (c.loop-text.invariant.prints t is))
          c.in_ok-push_yielder-in-Yielder.ensures.due;
      readable = readable_more c.args.graph.now c.nodes-nodes.ensures.of_an_action c.loop-text.yielder c.yielder_view.result found.0 c.yielder_view.ensures c.in_ok-push_yielder-in-Yielder.ensures.fits c.loop-text.invariant.readable;
    }

pub returns-clause-canonical : goal.returns-clause-canonical
returns-clause-canonical c t is =
    c.into_bytes.ensures (action_tokens t)
    (all_printed c.args.graph.now _ _ _ _ _ c.loop-text.action c.loop-text.yielder t c.in_default.is c.in_ok-part.ensures.done c.in_ok-part.ensures.printed (c.loop-text.invariant.prints t is)).1

pub returns-clause-read_again : goal.returns-clause-read_again
returns-clause-read_again c none =
    let graph = c.nodes-nodes.ensures.of_an_action in
    let done = all_printed c.args.graph.now _ _ _ _ _ c.loop-text.action c.loop-text.yielder graph.0 c.in_default.is c.in_ok-part.ensures.done c.in_ok-part.ensures.printed (c.loop-text.invariant.prints graph.0 graph.1) in
    text_read c.args.graph.now graph.0 c.into_bytes.result.items graph.1 none
    (c.loop-text.invariant.readable (subst AllReadable (sym done.0) tt)) (c.into_bytes.ensures (action_tokens graph.0) done.1)
