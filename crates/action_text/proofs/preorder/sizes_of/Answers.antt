use Rattle.std.proofs.Common.{◌∙◌, ap, sym, map, ◌-◌, ◌+◌, length}
use Rattle.meta_terms.specs.Templates.{under}
use Rattle.meta_terms.specs.Nodes.{label_of}
use Rattle.action_text.specs.Sizes.{start_back}
use Rattle.action_text.proofs.PreorderWalk.{sizes_more, label_there}
use Rattle.action_text.proofs.preorder.sizes_of.Goals as goal

pub loop-place-preserved : goal.loop-place-preserved
loop-place-preserved c =
    rw c.in_ok-push.ensures.items
    (sizes_more (map label_of c.args.labels.now) c.loop-place.sizes.items c.loop-place.place _ c.loop-place.invariant
    (λ l. ap (λ s. (c.loop-place.place + 1) - s)
    (c.start_back-start.ensures.value
    ∙ ap (λ z. start_back z c.part_count.result c.loop-place.place) c.as_slice.ensures.value
    ∙ ap (λ n. start_back c.loop-place.sizes.items n c.loop-place.place)
    (c.part_count.ensures ∙ ap (λ k. length (under k)) (sym (label_there c.args.labels.now c.loop-place.place _ l c.loop-place-test.true))))))
