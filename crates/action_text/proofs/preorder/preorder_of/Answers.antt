use Rattle.std.proofs.Common.{◌∙◌, ◌≤◌, ap, sym, map, arith, length, ◌++◌, ◌∷◌, []}
use Rattle.meta_terms.specs.Nodes.{label_of}
use Rattle.action_text.proofs.PreorderWalk.{walk_begins, walk_short, walk_step, has_top, top_place, length_labels}
use Rattle.action_text.proofs.preorder.preorder_of.Goals as goal

pub loop-end-init : goal.loop-end-init
loop-end-init c t is e =
    walk_begins (map label_of c.args.labels.now) c.push.new.self.items (map label_of c.new-ordered.result.items) t is e
    (c.in_ok-push.ensures.items ∙ ap (λ y. y ++ length c.args.labels.now ∷ []) c.new-stack.ensures.items ∙ ap (λ n. n ∷ []) (sym (length_labels c.args.labels.now)))
    (ap (map label_of) c.new-ordered.ensures.items)

pub overflow_sub-label : goal.overflow_sub-label
overflow_sub-label c =
    let t = c.requires in
    let top = has_top (map label_of c.args.labels.now) c.loop-end.stack.items c.pop.new.self.items c.in-Some.end (map label_of c.loop-end.ordered.items) t.0 c.in-Some.ensures.items (c.loop-end.invariant t.0 t.1 t.2) in
    (top_place (map label_of c.args.labels.now) c.in-Some.end top.label top.kids top.ends).1

pub bounds-labels-end : goal.bounds-labels-end
bounds-labels-end c =
    let t = c.requires in
    let top = has_top (map label_of c.args.labels.now) c.loop-end.stack.items c.pop.new.self.items c.in-Some.end (map label_of c.loop-end.ordered.items) t.0 c.in-Some.ensures.items (c.loop-end.invariant t.0 t.1 t.2) in
    let place = top_place (map label_of c.args.labels.now) c.in-Some.end top.label top.kids top.ends in
    omega (arith, place.1, place.2, length_labels c.args.labels.now)

pub overflow_sub-end : goal.overflow_sub-end
overflow_sub-end c =
    let t = c.requires in
    let top = has_top (map label_of c.args.labels.now) c.loop-end.stack.items c.pop.new.self.items c.in-Some.end (map label_of c.loop-end.ordered.items) t.0 c.in-Some.ensures.items (c.loop-end.invariant t.0 t.1 t.2) in
    (top_place (map label_of c.args.labels.now) c.in-Some.end top.label top.kids top.ends).1

pub loop-end-smaller : goal.loop-end-smaller
loop-end-smaller c =
    let t = c.requires in
    let short = walk_short (map label_of c.args.labels.now) c.loop-end.stack.items c.pop.new.self.items c.in-Some.end (map label_of c.loop-end.ordered.items) t.0 t.2 c.in-Some.ensures.items (c.loop-end.invariant t.0 t.1 t.2) in
    omega (arith, short, length_labels c.args.labels.now, length_labels c.loop-end.ordered.items, c.in_ok-push-2.ensures.len)

pub loop-end-preserved : goal.loop-end-preserved
loop-end-preserved c t is e =
    let walks = c.loop-end.invariant t is e in
    let top = has_top (map label_of c.args.labels.now) c.loop-end.stack.items c.pop.new.self.items c.in-Some.end (map label_of c.loop-end.ordered.items) t c.in-Some.ensures.items walks in
    let place = top_place (map label_of c.args.labels.now) c.in-Some.end top.label top.kids top.ends in
    let within : c.in-Some.end ≤ length c.args.labels.now = omega (arith, place.2, length_labels c.args.labels.now) in
    walk_step c.args.labels.now c.as_slice-sizes.result.now c.in_ok-list.list.items c.loop-end.stack.items c.pop.new.self.items c.push_ends.new.stack.items c.in-Some.end c.part_count.result c.loop-end.ordered.items c.push-in-Some.new.self.items _ t
    c.in_ok-list.ensures c.as_slice-sizes.ensures.value c.in-Some.ensures.items walks place.1 within c.part_count.ensures c.in_ok-push_ends.ensures c.in_ok-push-2.ensures.items
