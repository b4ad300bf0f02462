use Rattle.std.proofs.Common.{◌≡◌, ◌<◌, ◌++◌, ◌+◌, ◌∷◌, [], List, ℕ, All, ap, arith, length, map, subst, sym, ◌∙◌}
use Rattle.std.proofs.lemmas.List.{length-map, map-append}
use Rattle.std.specs.Prelude.{slice_index}
use Rattle.action_terms.specs.Meaning.{action_of, items_from, node_with}
use Rattle.action_terms.proofs.GraphLaws.{length-nodes_few}
use Rattle.sort_rules.specs.Procedures.{procedure_of}
use Rattle.sort_rules.specs.Rows.{unmarked}
use Rattle.frame_layout.specs.declared.places.Procedure.{Procedure}
use Rattle.frame_layout.specs.Layouts.{HasOrder, IsLayout, front_words, nodes_in}
use Rattle.frame_layout.specs.Places.{frame_of}
use Rattle.frame_layout.specs.Placing.{placed_frame}
use Rattle.frame_layout.specs.Roots.{AreMembers}
use Rattle.frame_layout.proofs.GraphParts.{trees-of_graph}
use Rattle.frame_layout.proofs.LayoutLaws.{AreFramesBelow, frames-layout, frames-more, frames-order, frames-other, frames-same, nodes-read, nodes-within, nodes_in-few, not-root, root-read, roots-within}
use Rattle.frame_layout.proofs.frames.layout.Goals as goal
use Rattle.frame_layout.proofs.frames.layout.Goals.{then-index-root+in_ok-procedure+in_ok-push, else-index-root}

pub members-requires-clause-few : goal.members-requires-clause-few
members-requires-clause-few c =
    let g = c.args.graph.now in
    let few = length-nodes_few g c.procedure_roots.ensures.of_an_action in
    omega (arith, few, c.in_ok-roots.ensures.roots.long, length-map g.nodes (node_with (items_from 0 g.yielders)), ap length c.deref.ensures.value)

pub members-requires-clause-within : goal.members-requires-clause-within
members-requires-clause-within c =
    let g = c.args.graph.now in
    subst (λ (roots : List ℕ). (k : ℕ) → k < length roots → slice_index roots k < length roots) (sym c.deref.ensures.value)
    (roots-within (action_of g) c.in_ok-roots.roots.items (trees-of_graph g c.procedure_roots.ensures.of_an_action) c.in_ok-roots.ensures.roots)

pub procedure-requires-clause-few : goal.procedure-requires-clause-few
procedure-requires-clause-few c =
    let g = c.args.graph.now in
    let a = action_of g in
    let k = c.loop-root.root in
    let count = length-map g.nodes (node_with (items_from 0 g.yielders)) in
    let roots = c.in_ok-roots.ensures.roots in
    let members = subst (λ (rs : List ℕ). AreMembers rs c.in_ok-groups.groups.items) c.deref.ensures.value c.in_ok-groups.ensures in
    let within : k < length a = omega (arith, c.loop-root-test.true, roots.long, c.len-root-end.ensures) in
    let same = nodes-read a c.in_ok-roots.roots.items c.in_ok-groups.groups.items k c.index-then-index-root.result.now c.deref-then-index-root.result.now roots members within c.index-then-index-root.ensures c.deref-then-index-root.ensures.value in
    let few = length-nodes_few g c.procedure_roots.ensures.of_an_action in
    omega (arith, ap length same, nodes_in-few a k, few, count)

pub procedure-requires-clause-rows : goal.procedure-requires-clause-rows
procedure-requires-clause-rows c =
    let g = c.args.graph.now in
    let a = action_of g in
    let k = c.loop-root.root in
    let count = length-map g.nodes (node_with (items_from 0 g.yielders)) in
    let roots = c.in_ok-roots.ensures.roots in
    let members = subst (λ (rs : List ℕ). AreMembers rs c.in_ok-groups.groups.items) c.deref.ensures.value c.in_ok-groups.ensures in
    let within : k < length a = omega (arith, c.loop-root-test.true, roots.long, c.len-root-end.ensures) in
    let same = nodes-read a c.in_ok-roots.roots.items c.in_ok-groups.groups.items k c.index-then-index-root.result.now c.deref-then-index-root.result.now roots members within c.index-then-index-root.ensures c.deref-then-index-root.ensures.value in
    nodes-within a k (length c.args.table.now.rows) c.deref-then-index-root.result.now (count ∙ sym c.requires) same

pub loop-root-preserved : goal.loop-root-preserved
loop-root-preserved c =
    let g = c.args.graph.now in
    let a = action_of g in
    let t = unmarked c.args.table.now in
    let k = c.loop-root.root in
    let roots = c.in_ok-roots.ensures.roots in
    let members = subst (λ (rs : List ℕ). AreMembers rs c.in_ok-groups.groups.items) c.deref.ensures.value c.in_ok-groups.ensures in
    let within : k < length a = omega (arith, c.loop-root-test.true, roots.long, c.len-root-end.ensures) in
    let read : c.index.result.now ≡ procedure_of a k = root-read a c.in_ok-roots.roots.items k c.index.result.now roots within c.index.ensures in
    elim c.if-index-root.branch [
      | then-index-root+in_ok-procedure+in_ok-push w ↦ (
          let p = w.in_ok-procedure.procedure in
          let same = nodes-read a c.in_ok-roots.roots.items c.in_ok-groups.groups.items k w.index-then-index-root.result.now w.deref-then-index-root.result.now roots members within w.index-then-index-root.ensures w.deref-then-index-root.ensures.value in
          let frame : frame_of p ≡ placed_frame t _ k (nodes_in a k) = w.in_ok-procedure.ensures.frame ∙ ap (placed_frame t _ k) same in
          let root : procedure_of a k ≡ k = sym read ∙ w.if-index-root.true in
          let more = frames-more a t _ k (map frame_of c.loop-root.procedures.items) (frame_of p) root frame w.in_ok-procedure.ensures.reached c.loop-root.invariant in
          let grown : c.if-index-root.procedures.items ≡ c.loop-root.procedures.items ++ p ∷ [] = cc (w.procedures-is, w.in_ok-push.ensures.items) in
          frames-same a t _ (k + 1) _ _ (ap (map frame_of) grown ∙ map-append frame_of c.loop-root.procedures.items (p ∷ [])) more)
      | else-index-root w ↦ (
          let same : c.if-index-root.procedures.items ≡ c.loop-root.procedures.items = cc (w.procedures-is) in
          frames-same a t _ (k + 1) _ _ (ap (map frame_of) same) (frames-other a t _ k (map frame_of c.loop-root.procedures.items) (not-root a k c.index.result.now read w.if-index-root.false) c.loop-root.invariant))
    ]

pub returns-clause-layout : goal.returns-clause-layout
returns-clause-layout c =
    let g = c.args.graph.now in
    let a = action_of g in
    let t = unmarked c.args.table.now in
    let all : c.loop-root.root ≡ length a = omega (arith, c.loop-root-test.false, c.in_ok-roots.ensures.roots.long, c.len-root-end.ensures, c.loop-root.auto.root-end) in
    let below = subst (λ (n : ℕ). AreFramesBelow a t front_words n (map frame_of c.loop-root.procedures.items)) all c.loop-root.invariant in
    subst (λ (ps : List Procedure). IsLayout a t (map frame_of ps)) (sym c.into_bump_slice.ensures) (frames-layout a (trees-of_graph g c.procedure_roots.ensures.of_an_action) t (map frame_of c.loop-root.procedures.items) below)

pub returns-clause-order : goal.returns-clause-order
returns-clause-order c =
    let g = c.args.graph.now in
    let a = action_of g in
    let t = unmarked c.args.table.now in
    let all : c.loop-root.root ≡ length a = omega (arith, c.loop-root-test.false, c.in_ok-roots.ensures.roots.long, c.len-root-end.ensures, c.loop-root.auto.root-end) in
    let below = subst (λ (n : ℕ). AreFramesBelow a t front_words n (map frame_of c.loop-root.procedures.items)) all c.loop-root.invariant in
    subst (λ (ps : List Procedure). All HasOrder (map frame_of ps)) (sym c.into_bump_slice.ensures) (frames-order a (trees-of_graph g c.procedure_roots.ensures.of_an_action) t (map frame_of c.loop-root.procedures.items) below)
