use Rattle.std.proofs.Common.{◌≡◌, ◌∙◌, [], ◌∷◌, ◌++◌, ap, sym, subst}
use Rattle.action_terms.specs.Meaning.{action_of}
use Rattle.action_terms.specs.Sound.{IsSoundTree}
use Rattle.action_sos.specs.Parts.{inside}
use Rattle.action_sos.specs.Views.{frame_of, focus_of, part_of}
use Rattle.action_sos.specs.Moves.{running, next_tree}
use Rattle.action_sos.specs.Plans.{kept_frames}
use Rattle.action_sos.proofs.Leaves.{running-going, within-tree, parts-sound}
use Rattle.action_sos.proofs.grow.after_step.Goals as goal

pub leaf-requires-in-Within-clause-leaf : goal.leaf-requires-in-Within-clause-leaf
leaf-requires-in-Within-clause-leaf c =
    let i = c.in-Within.is in
    let t = running c.in-Within.node c.in-Within.received in
    let stands : (part_of c.in_ok-part-in-Within.part).frames ≡ kept_frames c.args.plan ++ frame_of c.in-Within.frame ∷ [] =
    ap (λ r. r.frames) c.in_ok-part-in-Within.ensures.part ∙ ap (λ r. r.frames ++ frame_of c.in-Within.frame ∷ []) c.committed-part.ensures.part in (
      t,
      ap focus_of c.run.ensures,
      subst (IsSoundTree (action_of c.args.graph.now)) (ap (λ n. inside (kept_frames c.args.plan) (next_tree n)) i ∙ sym (within-tree (kept_frames c.args.plan) (part_of c.in_ok-part-in-Within.part).frames (frame_of c.in-Within.frame) t stands)) c.requires.sound,
    )

pub started-left-requires-clause-sound : goal.started-left-requires-clause-sound
started-left-requires-clause-sound c =
    let i = c.in-Fork.is in
    (parts-sound (action_of c.args.graph.now) (kept_frames c.args.plan) c.in-Fork.node _ _ (subst (λ n. IsSoundTree (action_of c.args.graph.now) (inside (kept_frames c.args.plan) (next_tree n))) i c.requires.sound)).0

pub started-right-requires-clause-sound : goal.started-right-requires-clause-sound
started-right-requires-clause-sound c =
    let i = c.in-Fork.is in
    (parts-sound (action_of c.args.graph.now) (kept_frames c.args.plan) c.in-Fork.node _ _ (subst (λ n. IsSoundTree (action_of c.args.graph.now) (inside (kept_frames c.args.plan) (next_tree n))) i c.requires.sound)).1

pub fork-requires-clause-left_going : goal.fork-requires-clause-left_going
fork-requires-clause-left_going c = running-going c.in-Fork.left c.in-Fork.received _ c.started-left.ensures.tree

pub fork-requires-clause-right_going : goal.fork-requires-clause-right_going
fork-requires-clause-right_going c = running-going c.in-Fork.right c.in-Fork.received _ c.started-right.ensures.tree

pub returns-in_ok-part-in-Within-clause-tree : goal.returns-in_ok-part-in-Within-clause-tree
returns-in_ok-part-in-Within-clause-tree c =
    let i = c.in-Within.is in
    let t = running c.in-Within.node c.in-Within.received in
    let stands : (part_of c.in_ok-part-in-Within.part).frames ≡ kept_frames c.args.plan ++ frame_of c.in-Within.frame ∷ [] =
    ap (λ r. r.frames) c.in_ok-part-in-Within.ensures.part ∙ ap (λ r. r.frames ++ frame_of c.in-Within.frame ∷ []) c.committed-part.ensures.part in
    c.leaf-in-Within.ensures.tree t (ap focus_of c.run.ensures)
    ∙ within-tree (kept_frames c.args.plan) (part_of c.in_ok-part-in-Within.part).frames (frame_of c.in-Within.frame) t stands
    ∙ sym (ap (λ n. inside (kept_frames c.args.plan) (next_tree n)) i)
