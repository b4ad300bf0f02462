use Rattle.std.proofs.Common.{◌∙◌, ◌+◌, ap₂, sym, subst, refl}
use Rattle.action_terms.specs.Acting.{Par}
use Rattle.action_sos.specs.Parts.{inside}
use Rattle.action_sos.specs.Views.{part_of}
use Rattle.action_sos.specs.Kept.{IsCounted}
use Rattle.action_sos.specs.Branches.{grown, count_in, IsGrown, IsGoingTree}
use Rattle.action_sos.specs.declared.part.Part.{Part}
use Rattle.action_sos.specs.declared.part.Focus.TheVariants as focus
use Rattle.action_sos.proofs.Leaves.{fork-tree, fork-grown}
use Rattle.action_sos.proofs.Sizes.{out-count}
use Rattle.action_sos.proofs.grow.fork.Goals as goal

pub returns : goal.returns
returns c =
    let l = c.in_ok-left.ensures.ok in
    let r = c.in_ok-right.ensures.ok in
    let p : Part = record c.args.part { focus = focus.Parts c.args.node } in
    let counted : IsCounted p = record { depth = c.requires.counted.depth; broken = c.requires.counted.broken; closed = c.requires.counted.closed } in
    record {
      grows = λ a gl gr.
          fork-grown p c.args.node refl _ c.in_ok-left.left c.in_ok-right.right refl refl refl a counted
          (ap₂ (λ x y. c.args.part.broken + (count_in x + count_in y)) (sym l) (sym r))
          (subst (λ b. IsGoingTree (grown b)) (sym l) c.requires.left_going) (subst (λ b. IsGoingTree (grown b)) (sym r) c.requires.right_going)
          (subst (IsGrown a) (sym l) gl) (subst (IsGrown a) (sym r) gr);
      tree =
          fork-tree p c.args.node refl _ c.in_ok-left.left c.in_ok-right.right refl refl refl
          ∙ ap₂ (λ x y. inside (part_of p).frames (Par c.args.node (grown x) (grown y))) l r;
      counts = out-count _;
    }
