use Rattle.std.proofs.Common.{◌≡◌, ◌∙◌, ◌+◌, ap, ap₂, sym, subst, refl}
use Rattle.action_sos.specs.Parts.{closes}
use Rattle.action_sos.specs.Views.{part_of}
use Rattle.action_sos.specs.Kept.{IsCounted}
use Rattle.action_sos.specs.declared.branch.Branch.{out-Branch}
use Rattle.action_sos.proofs.PartsClosed.{closes-false}
use Rattle.action_sos.proofs.Climbing.{refilled}
use Rattle.action_sos.proofs.branch.refill.Goals as goal
use Rattle.action_sos.proofs.branch.refill.Goals.{then-closes, else-closes}

pub returns : goal.returns
returns c =
    let old = (out-Branch c.args.branch.now).part in
    let facts : (part_of c.if-closes.branch' ≡ closes c.args.closes (part_of old)) × IsCounted c.if-closes.branch' × (c.if-closes.branch'.broken ≡ old.broken) =
    elim c.if-closes.branch [
      | then-closes w ↦ (
        ap part_of w.branch'-is ∙ w.with_all_closed-branch.ensures.part ∙ ap (λ q. closes q (part_of old)) (sym w.if-closes.true),
        subst IsCounted (sym w.branch'-is) w.with_all_closed-branch.ensures.counted,
        ap (λ p. p.broken) w.branch'-is ∙ w.with_all_closed-branch.ensures.broken,
      )
      | else-closes w ↦ (
        ap part_of w.branch'-is ∙ sym (closes-false (part_of old)) ∙ ap (λ q. closes q (part_of old)) (sym w.if-closes.false),
        subst IsCounted (sym w.branch'-is) c.requires.counted,
        ap (λ p. p.broken) w.branch'-is,
      )
    ] in
    refilled c.args.closes c.args.branch.now _ _ facts.0 facts.1 facts.2 refl refl refl refl refl (ap₂ (λ l r. old.broken + (l + r)) c.count_of.ensures c.count_of-2.ensures)
