use Rattle.std.proofs.Common.{◌∙◌, ap, refl}
use Rattle.action_sos.proofs.Sizes.{out-left, out-right, only-smaller, raised-smaller}
use Rattle.action_sos.specs.declared.branch.Branch.{out-Branch}
use Rattle.action_sos.proofs.branch.Branch.+drop.Goals as goal

pub loop-only-smaller : goal.loop-only-smaller
loop-only-smaller t c =
    raised-smaller c.loop-only.self c.in-Some-default.first c.replace-inner.result c.deref_mut-in-Some-default.result.now c.take.result _ _ _ c.in-Some-default.is-0
    (c.replace-inner.ensures.value ∙ c.deref_mut.ensures.value) c.take.ensures.value
    (ap (λ z. (out-Branch z).right) (c.deref_mut-in-Some-default.ensures.value ∙ c.replace-inner.ensures.after) ∙ out-right _)
    (out-left _) refl refl refl refl

pub loop-only-smaller-in-None-Some : goal.loop-only-smaller-in-None-Some
loop-only-smaller-in-None-Some t c = only-smaller c.loop-only.self c.into_inner-self.result c.in-None-Some.only c.in-None-Some.is-0 c.in-None-Some.is-1 c.into_inner-self.ensures
