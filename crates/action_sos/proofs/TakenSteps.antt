-- What becomes of a performer by the step to which a way leads.
use Rattle.std.proofs.Common.{◌≡◌, ℕ, ◌<◌, Bool, false, length, sym, ap, ap₂, subst, ◌∙◌, arith}
use Rattle.action_terms.specs.Actions.{Action}
use Rattle.action_terms.specs.Acting.{Tree}
use Rattle.action_terms.specs.Information.{World}
use Rattle.action_terms.specs.Steps.{commits, open_steps, world_after}
use Rattle.action_terms.specs.Performances.{State, after}
use Rattle.action_terms.specs.Proper.{IsProper}
use Rattle.action_terms.specs.Sound.{IsSound, known_in}
use Rattle.action_terms.proofs.SoundStates.{sound-after}
use Rattle.action_sos.specs.Performers.{Takes}
use Rattle.action_terms.specs.Numbering.{Listed}
use Rattle.action_terms.specs.Meaning.{action_of}
use Rattle.action_sos.specs.Branches.{target, target_index, grown, renewed, regrown, IsGrown}
use Rattle.action_sos.specs.Taking.{IsMade}
use Rattle.action_sos.specs.declared.branch.Branch.{Branch}
use Rattle.action_sos.specs.declared.branch.Way.{Way}
use Rattle.action_sos.specs.declared.take.Made.{Made}
use Rattle.action_sos.proofs.PlacedSteps.{HasStep}
use Rattle.action_sos.proofs.PlanSteps.{has-step}
use Rattle.action_sos.proofs.Growing.{open-count, target-open, target-grown, target-known, target-step, renewed-same}
use Rattle.action_sos.proofs.Taking.{one-of}

-- ---- before the step

module _ (a : Action) (w : World) (root : Branch) (choice : ℕ) (way : Way) (grows : IsGrown a root) (branch : way.branch.value ≡ target root choice) where
  pub way-sound : IsSound a (record { tree = grown root; world = w }) → IsSound a (record { tree = grown way.branch.value; world = w })
  way-sound sound =
      subst (λ b. IsSound a (record { tree = grown b; world = w })) (sym branch)
      (record { tree = target-known (known_in a w) a root choice grows sound.tree; cells = sound.cells })

  pub way-open : way.index ≡ target_index root choice → choice < length (open_steps a w (grown root)) → way.index < length (open_steps a w (grown way.branch.value))
  way-open index there =
      omega (
        arith,
        index,
        there,
        open-count a w root grows,
        target-open a root choice grows (subst (λ n. choice < n) (sym (open-count a w root grows)) there),
        open-count a w (target root choice) (target-grown a root choice grows),
        ap (λ b. length (open_steps a w (grown b))) branch,
      )

-- ---- want of memory

pub given-back : (root new : Branch) (choice : ℕ) (way : Way) → way.branch.value ≡ target root choice → ((q : Bool) (t : Tree) → regrown q way.around t ≡ renewed q root choice t) →
    grown new ≡ regrown false way.around (grown way.branch.value) → grown new ≡ grown root
given-back root new choice way branch around back = back ∙ around false (grown way.branch.value) ∙ ap (λ b. renewed false root choice (grown b)) branch ∙ renewed-same root choice

-- ---- after it

pub taken : (g : Listed) (w w' : World) (root new : Branch) (choice : ℕ) (way : Way) (made : Made) → IsProper (action_of g) → IsSound (action_of g) (record { tree = grown root; world = w }) →
    IsGrown (action_of g) root → way.branch.value ≡ target root choice → way.index ≡ target_index root choice → ((q : Bool) (t : Tree) → regrown q way.around t ≡ renewed q root choice t) →
    IsMade (action_of g) w w' way made → grown new ≡ regrown made.commits way.around (grown made.branch) →
    Takes choice (record { graph = g; state = record { tree = grown root; world = w } }) (record { graph = g; state = record { tree = grown new; world = w' } })
    × IsSound (action_of g) (record { tree = grown new; world = w' })
taken g w w' root new choice way made proper sound grows branch index around m placed =
    let a = action_of g in
    let s : State = record { tree = grown root; world = w } in
    let t = grown made.branch in
    let closures = m.step.0.made in
    let here : HasStep (open_steps a w (grown (target root choice))) (target_index root choice) t m.effect closures =
    subst (λ b. HasStep (open_steps a w (grown b)) (target_index root choice) t m.effect closures) branch
    (subst (λ i. HasStep (open_steps a w (grown way.branch.value)) i t m.effect closures) index (has-step (open_steps a w (grown way.branch.value)) way.index m.effect t m.step)) in
    let has : HasStep (open_steps a w (grown root)) choice (renewed (commits m.effect) root choice t) m.effect closures = target-step a w t m.effect closures root choice grows here in
    let tree : grown new ≡ has.step.tree = placed ∙ around made.commits t ∙ ap (λ q. renewed q root choice t) m.commits ∙ sym has.tree_is in
    let world : w' ≡ world_after has.step.effect w = m.world ∙ ap (λ e. world_after e w) (sym has.effect_is) in
    let state : record { tree = grown new; world = w' } ≡ after has.step s = ap₂ (λ u v. record { tree = u; world = v }) tree world in
    let then : IsSound a (after has.step s) = sound-after a s has.step proper sound (one-of (open_steps a w (grown root)) choice has.step has.at) in
    ((has.step, has.at, ap (λ z. record { graph = g; state = z }) state), subst (IsSound a) (sym state) then)
