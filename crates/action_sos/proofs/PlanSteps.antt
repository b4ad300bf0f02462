-- Plans, as steps of a part's own.
use Rattle.std.proofs.Common.{◌≡◌, ℕ, ◌+◌, ◌-◌, ◌≤◌, List, [], ◌∷◌, ◌++◌, map, length, refl, sym, ap, ap₂, subst, ◌∙◌, arith}
use Rattle.std.specs.Prelude.{slice_get}
use Rattle.std.proofs.lemmas.List.{length-map}
use Rattle.action_terms.specs.Meaning.{action_of}
use Rattle.action_terms.specs.Information.{World}
use Rattle.action_terms.specs.Acting.{Tree, Ended}
use Rattle.action_terms.specs.Steps.{Effect, Silent, Made, Step, commits}
use Rattle.action_terms.specs.Frames.{Frame as FrameMeant, shut_if}
use Rattle.action_sos.specs.Parts.{inside, lifted, frames_steps, part_steps}
use Rattle.action_sos.specs.Views.{end_of, frame_of, part_of}
use Rattle.action_sos.specs.Kept.{IsBrokenOff}
use Rattle.action_sos.specs.Moves.{next_tree, effect_of, IsStepAt, node_steps, ended_steps}
use Rattle.action_sos.specs.Plans.{IsPlan}
use Rattle.action_sos.specs.declared.ends.End.{End}
use Rattle.action_terms.specs.Numbering.{Listed}
use Rattle.action_sos.specs.declared.moves.Received.{Received}
use Rattle.action_sos.specs.declared.moves.Change.{Change}
use Rattle.action_sos.specs.declared.moves.Change.TheVariants as change
use Rattle.action_sos.specs.declared.moves.Next.{Next}
use Rattle.action_sos.specs.declared.moves.Next.TheVariants as next
use Rattle.action_sos.specs.declared.part.Frame.{Frame}
use Rattle.action_sos.specs.declared.part.Focus.TheVariants as focus
use Rattle.action_sos.specs.declared.part.Part.{Part}
use Rattle.action_sos.specs.declared.plan.Plan.{Plan}
use Rattle.action_sos.proofs.PlacedSteps.{HasStep, HasStep-left, HasStep-right, HasStep-lifted}
use Rattle.action_sos.proofs.FramesOpen.{frames-own}
use Rattle.action_sos.proofs.PartsClosed.{closes-false}
use Rattle.action_sos.proofs.PlanCounts.{run-steps, ended-steps}

-- ---- steps at a place

pub has-step : (steps : List Step) (j : ℕ) (e : Effect) (t : Tree) (at : IsStepAt steps j e t) → HasStep steps j t e at.0.made
has-step steps j e t at = record { step = at.0; at = at.1; tree_is = at.3; effect_is = at.2; made_is = refl }

step-at : (steps : List Step) (j : ℕ) (e : Effect) (t : Tree) (made : List Made) → HasStep steps j t e made → IsStepAt steps j e t
step-at steps j e t made has = (has.step, has.at, has.effect_is, has.tree_is)

lifted-at : (fs : List FrameMeant) (steps more : List Step) (j : ℕ) (e : Effect) (t : Tree) → IsStepAt steps j e t
    → IsStepAt (map (lifted fs) steps ++ more) j e (inside (map (shut_if (commits e)) fs) t)
lifted-at fs steps more j e t at = step-at _ j e _ _ (HasStep-left (HasStep-lifted (has-step steps j e t at) fs) more)

pub behind-at : (before steps : List Step) (i j : ℕ) (e : Effect) (t : Tree) → length before + j ≡ i → IsStepAt steps j e t → IsStepAt (before ++ steps) i e t
behind-at before steps i j e t sum at = subst (λ n. IsStepAt (before ++ steps) n e t) sum (step-at _ (length before + j) e t _ (HasStep-right (has-step steps j e t at) before))

-- a step among those behind others
plan-behind : (steps before own : List Step) (count index : ℕ) (q : Plan) → steps ≡ before ++ own → length before ≡ count → count ≤ index → IsPlan own (index - count) q → IsPlan steps index q
plan-behind steps before own count index q split all past plan =
    let sum : length before + (index - count) ≡ index = omega (arith, all, past) in
    let at = behind-at before own index (index - count) _ _ sum plan.step in
    record { step = (at.0, ap (λ l. slice_get l index) split ∙ at.1, at.2, at.3) }

-- ---- a frame beside a part that has escaped or failed

pub plan-broken : (fs : List FrameMeant) (index : ℕ) (p : Part) (z : End) → IsBrokenOff fs index (part_of p).frames (end_of z)
    → IsPlan (frames_steps fs) index (record { part = p; change = change.Silent; next = next.Ended z })
plan-broken fs index p z off =
    let outer = (part_of p).frames in
    let own = frames-own outer off.inner off.frame (end_of z) off.beside off.broken in
    record {
      step = (
        own.step,
        ap₂ (λ l n. slice_get (frames_steps l) n) off.stands (sym off.place) ∙ own.at,
        own.effect_is,
        own.tree_is ∙ ap (λ l. inside l (Ended (end_of z))) (sym (ap (λ q. q.frames) (closes-false (part_of p)))),
      );
    }

-- ---- a part whose node runs

module _ (g : Listed) (p : Part) (k : ℕ) (r : Received) (is : p.focus ≡ focus.Run k r.given r.bound) (w : World) (index : ℕ) where
  pub run-plan : (c : Change) (n : Next) → IsStepAt (node_steps g k r w) index (effect_of c) (next_tree n)
      → IsPlan (part_steps (action_of g) w (part_of p)) index (record { part = p; change = c; next = n })
  run-plan c n step =
      let fs = (part_of p).frames in
      let at = lifted-at fs (node_steps g k r w) (frames_steps fs) index (effect_of c) (next_tree n) step in
      record { step = (at.0, ap (λ l. slice_get l index) (run-steps g p k r is w) ∙ at.1, at.2, at.3) }

  pub run-break : (count : ℕ) (q : Plan) → count ≡ length (node_steps g k r w) → count ≤ index → IsPlan (frames_steps (part_of p).frames) (index - count) q
      → IsPlan (part_steps (action_of g) w (part_of p)) index q
  run-break count q all past plan =
      let fs = (part_of p).frames in
      let before = map (lifted fs) (node_steps g k r w) in
      plan-behind (part_steps (action_of g) w (part_of p)) before (frames_steps fs) count index q (run-steps g p k r is w) (length-map (node_steps g k r w) (lifted fs) ∙ sym all) past plan

-- ---- a part in which everything has ended

module _ (g : Listed) (p outer : Part) (f : Frame) (z : End) (is : p.focus ≡ focus.Ended z) (stands : (part_of p).frames ≡ (part_of outer).frames ++ frame_of f ∷ []) (w : World) (index : ℕ) where
  pub ended-plan : (n : Next) → IsStepAt (ended_steps g f z w) index Silent (next_tree n)
      → IsPlan (part_steps (action_of g) w (part_of p)) index (record { part = outer; change = change.Silent; next = n })
  ended-plan n step =
      let fs = (part_of outer).frames in
      let at = lifted-at fs (ended_steps g f z w) (frames_steps fs) index Silent (next_tree n) step in
      record { step = (at.0, ap (λ l. slice_get l index) (ended-steps g p outer f z is stands w) ∙ at.1, at.2, at.3) }

  pub ended-break : (count : ℕ) (q : Plan) → count ≡ length (ended_steps g f z w) → count ≤ index → IsPlan (frames_steps (part_of outer).frames) (index - count) q
      → IsPlan (part_steps (action_of g) w (part_of p)) index q
  ended-break count q all past plan =
      let fs = (part_of outer).frames in
      let before = map (lifted fs) (ended_steps g f z w) in
      plan-behind (part_steps (action_of g) w (part_of p)) before (frames_steps fs) count index q (ended-steps g p outer f z is stands w) (length-map (ended_steps g f z w) (lifted fs) ∙ sym all) past plan
