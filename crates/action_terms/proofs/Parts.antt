-- Parts of performances grow by a step of a part within frames; failures and escapes rise through frames.
use Rattle.std.proofs.Common.{◌≡◌, ◌⊎◌, ℕ, ◌≤◌, ℤ, List, [], ◌∷◌, ◌++◌, map, length, refl, subst, inl, inr, ⊎_elim, le_refl, le_trans, arith}
use Rattle.action_terms.specs.Information.{World}
use Rattle.action_terms.specs.Actions.{Action, node_at}
use Rattle.action_terms.specs.Acting.{End, Done, Esc, Fail, Tree, Ended, Par}
use Rattle.action_terms.specs.Steps.{Letter, InLeft, InRight, Joins, TakesLeft, TakesRight, Step, silent, commits, world_after, after_both, after_broken, on_side, at_letter, open_steps}
use Rattle.action_terms.specs.Need.{Sizes, units}
use Rattle.action_terms.specs.Performances.{OneOf, Here, IsPart}
use Rattle.action_terms.specs.Frames.{Frame, InParLeft, InParRight, InOr, InTrap, InTail, wrap, plug, plugged, shut_all}
use Rattle.action_terms.proofs.Contexts.{shut_all-false, of_right, open-plug}

-- the steps lead to the tree and the world
abbrev pub Reaches : Action → List ℤ → List Step → Tree → World → Type 0
Reaches a input steps t w = IsPart a input steps (record { tree = t; world = w })

-- some part leads there, at least as long as these steps, and it spends at least their units
pub record RisesTo (a : Action) (input : List ℤ) (steps : List Step) (t : Tree) (w : World) : Type 0 where
  pub all : List Step
  pub more : length steps ≤ length all
  pub spent : (m : Sizes) → units m steps ≤ units m all
  pub reached : Reaches a input all t w

-- a step that does nothing beside the tree, wherever it is made
abbrev pub quiet : List Letter → Tree → Step
quiet p t = record (silent t) { place = p }

-- such an end of a part goes up through the frame
abbrev pub Passes : End → Frame → Type 0
Passes (Done d b) f = ⊥
Passes (Esc e) (InTrap k b) = ⊥
Passes (Esc e) _ = Unit {0}
Passes Fail (InOr k2 d b) = ⊥
Passes Fail _ = Unit {0}

abbrev pub EachPasses : End → List Frame → Type 0
EachPasses z [] = Unit {0}
EachPasses z (f ∷ fs) = Passes z f × EachPasses z fs

-- an end within a frame is the frame's end, or becomes it by a step
abbrev pub BecomesEnd : Action → World → End → Frame → Type 0
BecomesEnd a w z f = (wrap f (Ended z) ≡ Ended z) ⊎ ((p : List Letter) × OneOf (quiet p (Ended z)) (open_steps a w (wrap f (Ended z))))

-- in the left part of a `Par`, and in the right one
left-broken : (a : Action) (w : World) (k : ℕ) (y t : Tree) (more : List Tree) → after_broken t ≡ t ∷ more → open_steps a w t ≡ [] → OneOf (quiet (TakesLeft ∷ []) t) (open_steps a w (Par k t y))
left-broken a w k y t more e none =
    rw (none, e) (of_right _ (map (on_side InRight (Par k t)) (open_steps a w y)) _ (of_right _ (map (at_letter Joins) (after_both (node_at a k) t y)) _ Here))

right-broken : (a : Action) (w : World) (k : ℕ) (x t : Tree) (more : List Tree) → after_broken t ≡ t ∷ more → open_steps a w t ≡ [] → OneOf (quiet (TakesRight ∷ []) t) (open_steps a w (Par k x t))
right-broken a w k x t more e none =
    rw (none, e) (of_right _ (map (on_side InLeft (λ x'. Par k x' t)) (open_steps a w x)) _ (of_right _ (map (at_letter Joins) (after_both (node_at a k) x t)) _ (of_right _ (map (at_letter TakesLeft) (after_broken x)) _ Here)))

end-rises : (a : Action) (w : World) (z : End) (f : Frame) → Passes z f → BecomesEnd a w z f
end-rises a w (Done d b) f p = absurd p
end-rises a w z (InTail n) p = inl refl
end-rises a w (Esc e) (InParLeft k y) p = inr (TakesLeft ∷ [], left-broken a w k y (Ended (Esc e)) [] refl refl)
end-rises a w Fail (InParLeft k y) p = inr (TakesLeft ∷ [], left-broken a w k y (Ended Fail) [] refl refl)
end-rises a w (Esc e) (InParRight k x) p = inr (TakesRight ∷ [], right-broken a w k x (Ended (Esc e)) [] refl refl)
end-rises a w Fail (InParRight k x) p = inr (TakesRight ∷ [], right-broken a w k x (Ended Fail) [] refl refl)
end-rises a w (Esc e) (InTrap k b) p = absurd p
end-rises a w Fail (InOr k2 d b) p = absurd p
end-rises a w (Esc e) _ p = inr ([], Here)
end-rises a w Fail _ p = inr ([], Here)

module _ (a : Action) (input : List ℤ) where
  -- a part and an open step
  pub reaches-step : (steps : List Step) (t : Tree) (w : World) (n : Step) → Reaches a input steps t w → OneOf n (open_steps a w t) → Reaches a input (n ∷ steps) n.tree (world_after n.effect w)
  reaches-step steps t w n p h = (record { tree = t; world = w }, p, h, refl)

  -- a part and an open step of what stands within frames
  pub reaches-within : (steps : List Step) (fs : List Frame) (t : Tree) (w : World) (n : Step) → Reaches a input steps (plug fs t) w → OneOf n (open_steps a w t) → Reaches a input (plugged fs n ∷ steps) (plug (shut_all (commits n.effect) fs) n.tree) (world_after n.effect w)
  reaches-within steps fs t w n p h = reaches-step steps (plug fs t) w (plugged fs n) p (open-plug a w fs t n h)

  -- a quiet step leaves the frames as they are
  pub reaches-quiet : (steps : List Step) (fs : List Frame) (l : List Letter) (t t' : Tree) (w : World) → Reaches a input steps (plug fs t) w → OneOf (quiet l t') (open_steps a w t) → Reaches a input (plugged fs (quiet l t') ∷ steps) (plug fs t') w
  reaches-quiet steps fs l t t' w p h =
      subst (λ fs'. Reaches a input (plugged fs (quiet l t') ∷ steps) (plug fs' t') w) (shut_all-false fs) (reaches-within steps fs t w (quiet l t') p h)

  rises-one : (steps : List Step) (fs : List Frame) (f : Frame) (z : End) (w : World) → Passes z f → Reaches a input steps (plug fs (wrap f (Ended z))) w → RisesTo a input steps (plug fs (Ended z)) w
  rises-one steps fs f z w p r =
      ⊎_elim
      (λ e. record { all = steps; more = le_refl (length steps); spent = λ m. le_refl (units m steps); reached = subst (λ x. Reaches a input steps (plug fs x) w) e r })
      (λ o. record { all = plugged fs (quiet o.0 (Ended z)) ∷ steps; more = omega arith; spent = λ m. omega arith; reached = reaches-quiet steps fs o.0 (wrap f (Ended z)) (Ended z) w r o.1 })
      (end-rises a w z f p)

  -- an end goes up through inner frames that it passes
  pub reaches-rise : (steps : List Step) (inner outer : List Frame) (z : End) (w : World) → EachPasses z inner → Reaches a input steps (plug (inner ++ outer) (Ended z)) w → RisesTo a input steps (plug outer (Ended z)) w
  reaches-rise steps [] outer z w p r = record { all = steps; more = le_refl (length steps); spent = λ m. le_refl (units m steps); reached = r }
  reaches-rise steps (f ∷ inner) outer z w p r =
      let one = rises-one steps (inner ++ outer) f z w p.0 r in
      let rest = reaches-rise one.all inner outer z w p.1 one.reached in
      record { all = rest.all; more = le_trans one.more rest.more; spent = λ m. le_trans (one.spent m) (rest.spent m); reached = rest.reached }
