-- What a step of a part makes of the parts.
use Rattle.std.specs.Prelude.{ℕ, ◌≤◌, List, map}
use Rattle.action_terms.specs.Actions.{Action}
use Rattle.action_terms.specs.Steps.{Step, commits}
use Rattle.action_terms.specs.Sound.{IsSoundTree}
use Rattle.action_terms.specs.Frames.{Frame, shut_if}
use Rattle.action_sos.specs.Parts.{Focus, Leaf, Parts, Part as PartMeant, inside}
use Rattle.action_sos.specs.Views.{part_of}
use Rattle.action_sos.specs.Kept.{IsCounted}
use Rattle.action_sos.specs.Moves.{next_tree, effect_of, IsStepAt}
use Rattle.action_sos.specs.declared.plan.Plan.{Plan}
use Rattle.action_sos.specs.declared.part.Part.{Part}

-- what stands in a part is sound for the action
abbrev pub IsSoundWithin : Action → List Frame → Focus → Type 0
IsSoundWithin a fs (Leaf t) = IsSoundTree a (inside fs t)
IsSoundWithin a fs (Parts k) = Unit {0}

abbrev pub IsSoundPart : Action → PartMeant → Type 0
IsSoundPart a p = IsSoundWithin a p.frames p.focus

-- the frames that a plan keeps, closed where its step commits
abbrev pub kept_frames : Plan → List Frame
kept_frames p = map (shut_if (commits (effect_of p.change))) (part_of p.part).frames

-- the plan is that of the step at this index
pub record IsPlan (steps : List Step) (index : ℕ) (p : Plan) : Type 0 where
  pub step : IsStepAt steps index (effect_of p.change) (inside (kept_frames p) (next_tree p.next))

-- a part with no more frames that have steps of their own, and whose counts are right
pub record IsKeptPart (old new : Part) : Type 0 where
  pub counted : IsCounted new
  pub fewer : new.broken ≤ old.broken
