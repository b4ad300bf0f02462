-- What a step is before it stands in its place.
use Rattle.std.specs.Prelude.{◌≡◌, ℕ, ◌+◌, ◌≤◌, Bool, Option, Some, None, Box}
use Rattle.std.specs.Global.{Global}
use Rattle.action_terms.specs.Information.{World}
use Rattle.action_terms.specs.Actions.{Action}
use Rattle.action_terms.specs.Acting.{End, Ended}
use Rattle.action_terms.specs.Steps.{Effect, commits, open_steps, world_after}
use Rattle.action_terms.specs.Performances.{State}
use Rattle.action_sos.specs.Views.{part_of}
use Rattle.action_sos.specs.Performed.{world_of}
use Rattle.action_sos.specs.Kept.{IsCounted}
use Rattle.action_sos.specs.Moves.{IsStepAt}
use Rattle.action_sos.specs.Branches.{count_in, counted, other_of, joined_of, grown, most, IsGoingTree, IsGrown, IsReached}
use Rattle.action_sos.specs.declared.part.Part.{Part}
use Rattle.action_sos.specs.declared.branch.Branch.{Branch, out-Branch}
use Rattle.action_sos.specs.declared.branch.Way.{Way}
use Rattle.action_sos.specs.declared.take.Made.{Made}
use Rattle.action_sos.specs.declared.world.World.{World as WorldAt}

-- the state of a performance whose acting tree is that of a branch
abbrev pub state_of : Branch → WorldAt → State
state_of b w = record { tree = grown b; world = world_of w }

-- how many steps stand open in the two parts of a branch
abbrev pub below : Branch → ℕ
below b = counted (out-Branch b).left + counted (out-Branch b).right

-- the branch has ended, and this is the part of the other one within that around both
pub record IsJoined (q : Bool) (outer b : Branch) (p : Part) : Type 0 where
  pub end : End
  pub ended : grown b ≡ Ended end
  pub counted : IsCounted p
  pub part : (y : Box Branch Global) → other_of outer ≡ Some y → part_of p ≡ joined_of q outer end (out-Branch y.value).part

-- there is such a part exactly where the branch has ended beside another one
abbrev pub AreJoined : Bool → Option (Box Branch Global) → Branch → Option Part → Type 0
AreJoined q (Some o) b (Some p) = IsJoined q o.value b p
AreJoined q None b (Some p) = ⊥
AreJoined q around b None = (o : Box Branch Global) → around ≡ Some o → IsGoingTree (grown b)

-- the step fits the place to which the way leads
pub record IsFitting (way : Way) (made : Made) : Type 0 where
  pub action : Action
  pub reached : IsReached action most way.branch.value way.around
  pub few : count_in made.branch ≤ count_in way.branch.value + 8
  pub joined : AreJoined made.commits way.around made.branch made.joined

-- it is the step of the branch with the way's index, from one world to another
pub record IsMade (a : Action) (w w' : World) (way : Way) (made : Made) : Type 0 where
  pub effect : Effect
  pub step : IsStepAt (open_steps a w (grown way.branch.value)) way.index effect (grown made.branch)
  pub commits : made.commits ≡ commits effect
  pub world : w' ≡ world_after effect w
  pub grows : IsGrown a made.branch
