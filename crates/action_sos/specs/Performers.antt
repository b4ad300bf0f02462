-- What contracts see of a performer, and how its steps are answered.
use Rattle.std.specs.Prelude.{◌≡◌, Some, slice_get, ℕ, List}
use Rattle.action_terms.specs.Numbering.{Listed}
use Rattle.action_terms.specs.Meaning.{action_of}
use Rattle.action_terms.specs.Acting.{End, Done, Esc, Fail, Tree, Ended}
use Rattle.action_terms.specs.Steps.{Step, open_steps}
use Rattle.action_terms.specs.Performances.{State, after}
use Rattle.action_sos.specs.declared.answers.Moved.{Moved}
use Rattle.action_sos.specs.declared.answers.Moved.TheVariants as moved
use Rattle.action_sos.specs.declared.answers.Outcome.{Outcome}
use Rattle.action_sos.specs.declared.answers.Outcome.TheVariants as outcome

-- the graph of the action, and how far its performance has come
pub record Performing : Type 0 where
  pub graph : Listed
  pub state : State

-- the open steps, in order
abbrev pub steps_of : Performing → List Step
steps_of p = open_steps (action_of p.graph) p.state.world p.state.tree

-- the outcome of an end
abbrev pub outcome_of : End → Outcome
outcome_of (Done d b) = outcome.Completed
outcome_of (Esc d) = outcome.Escaped
outcome_of Fail = outcome.Failed

-- the answer tells whether the tree is an end, and which
abbrev pub moved_to : Tree → Moved
moved_to (Ended z) = moved.Ended (outcome_of z)
moved_to _ = moved.Went

-- the acting tree is an end
abbrev pub IsEnd : Tree → Type 0
IsEnd t = (z : End) × (t ≡ Ended z)

-- a performer takes the open step with this index
abbrev pub Takes : (choice : ℕ) → (old new : Performing) → Type 0
Takes choice old new =
    (n : Step) × (slice_get (steps_of old) choice ≡ Some n) × (new ≡ record { graph = old.graph; state = after n old.state })
