-- What steps in memory stand for.
use Rattle.std.specs.Prelude.{◌≡◌, ℕ, List, Some, slice_get}
use Rattle.action_terms.specs.Information.{Data, Binds, World}
use Rattle.action_terms.specs.Actions.{node_at}
use Rattle.action_terms.specs.Numbering.{Listed}
use Rattle.action_terms.specs.Meaning.{action_of}
use Rattle.action_terms.specs.Acting.{Tree, Run, Ended, Par}
use Rattle.action_terms.specs.Steps.{Effect, Silent, Commits, Allocates, Takes, Misses, Puts, Sends, Step, run_steps, open_steps}
use Rattle.action_terms.specs.Frames.{wrap}
use Rattle.action_values.specs.Values.{data_of, bindings_of, storage_of, meant}
use Rattle.action_sos.specs.Views.{end_of, frame_of}
use Rattle.action_sos.specs.declared.ends.End.{End}
use Rattle.action_sos.specs.declared.part.Frame.{Frame}
use Rattle.action_sos.specs.declared.moves.Received.{Received}
use Rattle.action_sos.specs.declared.moves.Outside.{Outside}
use Rattle.action_sos.specs.declared.moves.Next.{Next}
use Rattle.action_sos.specs.declared.moves.Next.TheVariants as next
use Rattle.action_sos.specs.declared.moves.Change.{Change}
use Rattle.action_sos.specs.declared.moves.Change.TheVariants as change

abbrev pub given_of : Received → Data
given_of r = data_of r.given.now

abbrev pub bound_of : Received → Binds
bound_of r = bindings_of r.bound.now

-- a node that is to be performed
abbrev pub running : ℕ → Received → Tree
running k r = Run k (given_of r) (bound_of r)

-- the tree after a step
abbrev pub next_tree : Next → Tree
next_tree (next.Ended z) = Ended (end_of z)
next_tree (next.Run k r) = running k r
next_tree (next.Within f k r) = wrap (frame_of f) (running k r)
next_tree (next.Fork k x y r) = Par k (running x r) (running y r)

abbrev pub effect_of : Change → Effect
effect_of change.Silent = Silent
effect_of change.Commits = Commits
effect_of change.Allocates = Allocates
effect_of change.Takes = Takes
effect_of change.Misses = Misses
effect_of (change.Puts c x) = Puts c (meant x)
effect_of (change.Sends n) = Sends n

-- the world has this storage and this input
pub record IsOutside (o : Outside) (w : World) : Type 0 where
  pub cells : w.cells ≡ storage_of o.cells.now
  pub input : w.input ≡ o.input.now

-- the step at this index has this effect and leads to this tree
abbrev pub IsStepAt : List Step → ℕ → Effect → Tree → Type 0
IsStepAt steps j e t = (n : Step) × (slice_get steps j ≡ Some n) × (n.effect ≡ e) × (n.tree ≡ t)

-- the steps of node k of a graph that runs
abbrev pub node_steps : Listed → ℕ → Received → World → List Step
node_steps g k r w = run_steps (node_at (action_of g) k) k (given_of r) (bound_of r) w

-- the steps where a part within a frame has ended
abbrev pub ended_steps : Listed → Frame → End → World → List Step
ended_steps g f z w = open_steps (action_of g) w (wrap (frame_of f) (Ended (end_of z)))
