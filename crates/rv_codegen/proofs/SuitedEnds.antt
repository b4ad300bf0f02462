-- What an admissible sort table tells of the data that a node completes with, also where its parts complete.
use Rattle.std.proofs.Common.{◌≡◌, ℕ, ℤ, List, subst}
use Rattle.action_terms.specs.Information.{Binds, Data, World}
use Rattle.action_terms.specs.Actions.{Action}
use Rattle.action_terms.specs.Acting.{Done, Ended, Tree, Run, Par, Second}
use Rattle.action_terms.specs.Frames.{Frame, plug}
use Rattle.action_terms.specs.Performances.{OneOf, State}
use Rattle.action_terms.specs.Steps.{Step, open_steps}
use Rattle.action_terms.proofs.Parts.{Reaches}
use Rattle.sort_rules.specs.Admissible.{IsAdmissible}
use Rattle.sort_rules.specs.Fitting.{Ends, ParFits, RunFits, SecondFits, StateFits, TreeFits, ends_of, sorted}
use Rattle.sort_rules.specs.Shapes.{CompletesInShape}
use Rattle.sort_rules.specs.Tables.{MarkedTable}
use Rattle.sort_rules.proofs.FittedFrames.{frames_fit}
use Rattle.sort_rules.proofs.FittedTrees.{After, ends_refl}
use Rattle.sort_rules.proofs.Shapes.{completes_in_shape}
use Rattle.sort_rules.proofs.SoundStates.{part_fits, stands}
use Rattle.sort_rules.proofs.SoundSteps.{step_fits}
use Rattle.rv_codegen.proofs.NodeParts.{IsTreeOf}

module _ (a : Action) (t : MarkedTable) (w : List ℕ) where
  -- a tree of node n that fits ends only as the node may
  tree-own : (n : ℕ) (x : Tree) (z : Ends) → IsTreeOf n x → TreeFits (sorted a t) a w x z → TreeFits (sorted a t) a w x (ends_of t n)
  tree-own n (Run k d b) z e (RunFits en le) = subst (λ i. TreeFits (sorted a t) a w (Run k d b) (ends_of t i)) e (RunFits en ends_refl)
  tree-own n (Par k x y) z e (ParFits node f g le) = subst (λ i. TreeFits (sorted a t) a w (Par k x y) (ends_of t i)) e (ParFits node f g ends_refl)
  tree-own n (Second k d1 b1 x) z e (SecondFits node f g h le) = subst (λ i. TreeFits (sorted a t) a w (Second k d1 b1 x) (ends_of t i)) e (SecondFits node f g h ends_refl)
  tree-own n _ z e f = absurd e

-- what a node completes with by a step of its tree has the length of its row
pub tree-completes : (a : Action) (t : MarkedTable) → IsAdmissible a t → (input : List ℤ) (steps : List Step) (fs : List Frame) (n : ℕ) (x : Tree) (w : World) (m : Step) (e : Data) (u : Binds) → IsTreeOf n x → Reaches a input steps (plug fs x) w → OneOf m (open_steps a w x) → m.tree ≡ Ended (Done e u) → CompletesInShape t n e u
tree-completes a t admissible input steps fs n x w m e u own reached member is =
    let here : State = record { tree = plug fs x; world = w } in
    let f : StateFits (sorted a t) a here = part_fits a t input steps here admissible reached in
    let part = frames_fit (sorted a t) a f.nodes fs x f.tree in
    let after : After (sorted a t) a f.nodes w (ends_of t n) m = step_fits (stands a t admissible) w f.cells (tree-own a t f.nodes n x part.0 own part.2) member in
    completes_in_shape {c = sorted a t} (subst (λ y. TreeFits (sorted a t) a after.nodes y (ends_of t n)) is after.tree) (admissible.clear n)
