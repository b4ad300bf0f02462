-- How many steps of a node stand open, and that a step of a node as it is viewed is one of the node of its number.
use Rattle.std.proofs.Common.{◌≡◌, ◌<◌, ◌≤◌, ℕ, List, [], length, refl, ap, sym, subst, ◌∙◌, arith}
use Rattle.std.specs.Prelude.{Result, IfOk}
use Rattle.std.proofs.lemmas.Result.{IfOk-weaker}
use Rattle.action_terms.specs.Information.{Data, Binds, World}
use Rattle.action_terms.specs.Actions.{Node, node_at}
use Rattle.action_terms.specs.Numbering.{ListedYielder, Listed}
use Rattle.action_terms.specs.Meaning.{action_of}
use Rattle.action_terms.specs.Forms.{node_viewed, IsNodeView}
use Rattle.action_terms.specs.Steps.{run_steps}
use Rattle.action_terms.specs.declared.view.NodeView.{NodeView}
use Rattle.action_terms.specs.declared.view.NodeView.TheVariants as node
use Rattle.action_values.specs.Values.{storage_of}
use Rattle.action_sos.specs.Moves.{given_of, bound_of, effect_of, next_tree, IsOutside, IsStepAt, node_steps}
use Rattle.action_sos.specs.Running.{step_count, IsMove}
use Rattle.action_sos.specs.declared.moves.Move.{Move}
use Rattle.action_sos.specs.declared.running.Running.{Running}
use Rattle.action_sos.specs.declared.moves.Received.{Received}
use Rattle.action_sos.specs.declared.moves.Outside.{Outside}

-- a node of a view has as many steps as the view says
counted : (ls : List ListedYielder) (v : NodeView) (k : ℕ) (d : Data) (b : Binds) (w : World) → step_count v ≡ length (run_steps (node_viewed ls v) k d b w)
counted ls (node.Simple p) k d b w = refl
counted ls (node.Enact y) k d b w = refl
counted ls (node.Apply y items) k d b w = refl
counted ls (node.Unfolding c) k d b w = refl
counted ls (node.Unfold c) k d b w = refl
counted ls (node.Furthermore l) k d b w = refl
counted ls (node.Both j l r) k d b w = refl
counted ls (node.Phases q l r) k d b w = refl
counted ls (node.Either l r) k d b w = refl
counted ls (node.Trapping l r) k d b w = refl
counted ls (node.Branch y l r) k d b w = refl

module _ (g : Listed) (k : ℕ) (v : NodeView) (viewed : IsNodeView g k v) where
  pub counted_there : (r : Received) (w : World) → step_count v ≡ length (node_steps g k r w)
  counted_there r w = counted g.yielders v k (given_of r) (bound_of r) w ∙ ap (λ n. length (run_steps n k (given_of r) (bound_of r) w)) (sym viewed.node)

  pub choice_within : (r : Received) (o : Outside) (choice : ℕ) → ((w : World) → IsOutside o w → choice < length (node_steps g k r w)) → choice < step_count v
  choice_within r o choice open_there =
      let w : World = record { cells = storage_of o.cells.now; output = []; input = o.input.now } in
      subst (λ (n : ℕ). choice < n) (sym (counted_there r w)) (open_there w (record { cells = refl; input = refl }))

  -- a step of the node as it is viewed is one of the node of its number
  step_there : (r : Running) (i : ℕ) (m : Move) → r.number ≡ k → IsMove r (node_viewed g.yielders v) i m
      → (w : World) → IsOutside r.outside w → IsStepAt (node_steps g k r.received w) i (effect_of m.change) (next_tree m.next)
  step_there r i m here move w o =
      subst (λ (n : ℕ). IsStepAt (run_steps (node_at (action_of g) k) n (given_of r.received) (bound_of r.received) w) i (effect_of m.change) (next_tree m.next)) here
      (subst (λ (x : Node). IsStepAt (run_steps x r.number (given_of r.received) (bound_of r.received) w) i (effect_of m.change) (next_tree m.next)) (sym viewed.node) (move.at w o))

  pub first_there : {E : Type 0} (result : Result Move E) (r : Running) (choice : ℕ) → r.number ≡ k → choice ≡ 0 → IfOk result (λ m. IsMove r (node_viewed g.yielders v) 0 m)
      → IfOk result (λ m. (w : World) → IsOutside r.outside w → IsStepAt (node_steps g k r.received w) choice (effect_of m.change) (next_tree m.next))
  first_there result r choice here first moves =
      IfOk-weaker result (λ m. IsMove r (node_viewed g.yielders v) 0 m) (λ m. (w : World) → IsOutside r.outside w → IsStepAt (node_steps g k r.received w) choice (effect_of m.change) (next_tree m.next))
      (λ m move w o. subst (λ (j : ℕ). IsStepAt (node_steps g k r.received w) j (effect_of m.change) (next_tree m.next)) (sym first) (step_there r 0 m here move w o)) moves

  pub second_there : (m : Move) (r : Running) (choice : ℕ) → r.number ≡ k → choice ≡ 1 → IsMove r (node_viewed g.yielders v) 1 m
      → (w : World) → IsOutside r.outside w → IsStepAt (node_steps g k r.received w) choice (effect_of m.change) (next_tree m.next)
  second_there m r choice here second move w o =
      subst (λ (j : ℕ). IsStepAt (node_steps g k r.received w) j (effect_of m.change) (next_tree m.next)) (sym second) (step_there r 1 m here move w o)

-- no node has more than two steps
pub at_most_two : (v : NodeView) → step_count v ≤ 2
at_most_two (node.Either l r) = omega arith
at_most_two _ = omega arith
