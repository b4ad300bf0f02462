-- What an admissible sort table tells of a body that is called by its number: the node completes with what the body does.
use Rattle.std.proofs.Common.{◌≡◌, ⊎_elim, ℕ, ℤ, List, refl, ◌∙◌}
use Rattle.action_terms.specs.Information.{Binds, Data, World}
use Rattle.action_terms.specs.Actions.{Action, Unfold, Unfolding, node_at}
use Rattle.action_terms.specs.Acting.{Run}
use Rattle.action_terms.specs.Frames.{Frame, plug}
use Rattle.action_terms.specs.Steps.{Step}
use Rattle.action_terms.proofs.Parts.{Reaches}
use Rattle.sort_rules.specs.Admissible.{IsAdmissible}
use Rattle.sort_rules.specs.Demands.{live_at}
use Rattle.sort_rules.specs.Parts.{Part, when}
use Rattle.sort_rules.specs.Shapes.{AList, EntersInShape, IsList}
use Rattle.sort_rules.specs.Tables.{BindsIn, DataIn, MarkedTable}
use Rattle.sort_rules.specs.Values.{nothing}
use Rattle.sort_rules.proofs.EachLaws.{each_tail}
use Rattle.sort_rules.proofs.SoundStates.{stands}
use Rattle.sort_rules.proofs.Standing.{demands_at, ends_met, live_met}
use Rattle.rv_codegen.proofs.NodeParts.{CallsByNumber}
use Rattle.rv_codegen.proofs.Suited.{runs-in_shape}
use Rattle.rv_codegen.proofs.SuitedTails.{EndsAs}

when-list : (x y : Part) → IsList x → when x y ≡ y
when-list _ y AList = refl

-- a node that is performed is live
enters-live : (t : MarkedTable) (k : ℕ) (d : Data) (b : Binds) → EntersInShape t k d b → live_at t k ≡ nothing
enters-live t k d b h = when-list (t (DataIn k)) (when (t (BindsIn k)) nothing) h.data_reached ∙ when-list (t (BindsIn k)) nothing h.binds_reached

module _ (a : Action) (t : MarkedTable) (admissible : IsAdmissible a t) where
  unfolding-ends : (n c : ℕ) → node_at a n ≡ Unfolding c → EndsAs a t admissible c n
  unfolding-ends n c e =
      let m = ends_met {t = t} {k = n} {j = c} (each_tail (each_tail (demands_at n (stands a t admissible) e))) in
      record { data_out = m.data_out; binds_out = m.binds_out }

  unfold-ends : (n c : ℕ) (d : Data) (b : Binds) → EntersInShape t n d b → node_at a n ≡ Unfold c → EndsAs a t admissible c n
  unfold-ends n c d b shape e =
      let m = ends_met {t = t} {k = n} {j = c} (live_met (enters-live t n d b shape) (each_tail (each_tail (demands_at n (stands a t admissible) e)))) in
      record { data_out = m.data_out; binds_out = m.binds_out }

  pub call-ends : (input : List ℤ) (steps : List Step) (fs : List Frame) (n c : ℕ) (d : Data) (b : Binds) (w : World) → CallsByNumber (node_at a n) c → Reaches a input steps (plug fs (Run n d b)) w → EndsAs a t admissible c n
  call-ends input steps fs n c d b w calls reached = ⊎_elim (λ e. unfolding-ends n c e) (λ e. unfold-ends n c d b (runs-in_shape a t admissible input steps fs n d b w reached) e) calls
