-- What an admissible table says at a part of the acting tree of a state.
use Rattle.std.proofs.Common.{List, false, subst, ℕ, ℤ, ◌≡◌}
use Rattle.action_terms.specs.Acting.{Done, Ended, Par, Run, Second, Tree}
use Rattle.action_terms.specs.Actions.{Action, And, AndThen, Before, Both, Chain, Hence, Phases, Then, node_at}
use Rattle.action_terms.specs.Bindings.{meets}
use Rattle.action_terms.specs.Frames.{Frame, plug}
use Rattle.action_terms.specs.Information.{Binds, Data}
use Rattle.action_terms.specs.Performances.{IsPart, State}
use Rattle.action_terms.specs.Steps.{Step}
use Rattle.sort_rules.specs.Admissible.{IsAdmissible, is_clash}
use Rattle.sort_rules.specs.Demands.{chained_binds}
use Rattle.sort_rules.specs.Fitting.{BindsFit, DoneFits, Ends, Enters, ParFits, RunFits, SecondFits, Sorted, TreeFits, ends_of, sorted}
use Rattle.sort_rules.specs.Parts.{Below, union}
use Rattle.sort_rules.specs.Soundness.{IsInSort, Unites}
use Rattle.sort_rules.specs.Tables.{BindsOut, MarkedTable}
use Rattle.sort_rules.proofs.EachLaws.{each_head, each_tail}
use Rattle.sort_rules.proofs.FittedFrames.{FramesFit, frames_fit}
use Rattle.sort_rules.proofs.LeastTables.{clear_below}
use Rattle.sort_rules.proofs.Shapes.{united_completes}
use Rattle.sort_rules.proofs.Soundness.{nodes_run}
use Rattle.sort_rules.proofs.SoundStates.{part_fits, stands}
use Rattle.sort_rules.proofs.Standing.{demands_at}

run_enters : {c : Sorted} {a : Action} {w : List ℕ} {k : ℕ} {d : Data} {b : Binds} {z : Ends} → TreeFits c a w (Run k d b) z → Enters c w k d b
run_enters (RunFits h le) = h

done_binds : {c : Sorted} {a : Action} {w : List ℕ} {d : Data} {b : Binds} {z : Ends} → TreeFits c a w (Ended (Done d b)) z → BindsFit c w b z.binds_out
done_binds (DoneFits h f) = f

module _ (a : Action) (t : MarkedTable) (h : IsAdmissible a t) (w : List ℕ) where
  -- a union that the table asks for is no clash
  union_clear : (k l r : ℕ) → Below (union (t (BindsOut l)) (t (BindsOut r))) (t (BindsOut k)) → is_clash (union (t (BindsOut l)) (t (BindsOut r))) ≡ false
  union_clear k l r m = clear_below m (h.clear k).binds_out

  both_apart : (k l r : ℕ) {d1 d2 : Data} {b1 b2 : Binds} {z : Ends} → node_at a k ≡ Both And l r → TreeFits (sorted a t) a w (Par k (Ended (Done d1 b1)) (Ended (Done d2 b2))) z → meets b1 b2 ≡ false
  both_apart k l r {b1} {b2} e (ParFits {l = l2} {r = r2} e2 f g le) =
      let m = demands_at k (stands a t h) e in
      let same : l2 ≡ l = cc in
      let same2 : r2 ≡ r = cc in
      let f2 : BindsFit (sorted a t) w b1 (t (BindsOut l)) = subst (λ i. BindsFit (sorted a t) w b1 (t (BindsOut i))) same (done_binds f) in
      let g2 : BindsFit (sorted a t) w b2 (t (BindsOut r)) = subst (λ i. BindsFit (sorted a t) w b2 (t (BindsOut i))) same2 (done_binds g) in
      united_completes f2 g2 (union_clear k l r (each_head (each_tail (each_tail (each_tail (each_tail (each_tail m)))))))

  phases_apart : (k l r : ℕ) (q : Chain) {d1 d2 : Data} {b1 b2 : Binds} {z : Ends} → Unites q → node_at a k ≡ Phases q l r → TreeFits (sorted a t) a w (Second k d1 b1 (Ended (Done d2 b2))) z → meets b1 b2 ≡ false
  phases_apart k l r q {b1} {b2} u e (SecondFits {l = l2} {r = r2} e2 f1 f2 g le) =
      let m = demands_at k (stands a t h) e in
      let same : l2 ≡ l = cc in
      let same2 : r2 ≡ r = cc in
      let f3 : BindsFit (sorted a t) w b1 (t (BindsOut l)) = subst (λ i. BindsFit (sorted a t) w b1 (t (BindsOut i))) same f2 in
      let g2 : BindsFit (sorted a t) w b2 (t (BindsOut r)) = subst (λ i. BindsFit (sorted a t) w b2 (t (BindsOut i))) same2 (done_binds g) in
      united_completes f3 g2 (union_clear k l r (union_of q u (each_head (each_tail (each_tail (each_tail (each_tail (each_tail m))))))))
    where
      union_of : (q : Chain) → Unites q → Below (chained_binds q (t (BindsOut l)) (t (BindsOut r))) (t (BindsOut k)) → Below (union (t (BindsOut l)) (t (BindsOut r))) (t (BindsOut k))
      union_of AndThen u m = m
      union_of Then u m = m
      union_of Hence u m = absurd u
      union_of Before u m = absurd u

-- every state of every performance is in sort
pub parts_in_sort : (a : Action) (t : MarkedTable) → IsAdmissible a t → (input : List ℤ) (steps : List Step) (s : State) → IsPart a input steps s → IsInSort a t s
parts_in_sort a t h input steps s part =
    let f = part_fits a t input steps s h part in
    record {
      fits = f;
      runs = λ fs k d b e. nodes_run a t h f.nodes s.world.cells k d b f.cells (run_enters (within f.nodes f.tree fs (Run k d b) e).2);
      unions = λ fs k l r d1 b1 d2 b2 e n. both_apart a t h f.nodes k l r n (within f.nodes f.tree fs (Par k (Ended (Done d1 b1)) (Ended (Done d2 b2))) e).2;
      unions_in_order = λ fs k l r q d1 b1 d2 b2 e n u. phases_apart a t h f.nodes k l r q u n (within f.nodes f.tree fs (Second k d1 b1 (Ended (Done d2 b2))) e).2;
    }
  where
    within : (w : List ℕ) → TreeFits (sorted a t) a w s.tree (ends_of t 0) → (fs : List Frame) (x : Tree) → s.tree ≡ plug fs x → (z : Ends) × FramesFit (sorted a t) a w fs z × TreeFits (sorted a t) a w x z
    within w f fs x e = frames_fit (sorted a t) a w fs x (subst (λ y. TreeFits (sorted a t) a w y (ends_of t 0)) e f)
