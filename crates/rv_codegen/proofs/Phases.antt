-- Nodes with two parts in order: the first part begins, then the second, and the node completes where the second does.
use Rattle.std.proofs.Common.{◌≡◌, ℕ, [], ◌∷◌, ◌++◌, length, Bool, true, false, map, get_or, refl, sym, ap, ◌∙◌, subst, arith, inl, inr}
use Rattle.std.specs.Prelude.{if◌then◌else◌}
use Rattle.action_terms.specs.Bindings.{meets, overlaid}
use Rattle.action_terms.specs.Information.{Binds, Data}
use Rattle.action_terms.specs.Actions.{Chain, AndThen, Then, Hence, Before, Phases, node_at}
use Rattle.action_terms.specs.Acting.{Done, Fail, Run, Ended, First, Second}
use Rattle.action_terms.specs.Performances.{OneOf, Here}
use Rattle.action_terms.specs.Steps.{silent, second_part, chained_parts, handed_data, handed_binds, chained, united, open_steps}
use Rattle.action_terms.specs.Frames.{InFirst, InSecond, plugged}
use Rattle.action_terms.proofs.Parts.{reaches-quiet}
use Rattle.rv_codegen.specs.Blocks.{start_of}
use Rattle.rv_codegen.proofs.Around.{FirstFrame, SecondFrame, HandsOver, Given, Leaves, BindsLeft}
use Rattle.rv_codegen.proofs.BindTables.{second-receives, second-leaves}
use Rattle.rv_codegen.proofs.Completions.{both-left, node-completes}
use Rattle.rv_codegen.proofs.GivenItems.{holds-length}
use Rattle.rv_codegen.proofs.Holding.{Holds, HoldsBinds}
use Rattle.rv_codegen.proofs.NodeParts.{IsNode, IsPartOf, part-at}
use Rattle.rv_codegen.proofs.RestPoints.{Laid, PhasePlaces, GoesOn, Starting, starts, StartGoesOn, Completing, completes, EndGoesOn, open-run, moved-here}
use Rattle.rv_codegen.proofs.Settings.{Way, Setting, code, start, exit}
use Rattle.rv_codegen.proofs.Ways.{goes-by-way, step-pays}

-- the data of an end are those that were put together
done-data : (d e : Data) (b u : Binds) → Done d b ≡ Done e u → e ≡ d
done-data d e b u q = cc

united-data : (d e : Data) (b1 b2 u : Binds) → united d b1 b2 ≡ Done e u → e ≡ d
united-data d e b1 b2 u q = by (meets b1 b2) q
  where
    by : (m : Bool) → (if m then Fail else Done d (overlaid b1 b2)) ≡ Done e u → e ≡ d
    by true z = absurd (cc)
    by false z = cc

module _ (s : Setting) (laid : Laid s) where
  -- the node begins with its first part, which finds what the node found
  pub phases-start : (x : Starting s) (q : Chain) (l r : ℕ) → node_at s.action x.k ≡ Phases q l r → StartGoesOn s x
  phases-start x q l r e =
      let k = x.k in
      let p = laid.phases k l r q e in
      let part : IsPartOf (node_at s.action k) l = part-at s.action k l (Phases q l r) e (inl refl) in
      let next = First k (Run l x.d x.b) x.d x.b in
      let frame = InFirst k x.d x.b in
      let n = plugged x.frames (silent next) in
      let h = x.runs.here in
      let o : OneOf (silent next) (open_steps s.action x.world (Run k x.d x.b)) = open-run s k x.d x.b x.world (Phases q l r) (silent next) e Here in
      goes-by-way s laid (starts s x) x.state (start_of k) (start_of l) (n ∷ x.steps) (frame ∷ x.frames) (Run l x.d x.b)
      (record {
        shown = x.shown;
        left = x.left;
        at = x.runs.at;
        way = p.order.enter;
        rests = λ g. record {
          here = moved-here s x.steps (n ∷ x.steps) x.world.cells x.state (start s k) (start s l) x.frames (frame ∷ x.frames) k l g h (omega arith) (laid.same_frame k l part) (laid.part_node k l part)
              (record { q = q; r = r; node = e; given = x.runs.given; receives = x.runs.receives }, h.around);
          at = g.at;
          rank_is = refl;
          given = subst (λ os. Holds s.base h.heap h.words h.f os x.d) (sym p.left_given) x.runs.given;
          receives = subst (λ ss. HoldsBinds s.base h.heap h.words h.f ss x.b) (sym p.left_bound) x.runs.receives;
        };
        reached = reaches-quiet s.action s.input x.steps x.frames [] (Run k x.d x.b) next x.world x.reached o;
        paid = step-pays s laid (starts s x) n (frame ∷ x.frames) (omega arith);
      })

  module _ (n : ℕ) (d0 : Data) (b0 : Binds) (x : Completing s (InFirst n d0 b0)) where
    abbrev before : FirstFrame s x.done.here.heap x.done.here.words x.done.here.f n x.done.k d0 b0
    before = x.done.here.around.0

    -- the second part is to be performed, with data e
    second-starts : (q : Chain) (e : Data) → node_at s.action n ≡ Phases q x.done.k before.r → handed_data q d0 x.d ≡ e → Given s x.done.here.heap x.done.here.words x.done.here.f before.r e → EndGoesOn s (InFirst n d0 b0) x
    second-starts q e node same_data given =
        let h = x.done.here in
        let l = x.done.k in
        let r = before.r in
        let p = laid.phases n l r q node in
        let b1 = handed_binds q b0 x.b in
        let next = Second n x.d x.b (Run r e b1) in
        let frame = InSecond n x.d x.b in
        let step = plugged x.frames (silent next) in
        let left_part : IsPartOf (node_at s.action n) l = part-at s.action n l (Phases q l r) node (inl refl) in
        let part : IsPartOf (node_at s.action n) r = part-at s.action n r (Phases q l r) node (inr refl) in
        let o : OneOf (silent next) (open_steps s.action x.world (First n (Ended (Done x.d x.b)) d0 b0)) = subst (λ n'. OneOf (silent next) (map silent (second_part n' n d0 b0 x.d x.b))) (sym node) (subst (λ e'. OneOf (silent next) (silent (Second n x.d x.b (Run r e' b1)) ∷ [])) (sym same_data) Here) in
        subst (λ z. GoesOn s z x.state (completes s (InFirst n d0 b0) x)) (sym x.done.rank_is)
        (goes-by-way s laid (completes s (InFirst n d0 b0) x) x.state (get_or s.exits l 0) (start_of r) (step ∷ x.steps) (frame ∷ x.frames) (Run r e b1)
        (record {
          shown = x.shown;
          left = x.left;
          at = x.done.at;
          way = subst (λ z. Way (code s) z (start s r)) (sym p.order.first_exit) p.order.turn;
          rests = λ g. record {
            here = moved-here s x.steps (step ∷ x.steps) x.world.cells x.state (exit s l) (start s r) (InFirst n d0 b0 ∷ x.frames) (frame ∷ x.frames) l r g h (omega arith) (laid.same_frame n r part ∙ sym (laid.same_frame n l left_part)) (laid.part_node n r part)
                (record { q = q; l = l; node = node; order = p.order; result = x.done.leaves; binds = x.done.binds }, h.around.1);
            at = g.at;
            rank_is = refl;
            given = given;
            receives = second-receives s.base h.heap h.words h.f s.places.bound s.places.bound_out s.places.BindsAt q n l r b0 x.b p.binds before.receives x.done.binds;
          };
          reached = reaches-quiet s.action s.input x.steps x.frames [] (First n (Ended (Done x.d x.b)) d0 b0) next x.world x.reached o;
          paid = step-pays s laid (completes s (InFirst n d0 b0) x) step (frame ∷ x.frames) (omega arith);
        }))

    pub first-done : EndGoesOn s (InFirst n d0 b0) x
    first-done = by before.q before.node (laid.phases n x.done.k before.r before.q before.node).places
      where
        by : (q : Chain) → node_at s.action n ≡ Phases q x.done.k before.r → PhasePlaces s q n x.done.k before.r → EndGoesOn s (InFirst n d0 b0) x
        by AndThen node y = second-starts AndThen d0 node refl (subst (λ os. Holds s.base x.done.here.heap x.done.here.words x.done.here.f os d0) (sym y.right_given) before.given)
        by Then node y = second-starts Then x.d node refl (subst (λ os. Holds s.base x.done.here.heap x.done.here.words x.done.here.f os x.d) (sym y.right_given) x.done.leaves)
        by Hence node y = second-starts Hence d0 node refl (subst (λ os. Holds s.base x.done.here.heap x.done.here.words x.done.here.f os d0) (sym y.right_given) before.given)
        by Before node y = second-starts Before d0 node refl (subst (λ os. Holds s.base x.done.here.heap x.done.here.words x.done.here.f os d0) (sym y.right_given) before.given)

  module _ (n : ℕ) (d1 : Data) (b1 : Binds) (x : Completing s (InSecond n d1 b1)) where
    abbrev behind : SecondFrame s x.done.here.heap x.done.here.words x.done.here.f n x.done.k d1 b1
    behind = x.done.here.around.0

    -- the node completes with data e and bindings u, where the second part did
    second-ends : (q : Chain) (e : Data) (u : Binds) → node_at s.action n ≡ Phases q behind.l x.done.k → chained q d1 b1 x.d x.b ≡ Done e u → (length e ≡ length (s.places.out n) → Leaves s x.done.here.heap x.done.here.words x.done.here.f n e) → BindsLeft s x.done.here.heap x.done.here.words x.done.here.f n u → EndGoesOn s (InSecond n d1 b1) x
    second-ends q e u node same leaves binds =
        let next = Ended (Done e u) in
        let o : OneOf (silent next) (open_steps s.action x.world (Second n d1 b1 (Ended (Done x.d x.b)))) = subst (λ n'. OneOf (silent next) (map silent (chained_parts n' d1 b1 x.d x.b))) (sym node) (subst (λ z. OneOf (silent next) (silent (Ended z) ∷ [])) (sym same) Here) in
        let fits = laid.data_laid.fits x.steps x.frames n (Second n d1 b1 (Ended (Done x.d x.b))) x.world (silent next) e u (subst IsNode (sym node) tt) refl x.reached o refl in
        node-completes s laid (InSecond n d1 b1) x n e u
        (record {
          part = part-at s.action n x.done.k (Phases q behind.l x.done.k) node (inr refl);
          exit_is = behind.order.second_exit;
          around = x.done.here.around.1;
          leaves = leaves (laid.data_laid.fills n e u (subst IsNode (sym node) tt) fits);
          binds = binds;
          fits = fits;
          letters = [];
          step = o;
        })

    -- the data of the second part alone
    second-left : HandsOver s n behind.l x.done.k → length x.d ≡ length (s.places.out n) → Leaves s x.done.here.heap x.done.here.words x.done.here.f n x.d
    second-left hands full =
        let h = x.done.here in
        let second = holds-length s.base h.heap h.words h.f (s.places.out x.done.k) x.d x.done.leaves in
        subst (λ os. Holds s.base h.heap h.words h.f os x.d) (sym (hands.ends (sym second ∙ full))) x.done.leaves

    pub second-done : EndGoesOn s (InSecond n d1 b1) x
    second-done = by behind.q behind.node (laid.phases n behind.l x.done.k behind.q behind.node).places
      where
        ends : (q : Chain) → node_at s.action n ≡ Phases q behind.l x.done.k → (e : Data) → ((u : Binds) (e' : Data) → chained q d1 b1 x.d x.b ≡ Done e' u → e' ≡ e) → (length e ≡ length (s.places.out n) → Leaves s x.done.here.heap x.done.here.words x.done.here.f n e) → EndGoesOn s (InSecond n d1 b1) x
        ends q node e same leaves =
            let z = second-leaves s.base x.done.here.heap x.done.here.words x.done.here.f s.places.bound s.places.bound_out s.places.BindsAt q n behind.l x.done.k d1 x.d b1 x.b (laid.phases n behind.l x.done.k q node).binds behind.binds x.done.binds in
            let is : z.1 ≡ e = same z.0 z.1 z.2 in
            second-ends q z.1 z.0 node z.2 (λ full. subst (λ v. Leaves s x.done.here.heap x.done.here.words x.done.here.f n v) (sym is) (leaves (ap length (sym is) ∙ full))) z.3

        by : (q : Chain) → node_at s.action n ≡ Phases q behind.l x.done.k → PhasePlaces s q n behind.l x.done.k → EndGoesOn s (InSecond n d1 b1) x
        by AndThen node y = ends AndThen node (d1 ++ x.d) (λ u e' q. united-data (d1 ++ x.d) e' b1 x.b u q) (both-left s x.done.here.heap x.done.here.words x.done.here.f n behind.l x.done.k d1 x.d y.joins behind.result x.done.leaves)
        by Then node y = ends Then node x.d (λ u e' q. united-data x.d e' b1 x.b u q) (second-left y)
        by Hence node y = ends Hence node (d1 ++ x.d) (λ u e' q. done-data (d1 ++ x.d) e' _ u q) (both-left s x.done.here.heap x.done.here.words x.done.here.f n behind.l x.done.k d1 x.d y.joins behind.result x.done.leaves)
        by Before node y = ends Before node (d1 ++ x.d) (λ u e' q. done-data (d1 ++ x.d) e' _ u q) (both-left s x.done.here.heap x.done.here.words x.done.here.f n behind.l x.done.k d1 x.d y.joins behind.result x.done.leaves)
