-- Nodes with two parts in either order: the code performs one of them first, then the other, and the parts are joined.
use Rattle.std.proofs.Common.{◌≡◌, ⊎_elim, ℕ, ◌+◌, ◌≤◌, [], ◌∷◌, ◌++◌, map, get_or, refl, sym, ◌∙◌, subst, arith, inl, inr}
use Rattle.action_terms.specs.Bindings.{overlaid}
use Rattle.action_terms.specs.Information.{Binds, Data, World}
use Rattle.action_terms.specs.Actions.{Join, Both, node_at}
use Rattle.action_terms.specs.Acting.{Done, End, Tree, Run, Ended, Par}
use Rattle.action_terms.specs.Performances.{OneOf, Here}
use Rattle.action_terms.specs.Steps.{Joins, TakesLeft, TakesRight, silent, at_letter, after_broken, joined, joined_parts, open_steps}
use Rattle.action_terms.specs.Frames.{Frame, InParLeft, InParRight, wrap, plug, plugged}
use Rattle.action_terms.proofs.Parts.{Reaches, quiet, reaches-quiet}
use Rattle.rv_codegen.specs.Blocks.{start_of}
use Rattle.rv_codegen.proofs.Around.{LeftFrame, RightFrame, InOrder, Given, Receives, Around}
use Rattle.rv_codegen.proofs.BindTables.{both-leave}
use Rattle.rv_codegen.proofs.Completions.{both-left, node-completes}
use Rattle.rv_codegen.proofs.Configurations.{pending, leaving}
use Rattle.rv_codegen.proofs.Holding.{Holds, HoldsBinds}
use Rattle.rv_codegen.proofs.NodeParts.{IsNode, IsPartOf, part-at}
use Rattle.rv_codegen.proofs.RestPoints.{Laid, GoesOn, Starting, starts, StartGoesOn, Completing, completes, EndGoesOn, open-run, moved-here}
use Rattle.rv_codegen.proofs.Settings.{Way, Setting, code, start, exit}
use Rattle.rv_codegen.proofs.Ways.{goes-by-way, step-pays}

module _ (s : Setting) (laid : Laid s) where
  -- ---- the node begins with one of its parts

  -- part l finds what the node found
  part-starts : (x : Starting s) (j : Join) (l r first : ℕ) (frame : Frame) → node_at s.action x.k ≡ Both j l r → IsPartOf (node_at s.action x.k) first → s.places.given first ≡ s.places.given x.k → s.places.bound first ≡ s.places.bound x.k → Way (code s) (start s x.k) (start s first) → wrap frame (Run first x.d x.b) ≡ Par x.k (Run l x.d x.b) (Run r x.d x.b) → Around s x.runs.here.heap x.runs.here.words (frame ∷ x.frames) x.runs.here.f first x.runs.here.chains → pending (frame ∷ x.frames) ≤ pending x.frames + leaving → StartGoesOn s x
  part-starts x j l r first frame e part given bound way same around few =
      let k = x.k in
      let next = Par k (Run l x.d x.b) (Run r x.d x.b) in
      let n = plugged x.frames (silent next) in
      let h = x.runs.here in
      let o : OneOf (silent next) (open_steps s.action x.world (Run k x.d x.b)) = open-run s k x.d x.b x.world (Both j l r) (silent next) e Here in
      goes-by-way s laid (starts s x) x.state (start_of k) (start_of first) (n ∷ x.steps) (frame ∷ x.frames) (Run first x.d x.b)
      (record {
        shown = x.shown;
        left = x.left;
        at = x.runs.at;
        way = way;
        rests = λ g. record {
          here = moved-here s x.steps (n ∷ x.steps) x.world.cells x.state (start s k) (start s first) x.frames (frame ∷ x.frames) k first g h (omega arith) (laid.same_frame k first part) (laid.part_node k first part) around;
          at = g.at;
          rank_is = refl;
          given = subst (λ os. Holds s.base h.heap h.words h.f os x.d) (sym given) x.runs.given;
          receives = subst (λ ss. HoldsBinds s.base h.heap h.words h.f ss x.b) (sym bound) x.runs.receives;
        };
        reached = subst (λ z. Reaches s.action s.input (n ∷ x.steps) (plug x.frames z) x.world) (sym same) (reaches-quiet s.action s.input x.steps x.frames [] (Run k x.d x.b) next x.world x.reached o);
        paid = step-pays s laid (starts s x) n (frame ∷ x.frames) few;
      })

  pub both-start : (x : Starting s) (j : Join) (l r : ℕ) → node_at s.action x.k ≡ Both j l r → StartGoesOn s x
  both-start x j l r e =
      let k = x.k in
      let p = laid.both k l r j e in
      let h = x.runs.here in
      ⊎_elim
      (λ order. part-starts x j l r l (InParLeft k (Run r x.d x.b)) e (part-at s.action k l (Both j l r) e (inl refl)) p.left_given p.left_bound order.enter refl
      (record { j = j; r = r; node = e; other = (refl, order, x.runs.given, x.runs.receives) }, h.around) (omega arith))
      (λ order. part-starts x j l r r (InParRight k (Run l x.d x.b)) e (part-at s.action k r (Both j l r) e (inr refl)) p.right_given p.right_bound order.enter refl
      (record { j = j; l = l; node = e; other = (refl, order, x.runs.given, x.runs.receives) }, h.around) (omega arith))
      p.order

  -- ---- one part has completed, and the other is still to be performed: the frame turns round, without a step

  other-starts : (frame frame' : Frame) (n o : ℕ) (d0 : Data) (b0 : Binds) (x : Completing s frame) → InOrder s n x.done.k o → IsPartOf (node_at s.action n) x.done.k → IsPartOf (node_at s.action n) o → wrap frame (Ended (Done x.d x.b)) ≡ wrap frame' (Run o d0 b0) → pending (frame' ∷ x.frames) + leaving ≤ pending (frame ∷ x.frames) → Around s x.done.here.heap x.done.here.words (frame' ∷ x.frames) x.done.here.f o x.done.here.chains → Given s x.done.here.heap x.done.here.words x.done.here.f o d0 → Receives s x.done.here.heap x.done.here.words x.done.here.f o b0 → EndGoesOn s frame x
  other-starts frame frame' n o d0 b0 x order part other_part same few around given receives =
      let h = x.done.here in
      let k = x.done.k in
      subst (λ z. GoesOn s z x.state (completes s frame x)) (sym x.done.rank_is)
      (goes-by-way s laid (completes s frame x) x.state (get_or s.exits k 0) (start_of o) x.steps (frame' ∷ x.frames) (Run o d0 b0)
      (record {
        shown = x.shown;
        left = x.left;
        at = x.done.at;
        way = subst (λ z. Way (code s) z (start s o)) (sym order.first_exit) order.turn;
        rests = λ g. record {
          here = moved-here s x.steps x.steps x.world.cells x.state (exit s k) (start s o) (frame ∷ x.frames) (frame' ∷ x.frames) k o g h (omega arith) (laid.same_frame n o other_part ∙ sym (laid.same_frame n k part)) (laid.part_node n o other_part) around;
          at = g.at;
          rank_is = refl;
          given = given;
          receives = receives;
        };
        reached = subst (λ t. Reaches s.action s.input x.steps (plug x.frames t) x.world) same x.reached;
        paid = omega (arith, few);
      }))

  -- ---- both parts have completed

  joined-here : (n l r : ℕ) (j : Join) (d1 d2 : Data) (b1 b2 : Binds) (z : End) (w : World) → node_at s.action n ≡ Both j l r → joined j d1 b1 d2 b2 ≡ z → OneOf (quiet (Joins ∷ []) (Ended z)) (open_steps s.action w (Par n (Ended (Done d1 b1)) (Ended (Done d2 b2))))
  joined-here n l r j d1 d2 b1 b2 z w e same =
      let behind = map (at_letter TakesLeft) (after_broken (Ended (Done d1 b1))) ++ map (at_letter TakesRight) (after_broken (Ended (Done d2 b2))) in
      subst (λ node. OneOf (quiet (Joins ∷ []) (Ended z)) (map (at_letter Joins) (joined_parts node d1 b1 d2 b2) ++ behind)) (sym e)
      (subst (λ z'. OneOf (quiet (Joins ∷ []) (Ended z)) (at_letter Joins (Ended z') ∷ [])) (sym same) Here)

  module _ (n : ℕ) (y : Tree) (x : Completing s (InParLeft n y)) where
    abbrev left_frame : LeftFrame s x.done.here.heap x.done.here.words x.done.here.f n x.done.k y
    left_frame = x.done.here.around.0

  pub left-done : (n : ℕ) (y : Tree) (x : Completing s (InParLeft n y)) → EndGoesOn s (InParLeft n y) x
  left-done n (Run o d0 b0) x =
      let h = x.done.here in
      let k = x.done.k in
      let frame = left_frame n (Run o d0 b0) x in
      let other = frame.other in
      let node : node_at s.action n ≡ Both frame.j k o = subst (λ r. node_at s.action n ≡ Both frame.j k r) (sym other.0) frame.node in
      let order : InOrder s n k o = subst (λ r. InOrder s n k r) (sym other.0) other.1 in
      let p = laid.both n k o frame.j node in
      other-starts (InParLeft n (Run o d0 b0)) (InParRight n (Ended (Done x.d x.b))) n o d0 b0 x order
      (part-at s.action n k (Both frame.j k o) node (inl refl)) (part-at s.action n o (Both frame.j k o) node (inr refl)) refl (omega arith)
      (record { j = frame.j; l = k; node = node; other = (order, x.done.leaves, x.done.binds) }, h.around.1)
      (subst (λ os. Holds s.base h.heap h.words h.f os d0) (sym p.right_given) other.2)
      (subst (λ ss. HoldsBinds s.base h.heap h.words h.f ss b0) (sym p.right_bound) other.3)
  left-done n (Ended (Done d1 b1)) x =
      let h = x.done.here in
      let k = x.done.k in
      let frame = left_frame n (Ended (Done d1 b1)) x in
      let r = frame.r in
      let p = laid.both n k r frame.j frame.node in
      let both = both-leave s.base h.heap h.words h.f s.places.bound s.places.bound_out s.places.BindsAt frame.j n k r x.d d1 x.b b1 p.binds x.done.binds frame.other.2 in
      let o = joined-here n k r frame.j x.d d1 x.b b1 (Done (x.d ++ d1) (overlaid x.b b1)) x.world frame.node both.0 in
      let fits = laid.data_laid.fits x.steps x.frames n (Par n (Ended (Done x.d x.b)) (Ended (Done d1 b1))) x.world (quiet (Joins ∷ []) (Ended (Done (x.d ++ d1) (overlaid x.b b1)))) (x.d ++ d1) (overlaid x.b b1) (subst IsNode (sym frame.node) tt) refl x.reached o refl in
      let full = laid.data_laid.fills n (x.d ++ d1) (overlaid x.b b1) (subst IsNode (sym frame.node) tt) fits in
      node-completes s laid (InParLeft n (Ended (Done d1 b1))) x n (x.d ++ d1) (overlaid x.b b1)
      (record {
        part = part-at s.action n k (Both frame.j k r) frame.node (inl refl);
        exit_is = frame.other.0.second_exit;
        around = h.around.1;
        leaves = both-left s h.heap h.words h.f n k r x.d d1 p.joins x.done.leaves frame.other.1 full;
        binds = both.1;
        fits = fits;
        letters = Joins ∷ [];
        step = o;
      })
  left-done n y x = absurd (left_frame n y x).other

  module _ (n : ℕ) (y : Tree) (x : Completing s (InParRight n y)) where
    abbrev right_frame : RightFrame s x.done.here.heap x.done.here.words x.done.here.f n x.done.k y
    right_frame = x.done.here.around.0

  pub right-done : (n : ℕ) (y : Tree) (x : Completing s (InParRight n y)) → EndGoesOn s (InParRight n y) x
  right-done n (Run o d0 b0) x =
      let h = x.done.here in
      let k = x.done.k in
      let frame = right_frame n (Run o d0 b0) x in
      let other = frame.other in
      let node : node_at s.action n ≡ Both frame.j o k = subst (λ l. node_at s.action n ≡ Both frame.j l k) (sym other.0) frame.node in
      let order : InOrder s n k o = subst (λ l. InOrder s n k l) (sym other.0) other.1 in
      let p = laid.both n o k frame.j node in
      other-starts (InParRight n (Run o d0 b0)) (InParLeft n (Ended (Done x.d x.b))) n o d0 b0 x order
      (part-at s.action n k (Both frame.j o k) node (inr refl)) (part-at s.action n o (Both frame.j o k) node (inl refl)) refl (omega arith)
      (record { j = frame.j; r = k; node = node; other = (order, x.done.leaves, x.done.binds) }, h.around.1)
      (subst (λ os. Holds s.base h.heap h.words h.f os d0) (sym p.left_given) other.2)
      (subst (λ ss. HoldsBinds s.base h.heap h.words h.f ss b0) (sym p.left_bound) other.3)
  right-done n (Ended (Done d1 b1)) x =
      let h = x.done.here in
      let k = x.done.k in
      let frame = right_frame n (Ended (Done d1 b1)) x in
      let l = frame.l in
      let p = laid.both n l k frame.j frame.node in
      let both = both-leave s.base h.heap h.words h.f s.places.bound s.places.bound_out s.places.BindsAt frame.j n l k d1 x.d b1 x.b p.binds frame.other.2 x.done.binds in
      let o = joined-here n l k frame.j d1 x.d b1 x.b (Done (d1 ++ x.d) (overlaid b1 x.b)) x.world frame.node both.0 in
      let fits = laid.data_laid.fits x.steps x.frames n (Par n (Ended (Done d1 b1)) (Ended (Done x.d x.b))) x.world (quiet (Joins ∷ []) (Ended (Done (d1 ++ x.d) (overlaid b1 x.b)))) (d1 ++ x.d) (overlaid b1 x.b) (subst IsNode (sym frame.node) tt) refl x.reached o refl in
      let full = laid.data_laid.fills n (d1 ++ x.d) (overlaid b1 x.b) (subst IsNode (sym frame.node) tt) fits in
      node-completes s laid (InParRight n (Ended (Done d1 b1))) x n (d1 ++ x.d) (overlaid b1 x.b)
      (record {
        part = part-at s.action n k (Both frame.j l k) frame.node (inr refl);
        exit_is = frame.other.0.second_exit;
        around = h.around.1;
        leaves = both-left s h.heap h.words h.f n l k d1 x.d p.joins frame.other.1 x.done.leaves full;
        binds = both.1;
        fits = fits;
        letters = Joins ∷ [];
        step = o;
      })
  right-done n y x = absurd (right_frame n y x).other
