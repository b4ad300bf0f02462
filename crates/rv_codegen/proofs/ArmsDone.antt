-- The first arm of an alternative has completed: its record is closed, or a commitment has closed it.
use Rattle.std.proofs.Common.{◌≡◌, ℕ, ◌+◌, ◌*◌, ◌≤◌, List, [], ◌∷◌, get_or, length, refl, sym, ap, ◌∙◌, subst, arith, length-set, get_or-set_same, get_or-set_other, inl, ⊎_elim}
use Rattle.rv_asm.specs.Assembly.{address_of}
use Rattle.rv_asm.specs.WordMachine.{WordState}
use Rattle.rv_asm.proofs.Moments.{quiet-advance}
use Rattle.rv_asm.proofs.Stretches.{then-runs}
use Rattle.action_terms.specs.Actions.{Either, node_at}
use Rattle.action_terms.specs.Acting.{Done, Ended, Or, Cut}
use Rattle.action_terms.specs.Frames.{InOr, InCut, plugged}
use Rattle.action_terms.specs.Information.{Binds, Data}
use Rattle.action_terms.specs.Performances.{OneOf, Here}
use Rattle.action_terms.specs.Steps.{silent, open_steps}
use Rattle.action_terms.proofs.Parts.{reaches-quiet}
use Rattle.rv_prelude.specs.PieceRuns.{HasPlace}
use Rattle.rv_prelude.specs.Region.{Chains, without_alternative}
use Rattle.rv_codegen.proofs.Around.{OrFrame}
use Rattle.rv_codegen.proofs.AroundKept.{Agrees, around-kept, frames-high}
use Rattle.rv_codegen.proofs.Configurations.{depth, performances}
use Rattle.rv_codegen.proofs.Failing.{LaidRecords}
use Rattle.rv_codegen.proofs.Holding.{Holds, HoldsBinds, Slot, Apart, ApartSlots, grows-same, holds-kept, holds-kept_binds}
use Rattle.rv_codegen.proofs.InputLeft.{left-same}
use Rattle.rv_codegen.proofs.NodeParts.{IsPartOf, IsNode, KeepsRecord, part-at}
use Rattle.rv_codegen.proofs.RestPoints.{Laid, Region, IsAt, Completing, completes, EndGoesOn, near}
use Rattle.rv_codegen.proofs.Settings.{way-runs, Setting, code, stop, exit, frame_words}
use Rattle.rv_codegen.proofs.Units.{units-kept, units-more}
use Rattle.rv_codegen.proofs.Alternating.{Alternative}

-- no offset is written where nothing is
pub none-apart : (os : List ℕ) → Apart (λ x. ⊥) os
none-apart [] = tt
none-apart (o ∷ os) = (λ v. v, none-apart os)

pub none-apart_slots : (ss : List Slot) → ApartSlots (λ x. ⊥) ss
none-apart_slots [] = tt
none-apart_slots (x ∷ ss) = (λ v. v, none-apart_slots ss)

module _ (s : Setting) where
  module _ (all : LaidRecords s) (alternative : (n l r : ℕ) → node_at s.action n ≡ Either l r → Alternative s n l r) where
    laid : Laid s
    laid = all.laid

    -- ---- the first arm has completed

    -- where it stands
    joined : (n k r f : ℕ) (state : WordState) (words : List ℕ) → node_at s.action n ≡ Either k r → 512 ≤ f → f + frame_words s k ≤ 512 + s.stack → state.words ≡ words → length words ≡ s.count → state.registers 3 ≡ s.base → state.registers 2 ≡ s.base + 8 * f → HasPlace s.base f (s.places.keep n) state
    joined n k r f state words e high clear wa many region frame =
        let part : IsPartOf (node_at s.action n) k = part-at s.action n k (Either k r) e (inl refl) in
        let size : length state.words ≡ s.count = ap length wa ∙ many in
        let inside : f + s.places.keep n + 8 ≤ s.count = omega (arith, all.keep_below n (subst KeepsRecord (sym e) tt), clear, laid.same_frame n k part, laid.units_inside) in
        record {
          region = record { aligned = laid.aligned; below = omega (arith, laid.below, size); front = omega (arith, laid.some, size); region = region };
          frame = frame;
          behind_front = omega arith;
          inside = omega (arith, inside, size);
        }

    -- no commitment was made in it: the record is closed
    module _ (k2 : ℕ) (d0 : Data) (b0 : Binds) (x : Completing s (InOr k2 d0 b0)) where
      abbrev node : ℕ
      node = x.done.here.around.0

      abbrev outside : Chains
      outside = x.done.here.around.1

      abbrev frame : OrFrame s x.done.here.heap x.done.here.words x.done.here.f x.done.k k2 node x.done.here.chains outside d0 b0
      frame = x.done.here.around.2

      abbrev record_word : ℕ
      record_word = x.done.here.f + s.places.keep node

      abbrev closed_words : List ℕ
      closed_words = without_alternative record_word x.done.here.words

      high_frame : 512 ≤ x.done.here.f
      high_frame = frames-high s x.done.here.heap x.done.here.words x.frames x.done.here.f node outside x.done.here.around.3

      others : (j : ℕ) → 2 ≤ j → get_or closed_words j 0 ≡ get_or x.done.here.words j 0
      others j far = get_or-set_other x.done.here.words 1 j (get_or x.done.here.words record_word 0) 0 (omega arith)

      closed_agrees : Agrees s laid.placed x.done.here.heap x.done.here.heap (grows-same x.done.here.heap) x.done.here.words closed_words x.done.here.f node
      closed_agrees = record {
        here = λ i no. others (x.done.here.f + i) (omega (arith, high_frame));
        below = λ j lo lt. others j (omega arith);
      }

      closed_region : Region s closed_words outside
      closed_region =
          let v = get_or x.done.here.words record_word 0 in
          record {
            size = length-set x.done.here.words 1 v ∙ x.done.here.region.size;
            alternative = get_or-set_same x.done.here.words 1 v 0 (omega (arith, x.done.here.region.size, laid.some)) ∙ frame.kept.alternative;
            trap = others 2 (omega arith) ∙ x.done.here.region.trap ∙ ap (λ c. c.trap) frame.same;
            mark = others 3 (omega arith) ∙ x.done.here.region.mark ∙ ap (λ c. c.mark) frame.same;
          }

      pub or-done : EndGoesOn s (InOr k2 d0 b0) x
      or-done =
          let h = x.done.here in
          let k = x.done.k in
          let o = alternative node k k2 frame.node in
          let arms = all.arms node k k2 frame.node in
          let ends = arms.left_out x.d x.b x.done.fits in
          let part : IsPartOf (node_at s.action node) k = part-at s.action node k (Either k k2) frame.node (inl refl) in
          let at_joint : x.state.pc ≡ address_of (stop s node).place = x.done.at ∙ ap (λ z. address_of z.place) o.first_exit in
          let has = joined node k k2 h.f x.state h.words frame.node high_frame h.clear h.stands.words_are h.region.size h.stands.region h.stands.frame_at in
          let head : get_or x.state.words 1 0 ≡ s.base + 8 * record_word = ap (λ ws. get_or ws 1 0) h.stands.words_are ∙ h.region.alternative ∙ frame.at in
          let q = o.closes_record h.f x.state at_joint has head in
          let c = q.0.end in
          let g = way-runs s.base (code s) c o.closed (exit s node) o.near_closed (near s laid (get_or s.exits node 0)) q.0.at o.leave in
          let around' = around-kept s laid.placed h.heap h.heap (grows-same h.heap) h.words closed_words x.frames h.f node outside closed_agrees h.around.3 in
          let same = λ (i : ℕ) (no : ⊥ → ⊥). others (h.f + i) (omega (arith, high_frame)) in
          let leaves' = holds-kept s.base h.heap h.heap (grows-same h.heap) h.words closed_words h.f (λ i. ⊥) same (s.places.out k) x.d (none-apart (s.places.out k)) x.done.leaves in
          let binds' = holds-kept_binds s.base h.heap h.heap (grows-same h.heap) h.words closed_words h.f (λ i. ⊥) same (s.places.bound_out k) x.b (none-apart_slots (s.places.bound_out k)) x.done.binds.held in
          let next = Ended (Done x.d x.b) in
          let step = plugged x.frames (silent next) in
          let opening : OneOf (silent next) (open_steps s.action x.world (Or next k2 d0 b0)) = Here in
          inl
          (quiet-advance s.base (code s) (performances s) depth (IsAt s) x.rank x.state (completes s (InOr k2 d0 b0) x)
          (record {
            count = q.0.instructions + g.count;
            to = g.end;
            next = record { steps = step ∷ x.steps; frames = x.frames; focus = next; world = x.world };
            next_rank = (exit s node).rank;
            some = inl (omega (arith, q.0.some));
            runs = then-runs s.base (code s) q.0.instructions g.count x.state c g.end q.0.leads.words g.runs;
            quiet = g.output ∙ q.0.output;
            output = g.output ∙ q.0.output ∙ x.shown;
            related = record {
              rests = record {
                k = node;
                here = record {
                  f = h.f;
                  chains = outside;
                  heap = h.heap;
                  words = closed_words;
                  stands = record { region = g.others 3 (omega arith) ∙ q.1 3 (omega arith) ∙ h.stands.region; frame_at = g.others 2 (omega arith) ∙ q.1 2 (omega arith) ∙ h.stands.frame_at; words_are = g.words ∙ q.0.words ∙ ap (without_alternative record_word) h.stands.words_are };
                  region = closed_region;
                  clear = omega (arith, h.clear, laid.same_frame node k part);
                  units_are = units-kept s h.heap h.words closed_words x.steps (step ∷ x.steps) x.world.cells (λ j out. others j (⊎_elim (λ z. omega (arith, z.0)) (λ z. omega arith) out)) (omega arith) h.units_are;
                  around = around';
                  node = subst IsNode (sym frame.node) tt;
                };
                at = g.at;
                rank_is = refl;
                leaves = subst (λ os. Holds s.base h.heap closed_words h.f os x.d) (sym ends.0) leaves';
                binds = record {
                  held = subst (λ ss. HoldsBinds s.base h.heap closed_words h.f ss x.b) (sym arms.left_bound_out) binds';
                  table = record { ascends = x.done.binds.table.ascends; among = λ t y z. arms.left_binds t (x.done.binds.table.among t y z) };
                };
                fits = ends.1;
              };
              shown = g.output ∙ q.0.output ∙ x.shown;
              left = left-same {ys = g.end.input} (g.input ∙ q.0.input) x.left;
            };
            reached = reaches-quiet s.action s.input x.steps x.frames [] (Or next k2 d0 b0) next x.world x.reached opening;
            paid = omega (arith, s.ample, q.0.few, g.few);
          }))

    -- a commitment has closed the record
    module _ (x : Completing s InCut) where
      abbrev cut_node : ℕ
      cut_node = x.done.here.around.0

      pub cut-done : EndGoesOn s InCut x
      cut-done =
          let h = x.done.here in
          let k = x.done.k in
          let r = h.around.1.r in
          let e = h.around.1.node in
          let o = alternative cut_node k r e in
          let arms = all.arms cut_node k r e in
          let ends = arms.left_out x.d x.b x.done.fits in
          let part : IsPartOf (node_at s.action cut_node) k = part-at s.action cut_node k (Either k r) e (inl refl) in
          let high = frames-high s h.heap h.words x.frames h.f cut_node h.chains h.around.3 in
          let at_joint : x.state.pc ≡ address_of (stop s cut_node).place = x.done.at ∙ ap (λ z. address_of z.place) o.first_exit in
          let has = joined cut_node k r h.f x.state h.words e high h.clear h.stands.words_are h.region.size h.stands.region h.stands.frame_at in
          let head : get_or x.state.words 1 0 ≡ 0 = ap (λ ws. get_or ws 1 0) h.stands.words_are ∙ h.region.alternative ∙ h.around.2 in
          let q = o.leaves_record h.f x.state at_joint has (omega (arith, head, high)) in
          let c = q.0.end in
          let g = way-runs s.base (code s) c o.closed (exit s cut_node) o.near_closed (near s laid (get_or s.exits cut_node 0)) q.0.at o.leave in
          let next = Ended (Done x.d x.b) in
          let step = plugged x.frames (silent next) in
          let opening : OneOf (silent next) (open_steps s.action x.world (Cut next)) = Here in
          inl
          (quiet-advance s.base (code s) (performances s) depth (IsAt s) x.rank x.state (completes s InCut x)
          (record {
            count = q.0.instructions + g.count;
            to = g.end;
            next = record { steps = step ∷ x.steps; frames = x.frames; focus = next; world = x.world };
            next_rank = (exit s cut_node).rank;
            some = inl (omega (arith, q.0.some));
            runs = then-runs s.base (code s) q.0.instructions g.count x.state c g.end q.0.leads.words g.runs;
            quiet = g.output ∙ q.0.output;
            output = g.output ∙ q.0.output ∙ x.shown;
            related = record {
              rests = record {
                k = cut_node;
                here = record {
                  f = h.f;
                  chains = h.chains;
                  heap = h.heap;
                  words = h.words;
                  stands = record { region = g.others 3 (omega arith) ∙ q.1 3 (omega arith) ∙ h.stands.region; frame_at = g.others 2 (omega arith) ∙ q.1 2 (omega arith) ∙ h.stands.frame_at; words_are = g.words ∙ q.0.words ∙ h.stands.words_are };
                  region = h.region;
                  clear = omega (arith, h.clear, laid.same_frame cut_node k part);
                  units_are = units-more s h.heap h.words step x.steps x.world.cells h.units_are;
                  around = h.around.3;
                  node = subst IsNode (sym e) tt;
                };
                at = g.at;
                rank_is = refl;
                leaves = subst (λ os. Holds s.base h.heap h.words h.f os x.d) (sym ends.0) x.done.leaves;
                binds = record {
                  held = subst (λ ss. HoldsBinds s.base h.heap h.words h.f ss x.b) (sym arms.left_bound_out) x.done.binds.held;
                  table = record { ascends = x.done.binds.table.ascends; among = λ t y z. arms.left_binds t (x.done.binds.table.among t y z) };
                };
                fits = ends.1;
              };
              shown = g.output ∙ q.0.output ∙ x.shown;
              left = left-same {ys = g.end.input} (g.input ∙ q.0.input) x.left;
            };
            reached = reaches-quiet s.action s.input x.steps x.frames [] (Cut next) next x.world x.reached opening;
            paid = omega (arith, s.ample, q.0.few, g.few);
          }))
