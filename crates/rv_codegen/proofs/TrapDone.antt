-- The first part of a trap has completed: its record is closed, and a commitment within it is one outside.
use Rattle.std.proofs.Common.{◌≡◌, ℕ, ◌+◌, ◌≤◌, List, [], ◌∷◌, get_or, set, length, refl, sym, ap, ap₂, ◌∙◌, subst, arith, length-set, get_or-set_same, get_or-set_other, inl, ⊎_elim}
use Rattle.rv_asm.specs.Assembly.{address_of}
use Rattle.rv_asm.proofs.Moments.{quiet-advance}
use Rattle.rv_asm.proofs.Stretches.{then-runs}
use Rattle.action_terms.specs.Actions.{Trapping, node_at}
use Rattle.action_terms.specs.Acting.{Done, Ended, Trap}
use Rattle.action_terms.specs.Frames.{InTrap, plugged}
use Rattle.action_terms.specs.Information.{Binds}
use Rattle.action_terms.specs.Performances.{OneOf, Here}
use Rattle.action_terms.specs.Steps.{silent, open_steps}
use Rattle.action_terms.proofs.Parts.{reaches-quiet}
use Rattle.rv_prelude.specs.PieceRuns.{HasPlace}
use Rattle.rv_prelude.specs.Region.{Chains, either_mark, without_trap}
use Rattle.rv_codegen.proofs.ArmsDone.{none-apart, none-apart_slots}
use Rattle.rv_codegen.proofs.Around.{TrapFrame}
use Rattle.rv_codegen.proofs.AroundKept.{Agrees, around-kept, frames-high}
use Rattle.rv_codegen.proofs.Configurations.{depth, performances}
use Rattle.rv_codegen.proofs.Holding.{Holds, HoldsBinds, grows-same, holds-kept, holds-kept_binds}
use Rattle.rv_codegen.proofs.InputLeft.{left-same}
use Rattle.rv_codegen.proofs.NodeParts.{IsPartOf, IsNode, KeepsRecord, part-at}
use Rattle.rv_codegen.proofs.RestPoints.{Laid, Region, IsAt, Completing, completes, EndGoesOn, near}
use Rattle.rv_codegen.proofs.Settings.{way-runs, Setting, code, exit, stop}
use Rattle.rv_codegen.proofs.Trapping.{LaidTraps}
use Rattle.rv_codegen.proofs.Units.{units-kept}

module _ (s : Setting) (all : LaidTraps s) (n : ℕ) (b0 : Binds) (x : Completing s (InTrap n b0)) where
  laid : Laid s
  laid = all.records.laid

  abbrev before : Chains
  before = x.done.here.around.0

  abbrev frame : TrapFrame s x.done.here.heap x.done.here.words x.done.here.f x.done.k n x.done.here.chains before b0
  frame = x.done.here.around.1

  abbrev outside : Chains
  outside = record { alternative = x.done.here.chains.alternative; trap = before.trap; mark = either_mark x.done.here.chains.mark before.mark }

  abbrev record_word : ℕ
  record_word = x.done.here.f + s.places.keep n

  -- the words with the head of the chain from before, and with both marks
  abbrev headed : List ℕ
  headed = set x.done.here.words 2 (get_or x.done.here.words (record_word + 2) 0)

  abbrev mark : ℕ
  mark = either_mark (get_or x.done.here.words 3 0) (get_or x.done.here.words (record_word + 3) 0)

  abbrev closed_words : List ℕ
  closed_words = without_trap record_word x.done.here.words

  high : 512 ≤ x.done.here.f
  high = frames-high s x.done.here.heap x.done.here.words x.frames x.done.here.f n outside x.done.here.around.2

  part : IsPartOf (node_at s.action n) x.done.k
  part = part-at s.action n x.done.k (Trapping x.done.k frame.r) frame.node (inl refl)

  at-place : HasPlace s.base x.done.here.f (s.places.keep n) x.state
  at-place =
      let size : length x.state.words ≡ s.count = ap length x.done.here.stands.words_are ∙ x.done.here.region.size in
      let inside : record_word + 8 ≤ s.count = omega (arith, all.records.keep_below n (subst KeepsRecord (sym frame.node) tt), x.done.here.clear, laid.same_frame n x.done.k part, laid.units_inside) in
      record {
        region = record { aligned = laid.aligned; below = omega (arith, laid.below, size); front = omega (arith, laid.some, size); region = x.done.here.stands.region };
        frame = x.done.here.stands.frame_at;
        behind_front = omega (arith, high);
        inside = omega (arith, inside, size);
      }

  others : (j : ℕ) → 4 ≤ j → get_or closed_words j 0 ≡ get_or x.done.here.words j 0
  others j far = get_or-set_other headed 3 j mark 0 (omega arith) ∙ get_or-set_other x.done.here.words 2 j (get_or x.done.here.words (record_word + 2) 0) 0 (omega arith)

  agrees : Agrees s laid.placed x.done.here.heap x.done.here.heap (grows-same x.done.here.heap) x.done.here.words closed_words x.done.here.f n
  agrees = record {
    here = λ i no. others (x.done.here.f + i) (omega (arith, high));
    below = λ j lo lt. others j (omega arith);
  }

  closed_region : Region s closed_words outside
  closed_region =
      let ws = x.done.here.words in
      let many = x.done.here.region.size in
      let v = get_or ws (record_word + 2) 0 in
      let sized = length-set ws 2 v in
      let two : record_word + 2 ≡ x.done.here.f + (s.places.keep n + 2) = omega arith in
      let three : record_word + 3 ≡ x.done.here.f + (s.places.keep n + 3) = omega arith in
      record {
        size = length-set headed 3 mark ∙ sized ∙ many;
        alternative = get_or-set_other headed 3 1 mark 0 (omega arith) ∙ get_or-set_other ws 2 1 v 0 (omega arith) ∙ x.done.here.region.alternative;
        trap = get_or-set_other headed 3 2 mark 0 (omega arith) ∙ get_or-set_same ws 2 v 0 (omega (arith, many, laid.some)) ∙ ap (λ i. get_or ws i 0) two ∙ frame.kept.trap;
        mark = get_or-set_same headed 3 mark 0 (omega (arith, sized, many, laid.some)) ∙ ap₂ either_mark x.done.here.region.mark (ap (λ i. get_or ws i 0) three ∙ frame.kept.mark);
      }

  pub trap-done : EndGoesOn s (InTrap n b0) x
  trap-done =
      let h = x.done.here in
      let k = x.done.k in
      let o = all.codes n k frame.r frame.node in
      let parts = all.traps n k frame.r frame.node in
      let at_stop : x.state.pc ≡ address_of (stop s n).place = x.done.at ∙ ap (λ z. address_of z.place) o.first_exit in
      let q = o.closes_record h.f x.state at_stop at-place in
      let c = q.0.end in
      let g = way-runs s.base (code s) c o.closed (exit s n) o.near_closed (near s laid (get_or s.exits n 0)) q.0.at o.leave in
      let around' = around-kept s laid.placed h.heap h.heap (grows-same h.heap) h.words closed_words x.frames h.f n outside agrees h.around.2 in
      let same = λ (i : ℕ) (no : ⊥ → ⊥). others (h.f + i) (omega (arith, high)) in
      let leaves' = holds-kept s.base h.heap h.heap (grows-same h.heap) h.words closed_words h.f (λ i. ⊥) same (s.places.out k) x.d (none-apart (s.places.out k)) x.done.leaves in
      let binds' = holds-kept_binds s.base h.heap h.heap (grows-same h.heap) h.words closed_words h.f (λ i. ⊥) same (s.places.bound_out k) x.b (none-apart_slots (s.places.bound_out k)) x.done.binds.held in
      let next = Ended (Done x.d x.b) in
      let step = plugged x.frames (silent next) in
      let opening : OneOf (silent next) (open_steps s.action x.world (Trap n next b0)) = Here in
      let node : IsNode (node_at s.action n) = subst IsNode (sym frame.node) tt in
      let ends = parts.left_out x.d x.b x.done.fits in
      inl
      (quiet-advance s.base (code s) (performances s) depth (IsAt s) x.rank x.state (completes s (InTrap n b0) x)
      (record {
        count = q.0.instructions + g.count;
        to = g.end;
        next = record { steps = step ∷ x.steps; frames = x.frames; focus = next; world = x.world };
        next_rank = (exit s n).rank;
        some = inl (omega (arith, q.0.some));
        runs = then-runs s.base (code s) q.0.instructions g.count x.state c g.end q.0.leads.words g.runs;
        quiet = g.output ∙ q.0.output;
        output = g.output ∙ q.0.output ∙ x.shown;
        related = record {
          rests = record {
            k = n;
            here = record {
              f = h.f;
              chains = outside;
              heap = h.heap;
              words = closed_words;
              stands = record { region = g.others 3 (omega arith) ∙ q.1 3 (omega arith) ∙ h.stands.region; frame_at = g.others 2 (omega arith) ∙ q.1 2 (omega arith) ∙ h.stands.frame_at; words_are = g.words ∙ q.0.words ∙ ap (without_trap record_word) h.stands.words_are };
              region = closed_region;
              clear = omega (arith, h.clear, laid.same_frame n k part);
              units_are = units-kept s h.heap h.words closed_words x.steps (step ∷ x.steps) x.world.cells (λ j out. others j (⊎_elim (λ z. z.0) (λ z. omega arith) out)) (omega arith) h.units_are;
              around = around';
              node = node;
            };
            at = g.at;
            rank_is = refl;
            leaves = subst (λ os. Holds s.base h.heap closed_words h.f os x.d) (sym ends.0) leaves';
            binds = record {
              held = subst (λ ss. HoldsBinds s.base h.heap closed_words h.f ss x.b) (sym parts.left_bound_out) binds';
              table = record { ascends = x.done.binds.table.ascends; among = λ t y z. parts.left_binds t (x.done.binds.table.among t y z) };
            };
            fits = ends.1;
          };
          shown = g.output ∙ q.0.output ∙ x.shown;
          left = left-same {ys = g.end.input} (g.input ∙ q.0.input) x.left;
        };
        reached = reaches-quiet s.action s.input x.steps x.frames [] (Trap n next b0) next x.world x.reached opening;
        paid = omega (arith, s.ample, q.0.few, g.few);
      }))
