-- A node that completes where its last part did: its frame's own step needs no instruction.
use Rattle.std.proofs.Common.{◌≡◌, ℕ, List, ◌∷◌, ◌++◌, length, refl, sym, ap, ◌∙◌, subst, arith, inl, inr, length-append}
use Rattle.rv_asm.specs.Assembly.{address_of}
use Rattle.rv_asm.specs.DataWords.{Heap}
use Rattle.rv_asm.proofs.Moments.{quiet-advance}
use Rattle.action_terms.specs.Information.{Binds, Data}
use Rattle.action_terms.specs.Actions.{node_at}
use Rattle.action_terms.specs.Acting.{Done, Ended}
use Rattle.action_terms.specs.Performances.{OneOf}
use Rattle.action_terms.specs.Steps.{Letter, open_steps}
use Rattle.action_terms.specs.Frames.{Frame, InTail, wrap, plugged}
use Rattle.action_terms.proofs.Parts.{quiet, reaches-quiet}
use Rattle.rv_codegen.proofs.Around.{JoinsData, Leaves, BindsLeft, TailFrame, Around}
use Rattle.rv_codegen.proofs.Configurations.{depth, performances}
use Rattle.rv_codegen.proofs.GivenItems.{holds-length}
use Rattle.rv_codegen.proofs.Holding.{Holds, HoldsBinds, holds-append}
use Rattle.rv_codegen.proofs.NodeParts.{IsPartOf, tail-part, part-node}
use Rattle.rv_codegen.proofs.RestPoints.{Laid, IsAt, Completing, completes, EndGoesOn}
use Rattle.rv_codegen.proofs.Settings.{Setting, code, exit}
use Rattle.rv_codegen.proofs.Units.{units-more}

-- the data of both parts, where the node leaves those of both
pub both-left : (s : Setting) (heap : Heap) (words : List ℕ) (f n l r : ℕ) (d1 d2 : Data) → JoinsData s n l r → Leaves s heap words f l d1 → Leaves s heap words f r d2 → length (d1 ++ d2) ≡ length (s.places.out n) → Leaves s heap words f n (d1 ++ d2)
both-left s heap words f n l r d1 d2 joins left right full =
    let first = holds-length s.base heap words f (s.places.out l) d1 left in
    let second = holds-length s.base heap words f (s.places.out r) d2 right in
    subst (λ os. Holds s.base heap words f os (d1 ++ d2)) (sym (joins (omega (arith, full, length-append d1 d2, first, second))))
    (holds-append s.base heap words f (s.places.out l) (s.places.out r) d1 d2 left right)

module _ (s : Setting) (laid : Laid s) where
  -- node n around the part that has completed
  pub record Completes (frame : Frame) (x : Completing s frame) (n : ℕ) (d : Data) (b : Binds) : Type 0 where
    pub part : IsPartOf (node_at s.action n) x.done.k
    pub exit_is : exit s x.done.k ≡ exit s n
    pub around : Around s x.done.here.heap x.done.here.words x.frames x.done.here.f n x.done.here.chains
    pub leaves : Leaves s x.done.here.heap x.done.here.words x.done.here.f n d
    pub binds : BindsLeft s x.done.here.heap x.done.here.words x.done.here.f n b
    pub fits : s.Ends n d b
    pub letters : List Letter
    pub step : OneOf (quiet letters (Ended (Done d b))) (open_steps s.action x.world (wrap frame (Ended (Done x.d x.b))))

  pub node-completes : (frame : Frame) (x : Completing s frame) (n : ℕ) (d : Data) (b : Binds) → Completes frame x n d b → EndGoesOn s frame x
  node-completes frame x n d b c =
      let h = x.done.here in
      let k = x.done.k in
      let next = Ended (Done d b) in
      let step = plugged x.frames (quiet c.letters next) in
      inl
      (quiet-advance s.base (code s) (performances s) depth (IsAt s) x.rank x.state (completes s frame x)
      (record {
        count = 0;
        to = x.state;
        next = record { steps = step ∷ x.steps; frames = x.frames; focus = next; world = x.world };
        next_rank = x.rank;
        some = inr (inr (refl, omega arith));
        runs = refl;
        quiet = refl;
        output = x.shown;
        related = record {
          rests = record {
            k = n;
            here = record {
              f = h.f;
              chains = h.chains;
              heap = h.heap;
              words = h.words;
              stands = h.stands;
              region = h.region;
              clear = omega (arith, h.clear, laid.same_frame n k c.part);
              units_are = units-more s h.heap h.words step x.steps x.world.cells h.units_are;
              around = c.around;
              node = part-node (node_at s.action n) k c.part;
            };
            at = x.done.at ∙ ap (λ z. address_of z.place) c.exit_is;
            rank_is = x.done.rank_is ∙ ap (λ z. z.rank) c.exit_is;
            leaves = c.leaves;
            binds = c.binds;
            fits = c.fits;
          };
          shown = x.shown;
          left = x.left;
        };
        reached = reaches-quiet s.action s.input x.steps x.frames c.letters (wrap frame (Ended (Done x.d x.b))) next x.world x.reached c.step;
        paid = omega (arith, s.ample);
      }))

  -- where the tail of a node has completed, the node has: the tree has no frame for it, and there is no step
  pub tail-done : (n : ℕ) (x : Completing s (InTail n)) → EndGoesOn s (InTail n) x
  tail-done n x =
      let h = x.done.here in
      let k = x.done.k in
      let tail : TailFrame s k n = h.around.0 in
      let part = tail-part (node_at s.action n) k tail.tail in
      let held = x.done.binds in
      let ends = tail.ends x.d x.b x.done.fits in
      inl
      (quiet-advance s.base (code s) (performances s) depth (IsAt s) x.rank x.state (completes s (InTail n) x)
      (record {
        count = 0;
        to = x.state;
        next = record { steps = x.steps; frames = x.frames; focus = Ended (Done x.d x.b); world = x.world };
        next_rank = x.rank;
        some = inr (inr (refl, omega arith));
        runs = refl;
        quiet = refl;
        output = x.shown;
        related = record {
          rests = record {
            k = n;
            here = record {
              f = h.f;
              chains = h.chains;
              heap = h.heap;
              words = h.words;
              stands = h.stands;
              region = h.region;
              clear = omega (arith, h.clear, laid.same_frame n k part);
              units_are = h.units_are;
              around = h.around.1;
              node = part-node (node_at s.action n) k part;
            };
            at = x.done.at ∙ ap (λ z. address_of z.place) tail.exit_is;
            rank_is = x.done.rank_is ∙ ap (λ z. z.rank) tail.exit_is;
            leaves = subst (λ os. Holds s.base h.heap h.words h.f os x.d) (sym ends.0) x.done.leaves;
            binds = record {
              held = subst (λ ss. HoldsBinds s.base h.heap h.words h.f ss x.b) (sym tail.ends_bound) held.held;
              table = record { ascends = held.table.ascends; among = λ t d e. tail.table t (held.table.among t d e) };
            };
            fits = ends.1;
          };
          shown = x.shown;
          left = x.left;
        };
        reached = x.reached;
        paid = omega arith;
      }))
