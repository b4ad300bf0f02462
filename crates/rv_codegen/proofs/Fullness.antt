-- Words for what is called: where no frame for a body fits any more, the part passes the capacity one step on, and the run
-- ends as full.
use Rattle.std.proofs.Common.{◌≡◌, ◌⊎◌, ℕ, ◌+◌, ◌<◌, ◌≤◌, false, List, [], ◌∷◌, refl, ap, ◌∙◌, arith, inl, inr, ⊎_elim}
use Rattle.rv_asm.specs.Assembly.{address_of}
use Rattle.rv_asm.specs.DataWords.{Heap}
use Rattle.rv_asm.specs.Pieces.{exit_with}
use Rattle.rv_asm.specs.WordMachine.{Has}
use Rattle.action_terms.specs.Information.{Binds, Data, World}
use Rattle.action_terms.specs.Actions.{Furthermore, Both, Phases, Either, Trapping, Unfolding, Unfold, node_at}
use Rattle.action_terms.specs.Acting.{Tree, Run, Called}
use Rattle.action_terms.specs.Frames.{Frame, InCalled, InParLeft, InParRight, InFirst, InSecond, InOr, InCut, InTrap, InOver, InTail, wrap, plug, plugged, shut_all}
use Rattle.action_terms.specs.Need.{Sizes, called_slots, Passes}
use Rattle.action_terms.specs.Performances.{OneOf, Here}
use Rattle.action_terms.specs.Steps.{Step, silent, commits, open_steps}
use Rattle.action_terms.proofs.Contexts.{shut_all-false, open-plug}
use Rattle.rv_prelude.specs.Region.{Chains}
use Rattle.rv_codegen.proofs.Around.{Around}
use Rattle.rv_codegen.proofs.NodeParts.{tail-part, part-at}
use Rattle.rv_codegen.proofs.Performing.{Filled, filled-stops}
use Rattle.rv_codegen.proofs.RestPoints.{Laid, Starting, StartGoesOn, open-run}
use Rattle.rv_codegen.proofs.Settings.{Setting, code, frame_words}

-- ---- what is called in the whole is what is called in the part and around it

-- the slots of what is called around a part
abbrev pub slots_around : Sizes → List Frame → ℕ
slots_around m [] = 0
slots_around m (InCalled c ∷ fs) = m.slots c + slots_around m fs
slots_around m (InParLeft n y ∷ fs) = called_slots m y + slots_around m fs
slots_around m (InParRight n x ∷ fs) = called_slots m x + slots_around m fs
slots_around m (f ∷ fs) = slots_around m fs

pub called-plug : (m : Sizes) (fs : List Frame) (x : Tree) → called_slots m (plug fs x) ≡ called_slots m x + slots_around m fs
called-plug m [] x = omega arith
called-plug m (InCalled c ∷ fs) x = called-plug m fs (wrap (InCalled c) x) ∙ omega arith
called-plug m (InParLeft n y ∷ fs) x = called-plug m fs (wrap (InParLeft n y) x) ∙ omega arith
called-plug m (InParRight n y ∷ fs) x = called-plug m fs (wrap (InParRight n y) x) ∙ omega arith
called-plug m (f ∷ fs) x = called-plug m fs (wrap f x)

module _ (s : Setting) (laid : Laid s) where
  -- ---- how deep a frame lies

  module _ (heap : Heap) (words : List ℕ) where
    -- the frame of a node ends within the words that are needed
    pub frame-within : (fs : List Frame) (f k : ℕ) (c : Chains) → Around s heap words fs f k c → f + frame_words s k ≤ 512 + (s.sizes.main_slots + slots_around s.sizes fs)
    frame-within [] f k c h = omega (arith, laid.main_within, ap (frame_words s) h.0, h.1)
    frame-within (InParLeft n y ∷ fs) f k c h = omega (arith, frame-within fs f n c h.1, laid.same_frame n k (part-at s.action n k (Both h.0.j k h.0.r) h.0.node (inl refl)))
    frame-within (InParRight n y ∷ fs) f k c h = omega (arith, frame-within fs f n c h.1, laid.same_frame n k (part-at s.action n k (Both h.0.j h.0.l k) h.0.node (inr refl)))
    frame-within (InFirst n d b ∷ fs) f k c h = omega (arith, frame-within fs f n c h.1, laid.same_frame n k (part-at s.action n k (Phases h.0.q k h.0.r) h.0.node (inl refl)))
    frame-within (InSecond n d b ∷ fs) f k c h = omega (arith, frame-within fs f n c h.1, laid.same_frame n k (part-at s.action n k (Phases h.0.q h.0.l k) h.0.node (inr refl)))
    frame-within (InOr k2 d b ∷ fs) f k c h = omega (arith, frame-within fs f h.0 h.1 h.3, laid.same_frame h.0 k (part-at s.action h.0 k (Either k k2) h.2.node (inl refl)))
    frame-within (InCut ∷ fs) f k c h = omega (arith, frame-within fs f h.0 c h.3, laid.same_frame h.0 k (part-at s.action h.0 k (Either k h.1.r) h.1.node (inl refl)))
    frame-within (InTrap n b ∷ fs) f k c h = omega (arith, frame-within fs f n _ h.2, laid.same_frame n k (part-at s.action n k (Trapping k h.1.r) h.1.node (inl refl)))
    frame-within (InTail n ∷ fs) f k c h = omega (arith, frame-within fs f n c h.1, laid.same_frame n k (tail-part (node_at s.action n) k h.0.tail))
    frame-within (InCalled c' ∷ fs) f k c h = omega (arith, frame-within fs h.1 h.0 c h.3, h.2.above, ap (frame_words s) h.2.body, laid.body_within h.0 c' h.2.may)
    frame-within (InOver b ∷ fs) f k c h = omega (arith, frame-within fs f h.0 c h.2, laid.same_frame h.0 k (part-at s.action h.0 k (Furthermore k) h.1.node refl))

    -- no frame for the body fits behind the node's: one step on, more words are needed than there are. The step may make
    -- closures, and the body may be given other data and bindings than the node
    pub call-passes : (steps : List Step) (fs : List Frame) (f k c : ℕ) (chains : Chains) (d : Data) (b : Binds) (w : World) (n : Step) (e : Data) (u : Binds) → OneOf n (open_steps s.action w (Run k d b)) → n.tree ≡ Called c (Run c e u) → commits n.effect ≡ false → s.procedures.calls k c → Around s heap words fs f k chains → 512 + s.stack < f + frame_words s k + frame_words s c → Passes s.action s.sizes s.stack s.room steps (record { tree = plug fs (Run k d b); world = w })
    call-passes steps fs f k c chains d b w n e u o tree quiet calls around over =
        let body = Called c (Run c e u) in
        let same : called_slots s.sizes (plugged fs n).tree ≡ called_slots s.sizes (plug fs body) =
        ap (λ q. called_slots s.sizes (plug (shut_all q fs) n.tree)) quiet ∙ ap (λ t. called_slots s.sizes (plug (shut_all false fs) t)) tree ∙ ap (λ gs. called_slots s.sizes (plug gs body)) (shut_all-false fs) in
        inr (plugged fs n, open-plug s.action w fs (Run k d b) n o, inl (omega (arith, frame-within fs f k chains around, laid.body_within k c calls, called-plug s.sizes fs body, same, over)))

  -- the step of a node that calls a body by its number
  pub open-call : (k c : ℕ) (d : Data) (b : Binds) (w : World) → (node_at s.action k ≡ Unfolding c) ⊎ (node_at s.action k ≡ Unfold c) → OneOf (silent (Called c (Run c d b))) (open_steps s.action w (Run k d b))
  open-call k c d b w calls = ⊎_elim
      (λ e. open-run s k d b w (Unfolding c) (silent (Called c (Run c d b))) e Here)
      (λ e. open-run s k d b w (Unfold c) (silent (Called c (Run c d b))) e Here)
      calls

  -- the code of the node has found no room for a frame of the body: the run ends as full
  pub call-full : (x : Starting s) (full : ℕ) → Has (code s) (address_of full) (exit_with 3) → (n : Step) (c : ℕ) (e : Data) (u : Binds) → OneOf n (open_steps s.action x.world (Run x.k x.d x.b)) → n.tree ≡ Called c (Run c e u) → commits n.effect ≡ false → s.procedures.calls x.k c → 512 + s.stack < x.runs.here.f + frame_words s x.k + frame_words s c → Filled s laid x full → StartGoesOn s x
  call-full x full exits n c e u o tree quiet calls over filled =
      let h = x.runs.here in
      filled-stops s laid x full exits (call-passes h.heap h.words x.steps x.frames h.f x.k c h.chains x.d x.b x.world n e u o tree quiet calls h.around over) filled
