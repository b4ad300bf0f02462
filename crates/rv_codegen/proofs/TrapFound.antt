-- The innermost trap around an end, in whichever frame it stands.
use Rattle.std.proofs.Common.{◌≡◌, ◌⊎◌, ℕ, ◌+◌, ◌≤◌, List, [], ◌∷◌, ◌++◌, refl, sym, ap, ◌∙◌, arith, inl, inr}
use Rattle.rv_asm.specs.DataWords.{Heap}
use Rattle.action_terms.specs.Actions.{Furthermore, Both, Phases, Either, Trapping, node_at}
use Rattle.action_terms.specs.Acting.{Esc}
use Rattle.action_terms.specs.Frames.{Frame, InCalled, InParLeft, InParRight, InFirst, InSecond, InOr, InCut, InTrap, InOver, InTail}
use Rattle.action_terms.specs.Information.{Binds, Data}
use Rattle.action_terms.proofs.Parts.{EachPasses}
use Rattle.frame_layout.specs.Layouts.{IsIn, Deeper}
use Rattle.rv_prelude.specs.Region.{Chains, either_mark}
use Rattle.rv_codegen.proofs.AliasSettings.{part-listed}
use Rattle.rv_codegen.proofs.Around.{TrapFrame, Around}
use Rattle.rv_codegen.proofs.NodeParts.{IsPartOf, tail-part, part-at}
use Rattle.rv_codegen.proofs.RestPoints.{Laid}
use Rattle.rv_codegen.proofs.Settings.{Setting, frame_words}

-- the chains outside a trap that found `before`, where these are the ones within it
abbrev pub outside : (now before : Chains) → Chains
outside now before = record { alternative = now.alternative; trap = before.trap; mark = either_mark now.mark before.mark }

module _ (s : Setting) (heap : Heap) (words : List ℕ) (e : Data) where
  -- node k is performed within the left part of a trap in the same frame, or that trap stands in a frame before
  abbrev pub StandsWithin : (f l f0 k : ℕ) → Type 0
  StandsWithin f l f0 k = ((f ≡ f0) × IsIn s.action l k) ⊎ (f + frame_words s l ≤ f0)

  -- the innermost trap around node k0, in the frame that begins at word f0
  pub record FoundTrap (fs : List Frame) (c : Chains) (top f0 k0 : ℕ) : Type 0 where
    pub inner : List Frame
    pub outer : List Frame
    pub n : ℕ
    pub k : ℕ
    pub f : ℕ
    pub b : Binds
    pub split : fs ≡ inner ++ InTrap n b ∷ outer
    pub passes : EachPasses (Esc e) inner
    pub now : Chains
    pub before : Chains
    pub here : TrapFrame s heap words f k n now before b
    pub head : now.trap ≡ c.trap
    pub mark_is : now.mark ≡ c.mark
    pub around : Around s heap words outer f n (outside now before)
    pub below : f + frame_words s n ≤ top
    pub within : StandsWithin f k f0 k0

  module _ (laid : Laid s) (f0 k0 : ℕ) where
    abbrev pub Finds : List Frame → Chains → (top : ℕ) → Type 0
    Finds fs c top = FoundTrap fs c top f0 k0 ⊎ ((c.trap ≡ 0) × EachPasses (Esc e) fs)

    up : (x : Frame) (fs : List Frame) (c c' : Chains) (top top' : ℕ) → EachPasses (Esc e) (x ∷ []) → c.trap ≡ c'.trap → c.mark ≡ c'.mark → top ≤ top' → Finds fs c top → Finds (x ∷ fs) c' top'
    up x fs c c' top top' pass same_trap same_mark le (inl o) = inl (record { inner = x ∷ o.inner; outer = o.outer; n = o.n; k = o.k; f = o.f; b = o.b; split = ap (λ z. x ∷ z) o.split; passes = (pass.0, o.passes); now = o.now; before = o.before; here = o.here; head = o.head ∙ same_trap; mark_is = o.mark_is ∙ same_mark; around = o.around; below = omega (arith, o.below); within = o.within })
    up x fs c c' top top' pass same_trap same_mark le (inr g) = inr (sym same_trap ∙ g.0, (pass.0, g.1))

    same : (f n k : ℕ) → IsPartOf (node_at s.action n) k → f + frame_words s n ≤ f + frame_words s k
    same f n k part = let z = laid.same_frame n k part in omega arith

    -- the node around a part stands in the part's frame, and one that calls in a frame before
    out : (f n k : ℕ) → IsPartOf (node_at s.action n) k → StandsWithin f k f0 k0 → StandsWithin f n f0 k0
    out f n k part (inl h) = inl (h.0, Deeper (part-listed (node_at s.action n) k part) h.1)
    out f n k part (inr h) = inr (let z = laid.same_frame n k part in omega arith)

    out-called : (up f n k : ℕ) → f ≡ up + frame_words s n → StandsWithin f k f0 k0 → StandsWithin up n f0 k0
    out-called up f n k above (inl h) = inr (let z = h.0 in omega arith)
    out-called up f n k above (inr h) = inr (omega arith)

    pub found-trap : (fs : List Frame) (f k : ℕ) (c : Chains) → StandsWithin f k f0 k0 → Around s heap words fs f k c → Finds fs c (f + frame_words s k)
    found-trap [] f k c w h = inr (h.3, tt)
    found-trap (InParLeft n y ∷ fs) f k c w h = let part = part-at s.action n k (Both h.0.j k h.0.r) h.0.node (inl refl) in up (InParLeft n y) fs c c _ _ (tt, tt) refl refl (same f n k part) (found-trap fs f n c (out f n k part w) h.1)
    found-trap (InParRight n x ∷ fs) f k c w h = let part = part-at s.action n k (Both h.0.j h.0.l k) h.0.node (inr refl) in up (InParRight n x) fs c c _ _ (tt, tt) refl refl (same f n k part) (found-trap fs f n c (out f n k part w) h.1)
    found-trap (InFirst n d b ∷ fs) f k c w h = let part = part-at s.action n k (Phases h.0.q k h.0.r) h.0.node (inl refl) in up (InFirst n d b) fs c c _ _ (tt, tt) refl refl (same f n k part) (found-trap fs f n c (out f n k part w) h.1)
    found-trap (InSecond n d b ∷ fs) f k c w h = let part = part-at s.action n k (Phases h.0.q h.0.l k) h.0.node (inr refl) in up (InSecond n d b) fs c c _ _ (tt, tt) refl refl (same f n k part) (found-trap fs f n c (out f n k part w) h.1)
    found-trap (InOr k2 d b ∷ fs) f k c w h = let part = part-at s.action h.0 k (Either k k2) h.2.node (inl refl) in up (InOr k2 d b) fs h.1 c _ _ (tt, tt) (sym (ap (λ z. z.trap) h.2.same)) (sym (ap (λ z. z.mark) h.2.same)) (same f h.0 k part) (found-trap fs f h.0 h.1 (out f h.0 k part w) h.3)
    found-trap (InCut ∷ fs) f k c w h = let part = part-at s.action h.0 k (Either k h.1.r) h.1.node (inl refl) in up InCut fs c c _ _ (tt, tt) refl refl (same f h.0 k part) (found-trap fs f h.0 c (out f h.0 k part w) h.3)
    found-trap (InTrap n b ∷ fs) f k c w h =
        inl (record { inner = []; outer = fs; n = n; k = k; f = f; b = b; split = refl; passes = tt; now = c; before = h.0; here = h.1; head = refl; mark_is = refl; around = h.2; below = same f n k (part-at s.action n k (Trapping k h.1.r) h.1.node (inl refl)); within = w })
    found-trap (InTail n ∷ fs) f k c w h = let part = tail-part (node_at s.action n) k h.0.tail in up (InTail n) fs c c _ _ (tt, tt) refl refl (same f n k part) (found-trap fs f n c (out f n k part w) h.1)
    found-trap (InCalled c' ∷ fs) f k c w h = up (InCalled c') fs c c (h.1 + frame_words s h.0) _ (tt, tt) refl refl (omega (arith, h.2.above)) (found-trap fs h.1 h.0 c (out-called h.1 f h.0 k h.2.above w) h.3)
    found-trap (InOver b ∷ fs) f k c w h = let part = part-at s.action h.0 k (Furthermore k) h.1.node refl in up (InOver b) fs c c _ _ (tt, tt) refl refl (same f h.0 k part) (found-trap fs f h.0 c (out f h.0 k part w) h.2)
