-- What stands around a node stays: through a commitment, and while words are written that the node may write.
use Rattle.std.proofs.Common.{◌≡◌, ⊎_elim, ℕ, ◌+◌, ◌<◌, ◌≤◌, true, List, [], ◌∷◌, get_or, refl, sym, ap, ◌∙◌, subst, arith, inl, inr}
use Rattle.std.proofs.lemmas.Bool.{cases_lt}
use Rattle.rv_asm.specs.DataWords.{Heap}
use Rattle.action_terms.specs.Information.{Binds, Data}
use Rattle.action_terms.specs.Actions.{Node, Furthermore, Both, Phases, Either, Trapping, node_at}
use Rattle.action_terms.specs.Acting.{Done, Tree, Run, Ended}
use Rattle.action_terms.specs.Frames.{Frame, InCalled, InParLeft, InParRight, InFirst, InSecond, InOr, InCut, InTrap, InOver, InTail, shut_all}
use Rattle.rv_prelude.specs.Region.{Chains}
use Rattle.rv_codegen.proofs.Around.{committed, IsPlaced, IsOther, Given, Receives, Leaves, BindsLeft, Kept, Around}
use Rattle.rv_codegen.proofs.Holding.{word_at, Apart, ApartSlots, apart-fewer, apart-fewer_slots, Grows, holds-kept, holds-kept_binds}
use Rattle.rv_codegen.proofs.NodeParts.{IsPartOf, KeepsRecord, tail-part, part-at}
use Rattle.rv_codegen.proofs.Settings.{Point, Setting, joint, front, frame_words}

module _ (s : Setting) where
  -- ---- a commitment closes all alternatives

  pub around-shut : (heap : Heap) (words : List ℕ) (fs : List Frame) (f k : ℕ) (c : Chains) → Around s heap words fs f k c → Around s heap words (shut_all true fs) f k (committed c)
  around-shut heap words [] f k c h = (h.0, h.1, refl, h.3)
  around-shut heap words (InParLeft n y ∷ fs) f k c h = (h.0, around-shut heap words fs f n c h.1)
  around-shut heap words (InParRight n x ∷ fs) f k c h = (h.0, around-shut heap words fs f n c h.1)
  around-shut heap words (InFirst n d b ∷ fs) f k c h = (h.0, around-shut heap words fs f n c h.1)
  around-shut heap words (InSecond n d b ∷ fs) f k c h = (h.0, around-shut heap words fs f n c h.1)
  around-shut heap words (InOr k2 d b ∷ fs) f k c h =
      let rest = around-shut heap words fs f h.0 h.1 h.3 in
      let same : committed h.1 ≡ committed c = ap committed (sym h.2.same) in
      (h.0, record { r = k2; node = h.2.node }, refl, subst (Around s heap words (shut_all true fs) f h.0) same rest)
  around-shut heap words (InCut ∷ fs) f k c h = (h.0, h.1, refl, around-shut heap words fs f h.0 c h.3)
  around-shut heap words (InTrap n b ∷ fs) f k c h =
      let x = h.1 in
      (h.0, record { r = x.r; node = x.node; receives = x.receives; at = x.at; kept = x.kept; chain = refl }, around-shut heap words fs f n _ h.2)
  around-shut heap words (InTail n ∷ fs) f k c h = (h.0, around-shut heap words fs f n c h.1)
  around-shut heap words (InCalled c' ∷ fs) f k c h = (h.0, h.1, h.2, around-shut heap words fs h.1 h.0 c h.3)
  around-shut heap words (InOver b ∷ fs) f k c h = (h.0, h.1, around-shut heap words fs f h.0 c h.2)

  -- every frame lies behind the front of the region
  pub frames-high : (heap : Heap) (words : List ℕ) (fs : List Frame) (f k : ℕ) (c : Chains) → Around s heap words fs f k c → 512 ≤ f
  frames-high heap words [] f k c h = let e = h.1 in omega arith
  frames-high heap words (InParLeft n y ∷ fs) f k c h = frames-high heap words fs f n c h.1
  frames-high heap words (InParRight n x ∷ fs) f k c h = frames-high heap words fs f n c h.1
  frames-high heap words (InFirst n d b ∷ fs) f k c h = frames-high heap words fs f n c h.1
  frames-high heap words (InSecond n d b ∷ fs) f k c h = frames-high heap words fs f n c h.1
  frames-high heap words (InOr k2 d b ∷ fs) f k c h = frames-high heap words fs f h.0 h.1 h.3
  frames-high heap words (InCut ∷ fs) f k c h = frames-high heap words fs f h.0 c h.3
  frames-high heap words (InTrap n b ∷ fs) f k c h = frames-high heap words fs f n _ h.2
  frames-high heap words (InTail n ∷ fs) f k c h = frames-high heap words fs f n c h.1
  frames-high heap words (InCalled c' ∷ fs) f k c h = let u = frames-high heap words fs h.1 h.0 c h.3 in omega (arith, u, h.2.above)
  frames-high heap words (InOver b ∷ fs) f k c h = frames-high heap words fs f h.0 c h.2

  -- ---- words that may be written while a node is performed, and more blocks, change nothing around it

  module _ (placed : IsPlaced s) (heap heap' : Heap) (grows : Grows heap heap') (words words' : List ℕ) where
    -- words of the frame that node k may not write, and words of the frames below, are as before
    pub record Agrees (f k : ℕ) : Type 0 where
      pub here : (x : ℕ) → (s.places.Writes k x → ⊥) → word_at words' f x ≡ word_at words f x
      pub below : (j : ℕ) → 512 ≤ j → j < f → get_or words' j 0 ≡ get_or words j 0

    agrees-out : (f n k : ℕ) → IsPartOf (node_at s.action n) k → Agrees f k → Agrees f n
    agrees-out f n k part h = record { here = λ x no. h.here x (λ w. no (placed.inside n k x part w)); below = h.below }

    agrees-up : (f up n k : ℕ) → 512 ≤ up → f ≡ up + frame_words s n → Agrees f k → Agrees up n
    agrees-up f up n k high above h = record {
      here = λ x no. ⊎_elim (λ lt. h.below (up + x) (omega arith) (omega (arith, above, lt))) (λ ge. absurd (no (placed.beyond n x ge))) (cases_lt x (frame_words s n));
      below = λ j low lt. h.below j low (omega (arith, above));
    }

    given-kept : (f n k : ℕ) (d : Data) → IsPartOf (node_at s.action n) k → Agrees f k → Given s heap words f n d → Given s heap' words' f n d
    given-kept f n k d part h g = holds-kept s.base heap heap' grows words words' f (s.places.Writes k) h.here (s.places.given n) d (apart-fewer _ _ (s.places.given n) (λ x w. placed.inside n k x part w) (placed.given_apart n)) g

    receives-kept : (f n k : ℕ) (b : Binds) → IsPartOf (node_at s.action n) k → Agrees f k → Receives s heap words f n b → Receives s heap' words' f n b
    receives-kept f n k b part h g = holds-kept_binds s.base heap heap' grows words words' f (s.places.Writes k) h.here (s.places.bound n) b (apart-fewer_slots _ _ (s.places.bound n) (λ x w. placed.inside n k x part w) (placed.bound_apart n)) g

    leaves-kept : (f o k : ℕ) (d : Data) → Apart (s.places.Writes k) (s.places.out o) → Agrees f k → Leaves s heap words f o d → Leaves s heap' words' f o d
    leaves-kept f o k d apart h g = holds-kept s.base heap heap' grows words words' f (s.places.Writes k) h.here (s.places.out o) d apart g

    binds-kept : (f o k : ℕ) (b : Binds) → ApartSlots (s.places.Writes k) (s.places.bound_out o) → Agrees f k → BindsLeft s heap words f o b → BindsLeft s heap' words' f o b
    binds-kept f o k b apart h g = record { held = holds-kept_binds s.base heap heap' grows words words' f (s.places.Writes k) h.here (s.places.bound_out o) b apart g.held; table = g.table }

    keeps-record : (n : ℕ) (m : Node) → node_at s.action n ≡ m → KeepsRecord m → KeepsRecord (node_at s.action n)
    keeps-record n m e h = subst KeepsRecord (sym e) h

    record-kept : (f n k : ℕ) (before : Chains) (arm : Point) → KeepsRecord (node_at s.action n) → IsPartOf (node_at s.action n) k → Agrees f k → Kept s words n f before arm → Kept s words' n f before arm
    record-kept f n k before arm keeps part h g =
        let first : s.places.keep n + 0 ≡ s.places.keep n = omega arith in
        record {
          alternative = subst (λ x. word_at words' f x ≡ word_at words f x) first (h.here (s.places.keep n + 0) (placed.keep_apart n k 0 keeps part (omega arith))) ∙ g.alternative;
          arm_at = h.here (s.places.keep n + 1) (placed.keep_apart n k 1 keeps part (omega arith)) ∙ g.arm_at;
          trap = h.here (s.places.keep n + 2) (placed.keep_apart n k 2 keeps part (omega arith)) ∙ g.trap;
          mark = h.here (s.places.keep n + 3) (placed.keep_apart n k 3 keeps part (omega arith)) ∙ g.mark;
          frame = h.here (s.places.keep n + 4) (placed.keep_apart n k 4 keeps part (omega arith)) ∙ g.frame;
        }

    other-kept : (f n k other : ℕ) (y : Tree) → IsPartOf (node_at s.action n) k → Agrees f k → IsOther s heap words f n k other y → IsOther s heap' words' f n k other y
    other-kept f n k other (Run o d b) part h g = (g.0, g.1, given-kept f n k d part h g.2, receives-kept f n k b part h g.3)
    other-kept f n k other (Ended (Done d b)) part h g = (g.0, leaves-kept f other k d g.0.stays h g.1, binds-kept f other k b g.0.stays_bound h g.2)
    other-kept f n k other _ part h g = absurd g

    pub around-kept : (fs : List Frame) (f k : ℕ) (c : Chains) → Agrees f k → Around s heap words fs f k c → Around s heap' words' fs f k c
    around-kept [] f k c g h = h
    around-kept (InParLeft n y ∷ fs) f k c g h =
        let x = h.0 in
        let part = part-at s.action n k (Both x.j k x.r) x.node (inl refl) in
        (record { j = x.j; r = x.r; node = x.node; other = other-kept f n k x.r y part g x.other }, around-kept fs f n c (agrees-out f n k part g) h.1)
    around-kept (InParRight n y ∷ fs) f k c g h =
        let x = h.0 in
        let part = part-at s.action n k (Both x.j x.l k) x.node (inr refl) in
        (record { j = x.j; l = x.l; node = x.node; other = other-kept f n k x.l y part g x.other }, around-kept fs f n c (agrees-out f n k part g) h.1)
    around-kept (InFirst n d b ∷ fs) f k c g h =
        let x = h.0 in
        let part = part-at s.action n k (Phases x.q k x.r) x.node (inl refl) in
        (record { q = x.q; r = x.r; node = x.node; given = given-kept f n k d part g x.given; receives = receives-kept f n k b part g x.receives }, around-kept fs f n c (agrees-out f n k part g) h.1)
    around-kept (InSecond n d b ∷ fs) f k c g h =
        let x = h.0 in
        let part = part-at s.action n k (Phases x.q x.l k) x.node (inr refl) in
        (record { q = x.q; l = x.l; node = x.node; order = x.order; result = leaves-kept f x.l k d x.order.stays g x.result; binds = binds-kept f x.l k b x.order.stays_bound g x.binds }, around-kept fs f n c (agrees-out f n k part g) h.1)
    around-kept (InOr k2 d b ∷ fs) f k c g h =
        let x = h.2 in
        let n = h.0 in
        let part = part-at s.action n k (Either k k2) x.node (inl refl) in
        (n, h.1, record { node = x.node; given = given-kept f n k d part g x.given; receives = receives-kept f n k b part g x.receives; at = x.at; same = x.same; kept = record-kept f n k h.1 (front s k2) (keeps-record n (Either k k2) x.node tt) part g x.kept }, around-kept fs f n h.1 (agrees-out f n k part g) h.3)
    around-kept (InCut ∷ fs) f k c g h =
        let part = part-at s.action h.0 k (Either k h.1.r) h.1.node (inl refl) in
        (h.0, h.1, h.2, around-kept fs f h.0 c (agrees-out f h.0 k part g) h.3)
    around-kept (InTrap n b ∷ fs) f k c g h =
        let x = h.1 in
        let part = part-at s.action n k (Trapping k x.r) x.node (inl refl) in
        (h.0, record { r = x.r; node = x.node; receives = receives-kept f n k b part g x.receives; at = x.at; kept = record-kept f n k h.0 (joint s n) (keeps-record n (Trapping k x.r) x.node tt) part g x.kept; chain = x.chain }, around-kept fs f n _ (agrees-out f n k part g) h.2)
    around-kept (InTail n ∷ fs) f k c g h =
        (h.0, around-kept fs f n c (agrees-out f n k (tail-part (node_at s.action n) k h.0.tail) g) h.1)
    around-kept (InCalled c' ∷ fs) f k c g h =
        let x = h.2 in
        let some = subst (λ q. 32 ≤ frame_words s q) (sym x.body) (placed.some_frame h.0 c' x.may) in
        let head = λ (i : ℕ) (lt : i < 32). g.here i (λ w. let z = placed.low k i w (omega (arith, some)) in omega arith) in
        let high = frames-high heap words fs h.1 h.0 c h.3 in
        (h.0, h.1, record { node = x.node; may = x.may; body = x.body; returns = head 0 (omega arith) ∙ x.returns; caller = head 1 (omega arith) ∙ x.caller; above = x.above; ends = x.ends }, around-kept fs h.1 h.0 c (agrees-up f h.1 h.0 k high x.above g) h.3)
    around-kept (InOver b ∷ fs) f k c g h =
        let x = h.1 in
        let n = h.0 in
        let part = part-at s.action n k (Furthermore k) x.node refl in
        (n, record { node = x.node; receives = receives-kept f n k b part g x.receives; table = x.table }, around-kept fs f n c (agrees-out f n k part g) h.2)
