-- A failure goes to the innermost open alternative, in whichever frame it stands, or ends the run.
use Rattle.std.proofs.Common.{◌≡◌, ◌⊎◌, ℕ, ◌+◌, ◌<◌, ◌≤◌, List, [], ◌∷◌, ◌++◌, get_or, set, length, refl, sym, ap, ◌∙◌, subst, arith, length-set, get_or-set_same, get_or-set_other, inl, inr, ⊎_elim, append-nil}
use Rattle.std.proofs.Math.Nat.{mul-le-mul_left}
use Rattle.rv_asm.specs.Assembly.{address_of}
use Rattle.rv_asm.specs.DataWords.{Heap}
use Rattle.rv_asm.specs.Pieces.{exit_with}
use Rattle.rv_asm.specs.WordMachine.{WordState, Has}
use Rattle.rv_asm.proofs.Calls.{before_exit, before_exit-runs, exit-stops}
use Rattle.rv_asm.proofs.Moments.{quiet-advance, quiet-stop}
use Rattle.rv_asm.proofs.Stretches.{then-runs}
use Rattle.action_terms.specs.Actions.{Furthermore, Both, Phases, Either, Trapping, node_at}
use Rattle.action_terms.specs.Acting.{Fail, Run, Or}
use Rattle.action_terms.specs.Frames.{Frame, InCalled, InParLeft, InParRight, InFirst, InSecond, InOr, InCut, InTrap, InOver, InTail, plug, plugged}
use Rattle.action_terms.specs.Information.{Token, Binds, Data, World}
use Rattle.action_terms.specs.Performances.{Here, messages_bytes}
use Rattle.action_terms.specs.Steps.{Step, silent, failed}
use Rattle.action_terms.proofs.Parts.{Reaches, EachPasses, reaches-quiet, reaches-rise}
use Rattle.rv_prelude.specs.EntryRuns.{FailsToRecord, FailsOut}
use Rattle.rv_prelude.specs.PieceRuns.{HasRegion}
use Rattle.rv_prelude.specs.Region.{Chains, HasRecord, with_chains}
use Rattle.rv_codegen.specs.Blocks.{failed_label, fail_label, front_of, start_of}
use Rattle.rv_codegen.proofs.Around.{OrFrame, TailFrame, Around}
use Rattle.rv_codegen.proofs.AroundKept.{Agrees, around-kept, frames-high}
use Rattle.rv_codegen.proofs.Configurations.{Configuration, depth, performances, pending}
use Rattle.rv_codegen.proofs.Holding.{Holds, HoldsBinds, grows-same, holds-kept, holds-kept_binds}
use Rattle.rv_codegen.proofs.InputLeft.{Left, left-same}
use Rattle.rv_codegen.proofs.NodeParts.{IsPartOf, IsTailOf, KeepsRecord, tail-part, part-at}
use Rattle.rv_codegen.proofs.RestPoints.{Laid, Region, IsAt, FailsAt, GoesOn, near}
use Rattle.rv_codegen.proofs.Settings.{Way, way-runs, Setting, code, point, front, start, exit, frame_words}
use Rattle.rv_codegen.proofs.Units.{units-kept}

pub pending-append : (xs ys : List Frame) → pending ys ≤ pending (xs ++ ys)
pending-append [] ys = omega arith
pending-append (f ∷ xs) ys = let r = pending-append xs ys in omega arith

module _ (s : Setting) where
  -- ---- what is asked of the code and its places

  -- both arms find what the node found, and leave their data where the node does; the second goes on where the node does
  pub record LaidArms (n l r : ℕ) : Type 0 where
    pub left_given : s.places.given l ≡ s.places.given n
    pub left_bound : s.places.bound l ≡ s.places.bound n
    pub right_given : s.places.given r ≡ s.places.given n
    pub right_bound : s.places.bound r ≡ s.places.bound n
    pub left_out : (d : Data) (b : Binds) → s.Ends l d b → (s.places.out n ≡ s.places.out l) × s.Ends n d b
    pub right_out : (d : Data) (b : Binds) → s.Ends r d b → (s.places.out n ≡ s.places.out r) × s.Ends n d b
    pub left_bound_out : s.places.bound_out n ≡ s.places.bound_out l
    pub right_bound_out : s.places.bound_out n ≡ s.places.bound_out r
    pub left_binds : (t : Token) → s.places.BindsAt l t → s.places.BindsAt n t
    pub right_binds : (t : Token) → s.places.BindsAt r t → s.places.BindsAt n t
    -- the second arm begins where the record says
    pub other : Way (code s) (front s r) (start s r)
    pub second_exit : exit s r ≡ exit s n

  pub record LaidRecords : Type 0 where
    pub laid : Laid s
    pub arms : (n l r : ℕ) → node_at s.action n ≡ Either l r → LaidArms n l r
    -- a record stands in its frame, and its words are the node's own
    pub keep_below : (n : ℕ) → KeepsRecord (node_at s.action n) → s.places.keep n + 8 ≤ frame_words s n
    pub keeps : (n x : ℕ) → KeepsRecord (node_at s.action n) → s.places.keep n ≤ x → x < s.places.keep n + 8 → s.places.Writes n x
    -- the entry for failures, and the end for them
    pub fails : FailsToRecord fail_label s.items
    pub fails_out : FailsOut fail_label failed_label s.items
    pub failed_exits : Has (code s) (address_of (point s failed_label).place) (exit_with 1)

  -- ---- the innermost open alternative

  pub record Found (heap : Heap) (words : List ℕ) (fs : List Frame) (alternative top : ℕ) : Type 0 where
    pub inner : List Frame
    pub outer : List Frame
    pub n : ℕ
    pub k : ℕ
    pub k2 : ℕ
    pub f : ℕ
    pub d : Data
    pub b : Binds
    pub split : fs ≡ inner ++ InOr k2 d b ∷ outer
    pub passes : EachPasses Fail inner
    pub now : Chains
    pub before : Chains
    pub here : OrFrame s heap words f k k2 n now before d b
    pub head : now.alternative ≡ alternative
    pub around : Around s heap words outer f n before
    pub below : f + frame_words s n ≤ top

  module _ (laid : Laid s) (heap : Heap) (words : List ℕ) where
    abbrev Finds : List Frame → (alternative top : ℕ) → Type 0
    Finds fs alternative top = Found heap words fs alternative top ⊎ ((alternative ≡ 0) × EachPasses Fail fs)

    up : (x : Frame) (fs : List Frame) (alternative top top' : ℕ) → EachPasses Fail (x ∷ []) → top ≤ top' → Finds fs alternative top → Finds (x ∷ fs) alternative top'
    up x fs alternative top top' pass le (inl o) = inl (record { inner = x ∷ o.inner; outer = o.outer; n = o.n; k = o.k; k2 = o.k2; f = o.f; d = o.d; b = o.b; split = ap (λ z. x ∷ z) o.split; passes = (pass.0, o.passes); now = o.now; before = o.before; here = o.here; head = o.head; around = o.around; below = omega (arith, o.below) })
    up x fs alternative top top' pass le (inr e) = inr (e.0, (pass.0, e.1))

    same : (f n k : ℕ) → IsPartOf (node_at s.action n) k → f + frame_words s n ≤ f + frame_words s k
    same f n k part = let e = laid.same_frame n k part in omega arith

    pub found : (fs : List Frame) (f k : ℕ) (c : Chains) → Around s heap words fs f k c → Finds fs c.alternative (f + frame_words s k)
    found [] f k c h = inr (h.2, tt)
    found (InParLeft n y ∷ fs) f k c h = up (InParLeft n y) fs c.alternative _ _ (tt, tt) (same f n k (part-at s.action n k (Both h.0.j k h.0.r) h.0.node (inl refl))) (found fs f n c h.1)
    found (InParRight n x ∷ fs) f k c h = up (InParRight n x) fs c.alternative _ _ (tt, tt) (same f n k (part-at s.action n k (Both h.0.j h.0.l k) h.0.node (inr refl))) (found fs f n c h.1)
    found (InFirst n d b ∷ fs) f k c h = up (InFirst n d b) fs c.alternative _ _ (tt, tt) (same f n k (part-at s.action n k (Phases h.0.q k h.0.r) h.0.node (inl refl))) (found fs f n c h.1)
    found (InSecond n d b ∷ fs) f k c h = up (InSecond n d b) fs c.alternative _ _ (tt, tt) (same f n k (part-at s.action n k (Phases h.0.q h.0.l k) h.0.node (inr refl))) (found fs f n c h.1)
    found (InOr k2 d b ∷ fs) f k c h =
        inl (record { inner = []; outer = fs; n = h.0; k = k; k2 = k2; f = f; d = d; b = b; split = refl; passes = tt; now = c; before = h.1; here = h.2; head = refl; around = h.3; below = same f h.0 k (part-at s.action h.0 k (Either k k2) h.2.node (inl refl)) })
    found (InCut ∷ fs) f k c h = up InCut fs c.alternative _ _ (tt, tt) (same f h.0 k (part-at s.action h.0 k (Either k h.1.r) h.1.node (inl refl))) (found fs f h.0 c h.3)
    found (InTrap n b ∷ fs) f k c h = up (InTrap n b) fs c.alternative _ _ (tt, tt) (same f n k (part-at s.action n k (Trapping k h.1.r) h.1.node (inl refl))) (found fs f n _ h.2)
    found (InTail n ∷ fs) f k c h = up (InTail n) fs c.alternative _ _ (tt, tt) (same f n k (tail-part (node_at s.action n) k h.0.tail)) (found fs f n c h.1)
    found (InCalled c' ∷ fs) f k c h = up (InCalled c') fs c.alternative (h.1 + frame_words s h.0) _ (tt, tt) (omega (arith, h.2.above)) (found fs h.1 h.0 c h.3)
    found (InOver b ∷ fs) f k c h = up (InOver b) fs c.alternative _ _ (tt, tt) (same f h.0 k (part-at s.action h.0 k (Furthermore k) h.1.node refl)) (found fs f h.0 c h.2)

  -- ---- a failure

  module _ (all : LaidRecords) (steps : List Step) (fs : List Frame) (w : World) (state : WordState) (shown : state.output ≡ messages_bytes w.output) (left : Left state.input w.input) (rank : ℕ) (x : FailsAt s steps w.cells rank state fs) (reached : Reaches s.action s.input steps (plug fs failed) w) where
    abbrev now : Configuration
    now = record { steps = steps; frames = fs; focus = failed; world = w }

    laid : Laid s
    laid = all.laid

    size : length state.words ≡ s.count
    size = ap length x.here.stands.words_are ∙ x.here.region.size

    region : HasRegion s.base state
    region = record { aligned = laid.aligned; below = omega (arith, laid.below, size); front = omega (arith, laid.some, size); region = x.here.stands.region }

    head-is : get_or state.words 1 0 ≡ x.here.chains.alternative
    head-is = ap (λ ws. get_or ws 1 0) x.here.stands.words_are ∙ x.here.region.alternative

    -- no alternative is open
    fails-out : x.here.chains.alternative ≡ 0 → EachPasses Fail fs → GoesOn s rank state now
    fails-out none passes =
        let g = (all.fails_out s.base state (record { here = x.at; region = region }) (head-is ∙ none)).0 in
        let has : Has (code s) g.end.pc (exit_with 1) = subst (λ q. Has (code s) q (exit_with 1)) (sym g.at) all.failed_exits in
        let last = before_exit s.base (code s) 1 g.end in
        let risen = reaches-rise s.action s.input steps fs [] Fail w passes (subst (λ z. Reaches s.action s.input steps (plug z failed) w) (sym (append-nil fs)) reached) in
        let more = mul-le-mul_left s.factor risen.more in
        inr
        (quiet-stop s.base (code s) (performances s) depth (IsAt s) state now
        (record {
          count = g.instructions + 2;
          to = last;
          last = record { steps = risen.all; frames = []; focus = failed; world = w };
          exit = 1;
          runs = then-runs s.base (code s) g.instructions 2 state g.end last g.leads.words (before_exit-runs s.base (code s) 1 g.end (omega arith) has);
          quiet = g.output;
          output = g.output ∙ shown;
          exits = exit-stops s.base (code s) 1 g.end (omega arith) has;
          reached = risen.reached;
          ends = inl (refl, refl);
          paid = omega (arith, s.ample, more, g.few);
        }))

    -- the second arm is tried
    module _ (o : Found x.here.heap x.here.words fs x.here.chains.alternative (x.here.f + frame_words s x.k)) where
      abbrev keep : ℕ
      keep = s.places.keep o.n

      abbrev arm : ℕ
      arm = (front s o.k2).place

      abbrev words' : List ℕ
      words' = with_chains o.before x.here.words

      keeps : KeepsRecord (node_at s.action o.n)
      keeps = subst KeepsRecord (sym o.here.node) tt

      high : 512 ≤ o.f
      high = frames-high s x.here.heap x.here.words o.outer o.f o.n o.before o.around

      inside : o.f + keep + 8 ≤ s.count
      inside = omega (arith, o.below, all.keep_below o.n keeps, x.here.clear, laid.units_inside)

      kept-record : HasRecord s.base (o.f + keep) o.f o.before arm state.words
      kept-record =
          let wa = x.here.stands.words_are in
          let word = λ (i : ℕ). ap (λ ws. get_or ws i 0) wa in
          let first : o.f + (keep + 1) ≡ o.f + keep + 1 = omega arith in
          let second : o.f + (keep + 2) ≡ o.f + keep + 2 = omega arith in
          let third : o.f + (keep + 3) ≡ o.f + keep + 3 = omega arith in
          let fourth : o.f + (keep + 4) ≡ o.f + keep + 4 = omega arith in
          record {
            alternative = word (o.f + keep) ∙ o.here.kept.alternative;
            arm_at = word (o.f + keep + 1) ∙ ap (λ i. get_or x.here.words i 0) (sym first) ∙ o.here.kept.arm_at;
            trap = word (o.f + keep + 2) ∙ ap (λ i. get_or x.here.words i 0) (sym second) ∙ o.here.kept.trap;
            mark = word (o.f + keep + 3) ∙ ap (λ i. get_or x.here.words i 0) (sym third) ∙ o.here.kept.mark;
            frame = word (o.f + keep + 4) ∙ ap (λ i. get_or x.here.words i 0) (sym fourth) ∙ o.here.kept.frame;
            behind_front = omega (arith, high);
            inside = omega (arith, inside, size);
            near = near s laid (front_of o.k2);
          }

      other : (j : ℕ) → 4 ≤ j → get_or words' j 0 ≡ get_or x.here.words j 0
      other j far =
          let ws = x.here.words in
          get_or-set_other (set (set ws 1 o.before.alternative) 2 o.before.trap) 3 j o.before.mark 0 (omega arith) ∙ get_or-set_other (set ws 1 o.before.alternative) 2 j o.before.trap 0 (omega arith) ∙ get_or-set_other ws 1 j o.before.alternative 0 (omega arith)

      agrees : Agrees s laid.placed x.here.heap x.here.heap (grows-same x.here.heap) x.here.words words' o.f o.n
      agrees = record {
        here = λ i no. other (o.f + i) (omega (arith, high));
        below = λ j l lt. other j (omega arith);
      }

      region' : Region s words' o.before
      region' =
          let ws = x.here.words in
          let w1 = set ws 1 o.before.alternative in
          let w2 = set w1 2 o.before.trap in
          let s1 = length-set ws 1 o.before.alternative in
          let s2 = length-set w1 2 o.before.trap in
          let s3 = length-set w2 3 o.before.mark in
          let many = x.here.region.size in
          record {
            size = s3 ∙ s2 ∙ s1 ∙ many;
            alternative = get_or-set_other w2 3 1 o.before.mark 0 (λ q. omega arith) ∙ get_or-set_other w1 2 1 o.before.trap 0 (λ q. omega arith) ∙ get_or-set_same ws 1 o.before.alternative 0 (omega (arith, many, laid.some));
            trap = get_or-set_other w2 3 2 o.before.mark 0 (λ q. omega arith) ∙ get_or-set_same w1 2 o.before.trap 0 (omega (arith, s1, many, laid.some));
            mark = get_or-set_same w2 3 o.before.mark 0 (omega (arith, s1, s2, many, laid.some));
          }

      retries : GoesOn s rank state now
      retries =
          let h = x.here in
          let arms = all.arms o.n o.k o.k2 o.here.node in
          let r = all.fails s.base (o.f + keep) o.f arm o.before state (record { here = x.at; region = region }) kept-record (head-is ∙ sym o.head ∙ o.here.at) in
          let e = r.0.end in
          let g = way-runs s.base (code s) e (front s o.k2) (start s o.k2) (near s laid (front_of o.k2)) (near s laid (start_of o.k2)) r.0.at arms.other in
          let part : IsPartOf (node_at s.action o.n) o.k2 = part-at s.action o.n o.k2 (Either o.k o.k2) o.here.node (inr refl) in
          let given' = holds-kept s.base h.heap h.heap (grows-same h.heap) h.words words' o.f (s.places.Writes o.n) agrees.here (s.places.given o.n) o.d (laid.placed.given_apart o.n) o.here.given in
          let receives' = holds-kept_binds s.base h.heap h.heap (grows-same h.heap) h.words words' o.f (s.places.Writes o.n) agrees.here (s.places.bound o.n) o.b (laid.placed.bound_apart o.n) o.here.receives in
          let around' = around-kept s laid.placed h.heap h.heap (grows-same h.heap) h.words words' o.outer o.f o.n o.before agrees o.around in
          let tail : TailFrame s o.k2 o.n = record { tail = subst (λ m. IsTailOf m o.k2) (sym o.here.node) refl; exit_is = arms.second_exit; ends = arms.right_out; ends_bound = arms.right_bound_out; table = arms.right_binds } in
          let risen = reaches-rise s.action s.input steps o.inner (InOr o.k2 o.d o.b ∷ o.outer) Fail w o.passes (subst (λ z. Reaches s.action s.input steps (plug z failed) w) o.split reached) in
          let step = plugged o.outer (silent (Run o.k2 o.d o.b)) in
          let tried = reaches-quiet s.action s.input risen.all o.outer [] (Or failed o.k2 o.d o.b) (Run o.k2 o.d o.b) w risen.reached Here in
          let le = mul-le-mul_left s.factor risen.more in
          let fewer : pending (InOr o.k2 o.d o.b ∷ o.outer) ≤ pending fs = subst (λ z. pending (InOr o.k2 o.d o.b ∷ o.outer) ≤ pending z) (sym o.split) (pending-append o.inner (InOr o.k2 o.d o.b ∷ o.outer)) in
          inl
          (quiet-advance s.base (code s) (performances s) depth (IsAt s) rank state now
          (record {
            count = r.0.instructions + g.count;
            to = g.end;
            next = record { steps = step ∷ risen.all; frames = InTail o.n ∷ o.outer; focus = Run o.k2 o.d o.b; world = w };
            next_rank = (start s o.k2).rank;
            some = inl (omega (arith, r.0.some));
            runs = then-runs s.base (code s) r.0.instructions g.count state e g.end r.0.leads.words g.runs;
            quiet = g.output ∙ r.0.output;
            output = g.output ∙ r.0.output ∙ shown;
            related = record {
              rests = record {
                here = record {
                  f = o.f;
                  chains = o.before;
                  heap = h.heap;
                  words = words';
                  stands = record { region = g.others 3 (omega arith) ∙ r.2 ∙ h.stands.region; frame_at = g.others 2 (omega arith) ∙ r.1; words_are = g.words ∙ r.0.words ∙ ap (with_chains o.before) h.stands.words_are };
                  region = region';
                  clear = omega (arith, o.below, h.clear, laid.same_frame o.n o.k2 part);
                  units_are = units-kept s h.heap h.words words' steps (step ∷ risen.all) w.cells (λ j out. other j (⊎_elim (λ z. z.0) (λ z. omega arith) out)) (omega (arith, risen.spent s.sizes)) h.units_are;
                  around = (tail, around');
                  node = laid.part_node o.n o.k2 part;
                };
                at = g.at;
                rank_is = refl;
                given = subst (λ os. Holds s.base h.heap words' o.f os o.d) (sym arms.right_given) given';
                receives = subst (λ ss. HoldsBinds s.base h.heap words' o.f ss o.b) (sym arms.right_bound) receives';
              };
              shown = g.output ∙ r.0.output ∙ shown;
              left = left-same {ys = g.end.input} (g.input ∙ r.0.input) left;
            };
            reached = tried;
            paid = omega (arith, s.ample, le, g.few, r.0.few, fewer);
          }))

    -- from a failure the machine goes on
    pub fails-go : GoesOn s rank state now
    fails-go = ⊎_elim (λ o. retries o) (λ e. fails-out e.0 e.1) (found all.laid x.here.heap x.here.words fs x.here.f x.k x.here.chains x.here.around)
