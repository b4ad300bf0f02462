-- An alternative is opened: its record is written, and its first arm begins.
use Rattle.std.proofs.Common.{◌≡◌, ◌≢◌, ◌⊎◌, ℕ, ◌+◌, ◌*◌, ◌^◌, ◌<◌, ◌≤◌, List, [], ◌∷◌, get_or, set, length, refl, sym, ap, ◌∙◌, subst, arith, length-set, get_or-set_same, get_or-set_other, inl, inr, ⊎_elim}
use Rattle.std.proofs.lemmas.Bool.{cases_lt}
use Rattle.rv_asm.specs.Assembly.{address_of}
use Rattle.rv_asm.specs.WordMachine.{WordState}
use Rattle.rv_asm.proofs.Moments.{quiet-advance}
use Rattle.rv_asm.proofs.Stretches.{then-runs}
use Rattle.action_terms.specs.Actions.{Either, node_at}
use Rattle.action_terms.specs.Acting.{Run, Or}
use Rattle.action_terms.specs.Frames.{InOr, plugged}
use Rattle.action_terms.specs.Performances.{OneOf, Here}
use Rattle.action_terms.specs.Steps.{ArmOne, open_steps}
use Rattle.action_terms.proofs.Parts.{quiet, reaches-quiet}
use Rattle.rv_prelude.specs.PieceRuns.{Comes, HasPlace, quietly}
use Rattle.rv_prelude.specs.Region.{Chains, HasChains, with_record, with_alternative, without_alternative}
use Rattle.rv_codegen.specs.Blocks.{start_of}
use Rattle.rv_codegen.proofs.Around.{OrFrame, Kept}
use Rattle.rv_codegen.proofs.AroundKept.{Agrees, around-kept, frames-high}
use Rattle.rv_codegen.proofs.Configurations.{depth, performances}
use Rattle.rv_codegen.proofs.Failing.{LaidRecords}
use Rattle.rv_codegen.proofs.Holding.{Holds, HoldsBinds, grows-same, holds-kept, holds-kept_binds}
use Rattle.rv_codegen.proofs.InputLeft.{left-same}
use Rattle.rv_codegen.proofs.NodeParts.{IsPartOf, KeepsRecord, part-at}
use Rattle.rv_codegen.proofs.RestPoints.{Laid, Region, IsAt, Starting, starts, StartGoesOn, near, open-run}
use Rattle.rv_codegen.proofs.Settings.{Point, Way, way-runs, Setting, code, front, start, stop, exit}
use Rattle.rv_codegen.proofs.Units.{units-kept}

module _ (s : Setting) where
  -- the code of node n, whose arms are l and r: it opens a record and goes on to l. Where l has completed, it closes the
  -- record if that is still the innermost, and goes on where the node does
  pub record Alternative (n l r : ℕ) : Type 0 where
    pub opened : Point
    pub near_opened : opened.place < 2 ^ 28
    pub opens_record :
        (f : ℕ) (chains : Chains) (c : WordState) → c.pc ≡ address_of (start s n).place → HasPlace s.base f (s.places.keep n) c → HasChains c.words chains →
        Comes s.base (code s) 20 c (quietly c (address_of opened.place) (with_alternative s.base (f + s.places.keep n) (with_record s.base (f + s.places.keep n) f chains (front s r).place c.words)))
    pub enter : Way (code s) opened (start s l)
    pub first_exit : exit s l ≡ stop s n
    pub closed : Point
    pub near_closed : closed.place < 2 ^ 28
    pub closes_record :
        (f : ℕ) (c : WordState) → c.pc ≡ address_of (stop s n).place → HasPlace s.base f (s.places.keep n) c → get_or c.words 1 0 ≡ s.base + 8 * (f + s.places.keep n) →
        Comes s.base (code s) 13 c (quietly c (address_of closed.place) (without_alternative (f + s.places.keep n) c.words))
    pub leaves_record :
        (f : ℕ) (c : WordState) → c.pc ≡ address_of (stop s n).place → HasPlace s.base f (s.places.keep n) c → get_or c.words 1 0 ≢ s.base + 8 * (f + s.places.keep n) →
        Comes s.base (code s) 13 c (quietly c (address_of closed.place) c.words)
    pub leave : Way (code s) closed (exit s n)

  module _ (all : LaidRecords s) (alternative : (n l r : ℕ) → node_at s.action n ≡ Either l r → Alternative n l r) where
    laid : Laid s
    laid = all.laid

    keeps-of : (n l r : ℕ) → node_at s.action n ≡ Either l r → KeepsRecord (node_at s.action n)
    keeps-of n l r e = subst KeepsRecord (sym e) tt

    -- ---- the record is opened

    module _ (x : Starting s) (l r : ℕ) (e : node_at s.action x.k ≡ Either l r) where
      abbrev keep : ℕ
      keep = s.places.keep x.k

      abbrev place : ℕ
      place = x.runs.here.f + keep

      abbrev arm : ℕ
      arm = (front s r).place

      abbrev before : Chains
      before = x.runs.here.chains

      abbrev now : Chains
      now = record before { alternative = s.base + 8 * place }

      abbrev words' : List ℕ
      words' = with_alternative s.base place (with_record s.base place x.runs.here.f before arm x.runs.here.words)

      high : 512 ≤ x.runs.here.f
      high = frames-high s x.runs.here.heap x.runs.here.words x.frames x.runs.here.f x.k before x.runs.here.around

      within : place + 8 ≤ s.count
      within = omega (arith, all.keep_below x.k (keeps-of x.k l r e), x.runs.here.clear, laid.units_inside)

      at-place : HasPlace s.base x.runs.here.f keep x.state
      at-place =
          let size : length x.state.words ≡ s.count = ap length x.runs.here.stands.words_are ∙ x.runs.here.region.size in
          record {
            region = record { aligned = laid.aligned; below = omega (arith, laid.below, size); front = omega (arith, laid.some, size); region = x.runs.here.stands.region };
            frame = x.runs.here.stands.frame_at;
            behind_front = omega (arith, high);
            inside = omega (arith, within, size);
          }

      has-chains : HasChains x.state.words before
      has-chains =
          let wa = x.runs.here.stands.words_are in
          record {
            alternative = ap (λ ws. get_or ws 1 0) wa ∙ x.runs.here.region.alternative;
            trap = ap (λ ws. get_or ws 2 0) wa ∙ x.runs.here.region.trap;
            mark = ap (λ ws. get_or ws 3 0) wa ∙ x.runs.here.region.mark;
          }

      abbrev w1 : List ℕ
      w1 = set x.runs.here.words place before.alternative

      abbrev w2 : List ℕ
      w2 = set w1 (place + 1) (address_of arm)

      abbrev w3 : List ℕ
      w3 = set w2 (place + 2) before.trap

      abbrev w4 : List ℕ
      w4 = set w3 (place + 3) before.mark

      abbrev w5 : List ℕ
      w5 = set w4 (place + 4) (s.base + 8 * x.runs.here.f)

      -- each word but those of the record and the head of the chain
      other : (j : ℕ) → (j < place) ⊎ (place + 5 ≤ j) → j ≢ 1 → get_or words' j 0 ≡ get_or x.runs.here.words j 0
      other j out ne =
          let far = λ (m : ℕ) (lt : m < 5). ⊎_elim (λ (b : j < place). let z : j ≢ place + m = omega arith in z) (λ (b : place + 5 ≤ j). let z : j ≢ place + m = omega arith in z) out in
          let zero : j ≢ place = ⊎_elim (λ (b : j < place). omega arith) (λ (b : place + 5 ≤ j). omega arith) out in
          get_or-set_other w5 1 j (s.base + 8 * place) 0 ne ∙ get_or-set_other w4 (place + 4) j (s.base + 8 * x.runs.here.f) 0 (far 4 (omega arith)) ∙ get_or-set_other w3 (place + 3) j before.mark 0 (far 3 (omega arith)) ∙ get_or-set_other w2 (place + 2) j before.trap 0 (far 2 (omega arith)) ∙ get_or-set_other w1 (place + 1) j (address_of arm) 0 (far 1 (omega arith)) ∙ get_or-set_other x.runs.here.words place j before.alternative 0 zero

      sizes : (length w1 ≡ s.count) × (length w2 ≡ s.count) × (length w3 ≡ s.count) × (length w4 ≡ s.count) × (length w5 ≡ s.count)
      sizes =
          let s1 = length-set x.runs.here.words place before.alternative ∙ x.runs.here.region.size in
          let s2 = length-set w1 (place + 1) (address_of arm) ∙ s1 in
          let s3 = length-set w2 (place + 2) before.trap ∙ s2 in
          let s4 = length-set w3 (place + 3) before.mark ∙ s3 in
          (s1, s2, s3, s4, length-set w4 (place + 4) (s.base + 8 * x.runs.here.f) ∙ s4)

      agrees : Agrees s laid.placed x.runs.here.heap x.runs.here.heap (grows-same x.runs.here.heap) x.runs.here.words words' x.runs.here.f x.k
      agrees = record {
        here = λ i no.
            ⊎_elim
            (λ (lt : i < keep). other (x.runs.here.f + i) (inl (omega arith)) (omega (arith, high)))
            (λ (ge : keep ≤ i).
            ⊎_elim
            (λ (lt : i < keep + 8). absurd (no (all.keeps x.k i (keeps-of x.k l r e) ge lt)))
            (λ (gt : keep + 8 ≤ i). other (x.runs.here.f + i) (inr (omega arith)) (omega (arith, high)))
            (cases_lt i (keep + 8)))
            (cases_lt i keep);
        below = λ j lo lt. other j (inl (omega arith)) (omega arith);
      }

      kept : Kept s words' x.k x.runs.here.f before (front s r)
      kept =
          let b = within in
          let at = high in
          let one : x.runs.here.f + (keep + 1) ≡ place + 1 = omega arith in
          let two : x.runs.here.f + (keep + 2) ≡ place + 2 = omega arith in
          let three : x.runs.here.f + (keep + 3) ≡ place + 3 = omega arith in
          let four : x.runs.here.f + (keep + 4) ≡ place + 4 = omega arith in
          let frame = s.base + 8 * x.runs.here.f in
          let head = s.base + 8 * place in
          let all_sizes = sizes in
          let many = x.runs.here.region.size in
          record {
            alternative = get_or-set_other w5 1 place head 0 (omega arith) ∙ get_or-set_other w4 (place + 4) place frame 0 (omega arith) ∙ get_or-set_other w3 (place + 3) place before.mark 0 (omega arith) ∙ get_or-set_other w2 (place + 2) place before.trap 0 (omega arith) ∙ get_or-set_other w1 (place + 1) place (address_of arm) 0 (omega arith) ∙ get_or-set_same x.runs.here.words place before.alternative 0 (omega arith);
            arm_at = ap (λ i. get_or words' i 0) one ∙ get_or-set_other w5 1 (place + 1) head 0 (omega arith) ∙ get_or-set_other w4 (place + 4) (place + 1) frame 0 (omega arith) ∙ get_or-set_other w3 (place + 3) (place + 1) before.mark 0 (omega arith) ∙ get_or-set_other w2 (place + 2) (place + 1) before.trap 0 (omega arith) ∙ get_or-set_same w1 (place + 1) (address_of arm) 0 (omega (arith, all_sizes.0));
            trap = ap (λ i. get_or words' i 0) two ∙ get_or-set_other w5 1 (place + 2) head 0 (omega arith) ∙ get_or-set_other w4 (place + 4) (place + 2) frame 0 (omega arith) ∙ get_or-set_other w3 (place + 3) (place + 2) before.mark 0 (omega arith) ∙ get_or-set_same w2 (place + 2) before.trap 0 (omega (arith, all_sizes.1));
            mark = ap (λ i. get_or words' i 0) three ∙ get_or-set_other w5 1 (place + 3) head 0 (omega arith) ∙ get_or-set_other w4 (place + 4) (place + 3) frame 0 (omega arith) ∙ get_or-set_same w3 (place + 3) before.mark 0 (omega (arith, all_sizes.2));
            frame = ap (λ i. get_or words' i 0) four ∙ get_or-set_other w5 1 (place + 4) head 0 (omega arith) ∙ get_or-set_same w4 (place + 4) frame 0 (omega (arith, all_sizes.3));
          }

      region' : Region s words' now
      region' = record {
        size = length-set w5 1 (s.base + 8 * place) ∙ sizes.4;
        alternative = get_or-set_same w5 1 (s.base + 8 * place) 0 (omega (arith, sizes.4, laid.some));
        trap = other 2 (inl (omega (arith, high))) (omega arith) ∙ x.runs.here.region.trap;
        mark = other 3 (inl (omega (arith, high))) (omega arith) ∙ x.runs.here.region.mark;
      }

      pub or-starts : StartGoesOn s x
      or-starts =
          let h = x.runs.here in
          let o = alternative x.k l r e in
          let arms = all.arms x.k l r e in
          let q = o.opens_record h.f before x.state x.runs.at at-place has-chains in
          let c = q.0.end in
          let g = way-runs s.base (code s) c o.opened (start s l) o.near_opened (near s laid (start_of l)) q.0.at o.enter in
          let part : IsPartOf (node_at s.action x.k) l = part-at s.action x.k l (Either l r) e (inl refl) in
          let given' = holds-kept s.base h.heap h.heap (grows-same h.heap) h.words words' h.f (s.places.Writes x.k) agrees.here (s.places.given x.k) x.d (laid.placed.given_apart x.k) x.runs.given in
          let receives' = holds-kept_binds s.base h.heap h.heap (grows-same h.heap) h.words words' h.f (s.places.Writes x.k) agrees.here (s.places.bound x.k) x.b (laid.placed.bound_apart x.k) x.runs.receives in
          let around' = around-kept s laid.placed h.heap h.heap (grows-same h.heap) h.words words' x.frames h.f x.k before agrees h.around in
          let next = Or (Run l x.d x.b) r x.d x.b in
          let n = quiet (ArmOne ∷ []) next in
          let step = plugged x.frames n in
          let frame = InOr r x.d x.b in
          let opening : OneOf n (open_steps s.action x.world (Run x.k x.d x.b)) = open-run s x.k x.d x.b x.world (Either l r) n e Here in
          let or_frame : OrFrame s h.heap words' h.f l r x.k now before x.d x.b = record { node = e; given = given'; receives = receives'; at = refl; same = refl; kept = kept } in
          let words_are : g.end.words ≡ words' = g.words ∙ q.0.words ∙ ap (λ ws. with_alternative s.base place (with_record s.base place h.f before arm ws)) h.stands.words_are in
          let keep_fits = all.keep_below x.k (keeps-of x.k l r e) in
          inl
          (quiet-advance s.base (code s) (performances s) depth (IsAt s) (start s x.k).rank x.state (starts s x)
          (record {
            count = q.0.instructions + g.count;
            to = g.end;
            next = record { steps = step ∷ x.steps; frames = frame ∷ x.frames; focus = Run l x.d x.b; world = x.world };
            next_rank = (start s l).rank;
            some = inl (omega (arith, q.0.some));
            runs = then-runs s.base (code s) q.0.instructions g.count x.state c g.end q.0.leads.words g.runs;
            quiet = g.output ∙ q.0.output;
            output = g.output ∙ q.0.output ∙ x.shown;
            related = record {
              rests = record {
                here = record {
                  f = h.f;
                  chains = now;
                  heap = h.heap;
                  words = words';
                  stands = record { region = g.others 3 (omega arith) ∙ q.1 3 (omega arith) ∙ h.stands.region; frame_at = g.others 2 (omega arith) ∙ q.1 2 (omega arith) ∙ h.stands.frame_at; words_are = words_are };
                  region = region';
                  clear = omega (arith, h.clear, laid.same_frame x.k l part);
                  units_are = units-kept s h.heap h.words words' x.steps (step ∷ x.steps) x.world.cells (λ j out. ⊎_elim (λ z. other j (inl (omega (arith, z.1, high))) (omega (arith, z.0))) (λ z. other j (inr (omega (arith, z, h.clear, keep_fits))) (omega (arith, z))) out) (omega arith) h.units_are;
                  around = (x.k, before, or_frame, around');
                  node = laid.part_node x.k l part;
                };
                at = g.at;
                rank_is = refl;
                given = subst (λ os. Holds s.base h.heap words' h.f os x.d) (sym arms.left_given) given';
                receives = subst (λ ss. HoldsBinds s.base h.heap words' h.f ss x.b) (sym arms.left_bound) receives';
              };
              shown = g.output ∙ q.0.output ∙ x.shown;
              left = left-same {ys = g.end.input} (g.input ∙ q.0.input) x.left;
            };
            reached = reaches-quiet s.action s.input x.steps x.frames (ArmOne ∷ []) (Run x.k x.d x.b) next x.world x.reached opening;
            paid = omega (arith, s.ample, q.0.few, g.few);
          }))
