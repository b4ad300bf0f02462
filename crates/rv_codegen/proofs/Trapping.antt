-- A trap is opened: its record is written, no commitment is made yet, and its first part begins.
use Rattle.std.proofs.Common.{◌≡◌, ◌⊎◌, ℕ, ◌+◌, ◌*◌, ◌^◌, ◌<◌, ◌≤◌, List, [], ◌∷◌, get_or, set, length, refl, sym, ap, ◌∙◌, subst, arith, length-set, get_or-set_same, get_or-set_other, inl, inr, ⊎_elim}
use Rattle.std.proofs.lemmas.Bool.{cases_lt}
use Rattle.rv_asm.specs.Assembly.{address_of}
use Rattle.rv_asm.specs.Pieces.{exit_with}
use Rattle.rv_asm.specs.WordMachine.{WordState, Has}
use Rattle.rv_asm.proofs.Moments.{quiet-advance}
use Rattle.rv_asm.proofs.Stretches.{then-runs}
use Rattle.action_terms.specs.Actions.{Trapping, node_at}
use Rattle.action_terms.specs.Acting.{Ended, Esc, Run, Trap}
use Rattle.action_terms.specs.Frames.{Frame, InTrap, plug, plugged}
use Rattle.action_terms.specs.Information.{Token, Binds, Data, World}
use Rattle.action_terms.specs.Performances.{OneOf, Here}
use Rattle.action_terms.specs.Steps.{Step, open_steps, silent}
use Rattle.action_terms.proofs.Parts.{Reaches, reaches-quiet}
use Rattle.rv_prelude.specs.EntryRuns.{EscapesToRecord, EscapesOut}
use Rattle.rv_prelude.specs.PieceRuns.{Comes, HasPlace, quietly}
use Rattle.rv_prelude.specs.Region.{Chains, HasChains, with_record, with_trap, without_trap}
use Rattle.rv_codegen.specs.Blocks.{escape_label, escaped_label, start_of}
use Rattle.rv_codegen.specs.CaughtItems.{caught_items}
use Rattle.rv_codegen.proofs.Around.{Kept, TailFrame, TrapFrame}
use Rattle.rv_codegen.proofs.AroundKept.{Agrees, around-kept, frames-high}
use Rattle.rv_codegen.proofs.Configurations.{depth, performances}
use Rattle.rv_codegen.proofs.Failing.{LaidRecords}
use Rattle.rv_codegen.proofs.Holding.{Holds, HoldsBinds, grows-same, holds-kept, holds-kept_binds}
use Rattle.rv_codegen.proofs.InputLeft.{left-same}
use Rattle.rv_codegen.proofs.NodeParts.{IsPartOf, KeepsRecord, part-at}
use Rattle.rv_codegen.proofs.RecordWords.{HasWords, has-words}
use Rattle.rv_codegen.proofs.RestPoints.{Laid, Region, IsAt, Starting, starts, StartGoesOn, near, open-run}
use Rattle.rv_codegen.proofs.Settings.{Point, Way, way-runs, Setting, code, point, joint, start, stop, exit}
use Rattle.rv_codegen.proofs.Units.{units-kept}

module _ (s : Setting) where
  -- ---- what is asked of the code and its places

  -- the first part finds what the node found, and leaves its data where the node does; so does the handler, which finds what the first part escaped with in words that the node may write
  pub record LaidTrap (n l r : ℕ) : Type 0 where
    pub left_given : s.places.given l ≡ s.places.given n
    pub left_bound : s.places.bound l ≡ s.places.bound n
    pub left_out : (d : Data) (b : Binds) → s.Ends l d b → (s.places.out n ≡ s.places.out l) × s.Ends n d b
    pub left_bound_out : s.places.bound_out n ≡ s.places.bound_out l
    pub left_binds : (t : Token) → s.places.BindsAt l t → s.places.BindsAt n t
    pub right_bound : s.places.bound r ≡ s.places.bound n
    pub tail : TailFrame s r n
    pub few : length (s.places.given r) ≤ s.widest
    pub written : (x : ℕ) → OneOf x (s.places.given r) → s.places.Writes n x

  -- the code of node n, whose first part is l and whose handler is r: it opens a record and goes on to l. Where l has completed, it closes the record, and goes on where the node does. Where l has escaped, what it escaped with is copied to where the handler finds it, and the handler begins
  pub record TrapCode (n l r : ℕ) : Type 0 where
    pub opened : Point
    pub near_opened : opened.place < 2 ^ 28
    pub opens_record :
        (f : ℕ) (chains : Chains) (c : WordState) → c.pc ≡ address_of (start s n).place → HasPlace s.base f (s.places.keep n) c → HasChains c.words chains →
        Comes s.base (code s) 21 c (quietly c (address_of opened.place) (with_trap s.base (f + s.places.keep n) (with_record s.base (f + s.places.keep n) f chains (joint s n).place c.words)))
    pub enter : Way (code s) opened (start s l)
    pub first_exit : exit s l ≡ stop s n
    pub closed : Point
    pub near_closed : closed.place < 2 ^ 28
    pub closes_record :
        (f : ℕ) (c : WordState) → c.pc ≡ address_of (stop s n).place → HasPlace s.base f (s.places.keep n) c →
        Comes s.base (code s) 15 c (quietly c (address_of closed.place) (without_trap (f + s.places.keep n) c.words))
    pub leave : Way (code s) closed (exit s n)
    pub copies : Has (code s) (address_of (joint s n).place) (caught_items (s.places.given r))
    pub copied : Point
    pub copied_is : copied.place ≡ (joint s n).place + length (caught_items (s.places.given r))
    pub near_copied : copied.place < 2 ^ 28
    pub begins : Way (code s) copied (start s r)

  pub record LaidTraps : Type 0 where
    pub records : LaidRecords s
    pub traps : (n l r : ℕ) → node_at s.action n ≡ Trapping l r → LaidTrap n l r
    pub codes : (n l r : ℕ) → node_at s.action n ≡ Trapping l r → TrapCode n l r
    -- the entry for escapes, and the end for them
    pub escapes : EscapesToRecord escape_label s.items
    pub escapes_out : EscapesOut escape_label escaped_label s.items
    pub escaped_exits : Has (code s) (address_of (point s escaped_label).place) (exit_with 2)
    -- a handler is given as many data as it has words for them
    pub fills : (steps : List Step) (fs : List Frame) (n l r : ℕ) (b : Binds) (e : Data) (w : World) → node_at s.action n ≡ Trapping l r → Reaches s.action s.input steps (plug fs (Trap n (Ended (Esc e)) b)) w → length e ≡ length (s.places.given r)

  module _ (all : LaidTraps) where
    laid : Laid s
    laid = all.records.laid

    keeps-of : (n l r : ℕ) → node_at s.action n ≡ Trapping l r → KeepsRecord (node_at s.action n)
    keeps-of n l r e = subst KeepsRecord (sym e) tt

    -- ---- the record is opened

    module _ (x : Starting s) (l r : ℕ) (e : node_at s.action x.k ≡ Trapping l r) where
      abbrev keep : ℕ
      keep = s.places.keep x.k

      abbrev place : ℕ
      place = x.runs.here.f + keep

      abbrev arm : ℕ
      arm = (joint s x.k).place

      abbrev before : Chains
      before = x.runs.here.chains

      abbrev now : Chains
      now = record before { trap = s.base + 8 * place; mark = 0 }

      abbrev recorded : List ℕ
      recorded = with_record s.base place x.runs.here.f before arm x.runs.here.words

      abbrev headed : List ℕ
      headed = set recorded 2 (s.base + 8 * place)

      abbrev words' : List ℕ
      words' = with_trap s.base place recorded

      high : 512 ≤ x.runs.here.f
      high = frames-high s x.runs.here.heap x.runs.here.words x.frames x.runs.here.f x.k before x.runs.here.around

      within : place + 8 ≤ s.count
      within = omega (arith, all.records.keep_below x.k (keeps-of x.k l r e), x.runs.here.clear, laid.units_inside)

      at-place : HasPlace s.base x.runs.here.f keep x.state
      at-place =
          let size : length x.state.words ≡ s.count = ap length x.runs.here.stands.words_are ∙ x.runs.here.region.size in
          record {
            region = record { aligned = laid.aligned; below = omega (arith, laid.below, size); front = omega (arith, laid.some, size); region = x.runs.here.stands.region };
            frame = x.runs.here.stands.frame_at;
            behind_front = omega (arith, high);
            inside = omega (arith, within, size);
          }

      has-chains : HasChains x.state.words before
      has-chains =
          let wa = x.runs.here.stands.words_are in
          record {
            alternative = ap (λ ws. get_or ws 1 0) wa ∙ x.runs.here.region.alternative;
            trap = ap (λ ws. get_or ws 2 0) wa ∙ x.runs.here.region.trap;
            mark = ap (λ ws. get_or ws 3 0) wa ∙ x.runs.here.region.mark;
          }

      written : HasWords s.base place x.runs.here.f arm before x.runs.here.words recorded
      written = has-words s.base place x.runs.here.f arm before x.runs.here.words (omega (arith, within, x.runs.here.region.size))

      behind : (j : ℕ) → 4 ≤ j → get_or words' j 0 ≡ get_or recorded j 0
      behind j far = get_or-set_other headed 3 j 0 0 (omega arith) ∙ get_or-set_other recorded 2 j (s.base + 8 * place) 0 (omega arith)

      -- each word but those of the record, the head of the chain and the mark
      other : (j : ℕ) → (j < place) ⊎ (place + 5 ≤ j) → 4 ≤ j → get_or words' j 0 ≡ get_or x.runs.here.words j 0
      other j out far = behind j far ∙ written.other j out

      agrees : Agrees s laid.placed x.runs.here.heap x.runs.here.heap (grows-same x.runs.here.heap) x.runs.here.words words' x.runs.here.f x.k
      agrees = record {
        here = λ i no.
            ⊎_elim
            (λ (lt : i < keep). other (x.runs.here.f + i) (inl (omega arith)) (omega (arith, high)))
            (λ (ge : keep ≤ i).
            ⊎_elim
            (λ (lt : i < keep + 8). absurd (no (all.records.keeps x.k i (keeps-of x.k l r e) ge lt)))
            (λ (gt : keep + 8 ≤ i). other (x.runs.here.f + i) (inr (omega arith)) (omega (arith, high)))
            (cases_lt i (keep + 8)))
            (cases_lt i keep);
        below = λ j lo lt. other j (inl (omega arith)) (omega arith);
      }

      kept : Kept s words' x.k x.runs.here.f before (joint s x.k)
      kept =
          let at = high in
          let one : x.runs.here.f + (keep + 1) ≡ place + 1 = omega arith in
          let two : x.runs.here.f + (keep + 2) ≡ place + 2 = omega arith in
          let three : x.runs.here.f + (keep + 3) ≡ place + 3 = omega arith in
          let four : x.runs.here.f + (keep + 4) ≡ place + 4 = omega arith in
          record {
            alternative = behind place (omega arith) ∙ written.alternative;
            arm_at = ap (λ i. get_or words' i 0) one ∙ behind (place + 1) (omega arith) ∙ written.arm_at;
            trap = ap (λ i. get_or words' i 0) two ∙ behind (place + 2) (omega arith) ∙ written.trap;
            mark = ap (λ i. get_or words' i 0) three ∙ behind (place + 3) (omega arith) ∙ written.mark;
            frame = ap (λ i. get_or words' i 0) four ∙ behind (place + 4) (omega arith) ∙ written.frame;
          }

      region' : Region s words' now
      region' =
          let many = x.runs.here.region.size in
          let head = s.base + 8 * place in
          let sized = length-set recorded 2 head in
          record {
            size = length-set headed 3 0 ∙ sized ∙ written.size ∙ many;
            alternative = get_or-set_other headed 3 1 0 0 (omega arith) ∙ get_or-set_other recorded 2 1 head 0 (omega arith) ∙ written.other 1 (inl (omega (arith, high))) ∙ x.runs.here.region.alternative;
            trap = get_or-set_other headed 3 2 0 0 (omega arith) ∙ get_or-set_same recorded 2 head 0 (omega (arith, written.size, many, laid.some));
            mark = get_or-set_same headed 3 0 0 (omega (arith, sized, written.size, many, laid.some));
          }

      pub trap-starts : StartGoesOn s x
      trap-starts =
          let h = x.runs.here in
          let o = all.codes x.k l r e in
          let parts = all.traps x.k l r e in
          let q = o.opens_record h.f before x.state x.runs.at at-place has-chains in
          let c = q.0.end in
          let g = way-runs s.base (code s) c o.opened (start s l) o.near_opened (near s laid (start_of l)) q.0.at o.enter in
          let part : IsPartOf (node_at s.action x.k) l = part-at s.action x.k l (Trapping l r) e (inl refl) in
          let given' = holds-kept s.base h.heap h.heap (grows-same h.heap) h.words words' h.f (s.places.Writes x.k) agrees.here (s.places.given x.k) x.d (laid.placed.given_apart x.k) x.runs.given in
          let receives' = holds-kept_binds s.base h.heap h.heap (grows-same h.heap) h.words words' h.f (s.places.Writes x.k) agrees.here (s.places.bound x.k) x.b (laid.placed.bound_apart x.k) x.runs.receives in
          let around' = around-kept s laid.placed h.heap h.heap (grows-same h.heap) h.words words' x.frames h.f x.k before agrees h.around in
          let next = Trap x.k (Run l x.d x.b) x.b in
          let n = silent next in
          let step = plugged x.frames n in
          let opening : OneOf n (open_steps s.action x.world (Run x.k x.d x.b)) = open-run s x.k x.d x.b x.world (Trapping l r) n e Here in
          let trap_frame : TrapFrame s h.heap words' h.f l x.k now before x.b = record { r = r; node = e; receives = receives'; at = refl; kept = kept; chain = refl } in
          let words_are : g.end.words ≡ words' = g.words ∙ q.0.words ∙ ap (λ ws. with_trap s.base place (with_record s.base place h.f before arm ws)) h.stands.words_are in
          let keep_fits = all.records.keep_below x.k (keeps-of x.k l r e) in
          inl
          (quiet-advance s.base (code s) (performances s) depth (IsAt s) (start s x.k).rank x.state (starts s x)
          (record {
            count = q.0.instructions + g.count;
            to = g.end;
            next = record { steps = step ∷ x.steps; frames = InTrap x.k x.b ∷ x.frames; focus = Run l x.d x.b; world = x.world };
            next_rank = (start s l).rank;
            some = inl (omega (arith, q.0.some));
            runs = then-runs s.base (code s) q.0.instructions g.count x.state c g.end q.0.leads.words g.runs;
            quiet = g.output ∙ q.0.output;
            output = g.output ∙ q.0.output ∙ x.shown;
            related = record {
              rests = record {
                here = record {
                  f = h.f;
                  chains = now;
                  heap = h.heap;
                  words = words';
                  stands = record { region = g.others 3 (omega arith) ∙ q.1 3 (omega arith) ∙ h.stands.region; frame_at = g.others 2 (omega arith) ∙ q.1 2 (omega arith) ∙ h.stands.frame_at; words_are = words_are };
                  region = region';
                  clear = omega (arith, h.clear, laid.same_frame x.k l part);
                  units_are = units-kept s h.heap h.words words' x.steps (step ∷ x.steps) x.world.cells (λ j out. ⊎_elim (λ z. other j (inl (omega (arith, z.1, high))) z.0) (λ z. other j (inr (omega (arith, z, h.clear, keep_fits))) (omega (arith, z))) out) (omega arith) h.units_are;
                  around = (before, trap_frame, around');
                  node = laid.part_node x.k l part;
                };
                at = g.at;
                rank_is = refl;
                given = subst (λ os. Holds s.base h.heap words' h.f os x.d) (sym parts.left_given) given';
                receives = subst (λ ss. HoldsBinds s.base h.heap words' h.f ss x.b) (sym parts.left_bound) receives';
              };
              shown = g.output ∙ q.0.output ∙ x.shown;
              left = left-same {ys = g.end.input} (g.input ∙ q.0.input) x.left;
            };
            reached = reaches-quiet s.action s.input x.steps x.frames [] (Run x.k x.d x.b) next x.world x.reached opening;
            paid = omega (arith, s.ample, q.0.few, g.few);
          }))
