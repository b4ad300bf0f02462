-- A node calls a body by its number: in a frame behind its own, or the run ends as full where there is no room.
use Rattle.std.proofs.Common.{◌≡◌, ⊎_elim, ℕ, ◌+◌, ◌*◌, ◌<◌, ◌≤◌, List, [], ◌∷◌, ◌++◌, length, get_or, set, pos, refl, sym, ap, ◌∙◌, subst, arith, inl, inr, append_assoc, length-append, length-set, get_or-set_same, get_or-set_other}
use Rattle.std.proofs.Math.Nat.{mul-le-mul_left}
use Rattle.std.proofs.lemmas.Bool.{cases_lt}
use Rattle.rv_code.specs.declared.instruction.Inst.TheVariants.{OpImm, Store}
use Rattle.rv_code.specs.declared.instruction.OpImmOp.TheVariants.{Addi}
use Rattle.rv_code.specs.declared.instruction.StoreOp.TheVariants.{Sd}
use Rattle.rv_asm.specs.Assembly.{address_of}
use Rattle.rv_asm.specs.WordMachine.{WordState, Goes, Has, run_words}
use Rattle.rv_asm.proofs.Moments.{quiet-advance}
use Rattle.rv_asm.proofs.Places.{Has-front, Has-back}
use Rattle.rv_asm.proofs.Registers.{put-other}
use Rattle.rv_asm.proofs.Stretches.{then-runs}
use Rattle.action_terms.specs.Acting.{Called, Run}
use Rattle.action_terms.specs.Actions.{node_at}
use Rattle.action_terms.specs.Frames.{InCalled, plug, plugged}
use Rattle.action_terms.specs.Need.{node_yielder_count}
use Rattle.action_terms.specs.Performances.{OneOf, Here}
use Rattle.action_terms.specs.Steps.{Step, silent}
use Rattle.action_terms.proofs.Parts.{Reaches, reaches-quiet}
use Rattle.rv_prelude.proofs.Jumps.{jumped, jump-runs}
use Rattle.rv_yield.specs.Evaluates.{HasFrame}
use Rattle.rv_codegen.specs.AddressItems.{address_items}
use Rattle.rv_codegen.specs.Blocks.{full_label, start_of, stop_of}
use Rattle.rv_codegen.specs.CallItems.{room_items}
use Rattle.rv_codegen.specs.CaughtItems.{caught_items}
use Rattle.rv_codegen.proofs.Around.{CalledFrame}
use Rattle.rv_codegen.proofs.AroundKept.{Agrees, around-kept, frames-high}
use Rattle.rv_codegen.proofs.CallCode.{CanCall, GoesFull, HasFrames, HasKept, HasRoom, fits-passed, frames-come, keeps-run, kept_words, none-fits, room-comes}
use Rattle.rv_codegen.proofs.CallStands.{CallStands, enter, room}
use Rattle.rv_codegen.proofs.CallsLaid.{LaidCalls, is-call}
use Rattle.rv_codegen.proofs.CaughtPlaces.{row-inside}
use Rattle.rv_codegen.proofs.CaughtWords.{Catches, catches-run}
use Rattle.rv_codegen.proofs.Configurations.{depth, performances}
use Rattle.rv_codegen.proofs.Escaping.{first-low, first-near, in-row}
use Rattle.rv_codegen.proofs.Fullness.{call-full, open-call}
use Rattle.rv_codegen.proofs.GivenItems.{holds-length}
use Rattle.rv_codegen.proofs.Holding.{Holds, HoldsBinds, apart-fewer, grows-same, holds-kept, in_row}
use Rattle.rv_codegen.proofs.InputLeft.{left-same}
use Rattle.rv_codegen.proofs.NodeParts.{CallsByNumber, IsNode}
use Rattle.rv_codegen.proofs.RestPoints.{Laid, Region, IsAt, Starting, starts, StartGoesOn, near}
use Rattle.rv_codegen.proofs.Settings.{Setting, code, point, start, stop, frame_words}
use Rattle.rv_codegen.proofs.Units.{units-kept}

module _ (s : Setting) (all : LaidCalls s) (x : Starting s) (c : ℕ) (calls : CallsByNumber (node_at s.action x.k) c) where
  laid : Laid s
  laid = all.laid

  may : s.procedures.calls x.k c
  may = all.may x.k c calls

  stands : CallStands s x.k c
  stands = all.stands x.k c calls

  abbrev f : ℕ
  f = x.runs.here.f

  abbrev mine : ℕ
  mine = frame_words s x.k

  abbrev theirs : ℕ
  theirs = frame_words s c

  abbrev given : List ℕ
  given = s.places.given x.k

  abbrev wanted : List ℕ
  wanted = s.places.given c

  high : 512 ≤ f
  high = frames-high s x.runs.here.heap x.runs.here.words x.frames f x.k x.runs.here.chains x.runs.here.around

  size : length x.state.words ≡ s.count
  size = ap length x.runs.here.stands.words_are ∙ x.runs.here.region.size

  -- ---- where the new frame and the stack end

  can-call : CanCall s.base (code s) mine theirs (512 + s.stack) f x.state
  can-call = record {
    aligned = laid.aligned;
    below = omega (arith, laid.below, size);
    region = x.runs.here.stands.region;
    frame = x.runs.here.stands.frame_at;
    front = omega (arith, size, laid.some);
    end_at = ap (λ ws. get_or ws 5 0) x.runs.here.stands.words_are ∙ x.runs.here.units_are.now.stack_end_at;
    low = omega (arith, size, x.runs.here.clear, laid.units_inside);
    reached = laid.data_laid.reached c (all.body x.k c may);
  }

  found : HasRoom s.base (code s) mine theirs (512 + s.stack) f x.state
  found = room-comes s.base (code s) mine theirs (512 + s.stack) f x.state can-call (subst (λ z. Has (code s) z (room_items mine theirs)) (sym x.runs.at) stands.finds)

  found-at : found.end.pc ≡ address_of (room s x.k c)
  found-at = omega (arith, found.at, x.runs.at)

  -- ---- there is no room

  no-room : 512 + s.stack < f + mine + theirs → StartGoesOn s x
  no-room over =
      let g : GoesFull s.base (code s) (point s full_label).place found.end = none-fits s.base (code s) (room s x.k c) (s.base + 8 * (512 + s.stack)) (s.base + 8 * (f + mine + theirs)) (point s full_label).place found.end (omega (arith, stands.near)) (near s laid full_label) found-at found.stack_end found.frame_end (omega (arith, over)) stands.test in
      call-full s laid x (point s full_label).place all.full_exits (silent (Called c (Run c x.d x.b))) c x.d x.b (open-call s laid x.k c x.d x.b x.world calls) refl refl may over
      (record {
        end = g.end;
        count = found.count + 3;
        few = omega (arith, found.few, s.ample);
        runs = then-runs s.base (code s) found.count 3 x.state found.end g.end found.runs g.runs;
        at = g.at;
        quiet = g.output ∙ found.output;
      })

  -- ---- there is room

  module _ (fits : f + mine + theirs ≤ 512 + s.stack) where
    abbrev g : ℕ
    g = f + mine

    abbrev next : Step
    next = silent (Called c (Run c x.d x.b))

    abbrev step : Step
    step = plugged x.frames next

    reached' : Reaches s.action s.input (step ∷ x.steps) (plug (InCalled c ∷ x.frames) (Run c x.d x.b)) x.world
    reached' = reaches-quiet s.action s.input x.steps x.frames [] (Run x.k x.d x.b) (Called c (Run c x.d x.b)) x.world x.reached (open-call s laid x.k c x.d x.b x.world calls)

    node : IsNode (node_at s.action c)
    node = all.body x.k c may

    -- there are as many data as the body wants
    long : length x.d ≡ length wanted
    long = all.takes (step ∷ x.steps) (InCalled c ∷ x.frames) x.k c x.d x.b x.world may reached'

    long-given : length x.d ≡ length given
    long-given = holds-length s.base x.runs.here.heap x.runs.here.words f given x.d x.runs.given

    large : 32 ≤ theirs
    large = laid.placed.some_frame x.k c may

    -- the test is passed
    abbrev passed : WordState
    passed = record found.end { pc = address_of (room s x.k c + 3) }

    passed-runs : run_words s.base (code s) 1 found.end ≡ Goes passed
    passed-runs = fits-passed s.base (code s) (room s x.k c) (s.base + 8 * (512 + s.stack)) (s.base + 8 * (f + mine + theirs)) (point s full_label).place found.end (omega (arith, stands.near)) found-at found.stack_end found.frame_end (omega (arith, fits)) stands.test

    passed-size : length passed.words ≡ s.count
    passed-size = ap length found.words ∙ size

    abbrev source : List ℕ
    source = given

    abbrev first : ℕ
    first = get_or given 0 0

    abbrev entering : ℕ
    entering = room s x.k c + 5

    stores : Has (code s) (address_of entering) (Store Sd 6 5 (pos 0) ∷ Store Sd 6 2 (pos 8) ∷ [])
    stores = Has-front (code s) (address_of entering) (Store Sd 6 5 (pos 0) ∷ Store Sd 6 2 (pos 8) ∷ []) (address_items first ++ (OpImm Addi 2 6 (pos 0) ∷ caught_items wanted)) stands.enters

    behind-stores : Has (code s) (address_of entering + 8) (address_items first ++ (OpImm Addi 2 6 (pos 0) ∷ caught_items wanted))
    behind-stores = Has-back (code s) (address_of entering) (Store Sd 6 5 (pos 0) ∷ Store Sd 6 2 (pos 8) ∷ []) (address_items first ++ (OpImm Addi 2 6 (pos 0) ∷ caught_items wanted)) stands.enters

    -- the first words of the new frame are written
    keeps : HasKept s.base (code s) g (address_of (stop s x.k).place) (s.base + 8 * f) passed
    keeps =
        let same : room s x.k c + 3 + 2 ≡ entering = omega arith in
        keeps-run s.base (code s) (room s x.k c + 3) g (stop s x.k).place f passed (omega (arith, stands.near)) (near s laid (stop_of x.k)) refl laid.aligned (omega (arith, laid.below, passed-size)) found.frame (found.others 2 (omega arith) ∙ x.runs.here.stands.frame_at) (omega (arith, passed-size, large, fits, laid.units_inside)) stands.back
        (subst (λ z. Has (code s) (address_of z) (Store Sd 6 5 (pos 0) ∷ Store Sd 6 2 (pos 8) ∷ [])) (sym same) stores)

    abbrev kept : List ℕ
    kept = kept_words s.base (code s) g (address_of (stop s x.k).place) (s.base + 8 * f) x.runs.here.words

    kept-are : keeps.end.words ≡ kept
    kept-are = keeps.words ∙ ap (kept_words s.base (code s) g (address_of (stop s x.k).place) (s.base + 8 * f)) (found.words ∙ x.runs.here.stands.words_are)

    kept-other : (j : ℕ) → (j < g) → get_or kept j 0 ≡ get_or x.runs.here.words j 0
    kept-other j less =
        get_or-set_other (set x.runs.here.words g (address_of (stop s x.k).place)) (g + 1) j (s.base + 8 * f) 0 (omega arith) ∙ get_or-set_other x.runs.here.words g j (address_of (stop s x.k).place) 0 (omega arith)

    kept-far : (j : ℕ) → g + 2 ≤ j → get_or kept j 0 ≡ get_or x.runs.here.words j 0
    kept-far j far =
        get_or-set_other (set x.runs.here.words g (address_of (stop s x.k).place)) (g + 1) j (s.base + 8 * f) 0 (omega arith) ∙ get_or-set_other x.runs.here.words g j (address_of (stop s x.k).place) 0 (omega arith)

    kept-size : length kept ≡ s.count
    kept-size = length-set (set x.runs.here.words g (address_of (stop s x.k).place)) (g + 1) (s.base + 8 * f) ∙ length-set x.runs.here.words g (address_of (stop s x.k).place) ∙ x.runs.here.region.size

    -- the new frame is that of the machine
    frames : HasFrames s.base (code s) f g first keeps.end
    frames =
        let there : keeps.end.pc ≡ address_of entering + 8 = omega (arith, keeps.at) in
        let all_items : (address_items first ++ (OpImm Addi 2 6 (pos 0) ∷ [])) ++ caught_items wanted ≡ address_items first ++ (OpImm Addi 2 6 (pos 0) ∷ caught_items wanted) = append_assoc (address_items first) (OpImm Addi 2 6 (pos 0) ∷ []) (caught_items wanted) in
        let has = Has-front (code s) keeps.end.pc (address_items first ++ (OpImm Addi 2 6 (pos 0) ∷ [])) (caught_items wanted) (subst (λ is. Has (code s) keeps.end.pc is) (sym all_items) (subst (λ z. Has (code s) z (address_items first ++ (OpImm Addi 2 6 (pos 0) ∷ caught_items wanted))) (sym there) behind-stores)) in
        frames-come s.base (code s) f g first keeps.end (first-near s laid x) (keeps.others 2 (omega arith) ∙ found.others 2 (omega arith) ∙ x.runs.here.stands.frame_at) (keeps.others 6 (omega arith) ∙ found.frame) (first-low s laid x) (omega (arith, fits, laid.units_inside, laid.below)) has

    -- ---- what the body is given

    given-row : first + length given ≤ mine
    given-row = row-inside given mine (laid.data_laid.row x.k) (λ o m. laid.data_laid.given_within x.k o x.runs.here.node m)

    abbrev there : ℕ
    there = get_or wanted 0 0

    wanted-row : there + length wanted ≤ theirs
    wanted-row = row-inside wanted theirs (laid.data_laid.row c) (λ o m. laid.data_laid.given_within c o node m)

    there-near : there < 33554432
    there-near = by wanted (λ o m. omega (arith, laid.data_laid.given_within c o node m, laid.data_laid.reached c node))
      where
        by : (os : List ℕ) → ((o : ℕ) → OneOf o os → o < 33554432) → get_or os 0 0 < 33554432
        by [] h = omega arith
        by (o ∷ os) h = h o Here

    frames-size : length frames.end.words ≡ s.count
    frames-size = ap length (frames.words ∙ kept-are) ∙ kept-size

    abbrev entered_items : ℕ
    entered_items = length (address_items first) + 1

    catches : Catches s.base (code s) (f + first) g wanted frames.end
    catches =
        let frame : HasFrame s.base g frames.end = record { aligned = laid.aligned; below = omega (arith, laid.below, frames-size); frame = frames.frame } in
        let prefix = address_items first ++ (OpImm Addi 2 6 (pos 0) ∷ []) in
        let all_items : prefix ++ caught_items wanted ≡ address_items first ++ (OpImm Addi 2 6 (pos 0) ∷ caught_items wanted) = append_assoc (address_items first) (OpImm Addi 2 6 (pos 0) ∷ []) (caught_items wanted) in
        let at : address_of entering + 8 + 4 * length prefix ≡ frames.end.pc = omega (arith, frames.at, keeps.at, length-append (address_items first) (OpImm Addi 2 6 (pos 0) ∷ [])) in
        let has = Has-back (code s) (address_of entering + 8) prefix (caught_items wanted) (subst (Has (code s) (address_of entering + 8)) (sym all_items) behind-stores) in
        catches-run s.base (code s) (f + first) g wanted frames.end (laid.data_laid.row c) frame frames.source
        (omega (arith, given-row, long, long-given, frames-size, large, fits, laid.units_inside))
        (omega (arith, wanted-row, frames-size, fits, laid.units_inside))
        there-near (inr (omega (arith, given-row, long, long-given))) (subst (λ z. Has (code s) z (caught_items wanted)) at has)

    abbrev words' : List ℕ
    words' = catches.written.end.words

    -- a word that is none of the new frame's is as it was
    word-kept : (j : ℕ) → (j < g) → get_or words' j 0 ≡ get_or x.runs.here.words j 0
    word-kept j less = catches.written.kept j (λ o m e. omega (arith, less, e)) ∙ ap (λ ws. get_or ws j 0) (frames.words ∙ kept-are) ∙ kept-other j less

    word-far : (j : ℕ) → 512 + s.stack ≤ j → get_or words' j 0 ≡ get_or x.runs.here.words j 0
    word-far j far =
        catches.written.kept j (λ o m e. omega (arith, far, e, laid.data_laid.given_within c o node m, fits)) ∙ ap (λ ws. get_or ws j 0) (frames.words ∙ kept-are) ∙ kept-far j (omega (arith, far, large, fits))

    words-size : length words' ≡ s.count
    words-size = catches.written.size ∙ frames-size

    -- its first two keep where it returns to, and the caller's frame
    low-kept : (i : ℕ) → i < 32 → get_or words' (g + i) 0 ≡ get_or kept (g + i) 0
    low-kept i low = catches.written.kept (g + i) (λ o m e. omega (arith, e, low, all.behind x.k c o may m)) ∙ ap (λ ws. get_or ws (g + i) 0) (frames.words ∙ kept-are)

    inside : g + 2 ≤ s.count
    inside = omega (arith, large, fits, laid.units_inside)

    returns : get_or words' (g + 0) 0 ≡ address_of (stop s x.k).place
    returns =
        let back = address_of (stop s x.k).place in
        let zero : g + 0 ≡ g = omega arith in
        low-kept 0 (omega arith) ∙ ap (λ i. get_or kept i 0) zero ∙ get_or-set_other (set x.runs.here.words g back) (g + 1) g (s.base + 8 * f) 0 (omega arith) ∙ get_or-set_same x.runs.here.words g back 0 (omega (arith, inside, x.runs.here.region.size))

    caller : get_or words' (g + 1) 0 ≡ s.base + 8 * f
    caller =
        let back = address_of (stop s x.k).place in
        low-kept 1 (omega arith) ∙ get_or-set_same (set x.runs.here.words g back) (g + 1) (s.base + 8 * f) 0 (omega (arith, inside, x.runs.here.region.size, length-set x.runs.here.words g back))

    agrees : Agrees s laid.placed x.runs.here.heap x.runs.here.heap (grows-same x.runs.here.heap) x.runs.here.words words' f x.k
    agrees = record {
      here = λ i free. ⊎_elim (λ (lt : i < mine). word-kept (f + i) (omega (arith, lt))) (λ (ge : mine ≤ i). absurd (free (laid.placed.beyond x.k i ge))) (cases_lt i mine);
      below = λ j low lt. word-kept j (omega arith);
    }

    -- the data stand in the body's frame
    given' : Holds s.base x.runs.here.heap words' g wanted x.d
    given' =
        let h = x.runs.here in
        let agree = λ (i : ℕ) (free : mine ≤ i → ⊥). ⊎_elim (λ (lt : i < mine). ap (λ ws. get_or ws (f + i) 0) (frames.words ∙ kept-are) ∙ kept-other (f + i) (omega (arith, lt))) (λ (ge : mine ≤ i). absurd (free ge)) (cases_lt i mine) in
        let apart = apart-fewer (λ i. mine ≤ i) (s.places.Writes x.k) given (λ i ge. laid.placed.beyond x.k i ge) (laid.placed.given_apart x.k) in
        let held = holds-kept s.base h.heap h.heap (grows-same h.heap) h.words frames.end.words f (λ i. mine ≤ i) agree given x.d apart x.runs.given in
        let zero : first ≡ first + 0 = omega arith in
        let row : Holds s.base h.heap frames.end.words f (in_row (first + 0) (length x.d)) x.d =
        subst (λ m. Holds s.base h.heap frames.end.words f (in_row (first + 0) m) x.d) (sym long-given) (subst (λ o. Holds s.base h.heap frames.end.words f (in_row o (length given)) x.d) zero (subst (λ os. Holds s.base h.heap frames.end.words f os x.d) (laid.data_laid.row x.k) held)) in
        catches.holds h.heap x.d long (in-row s.base h.heap frames.end.words f first 0 (length x.d) x.d row)

    -- the body begins
    abbrev jumping : ℕ
    jumping = room s x.k c + 5 + enter s x.k c

    caught-at : catches.written.end.pc ≡ address_of jumping
    caught-at = omega (arith, catches.written.at, frames.at, keeps.at, length-append (address_items first) (OpImm Addi 2 6 (pos 0) ∷ caught_items wanted))

    abbrev begun : WordState
    begun = jumped catches.written.end jumping (start s c).place

    begins : run_words s.base (code s) 2 catches.written.end ≡ Goes begun
    begins = jump-runs s.base (code s) catches.written.end jumping (start s c).place (omega (arith, stands.near)) (near s laid (start_of c)) caught-at stands.jump

    begun-low : (k : ℕ) → k < 5 → begun.registers k ≡ catches.written.end.registers k
    begun-low k lt = put-other catches.written.end.registers k 31 _ (omega arith)

    abbrev count : ℕ
    count = found.count + (1 + (4 + (frames.count + (catches.written.count + 2))))

    runs : run_words s.base (code s) count x.state ≡ Goes begun
    runs =
        then-runs s.base (code s) found.count (1 + (4 + (frames.count + (catches.written.count + 2)))) x.state found.end begun found.runs
        (then-runs s.base (code s) 1 (4 + (frames.count + (catches.written.count + 2))) found.end passed begun passed-runs
        (then-runs s.base (code s) 4 (frames.count + (catches.written.count + 2)) passed keeps.end begun keeps.runs
        (then-runs s.base (code s) frames.count (catches.written.count + 2) keeps.end frames.end begun frames.runs
        (then-runs s.base (code s) catches.written.count 2 frames.end catches.written.end begun catches.written.runs begins))))

    few : count + 64 ≤ s.factor
    few =
        let paid : 400 + 24 * (length wanted + 1) * (node_yielder_count (node_at s.action x.k) + 1) ≤ s.factor = laid.paid x.k (length wanted) (all.few c) in
        let some : 1 ≤ node_yielder_count (node_at s.action x.k) + 1 = omega arith in
        let one : 24 * (length wanted + 1) * 1 ≤ 24 * (length wanted + 1) * (node_yielder_count (node_at s.action x.k) + 1) = mul-le-mul_left (24 * (length wanted + 1)) some in
        omega (arith, found.few, frames.few, catches.written.few, paid, one)

    input : begun.input ≡ x.state.input
    input = catches.written.input ∙ frames.input ∙ keeps.input ∙ found.input

    output : begun.output ≡ x.state.output
    output = catches.written.output ∙ frames.output ∙ keeps.output ∙ found.output

    region' : Region s words' x.runs.here.chains
    region' = record {
      size = words-size;
      alternative = word-kept 1 (omega (arith, high)) ∙ x.runs.here.region.alternative;
      trap = word-kept 2 (omega (arith, high)) ∙ x.runs.here.region.trap;
      mark = word-kept 3 (omega (arith, high)) ∙ x.runs.here.region.mark;
    }

    enters : StartGoesOn s x
    enters =
        let h = x.runs.here in
        let around' = around-kept s laid.placed h.heap h.heap (grows-same h.heap) h.words words' x.frames f x.k h.chains agrees h.around in
        let called : CalledFrame s h.heap words' c f g c x.k = record { node = is-call s x.k c calls; may = may; body = refl; returns = returns; caller = caller; above = refl; ends = λ e u z. all.ends x.steps x.frames x.k c x.d x.b x.world calls x.reached e u z } in
        inl
        (quiet-advance s.base (code s) (performances s) depth (IsAt s) (start s x.k).rank x.state (starts s x)
        (record {
          count = count;
          to = begun;
          next = record { steps = step ∷ x.steps; frames = InCalled c ∷ x.frames; focus = Run c x.d x.b; world = x.world };
          next_rank = (start s c).rank;
          some = inl (omega arith);
          runs = runs;
          quiet = output;
          output = output ∙ x.shown;
          related = record {
            rests = record {
              here = record {
                f = g;
                chains = h.chains;
                heap = h.heap;
                words = words';
                stands = record { region = begun-low 3 (omega arith) ∙ catches.written.others 3 (omega arith) ∙ frames.region ∙ keeps.others 3 (omega arith) ∙ found.others 3 (omega arith) ∙ h.stands.region; frame_at = begun-low 2 (omega arith) ∙ catches.written.others 2 (omega arith) ∙ frames.frame; words_are = refl };
                region = region';
                clear = fits;
                units_are = units-kept s h.heap h.words words' x.steps (step ∷ x.steps) x.world.cells (λ j out. ⊎_elim (λ z. word-kept j (omega (arith, z.1, high))) (λ z. word-far j z) out) (omega arith) h.units_are;
                around = (x.k, f, called, around');
                node = node;
              };
              at = refl;
              rank_is = refl;
              given = given';
              receives = subst (λ ss. HoldsBinds s.base h.heap words' g ss x.b) (sym (all.unbound c)) tt;
            };
            shown = output ∙ x.shown;
            left = left-same {ys = begun.input} input x.left;
          };
          reached = reached';
          paid = omega (arith, few);
        }))

  pub call-goes : StartGoesOn s x
  call-goes = ⊎_elim (λ over. no-room over) (λ fits. enters fits) (cases_lt (512 + s.stack) (f + mine + theirs))
