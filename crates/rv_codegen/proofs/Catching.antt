-- An escape goes to the innermost trap, in whichever frame it stands, whose handler copies the data and begins; or it ends the run.
use Rattle.std.proofs.Common.{◌≡◌, ℕ, ◌+◌, ◌*◌, ◌<◌, ◌≤◌, List, [], ◌∷◌, get_or, set, length, map, refl, sym, ap, ◌∙◌, subst, arith, length-set, get_or-set_same, get_or-set_other, inl, inr, ⊎_elim, append-nil}
use Rattle.std.proofs.Math.Nat.{mul-le-mul_left}
use Rattle.rv_asm.specs.Assembly.{address_of}
use Rattle.rv_asm.specs.Pieces.{exit_with}
use Rattle.rv_asm.specs.WordMachine.{WordState, Has}
use Rattle.rv_asm.proofs.Calls.{before_exit, before_exit-runs, exit-stops}
use Rattle.rv_asm.proofs.Moments.{quiet-advance, quiet-stop}
use Rattle.rv_asm.proofs.Stretches.{then-runs}
use Rattle.action_terms.specs.Actions.{Trapping, node_at}
use Rattle.action_terms.specs.Acting.{Esc, Ended, Run, Trap}
use Rattle.action_terms.specs.Frames.{Frame, InTrap, InTail, plug, plugged}
use Rattle.action_terms.specs.Information.{Data, World}
use Rattle.action_terms.specs.Need.{node_yielder_count}
use Rattle.action_terms.specs.Performances.{OneOf, Here, messages_bytes}
use Rattle.action_terms.specs.Steps.{Step, handler, open_steps, silent}
use Rattle.action_terms.proofs.Parts.{EachPasses, Reaches, RisesTo, reaches-quiet, reaches-rise}
use Rattle.frame_layout.specs.Layouts.{IsIn, Itself}
use Rattle.rv_prelude.specs.EntryRuns.{Resumes}
use Rattle.rv_prelude.specs.PieceRuns.{HasRegion, quietly}
use Rattle.rv_prelude.specs.Region.{Chains, HasRecord, either_mark, escaped_chains, left_open, with_chains}
use Rattle.rv_yield.specs.Evaluates.{HasFrame}
use Rattle.rv_codegen.specs.Blocks.{joint_of, start_of}
use Rattle.rv_codegen.specs.CaughtItems.{caught_items}
use Rattle.rv_codegen.proofs.ArmsDone.{none-apart}
use Rattle.rv_codegen.proofs.Around.{Around}
use Rattle.rv_codegen.proofs.AroundKept.{Agrees, around-kept, frames-high}
use Rattle.rv_codegen.proofs.CaughtPlaces.{row-inside}
use Rattle.rv_codegen.proofs.CaughtWords.{Catches, IsReadFirst, catches-run}
use Rattle.rv_codegen.proofs.Configurations.{Configuration, depth, performances, pending}
use Rattle.rv_codegen.proofs.Failing.{pending-append}
use Rattle.rv_codegen.proofs.Holding.{Holds, HoldsBinds, grows-same, holds-kept, holds-kept_binds, in_row}
use Rattle.rv_codegen.proofs.InputLeft.{Left, left-same}
use Rattle.rv_codegen.proofs.NodeParts.{IsNode, IsPartOf, KeepsRecord, part-at}
use Rattle.rv_codegen.proofs.RestPoints.{EscapesAt, GoesOn, IsAt, Laid, Region, near}
use Rattle.rv_codegen.proofs.Settings.{Setting, code, frame_words, joint, start, way-runs}
use Rattle.rv_codegen.proofs.TrapFound.{FoundTrap, found-trap, outside}
use Rattle.rv_codegen.proofs.Trapping.{LaidTrap, LaidTraps}
use Rattle.rv_codegen.proofs.Units.{units-kept}

module _ (s : Setting) (all : LaidTraps s) (steps : List Step) (fs : List Frame) (e : Data) (w : World) (state : WordState) (shown : state.output ≡ messages_bytes w.output) (left : Left state.input w.input) (rank : ℕ) (x : EscapesAt s steps w.cells rank state fs e) (reached : Reaches s.action s.input steps (plug fs (Ended (Esc e))) w) where
  abbrev now : Configuration
  now = record { steps = steps; frames = fs; focus = Ended (Esc e); world = w }

  laid : Laid s
  laid = all.records.laid

  size : length state.words ≡ s.count
  size = ap length x.here.stands.words_are ∙ x.here.region.size

  region : HasRegion s.base state
  region = record { aligned = laid.aligned; below = omega (arith, laid.below, size); front = omega (arith, laid.some, size); region = x.here.stands.region }

  head-is : get_or state.words 2 0 ≡ x.here.chains.trap
  head-is = ap (λ ws. get_or ws 2 0) x.here.stands.words_are ∙ x.here.region.trap

  mark-is : get_or state.words 3 0 ≡ x.here.chains.mark
  mark-is = ap (λ ws. get_or ws 3 0) x.here.stands.words_are ∙ x.here.region.mark

  -- there is no trap
  escapes-out : x.here.chains.trap ≡ 0 → EachPasses (Esc e) fs → GoesOn s rank state now
  escapes-out none passes =
      let g = (all.escapes_out s.base state (record { here = x.at; region = region }) (head-is ∙ none)).0 in
      let has : Has (code s) g.end.pc (exit_with 2) = subst (λ q. Has (code s) q (exit_with 2)) (sym g.at) all.escaped_exits in
      let last = before_exit s.base (code s) 2 g.end in
      let risen = reaches-rise s.action s.input steps fs [] (Esc e) w passes (subst (λ z. Reaches s.action s.input steps (plug z (Ended (Esc e))) w) (sym (append-nil fs)) reached) in
      let more = mul-le-mul_left s.factor risen.more in
      inr
      (quiet-stop s.base (code s) (performances s) depth (IsAt s) state now
      (record {
        count = g.instructions + 2;
        to = last;
        last = record { steps = risen.all; frames = []; focus = Ended (Esc e); world = w };
        exit = 2;
        runs = then-runs s.base (code s) g.instructions 2 state g.end last g.leads.words (before_exit-runs s.base (code s) 2 g.end (omega arith) has);
        quiet = g.output;
        output = g.output ∙ shown;
        exits = exit-stops s.base (code s) 2 g.end (omega arith) has;
        reached = risen.reached;
        ends = inl (refl, refl);
        paid = omega (arith, s.ample, more, g.few);
      }))

  -- the handler of the innermost trap begins
  module _ (o : FoundTrap s x.here.heap x.here.words e fs x.here.chains (x.here.f + frame_words s x.k) x.here.f x.k) where
    abbrev r : ℕ
    r = o.here.r

    abbrev keep : ℕ
    keep = s.places.keep o.n

    abbrev arm : ℕ
    arm = (joint s o.n).place

    abbrev mark : ℕ
    mark = x.here.chains.mark

    abbrev os : List ℕ
    os = s.places.given r

    abbrev first : ℕ
    first = get_or os 0 0

    abbrev source : ℕ
    source = x.here.f + x.offset

    -- the chains and the words behind the entry
    abbrev after : Chains
    after = record { alternative = left_open mark o.before.alternative; trap = o.before.trap; mark = either_mark mark o.before.mark }

    abbrev restored : List ℕ
    restored = with_chains (escaped_chains mark o.before) x.here.words

    parts : LaidTrap s o.n o.k r
    parts = all.traps o.n o.k r o.here.node

    keeps : KeepsRecord (node_at s.action o.n)
    keeps = subst KeepsRecord (sym o.here.node) tt

    part : IsPartOf (node_at s.action o.n) r
    part = part-at s.action o.n r (Trapping o.k r) o.here.node (inr refl)

    node : IsNode (node_at s.action r)
    node = laid.part_node o.n r part

    high : 512 ≤ o.f
    high = frames-high s x.here.heap x.here.words o.outer o.f o.n (outside o.now o.before) o.around

    record-inside : o.f + keep + 8 ≤ s.count
    record-inside = omega (arith, o.below, all.records.keep_below o.n keeps, x.here.clear, laid.units_inside)

    kept-record : HasRecord s.base (o.f + keep) o.f o.before arm state.words
    kept-record =
        let wa = x.here.stands.words_are in
        let word = λ (i : ℕ). ap (λ ws. get_or ws i 0) wa in
        let one : o.f + (keep + 1) ≡ o.f + keep + 1 = omega arith in
        let two : o.f + (keep + 2) ≡ o.f + keep + 2 = omega arith in
        let three : o.f + (keep + 3) ≡ o.f + keep + 3 = omega arith in
        let four : o.f + (keep + 4) ≡ o.f + keep + 4 = omega arith in
        record {
          alternative = word (o.f + keep) ∙ o.here.kept.alternative;
          arm_at = word (o.f + keep + 1) ∙ ap (λ i. get_or x.here.words i 0) (sym one) ∙ o.here.kept.arm_at;
          trap = word (o.f + keep + 2) ∙ ap (λ i. get_or x.here.words i 0) (sym two) ∙ o.here.kept.trap;
          mark = word (o.f + keep + 3) ∙ ap (λ i. get_or x.here.words i 0) (sym three) ∙ o.here.kept.mark;
          frame = word (o.f + keep + 4) ∙ ap (λ i. get_or x.here.words i 0) (sym four) ∙ o.here.kept.frame;
          behind_front = omega (arith, high);
          inside = omega (arith, record-inside, size);
          near = near s laid (joint_of o.n);
        }

    -- ---- the entry

    resumes : Resumes s.base (code s) 14 o.f state (quietly state (address_of arm) (with_chains (escaped_chains mark o.before) state.words))
    resumes = all.escapes s.base (o.f + keep) o.f arm mark o.before state (record { here = x.at; region = region }) kept-record (head-is ∙ sym o.head ∙ o.here.at) mark-is

    abbrev resumed : WordState
    resumed = resumes.0.end

    resumed-words : resumed.words ≡ restored
    resumed-words = resumes.0.words ∙ ap (with_chains (escaped_chains mark o.before)) x.here.stands.words_are

    -- the words of the region but the chains
    other : (j : ℕ) → 4 ≤ j → get_or restored j 0 ≡ get_or x.here.words j 0
    other j far =
        let ws = x.here.words in
        let w1 = set ws 1 after.alternative in
        get_or-set_other (set w1 2 after.trap) 3 j after.mark 0 (omega arith) ∙ get_or-set_other w1 2 j after.trap 0 (omega arith) ∙ get_or-set_other ws 1 j after.alternative 0 (omega arith)

    restored-region : Region s restored after
    restored-region =
        let ws = x.here.words in
        let w1 = set ws 1 after.alternative in
        let w2 = set w1 2 after.trap in
        let s1 = length-set ws 1 after.alternative in
        let s2 = length-set w1 2 after.trap in
        let s3 = length-set w2 3 after.mark in
        let many = x.here.region.size in
        record {
          size = s3 ∙ s2 ∙ s1 ∙ many;
          alternative = get_or-set_other w2 3 1 after.mark 0 (λ q. omega arith) ∙ get_or-set_other w1 2 1 after.trap 0 (λ q. omega arith) ∙ get_or-set_same ws 1 after.alternative 0 (omega (arith, many, laid.some));
          trap = get_or-set_other w2 3 2 after.mark 0 (λ q. omega arith) ∙ get_or-set_same w1 2 after.trap 0 (omega (arith, s1, many, laid.some));
          mark = get_or-set_same w2 3 after.mark 0 (omega (arith, s1, s2, many, laid.some));
        }

    -- ---- the copy

    risen : RisesTo s.action s.input steps (plug (InTrap o.n o.b ∷ o.outer) (Ended (Esc e))) w
    risen = reaches-rise s.action s.input steps o.inner (InTrap o.n o.b ∷ o.outer) (Esc e) w o.passes (subst (λ z. Reaches s.action s.input steps (plug z (Ended (Esc e))) w) o.split reached)

    long : length e ≡ length os
    long = all.fills risen.all o.outer o.n o.k r o.b e w o.here.node risen.reached

    -- the places of the handler are words of the frame
    within : (y : ℕ) → OneOf y os → y < frame_words s o.n
    within y m = let z = laid.data_laid.given_within r y node m in omega (arith, z, laid.same_frame o.n r part)

    row-within : first + length os ≤ frame_words s o.n
    row-within = row-inside os (frame_words s o.n) (laid.data_laid.row r) within

    first-near : first < 33554432
    first-near = by os (λ y m. let z = within y m in omega (arith, z, laid.data_laid.reached r node, laid.same_frame o.n r part))
      where
        by : (ys : List ℕ) → ((y : ℕ) → OneOf y ys → y < 33554432) → get_or ys 0 0 < 33554432
        by [] h = omega arith
        by (y ∷ ys) h = h y Here

    read-first : IsReadFirst (length os) source (o.f + first)
    read-first = ⊎_elim
        (λ (same : (o.f ≡ x.here.f) × IsIn s.action o.k x.k).
        ⊎_elim
        (λ (low : first ≤ x.offset). inl (omega (arith, same.0)))
        (λ (high : x.offset + length e ≤ first). inr (omega (arith, same.0, long)))
        (x.caught.read o.n o.k r o.here.node same.1))
        (λ (above : o.f + frame_words s o.k ≤ x.here.f). inl (omega (arith, row-within, left-frame)))
        o.within
      where
        left-frame : frame_words s o.k ≡ frame_words s o.n
        left-frame = laid.same_frame o.n o.k (part-at s.action o.n o.k (Trapping o.k r) o.here.node (inl refl))

    catches : Catches s.base (code s) source o.f os resumed
    catches =
        let many : length resumed.words ≡ s.count = ap length resumed-words ∙ restored-region.size in
        let frame : HasFrame s.base o.f resumed = record { aligned = laid.aligned; below = omega (arith, laid.below, many); frame = resumes.1 } in
        catches-run s.base (code s) source o.f os resumed (laid.data_laid.row r) frame (resumes.3 ∙ x.source_at)
        (omega (arith, x.caught.inside, long, many, x.here.clear, laid.units_inside))
        (omega (arith, row-within, o.below, many, x.here.clear, laid.units_inside))
        first-near read-first (subst (λ q. Has (code s) q (caught_items os)) (sym resumes.0.at) (all.codes o.n o.k r o.here.node).copies)

    abbrev copied_words : List ℕ
    copied_words = catches.written.end.words

    -- a word that is none of the handler's is as it was
    kept : (j : ℕ) → 4 ≤ j → ((y : ℕ) → OneOf y os → j ≡ o.f + y → ⊥) → get_or copied_words j 0 ≡ get_or x.here.words j 0
    kept j far none = catches.written.kept j none ∙ ap (λ ws. get_or ws j 0) resumed-words ∙ other j far

    front-kept : (j : ℕ) → j < 512 → get_or copied_words j 0 ≡ get_or restored j 0
    front-kept j low = catches.written.kept j (λ y m q. omega (arith, high, q)) ∙ ap (λ ws. get_or ws j 0) resumed-words

    agrees : Agrees s laid.placed x.here.heap x.here.heap (grows-same x.here.heap) x.here.words copied_words o.f o.n
    agrees = record {
      here = λ i no. kept (o.f + i) (omega (arith, high)) (λ y m q. no (subst (s.places.Writes o.n) (let z : y ≡ i = omega (arith, q) in z) (parts.written y m)));
      below = λ j lo lt. kept j (omega arith) (λ y m q. omega (arith, q));
    }

    copied-region : Region s copied_words after
    copied-region = record {
      size = catches.written.size ∙ ap length resumed-words ∙ restored-region.size;
      alternative = front-kept 1 (omega arith) ∙ restored-region.alternative;
      trap = front-kept 2 (omega arith) ∙ restored-region.trap;
      mark = front-kept 3 (omega arith) ∙ restored-region.mark;
    }

    -- the handler finds the data
    given' : Holds s.base x.here.heap copied_words o.f os e
    given' =
        let f = x.here.f in
        let low = frames-high s x.here.heap x.here.words fs f x.k x.here.chains x.here.around in
        let ones = in_row 0 (length e) in
        let there = holds-kept s.base x.here.heap x.here.heap (grows-same x.here.heap) x.here.words resumed.words source (λ i. ⊥) (λ i no. ap (λ ws. get_or ws (source + i) 0) resumed-words ∙ other (source + i) (omega (arith, low))) ones e (none-apart ones) x.held in
        catches.holds x.here.heap e long there

    receives' : HoldsBinds s.base x.here.heap copied_words o.f (s.places.bound o.n) o.b
    receives' = holds-kept_binds s.base x.here.heap x.here.heap (grows-same x.here.heap) x.here.words copied_words o.f (s.places.Writes o.n) agrees.here (s.places.bound o.n) o.b (laid.placed.bound_apart o.n) o.here.receives

    -- outside the trap the chains are those that the entry has left
    same-after : outside o.now o.before ≡ after
    same-after = ap (λ m. record { alternative = o.now.alternative; trap = o.before.trap; mark = either_mark m o.before.mark }) o.mark_is ∙ ap (λ z. record { alternative = z; trap = o.before.trap; mark = either_mark mark o.before.mark }) (o.here.chain ∙ ap (λ m. left_open m o.before.alternative) o.mark_is)

    around' : Around s x.here.heap copied_words o.outer o.f o.n after
    around' = subst (Around s x.here.heap copied_words o.outer o.f o.n) same-after (around-kept s laid.placed x.here.heap x.here.heap (grows-same x.here.heap) x.here.words copied_words o.outer o.f o.n (outside o.now o.before) agrees o.around)

    handles : GoesOn s rank state now
    handles =
        let h = x.here in
        let a = catches.written in
        let codes = all.codes o.n o.k r o.here.node in
        let at_copied : a.end.pc ≡ address_of codes.copied.place = omega (arith, a.at, resumes.0.at, codes.copied_is) in
        let g = way-runs s.base (code s) a.end codes.copied (start s r) codes.near_copied (near s laid (start_of r)) at_copied codes.begins in
        let some = resumes.0.instructions in
        let step = plugged o.outer (silent (Run r e o.b)) in
        let opening : OneOf (silent (Run r e o.b)) (open_steps s.action w (Trap o.n (Ended (Esc e)) o.b)) = subst (λ m. OneOf (silent (Run r e o.b)) (map silent (handler m e o.b))) (sym o.here.node) Here in
        let tried = reaches-quiet s.action s.input risen.all o.outer [] (Trap o.n (Ended (Esc e)) o.b) (Run r e o.b) w risen.reached opening in
        let le = mul-le-mul_left s.factor risen.more in
        let fewer : pending (InTrap o.n o.b ∷ o.outer) ≤ pending fs = subst (λ z. pending (InTrap o.n o.b ∷ o.outer) ≤ pending z) (sym o.split) (pending-append o.inner (InTrap o.n o.b ∷ o.outer)) in
        let paid : 400 + 24 * (length os + 1) * (0 + 1) ≤ s.factor = subst (λ m. 400 + 24 * (length os + 1) * (node_yielder_count m + 1) ≤ s.factor) o.here.node (laid.paid o.n (length os) parts.few) in
        inl
        (quiet-advance s.base (code s) (performances s) depth (IsAt s) rank state now
        (record {
          count = some + (a.count + g.count);
          to = g.end;
          next = record { steps = step ∷ risen.all; frames = InTail o.n ∷ o.outer; focus = Run r e o.b; world = w };
          next_rank = (start s r).rank;
          some = inl (omega (arith, resumes.0.some));
          runs = then-runs s.base (code s) some (a.count + g.count) state resumed g.end resumes.0.leads.words (then-runs s.base (code s) a.count g.count resumed a.end g.end a.runs g.runs);
          quiet = g.output ∙ a.output ∙ resumes.0.output;
          output = g.output ∙ a.output ∙ resumes.0.output ∙ shown;
          related = record {
            rests = record {
              here = record {
                f = o.f;
                chains = after;
                heap = h.heap;
                words = copied_words;
                stands = record { region = g.others 3 (omega arith) ∙ a.others 3 (omega arith) ∙ resumes.2 ∙ h.stands.region; frame_at = g.others 2 (omega arith) ∙ a.others 2 (omega arith) ∙ resumes.1; words_are = g.words };
                region = copied-region;
                clear = omega (arith, o.below, h.clear, laid.same_frame o.n r part);
                units_are = units-kept s h.heap h.words copied_words steps (step ∷ risen.all) w.cells
                    (λ j out. ⊎_elim (λ z. front-kept j (omega (arith, z.1)) ∙ other j z.0) (λ z. kept j (omega (arith, z)) (λ y m q. omega (arith, z, q, h.clear, o.below, within y m))) out)
                    (omega (arith, risen.spent s.sizes)) h.units_are;
                around = (parts.tail, around');
                node = node;
              };
              at = g.at;
              rank_is = refl;
              given = given';
              receives = subst (λ ss. HoldsBinds s.base h.heap copied_words o.f ss o.b) (sym parts.right_bound) receives';
            };
            shown = g.output ∙ a.output ∙ resumes.0.output ∙ shown;
            left = left-same {ys = g.end.input} (g.input ∙ a.input ∙ resumes.0.input) left;
          };
          reached = tried;
          paid = omega (arith, s.ample, le, g.few, a.few, resumes.0.few, fewer, paid);
        }))

  -- from an escape the machine goes on
  pub escapes-go : GoesOn s rank state now
  escapes-go = ⊎_elim (λ o. handles o) (λ g. escapes-out g.0 g.1) (found-trap s x.here.heap x.here.words e laid x.here.f x.k fs x.here.f x.k x.here.chains (inl (refl, Itself)) x.here.around)
