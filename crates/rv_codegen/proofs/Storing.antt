-- Nodes that store: both operands are put into registers, then the unit of the cell is set. Where one of them yields nothing, the code has gone to the entry for failures, and nothing is written.
use Rattle.std.proofs.Common.{◌≡◌, ◌⊎◌, ⊎_elim, ℕ, ◌+◌, ◌*◌, ◌^◌, ◌<◌, ◌≤◌, true, false, List, [], ◌∷◌, ◌++◌, get_or, set, length, map, Option, Some, None, refl, sym, ap, ap₂, ◌∙◌, subst, arith, inl, inr, length-set, ltb, ltb-true, ltb-false}
use Rattle.std.proofs.lemmas.Bool.{cases_lt}
use Rattle.rv_code.proofs.Bools.{true-or-false}
use Rattle.rv_asm.specs.Arrivals.{LabelsStand}
use Rattle.rv_asm.specs.Assembly.{address_of, code_from, spot, total}
use Rattle.rv_asm.specs.DataWords.{StandsFor, IsCellWord}
use Rattle.rv_asm.specs.WordMachine.{WordState, Has}
use Rattle.rv_asm.specs.declared.item.Item.{Item}
use Rattle.rv_asm.specs.declared.item.Item.TheVariants.{Plain}
use Rattle.rv_asm.proofs.Labels.{total-append}
use Rattle.rv_asm.proofs.Sending.{code_from-plain}
use Rattle.rv_asm.proofs.Stretches.{quiet-between, then-runs}
use Rattle.action_terms.specs.Acting.{Run}
use Rattle.action_terms.specs.Actions.{Yielder, Store, Simple, node_at}
use Rattle.action_terms.specs.Frames.{plugged}
use Rattle.action_terms.specs.Information.{Datum, CellOf}
use Rattle.action_terms.specs.Literals.{YielderFits}
use Rattle.action_terms.specs.Need.{yielder_count, node_yielder_count}
use Rattle.action_terms.specs.Performances.{OneOf, Here}
use Rattle.action_terms.specs.Steps.{Step, Puts, closures_in, done, failed, making, open_steps, put, silent, with_effect}
use Rattle.action_terms.specs.Suited.{IsOfSort, IsSuited, IsSuitedNode, IsSuitedPrimitive}
use Rattle.action_terms.specs.Yielding.{and_then, yields}
use Rattle.action_terms.specs.declared.kinds.Sort.TheVariants as sort
use Rattle.rv_prelude.specs.PieceRuns.{HasRegion}
use Rattle.rv_prelude.specs.Pieces.{commit}
use Rattle.rv_prelude.specs.Region.{committed_words}
use Rattle.rv_yield.specs.Registers.{is_built, registers_needed}
use Rattle.rv_yield.specs.YielderCode.{value_items}
use Rattle.rv_yield.proofs.Evaluation.{BothKnown, Comes, OneMissing, operands-known, value-comes}
use Rattle.rv_yield.proofs.Steps.{Arrives}
use Rattle.rv_yield.proofs.Targets.{stands-back}
use Rattle.rv_codegen.specs.Blocks.{fail_label, stop_of}
use Rattle.rv_codegen.specs.StorageItems.{put_word, puts}
use Rattle.rv_codegen.proofs.AroundKept.{frames-high}
use Rattle.rv_codegen.proofs.CellWritten.{put-runs}
use Rattle.rv_codegen.proofs.Committing.{committed-other, committed-region}
use Rattle.rv_codegen.proofs.Ending.{nothing-done}
use Rattle.rv_codegen.proofs.Fetching.{region-kept}
use Rattle.rv_codegen.proofs.FindsGiven.{all-members, finds-given, words-many}
use Rattle.rv_codegen.proofs.Holding.{grows-same}
use Rattle.rv_codegen.proofs.InputLeft.{left-same}
use Rattle.rv_codegen.proofs.Nothing.{built-makes_none, has-words, nothing-did}
use Rattle.rv_codegen.specs.GivenItems.{alone}
use Rattle.rv_codegen.proofs.NoSlots.{alone-near, no-slots}
use Rattle.rv_codegen.proofs.OperandRegisters.{earlier-room, later-room}
use Rattle.rv_codegen.proofs.Performing.{Did, step-failed}
use Rattle.rv_codegen.proofs.PieceStands.{PieceStands, piece-stands}
use Rattle.rv_codegen.proofs.RestPoints.{Laid, Region, Starting, StartGoesOn, near, open-run}
use Rattle.rv_codegen.proofs.Settings.{way-runs, Setting, code, start, stop, exit, failure, frame_words, node_words}
use Rattle.rv_codegen.proofs.Standing.{NodeStands}
use Rattle.rv_codegen.proofs.Units.{Units, units-kept}
use Rattle.rv_codegen.proofs.UnitsStored.{spent-stored, stored_words, stored-other}

-- what the code of a node needs of the yielders of the datum and of the cell
pub record AreStorable (y1 y2 : Yielder) : Type 0 where
  pub datum_built : is_built y1 ≡ true
  pub cell_built : is_built y2 ≡ true
  pub few : yielder_count y1 + yielder_count y2 < 65536
  pub datum_fits : YielderFits y1
  pub cell_fits : YielderFits y2

-- a datum that is a cell
record IsCell (v : Datum) : Type 0 where
  number : ℕ
  is : v ≡ CellOf number

cell-datum : (v : Datum) → IsOfSort sort.Cell (Some v) → IsCell v
cell-datum (CellOf c) h = record { number = c; is = refl }
cell-datum _ h = absurd (cc)

-- where one of both operands is missing, the step fails
put-missing : (o1 o2 : Option Datum) → and_then o1 (λ x. and_then o2 (λ y. Some x)) ≡ None → put o1 o2 ≡ silent failed
put-missing None o2 h = refl
put-missing (Some x) None h = refl
put-missing (Some x) (Some y) h = absurd (let e : Some x ≡ None = h in cc)

put-missing_other : (o1 o2 : Option Datum) → and_then o2 (λ x. and_then o1 (λ y. Some x)) ≡ None → put o1 o2 ≡ silent failed
put-missing_other None o2 h = refl
put-missing_other (Some x) None h = refl
put-missing_other (Some x) (Some y) h = absurd (let e : Some y ≡ None = h in cc)

module _ (s : Setting) (laid : Laid s) (x : Starting s) (y1 y2 : Yielder) (e : node_at s.action x.k ≡ Simple (Store y1 y2)) (stands : PieceStands s x.k (puts (s.places.given x.k) y1 y2)) where
  abbrev limit : ℕ
  limit = 12 * (yielder_count y1 + yielder_count y2)

  abbrev v1 : Option Datum
  v1 = yields y1 x.d x.b x.world.cells

  abbrev v2 : Option Datum
  v2 = yields y2 x.d x.b x.world.cells

  paid : 400 + 24 * (0 + 1) * (yielder_count y1 + yielder_count y2 + 1) ≤ s.factor
  paid = subst (λ m. 400 + 24 * (0 + 1) * (node_yielder_count m + 1) ≤ s.factor) e (laid.paid x.k 0 (omega arith))

  high : 512 ≤ x.runs.here.f
  high = frames-high s x.runs.here.heap x.runs.here.words x.frames x.runs.here.f x.k x.runs.here.chains x.runs.here.around

  -- ---- both operands are in registers

  module _ (a b m : ℕ) (datum : Datum) (cell : ℕ) (high_a : 5 < a) (high_b : 5 < b) (arrives : Arrives s.base (code s) limit 10 10 x.state (address_of m)) (word : StandsFor s.base x.runs.here.heap (arrives.end.registers a) datum) (unit : IsCellWord s.base x.runs.here.heap cell (arrives.end.registers b)) (behind : m + 6 ≡ (stop s x.k).place) (has : Has (code s) (address_of m) (put_word a b ++ commit)) where
    abbrev n : Step
    n = with_effect (Puts cell datum) done

    abbrev v : ℕ
    v = arrives.end.registers a

    abbrev place : ℕ
    place = unit.place

    abbrev old : List ℕ
    old = x.runs.here.words

    abbrev stored : List ℕ
    stored = stored_words old place v

    abbrev ws : List ℕ
    ws = committed_words stored

    some : 512 < s.count
    some = laid.some

    low : 512 + s.stack ≤ place
    low = x.runs.here.units_are.now.held.cell_low cell place unit.listed

    inside : place + 2 ≤ s.count
    inside = omega (arith, x.runs.here.units_are.now.held.cell_free cell place unit.listed, x.runs.here.units_are.now.within, laid.units_inside)

    long : length stored ≡ length old
    long = length-set (set old place 1) (place + 1) v ∙ length-set old place 1

    stored-region : Region s stored x.runs.here.chains
    stored-region = region-kept s old stored x.runs.here.chains long (λ j lo lt. stored-other old place v j (inl (omega (arith, low)))) x.runs.here.region

    shut : (j : ℕ) → 4 ≤ j → get_or ws j 0 ≡ get_or stored j 0
    shut j far = committed-other s stored x.runs.here.chains stored-region.size some j far

    below-units : (j : ℕ) → 4 ≤ j → j < 512 + s.stack → get_or ws j 0 ≡ get_or old j 0
    below-units j far lt = shut j far ∙ stored-other old place v j (inl (omega (arith, low)))

    units-now : Units s x.runs.here.heap ws (plugged x.frames n ∷ x.steps) (set x.world.cells cell (Some datum))
    units-now =
        let u = x.runs.here.units_are in
        let set_units : Units s x.runs.here.heap stored (plugged x.frames n ∷ x.steps) (set x.world.cells cell (Some datum)) = record {
          spent = u.spent;
          few = omega (arith, u.few);
          now = spent-stored s x.runs.here.heap old u.spent x.world.cells cell place v datum unit.listed (omega (arith, u.now.within, laid.units_inside, x.runs.here.region.size)) word u.now;
        } in
        units-kept s x.runs.here.heap stored ws (plugged x.frames n ∷ x.steps) (plugged x.frames n ∷ x.steps) (set x.world.cells cell (Some datum)) (λ j out. shut j (⊎_elim (λ z. z.0) (λ z. omega arith) out)) (omega arith) set_units

    put-did : Did s laid x n (exit s x.k)
    put-did =
        let h = x.runs.here in
        let c = arrives.end in
        let size : length c.words ≡ s.count = ap length arrives.words ∙ words-many s laid x in
        let region_at : c.registers 3 ≡ s.base = arrives.others 3 (omega arith) (omega arith) ∙ h.stands.region in
        let frame_at : c.registers 2 ≡ s.base + 8 * h.f = arrives.others 2 (omega arith) (omega arith) ∙ h.stands.frame_at in
        let region : HasRegion s.base c = record { aligned = laid.aligned; below = omega (arith, laid.below, size); front = omega (arith, size, laid.some); region = region_at } in
        let q = put-runs s.base (code s) a b place c region high_a high_b unit.is (omega (arith, inside, size)) (subst (λ p. Has (code s) p (put_word a b ++ commit)) (sym arrives.at) has) in
        let g = way-runs s.base (code s) q.end (stop s x.k) (exit s x.k) (near s laid (stop_of x.k)) (near s laid (get_or s.exits x.k 0)) (omega (arith, q.pc, arrives.at, behind)) stands.leave in
        let count = arrives.count + (6 + g.count) in
        let runs = then-runs s.base (code s) arrives.count (6 + g.count) x.state c g.end arrives.runs (then-runs s.base (code s) 6 g.count c q.end g.end q.runs g.runs) in
        let quiet = g.output ∙ q.output ∙ arrives.output in
        record {
          end = g.end;
          count = count;
          some = inl (omega arith);
          few = omega (arith, arrives.few, g.few, paid);
          runs = runs;
          between = quiet-between s.base (code s) count x.state g.end runs quiet;
          at = g.at;
          heap = h.heap;
          grows = grows-same h.heap;
          words = ws;
          stands = record {
            region = g.others 3 (omega arith) ∙ q.others 3 (omega arith) ∙ region_at;
            frame_at = g.others 2 (omega arith) ∙ q.others 2 (omega arith) ∙ frame_at;
            words_are = g.words ∙ q.words ∙ ap (λ z. committed_words (stored_words z place v)) (arrives.words ∙ h.stands.words_are);
          };
          region = committed-region s stored h.chains stored-region.size some stored-region;
          agrees = record {
            here = λ i no. ⊎_elim
                (λ (lt : i < frame_words s x.k). below-units (h.f + i) (omega (arith, high)) (omega (arith, lt, h.clear)))
                (λ ge. absurd (no (laid.placed.beyond x.k i ge)))
                (cases_lt i (frame_words s x.k));
            below = λ j lo lt. below-units j (omega arith) (omega (arith, lt, h.clear));
          };
          units_are = units-now;
          left = left-same {ys = g.end.input} (g.input ∙ q.input ∙ arrives.input) x.left;
          output = quiet ∙ x.shown;
        }

  -- ---- what the operands come to

  module _ (ok : AreStorable y1 y2) (suited : IsSuitedPrimitive (Store y1 y2) x.d x.b x.world.cells) where
    open-put : (n : Step) → put v1 v2 ≡ n → n.made ≡ [] → OneOf n (open_steps s.action x.world (Run x.k x.d x.b))
    open-put n is none =
        let made : closures_in y1 ++ closures_in y2 ≡ [] = ap₂ (λ xs ys. xs ++ ys) (built-makes_none y1 ok.datum_built) (built-makes_none y2 ok.cell_built) in
        let same : making (closures_in y1 ++ closures_in y2) x.b (put v1 v2) ≡ n = ap₂ (λ bodies m. making bodies x.b m) made is ∙ ap (λ ms. record n { made = ms }) (sym none) in
        open-run s x.k x.d x.b x.world (Simple (Store y1 y2)) n e (subst (λ m. OneOf n (m ∷ [])) (sym same) Here)

    -- both yield
    put-goes : (a b m : ℕ) (first second : Datum) → 5 < a → 5 < b → v1 ≡ Some first → v2 ≡ Some second → (arrives : Arrives s.base (code s) limit 10 10 x.state (address_of m)) → StandsFor s.base x.runs.here.heap (arrives.end.registers a) first → StandsFor s.base x.runs.here.heap (arrives.end.registers b) second → m + 6 ≡ (stop s x.k).place → Has (code s) (address_of m) (put_word a b ++ commit) → StartGoesOn s x
    put-goes a b m first second high_a high_b is1 is2 arrives word1 word2 behind has =
        let cell = cell-datum second (subst (IsOfSort sort.Cell) is2 suited.2) in
        let unit : IsCellWord s.base x.runs.here.heap cell.number (arrives.end.registers b) = subst (StandsFor s.base x.runs.here.heap (arrives.end.registers b)) cell.is word2 in
        let step = with_effect (Puts cell.number first) done in
        let is : put v1 v2 ≡ step = ap₂ put is1 (is2 ∙ ap Some cell.is) in
        nothing-done s laid x step (open-put step is refl) refl (put-did a b m first cell.number high_a high_b arrives word1 unit behind has)

    -- one yields nothing
    put-fails : put v1 v2 ≡ silent failed → Arrives s.base (code s) limit 10 10 x.state (address_of (failure s).place) → StartGoesOn s x
    put-fails is arrives =
        step-failed s laid x (silent failed) (open-put (silent failed) is refl) refl (nothing-did s laid x limit (omega (arith, paid)) stands.behind_failure arrives)

    -- ---- the operand that comes first, and the other

    abbrev given : List ℕ
    given = s.places.given x.k

    given-inside : (o : ℕ) → OneOf o given → o < frame_words s x.k
    given-inside o m = laid.data_laid.given_within x.k o x.runs.here.node m

    near-given : (o : ℕ) → OneOf o given → o < 33554432
    near-given o m = omega (arith, given-inside o m, laid.data_laid.reached x.k x.runs.here.node)

    in-turn : ltb (registers_needed y1) (registers_needed y2) ≡ false → StartGoesOn s x
    in-turn q =
        let h = x.runs.here in
        let more = ltb-false _ _ q in
        let last = map Plain (put_word 10 11 ++ commit) in
        let i1 = value_items (alone given) 10 10 fail_label y1 in
        let i2 = value_items (alone given) 11 11 fail_label y2 in
        let is : puts given y1 y2 ≡ i1 ++ (i2 ++ last) = rw q refl in
        let at = spot s.items in
        let n0 = (start s x.k).place in
        let m = n0 + total i1 + total i2 in
        let sizes : total (puts given y1 y2) ≡ total i1 + (total i2 + 6) = omega (arith, ap total is, total-append i1 (i2 ++ last), total-append i2 last) in
        let all : Has (code s) (address_of n0) (code_from at n0 (i1 ++ (i2 ++ last))) = subst (λ z. Has (code s) (address_of n0) (code_from at n0 z)) is stands.code_stands in
        let near_given = all-members (λ o. o < 33554432) given near-given in
        let fail_near = near s laid fail_label in
        let outcome = operands-known s.base (code s) at fail_label fail_near h.heap (alone given) (alone-near near_given) h.f x.d x.b x.world.cells 10 (omega arith) y1 y2 last
        (value-comes s.base (code s) at fail_label fail_near h.heap (alone given) (alone-near near_given) h.f x.d x.b x.world.cells y1 ok.datum_built (has-words y1 ok.datum_fits) (no-slots y1 ok.datum_built x.b) suited.0 10 10 (omega arith) (earlier-room y1 y2 ok.few) (inl refl))
        (value-comes s.base (code s) at fail_label fail_near h.heap (alone given) (alone-near near_given) h.f x.d x.b x.world.cells y2 ok.cell_built (has-words y2 ok.cell_fits) (no-slots y2 ok.cell_built x.b) suited.1 11 11 (omega arith) (later-room y1 y2 ok.few more) (inl refl))
        n0 x.state (omega (arith, stands.within, ap total is)) x.runs.at all (finds-given s laid x given-inside) in
        let has : Has (code s) (address_of m) (put_word 10 11 ++ commit) = subst (Has (code s) (address_of m)) (code_from-plain at m (put_word 10 11 ++ commit)) (stands-back (code s) at (n0 + total i1) i2 last (stands-back (code s) at n0 i1 (i2 ++ last) all)) in
        ⊎_elim
        (λ p. put-goes 10 11 m p.first p.second (omega arith) (omega arith) p.first_is p.second_is (weaker p.arrives) p.first_stands p.second_stands (omega (arith, stands.behind, sizes)) has)
        (λ p. put-fails (put-missing v1 v2 (p.none (λ x y. Some x))) (weaker p.arrives))
        outcome
      where
        weaker : {address : ℕ} → Arrives s.base (code s) (12 * yielder_count y1 + 12 * yielder_count y2) 10 10 x.state address → Arrives s.base (code s) limit 10 10 x.state address
        weaker g = record { count = g.count; few = omega (arith, g.few); end = g.end; runs = g.runs; at = g.at; others = g.others; words = g.words; input = g.input; output = g.output }

    cell-first : ltb (registers_needed y1) (registers_needed y2) ≡ true → StartGoesOn s x
    cell-first q =
        let h = x.runs.here in
        let more = ltb-true _ _ q in
        let last = map Plain (put_word 11 10 ++ commit) in
        let i2 = value_items (alone given) 10 10 fail_label y2 in
        let i1 = value_items (alone given) 11 11 fail_label y1 in
        let is : puts given y1 y2 ≡ i2 ++ (i1 ++ last) = rw q refl in
        let at = spot s.items in
        let n0 = (start s x.k).place in
        let m = n0 + total i2 + total i1 in
        let sizes : total (puts given y1 y2) ≡ total i2 + (total i1 + 6) = omega (arith, ap total is, total-append i2 (i1 ++ last), total-append i1 last) in
        let all : Has (code s) (address_of n0) (code_from at n0 (i2 ++ (i1 ++ last))) = subst (λ z. Has (code s) (address_of n0) (code_from at n0 z)) is stands.code_stands in
        let near_given = all-members (λ o. o < 33554432) given near-given in
        let fail_near = near s laid fail_label in
        let few : yielder_count y2 + yielder_count y1 < 65536 = omega (arith, ok.few) in
        let outcome = operands-known s.base (code s) at fail_label fail_near h.heap (alone given) (alone-near near_given) h.f x.d x.b x.world.cells 10 (omega arith) y2 y1 last
        (value-comes s.base (code s) at fail_label fail_near h.heap (alone given) (alone-near near_given) h.f x.d x.b x.world.cells y2 ok.cell_built (has-words y2 ok.cell_fits) (no-slots y2 ok.cell_built x.b) suited.1 10 10 (omega arith) (earlier-room y2 y1 few) (inl refl))
        (value-comes s.base (code s) at fail_label fail_near h.heap (alone given) (alone-near near_given) h.f x.d x.b x.world.cells y1 ok.datum_built (has-words y1 ok.datum_fits) (no-slots y1 ok.datum_built x.b) suited.0 11 11 (omega arith) (later-room y2 y1 few (omega (arith, more))) (inl refl))
        n0 x.state (omega (arith, stands.within, ap total is)) x.runs.at all (finds-given s laid x given-inside) in
        let has : Has (code s) (address_of m) (put_word 11 10 ++ commit) = subst (Has (code s) (address_of m)) (code_from-plain at m (put_word 11 10 ++ commit)) (stands-back (code s) at (n0 + total i2) i1 last (stands-back (code s) at n0 i2 (i1 ++ last) all)) in
        ⊎_elim
        (λ p. put-goes 11 10 m p.second p.first (omega arith) (omega arith) p.second_is p.first_is (weaker p.arrives) p.second_stands p.first_stands (omega (arith, stands.behind, sizes)) has)
        (λ p. put-fails (put-missing_other v1 v2 (p.none (λ x y. Some x))) (weaker p.arrives))
        outcome
      where
        weaker : {address : ℕ} → Arrives s.base (code s) (12 * yielder_count y2 + 12 * yielder_count y1) 10 10 x.state address → Arrives s.base (code s) limit 10 10 x.state address
        weaker g = record { count = g.count; few = omega (arith, g.few); end = g.end; runs = g.runs; at = g.at; others = g.others; words = g.words; input = g.input; output = g.output }

    stores-goes : StartGoesOn s x
    stores-goes = ⊎_elim (λ q. cell-first q) (λ q. in-turn q) (true-or-false (ltb (registers_needed y1) (registers_needed y2)))

pub store-goes : (s : Setting) (laid : Laid s) (x : Starting s) (y1 y2 : Yielder) → node_at s.action x.k ≡ Simple (Store y1 y2) → AreStorable y1 y2 → LabelsStand s.items → stop_of x.k < s.labels → NodeStands s.items (node_words s) s.exits x.k (Simple (Store y1 y2)) → StartGoesOn s x
store-goes s laid x y1 y2 e ok labels within stands =
    let suits = laid.data_laid.suits x.steps x.frames x.k x.d x.b x.world x.runs.here.node x.reached in
    let suited : IsSuitedPrimitive (Store y1 y2) x.d x.b x.world.cells = subst (λ n. IsSuitedNode n x.d x.b x.world.cells) e suits.suited in
    stores-goes s laid x y1 y2 e (piece-stands s x.k (puts (s.places.given x.k) y1 y2) laid labels within (Simple (Store y1 y2)) refl stands) ok suited
