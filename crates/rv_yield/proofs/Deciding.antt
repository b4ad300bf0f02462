-- The code of a condition goes on where the truth-value is the one that is wanted.
use Rattle.std.proofs.Common.{◌≡◌, ⊎_elim, ℕ, ◌+◌, ◌*◌, ◌^◌, ◌<◌, ◌≤◌, Bool, true, false, not, if◌then◌else◌, All, List, [], ◌∷◌, ◌++◌, length, Option, Some, None, int_lt, refl, sym, ap, ◌∙◌, subst, arith, inl, eqb, ltb, ltb-true, ltb-false}
use Rattle.rv_code.proofs.Bools.{true-or-false}
use Rattle.rv_code.specs.Arithmetic.{signed, truth}
use Rattle.rv_code.specs.declared.instruction.BranchOp.{BranchOp}
use Rattle.rv_code.specs.declared.instruction.BranchOp.TheVariants.{Beq, Bne, Bge}
use Rattle.rv_code.specs.declared.instruction.Inst.{Inst}
use Rattle.rv_asm.specs.Arrivals.{moved, holds}
use Rattle.rv_asm.specs.Assembly.{address_of, code_from, total}
use Rattle.rv_asm.specs.DataWords.{Heap, StandsFor}
use Rattle.rv_asm.specs.WordMachine.{WordState, get, Has}
use Rattle.rv_asm.specs.declared.item.Item.{Item}
use Rattle.rv_asm.specs.declared.item.Item.TheVariants.{Jump, BranchTo}
use Rattle.rv_asm.proofs.Labels.{total-append}
use Rattle.rv_asm.proofs.LabelsArrive.{opposite-is_taken, far_jump-runs}
use Rattle.rv_asm.proofs.Places.{and-true}
use Rattle.rv_asm.proofs.Registers.{get-above, put-other}
use Rattle.action_terms.specs.Information.{Datum, Number, Truth, CellOf, Closure, Binds, Data, Storage}
use Rattle.action_terms.specs.Actions.{Two, Sum, Difference, Product, Quotient, Remainder, Is, Less, BothOf, EitherOf, Negation, Not, Yielder, NumberLiteral, TruthLiteral, Given, GivenAt, BoundTo, StoredIn, OnTwo, OnOne, ClosureOf}
use Rattle.action_terms.specs.Need.{yielder_count}
use Rattle.action_terms.specs.Suited.{IsOfSort, AreWanted, IsWanted, IsSuited}
use Rattle.action_terms.specs.Yielding.{bool_eq, on_two, on_one, and_then, yields}
use Rattle.action_terms.specs.declared.kinds.Sort.TheVariants as sort
use Rattle.rv_yield.specs.Conditions.{turned, literal_condition, compared, tested, condition_items}
use Rattle.rv_yield.specs.Evaluates.{HasSlots, Finds}
use Rattle.rv_yield.specs.Holding.{Places}
use Rattle.rv_yield.specs.Registers.{is_built, registers_needed, HasWords}
use Rattle.rv_yield.specs.YielderCode.{value_items}
use Rattle.rv_yield.proofs.ConditionLaws.{compared-later, compared-in_turn}
use Rattle.rv_yield.proofs.Evaluation.{BothKnown, OneMissing, exchanged, operands-known, value-comes}
use Rattle.rv_yield.proofs.Given.{IsNear}
use Rattle.rv_yield.proofs.Sorted.{same-is, less-is}
use Rattle.rv_yield.proofs.Steps.{Arrives, arrives-then, arrives-weaker, ran-none, ran-passed, ran-leaves, ran-arrives}
use Rattle.rv_yield.proofs.Targets.{Stands, stands-front, stands-back, some-count}
use Rattle.rv_yield.proofs.Valued.{Valued, Known, valued-cases}

-- ---- branches

-- a comparison, or its opposite, doesn't hold exactly where the truth-value is the one that is wanted
turned-holds :
    (wanted t : Bool) (op : BranchOp) (a b : ℕ) (e : WordState) → holds op a b e ≡ not t → holds (turned wanted op) a b e ≡ not (bool_eq t wanted)
turned-holds true true op a b e h = h
turned-holds true false op a b e h = h
turned-holds false true op a b e h = opposite-is_taken op (get e.registers a) (get e.registers b) ∙ ap not h
turned-holds false false op a b e h = opposite-is_taken op (get e.registers a) (get e.registers b) ∙ ap not h

module _ (base : ℕ) (code : List Inst) (at : ℕ → ℕ) where
  -- to a label, or behind the branch
  branch-goes :
      (op : BranchOp) (a b m l : ℕ) (e : WordState) (next : ℕ) (q : Bool) → m + 3 < 2 ^ 28 + 1 → at l < 2 ^ 28 → e.pc ≡ address_of m → address_of (m + 3) ≡ next →
      Has code e.pc (code_from at m (BranchTo op a b l ∷ [])) → holds op a b e ≡ not q → Arrives base code 3 10 10 e (if q then next else address_of (at l))
  branch-goes op a b m l e next true near l_near here there h is =
      let passed = ran-passed base code 0 10 e e op a b m (omega arith) here h.0 is (ran-none base code 10 e) in
      ran-arrives base code 1 3 10 10 e (moved e (m + 3)) next passed (omega arith) (omega arith) there
  branch-goes op a b m l e next false near l_near here there h is =
      ran-leaves base code 0 3 10 10 e e op a b m (at l) (omega arith) l_near here (h.0, (h.1.0, (h.1.1.0, tt))) is (ran-none base code 10 e) (omega arith) (omega arith)

  -- where the code goes on by what is yielded
  abbrev pub Chosen : (wanted : Bool) → (limit : ℕ) → WordState → (next otherwise nothing : ℕ) → Option Datum → Type 0
  Chosen wanted limit c next otherwise nothing (Some (Truth t)) = Arrives base code limit 10 10 c (if bool_eq t wanted then next else otherwise)
  Chosen wanted limit c next otherwise nothing (Some _) = ⊥
  Chosen wanted limit c next otherwise nothing None = Arrives base code limit 10 10 c nothing

module _
    (base : ℕ) (code : List Inst) (at : ℕ → ℕ) (otherwise l : ℕ) (o_near : at otherwise < 2 ^ 28) (l_near : at l < 2 ^ 28) (heap : Heap) (places : Places) (near_places : IsNear places) (f0 : ℕ)
    (d : Data) (b : Binds) (cells : Storage)
  where
    -- the code stands somewhere, and comes to what the truth-value says
    abbrev pub ComesTo : (wanted : Bool) → Yielder → List Item → Type 0
    ComesTo wanted y items =
        (n : ℕ) (c : WordState) → n + total items < 2 ^ 28 + 1 → c.pc ≡ address_of n → Stands code at n items → Finds base heap places f0 c d b cells →
        Chosen base code at wanted (24 * yielder_count y) c (address_of (n + total items)) (address_of (at otherwise)) (address_of (at l)) (yields y d b cells)

    -- ---- a literal

    -- nothing stands there
    none-decides : (n : ℕ) (c : WordState) → c.pc ≡ address_of n → Arrives base code 24 10 10 c (address_of (n + 0))
    none-decides n c here = ran-arrives base code 0 24 10 10 c c (address_of (n + 0)) (ran-none base code 10 c) (omega arith) (omega arith) (omega (arith, here))

    -- or a jump
    jump-decides : (n : ℕ) (c : WordState) → n + 2 < 2 ^ 28 + 1 → c.pc ≡ address_of n → Stands code at n (Jump otherwise ∷ []) → Arrives base code 24 10 10 c (address_of (at otherwise))
    jump-decides n c near here h =
        let stands = subst (λ p. Has code p (code_from at n (Jump otherwise ∷ []))) (sym here) h in
        record {
          count = 2;
          few = omega arith;
          end = _;
          runs = far_jump-runs base code n (at otherwise) (omega (arith, near)) o_near c here (stands.0, (stands.1.0, tt));
          at = refl;
          others = λ k lt ne. put-other c.registers k 31 _ (omega arith);
          words = refl;
          input = refl;
          output = refl;
        }

    literal-decides : (wanted t : Bool) → ComesTo wanted (TruthLiteral t) (literal_condition wanted t otherwise)
    literal-decides true true n c near here h finds = none-decides n c here
    literal-decides false false n c near here h finds = none-decides n c here
    literal-decides true false n c near here h finds = jump-decides n c near here h
    literal-decides false true n c near here h finds = jump-decides n c near here h

    -- ---- a value, and a branch

    truth-tested : (t : Bool) → eqb (truth t) 0 ≡ not t
    truth-tested true = refl
    truth-tested false = refl

    -- behind the value of a truth-value
    test-goes :
        (wanted : Bool) (m : ℕ) (e : WordState) (next : ℕ) (x : Datum) → m + 3 < 2 ^ 28 + 1 → e.pc ≡ address_of m → address_of (m + 3) ≡ next → IsOfSort sort.Truth (Some x) → StandsFor base heap (e.registers 10) x →
        Stands code at m (BranchTo (turned wanted Beq) 10 0 otherwise ∷ []) → Chosen base code at wanted 3 e next (address_of (at otherwise)) (address_of (at l)) (Some x)
    test-goes wanted m e next (Truth t) near here there w s h =
        branch-goes base code at (turned wanted Beq) 10 0 m otherwise e next (bool_eq t wanted) near o_near here there (subst (λ p. Has code p (code_from at m (BranchTo (turned wanted Beq) 10 0 otherwise ∷ []))) (sym here) h)
        (turned-holds wanted t Beq 10 0 e (ap (λ w. eqb w 0) s ∙ truth-tested t))
    test-goes wanted m e next (Number n) near here there w s h = absurd (cc)
    test-goes wanted m e next (CellOf k) near here there w s h = absurd (cc)
    test-goes wanted m e next (Closure k bs own) near here there w s h = absurd (cc)

    -- some code, and then more by which it is chosen
    chosen-then :
        (wanted : Bool) (l1 limit : ℕ) (c : WordState) (p next : ℕ) (v : Option Datum) → (a : Arrives base code l1 10 10 c p) → Chosen base code at wanted 3 a.end next (address_of (at otherwise)) (address_of (at l)) v →
        l1 + 3 ≤ limit → Chosen base code at wanted limit c next (address_of (at otherwise)) (address_of (at l)) v
    chosen-then wanted l1 limit c p next (Some (Truth t)) a h few = arrives-then base code l1 3 limit 10 10 10 10 10 10 c p _ a h few (omega arith) (omega arith) (inl refl) (inl refl)
    chosen-then wanted l1 limit c p next None a h few = arrives-then base code l1 3 limit 10 10 10 10 10 10 c p _ a h few (omega arith) (omega arith) (inl refl) (inl refl)
    chosen-then wanted l1 limit c p next (Some (Number n)) a h few = absurd h
    chosen-then wanted l1 limit c p next (Some (CellOf k)) a h few = absurd h
    chosen-then wanted l1 limit c p next (Some (Closure k bs own)) a h few = absurd h

    test-decides :
        (wanted : Bool) (y : Yielder) → is_built y ≡ true → HasWords y → HasSlots places.bound y b → IsSuited y d b cells → registers_needed y ≤ 16 → IsOfSort sort.Truth (yields y d b cells) → ComesTo wanted y (tested places wanted otherwise l y)
    test-decides wanted y built words slots suited few sorted n c near here h finds =
        let a = value_items places 10 10 l y in
        let last = BranchTo (turned wanted Beq) 10 0 otherwise ∷ [] in
        let sizes : total (a ++ last) ≡ total a + 3 = total-append a last in
        let limit = 12 * yielder_count y in
        let value = value-comes base code at l l_near heap places near_places f0 d b cells y built words slots suited 10 10 (omega arith) (omega (arith, few)) (inl refl) n c (omega (arith, near, sizes)) here (stands-front code at n a last h) finds in
        ⊎_elim
        (λ (p : Known base code heap limit 10 10 c (address_of (n + total a)) (yields y d b cells)).
        let v = p.is in
        let next = address_of (n + total (a ++ last)) in
        let goes = test-goes wanted (n + total a) p.arrives.end next p.datum (omega (arith, near, sizes)) p.arrives.at (omega (arith, sizes)) (subst (IsOfSort sort.Truth) v sorted) p.stands (stands-back code at n a last h) in
        rw v (chosen-then wanted limit (24 * yielder_count y) c (address_of (n + total a)) next (Some p.datum) p.arrives goes (omega (arith, some-count y))))
        (λ (p : (yields y d b cells ≡ None) × Arrives base code limit 10 10 c (address_of (at l))).
        let v = p.0 in
        rw v (arrives-weaker base code limit (24 * yielder_count y) 10 10 10 10 c (address_of (at l)) p.1 (omega arith) (omega arith) (inl refl)))
        (valued-cases base code heap limit 10 10 c (address_of (n + total a)) (address_of (at l)) (yields y d b cells) value)

    -- ---- a comparison of two values

    -- the truth-value of an operation, by a comparison that doesn't hold exactly where it is true
    pub record Compares (f : Two) (op : BranchOp) (r1 r2 : ℕ) (e : WordState) (x y : Datum) : Type 0 where
      pub result : Bool
      pub is : on_two f x y ≡ Some (Truth result)
      pub holds_not : holds op r1 r2 e ≡ not result

    -- so it is for all data that are wanted
    abbrev pub ComparesAll : Two → BranchOp → Type 0
    ComparesAll f op =
        (r1 r2 : ℕ) (e : WordState) (x y : Datum) → 0 < r1 → 0 < r2 → AreWanted f (Some x) (Some y) → StandsFor base heap (e.registers r1) x → StandsFor base heap (e.registers r2) y → Finds base heap places f0 e d b cells →
        Compares f op r1 r2 e x y

    pub is-compares : ComparesAll Is Bne
    is-compares r1 r2 e x y some1 some2 w s t finds =
        let same = same-is base heap (length e.words) finds.cells finds.frame.below (e.registers r1) (e.registers r2) x y w s t in
        record {
          result = same.result;
          is = same.is;
          holds_not = ap (λ v. not (eqb v (get e.registers r2))) (get-above e.registers r1 some1) ∙ ap (λ v. not (eqb (e.registers r1) v)) (get-above e.registers r2 some2) ∙ ap not same.words;
        }

    pub less-compares : ComparesAll Less Bge
    less-compares r1 r2 e x y some1 some2 w s t finds =
        let less = less-is base heap (length e.words) finds.cells finds.frame.below (e.registers r1) (e.registers r2) x y w s t in
        record {
          result = less.0;
          is = less.1;
          holds_not =
              ap (λ v. not (int_lt (signed v) (signed (get e.registers r2)))) (get-above e.registers r1 some1) ∙ ap (λ v. not (int_lt (signed (e.registers r1)) (signed v))) (get-above e.registers r2 some2)
              ∙ ap not less.2;
        }

    compare-goes :
        (f : Two) (op : BranchOp) → ComparesAll f op → (wanted : Bool) (r1 r2 m : ℕ) (e : WordState) (next : ℕ) (x y : Datum) → 0 < r1 → 0 < r2 → m + 3 < 2 ^ 28 + 1 → e.pc ≡ address_of m → address_of (m + 3) ≡ next →
        AreWanted f (Some x) (Some y) → StandsFor base heap (e.registers r1) x → StandsFor base heap (e.registers r2) y → Finds base heap places f0 e d b cells → Stands code at m (BranchTo (turned wanted op) r1 r2 otherwise ∷ []) →
        Chosen base code at wanted 3 e next (address_of (at otherwise)) (address_of (at l)) (on_two f x y)
    compare-goes f op compares wanted r1 r2 m e next x y some1 some2 near here there w s t finds h =
        let g = compares r1 r2 e x y some1 some2 w s t finds in
        let v = g.is in
        let went =
        branch-goes base code at (turned wanted op) r1 r2 m otherwise e next (bool_eq g.result wanted) near o_near here there (subst (λ p. Has code p (code_from at m (BranchTo (turned wanted op) r1 r2 otherwise ∷ []))) (sym here) h)
        (turned-holds wanted g.result op r1 r2 e g.holds_not) in
        subst (Chosen base code at wanted 3 e next (address_of (at otherwise)) (address_of (at l))) (sym v) went

    module _
        (f : Two) (op : BranchOp) (compares : ComparesAll f op) (wanted : Bool) (y1 y2 : Yielder) (built1 : is_built y1 ≡ true) (built2 : is_built y2 ≡ true) (words1 : HasWords y1) (words2 : HasWords y2)
        (slots1 : HasSlots places.bound y1 b) (slots2 : HasSlots places.bound y2 b) (suited1 : IsSuited y1 d b cells) (suited2 : IsSuited y2 d b cells) (both_wanted : AreWanted f (yields y1 d b cells) (yields y2 d b cells)) (few : registers_needed (OnTwo f y1 y2) ≤ 16)
      where
        abbrev pub limit : ℕ
        limit = 24 * yielder_count (OnTwo f y1 y2)

        abbrev pub branch : (a b : ℕ) → List Item
        branch a b = BranchTo (turned wanted op) a b otherwise ∷ []

        abbrev pub placed : List Item → Type 0
        placed items =
            (n : ℕ) (c : WordState) → n + total items < 2 ^ 28 + 1 → c.pc ≡ address_of n → Stands code at n items → Finds base heap places f0 c d b cells →
            Chosen base code at wanted limit c (address_of (n + total items)) (address_of (at otherwise)) (address_of (at l)) (and_then (yields y1 d b cells) (λ x. and_then (yields y2 d b cells) (on_two f x)))

        comes : (y : Yielder) → is_built y ≡ true → HasWords y → HasSlots places.bound y b → IsSuited y d b cells → (free : ℕ) → 10 ≤ free → free + registers_needed y ≤ 26 →
            (n : ℕ) (c : WordState) → n + total (value_items places free free l y) < 2 ^ 28 + 1 → c.pc ≡ address_of n → Stands code at n (value_items places free free l y) → Finds base heap places f0 c d b cells →
            Valued base code heap (12 * yielder_count y) free free c (address_of (n + total (value_items places free free l y))) (address_of (at l)) (yields y d b cells)
        comes y built words slots suited free low room = value-comes base code at l l_near heap places near_places f0 d b cells y built words slots suited free free low room (inl refl)

        in-turn : ltb (registers_needed y1) (registers_needed y2) ≡ false → placed (value_items places 10 10 l y1 ++ (value_items places 11 11 l y2 ++ branch 10 11))
        in-turn q n c near here h finds =
            let more = ltb-false _ _ q in
            let a = value_items places 10 10 l y1 in
            let e = value_items places 11 11 l y2 in
            let last = branch 10 11 in
            let sizes : total (a ++ (e ++ last)) ≡ total a + (total e + 3) = omega (arith, total-append a (e ++ last), total-append e last) in
            let stands = stands-back code at (n + total a) e last (stands-back code at n a (e ++ last) h) in
            let next = address_of (n + total (a ++ (e ++ last))) in
            ⊎_elim
            (λ (p : BothKnown base code at l l_near heap places near_places f0 d b cells 10 (12 * yielder_count y1 + 12 * yielder_count y2) y1 y2 c (address_of (n + total a + total e))).
            let v1 = p.first_is in
            let v2 = p.second_is in
            let w : AreWanted f (Some p.first) (Some p.second) = subst (λ o. AreWanted f o (Some p.second)) v1 (subst (AreWanted f (yields y1 d b cells)) v2 both_wanted) in
            let goes = compare-goes f op compares wanted 10 11 (n + total a + total e) p.arrives.end next p.first p.second (omega arith) (omega arith) (omega (arith, near, sizes)) p.arrives.at (omega (arith, sizes)) w p.first_stands p.second_stands p.finds stands in
            rw (v1, v2) (chosen-then wanted (12 * yielder_count y1 + 12 * yielder_count y2) limit c (address_of (n + total a + total e)) next (on_two f p.first p.second) p.arrives goes (omega arith)))
            (λ (p : OneMissing base code at l l_near heap places near_places f0 d b cells 10 (12 * yielder_count y1 + 12 * yielder_count y2) y1 y2 c).
            let v = p.none (on_two f) in
            rw v (arrives-weaker base code (12 * yielder_count y1 + 12 * yielder_count y2) limit 10 10 10 10 c (address_of (at l)) p.arrives (omega arith) (omega arith) (inl refl)))
            (operands-known base code at l l_near heap places near_places f0 d b cells 10 (omega arith) y1 y2 last (comes y1 built1 words1 slots1 suited1 10 (omega arith) (omega (arith, few))) (comes y2 built2 words2 slots2 suited2 11 (omega arith) (omega (arith, few, more))) n c near here h finds)

        later : ltb (registers_needed y1) (registers_needed y2) ≡ true → placed (value_items places 10 10 l y2 ++ (value_items places 11 11 l y1 ++ branch 11 10))
        later q n c near here h finds =
            let more = ltb-true _ _ q in
            let a = value_items places 10 10 l y2 in
            let e = value_items places 11 11 l y1 in
            let last = branch 11 10 in
            let sizes : total (a ++ (e ++ last)) ≡ total a + (total e + 3) = omega (arith, total-append a (e ++ last), total-append e last) in
            let stands = stands-back code at (n + total a) e last (stands-back code at n a (e ++ last) h) in
            let next = address_of (n + total (a ++ (e ++ last))) in
            let order = exchanged base code at l l_near heap places near_places f0 d b cells (yields y1 d b cells) (yields y2 d b cells) (on_two f) in
            ⊎_elim
            (λ (p : BothKnown base code at l l_near heap places near_places f0 d b cells 10 (12 * yielder_count y2 + 12 * yielder_count y1) y2 y1 c (address_of (n + total a + total e))).
            let v2 = p.first_is in
            let v1 = p.second_is in
            let w : AreWanted f (Some p.second) (Some p.first) = subst (λ o. AreWanted f o (Some p.first)) v1 (subst (AreWanted f (yields y1 d b cells)) v2 both_wanted) in
            let goes = compare-goes f op compares wanted 11 10 (n + total a + total e) p.arrives.end next p.second p.first (omega arith) (omega arith) (omega (arith, near, sizes)) p.arrives.at (omega (arith, sizes)) w p.second_stands p.first_stands p.finds stands in
            rw (v1, v2) (chosen-then wanted (12 * yielder_count y2 + 12 * yielder_count y1) limit c (address_of (n + total a + total e)) next (on_two f p.second p.first) p.arrives goes (omega arith)))
            (λ (p : OneMissing base code at l l_near heap places near_places f0 d b cells 10 (12 * yielder_count y2 + 12 * yielder_count y1) y2 y1 c).
            let v = order ∙ p.none (λ x y. on_two f y x) in
            rw v (arrives-weaker base code (12 * yielder_count y2 + 12 * yielder_count y1) limit 10 10 10 10 c (address_of (at l)) p.arrives (omega arith) (omega arith) (inl refl)))
            (operands-known base code at l l_near heap places near_places f0 d b cells 10 (omega arith) y2 y1 last (comes y2 built2 words2 slots2 suited2 10 (omega arith) (omega (arith, few))) (comes y1 built1 words1 slots1 suited1 11 (omega arith) (omega (arith, few, more))) n c near here h finds)

        pub compared-decides : placed (compared places (turned wanted op) otherwise l y1 y2)
        compared-decides =
            ⊎_elim (λ q. subst placed (sym (compared-later places (turned wanted op) otherwise l y1 y2 q)) (later q)) (λ q. subst placed (sym (compared-in_turn places (turned wanted op) otherwise l y1 y2 q)) (in-turn q))
            (true-or-false (ltb (registers_needed y1) (registers_needed y2)))

    -- ---- every condition

    not-sorted : (o : Option Datum) → IsOfSort sort.Truth (and_then o (on_one Not)) → IsWanted Not o → IsOfSort sort.Truth o
    not-sorted None h w = tt
    not-sorted (Some x) h w = w

    -- behind a negation the other truth-value is wanted
    not-chosen :
        (wanted : Bool) (limit : ℕ) (c : WordState) (next : ℕ) (v : Option Datum) → Chosen base code at (not wanted) limit c next (address_of (at otherwise)) (address_of (at l)) v →
        Chosen base code at wanted (24 + limit) c next (address_of (at otherwise)) (address_of (at l)) (and_then v (on_one Not))
    not-chosen wanted limit c next None h = arrives-weaker base code limit (24 + limit) 10 10 10 10 c (address_of (at l)) h (omega arith) (omega arith) (inl refl)
    not-chosen wanted limit c next (Some (Truth t)) h =
        arrives-weaker base code limit (24 + limit) 10 10 10 10 c _ (subst (λ q. Arrives base code limit 10 10 c (if q then next else address_of (at otherwise))) (turned-equal t wanted) h) (omega arith) (omega arith) (inl refl)
      where
        turned-equal : (t wanted : Bool) → bool_eq t (not wanted) ≡ bool_eq (not t) wanted
        turned-equal true true = refl
        turned-equal true false = refl
        turned-equal false true = refl
        turned-equal false false = refl
    not-chosen wanted limit c next (Some (Number n)) h = absurd h
    not-chosen wanted limit c next (Some (CellOf k)) h = absurd h
    not-chosen wanted limit c next (Some (Closure k bs own)) h = absurd h

    pub condition-comes :
        (y : Yielder) (wanted : Bool) → is_built y ≡ true → HasWords y → HasSlots places.bound y b → IsSuited y d b cells → registers_needed y ≤ 16 → IsOfSort sort.Truth (yields y d b cells) → ComesTo wanted y (condition_items places wanted otherwise l y)
    condition-comes (TruthLiteral t) wanted built words slots suited few sorted n c near here h finds = literal-decides wanted t n c near here h finds
    condition-comes (OnOne Not y) wanted built words slots suited few sorted n c near here h finds =
        let v = yields y d b cells in
        let inner = condition-comes y (not wanted) built words slots suited.0 few (not-sorted v sorted suited.1) n c near here h finds in
        let more : 24 + 24 * yielder_count y ≡ 24 * yielder_count (OnOne Not y) = omega arith in
        subst (λ k. Chosen base code at wanted k c (address_of (n + total (condition_items places (not wanted) otherwise l y))) (address_of (at otherwise)) (address_of (at l)) (and_then v (on_one Not))) more
        (not-chosen wanted (24 * yielder_count y) c (address_of (n + total (condition_items places (not wanted) otherwise l y))) v inner)
    condition-comes (OnTwo Is y1 y2) wanted built words slots suited few sorted n c near here h finds =
        let q = and-true (is_built y1) (is_built y2) built in
        compared-decides Is Bne is-compares wanted y1 y2 q.0 q.1 words.0 words.1 slots.0 slots.1 suited.0 suited.1 suited.2 few n c near here h finds
    condition-comes (OnTwo Less y1 y2) wanted built words slots suited few sorted n c near here h finds =
        let q = and-true (is_built y1) (is_built y2) built in
        compared-decides Less Bge less-compares wanted y1 y2 q.0 q.1 words.0 words.1 slots.0 slots.1 suited.0 suited.1 suited.2 few n c near here h finds
    condition-comes (NumberLiteral z) wanted built words slots suited few sorted n c near here h finds = test-decides wanted (NumberLiteral z) built words slots suited few sorted n c near here h finds
    condition-comes (Given s) wanted built words slots suited few sorted n c near here h finds = test-decides wanted (Given s) built words slots suited few sorted n c near here h finds
    condition-comes (GivenAt s k) wanted built words slots suited few sorted n c near here h finds = test-decides wanted (GivenAt s k) built words slots suited few sorted n c near here h finds
    condition-comes (OnOne Negation y) wanted built words slots suited few sorted n c near here h finds = test-decides wanted (OnOne Negation y) built words slots suited few sorted n c near here h finds
    condition-comes (OnTwo Sum y1 y2) wanted built words slots suited few sorted n c near here h finds = test-decides wanted (OnTwo Sum y1 y2) built words slots suited few sorted n c near here h finds
    condition-comes (OnTwo Difference y1 y2) wanted built words slots suited few sorted n c near here h finds = test-decides wanted (OnTwo Difference y1 y2) built words slots suited few sorted n c near here h finds
    condition-comes (OnTwo Product y1 y2) wanted built words slots suited few sorted n c near here h finds = test-decides wanted (OnTwo Product y1 y2) built words slots suited few sorted n c near here h finds
    condition-comes (OnTwo Quotient y1 y2) wanted built words slots suited few sorted n c near here h finds = test-decides wanted (OnTwo Quotient y1 y2) built words slots suited few sorted n c near here h finds
    condition-comes (OnTwo Remainder y1 y2) wanted built words slots suited few sorted n c near here h finds = test-decides wanted (OnTwo Remainder y1 y2) built words slots suited few sorted n c near here h finds
    condition-comes (OnTwo BothOf y1 y2) wanted built words slots suited few sorted n c near here h finds = test-decides wanted (OnTwo BothOf y1 y2) built words slots suited few sorted n c near here h finds
    condition-comes (OnTwo EitherOf y1 y2) wanted built words slots suited few sorted n c near here h finds = test-decides wanted (OnTwo EitherOf y1 y2) built words slots suited few sorted n c near here h finds
    condition-comes (BoundTo s t) wanted built words slots suited few sorted n c near here h finds = test-decides wanted (BoundTo s t) built words slots suited few sorted n c near here h finds
    condition-comes (StoredIn s y) wanted built words slots suited few sorted n c near here h finds = test-decides wanted (StoredIn s y) built words slots suited few sorted n c near here h finds
    condition-comes (ClosureOf k) wanted built words slots suited few sorted n c near here h finds = absurd (cc)
