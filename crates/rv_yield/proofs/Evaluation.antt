-- The code of a yielder leaves its value, by induction over the yielder.
use Rattle.std.proofs.Common.{◌≡◌, ◌≢◌, ◌⊎◌, ⊎_elim, ℕ, ◌+◌, ◌*◌, ◌^◌, ◌<◌, ◌≤◌, true, false, All, List, ◌++◌, length, map, Option, Some, None, ℤ, pos, ◌+ℤ◌, int_lt, FitsSigned, refl, sym, ap, ◌∙◌, subst, arith, inl, inr, w64, ltb, ltb-true, ltb-false}
use Rattle.rv_code.proofs.Bools.{true-or-false}
use Rattle.rv_code.specs.Arithmetic.{unsigned}
use Rattle.rv_code.specs.declared.instruction.Inst.{Inst}
use Rattle.rv_asm.specs.Assembly.{address_of, code_from, total}
use Rattle.rv_asm.specs.Conventions.{integer_word, truth_word}
use Rattle.rv_asm.specs.DataWords.{Heap, StandsFor}
use Rattle.rv_asm.specs.Pieces.{load_constant}
use Rattle.rv_asm.specs.WordMachine.{WordState, get, put, Has}
use Rattle.rv_asm.specs.declared.item.Item.{Item}
use Rattle.rv_asm.specs.declared.item.Item.TheVariants.{Plain}
use Rattle.rv_asm.proofs.Constants.{length-load_constant, load_constant-runs}
use Rattle.rv_asm.proofs.Labels.{total-append}
use Rattle.rv_asm.proofs.Places.{and-true}
use Rattle.rv_asm.proofs.Registers.{put-other, get-above}
use Rattle.rv_asm.proofs.Sending.{code_from-plain, total-plain}
use Rattle.action_terms.specs.Information.{Datum, Number, Truth, CellOf, Closure, Binds, Data, Storage}
use Rattle.action_terms.specs.Bindings.{lookup}
use Rattle.action_terms.specs.Actions.{Two, One, Yielder, NumberLiteral, TruthLiteral, Given, GivenAt, BoundTo, StoredIn, OnTwo, OnOne, ClosureOf}
use Rattle.action_terms.specs.Need.{yielder_count}
use Rattle.action_terms.specs.Suited.{IsOfSort, AreWanted, IsWanted, IsSuited}
use Rattle.action_terms.specs.Yielding.{within_64, on_two, on_one, of_sort, only, nth, stored, and_then, yields}
use Rattle.action_terms.specs.declared.kinds.Sort.{Sort}
use Rattle.action_terms.specs.declared.kinds.Sort.TheVariants as sort
use Rattle.rv_yield.specs.Evaluates.{Finds, HasSlots}
use Rattle.rv_yield.specs.Holding.{Places, only_offset, nth_offset, slot_offset}
use Rattle.rv_yield.specs.Registers.{is_built, registers_needed, HasWords}
use Rattle.rv_yield.specs.YielderCode.{operation_items, one_items, addition_items, content_items, placed_items, second_constant, first_constant, of_literal, addend_for, value_items}
use Rattle.rv_yield.specs.Tasks.{IsTarget}
use Rattle.rv_yield.proofs.Numbers.{fits-below}
use Rattle.rv_yield.proofs.Additions.{second-added, first-added}
use Rattle.rv_yield.proofs.Checks.{IsValue}
use Rattle.rv_yield.proofs.Contents.{content-comes, and_then-nested}
use Rattle.rv_yield.proofs.Given.{IsNear, Stands_at, only-stands, nth-stands, bound-stands, sort-same, placed-comes}
use Rattle.rv_yield.proofs.Sorted.{operation-valued, one-valued}
use Rattle.rv_yield.proofs.Steps.{put-written, Arrives, arrives-then, arrives-weaker}
use Rattle.rv_yield.proofs.Sums.{addition-does}
use Rattle.rv_yield.proofs.Targets.{some-count, some-need, option-cases, Stands, stands-front, stands-back, target-value, target-low, truth-below, target-apart, addend-target, addend-apart}
use Rattle.rv_yield.proofs.Valued.{Valued, HasValue, NoValue, Known, valued-cases, valued-integer, valued-then, finds-after}

module _
    (base : ℕ) (code : List Inst) (at : ℕ → ℕ) (l : ℕ) (l_near : at l < 2 ^ 28) (heap : Heap) (places : Places) (near_places : IsNear places) (f0 : ℕ)
    (d : Data) (b : Binds) (cells : Storage)
  where
    -- the code of a yielder, wherever it stands, comes to what the yielder yields
    abbrev pub Comes : (to free : ℕ) → Yielder → Type 0
    Comes to free y =
        (n : ℕ) (c : WordState) → n + total (value_items places to free l y) < 2 ^ 28 + 1 → c.pc ≡ address_of n → Stands code at n (value_items places to free l y) → Finds base heap places f0 c d b cells →
        Valued base code heap (12 * yielder_count y) to free c (address_of (n + total (value_items places to free l y))) (address_of (at l)) (yields y d b cells)

    -- a constant is put into the register
    constant-comes :
        (to free w : ℕ) (x : Datum) → w < 2 ^ 64 → StandsFor base heap w x → IsValue to → (n : ℕ) (c : WordState) → c.pc ≡ address_of n → Stands code at n (map Plain (load_constant to w)) →
        Valued base code heap 12 to free c (address_of (n + total (map Plain (load_constant to w)))) (address_of (at l)) (Some x)
    constant-comes to free w x below stands v n c here h =
        let piece = load_constant to w in
        let has : Has code c.pc piece = subst (λ p. Has code p piece) (sym here) (subst (Has code (address_of n)) (code_from-plain at n piece) h) in
        HasValue x
        (record {
          count = length piece;
          few = omega (arith, length-load_constant to w);
          end = record c { pc = c.pc + 4 * length piece; registers = put c.registers to w };
          runs = load_constant-runs base code to w c v.0 below has;
          at = omega (arith, here, total-plain piece);
          others = λ k lt ne. put-other c.registers k to w ne;
          words = refl;
          input = refl;
          output = refl;
        })
        (subst (λ u. StandsFor base heap u x) (sym (put-written c.registers to w v.0)) stands)

    -- what is given, and what a token is bound to, is loaded from where it stands
    given-comes :
        (to free : ℕ) (o : Option ℕ) (s : Sort) (v : Option Datum) → 10 ≤ to → free ≤ 31 → IsOfSort s v → (n : ℕ) (c : WordState) → Stands_at base heap c.words f0 o v →
        n + total (placed_items o to l) < 2 ^ 28 + 1 → c.pc ≡ address_of n → Stands code at n (placed_items o to l) → Finds base heap places f0 c d b cells →
        Valued base code heap 12 to free c (address_of (n + total (placed_items o to l))) (address_of (at l)) (and_then v (of_sort s))
    given-comes to free o s v low few sorted n c stands near here h finds =
        subst (Valued base code heap 12 to free c (address_of (n + total (placed_items o to l))) (address_of (at l))) (sym (sort-same s v sorted))
        (placed-comes base code to free low heap at l n c f0 o v stands finds.frame few near l_near here h)

    -- both operands are known behind their code: the first in the register `free`, the second in the one behind it
    pub record BothKnown (free limit : ℕ) (y1 y2 : Yielder) (c : WordState) (place : ℕ) : Type 0 where
      pub first : Datum
      pub second : Datum
      pub first_is : yields y1 d b cells ≡ Some first
      pub second_is : yields y2 d b cells ≡ Some second
      pub arrives : Arrives base code limit free free c place
      pub first_stands : StandsFor base heap (arrives.end.registers free) first
      pub second_stands : StandsFor base heap (arrives.end.registers (free + 1)) second
      pub finds : Finds base heap places f0 arrives.end d b cells

    -- or one of them yields nothing
    pub record OneMissing (free limit : ℕ) (y1 y2 : Yielder) (c : WordState) : Type 0 where
      pub none : (g : Datum → Datum → Option Datum) → and_then (yields y1 d b cells) (λ x. and_then (yields y2 d b cells) (g x)) ≡ None
      pub arrives : Arrives base code limit free free c (address_of (at l))

    -- two operands come one behind the other, and something behind them
    module _ (free : ℕ) (low : 10 ≤ free) (y1 y2 : Yielder) (last : List Item) where
      abbrev both : List Item
      both = value_items places free free l y1 ++ (value_items places (free + 1) (free + 1) l y2 ++ last)

      abbrev pub behind_both : ℕ → ℕ
      behind_both n = n + total (value_items places free free l y1) + total (value_items places (free + 1) (free + 1) l y2)

      abbrev pub limit_both : ℕ
      limit_both = 12 * yielder_count y1 + 12 * yielder_count y2

      pub operands-known :
          Comes free free y1 → Comes (free + 1) (free + 1) y2 → (n : ℕ) (c : WordState) → n + total both < 2 ^ 28 + 1 → c.pc ≡ address_of n → Stands code at n both → Finds base heap places f0 c d b cells →
          BothKnown free limit_both y1 y2 c (address_of (behind_both n)) ⊎ OneMissing free limit_both y1 y2 c
      unfolding arrives-then
      operands-known comes1 comes2 n c near here h finds =
          let a = value_items places free free l y1 in
          let e = value_items places (free + 1) (free + 1) l y2 in
          let sizes : total (a ++ (e ++ last)) ≡ total a + (total e + total last) = omega (arith, total-append a (e ++ last), total-append e last) in
          let h2 = stands-back code at n a (e ++ last) h in
          let one = valued-cases base code heap (12 * yielder_count y1) free free c (address_of (n + total a)) (address_of (at l)) (yields y1 d b cells)
          (comes1 n c (omega (arith, near, sizes)) here (stands-front code at n a (e ++ last) h) finds) in
          ⊎_elim
          (λ (p : Known base code heap (12 * yielder_count y1) free free c (address_of (n + total a)) (yields y1 d b cells)).
          let c1 = p.arrives.end in
          let finds1 = finds-after base code heap places f0 c c1 d b cells (p.arrives.others 2 (omega (arith, low)) (omega (arith, low))) p.arrives.words finds in
          let two = valued-cases base code heap (12 * yielder_count y2) (free + 1) (free + 1) c1 (address_of (n + total a + total e)) (address_of (at l)) (yields y2 d b cells)
          (comes2 (n + total a) c1 (omega (arith, near, sizes)) p.arrives.at (stands-front code at (n + total a) e last h2) finds1) in
          ⊎_elim (λ q. inl (known n c p q (finds-after base code heap places f0 c1 q.arrives.end d b cells (q.arrives.others 2 (omega (arith, low)) (omega (arith, low))) q.arrives.words finds1)))
          (λ (q : (yields y2 d b cells ≡ None) × Arrives base code (12 * yielder_count y2) (free + 1) (free + 1) c1 (address_of (at l))).
          let v1 = p.is in
          let v2 = q.0 in
          inr (record {
            none = λ g. rw (v1, v2) refl;
            arrives = arrives-then base code (12 * yielder_count y1) (12 * yielder_count y2) limit_both free (free + 1) free free (free + 1) free c (address_of (n + total a)) (address_of (at l)) p.arrives q.1 (omega arith) (omega arith) (omega arith) (inl refl) (inr (omega arith));
          }))
          two)
          (λ (p : (yields y1 d b cells ≡ None) × Arrives base code (12 * yielder_count y1) free free c (address_of (at l))).
          let v = p.0 in
          inr (record {
            none = λ g. rw v refl;
            arrives = arrives-weaker base code (12 * yielder_count y1) limit_both free free free free c (address_of (at l)) p.1 (omega arith) (omega arith) (inl refl);
          }))
          one
        where
          known :
              (n : ℕ) (c : WordState) (p : Known base code heap (12 * yielder_count y1) free free c (address_of (n + total (value_items places free free l y1))) (yields y1 d b cells))
              (q : Known base code heap (12 * yielder_count y2) (free + 1) (free + 1) p.arrives.end (address_of (behind_both n)) (yields y2 d b cells)) →
              Finds base heap places f0 q.arrives.end d b cells → BothKnown free limit_both y1 y2 c (address_of (behind_both n))
          known n c p q finds2 = record {
            first = p.datum;
            second = q.datum;
            first_is = p.is;
            second_is = q.is;
            arrives = arrives-then base code (12 * yielder_count y1) (12 * yielder_count y2) limit_both free (free + 1) free free (free + 1) free c (address_of (n + total (value_items places free free l y1))) (address_of (behind_both n)) p.arrives q.arrives (omega arith) (omega arith) (omega arith) (inl refl) (inr (omega arith));
            first_stands = subst (λ w. StandsFor base heap w p.datum) (sym (q.arrives.others free (omega arith) (omega arith))) p.stands;
            second_stands = q.stands;
            finds = finds2;
          }

    -- and then an operation on both
    module _ (free : ℕ) (low : 10 ≤ free) (y1 y2 : Yielder) (last : List Item) (to limit : ℕ) (g : Datum → Datum → Option Datum) where
      -- what the operation's code does, behind both
      abbrev pub Applies : Type 0
      Applies =
          (m : ℕ) (e : WordState) (x y : Datum) → m + total last < 2 ^ 28 + 1 → e.pc ≡ address_of m → yields y1 d b cells ≡ Some x → yields y2 d b cells ≡ Some y →
          StandsFor base heap (e.registers free) x → StandsFor base heap (e.registers (free + 1)) y → Finds base heap places f0 e d b cells → Stands code at m last →
          Valued base code heap 12 to free e (address_of (m + total last)) (address_of (at l)) (g x y)

      pub operands-come :
          12 * yielder_count y1 + 12 * yielder_count y2 + 12 ≤ limit → Comes free free y1 → Comes (free + 1) (free + 1) y2 → Applies →
          (n : ℕ) (c : WordState) → n + total (both free low y1 y2 last) < 2 ^ 28 + 1 → c.pc ≡ address_of n → Stands code at n (both free low y1 y2 last) → Finds base heap places f0 c d b cells →
          Valued base code heap limit to free c (address_of (n + total (both free low y1 y2 last))) (address_of (at l)) (and_then (yields y1 d b cells) (λ x. and_then (yields y2 d b cells) (g x)))
      operands-come few comes1 comes2 applies n c near here h finds =
          let a = value_items places free free l y1 in
          let e = value_items places (free + 1) (free + 1) l y2 in
          let sizes : total (a ++ (e ++ last)) ≡ total a + (total e + total last) = omega (arith, total-append a (e ++ last), total-append e last) in
          let m = behind_both free low y1 y2 last n in
          let k = limit_both free low y1 y2 last in
          let stands = stands-back code at (n + total a) e last (stands-back code at n a (e ++ last) h) in
          ⊎_elim
          (λ (p : BothKnown free k y1 y2 c (address_of m)).
          let v1 = p.first_is in
          let v2 = p.second_is in
          let done = applies m p.arrives.end p.first p.second (omega (arith, near, sizes)) p.arrives.at v1 v2 p.first_stands p.second_stands p.finds stands in
          let end : address_of (m + total last) ≡ address_of (n + total (a ++ (e ++ last))) = omega (arith, sizes) in
          let all = valued-then base code heap k 12 limit free to free free free c (address_of m) (address_of (m + total last)) (address_of (at l)) (g p.first p.second) p.arrives done few (omega arith) (omega arith) (inr (omega arith)) in
          rw (v1, v2) (subst (λ t. Valued base code heap limit to free c t (address_of (at l)) (g p.first p.second)) end all))
          (λ (p : OneMissing free k y1 y2 c).
          let v = p.none g in
          rw v (NoValue (arrives-weaker base code k limit free to free free c (address_of (at l)) p.arrives (omega (arith, few)) (omega arith) (inr (omega arith)))))
          (operands-known free low y1 y2 last comes1 comes2 n c near here h finds)

    -- one operand comes to a register, and then an operation on it
    module _ (free source : ℕ) (low : 10 ≤ free) (y : Yielder) (last : List Item) (to limit : ℕ) (g : Datum → Option Datum) (own : (source ≡ to) ⊎ (free ≤ source)) (other : 2 ≢ source) where
      abbrev pub AppliesTo : Type 0
      AppliesTo =
          (m : ℕ) (e : WordState) (x : Datum) → m + total last < 2 ^ 28 + 1 → e.pc ≡ address_of m → yields y d b cells ≡ Some x → StandsFor base heap (e.registers source) x →
          Finds base heap places f0 e d b cells → Stands code at m last → Valued base code heap 12 to free e (address_of (m + total last)) (address_of (at l)) (g x)

      pub operand-comes :
          12 * yielder_count y + 12 ≤ limit → Comes source free y → AppliesTo →
          (n : ℕ) (c : WordState) → n + total (value_items places source free l y ++ last) < 2 ^ 28 + 1 → c.pc ≡ address_of n → Stands code at n (value_items places source free l y ++ last) → Finds base heap places f0 c d b cells →
          Valued base code heap limit to free c (address_of (n + total (value_items places source free l y ++ last))) (address_of (at l)) (and_then (yields y d b cells) g)
      operand-comes few comes applies n c near here h finds =
          let a = value_items places source free l y in
          let next = address_of (n + total (a ++ last)) in
          let sizes : total (a ++ last) ≡ total a + total last = total-append a last in
          let one = valued-cases base code heap (12 * yielder_count y) source free c (address_of (n + total a)) (address_of (at l)) (yields y d b cells)
          (comes n c (omega (arith, near, sizes)) here (stands-front code at n a last h) finds) in
          ⊎_elim
          (λ (p : Known base code heap (12 * yielder_count y) source free c (address_of (n + total a)) (yields y d b cells)).
          let v = p.is in
          let e = p.arrives.end in
          let finds1 = finds-after base code heap places f0 c e d b cells (p.arrives.others 2 (omega (arith, low)) other) p.arrives.words finds in
          let done = applies (n + total a) e p.datum (omega (arith, near, sizes)) p.arrives.at v p.stands finds1 (stands-back code at n a last h) in
          let end : address_of (n + total a + total last) ≡ next = omega (arith, sizes) in
          let all = valued-then base code heap (12 * yielder_count y) 12 limit source to free free free c (address_of (n + total a)) (address_of (n + total a + total last)) (address_of (at l)) (g p.datum) p.arrives done few (omega arith) (omega arith) own in
          rw v (subst (λ t. Valued base code heap limit to free c t (address_of (at l)) (g p.datum)) end all))
          (λ (p : (yields y d b cells ≡ None) × Arrives base code (12 * yielder_count y) source free c (address_of (at l))).
          let v = p.0 in
          rw v (NoValue (arrives-weaker base code (12 * yielder_count y) limit source to free free c (address_of (at l)) p.1 (omega (arith, few)) (omega arith) own)))
          one

    -- ---- each kind of yielder

    -- so it is for each place where a value can go
    abbrev EachComes : Yielder → Type 0
    EachComes y = (to free : ℕ) → 10 ≤ free → free + registers_needed y ≤ 26 → IsTarget to free → Comes to free y

    -- the code that stands is that of the yielder, and so is what it comes to
    as-code :
        (to free : ℕ) (y : Yielder) (items : List Item) (v : Option Datum) → value_items places to free l y ≡ items → yields y d b cells ≡ v →
        ((n : ℕ) (c : WordState) → n + total items < 2 ^ 28 + 1 → c.pc ≡ address_of n → Stands code at n items → Finds base heap places f0 c d b cells →
        Valued base code heap (12 * yielder_count y) to free c (address_of (n + total items)) (address_of (at l)) v) →
        Comes to free y
    as-code to free y items v same is comes n c near here h =
        let near' = subst (λ i. n + total i < 2 ^ 28 + 1) same near in
        let h' = subst (Stands code at n) same h in
        λ finds.
        subst (λ i. Valued base code heap (12 * yielder_count y) to free c (address_of (n + total i)) (address_of (at l)) (yields y d b cells)) (sym same)
        (subst (Valued base code heap (12 * yielder_count y) to free c (address_of (n + total items)) (address_of (at l))) (sym is) (comes n c near' here h' finds))

    total-addition : (to a : ℕ) (z : ℤ) → total (addition_items to a z l) ≡ 4
    total-addition to a z = ⊎_elim (λ e. rw e refl) (λ e. rw e refl) (true-or-false (int_lt z (pos 0)))

    -- a constant is added to what is in the register for that
    addition-applies :
        (to free : ℕ) (z : ℤ) (g : Datum → Option Datum) → (low : 10 ≤ free) → free < 26 → IsTarget to free → FitsSigned w64 z →
        ((x : ℤ) → g (Number x) ≡ within_64 (x +ℤ z)) → (y : Yielder) (limit : ℕ) (own : (addend_for to ≡ to) ⊎ (free ≤ addend_for to)) (other : 2 ≢ addend_for to) →
        IsOfSort sort.Integer (yields y d b cells) → AppliesTo free (addend_for to) low y (addition_items to (addend_for to) z l) to limit g own other
    addition-applies to free z g low high target fz same y limit own other wanted m e x near here is value finds h =
        by x (subst (IsOfSort sort.Integer) is wanted) value
      where
        a : ℕ
        a = addend_for to

        size : total (addition_items to a z l) ≡ 4
        size = total-addition to a z

        Result : Datum → Type 0
        Result x = Valued base code heap 12 to free e (address_of (m + total (addition_items to a z l))) (address_of (at l)) (g x)

        by : (x : Datum) → IsOfSort sort.Integer (Some x) → StandsFor base heap (e.registers a) x → Result x
        by (Number x) w (value, fx) =
            let va = target-value a free low high (addend-target to free) in
            let ga : get e.registers a ≡ unsigned x = get-above e.registers a va.0 ∙ value in
            let stands : Has code e.pc (code_from at m (addition_items to a z l)) = subst (λ p. Has code p (code_from at m (addition_items to a z l))) (sym here) h in
            let done = addition-does base code at m to free l e (target-value to free low high target) (record { near = omega (arith, near, size); low = omega arith; label_near = l_near; here = here }) a x z va.1 (addend-apart to free) ga fx fz stands in
            subst (λ t. Valued base code heap 12 to free e (address_of (m + t)) (address_of (at l)) (g (Number x))) (sym size)
            (subst (Valued base code heap 12 to free e (address_of (m + 4)) (address_of (at l))) (sym (same x)) (valued-integer base code heap 12 to free e (address_of (m + 4)) (address_of (at l)) _ done))
        by (Truth t) w value = absurd (cc)
        by (CellOf k) w value = absurd (cc)
        by (Closure k bs own) w value = absurd (cc)

    above-free : (to free : ℕ) → free < 26 → (addend_for to ≡ to) ⊎ (free ≤ addend_for to)
    above-free to free high = inr (⊎_elim (λ e. omega arith) (λ e. ⊎_elim (λ q. omega arith) (λ q. omega arith) e) (addend-target to free))

    addend-other : (to free : ℕ) → 10 ≤ free → 2 ≢ addend_for to
    addend-other to free low = λ e. ⊎_elim (λ q. absurd (omega (arith, low, e, q))) (λ q. ⊎_elim (λ q. absurd (omega (arith, e, q))) (λ q. absurd (omega (arith, e, q))) q) (addend-target to free)

    -- the operation on two registers
    operation-applies :
        (f : Two) (to free : ℕ) → (low : 10 ≤ free) → free < 25 → IsTarget to free → (y1 y2 : Yielder) (limit : ℕ) → AreWanted f (yields y1 d b cells) (yields y2 d b cells) →
        Applies free low y1 y2 (operation_items f to free (free + 1) l) to limit (on_two f)
    operation-applies f to free low high target y1 y2 limit wanted m e x y near here is1 is2 sx sy finds h =
        let v = target-value to free low (omega arith) target in
        let apart = target-apart to free high target in
        let w : AreWanted f (Some x) (Some y) = subst (λ o. AreWanted f o (Some y)) is1 (subst (AreWanted f (yields y1 d b cells)) is2 wanted) in
        operation-valued base code heap at m to free l e v (omega arith) l_near here (length e.words) finds.cells finds.frame.below free (free + 1) (e.registers free) (e.registers (free + 1)) (omega arith) (omega arith) (omega arith)
        (λ lt. apart, λ lt. absurd (omega arith)) (get-above e.registers free (omega arith)) (get-above e.registers (free + 1) (omega arith)) f near x y w sx sy
        (subst (λ p. Has code p (code_from at m (operation_items f to free (free + 1) l))) (sym here) h)

    exchanged-applies :
        (f : Two) (to free : ℕ) → (low : 10 ≤ free) → free < 25 → IsTarget to free → (y1 y2 : Yielder) (limit : ℕ) → AreWanted f (yields y2 d b cells) (yields y1 d b cells) →
        Applies free low y1 y2 (operation_items f to (free + 1) free l) to limit (λ x y. on_two f y x)
    exchanged-applies f to free low high target y1 y2 limit wanted m e x y near here is1 is2 sx sy finds h =
        let v = target-value to free low (omega arith) target in
        let apart = target-apart to free high target in
        let w : AreWanted f (Some y) (Some x) = subst (λ o. AreWanted f o (Some x)) is2 (subst (AreWanted f (yields y2 d b cells)) is1 wanted) in
        operation-valued base code heap at m to free l e v (omega arith) l_near here (length e.words) finds.cells finds.frame.below (free + 1) free (e.registers (free + 1)) (e.registers free) (omega arith) (omega arith) (omega arith)
        (λ lt. absurd (omega arith), λ lt. apart) (get-above e.registers (free + 1) (omega arith)) (get-above e.registers free (omega arith)) f near y x w sy sx
        (subst (λ p. Has code p (code_from at m (operation_items f to (free + 1) free l))) (sym here) h)

    pub exchanged : (u v : Option Datum) (g : Datum → Datum → Option Datum) → and_then u (λ x. and_then v (g x)) ≡ and_then v (λ y. and_then u (λ x. g x y))
    exchanged None None g = refl
    exchanged None (Some y) g = refl
    exchanged (Some x) None g = refl
    exchanged (Some x) (Some y) g = refl

    two-comes : (f : Two) (y1 y2 : Yielder) → AreWanted f (yields y1 d b cells) (yields y2 d b cells) → EachComes y1 → EachComes y2 → EachComes (OnTwo f y1 y2)
    two-comes f y1 y2 wanted each1 each2 to free low room target =
        ⊎_elim
        (λ (s : (z : ℤ) × (of_literal (second_constant f) y2 ≡ Some z)). second s.0 s.1)
        (λ o2. ⊎_elim (λ (s : (z : ℤ) × (of_literal (first_constant f) y1 ≡ Some z)). first s.0 o2 s.1) (λ o1. ⊎_elim (λ q. later o2 o1 q) (λ q. in_turn o2 o1 q) (true-or-false (ltb (registers_needed y1) (registers_needed y2)))) (option-cases (of_literal (first_constant f) y1)))
        (option-cases (of_literal (second_constant f) y2))
      where
        second : (z : ℤ) → of_literal (second_constant f) y2 ≡ Some z → Comes to free (OnTwo f y1 y2)
        second z e =
            let a = second-added f y2 z e in
            let source = addend_for to in
            let last = addition_items to source z l in
            let g : Datum → Option Datum = λ x. on_two f x (Number a.literal) in
            let is : yields (OnTwo f y1 y2) d b cells ≡ and_then (yields y1 d b cells) g = ap (λ y. and_then (yields y1 d b cells) (λ x. and_then (yields y d b cells) (on_two f x))) a.is in
            let limit = 12 * yielder_count (OnTwo f y1 y2) in
            let own = above-free to free (omega (arith, room)) in
            let other = addend-other to free low in
            as-code to free (OnTwo f y1 y2) (value_items places source free l y1 ++ last) _ (rw e refl) is
            (operand-comes free source low y1 last to limit g own other (omega (arith, some-count y2)) (each1 source free low (omega (arith, room)) (addend-target to free))
            (addition-applies to free z g low (omega (arith, room)) target a.fits a.same y1 limit own other (a.wanted _ (subst (λ y. AreWanted f (yields y1 d b cells) (yields y d b cells)) a.is wanted))))

        first : (z : ℤ) → of_literal (second_constant f) y2 ≡ None → of_literal (first_constant f) y1 ≡ Some z → Comes to free (OnTwo f y1 y2)
        first z o2 e =
            let a = first-added f y1 z e in
            let source = addend_for to in
            let last = addition_items to source z l in
            let g : Datum → Option Datum = on_two f (Number a.literal) in
            let is : yields (OnTwo f y1 y2) d b cells ≡ and_then (yields y2 d b cells) g = ap (λ y. and_then (yields y d b cells) (λ x. and_then (yields y2 d b cells) (on_two f x))) a.is in
            let limit = 12 * yielder_count (OnTwo f y1 y2) in
            let own = above-free to free (omega (arith, room)) in
            let other = addend-other to free low in
            as-code to free (OnTwo f y1 y2) (value_items places source free l y2 ++ last) _ (rw (o2, e) refl) is
            (operand-comes free source low y2 last to limit g own other (omega (arith, some-count y1)) (each2 source free low (omega (arith, room)) (addend-target to free))
            (addition-applies to free z g low (omega (arith, room)) target a.fits a.same y2 limit own other (a.wanted _ (subst (λ y. AreWanted f (yields y d b cells) (yields y2 d b cells)) a.is wanted))))

        in_turn : of_literal (second_constant f) y2 ≡ None → of_literal (first_constant f) y1 ≡ None → ltb (registers_needed y1) (registers_needed y2) ≡ false → Comes to free (OnTwo f y1 y2)
        in_turn o2 o1 q =
            let last = operation_items f to free (free + 1) l in
            let limit = 12 * yielder_count (OnTwo f y1 y2) in
            let more = ltb-false _ _ q in
            as-code to free (OnTwo f y1 y2) (value_items places free free l y1 ++ (value_items places (free + 1) (free + 1) l y2 ++ last)) _ (rw (o2, o1, q) refl) refl
            (operands-come free low y1 y2 last to limit (on_two f) (omega arith) (each1 free free low (omega (arith, room, more)) (inl refl)) (each2 (free + 1) (free + 1) (omega arith) (omega (arith, room, more)) (inl refl))
            (operation-applies f to free low (omega (arith, room, some-need y1, some-need y2)) target y1 y2 limit wanted))

        later : of_literal (second_constant f) y2 ≡ None → of_literal (first_constant f) y1 ≡ None → ltb (registers_needed y1) (registers_needed y2) ≡ true → Comes to free (OnTwo f y1 y2)
        later o2 o1 q =
            let last = operation_items f to (free + 1) free l in
            let limit = 12 * yielder_count (OnTwo f y1 y2) in
            let more = ltb-true _ _ q in
            as-code to free (OnTwo f y1 y2) (value_items places free free l y2 ++ (value_items places (free + 1) (free + 1) l y1 ++ last)) _ (rw (o2, o1, q) refl) (exchanged (yields y1 d b cells) (yields y2 d b cells) (on_two f))
            (operands-come free low y2 y1 last to limit (λ x y. on_two f y x) (omega arith) (each2 free free low (omega (arith, room, more)) (inl refl)) (each1 (free + 1) (free + 1) (omega arith) (omega (arith, room, more)) (inl refl))
            (exchanged-applies f to free low (omega (arith, room, some-need y1, some-need y2)) target y2 y1 limit wanted))

    one-comes : (f : One) (y : Yielder) → IsWanted f (yields y d b cells) → EachComes y → EachComes (OnOne f y)
    one-comes f y wanted each to free low room target =
        operand-comes free free low y (one_items f to free l) to (12 * yielder_count (OnOne f y)) (on_one f) (inr (omega arith)) (omega (arith, low)) (omega arith) (each free free low room (inl refl))
        (λ m e x near here is s finds h.
        let v = target-value to free low (omega (arith, room, some-need y)) target in
        one-valued base code heap at m to free l e v (omega (arith, room)) l_near here (length e.words) finds.cells finds.frame.below f free (e.registers free) x (omega arith) (omega (arith, room, some-need y)) near refl
        (subst (IsWanted f) is wanted) s (subst (λ p. Has code p (code_from at m (one_items f to free l))) (sym here) h))

    -- a cell's address comes to the register, and then what the cell holds
    cell-comes :
        (s : Sort) (y : Yielder) → IsOfSort sort.Cell (yields y d b cells) → IsOfSort s (and_then (yields y d b cells) (stored cells)) → EachComes y → EachComes (StoredIn s y)
    cell-comes s y cell sorted each to free low room target =
        as-code to free (StoredIn s y) (value_items places free free l y ++ content_items to free l) (and_then (yields y d b cells) content) refl (and_then-nested (yields y d b cells) (stored cells) (of_sort s))
        (operand-comes free free low y (content_items to free l) to (12 * yielder_count (StoredIn s y)) content (inr (omega arith)) (omega (arith, low)) (omega arith) (each free free low room (inl refl))
        (λ m e x near here is stands finds h.
        content-comes base code heap at to free l (target-value to free low (omega (arith, room, some-need y)) target) free (omega (arith, low), omega (arith, room, some-need y)) (omega (arith, room)) l_near places f0 d b cells s m e x near here
        (subst (IsOfSort sort.Cell) is cell) (subst (λ o. IsOfSort s (and_then o (stored cells))) is sorted) stands finds (subst (λ p. Has code p (code_from at m (content_items to free l))) (sym here) h)))
      where
        content : Datum → Option Datum
        content x = and_then (stored cells x) (of_sort s)

    pub value-comes : (y : Yielder) → is_built y ≡ true → HasWords y → HasSlots places.bound y b → IsSuited y d b cells → EachComes y
    value-comes (NumberLiteral z) built words slots suited to free low room target n c near here h finds =
        constant-comes to free (integer_word z) (Number z) (fits-below z words) (refl, words) (target-value to free low (omega (arith, room)) target) n c here h
    value-comes (TruthLiteral t) built words slots suited to free low room target n c near here h finds =
        constant-comes to free (truth_word t) (Truth t) (truth-below t) refl (target-value to free low (omega (arith, room)) target) n c here h
    value-comes (Given s) built words slots suited to free low room target n c near here h finds =
        given-comes to free (only_offset places.given) s (only d) (target-low to free low target) (omega (arith, room)) suited n c (only-stands base heap c.words f0 places.given d near_places.given finds.inside finds.holds) near here h finds
    value-comes (GivenAt s place) built words slots suited to free low room target n c near here h finds =
        given-comes to free (nth_offset places.given place) s (nth d place) (target-low to free low target) (omega (arith, room)) suited n c (nth-stands base heap c.words f0 places.given d place near_places.given finds.inside finds.holds) near here h finds
    value-comes (OnTwo f y1 y2) built words slots suited to free low room target n c near here h finds =
        let q = and-true (is_built y1) (is_built y2) built in
        two-comes f y1 y2 suited.2 (value-comes y1 q.0 words.0 slots.0 suited.0) (value-comes y2 q.1 words.1 slots.1 suited.1) to free low room target n c near here h finds
    value-comes (OnOne f y) built words slots suited to free low room target n c near here h finds =
        one-comes f y suited.1 (value-comes y built words slots suited.0) to free low room target n c near here h finds
    value-comes (BoundTo s t) built words slots suited to free low room target n c near here h finds =
        given-comes to free (slot_offset places.bound t) s (lookup t b) (target-low to free low target) (omega (arith, room)) suited n c
        (bound-stands base heap c.words f0 places.bound b t near_places.bound finds.slots_inside finds.binds slots) near here h finds
    value-comes (StoredIn s y) built words slots suited to free low room target n c near here h finds =
        cell-comes s y suited.1 suited.2 (value-comes y built words slots suited.0) to free low room target n c near here h finds
    value-comes (ClosureOf k) built words slots suited to free low room target n c near here h finds = absurd (cc)
