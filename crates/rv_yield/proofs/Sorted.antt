-- Operations on data of the sorts that they want.
use Rattle.std.proofs.Common.{◌≡◌, ◌≢◌, ⊎_elim, ℕ, ◌+◌, ◌*◌, ◌^◌, ◌<◌, ◌≤◌, ◌-◌, Bool, true, false, not, ◌&&◌, ◌||◌, List, Option, Some, ℤ, pos, ◌-ℤ◌, neg_ℤ, int_lt, refl, sym, ap, ◌∙◌, subst, arith, eqb, ltb}
use Rattle.std.proofs.lemmas.Int.{ints}
use Rattle.rv_code.specs.Arithmetic.{wrap, signed, unsigned, truth}
use Rattle.rv_code.specs.declared.instruction.Inst.{Inst}
use Rattle.rv_code.specs.declared.instruction.OpOp.TheVariants.{Sub, Slt, And, Or}
use Rattle.rv_code.specs.declared.instruction.OpImmOp.TheVariants.{Sltiu, Xori}
use Rattle.rv_asm.specs.Assembly.{address_of, code_from, total}
use Rattle.rv_asm.specs.DataWords.{Heap, StandsFor}
use Rattle.rv_asm.specs.WordMachine.{WordState, Goes, get, run_words, Has}
use Rattle.rv_asm.proofs.Registers.{get-above, put-other}
use Rattle.rv_asm.proofs.Stretches.{then-runs}
use Rattle.action_terms.specs.Information.{Datum, Number, Truth, CellOf, Closure}
use Rattle.action_terms.specs.Actions.{Two, Sum, Difference, Product, Quotient, Remainder, Is, Less, BothOf, EitherOf, One, Negation, Not}
use Rattle.action_terms.specs.Suited.{AreWanted, BothOfSort, IsWanted}
use Rattle.action_terms.specs.Yielding.{on_two, on_one, within_64, int_eq, bool_eq}
use Rattle.action_terms.specs.declared.kinds.Sort.TheVariants as sort
use Rattle.rv_yield.specs.Evaluates.{HasCells}
use Rattle.rv_yield.specs.Registers.{is_arithmetic}
use Rattle.rv_yield.specs.YielderCode.{operation_items, one_items}
use Rattle.rv_yield.proofs.Additions.{operation-does}
use Rattle.rv_yield.proofs.Checks.{IsValue}
use Rattle.rv_yield.proofs.Comparisons.{difference-zero, number-same, truth-equal, cell-same, less-same, or-truth, not-truth}
use Rattle.rv_yield.proofs.Numbers.{fits-below}
use Rattle.rv_yield.proofs.Quotients.{and-truth}
use Rattle.rv_yield.proofs.Steps.{written, get-written, put-written, op-runs, immediate-runs, Outcome}
use Rattle.rv_yield.proofs.Sums.{difference-does}
use Rattle.rv_yield.proofs.Valued.{Valued, HasValue, valued-integer, sets-value}

truth-small : (t : Bool) → truth t < 2
truth-small true = omega arith
truth-small false = omega arith

-- ---- data of a sort

module _ (P : Datum → Datum → Type 0) where
  -- what holds of integers holds of data that are wanted to be integers
  pub of-integers : ((m n : ℤ) → P (Number m) (Number n)) → (x y : Datum) → BothOfSort sort.Integer (Some x) (Some y) → P x y
  of-integers h (Number m) (Number n) w = h m n
  of-integers h (Number m) (Truth t) w = absurd (let e = w.1 in cc)
  of-integers h (Number m) (CellOf k) w = absurd (let e = w.1 in cc)
  of-integers h (Number m) (Closure k b own) w = absurd (let e = w.1 in cc)
  of-integers h (Truth t) y w = absurd (let e = w.0 in cc)
  of-integers h (CellOf k) y w = absurd (let e = w.0 in cc)
  of-integers h (Closure k b own) y w = absurd (let e = w.0 in cc)

  pub of-truths : ((p q : Bool) → P (Truth p) (Truth q)) → (x y : Datum) → BothOfSort sort.Truth (Some x) (Some y) → P x y
  of-truths h (Truth p) (Truth q) w = h p q
  of-truths h (Truth p) (Number n) w = absurd (let e = w.1 in cc)
  of-truths h (Truth p) (CellOf k) w = absurd (let e = w.1 in cc)
  of-truths h (Truth p) (Closure k b own) w = absurd (let e = w.1 in cc)
  of-truths h (Number m) y w = absurd (let e = w.0 in cc)
  of-truths h (CellOf k) y w = absurd (let e = w.0 in cc)
  of-truths h (Closure k b own) y w = absurd (let e = w.0 in cc)

  pub of-cells : ((j k : ℕ) → P (CellOf j) (CellOf k)) → (x y : Datum) → BothOfSort sort.Cell (Some x) (Some y) → P x y
  of-cells h (CellOf j) (CellOf k) w = h j k
  of-cells h (CellOf j) (Number n) w = absurd (let e = w.1 in cc)
  of-cells h (CellOf j) (Truth t) w = absurd (let e = w.1 in cc)
  of-cells h (CellOf j) (Closure k b own) w = absurd (let e = w.1 in cc)
  of-cells h (Number m) y w = absurd (let e = w.0 in cc)
  of-cells h (Truth t) y w = absurd (let e = w.0 in cc)
  of-cells h (Closure k b own) y w = absurd (let e = w.0 in cc)

-- ---- what comparisons of words say of data

-- two data are compared by their words: whether they are the same
pub record IsCompared (u v : ℕ) (o : Option Datum) : Type 0 where
  pub result : Bool
  pub is : o ≡ Some (Truth result)
  pub words : eqb u v ≡ result
  pub first_small : u < 2 ^ 64
  pub second_small : v < 2 ^ 64

module _ (base : ℕ) (heap : Heap) (count : ℕ) (cells : HasCells heap count) (below : base + 8 * count ≤ 2 ^ 32) (u v : ℕ) where
  abbrev Stand : Datum → Datum → Type 0
  Stand x y = StandsFor base heap u x × StandsFor base heap v y

  abbrev SameIs : Datum → Datum → Type 0
  SameIs x y = Stand x y → IsCompared u v (on_two Is x y)

  integers-same : (i j : ℤ) → SameIs (Number i) (Number j)
  integers-same i j s = record {
    result = int_eq i j;
    is = refl;
    words = ap (λ w. eqb w v) s.0.0 ∙ ap (eqb (unsigned i)) s.1.0 ∙ number-same i j s.0.1 s.1.1;
    first_small = omega (arith, s.0.0, fits-below i s.0.1);
    second_small = omega (arith, s.1.0, fits-below j s.1.1);
  }

  truths-same : (p q : Bool) → SameIs (Truth p) (Truth q)
  truths-same p q s = record {
    result = bool_eq p q;
    is = refl;
    words = ap (λ w. eqb w v) s.0 ∙ ap (eqb (truth p)) s.1 ∙ truth-equal p q;
    first_small = omega (arith, s.0, truth-small p);
    second_small = omega (arith, s.1, truth-small q);
  }

  cells-same : (j k : ℕ) → SameIs (CellOf j) (CellOf k)
  cells-same j k s =
      let p = s.0.place in
      let q = s.1.place in
      record {
        result = eqb j k;
        is = refl;
        words = ap (λ w. eqb w v) s.0.is ∙ ap (eqb (base + 8 * p)) s.1.is ∙ cell-same base count heap j k p q cells s.0.listed s.1.listed;
        first_small = omega (arith, s.0.is, below, cells.inside j p s.0.listed);
        second_small = omega (arith, s.1.is, below, cells.inside k q s.1.listed);
      }

  pub same-is : (x y : Datum) → AreWanted Is (Some x) (Some y) → StandsFor base heap u x → StandsFor base heap v y → IsCompared u v (on_two Is x y)
  same-is x y w s t =
      ⊎_elim
      (λ w. of-integers SameIs integers-same x y w (s, t))
      (λ w. ⊎_elim (λ w. of-truths SameIs truths-same x y w (s, t)) (λ w. of-cells SameIs cells-same x y w (s, t)) w)
      w

  -- two integers by their words: whether one is less than the other
  pub less-is :
      (x y : Datum) → AreWanted Less (Some x) (Some y) → StandsFor base heap u x → StandsFor base heap v y →
      (q : Bool) × (on_two Less x y ≡ Some (Truth q)) × (int_lt (signed u) (signed v) ≡ q)
  less-is x y w s t =
      of-integers (λ x y. Stand x y → (q : Bool) × (on_two Less x y ≡ Some (Truth q)) × (int_lt (signed u) (signed v) ≡ q))
      (λ i j s. (int_lt i j, refl, ap (λ w. int_lt (signed w) (signed v)) s.0.0 ∙ ap (λ w. int_lt (signed (unsigned i)) (signed w)) s.1.0 ∙ less-same i j s.0.1 s.1.1))
      x y w (s, t)

module _
    (base : ℕ) (code : List Inst) (heap : Heap) (at : ℕ → ℕ) (n to free l : ℕ) (c : WordState) (wanted : IsValue to) (low : free ≤ 26) (l_near : at l < 2 ^ 28) (here : c.pc ≡ address_of n)
    (count : ℕ) (cells : HasCells heap count) (below : base + 8 * count ≤ 2 ^ 32)
  where
    -- what comes of some code of so many instructions
    abbrev Gives : ℕ → Option Datum → Type 0
    Gives size v = Valued base code heap 12 to free c (address_of (n + size)) (address_of (at l)) v

    module _ (a b u v : ℕ) (va : a < 28) (vb : b < 28) (apart : a ≢ b) (tb : (a < b → to ≢ b) × (b < a → to ≢ a)) (ga : get c.registers a ≡ u) (gb : get c.registers b ≡ v) where
      -- two words are compared
      same-does :
          (q : Bool) → u < 2 ^ 64 → v < 2 ^ 64 → eqb u v ≡ q → Has code c.pc (code_from at n (operation_items Is to a b l)) → Gives 2 (Some (Truth q))
      same-does q bu bv is h =
          let s = wrap (u + (2 ^ 64 - v)) in
          let w = truth (ltb s (unsigned (pos 1))) in
          let c1 = written c to s in
          let c2 = written c1 to w in
          let r1 = op-runs base code c Sub to a b u v h.0 ga gb in
          let r2 = immediate-runs base code c1 Sltiu to to s (pos 1) h.1.0 (get-written c.registers to s wanted.0) in
          let value : c2.registers to ≡ truth q = put-written c1.registers to w wanted.0 ∙ ap truth (difference-zero u v bu bv ∙ is) in
          HasValue (Truth q)
          (record {
            count = 2;
            few = omega arith;
            end = c2;
            runs = then-runs base code 1 1 c c1 c2 r1 r2;
            at = omega (arith, here);
            others = λ k lt ne. put-other c1.registers k to w ne ∙ put-other c.registers k to s ne;
            words = refl;
            input = refl;
            output = refl;
          })
          value

      abbrev Stands : Datum → Datum → Type 0
      Stands x y = StandsFor base heap u x × StandsFor base heap v y

      is-does : (x y : Datum) → AreWanted Is (Some x) (Some y) → Stands x y → Has code c.pc (code_from at n (operation_items Is to a b l)) → Gives 2 (on_two Is x y)
      is-does x y w s h =
          let same = same-is base heap count cells below u v x y w s.0 s.1 in
          subst (Gives 2) (sym same.is) (same-does same.result same.first_small same.second_small same.words h)

      -- one instruction that sets the register
      set-does : (w : ℕ) (x : Datum) → run_words base code 1 c ≡ Goes (written c to w) → StandsFor base heap w x → Gives 1 (Some x)
      set-does w x runs s = sets-value base code heap 12 to free c w (address_of (n + 1)) (address_of (at l)) x wanted.0 (omega arith) runs (omega (arith, here)) s

      arithmetic-does :
          (f : Two) → is_arithmetic f ≡ true → (near : n + total (operation_items f to a b l) < 2 ^ 28 + 1) → (x y : Datum) → BothOfSort sort.Integer (Some x) (Some y) → Stands x y →
          Has code c.pc (code_from at n (operation_items f to a b l)) → Gives (total (operation_items f to a b l)) (on_two f x y)
      arithmetic-does f e near x y w s h =
          of-integers (λ x y. Stands x y → Gives (total (operation_items f to a b l)) (on_two f x y))
          (λ i j s.
          valued-integer base code heap 12 to free c (address_of (n + total (operation_items f to a b l))) (address_of (at l)) _
          (operation-does base code at n to free l c wanted a b i j va vb apart tb (ga ∙ s.0.0) (gb ∙ s.1.0) s.0.1 s.1.1 f e low near l_near here h))
          x y w s

      pub operation-valued :
          (f : Two) → (near : n + total (operation_items f to a b l) < 2 ^ 28 + 1) → (x y : Datum) → AreWanted f (Some x) (Some y) → StandsFor base heap u x → StandsFor base heap v y →
          Has code c.pc (code_from at n (operation_items f to a b l)) → Gives (total (operation_items f to a b l)) (on_two f x y)
      operation-valued Sum near x y w s t h = arithmetic-does Sum refl near x y w (s, t) h
      operation-valued Difference near x y w s t h = arithmetic-does Difference refl near x y w (s, t) h
      operation-valued Product near x y w s t h = arithmetic-does Product refl near x y w (s, t) h
      operation-valued Quotient near x y w s t h = arithmetic-does Quotient refl near x y w (s, t) h
      operation-valued Remainder near x y w s t h = arithmetic-does Remainder refl near x y w (s, t) h
      operation-valued Is near x y w s t h = is-does x y w (s, t) h
      operation-valued Less near x y w s t h =
          of-integers (λ x y. Stands x y → Gives 1 (on_two Less x y))
          (λ i j s. set-does _ (Truth (int_lt i j)) (op-runs base code c Slt to a b (unsigned i) (unsigned j) h.0 (ga ∙ s.0.0) (gb ∙ s.1.0)) (ap truth (less-same i j s.0.1 s.1.1)))
          x y w (s, t)
      operation-valued BothOf near x y w s t h =
          of-truths (λ x y. Stands x y → Gives 1 (on_two BothOf x y))
          (λ p q s. set-does _ (Truth (p && q)) (op-runs base code c And to a b (truth p) (truth q) h.0 (ga ∙ s.0) (gb ∙ s.1)) (and-truth p q))
          x y w (s, t)
      operation-valued EitherOf near x y w s t h =
          of-truths (λ x y. Stands x y → Gives 1 (on_two EitherOf x y))
          (λ p q s. set-does _ (Truth (p || q)) (op-runs base code c Or to a b (truth p) (truth q) h.0 (ga ∙ s.0) (gb ∙ s.1)) (or-truth p q))
          x y w (s, t)

    -- an operation on one value
    pub one-valued :
        (f : One) (a u : ℕ) (x : Datum) → 0 < a → a < 28 → n + total (one_items f to a l) < 2 ^ 28 + 1 → c.registers a ≡ u → IsWanted f (Some x) → StandsFor base heap u x →
        Has code c.pc (code_from at n (one_items f to a l)) → Gives (total (one_items f to a l)) (on_one f x)
    one-valued Negation a u (Number z) some va near ga w s h =
        let zero : pos 0 -ℤ z ≡ neg_ℤ z = omega (arith, ints) in
        valued-integer base code heap 12 to free c (address_of (n + 6)) (address_of (at l)) _
        (subst (λ m. Outcome base code 12 to free c (address_of (n + 6)) (address_of (at l)) (within_64 m)) zero
        (difference-does base code at n to free l c wanted (record { near = near; low = low; label_near = l_near; here = here }) 0 a (pos 0) z (omega arith) va refl (get-above c.registers a some ∙ ga ∙ s.0) (record { sfits = omega arith }) s.1 h))
    one-valued Not a u (Truth t) some va near ga w s h =
        sets-value base code heap 12 to free c _ (address_of (n + 1)) (address_of (at l)) (Truth (not t)) wanted.0 (omega arith)
        (immediate-runs base code c Xori to a (truth t) (pos 1) h.0 (get-above c.registers a some ∙ ga ∙ s)) (omega (arith, here)) (not-truth t)
    one-valued Negation a u (Truth t) some va near ga w s h = absurd (let e = w in cc)
    one-valued Negation a u (CellOf k) some va near ga w s h = absurd (let e = w in cc)
    one-valued Negation a u (Closure k b own) some va near ga w s h = absurd (let e = w in cc)
    one-valued Not a u (Number z) some va near ga w s h = absurd (let e = w in cc)
    one-valued Not a u (CellOf k) some va near ga w s h = absurd (let e = w in cc)
    one-valued Not a u (Closure k b own) some va near ga w s h = absurd (let e = w in cc)
