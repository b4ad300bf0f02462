-- Operations by their kinds, and constants that are added.
use Rattle.std.proofs.Common.{◌≡◌, ◌≢◌, ⊎_elim, ℕ, zero, suc, ◌+◌, ◌^◌, ◌<◌, ◌≤◌, true, false, List, Option, Some, None, ℤ, pos, negsuc, ◌+ℤ◌, neg_ℤ, FitsSigned, refl, sym, ap, ◌∙◌, subst, arith, w64, ltb, ltb-true, ltb-false}
use Rattle.std.proofs.lemmas.Int.{ints}
use Rattle.rv_code.proofs.Bools.{true-or-false}
use Rattle.rv_code.specs.Arithmetic.{unsigned}
use Rattle.rv_code.specs.Encode.{has_bits}
use Rattle.rv_code.specs.declared.instruction.Inst.{Inst}
use Rattle.rv_asm.specs.Assembly.{address_of, code_from, total}
use Rattle.rv_asm.specs.WordMachine.{WordState, get, Has}
use Rattle.action_terms.specs.Information.{Datum, Number}
use Rattle.action_terms.specs.Actions.{Two, Sum, Difference, Product, Quotient, Remainder, Is, Less, BothOf, EitherOf, Yielder, NumberLiteral, TruthLiteral, Given, GivenAt, BoundTo, StoredIn, OnTwo, OnOne, ClosureOf}
use Rattle.action_terms.specs.Suited.{IsOfSort, AreWanted}
use Rattle.action_terms.specs.Yielding.{within_64, on_two}
use Rattle.action_terms.specs.declared.kinds.Sort.TheVariants as sort
use Rattle.rv_yield.specs.Registers.{is_arithmetic}
use Rattle.rv_yield.specs.YielderCode.{operation_items, sum_items, small, second_constant, first_constant, of_literal}
use Rattle.rv_yield.proofs.Checks.{IsValue}
use Rattle.rv_yield.proofs.Steps.{Outcome}
use Rattle.rv_yield.proofs.Sums.{sum-does, difference-does, product-does}
use Rattle.rv_yield.proofs.Divisions.{remainder-does, quotient-does}

sum-comm : (x y : ℤ) → y +ℤ x ≡ x +ℤ y
sum-comm x y = omega (arith, ints)

-- ---- each operation

module _ (base : ℕ) (code : List Inst) (at : ℕ → ℕ) (n to free l : ℕ) (c : WordState) (wanted : IsValue to) (a b : ℕ) (x y : ℤ) (va : a < 28) (vb : b < 28) (apart : a ≢ b) (tb : (a < b → to ≢ b) × (b < a → to ≢ a)) (ga : get c.registers a ≡ unsigned x) (gb : get c.registers b ≡ unsigned y) (fx : FitsSigned w64 x) (fy : FitsSigned w64 y) where
  pub operation-does :
      (f : Two) → is_arithmetic f ≡ true → (low : free ≤ 26) → (near : n + total (operation_items f to a b l) < 2 ^ 28 + 1) → at l < 2 ^ 28 → c.pc ≡ address_of n →
      Has code c.pc (code_from at n (operation_items f to a b l)) →
      Outcome base code 12 to free c (address_of (n + total (operation_items f to a b l))) (address_of (at l)) (on_two f (Number x) (Number y))
  operation-does Sum e low near l_near here h = ⊎_elim (λ q. up q) (λ q. down q) (true-or-false (ltb a b))
    where
      up : ltb a b ≡ true → Outcome base code 12 to free c (address_of (n + total (operation_items Sum to a b l))) (address_of (at l)) (within_64 (x +ℤ y))
      up q =
          let i : operation_items Sum to a b l ≡ sum_items to a b l = rw q refl in
          let h' = subst (λ is. Has code c.pc (code_from at n is)) i h in
          let near' = subst (λ is. n + total is < 2 ^ 28 + 1) i near in
          subst (λ is. Outcome base code 12 to free c (address_of (n + total is)) (address_of (at l)) (within_64 (x +ℤ y))) (sym i)
          (sum-does base code at n to free l c wanted (record { near = near'; low = low; label_near = l_near; here = here }) a b x y va vb (tb.0 (ltb-true a b q)) ga gb fx fy h')

      down : ltb a b ≡ false → Outcome base code 12 to free c (address_of (n + total (operation_items Sum to a b l))) (address_of (at l)) (within_64 (x +ℤ y))
      down q =
          let i : operation_items Sum to a b l ≡ sum_items to b a l = rw q refl in
          let h' = subst (λ is. Has code c.pc (code_from at n is)) i h in
          let near' = subst (λ is. n + total is < 2 ^ 28 + 1) i near in
          let lt : b < a = omega (arith, ltb-false a b q, apart) in
          subst (λ is. Outcome base code 12 to free c (address_of (n + total is)) (address_of (at l)) (within_64 (x +ℤ y))) (sym i)
          (subst (λ z. Outcome base code 12 to free c (address_of (n + 6)) (address_of (at l)) (within_64 z)) (sum-comm x y)
          (sum-does base code at n to free l c wanted (record { near = near'; low = low; label_near = l_near; here = here }) b a y x vb va (tb.1 lt) gb ga fy fx h'))
  operation-does Difference e low near l_near here h = difference-does base code at n to free l c wanted (record { near = near; low = low; label_near = l_near; here = here }) a b x y va vb ga gb fx fy h
  operation-does Product e low near l_near here h = product-does base code at n to free l c wanted (record { near = near; low = low; label_near = l_near; here = here }) a b x y va vb ga gb fx fy h
  operation-does Quotient e low near l_near here h = quotient-does base code at n to free l c wanted a b x y va vb ga gb fx fy (record { near = near; low = low; label_near = l_near; here = here }) h
  operation-does Remainder e low near l_near here h = remainder-does base code at n to free l c wanted a b x y va vb ga gb fx fy (record { near = near; low = low; label_near = l_near; here = here }) h
  operation-does Is e low near l_near here h = absurd (cc)
  operation-does Less e low near l_near here h = absurd (cc)
  operation-does BothOf e low near l_near here h = absurd (cc)
  operation-does EitherOf e low near l_near here h = absurd (cc)

-- ---- constants that are added

fits-small : (z : ℤ) → has_bits 12 z ≡ true → FitsSigned w64 z
fits-small (pos n) h = record { sfits = omega (arith, ltb-true _ _ h) }
fits-small (negsuc n) h = record { sfits = omega (arith, ltb-true _ _ h) }

negated-fits : (w : ℤ) → has_bits 12 (neg_ℤ w) ≡ true → FitsSigned w64 w
negated-fits (pos zero) h = record { sfits = omega arith }
negated-fits (pos (suc n)) h = record { sfits = omega (arith, ltb-true _ _ h) }
negated-fits (negsuc n) h = record { sfits = omega (arith, ltb-true _ _ h) }

small-is : (w z : ℤ) → small w ≡ Some z → (has_bits 12 z ≡ true) × (w ≡ z)
small-is w z e = ⊎_elim (λ q. yes' q) (λ q. no' q) (true-or-false (has_bits 12 w))
  where
    yes' : has_bits 12 w ≡ true → (has_bits 12 z ≡ true) × (w ≡ z)
    yes' q =
        let s : small w ≡ Some w = rw q refl in
        let same : w ≡ z = cc in
        (subst (λ v. has_bits 12 v ≡ true) same q, same)

    no' : has_bits 12 w ≡ false → (has_bits 12 z ≡ true) × (w ≡ z)
    no' q =
        let s : small w ≡ None = rw q refl in
        absurd (let t : None ≡ Some z = sym s ∙ e in cc)

-- what is added, where an operand is a number of 64 bits
pub record IsAdded (y : Yielder) (z : ℤ) (by : ℤ → ℤ → Option Datum) (Wants : ℤ → Option Datum → Type 0) : Type 0 where
  pub literal : ℤ
  pub is : y ≡ NumberLiteral literal
  pub fits : FitsSigned w64 z
  pub short : has_bits 12 z ≡ true
  pub literal_fits : FitsSigned w64 literal
  pub same : (x : ℤ) → by x literal ≡ within_64 (x +ℤ z)
  -- the other operand is wanted to be an integer
  pub wanted : (o : Option Datum) → Wants literal o → IsOfSort sort.Integer o

literal-is : (g : ℤ → Option ℤ) (y : Yielder) (z : ℤ) → of_literal g y ≡ Some z → (w : ℤ) × (y ≡ NumberLiteral w) × (g w ≡ Some z)
literal-is g (NumberLiteral w) z e = (w, refl, e)
literal-is g (TruthLiteral t) z e = absurd (cc)
literal-is g (Given s) z e = absurd (cc)
literal-is g (GivenAt s k) z e = absurd (cc)
literal-is g (BoundTo s t) z e = absurd (cc)
literal-is g (StoredIn s y) z e = absurd (cc)
literal-is g (OnTwo f y1 y2) z e = absurd (cc)
literal-is g (OnOne f y) z e = absurd (cc)
literal-is g (ClosureOf k) z e = absurd (cc)

-- the second operand
pub second-added : (f : Two) (y : Yielder) (z : ℤ) → of_literal (second_constant f) y ≡ Some z → IsAdded y z (λ x w. on_two f (Number x) (Number w)) (λ w o. AreWanted f o (Some (Number w)))
second-added f y z e = let l = literal-is (second_constant f) y z e in by f l.0 l.1 l.2
  where
    by : (f : Two) (w : ℤ) → y ≡ NumberLiteral w → second_constant f w ≡ Some z → IsAdded y z (λ x w. on_two f (Number x) (Number w)) (λ w o. AreWanted f o (Some (Number w)))
    by Sum w is e = let s = small-is w z e in record { literal = w; is = is; fits = fits-small z s.0; short = s.0; literal_fits = subst (FitsSigned w64) (sym s.1) (fits-small z s.0); same = λ x. ap (λ v. within_64 (x +ℤ v)) s.1; wanted = λ o h. h.0 }
    by Difference w is e = let s = small-is (neg_ℤ w) z e in record { literal = w; is = is; fits = fits-small z s.0; short = s.0; literal_fits = negated-fits w (subst (λ v. has_bits 12 v ≡ true) (sym s.1) s.0); same = λ x. ap (λ v. within_64 (x +ℤ v)) s.1; wanted = λ o h. h.0 }
    by Product w is e = absurd (cc)
    by Quotient w is e = absurd (cc)
    by Remainder w is e = absurd (cc)
    by Is w is e = absurd (cc)
    by Less w is e = absurd (cc)
    by BothOf w is e = absurd (cc)
    by EitherOf w is e = absurd (cc)

-- the first operand
pub first-added : (f : Two) (y : Yielder) (z : ℤ) → of_literal (first_constant f) y ≡ Some z → IsAdded y z (λ x w. on_two f (Number w) (Number x)) (λ w o. AreWanted f (Some (Number w)) o)
first-added f y z e = let l = literal-is (first_constant f) y z e in by f l.0 l.1 l.2
  where
    by : (f : Two) (w : ℤ) → y ≡ NumberLiteral w → first_constant f w ≡ Some z → IsAdded y z (λ x w. on_two f (Number w) (Number x)) (λ w o. AreWanted f (Some (Number w)) o)
    by Sum w is e = let s = small-is w z e in record { literal = w; is = is; fits = fits-small z s.0; short = s.0; literal_fits = subst (FitsSigned w64) (sym s.1) (fits-small z s.0); same = λ x. ap within_64 (sum-comm x w ∙ ap (λ v. x +ℤ v) s.1); wanted = λ o h. h.1 }
    by Difference w is e = absurd (cc)
    by Product w is e = absurd (cc)
    by Quotient w is e = absurd (cc)
    by Remainder w is e = absurd (cc)
    by Is w is e = absurd (cc)
    by Less w is e = absurd (cc)
    by BothOf w is e = absurd (cc)
    by EitherOf w is e = absurd (cc)
