-- How many registers a yielder needs: what an operation needs, and that 16 are enough within the limit on nodes.
use Rattle.std.proofs.Common.{◌≡◌, ◌⊎◌, ⊎_elim, ℕ, ◌+◌, ◌^◌, ◌<◌, ◌≤◌, min, max, Bool, true, false, refl, sym, subst, arith, eqb, ne_eqb, pow_mono}
use Rattle.std.proofs.lemmas.Nat.{pow-add}
use Rattle.rv_code.proofs.Bools.{true-or-false}
use Rattle.action_terms.specs.Actions.{Two, Yielder, NumberLiteral, TruthLiteral, Given, GivenAt, BoundTo, StoredIn, OnTwo, OnOne, ClosureOf}
use Rattle.action_terms.specs.Need.{yielder_count}
use Rattle.rv_yield.specs.Registers.{registers_needed, need_of, both_needed, is_built}
use Rattle.rv_yield.proofs.Targets.{some-need}

-- what an operation needs
pub need-both : (f : Two) (y1 y2 : Yielder) → both_needed (need_of y1) (need_of y2) ≡ need_of (OnTwo f y1 y2)
need-both f y1 y2 = by (is_built y1) (is_built y2) refl refl
  where
    by : (p q : Bool) → is_built y1 ≡ p → is_built y2 ≡ q → both_needed (need_of y1) (need_of y2) ≡ need_of (OnTwo f y1 y2)
    by true true e1 e2 =
        let z1 : eqb (registers_needed y1) 0 ≡ false = ne_eqb _ _ (omega (arith, some-need y1)) in
        let z2 : eqb (registers_needed y2) 0 ≡ false = ne_eqb _ _ (omega (arith, some-need y2)) in
        rw (e1, e2, z1, z2) refl
    by true false e1 e2 =
        let z1 : eqb (registers_needed y1) 0 ≡ false = ne_eqb _ _ (omega (arith, some-need y1)) in
        rw (e1, e2, z1) refl
    by false q e1 e2 = rw e1 refl

-- so many registers are enough only where there are as many yielders
pub registers-few : (y : Yielder) → 2 ^ registers_needed y ≤ yielder_count y + 1
registers-few (NumberLiteral z) = omega arith
registers-few (TruthLiteral t) = omega arith
registers-few (Given s) = omega arith
registers-few (GivenAt s k) = omega arith
registers-few (BoundTo s t) = omega arith
registers-few (StoredIn s y) = omega (arith, registers-few y)
registers-few (OnTwo f y1 y2) = two (registers_needed y1) (registers_needed y2) (yielder_count y1) (yielder_count y2) (registers-few y1) (registers-few y2)
  where
    one-more : (m c1 c2 : ℕ) → 2 ^ m ≤ c1 + 1 → 2 ^ m ≤ c2 + 1 → 2 ^ (m + 1) ≤ 1 + (c1 + c2) + 1
    one-more m c1 c2 h1 h2 = rw (pow-add 2 m 1) (omega (arith, h1, h2))

    less : (m n c : ℕ) → m ≤ n → 2 ^ n ≤ c → 2 ^ m ≤ c
    less m n c le h = omega (arith, pow_mono le, h)

    two : (a b c1 c2 : ℕ) → 2 ^ a ≤ c1 + 1 → 2 ^ b ≤ c2 + 1 → 2 ^ max (max a b) (min a b + 1) ≤ 1 + (c1 + c2) + 1
    two a b c1 c2 h1 h2 =
        ⊎_elim
        (λ e. subst (λ m. 2 ^ m ≤ 1 + (c1 + c2) + 1) (sym e.0) (one-more (min a b) c1 c2 (less (min a b) a (c1 + 1) (omega arith) h1) (less (min a b) b (c2 + 1) (omega arith) h2)))
        (λ e. ⊎_elim (λ e1. subst (λ m. 2 ^ m ≤ 1 + (c1 + c2) + 1) (sym e1) (omega (arith, h1))) (λ e2. subst (λ m. 2 ^ m ≤ 1 + (c1 + c2) + 1) (sym e2) (omega (arith, h2))) e)
        (cases a b)
      where
        cases : (a b : ℕ) → ((max (max a b) (min a b + 1) ≡ min a b + 1) × (a ≡ a)) ⊎ ((max (max a b) (min a b + 1) ≡ a) ⊎ (max (max a b) (min a b + 1) ≡ b))
        cases a b = grind arith
registers-few (OnOne f y) = omega (arith, registers-few y)
registers-few (ClosureOf k) = omega arith

-- within the limit on nodes 16 are enough
pub registers-enough : (y : Yielder) → yielder_count y < 65536 → registers_needed y ≤ 16
registers-enough y few = ⊎_elim (λ (h : registers_needed y ≤ 16). h) (λ (h : 17 ≤ registers_needed y). absurd (omega (arith, pow_mono h, registers-few y, few))) (by (registers_needed y))
  where
    by : (n : ℕ) → (n ≤ 16) ⊎ (17 ≤ n)
    by n = grind arith

-- 0 stands for a yielder whose code can't be made, and for no other
pub need-none : (y : Yielder) → need_of y ≡ 0 → is_built y ≡ false
need-none y e = ⊎_elim (λ (q : is_built y ≡ true). let n : need_of y ≡ registers_needed y = rw q refl in absurd (omega (arith, e, n, some-need y))) (λ q. q) (true-or-false (is_built y))
