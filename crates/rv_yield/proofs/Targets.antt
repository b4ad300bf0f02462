-- Where values can go, items that stand in the code, and that each yielder needs a register.
use Rattle.std.proofs.Common.{◌≡◌, ◌≢◌, ◌⊎◌, ⊎_elim, ℕ, ◌+◌, ◌*◌, ◌^◌, ◌<◌, ◌≤◌, Bool, true, false, List, ◌++◌, length, Option, Some, None, ℤ, refl, ◌∙◌, subst, arith, inl, inr, eqb, eqb-true}
use Rattle.rv_code.proofs.Bools.{true-or-false}
use Rattle.rv_code.specs.declared.instruction.Inst.{Inst}
use Rattle.rv_asm.specs.Assembly.{address_of, code_from, total}
use Rattle.rv_asm.specs.Conventions.{truth_word}
use Rattle.rv_asm.specs.WordMachine.{Has}
use Rattle.rv_asm.specs.declared.item.Item.{Item}
use Rattle.rv_asm.proofs.Labels.{length-code, code-append}
use Rattle.rv_asm.proofs.Places.{Has-front, Has-back}
use Rattle.action_terms.specs.Actions.{Yielder, NumberLiteral, TruthLiteral, Given, GivenAt, BoundTo, StoredIn, OnTwo, OnOne, ClosureOf}
use Rattle.action_terms.specs.Need.{yielder_count}
use Rattle.rv_yield.specs.Registers.{registers_needed, addend}
use Rattle.rv_yield.specs.YielderCode.{addend_for}
use Rattle.rv_yield.specs.Tasks.{IsTarget}
use Rattle.rv_yield.proofs.Checks.{IsValue}

pub some-count : (y : Yielder) → 0 < yielder_count y
some-count (NumberLiteral z) = omega arith
some-count (TruthLiteral t) = omega arith
some-count (Given s) = omega arith
some-count (GivenAt s k) = omega arith
some-count (BoundTo s t) = omega arith
some-count (StoredIn s y) = omega arith
some-count (OnTwo f y1 y2) = omega arith
some-count (OnOne f y) = omega arith
some-count (ClosureOf k) = omega arith

pub some-need : (y : Yielder) → 0 < registers_needed y
some-need (NumberLiteral z) = omega arith
some-need (TruthLiteral t) = omega arith
some-need (Given s) = omega arith
some-need (GivenAt s k) = omega arith
some-need (BoundTo s t) = omega arith
some-need (StoredIn s y) = some-need y
some-need (OnTwo f y1 y2) = omega arith
some-need (OnOne f y) = some-need y
some-need (ClosureOf k) = omega arith

pub option-cases : (o : Option ℤ) → ((z : ℤ) × (o ≡ Some z)) ⊎ (o ≡ None)
option-cases None = inr refl
option-cases (Some z) = inl (z, refl)

-- ---- items that stand in the code

module _ (code : List Inst) (at : ℕ → ℕ) where
  abbrev pub Stands : ℕ → List Item → Type 0
  Stands n items = Has code (address_of n) (code_from at n items)

  pub stands-front : (n : ℕ) (a b : List Item) → Stands n (a ++ b) → Stands n a
  stands-front n a b h = Has-front code (address_of n) (code_from at n a) (code_from at (n + total a) b) (subst (Has code (address_of n)) (code-append at n a b) h)

  pub stands-back : (n : ℕ) (a b : List Item) → Stands n (a ++ b) → Stands (n + total a) b
  stands-back n a b h =
      let there : address_of n + 4 * length (code_from at n a) ≡ address_of (n + total a) = omega (arith, length-code at n a) in
      subst (λ p. Has code p (code_from at (n + total a) b)) there
      (Has-back code (address_of n) (code_from at n a) (code_from at (n + total a) b) (subst (Has code (address_of n)) (code-append at n a b) h))

pub target-value : (to free : ℕ) → 10 ≤ free → free < 26 → IsTarget to free → IsValue to
target-value to free a b t = (⊎_elim (λ e. omega arith) (λ e. ⊎_elim (λ e. omega arith) (λ e. omega arith) e) t, ⊎_elim (λ e. omega arith) (λ e. ⊎_elim (λ e. omega arith) (λ e. omega arith) e) t)

pub target-low : (to free : ℕ) → 10 ≤ free → IsTarget to free → 10 ≤ to
target-low to free a t = ⊎_elim (λ e. omega arith) (λ e. ⊎_elim (λ e. omega arith) (λ e. omega arith) e) t

pub truth-below : (t : Bool) → truth_word t < 2 ^ 64
truth-below true = omega arith
truth-below false = omega arith

pub target-apart : (to free : ℕ) → free < 25 → IsTarget to free → to ≢ free + 1
target-apart to free b t = ⊎_elim (λ e. omega arith) (λ e. ⊎_elim (λ e. omega arith) (λ e. omega arith) e) t

pub addend-target : (to free : ℕ) → IsTarget (addend_for to) free
addend-target to free = ⊎_elim (λ q. inr (inr (rw q refl))) (λ q. inr (inl (rw q refl))) (true-or-false (eqb to addend))

pub addend-apart : (to free : ℕ) → to ≢ addend_for to
addend-apart to free = ⊎_elim (λ q. let is : addend_for to ≡ 27 = rw q refl in omega (arith, is, eqb-true to 26 q)) (λ q. let is : addend_for to ≡ 26 = rw q refl in λ e. differ q (e ∙ is)) (true-or-false (eqb to addend))
  where
    differ : eqb to 26 ≡ false → to ≢ 26
    differ q e = let z : eqb 26 26 ≡ false = subst (λ t. eqb t 26 ≡ false) e q in absurd (cc)
