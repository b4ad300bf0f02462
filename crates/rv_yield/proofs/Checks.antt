-- The end of each operation: a branch that is taken exactly where the result doesn't fit.
use Rattle.std.proofs.Common.{◌≡◌, ⊎_elim, ℕ, ◌+◌, ◌^◌, ◌<◌, ◌≤◌, Bool, true, false, not, List, ◌∷◌, Option, Some, None, ℤ, pos, FitsSigned, refl, sym, subst, arith, w64, eqb, eq-eqb, eqb-true}
use Rattle.std.proofs.lemmas.Bool.{true_from_ne_false}
use Rattle.rv_code.specs.Arithmetic.{unsigned}
use Rattle.rv_code.specs.declared.instruction.Inst.{Inst}
use Rattle.rv_code.specs.declared.instruction.Inst.TheVariants.{Branch}
use Rattle.rv_code.specs.declared.instruction.BranchOp.{BranchOp}
use Rattle.rv_asm.specs.Arrivals.{moved, holds}
use Rattle.rv_asm.specs.Assembly.{address_of, far_jump, opposite}
use Rattle.rv_asm.specs.WordMachine.{WordState, Has}
use Rattle.action_terms.specs.Information.{Datum, Number}
use Rattle.action_terms.specs.Yielding.{within_64}
use Rattle.rv_yield.proofs.Numbers.{within-cases}
use Rattle.rv_yield.proofs.Steps.{Ran, ran-passed, Outcome, NotYielded, ran-yields, ran-leaves}

-- a register of a value: not one of those that checks use
abbrev pub IsValue : ℕ → Type 0
IsValue k = (0 < k) × (k < 28)

pub not-differ : (u v : ℕ) → u ≡ v → not (eqb u v) ≡ false
not-differ u v e = let same : eqb u v ≡ true = eq-eqb _ _ e in rw same refl

pub differ-not : (u v : ℕ) → not (eqb u v) ≡ false → u ≡ v
differ-not u v e = by (eqb u v) refl e
  where
    by : (b : Bool) → eqb u v ≡ b → not b ≡ false → u ≡ v
    by true q e = eqb-true u v q
    by false q e = absurd (cc)

-- the code of an operation, `size` instructions, stands behind n others, in code in which label l stands behind `at l`
pub record Place (at : ℕ → ℕ) (n size free l : ℕ) (c : WordState) : Type 0 where
  pub near : n + size < 2 ^ 28 + 1
  pub low : free ≤ 26
  pub label_near : at l < 2 ^ 28
  pub here : c.pc ≡ address_of n

module _ (base : ℕ) (code : List Inst) (at : ℕ → ℕ) (n size to free l : ℕ) (c : WordState) (place : Place at n size free l c) where
  -- what comes of the operation
  abbrev pub Does : Option Datum → Type 0
  Does v = Outcome base code 12 to free c (address_of (n + size)) (address_of (at l)) v

  -- the branch stands, and is taken exactly where the integer doesn't fit
  pub checked :
      (k m : ℕ) (e : WordState) (o : BranchOp) (x y : ℕ) (q : Bool) (z : ℤ) → k ≤ 9 → m + 3 ≡ n + size → e.pc ≡ address_of m → Ran base code k to c e →
      Has code e.pc (Branch (opposite o) x y (pos 12) ∷ far_jump (m + 1) (at l)) → holds o x y e ≡ q →
      (FitsSigned w64 z → (q ≡ false) × (e.registers to ≡ unsigned z)) → (q ≡ false → FitsSigned w64 z) →
      Does (within_64 z)
  checked k m e o x y q z few ends there ran stands is fits only =
      ⊎_elim
      (λ (w : (within_64 z ≡ Some (Number z)) × FitsSigned w64 z).
      let f = fits w.1 in
      let untaken : holds o x y e ≡ false = rw (is, f.0) refl in
      let passed = ran-passed base code k to c e o x y m (omega (arith, place.near, ends)) there stands.0 untaken ran in
      let next : address_of (m + 3) ≡ address_of (n + size) = omega (arith, ends) in
      subst Does (sym w.0) (ran-yields base code (k + 1) 12 to free c (moved e (m + 3)) (address_of (n + size)) (address_of (at l)) z passed (omega arith) place.low next w.1 f.1))
      (λ (w : (within_64 z ≡ None) × (FitsSigned w64 z → ⊥)).
      let yes' : q ≡ true = true_from_ne_false q (λ e. w.1 (only e)) in
      let taken : holds o x y e ≡ true = rw (is, yes') refl in
      subst Does (sym w.0) (NotYielded (ran-leaves base code k 12 to free c e o x y m (at l) (omega (arith, place.near, ends)) place.label_near there stands taken ran (omega arith) place.low)))
      (within-cases z)
