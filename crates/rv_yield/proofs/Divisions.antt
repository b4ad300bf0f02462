-- The code of a quotient and of a remainder, on integers in registers.
use Rattle.std.proofs.Common.{◌≡◌, ⊎_elim, ℕ, ◌+◌, ◌<◌, Bool, true, false, not, ◌&&◌, List, [], ◌∷◌, Some, None, ℤ, pos, int_lt, int_div, int_rem, FitsSigned, refl, sym, ap, ◌∙◌, subst, arith, inl, inr, w64, eqb, drop}
use Rattle.rv_code.proofs.Bools.{true-or-false}
use Rattle.rv_code.specs.Arithmetic.{wrap, signed, unsigned, truth}
use Rattle.rv_code.specs.declared.instruction.Inst.{Inst}
use Rattle.rv_code.specs.declared.instruction.Inst.TheVariants.{Op}
use Rattle.rv_code.specs.declared.instruction.OpOp.TheVariants.{Div, Rem, And}
use Rattle.rv_code.specs.declared.instruction.OpImmOp.TheVariants.{Slti}
use Rattle.rv_code.specs.declared.instruction.BranchOp.TheVariants.{Bne, Beq}
use Rattle.rv_asm.specs.Arrivals.{moved, holds}
use Rattle.rv_asm.specs.Assembly.{address_of, code_from}
use Rattle.rv_asm.specs.WordMachine.{WordState, Goes, get, run_words, Has}
use Rattle.rv_asm.proofs.Registers.{get-put_other, put-other}
use Rattle.action_terms.specs.Information.{Number}
use Rattle.action_terms.specs.Yielding.{within_64, divided, int_eq}
use Rattle.rv_yield.specs.YielderCode.{quotient_items, remainder_items}
use Rattle.rv_yield.proofs.Numbers.{signed-unsigned, fits-within}
use Rattle.rv_yield.proofs.Quotients.{zero-word, rem-fits, remainder-word, quotient-word, quotient-word_fits, over-fits, over-fits_only, and-truth}
use Rattle.rv_yield.proofs.Steps.{written, get-written, put-written, op-runs, immediate-runs, ran-none, ran-set, ran-passed, NotYielded, ran-yields, ran-leaves}
use Rattle.rv_yield.proofs.Checks.{IsValue, Place, Does, checked}

not-zero : (b : Bool) → not (eqb (truth b) 0) ≡ b
not-zero true = refl
not-zero false = refl

and-three : (p q r : Bool) → (p && q) && r ≡ p && q && r
and-three true q r = refl
and-three false q r = refl

module _ (base : ℕ) (code : List Inst) (at : ℕ → ℕ) (n to free l : ℕ) (c : WordState) (wanted : IsValue to) (a b : ℕ) (x y : ℤ) (va : a < 28) (vb : b < 28) (ga : get c.registers a ≡ unsigned x) (gb : get c.registers b ≡ unsigned y) (fx : FitsSigned w64 x) (fy : FitsSigned w64 y) where
  -- the test of the divisor
  zero-is : holds Beq b 0 c ≡ int_eq y (pos 0)
  zero-is = ap (λ v. eqb v 0) gb ∙ zero-word y fy

  pub remainder-does :
      (place : Place at n 4 free l c) → Has code c.pc (code_from at n (remainder_items to a b l)) → Does base code at n 4 to free l c place (divided int_rem x y)
  remainder-does place h = ⊎_elim (λ e. none e) (λ e. some e) (true-or-false (int_eq y (pos 0)))
    where
      none : int_eq y (pos 0) ≡ true → Does base code at n 4 to free l c place (divided int_rem x y)
      none e =
          let v : divided int_rem x y ≡ None = rw e refl in
          subst (Does base code at n 4 to free l c place) (sym v)
          (NotYielded (ran-leaves base code 0 12 to free c c Beq b 0 n (at l) (omega (arith, place.near)) place.label_near place.here (h.0, (h.1.0, (h.1.1.0, tt))) (zero-is ∙ e) (ran-none base code to c) (omega arith) place.low))

      some : int_eq y (pos 0) ≡ false → Does base code at n 4 to free l c place (divided int_rem x y)
      some e =
          let v : divided int_rem x y ≡ within_64 (int_rem x y) = rw e refl in
          let c1 = moved c (n + 3) in
          let s = unsigned (int_rem x y) in
          let r1 = ran-passed base code 0 to c c Beq b 0 n (omega (arith, place.near)) place.here h.0 (zero-is ∙ e) (ran-none base code to c) in
          let pc : c.pc + 4 + 4 + 4 ≡ address_of (n + 3) = omega (arith, place.here) in
          let stands = subst (λ p. Has code p (Op Rem to a b ∷ [])) pc h.1.1.1 in
          let r2 = ran-set base code 1 to c c1 to s (inl refl) r1 (subst (λ w. run_words base code 1 c1 ≡ Goes (written c1 to w)) (remainder-word x y fx fy e) (op-runs base code c1 Rem to a b (unsigned x) (unsigned y) stands.0 ga gb)) in
          let within : within_64 (int_rem x y) ≡ Some (Number (int_rem x y)) = fits-within (int_rem x y) (rem-fits x y fx) in
          subst (Does base code at n 4 to free l c place) (sym (v ∙ within))
          (ran-yields base code 2 12 to free c (written c1 to s) (address_of (n + 4)) (address_of (at l)) (int_rem x y) r2 (omega arith) place.low (omega arith) (rem-fits x y fx) (put-written c1.registers to s wanted.0))

  -- the quotient where the divisor isn't 0
  pub quotient-does :
      (place : Place at n 12 free l c) → Has code c.pc (code_from at n (quotient_items to a b l)) → Does base code at n 12 to free l c place (divided int_div x y)
  quotient-does place h = ⊎_elim (λ e. none e) (λ e. some e) (true-or-false (int_eq y (pos 0)))
    where
      none : int_eq y (pos 0) ≡ true → Does base code at n 12 to free l c place (divided int_div x y)
      none e =
          let v : divided int_div x y ≡ None = rw e refl in
          subst (Does base code at n 12 to free l c place) (sym v)
          (NotYielded (ran-leaves base code 0 12 to free c c Beq b 0 n (at l) (omega (arith, place.near)) place.label_near place.here (h.0, (h.1.0, (h.1.1.0, tt))) (zero-is ∙ e) (ran-none base code to c) (omega arith) place.low))

      some : int_eq y (pos 0) ≡ false → Does base code at n 12 to free l c place (divided int_div x y)
      some e =
          let z = int_div x y in
          let v : divided int_div x y ≡ within_64 z = rw e refl in
          let p = int_lt x (pos 0) in
          let q = int_lt y (pos 0) in
          let s = wrap (unsigned z) in
          let r = int_lt (signed s) (pos 0) in
          let c1 = moved c (n + 3) in
          let c2 = written c1 29 (truth p) in
          let c3 = written c2 28 (truth q) in
          let c4 = written c3 29 (truth (p && q)) in
          let c5 = written c4 to s in
          let c6 = written c5 28 (truth r) in
          let c7 = written c6 29 (truth (p && q && r)) in
          let pc : c.pc + 4 + 4 + 4 ≡ address_of (n + 3) = omega (arith, place.here) in
          let stands = subst (λ w. Has code w (code_from at (n + 3) (drop 1 (quotient_items to a b l)))) pc h.1.1.1 in
          let sx = signed-unsigned x fx in
          let sy = signed-unsigned y fy in
          let a2 : get c2.registers a ≡ unsigned x = get-put_other c1.registers a 29 (truth p) (omega arith) ∙ ga in
          let b2 : get c2.registers b ≡ unsigned y = get-put_other c1.registers b 29 (truth p) (omega arith) ∙ gb in
          let a4 : get c4.registers a ≡ unsigned x = get-put_other c3.registers a 29 (truth (p && q)) (omega arith) ∙ get-put_other c2.registers a 28 (truth q) (omega arith) ∙ a2 in
          let b4 : get c4.registers b ≡ unsigned y = get-put_other c3.registers b 29 (truth (p && q)) (omega arith) ∙ get-put_other c2.registers b 28 (truth q) (omega arith) ∙ b2 in
          let g29 : get c3.registers 29 ≡ truth p = get-put_other c2.registers 29 28 (truth q) (omega arith) ∙ get-written c1.registers 29 (truth p) (omega arith) in
          let g28 : get c3.registers 28 ≡ truth q = get-written c2.registers 28 (truth q) (omega arith) in
          let t5 : get c5.registers to ≡ s = get-written c4.registers to s wanted.0 in
          let k29 : get c6.registers 29 ≡ truth (p && q) = get-put_other c5.registers 29 28 (truth r) (omega arith) ∙ get-put_other c4.registers 29 to s (omega (arith, wanted.1)) ∙ get-written c3.registers 29 (truth (p && q)) (omega arith) in
          let k28 : get c6.registers 28 ≡ truth r = get-written c5.registers 28 (truth r) (omega arith) in
          let r1 = ran-passed base code 0 to c c Beq b 0 n (omega (arith, place.near)) place.here h.0 (zero-is ∙ e) (ran-none base code to c) in
          let i2 = subst (λ m. run_words base code 1 c1 ≡ Goes (written c1 29 (truth (int_lt m (pos 0))))) sx (immediate-runs base code c1 Slti 29 a (unsigned x) (pos 0) stands.0 ga) in
          let r2 = ran-set base code 1 to c c1 29 (truth p) (inr (omega arith)) r1 i2 in
          let i3 = subst (λ m. run_words base code 1 c2 ≡ Goes (written c2 28 (truth (int_lt m (pos 0))))) sy (immediate-runs base code c2 Slti 28 b (unsigned y) (pos 0) stands.1.0 b2) in
          let r3 = ran-set base code 2 to c c2 28 (truth q) (inr (omega arith)) r2 i3 in
          let i4 = subst (λ m. run_words base code 1 c3 ≡ Goes (written c3 29 m)) (and-truth p q) (op-runs base code c3 And 29 29 28 (truth p) (truth q) stands.1.1.0 g29 g28) in
          let r4 = ran-set base code 3 to c c3 29 (truth (p && q)) (inr (omega arith)) r3 i4 in
          let i5 = subst (λ m. run_words base code 1 c4 ≡ Goes (written c4 to m)) (quotient-word x y fx fy e) (op-runs base code c4 Div to a b (unsigned x) (unsigned y) stands.1.1.1.0 a4 b4) in
          let r5 = ran-set base code 4 to c c4 to s (inl refl) r4 i5 in
          let r6 = ran-set base code 5 to c c5 28 (truth r) (inr (omega arith)) r5 (immediate-runs base code c5 Slti 28 to s (pos 0) stands.1.1.1.1.0 t5) in
          let i7 = subst (λ m. run_words base code 1 c6 ≡ Goes (written c6 29 m)) (and-truth (p && q) r ∙ ap truth (and-three p q r)) (op-runs base code c6 And 29 29 28 (truth (p && q)) (truth r) stands.1.1.1.1.1.0 k29 k28) in
          let r7 = ran-set base code 6 to c c6 29 (truth (p && q && r)) (inr (omega arith)) r6 i7 in
          let over : get c7.registers 29 ≡ truth (p && q && r) = get-written c6.registers 29 (truth (p && q && r)) (omega arith) in
          let value : FitsSigned w64 z → c7.registers to ≡ unsigned z =
          λ f. put-other c6.registers to 29 (truth (p && q && r)) (omega (arith, wanted.1)) ∙ put-other c5.registers to 28 (truth r) (omega (arith, wanted.1)) ∙ put-written c4.registers to s wanted.0 ∙ quotient-word_fits x y f in
          subst (Does base code at n 12 to free l c place) (sym v)
          (checked base code at n 12 to free l c place 7 (n + 3 + 1 + 1 + 1 + 1 + 1 + 1) c7 Bne 29 0 (p && q && r) z (omega arith) (omega arith) (omega (arith, place.here)) r7 stands.1.1.1.1.1.1
          (ap (λ w. not (eqb w 0)) over ∙ not-zero (p && q && r))
          (λ f. (over-fits x y f, value f))
          (λ o. over-fits_only x y fx o))
