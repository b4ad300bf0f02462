-- The code of a sum, a difference, a product and of a sum with a constant, on integers in registers.
use Rattle.std.proofs.Common.{◌≡◌, ◌≢◌, ⊎_elim, ℕ, ◌+◌, ◌-◌, ◌*◌, ◌^◌, ◌<◌, true, false, not, List, [], ◌∷◌, ℤ, pos, ◌+ℤ◌, ◌-ℤ◌, ◌*ℤ◌, int_lt, FitsSigned, refl, sym, ap, ◌∙◌, arith, inl, inr, w64, eqb}
use Rattle.std.specs.Int.{int_shr, int_wrap}
use Rattle.rv_code.proofs.Bools.{true-or-false}
use Rattle.rv_code.specs.Arithmetic.{wrap, signed, unsigned, truth, high}
use Rattle.rv_code.specs.declared.instruction.Inst.{Inst}
use Rattle.rv_code.specs.declared.instruction.Inst.TheVariants.{OpImm}
use Rattle.rv_asm.specs.declared.item.Item.TheVariants.{Plain, BranchTo}
use Rattle.rv_code.specs.declared.instruction.OpOp.TheVariants.{Add, Sub, Slt, Mul, Mulh}
use Rattle.rv_code.specs.declared.instruction.OpImmOp.TheVariants.{Slti, Addi}
use Rattle.rv_code.specs.declared.instruction.ShiftOp.TheVariants.{Srai}
use Rattle.rv_code.specs.declared.instruction.BranchOp.TheVariants.{Bne, Bge, Blt}
use Rattle.rv_asm.specs.Assembly.{code_from}
use Rattle.rv_asm.specs.WordMachine.{WordState, get, Has}
use Rattle.rv_asm.proofs.Registers.{get-put_other, put-other}
use Rattle.action_terms.specs.Yielding.{within_64}
use Rattle.rv_yield.specs.YielderCode.{sum_items, difference_items, product_items, addition_items}
use Rattle.rv_yield.proofs.Numbers.{signed-unsigned, truth-same, sum-word, sum-test, sum-test-only, addition-up, addition-up_only, addition-down, addition-down_only, difference-word, difference-test, difference-test-only}
use Rattle.rv_yield.proofs.Products.{product-word, product-word_fits, high-fits, high-fits_only}
use Rattle.rv_yield.proofs.Steps.{written, get-written, put-written, op-runs, immediate-runs, shift-runs, ran-none, ran-set}
use Rattle.rv_yield.proofs.Checks.{IsValue, not-differ, differ-not, Place, Does, checked}

module _ (base : ℕ) (code : List Inst) (at : ℕ → ℕ) (n to free l : ℕ) (c : WordState) (wanted : IsValue to) where
  pub sum-does :
      (place : Place at n 6 free l c) (a b : ℕ) (x y : ℤ) → a < 28 → b < 28 → to ≢ b → get c.registers a ≡ unsigned x → get c.registers b ≡ unsigned y →
      FitsSigned w64 x → FitsSigned w64 y → Has code c.pc (code_from at n (sum_items to a b l)) → Does base code at n 6 to free l c place (within_64 (x +ℤ y))
  sum-does place a b x y va vb tb ga gb fx fy h =
      let s = wrap (unsigned x + unsigned y) in
      let u = truth (int_lt (signed (unsigned x)) (pos 0)) in
      let v = truth (int_lt (signed s) (signed (unsigned y))) in
      let c1 = written c 28 u in
      let c2 = written c1 to s in
      let c3 = written c2 29 v in
      let a1 : get c1.registers a ≡ unsigned x = get-put_other c.registers a 28 u (omega arith) ∙ ga in
      let b1 : get c1.registers b ≡ unsigned y = get-put_other c.registers b 28 u (omega arith) ∙ gb in
      let b2 : get c2.registers b ≡ unsigned y = get-put_other c1.registers b to s (λ q. tb (sym q)) ∙ b1 in
      let t2 : get c2.registers to ≡ s = get-written c1.registers to s wanted.0 in
      let r1 = ran-set base code 0 to c c 28 u (inr (omega arith)) (ran-none base code to c) (immediate-runs base code c Slti 28 a (unsigned x) (pos 0) h.0 ga) in
      let r2 = ran-set base code 1 to c c1 to s (inl refl) r1 (op-runs base code c1 Add to a b (unsigned x) (unsigned y) h.1.0 a1 b1) in
      let r3 = ran-set base code 2 to c c2 29 v (inr (omega arith)) r2 (op-runs base code c2 Slt 29 to b s (unsigned y) h.1.1.0 t2 b2) in
      let e28 : get c3.registers 28 ≡ u = get-put_other c2.registers 28 29 v (omega arith) ∙ get-put_other c1.registers 28 to s (omega (arith, wanted.1)) ∙ get-written c.registers 28 u (omega arith) in
      let e29 : get c3.registers 29 ≡ v = get-written c2.registers 29 v (omega arith) in
      let sx = signed-unsigned x fx in
      let sy = signed-unsigned y fy in
      let value : FitsSigned w64 (x +ℤ y) → c3.registers to ≡ unsigned (x +ℤ y) =
      λ f. put-other c2.registers to 29 v (omega (arith, wanted.1)) ∙ put-written c1.registers to s wanted.0 ∙ sum-word x y fx fy f in
      checked base code at n 6 to free l c place 3 (n + 1 + 1 + 1) c3 Bne 28 29 (not (eqb u v)) (x +ℤ y) (omega arith) (omega arith) (omega (arith, place.here)) r3 h.1.1.1
      (rw (e28, e29) refl)
      (λ f. (not-differ u v (ap truth (rw (sx, sy) (sum-test-only x y fx fy f))), value f))
      (λ same. sum-test x y fx fy (ap (λ z. int_lt z (pos 0)) (sym sx) ∙ truth-same _ _ (differ-not u v same) ∙ ap (int_lt (signed s)) sy))

  pub difference-does :
      (place : Place at n 6 free l c) (a b : ℕ) (x y : ℤ) → a < 28 → b < 28 → get c.registers a ≡ unsigned x → get c.registers b ≡ unsigned y →
      FitsSigned w64 x → FitsSigned w64 y → Has code c.pc (code_from at n (difference_items to a b l)) → Does base code at n 6 to free l c place (within_64 (x -ℤ y))
  difference-does place a b x y va vb ga gb fx fy h =
      let s = wrap (unsigned x + (2 ^ 64 - unsigned y)) in
      let u = truth (int_lt (signed (unsigned x)) (signed (unsigned y))) in
      let v = truth (int_lt (signed s) (pos 0)) in
      let c1 = written c 28 u in
      let c2 = written c1 to s in
      let c3 = written c2 29 v in
      let a1 : get c1.registers a ≡ unsigned x = get-put_other c.registers a 28 u (omega arith) ∙ ga in
      let b1 : get c1.registers b ≡ unsigned y = get-put_other c.registers b 28 u (omega arith) ∙ gb in
      let t2 : get c2.registers to ≡ s = get-written c1.registers to s wanted.0 in
      let r1 = ran-set base code 0 to c c 28 u (inr (omega arith)) (ran-none base code to c) (op-runs base code c Slt 28 a b (unsigned x) (unsigned y) h.0 ga gb) in
      let r2 = ran-set base code 1 to c c1 to s (inl refl) r1 (op-runs base code c1 Sub to a b (unsigned x) (unsigned y) h.1.0 a1 b1) in
      let r3 = ran-set base code 2 to c c2 29 v (inr (omega arith)) r2 (immediate-runs base code c2 Slti 29 to s (pos 0) h.1.1.0 t2) in
      let e28 : get c3.registers 28 ≡ u = get-put_other c2.registers 28 29 v (omega arith) ∙ get-put_other c1.registers 28 to s (omega (arith, wanted.1)) ∙ get-written c.registers 28 u (omega arith) in
      let e29 : get c3.registers 29 ≡ v = get-written c2.registers 29 v (omega arith) in
      let sx = signed-unsigned x fx in
      let sy = signed-unsigned y fy in
      let value : FitsSigned w64 (x -ℤ y) → c3.registers to ≡ unsigned (x -ℤ y) =
      λ f. put-other c2.registers to 29 v (omega (arith, wanted.1)) ∙ put-written c1.registers to s wanted.0 ∙ difference-word x y fx fy f in
      checked base code at n 6 to free l c place 3 (n + 1 + 1 + 1) c3 Bne 28 29 (not (eqb u v)) (x -ℤ y) (omega arith) (omega arith) (omega (arith, place.here)) r3 h.1.1.1
      (rw (e28, e29) refl)
      (λ f. (not-differ u v (ap truth (rw (sx, sy) (difference-test-only x y fx fy f))), value f))
      (λ same. difference-test x y fx fy (ap (λ z. int_lt z y) (sym sx) ∙ ap (int_lt (signed (unsigned x))) (sym sy) ∙ truth-same _ _ (differ-not u v same)))

  pub product-does :
      (place : Place at n 6 free l c) (a b : ℕ) (x y : ℤ) → a < 28 → b < 28 → get c.registers a ≡ unsigned x → get c.registers b ≡ unsigned y →
      FitsSigned w64 x → FitsSigned w64 y → Has code c.pc (code_from at n (product_items to a b l)) → Does base code at n 6 to free l c place (within_64 (x *ℤ y))
  product-does place a b x y va vb ga gb fx fy h =
      let s = wrap (unsigned x * unsigned y) in
      let v = high (signed (unsigned x) *ℤ signed (unsigned y)) in
      let u = unsigned (int_shr (signed s) 63) in
      let c1 = written c 29 v in
      let c2 = written c1 to s in
      let c3 = written c2 28 u in
      let a1 : get c1.registers a ≡ unsigned x = get-put_other c.registers a 29 v (omega arith) ∙ ga in
      let b1 : get c1.registers b ≡ unsigned y = get-put_other c.registers b 29 v (omega arith) ∙ gb in
      let t2 : get c2.registers to ≡ s = get-written c1.registers to s wanted.0 in
      let r1 = ran-set base code 0 to c c 29 v (inr (omega arith)) (ran-none base code to c) (op-runs base code c Mulh 29 a b (unsigned x) (unsigned y) h.0 ga gb) in
      let r2 = ran-set base code 1 to c c1 to s (inl refl) r1 (op-runs base code c1 Mul to a b (unsigned x) (unsigned y) h.1.0 a1 b1) in
      let r3 = ran-set base code 2 to c c2 28 u (inr (omega arith)) r2 (shift-runs base code c2 Srai 28 to s 63 h.1.1.0 t2) in
      let e28 : get c3.registers 28 ≡ u = get-written c2.registers 28 u (omega arith) in
      let e29 : get c3.registers 29 ≡ v = get-put_other c2.registers 29 28 u (omega arith) ∙ get-put_other c1.registers 29 to s (omega (arith, wanted.1)) ∙ get-written c.registers 29 v (omega arith) in
      let sx = signed-unsigned x fx in
      let sy = signed-unsigned y fy in
      let hv : v ≡ high (x *ℤ y) = rw (sx, sy) refl in
      let hu : u ≡ unsigned (int_shr (int_wrap w64 (x *ℤ y)) 63) = ap (λ m. unsigned (int_shr m 63)) (product-word x y fx fy) in
      let value : FitsSigned w64 (x *ℤ y) → c3.registers to ≡ unsigned (x *ℤ y) =
      λ f. put-other c2.registers to 28 u (omega (arith, wanted.1)) ∙ put-written c1.registers to s wanted.0 ∙ product-word_fits x y fx fy f in
      checked base code at n 6 to free l c place 3 (n + 1 + 1 + 1) c3 Bne 28 29 (not (eqb u v)) (x *ℤ y) (omega arith) (omega arith) (omega (arith, place.here)) r3 h.1.1.1
      (rw (e28, e29) refl)
      (λ f. (not-differ u v (hu ∙ sym (high-fits (x *ℤ y) f) ∙ sym hv), value f))
      (λ same. high-fits_only x y fx fy (sym hv ∙ sym (differ-not u v same) ∙ hu))

  -- a sum with a constant
  pub addition-does :
      (place : Place at n 4 free l c) (a : ℕ) (x z : ℤ) → a < 28 → to ≢ a → get c.registers a ≡ unsigned x → FitsSigned w64 x → FitsSigned w64 z →
      Has code c.pc (code_from at n (addition_items to a z l)) → Does base code at n 4 to free l c place (within_64 (x +ℤ z))
  addition-does place a x z va ta ga fx fz h = ⊎_elim (λ e. down e) (λ e. up e) (true-or-false (int_lt z (pos 0)))
    where
      down : int_lt z (pos 0) ≡ true → Does base code at n 4 to free l c place (within_64 (x +ℤ z))
      down e =
          let s = wrap (unsigned x + unsigned z) in
          let c1 = written c to s in
          let stands : Has code c.pc (code_from at n (Plain (OpImm Addi to a z) ∷ BranchTo Bge to a l ∷ [])) = rw e at h in
          let r1 = ran-set base code 0 to c c to s (inl refl) (ran-none base code to c) (immediate-runs base code c Addi to a (unsigned x) z stands.0 ga) in
          let t1 : get c1.registers to ≡ s = get-written c.registers to s wanted.0 in
          let a1 : get c1.registers a ≡ unsigned x = get-put_other c.registers a to s (λ q. ta (sym q)) ∙ ga in
          let sx = signed-unsigned x fx in
          checked base code at n 4 to free l c place 1 (n + 1) c1 Bge to a (not (int_lt (signed s) x)) (x +ℤ z) (omega arith) (omega arith) (omega (arith, place.here)) r1 stands.1
          (rw (t1, a1, sx) refl)
          (λ f. (addition-down_only x z fx fz e f, put-written c.registers to s wanted.0 ∙ sum-word x z fx fz f))
          (λ q. addition-down x z fx fz e q)

      up : int_lt z (pos 0) ≡ false → Does base code at n 4 to free l c place (within_64 (x +ℤ z))
      up e =
          let s = wrap (unsigned x + unsigned z) in
          let c1 = written c to s in
          let stands : Has code c.pc (code_from at n (Plain (OpImm Addi to a z) ∷ BranchTo Blt to a l ∷ [])) = rw e at h in
          let r1 = ran-set base code 0 to c c to s (inl refl) (ran-none base code to c) (immediate-runs base code c Addi to a (unsigned x) z stands.0 ga) in
          let t1 : get c1.registers to ≡ s = get-written c.registers to s wanted.0 in
          let a1 : get c1.registers a ≡ unsigned x = get-put_other c.registers a to s (λ q. ta (sym q)) ∙ ga in
          let sx = signed-unsigned x fx in
          checked base code at n 4 to free l c place 1 (n + 1) c1 Blt to a (int_lt (signed s) x) (x +ℤ z) (omega arith) (omega arith) (omega (arith, place.here)) r1 stands.1
          (rw (t1, a1, sx) refl)
          (λ f. (addition-up_only x z fx fz e f, put-written c.registers to s wanted.0 ∙ sum-word x z fx fz f))
          (λ q. addition-up x z fx fz e q)
