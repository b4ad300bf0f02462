-- An exit of the machine of words is an exit of the machine of the table.
use Rattle.std.proofs.Common.{◌≡◌, ℕ, ◌+◌, ◌-◌, ◌%◌, Bool, true, false, ◌&&◌, if◌then◌else◌, List, length, Option, Some, None, refl, ap₂, ◌∙◌, arith, eqb, eqb-true}
use Rattle.rv_code.specs.Arithmetic.{wrap, unsigned, is_taken}
use Rattle.rv_code.specs.Machine.{Exited, register, execute}
use Rattle.rv_code.specs.declared.instruction.Inst.{Inst}
use Rattle.rv_code.specs.declared.instruction.Inst.TheVariants.{Op, OpImm, Shift, Load, Store, Branch, Upper, Jal, Jalr, Fence, Ecall, Ebreak}
use Rattle.rv_code.specs.declared.instruction.LoadOp.TheVariants.{Lb, Lh, Lw, Ld, Lbu, Lhu, Lwu}
use Rattle.rv_code.specs.declared.instruction.StoreOp.TheVariants.{Sb, Sh, Sw, Sd}
use Rattle.rv_asm.specs.WordMachine.{WordState, WordStep, Goes, Exits, Stuck, get, register_list, word_index, act, loads, stores, sends, receives, machine_state}
use Rattle.rv_asm.proofs.Registers.{register-register_list}

-- only the call that exits ends a run
loads-no : (c : WordState) (rd : ℕ) (p : Option ℕ) (k : ℕ) (o : List ℕ) → loads c rd p ≡ Exits k o → ⊥
loads-no c rd None k o e = cc
loads-no c rd (Some i) k o e = cc

stores-no : (c : WordState) (v : ℕ) (p : Option ℕ) (k : ℕ) (o : List ℕ) → stores c v p ≡ Exits k o → ⊥
stores-no c v None k o e = cc
stores-no c v (Some i) k o e = cc

sends-no : (c : WordState) (p : Option ℕ) (k : ℕ) (o : List ℕ) → sends c p ≡ Exits k o → ⊥
sends-no c None k o e = cc
sends-no c (Some i) k o e = cc

receives-no : (c : WordState) (p : Option ℕ) (k : ℕ) (o : List ℕ) → receives c p ≡ Exits k o → ⊥
receives-no c None k o e = cc
receives-no c (Some i) k o e = cc

jumps-no : (t : Bool) (d : WordState) (k : ℕ) (o : List ℕ) → (if t then Goes d else Stuck) ≡ Exits k o → ⊥
jumps-no true d k o e = cc
jumps-no false d k o e = cc

branch-no : (t u : Bool) (d f : WordState) (k : ℕ) (o : List ℕ) → (if t then (if u then Goes d else Stuck) else Goes f) ≡ Exits k o → ⊥
branch-no true u d f k o e = jumps-no u d k o e
branch-no false u d f k o e = cc

exit-first :
    (p q r : Bool) (j k : ℕ) (w o : List ℕ) (x y : WordStep) → ((k : ℕ) (o : List ℕ) → x ≡ Exits k o → ⊥) →
    ((k : ℕ) (o : List ℕ) → y ≡ Exits k o → ⊥) → (if p then Exits j w else if q then x else if r then y else Stuck) ≡ Exits k o →
    (p ≡ true) × (Exits j w ≡ Exits k o)
exit-first true q r j k w o x y g h e = (refl, e)
exit-first false true r j k w o x y g h e = absurd (g k o e)
exit-first false false true j k w o x y g h e = absurd (h k o e)
exit-first false false false j k w o x y g h e = absurd (cc)

module _ (base : ℕ) (code : List Inst) where
  pub execute-exits : (c : WordState) (i : Inst) (k : ℕ) (o : List ℕ) → act base i c ≡ Exits k o → execute i (machine_state base code c) ≡ Exited k o
  execute-exits c (Op p rd a b) k o e = absurd (cc)
  execute-exits c (OpImm p rd a z) k o e = absurd (cc)
  execute-exits c (Shift p rd a n) k o e = absurd (cc)
  execute-exits c (Load Ld rd a z) k o e = absurd (loads-no c rd _ k o e)
  execute-exits c (Store Sd a b z) k o e = absurd (stores-no c (get c.registers b) _ k o e)
  execute-exits c (Branch p a b z) k o e = absurd (branch-no (is_taken p (get c.registers a) (get c.registers b)) (eqb (wrap (c.pc + unsigned z) % 4) 0) _ _ k o e)
  execute-exits c (Upper p rd z) k o e = absurd (cc)
  execute-exits c (Jal rd z) k o e = absurd (jumps-no (eqb (wrap (c.pc + unsigned z) % 4) 0) _ k o e)
  execute-exits c (Jalr rd a z) k o e = let t = wrap (get c.registers a + unsigned z) in absurd (jumps-no (eqb ((t - t % 2) % 4) 0) _ k o e)
  execute-exits c Ebreak k o e = absurd (cc)
  execute-exits c (Fence rd a z) k o e = absurd (cc)
  execute-exits c (Load Lb rd a z) k o e = absurd (cc)
  execute-exits c (Load Lh rd a z) k o e = absurd (cc)
  execute-exits c (Load Lw rd a z) k o e = absurd (cc)
  execute-exits c (Load Lbu rd a z) k o e = absurd (cc)
  execute-exits c (Load Lhu rd a z) k o e = absurd (cc)
  execute-exits c (Load Lwu rd a z) k o e = absurd (cc)
  execute-exits c (Store Sb a b z) k o e = absurd (cc)
  execute-exits c (Store Sh a b z) k o e = absurd (cc)
  execute-exits c (Store Sw a b z) k o e = absurd (cc)
  execute-exits c Ecall k o e =
      let pl = word_index base (length c.words) (c.registers 11) in
      let x = exit-first (eqb (c.registers 17) 93) (eqb (c.registers 17) 64 && eqb (c.registers 10) 1 && eqb (c.registers 12) 8) (eqb (c.registers 17) 63 && eqb (c.registers 10) 0 && eqb (c.registers 12) 8) (c.registers 10 % 256) k c.output o (sends c pl) (receives c pl) (sends-no c pl) (receives-no c pl) e in
      let q17 : register (register_list c.registers) 17 ≡ 93 = register-register_list c.registers 17 (omega arith) ∙ eqb-true _ _ x.0 in
      let q10 : register (register_list c.registers) 10 ≡ c.registers 10 = register-register_list c.registers 10 (omega arith) in
      let ek : c.registers 10 % 256 ≡ k = let y = x.1 in cc in
      let eo : c.output ≡ o = let y = x.1 in cc in
      rw (q17, q10) (ap₂ Exited ek eo)
