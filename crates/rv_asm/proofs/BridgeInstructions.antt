-- Each instruction of the machine of words is executed by the machine of the table.
use Rattle.std.proofs.Common.{◌≡◌, ℕ, ◌+◌, ◌-◌, ◌^◌, ◌<◌, ◌≤◌, Bool, true, false, ◌&&◌, List, ℤ, pos, negsuc, refl, ap, subst, arith, ltb, ltb-true, if◌then◌else◌}
use Rattle.rv_code.specs.Encode.{is_encodable, is_in_format, has_registers, has_bits, is_multiple}
use Rattle.rv_code.specs.Arithmetic.{wrap, unsigned, is_taken}
use Rattle.rv_code.specs.Machine.{State, Outcome, Ran, execute, jumps as state_jumps, goes_on}
use Rattle.rv_code.specs.declared.instruction.Inst.{Inst}
use Rattle.rv_code.specs.declared.instruction.Inst.TheVariants.{Op, OpImm, Shift, Load, Store, Branch, Upper, Jal, Jalr, Fence, Ecall, Ebreak}
use Rattle.rv_code.specs.declared.instruction.LoadOp.TheVariants.{Lb, Lh, Lw, Ld, Lbu, Lhu, Lwu}
use Rattle.rv_code.specs.declared.instruction.StoreOp.TheVariants.{Sb, Sh, Sw, Sd}
use Rattle.rv_code.proofs.Bounds.{operation-below, immediate_operation-below, shift_operation-below, upper_value-below}
use Rattle.rv_asm.specs.Conventions.{IsLayout}
use Rattle.rv_asm.specs.WordMachine.{WordState, Goes, IsBounded, get, act, jumps, machine_state}
use Rattle.rv_asm.proofs.Registers.{get-below, register-register_list}
use Rattle.rv_asm.proofs.Places.{and-true}
use Rattle.rv_asm.proofs.BridgeSteps.{sets-does, jumps-does, loads-does, stores-does, calls-does}

unsigned-below : (k : ℕ) (z : ℤ) → has_bits k z ≡ true → 2 ^ (k - 1) ≤ 2 ^ 32 → unsigned z < 2 ^ 64
unsigned-below k (pos n) e l = omega (arith, ltb-true n (2 ^ (k - 1)) e)
unsigned-below k (negsuc n) e l = omega arith

-- an instruction's two tests: its registers, and its format
parts : (i : Inst) → is_encodable i ≡ true → (has_registers i ≡ true) × (is_in_format i ≡ true)
parts i e = and-true (has_registers i) (is_in_format i) e

-- two registers below 32
below-two : (a b : ℕ) → ltb a 32 && ltb b 32 ≡ true → (a < 32) × (b < 32)
below-two a b e = let q = and-true (ltb a 32) (ltb b 32) e in (ltb-true a 32 q.0, ltb-true b 32 q.1)

-- the last two of three
below-three : (d a b : ℕ) → ltb d 32 && (ltb a 32 && ltb b 32) ≡ true → (a < 32) × (b < 32)
below-three d a b e = below-two a b (and-true (ltb d 32) (ltb a 32 && ltb b 32) e).1

module _ (base : ℕ) (code : List Inst) (n : ℕ) (layout : IsLayout base code n) where
  abbrev state : WordState → State
  state c = machine_state base code c

  abbrev IsDone : Outcome → WordState → Type 0
  IsDone o d = (o ≡ Ran (state d)) × IsBounded n d

  pub execute-does :
      (c : WordState) (i : Inst) → IsBounded n c → is_encodable i ≡ true → c.pc + 4 < 2 ^ 64 → (d : WordState) →
      act base i c ≡ Goes d →
      IsDone (execute i (state c)) d
  execute-does c (Op o rd a b) s en p d e =
      let q = below-three rd a b (parts (Op o rd a b) en).0 in
      rw (register-register_list c.registers a q.0, register-register_list c.registers b q.1)
      (sets-does base code n layout c rd _ s p (operation-below o (get c.registers a) (get c.registers b) (get-below c.registers a s.registers) (get-below c.registers b s.registers)) d e)
  execute-does c (OpImm o rd a z) s en p d e =
      let t = parts (OpImm o rd a z) en in
      let q = below-two rd a t.0 in
      rw (register-register_list c.registers a q.1)
      (sets-does base code n layout c rd _ s p (immediate_operation-below o (get c.registers a) z (get-below c.registers a s.registers) (unsigned-below 12 z t.1 (omega arith))) d e)
  execute-does c (Shift o rd a k) s en p d e =
      let q = below-two rd a (parts (Shift o rd a k) en).0 in
      rw (register-register_list c.registers a q.1)
      (sets-does base code n layout c rd _ s p (shift_operation-below o (get c.registers a) k (get-below c.registers a s.registers)) d e)
  execute-does c (Load Ld rd a z) s en p d e =
      let q = below-two rd a (parts (Load Ld rd a z) en).0 in
      rw (register-register_list c.registers a q.1)
      (loads-does base code n layout c rd (wrap (get c.registers a + unsigned z)) _ refl s p d e)
  execute-does c (Store Sd a b z) s en p d e =
      let q = below-two a b (parts (Store Sd a b z) en).0 in
      rw (register-register_list c.registers a q.0, register-register_list c.registers b q.1)
      (stores-does base code n layout c (get c.registers b) (wrap (get c.registers a + unsigned z)) _ refl s p (get-below c.registers b s.registers) d e)
  execute-does c (Branch o a b z) s en p d e =
      let q = below-two a b (parts (Branch o a b z) en).0 in
      rw (register-register_list c.registers a q.0, register-register_list c.registers b q.1) (branch (is_taken o (get c.registers a) (get c.registers b)) e)
    where
      goes-does : Goes (record c { pc = c.pc + 4 }) ≡ Goes d → IsDone (Ran (goes_on (state c))) d
      goes-does x =
          let y : record c { pc = c.pc + 4 } ≡ d = cc in
          let w : wrap (c.pc + 4) ≡ c.pc + 4 = omega arith in
          subst (IsDone (Ran (goes_on (state c)))) y (ap (λ q. Ran (state (record c { pc = q }))) w, record { size = s.size; registers = s.registers; words = s.words; input = s.input })

      branch :
          (t : Bool) → (if t then jumps c 0 (wrap (c.pc + unsigned z)) else Goes (record c { pc = c.pc + 4 })) ≡ Goes d →
          IsDone (if t then state_jumps (state c) 0 (wrap (c.pc + unsigned z)) else Ran (goes_on (state c))) d
      branch true x = jumps-does base code n layout c 0 (wrap (c.pc + unsigned z)) s p d x
      branch false x = goes-does x
  execute-does c (Upper o rd z) s en p d e =
      let t = and-true (has_bits 32 z) (is_multiple 4096 z) (parts (Upper o rd z) en).1 in
      sets-does base code n layout c rd _ s p (upper_value-below o c.pc z (unsigned-below 32 z t.0 (omega arith))) d e
  execute-does c (Jal rd z) s en p d e = jumps-does base code n layout c rd (wrap (c.pc + unsigned z)) s p d e
  execute-does c (Jalr rd a z) s en p d e =
      let q = below-two rd a (parts (Jalr rd a z) en).0 in
      rw (register-register_list c.registers a q.1) (jumps-does base code n layout c rd _ s p d e)
  execute-does c Ecall s en p d e = calls-does base code n layout c s p d e
  execute-does c Ebreak s en p d e = absurd (cc)
  execute-does c (Fence rd a z) s en p d e = absurd (cc)
  execute-does c (Load Lb rd a z) s en p d e = absurd (cc)
  execute-does c (Load Lh rd a z) s en p d e = absurd (cc)
  execute-does c (Load Lw rd a z) s en p d e = absurd (cc)
  execute-does c (Load Lbu rd a z) s en p d e = absurd (cc)
  execute-does c (Load Lhu rd a z) s en p d e = absurd (cc)
  execute-does c (Load Lwu rd a z) s en p d e = absurd (cc)
  execute-does c (Store Sb a b z) s en p d e = absurd (cc)
  execute-does c (Store Sh a b z) s en p d e = absurd (cc)
  execute-does c (Store Sw a b z) s en p d e = absurd (cc)
