-- One instruction of the machine of words is one step of the machine of the table.
use Rattle.std.proofs.Common.{◌≡◌, ℕ, ◌+◌, ◌-◌, ◌*◌, ◌/◌, ◌%◌, ◌^◌, ◌<◌, ◌≤◌, min, Bool, true, false, ◌&&◌, List, [], ◌∷◌, ◌++◌, length, get_or, set, drop, Option, Some, None, refl, sym, ap, ◌∙◌, subst, arith, eqb, leb, eq-eqb, le-leb, eqb-true, length-set, ◌⊎◌, ⊎_elim, inl, inr, if◌then◌else◌}
use Rattle.std.proofs.lemmas.List.Elements.{All-get_or, All-set, All-drop}
use Rattle.std.proofs.lemmas.Option.{get_or_from_slice_get}
use Rattle.rv_code.specs.Bytes.{number_of, bytes_of}
use Rattle.rv_code.specs.Encode.{is_encodable, word_of}
use Rattle.rv_code.specs.Arithmetic.{wrap}
use Rattle.rv_code.specs.Machine.{State, Segment, Outcome, Ran, Trapped, register, read_bytes, write_bytes, holder, execute, step, call, sets as state_sets, jumps as state_jumps, loads as state_loads, stores as state_stores, receive_call, send_call}
use Rattle.rv_code.specs.declared.cause.Cause.TheVariants.{Load as CauseLoad, Store as CauseStore}
use Rattle.rv_code.specs.declared.instruction.Inst.{Inst}
use Rattle.rv_code.proofs.Words.{word_of-below, decode-word_of}
use Rattle.rv_code.proofs.ByteLaws.{number-bytes, length-bytes}
use Rattle.rv_asm.specs.Conventions.{IsLayout, code_bytes, code_segment, region_segment}
use Rattle.rv_asm.specs.WordMachine.{WordState, WordStep, Goes, Exits, Stuck, IsBounded, put, register_list, word_bytes, instruction_at, word_index, received_word, sets, jumps, loads, stores, sends, receives, calls, machine_state}
use Rattle.rv_asm.proofs.Registers.{put-below, register-register_list, with_register-register_list}
use Rattle.rv_asm.proofs.WordBytes.{length-word_bytes, take-word_bytes, put_at-word_bytes, put_at-received, received_word-below}
use Rattle.rv_asm.proofs.Places.{IsPlace, and-true, word_index-is, instruction_at-is, length-code_bytes, take-code_bytes}

if-goes : (b : Bool) (x d : WordState) → (if b then Goes x else Stuck) ≡ Goes d → (b ≡ true) × (x ≡ d)
if-goes true x d e = (refl, cc)
if-goes false x d e = absurd (cc)

-- which call it was that goes on
pick-call :
    (p q r : Bool) (k : ℕ) (o : List ℕ) (x y : WordStep) (d : WordState) →
    (if p then Exits k o else if q then x else if r then y else Stuck) ≡ Goes d →
    ((p ≡ false) × (q ≡ true) × (x ≡ Goes d)) ⊎ ((p ≡ false) × (r ≡ true) × (y ≡ Goes d))
pick-call true q r k o x y d e = absurd (cc)
pick-call false true r k o x y d e = inl (refl, refl, e)
pick-call false false true k o x y d e = inr (refl, refl, e)
pick-call false false false k o x y d e = absurd (cc)

module _ (base : ℕ) (code : List Inst) (n : ℕ) (layout : IsLayout base code n) where
  abbrev pub state : WordState → State
  state c = machine_state base code c

  abbrev pub IsDone : Outcome → WordState → Type 0
  IsDone o d = (o ≡ Ran (state d)) × IsBounded n d

  pub encodable-at : (c : WordState) (i : Inst) → instruction_at code c.pc ≡ Some i → is_encodable i ≡ true
  encodable-at c i e =
      let a = instruction_at-is code c.pc i e in
      let k = (c.pc - 65536) / 4 in
      subst (λ i. is_encodable i ≡ true) (get_or_from_slice_get code k i i a.is) (All-get_or (λ i. is_encodable i ≡ true) code k i a.inside layout.encodable)

  pub pc-below : (c : WordState) (i : Inst) → instruction_at code c.pc ≡ Some i → c.pc + 4 < 2 ^ 64
  pc-below c i e =
      let a = instruction_at-is code c.pc i e in
      omega (arith, layout.behind, layout.below, a.behind, a.inside)

  -- the step executes the instruction that stands at the pc
  pub step-execute : (c : WordState) (i : Inst) → instruction_at code c.pc ≡ Some i → step (state c) ≡ execute i (state c)
  unfolding step
  step-execute c i e =
      let a = instruction_at-is code c.pc i e in
      let k = (c.pc - 65536) / 4 in
      let enc = encodable-at c i e in
      let x : eqb (c.pc % 4) 0 ≡ true = eq-eqb _ _ a.aligned in
      let y : leb 65536 c.pc ≡ true = le-leb _ _ a.behind in
      let z : leb (c.pc + 4) (65536 + length (code_bytes code)) ≡ true = le-leb _ _ (omega (arith, length-code_bytes code, a.aligned, a.behind, a.inside)) in
      let q : c.pc - 65536 ≡ 4 * k = omega (arith, a.aligned, a.behind) in
      let m : number_of (bytes_of 4 (word_of i)) ≡ word_of i = number-bytes 4 (word_of i) ∙ omega (arith, word_of-below i enc) in
      rw (x, y, z, q, take-code_bytes code k i a.is, m, decode-word_of i enc) refl

  pub sets-does :
      (c : WordState) (rd v : ℕ) → IsBounded n c → c.pc + 4 < 2 ^ 64 → v < 2 ^ 64 → (d : WordState) → sets c rd v ≡ Goes d →
      IsDone (state_sets (state c) rd v) d
  sets-does c rd v s p b d e =
      let x : record c { pc = c.pc + 4; registers = put c.registers rd v } ≡ d = cc in
      let w : wrap (c.pc + 4) ≡ c.pc + 4 = omega arith in
      subst (IsDone (state_sets (state c) rd v)) x
      (rw with_register-register_list (ap (λ q. Ran (state (record c { pc = q; registers = put c.registers rd v }))) w), record { size = s.size; registers = put-below c.registers rd v s.registers b; words = s.words; input = s.input })

  pub jumps-does :
      (c : WordState) (rd t : ℕ) → IsBounded n c → c.pc + 4 < 2 ^ 64 → (d : WordState) → jumps c rd t ≡ Goes d →
      IsDone (state_jumps (state c) rd t) d
  jumps-does c rd t s p d e =
      let f = if-goes (eqb (t % 4) 0) (record c { pc = t; registers = put c.registers rd (c.pc + 4) }) d e in
      let w : wrap (c.pc + 4) ≡ c.pc + 4 = omega arith in
      subst (IsDone (state_jumps (state c) rd t)) f.1
      (rw (f.0, with_register-register_list) (ap (λ q. Ran (state (record c { pc = t; registers = put c.registers rd q }))) w), record { size = s.size; registers = put-below c.registers rd (c.pc + 4) s.registers p; words = s.words; input = s.input })

  -- the segments with these words in the region
  abbrev pub segments_of : List ℕ → List Segment
  segments_of ws = code_segment code ∷ region_segment base (word_bytes ws) ∷ []

  -- the region has the bytes of its words, to read or to write
  holder-region :
      (ws : List ℕ) (flag a i k : ℕ) → (flag ≡ 2) ⊎ (flag ≡ 4) → IsPlace base (length ws) a i → k ≤ 8 →
      holder (segments_of ws) flag a k ≡ Some 1
  holder-region ws flag a i k f p l =
      let y : leb base a ≡ true = le-leb _ _ (omega (arith, p.is)) in
      let z : leb (a + k) (base + length (word_bytes ws)) ≡ true = le-leb _ _ (omega (arith, length-word_bytes ws, p.is, p.inside)) in
      ⊎_elim
      (λ e. subst (λ f. holder (segments_of ws) f a k ≡ Some 1) (sym e) (rw (y, z) refl))
      (λ e. subst (λ f. holder (segments_of ws) f a k ≡ Some 1) (sym e) (rw (y, z) refl))
      f

  read-region : (ws : List ℕ) (a i : ℕ) → IsPlace base (length ws) a i → read_bytes (segments_of ws) 4 a 8 ≡ Some (bytes_of 8 (get_or ws i 0))
  read-region ws a i p =
      let h = holder-region ws 4 a i 8 (inr refl) p (omega arith) in
      let q : a - base ≡ 8 * i = omega (arith, p.is) in
      rw (h, q, take-word_bytes ws i p.inside) refl

  write-region :
      (ws : List ℕ) (a i v : ℕ) → IsPlace base (length ws) a i →
      write_bytes (segments_of ws) a (bytes_of 8 v) ≡ Some (segments_of (set ws i v))
  write-region ws a i v p =
      let h = holder-region ws 2 a i (length (bytes_of 8 v)) (inl refl) p (omega (arith, length-bytes 8 v)) in
      let q : a - base ≡ 8 * i = omega (arith, p.is) in
      rw (h, q, put_at-word_bytes ws i v p.inside) refl

  pub loads-does :
      (c : WordState) (rd a : ℕ) (o : Option ℕ) → word_index base (length c.words) a ≡ o → IsBounded n c → c.pc + 4 < 2 ^ 64 →
      (d : WordState) → loads c rd o ≡ Goes d →
      IsDone (if eqb (a % 8) 0 then state_loads (state c) rd (λ w. w) (read_bytes (segments_of c.words) 4 a 8) else Trapped CauseLoad) d
  loads-does c rd a None q s p d e = absurd (cc)
  loads-does c rd a (Some i) q s p d e =
      let pl = word_index-is base (length c.words) a i layout.aligned q in
      let x : eqb (a % 8) 0 ≡ true = eq-eqb _ _ pl.even in
      let b : get_or c.words i 0 < 2 ^ 64 = s.words i 0 pl.inside in
      let m : number_of (bytes_of 8 (get_or c.words i 0)) ≡ get_or c.words i 0 = number-bytes 8 (get_or c.words i 0) ∙ omega arith in
      rw (x, read-region c.words a i pl, m) (sets-does c rd (get_or c.words i 0) s p b d e)

  pub stores-does :
      (c : WordState) (v a : ℕ) (o : Option ℕ) → word_index base (length c.words) a ≡ o → IsBounded n c → c.pc + 4 < 2 ^ 64 →
      v < 2 ^ 64 → (d : WordState) → stores c v o ≡ Goes d →
      IsDone (if eqb (a % 8) 0 then state_stores (state c) (write_bytes (segments_of c.words) a (bytes_of 8 v)) else Trapped CauseStore) d
  stores-does c v a None q s p b d e = absurd (cc)
  stores-does c v a (Some i) q s p b d e =
      let pl = word_index-is base (length c.words) a i layout.aligned q in
      let x : eqb (a % 8) 0 ≡ true = eq-eqb _ _ pl.even in
      let w : wrap (c.pc + 4) ≡ c.pc + 4 = omega arith in
      let y : record c { pc = c.pc + 4; words = set c.words i v } ≡ d = cc in
      subst (IsDone _) y
      (rw (x, write-region c.words a i v pl) (ap (λ q. Ran (state (record c { pc = q; words = set c.words i v }))) w), record { size = length-set c.words i v ∙ s.size; registers = s.registers; words = All-set (λ w. w < 2 ^ 64) c.words i v b s.words; input = s.input })

  sends-does :
      (c : WordState) (o : Option ℕ) → word_index base (length c.words) (c.registers 11) ≡ o → IsBounded n c → c.pc + 4 < 2 ^ 64 →
      (d : WordState) → sends c o ≡ Goes d →
      IsDone (send_call (state c) (c.registers 11) 8) d
  sends-does c None q s p d e = absurd (cc)
  sends-does c (Some i) q s p d e =
      let pl = word_index-is base (length c.words) (c.registers 11) i layout.aligned q in
      let w : wrap (c.pc + 4) ≡ c.pc + 4 = omega arith in
      let y : record c { pc = c.pc + 4; registers = put c.registers 10 8; output = c.output ++ bytes_of 8 (get_or c.words i 0) } ≡ d = cc in
      subst (IsDone _) y
      (rw (read-region c.words (c.registers 11) i pl, with_register-register_list c.registers 10 8) (ap (λ q. Ran (state (record c { pc = q; registers = put c.registers 10 8; output = c.output ++ bytes_of 8 (get_or c.words i 0) }))) w), record { size = s.size; registers = put-below c.registers 10 8 s.registers (omega arith); words = s.words; input = s.input })

  receives-does :
      (c : WordState) (o : Option ℕ) → word_index base (length c.words) (c.registers 11) ≡ o → IsBounded n c → c.pc + 4 < 2 ^ 64 →
      (d : WordState) → receives c o ≡ Goes d →
      IsDone (receive_call (state c) (c.registers 11) 8) d
  receives-does c None q s p d e = absurd (cc)
  receives-does c (Some i) q s p d e =
      let pl = word_index-is base (length c.words) (c.registers 11) i layout.aligned q in
      let m = min 8 (length c.input) in
      let w : wrap (c.pc + 4) ≡ c.pc + 4 = omega arith in
      let v = received_word (get_or c.words i 0) c.input in
      let new = record c { pc = c.pc + 4; registers = put c.registers 10 m; words = set c.words i v; input = drop m c.input } in
      let f : new ≡ d = cc in
      let h = holder-region c.words 2 (c.registers 11) i 8 (inl refl) pl (omega arith) in
      let k : c.registers 11 - base ≡ 8 * i = omega (arith, pl.is) in
      let r = put_at-received c.words i m c.input pl.inside (omega arith) s.input in
      let b = received_word-below (get_or c.words i 0) c.input s.input in
      subst (IsDone _) f
      (rw (h, k, r, with_register-register_list c.registers 10 m) (ap (λ q. Ran (state (record new { pc = q }))) w), record { size = length-set c.words i v ∙ s.size; registers = put-below c.registers 10 m s.registers (omega arith); words = All-set (λ w. w < 2 ^ 64) c.words i v b s.words; input = All-drop (λ b. b < 256) m c.input s.input })

  -- a register as the table reads it
  abbrev pub listed : WordState → ℕ → ℕ
  listed c k = register (register_list c.registers) k

  pub calls-does :
      (c : WordState) → IsBounded n c → c.pc + 4 < 2 ^ 64 → (d : WordState) → calls base c (c.registers 17) ≡ Goes d →
      IsDone (call (state c) (listed c 17) (listed c 10) (listed c 11) (listed c 12)) d
  calls-does c s p d e = ⊎_elim send-case receive-case (pick-call _ _ _ _ _ _ _ d e)
    where
      q11 : listed c 11 ≡ c.registers 11
      q11 = register-register_list c.registers 11 (omega arith)

      send-case :
          (eqb (c.registers 17) 93 ≡ false) × (eqb (c.registers 17) 64 && eqb (c.registers 10) 1 && eqb (c.registers 12) 8 ≡ true) × (sends c (word_index base (length c.words) (c.registers 11)) ≡ Goes d) →
          IsDone (call (state c) (listed c 17) (listed c 10) (listed c 11) (listed c 12)) d
      send-case h =
          let a = and-true (eqb (c.registers 17) 64 && eqb (c.registers 10) 1) (eqb (c.registers 12) 8) h.1 in
          let b = and-true (eqb (c.registers 17) 64) (eqb (c.registers 10) 1) a.0 in
          let q17 : listed c 17 ≡ 64 = register-register_list c.registers 17 (omega arith) ∙ eqb-true _ _ b.0 in
          let q10 : listed c 10 ≡ 1 = register-register_list c.registers 10 (omega arith) ∙ eqb-true _ _ b.1 in
          let q12 : listed c 12 ≡ 8 = register-register_list c.registers 12 (omega arith) ∙ eqb-true _ _ a.1 in
          rw (q17, q10, q12, q11) (sends-does c _ refl s p d h.2)

      receive-case :
          (eqb (c.registers 17) 93 ≡ false) × (eqb (c.registers 17) 63 && eqb (c.registers 10) 0 && eqb (c.registers 12) 8 ≡ true) × (receives c (word_index base (length c.words) (c.registers 11)) ≡ Goes d) →
          IsDone (call (state c) (listed c 17) (listed c 10) (listed c 11) (listed c 12)) d
      receive-case h =
          let a = and-true (eqb (c.registers 17) 63 && eqb (c.registers 10) 0) (eqb (c.registers 12) 8) h.1 in
          let b = and-true (eqb (c.registers 17) 63) (eqb (c.registers 10) 0) a.0 in
          let q17 : listed c 17 ≡ 63 = register-register_list c.registers 17 (omega arith) ∙ eqb-true _ _ b.0 in
          let q10 : listed c 10 ≡ 0 = register-register_list c.registers 10 (omega arith) ∙ eqb-true _ _ b.1 in
          let q12 : listed c 12 ≡ 8 = register-register_list c.registers 12 (omega arith) ∙ eqb-true _ _ a.1 in
          rw (q17, q10, q12, q11) (receives-does c _ refl s p d h.2)
