-- The output only grows.
use Rattle.std.proofs.Common.{◌≡◌, ℕ, zero, suc, ◌%◌, Bool, true, false, ◌&&◌, if◌then◌else◌, List, [], ◌++◌, length, get_or, Option, Some, None, refl, sym, ap, ◌∙◌, subst, append_assoc, append-nil, eqb}
use Rattle.rv_code.specs.Bytes.{bytes_of}
use Rattle.rv_code.specs.declared.instruction.Inst.{Inst}
use Rattle.rv_code.specs.declared.instruction.Inst.TheVariants.{Op, OpImm, Shift, Load, Store, Branch, Upper, Jal, Jalr, Fence, Ecall, Ebreak}
use Rattle.rv_code.specs.declared.instruction.LoadOp.TheVariants.{Lb, Lh, Lw, Ld, Lbu, Lhu, Lwu}
use Rattle.rv_code.specs.declared.instruction.StoreOp.TheVariants.{Sb, Sh, Sw, Sd}
use Rattle.rv_asm.specs.WordMachine.{WordState, WordStep, Goes, Exits, Stuck, get, instruction_at, word_index, act, act_at, go_on, run_words, loads, stores, sends, receives, calls}

-- what was written before stays
record Grows (o : List ℕ) (x : WordStep) : Type 0 where
  by : (d : WordState) → x ≡ Goes d → (w : List ℕ) × (d.output ≡ o ++ w)

goes-grow : (o w : List ℕ) (d : WordState) → d.output ≡ o ++ w → Grows o (Goes d)
goes-grow o w d h = record { by = λ e p. let x : d ≡ e = cc in (w, subst (λ d. d.output ≡ o ++ w) x h) }

same-grow : (o : List ℕ) (d : WordState) → d.output ≡ o → Grows o (Goes d)
same-grow o d h = goes-grow o [] d (h ∙ sym (append-nil o))

stuck-grow : (o : List ℕ) → Grows o Stuck
stuck-grow o = record { by = λ e p. absurd (cc) }

exits-grow : (o : List ℕ) (k : ℕ) (w : List ℕ) → Grows o (Exits k w)
exits-grow o k w = record { by = λ e p. absurd (cc) }

if-grow : (o : List ℕ) (b : Bool) (x y : WordStep) → Grows o x → Grows o y → Grows o (if b then x else y)
if-grow o true x y g h = g
if-grow o false x y g h = h

loads-grow : (c : WordState) (rd : ℕ) (p : Option ℕ) → Grows c.output (loads c rd p)
loads-grow c rd None = stuck-grow _
loads-grow c rd (Some i) = same-grow _ _ refl

stores-grow : (c : WordState) (v : ℕ) (p : Option ℕ) → Grows c.output (stores c v p)
stores-grow c v None = stuck-grow _
stores-grow c v (Some i) = same-grow _ _ refl

sends-grow : (c : WordState) (p : Option ℕ) → Grows c.output (sends c p)
sends-grow c None = stuck-grow _
sends-grow c (Some i) = goes-grow c.output (bytes_of 8 (get_or c.words i 0)) _ refl

receives-grow : (c : WordState) (p : Option ℕ) → Grows c.output (receives c p)
receives-grow c None = stuck-grow _
receives-grow c (Some i) = same-grow _ _ refl

calls-grow : (base : ℕ) (c : WordState) (nr : ℕ) → Grows c.output (calls base c nr)
calls-grow base c nr =
    let p = word_index base (length c.words) (c.registers 11) in
    pick (eqb nr 93) (eqb nr 64 && eqb (c.registers 10) 1 && eqb (c.registers 12) 8) (eqb nr 63 && eqb (c.registers 10) 0 && eqb (c.registers 12) 8) (sends c p) (receives c p) (sends-grow c p) (receives-grow c p)
  where
    pick :
        (p q r : Bool) (x y : WordStep) → Grows c.output x → Grows c.output y →
        Grows c.output (if p then Exits (c.registers 10 % 256) c.output else if q then x else if r then y else Stuck)
    pick true q r x y g h = exits-grow _ _ _
    pick false true r x y g h = g
    pick false false true x y g h = h
    pick false false false x y g h = stuck-grow _

act-grows : (base : ℕ) (i : Inst) (c : WordState) → Grows c.output (act base i c)
act-grows base (Op o rd a b) c = same-grow _ _ refl
act-grows base (OpImm o rd a z) c = same-grow _ _ refl
act-grows base (Shift o rd a k) c = same-grow _ _ refl
act-grows base (Load Ld rd a z) c = loads-grow c rd _
act-grows base (Store Sd a b z) c = stores-grow c (get c.registers b) _
act-grows base (Branch o a b z) c = if-grow c.output _ _ _ (if-grow c.output _ _ _ (same-grow _ _ refl) (stuck-grow _)) (same-grow _ _ refl)
act-grows base (Upper o rd z) c = same-grow _ _ refl
act-grows base (Jal rd z) c = if-grow c.output _ _ _ (same-grow _ _ refl) (stuck-grow _)
act-grows base (Jalr rd a z) c = if-grow c.output _ _ _ (same-grow _ _ refl) (stuck-grow _)
act-grows base Ecall c = calls-grow base c (c.registers 17)
act-grows base Ebreak c = stuck-grow _
act-grows base (Fence rd a z) c = stuck-grow _
act-grows base (Load Lb rd a z) c = stuck-grow _
act-grows base (Load Lh rd a z) c = stuck-grow _
act-grows base (Load Lw rd a z) c = stuck-grow _
act-grows base (Load Lbu rd a z) c = stuck-grow _
act-grows base (Load Lhu rd a z) c = stuck-grow _
act-grows base (Load Lwu rd a z) c = stuck-grow _
act-grows base (Store Sb a b z) c = stuck-grow _
act-grows base (Store Sh a b z) c = stuck-grow _
act-grows base (Store Sw a b z) c = stuck-grow _

go-on-grows : (o : List ℕ) (x : WordStep) (go : WordState → WordStep) → Grows o x → ((d : WordState) → Grows d.output (go d)) → Grows o (go_on x go)
go-on-grows o (Goes d) go g h = record { by = λ e p. let a = g.by d refl in let b = (h d).by e p in (a.0 ++ b.0, b.1 ∙ ap (λ l. l ++ b.0) a.1 ∙ append_assoc o a.0 b.0) }
go-on-grows o (Exits k w) go g h = exits-grow o k w
go-on-grows o Stuck go g h = stuck-grow o

act-at-grows : (base : ℕ) (o : Option Inst) (c : WordState) → Grows c.output (act_at base o c)
act-at-grows base None c = stuck-grow _
act-at-grows base (Some i) c = act-grows base i c

run_words-grow : (base : ℕ) (code : List Inst) (n : ℕ) (c : WordState) → Grows c.output (run_words base code n c)
run_words-grow base code zero c = same-grow _ _ refl
run_words-grow base code (suc n) c = go-on-grows c.output (act_at base (instruction_at code c.pc) c) (run_words base code n) (act-at-grows base (instruction_at code c.pc) c) (run_words-grow base code n)

-- a run appends to the output
pub output-run_words :
    (base : ℕ) (code : List Inst) (n : ℕ) (c d : WordState) → run_words base code n c ≡ Goes d →
    (w : List ℕ) × (d.output ≡ c.output ++ w)
output-run_words base code n c d e = (run_words-grow base code n c).by d e
