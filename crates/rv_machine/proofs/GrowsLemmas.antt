-- The output only grows.
use Rattle.std.proofs.Common.{◌≡◌, ℕ, zero, suc, ◌+◌, ◌%◌, ◌<◌, ◌&&◌, min, Bool, true, false, nat_eq, List, [], ◌∷◌, ◌++◌, length, take, Option, Some, None, refl, sym, ap, ◌∙◌, arith, append-nil, append_assoc, if◌then◌else◌}
use Rattle.std.proofs.lemmas.List.{take-append-le, take_min}
use Rattle.std.proofs.Math.Seq.{take-append-add}
use Rattle.acg_base.specs.Outside.{GainsFrontOf}
use Rattle.rv_code.specs.Machine.{State, Outcome, Segment, Ran, Exited, Trapped, read_bytes, write_bytes, holder, register, sets, loads, stores, receives, sends, receive_call, send_call, execute, executes, fetches, after, step, run}
use Rattle.rv_code.specs.Table.{decode}
use Rattle.rv_code.specs.Bytes.{number_of, bytes_of}
use Rattle.rv_code.specs.Arithmetic.{wrap, unsigned, load_size, extended, store_size, is_taken}
use Rattle.rv_code.specs.declared.cause.Cause.{Cause}
use Rattle.rv_code.specs.declared.cause.Cause.TheVariants.{Call as CauseCall}
use Rattle.rv_code.specs.declared.instruction.Inst.{Inst}
use Rattle.rv_code.specs.declared.instruction.Inst.TheVariants.{Op, OpImm, Shift, Load, Store, Branch, Upper, Jal, Jalr, Fence, Ecall, Ebreak}
use Rattle.rv_machine.specs.Machines.{MachineValue, state_of, state_behind, output_behind, sent, last, sent_in, StepSends, Runs}

-- the output of one state begins with that of another
pub record Extends (s t : State) : Type 0 where
  pub rest : List ℕ
  pub grows : t.output ≡ s.output ++ rest

-- an outcome's output begins with that of the state before, and an exit's is that one
abbrev pub Grows : State → Outcome → Type 0
Grows s (Ran t) = Extends s t
Grows s (Exited code output) = output ≡ s.output
Grows s (Trapped cause) = Unit {0}

same : (s t : State) → t.output ≡ s.output → Extends s t
same s t e = record { rest = []; grows = e ∙ sym (append-nil s.output) }

chained : (s t u : State) → Extends s t → Extends t u → Extends s u
chained s t u h k = record { rest = h.rest ++ k.rest; grows = rw (k.grows, h.grows, append_assoc) refl }

jumps-grow : (b : Bool) (s t : State) (cause : Cause) → t.output ≡ s.output → Grows s (if b then Ran t else Trapped cause)
jumps-grow true s t cause e = same s t e
jumps-grow false s t cause e = tt

branches-grow : (taken multiple : Bool) (s t u : State) (cause : Cause) → t.output ≡ s.output → u.output ≡ s.output →
    Grows s (if taken then (if multiple then Ran t else Trapped cause) else Ran u)
branches-grow true multiple s t u cause e f = jumps-grow multiple s t cause e
branches-grow false multiple s t u cause e f = same s u f

loads-grow : (aligned : Bool) (s : State) (rd : ℕ) (extend : ℕ → ℕ) (bytes : Option (List ℕ)) (cause : Cause) →
    Grows s (if aligned then loads s rd extend bytes else Trapped cause)
loads-grow true s rd extend None cause = tt
loads-grow true s rd extend (Some bytes) cause = same s _ refl
loads-grow false s rd extend bytes cause = tt

stores-grow : (aligned : Bool) (s : State) (segments : Option (List Segment)) (cause : Cause) →
    Grows s (if aligned then stores s segments else Trapped cause)
stores-grow true s None cause = tt
stores-grow true s (Some segments) cause = same s _ refl
stores-grow false s segments cause = tt

receives-grow : (none : Bool) (s : State) (address n : ℕ) (place : Option ℕ) →
    Grows s (if none then sets s 10 0 else receives s address n place)
receives-grow true s address n place = same s _ refl
receives-grow false s address n None = tt
receives-grow false s address n (Some i) = same s _ refl

sends-grow : (none : Bool) (s : State) (n : ℕ) (bytes : Option (List ℕ)) → Grows s (if none then sets s 10 0 else sends s n bytes)
sends-grow true s n bytes = same s _ refl
sends-grow false s n None = tt
sends-grow false s n (Some bytes) = record { rest = bytes; grows = refl }

calls-grow : (exits receives_it sends_it : Bool) (s : State) (o p q : Outcome) (cause : Cause) → Grows s o → Grows s p → Grows s q →
    Grows s (if exits then o else (if receives_it then p else (if sends_it then q else Trapped cause)))
calls-grow true r t s o p q cause f g h = f
calls-grow false true t s o p q cause f g h = g
calls-grow false false true s o p q cause f g h = h
calls-grow false false false s o p q cause f g h = tt

execute-grows : (inst : Inst) (s : State) → Grows s (execute inst s)
execute-grows (Op op rd rs1 rs2) s = same s _ refl
execute-grows (OpImm op rd rs1 imm) s = same s _ refl
execute-grows (Shift op rd rs1 amount) s = same s _ refl
execute-grows (Load op rd rs1 imm) s =
    loads-grow _ s rd (extended op) (read_bytes s.segments 4 (wrap (register s.registers rs1 + unsigned imm)) (load_size op)) _
execute-grows (Store op rs1 rs2 imm) s =
    stores-grow _ s (write_bytes s.segments (wrap (register s.registers rs1 + unsigned imm)) (bytes_of (store_size op) (register s.registers rs2))) _
execute-grows (Branch op rs1 rs2 imm) s =
    branches-grow (is_taken op (register s.registers rs1) (register s.registers rs2)) _ s _ _ _ refl refl
execute-grows (Upper op rd imm) s = same s _ refl
execute-grows (Jal rd imm) s = jumps-grow _ s _ _ refl
execute-grows (Jalr rd rs1 imm) s = jumps-grow _ s _ _ refl
execute-grows (Fence rd rs1 imm) s = same s _ refl
execute-grows Ecall s =
    let x17 = register s.registers 17 in
    let x10 = register s.registers 10 in
    let x11 = register s.registers 11 in
    let x12 = register s.registers 12 in
    calls-grow (nat_eq x17 93) (nat_eq x17 63 && nat_eq x10 0) (nat_eq x17 64 && nat_eq x10 1) s (Exited (x10 % 256) s.output)
    (receive_call s x11 x12) (send_call s x11 x12) CauseCall refl (receives-grow (nat_eq x12 0) s x11 x12 (holder s.segments 2 x11 x12))
    (sends-grow (nat_eq x12 0) s x12 (read_bytes s.segments 4 x11 x12))
execute-grows Ebreak s = tt

executes-grow : (s : State) (inst : Option Inst) → Grows s (executes s inst)
executes-grow s None = tt
executes-grow s (Some inst) = execute-grows inst s

fetches-grow : (s : State) (bytes : Option (List ℕ)) → Grows s (fetches s bytes)
fetches-grow s None = tt
fetches-grow s (Some bytes) = executes-grow s (decode (number_of bytes))

pub step-grows : (s : State) → Grows s (step s)
unfolding step
step-grows s = fetches-grow s (if nat_eq (s.pc % 4) 0 then read_bytes s.segments 1 s.pc 4 else None)

behind-grows : (o : Outcome) (s : State) (go : State → State) → Grows s o → ((u : State) → Extends u (go u)) → Extends s (state_behind o s go)
behind-grows (Ran u) s go h k = chained s u (go u) h (k u)
behind-grows (Exited code output) s go h k = same s s refl
behind-grows (Trapped cause) s go h k = same s s refl

pub last-grows : (n : ℕ) (s : State) → Extends s (last n s)
unfolding last
last-grows zero s = same s s refl
last-grows (suc n) s = behind-grows (step s) s (last n) (step-grows s) (last-grows n)

passes : (o : Outcome) (s t u : State) (go : State → Outcome) (follow : State → State) →
    ((v : State) → go v ≡ Ran t → Extends u (follow v)) → after o go ≡ Ran t → Extends u (state_behind o s follow)
passes (Ran v) s t u go follow h e = h v e
passes (Exited code output) s t u go follow h e = absurd (cc)
passes (Trapped cause) s t u go follow h e = absurd (cc)

-- a run goes on from a state that it passes
pub last-passes : (n b : ℕ) (s t u : State) → n < b → run n s ≡ Ran t → step t ≡ Ran u → Extends u (last b s)
unfolding run last
last-passes n zero s t u h e f = absurd (omega arith)
last-passes zero (suc b) s t u h e f = let there : s ≡ t = cc in rw (there, f) (last-grows b u)
last-passes (suc n) (suc b) s t u h e f =
    passes (step s) s t u (run n) (last b) (λ v r. last-passes n b v t u (omega arith) r f) e

-- an outcome with output ran
pub ran-behind : (o : Outcome) (xs : List ℕ) → output_behind o ≡ xs → (xs ≡ [] → ⊥) → (u : State) × ((o ≡ Ran u) × (u.output ≡ xs))
ran-behind (Ran u) xs e h = (u, (refl, e))
ran-behind (Exited code output) xs e h = absurd (h (sym e))
ran-behind (Trapped cause) xs e h = absurd (h (sym e))

no-parts : (xs ys : List ℕ) → (ys ≡ [] → ⊥) → xs ++ ys ≡ [] → ⊥
no-parts [] ys h e = h e
no-parts (x ∷ xs) ys h e = cc

-- a run sends what it sends up to an instruction, then what that one sends, and then more
pub sent_in-passes : (n b : ℕ) (m : MachineValue) (i : List ℕ) (k : MachineValue) (j : List ℕ) → n < b →
    Runs n m i k j → (sent k ≡ [] → ⊥) → StepSends k j → (rest : List ℕ) × (sent_in b m i ≡ (sent_in n m i ++ sent k) ++ rest)
unfolding sent_in
sent_in-passes n b m i k j h r s e =
    let ran = ran-behind (step (state_of k j (sent_in n m i))) (sent_in n m i ++ sent k) (e (sent_in n m i)) (no-parts (sent_in n m i) (sent k) s) in
    let x = last-passes n b (state_of m i []) (state_of k j (sent_in n m i)) ran.0 h (r []) ran.1.0 in
    (x.rest, x.grows ∙ ap (λ xs. xs ++ x.rest) ran.1.1)

-- a front of what one instruction sends ends a front of what the run sends
pub front-passes : (sent_before piece rest all old new : List ℕ) → all ≡ (sent_before ++ piece) ++ rest →
    GainsFrontOf piece (old ++ sent_before) new → GainsFrontOf all old new
front-passes sent_before piece rest all old new e (count, f) =
    let cut : take (length sent_before + min count (length piece)) all ≡ sent_before ++ take count piece =
    rw (e, append_assoc, take-append-add, take-append-le (min count (length piece)) piece rest (omega arith), take_min count piece) refl
    in
    (length sent_before + min count (length piece), rw (f, cut, append_assoc) refl)
