-- Only a call 64 sends, and where its bytes are sent is no matter to it.
use Rattle.std.proofs.Common.{◌≡◌, ◌⊎◌, ℕ, ◌+◌, ◌%◌, ◌&&◌, Bool, true, false, nat_eq, List, [], ◌++◌, Option, Some, None, refl, sym, inl, inr, if◌then◌else◌}
use Rattle.std.specs.Prelude.{Ok, Err}
use Rattle.std.specs.Bool.{OnFalse}
use Rattle.rv_code.specs.Machine.{State, Outcome, Segment, Ran, Exited, Trapped, with_register, read_bytes, write_bytes, holder, register, sets, loads, stores, receives, sends, receive_call, send_call, execute, executes, fetches, step}
use Rattle.rv_code.specs.Table.{decode}
use Rattle.rv_code.specs.Bytes.{number_of, bytes_of}
use Rattle.rv_code.specs.Arithmetic.{wrap, unsigned, load_size, extended, store_size, is_taken}
use Rattle.rv_code.specs.declared.cause.Cause.{Cause}
use Rattle.rv_code.specs.declared.cause.Cause.TheVariants.{Call as CauseCall}
use Rattle.rv_code.specs.declared.instruction.Inst.{Inst}
use Rattle.rv_code.specs.declared.instruction.Inst.TheVariants.{Op, OpImm, Shift, Load, Store, Branch, Upper, Jal, Jalr, Fence, Ecall, Ebreak}
use Rattle.rv_machine.specs.Machines.{MachineValue, state_of, output_behind, sent, Steps, StepExits, StepTraps}
use Rattle.rv_machine.specs.Effects.{Fetches, AtCall}

-- ---- instructions that aren't calls

silent-jump : (multiple : Bool) (t : State) (cause : Cause) → t.output ≡ [] → output_behind (if multiple then Ran t else Trapped cause) ≡ []
silent-jump true t cause e = e
silent-jump false t cause e = refl

silent-branch : (taken multiple : Bool) (t u : State) (cause : Cause) → t.output ≡ [] → u.output ≡ [] →
    output_behind (if taken then (if multiple then Ran t else Trapped cause) else Ran u) ≡ []
silent-branch true multiple t u cause e f = silent-jump multiple t cause e
silent-branch false multiple t u cause e f = f

silent-load : (aligned : Bool) (s : State) (rd : ℕ) (extend : ℕ → ℕ) (bytes : Option (List ℕ)) (cause : Cause) → s.output ≡ [] →
    output_behind (if aligned then loads s rd extend bytes else Trapped cause) ≡ []
silent-load true s rd extend None cause e = refl
silent-load true s rd extend (Some bytes) cause e = e
silent-load false s rd extend bytes cause e = refl

silent-store : (aligned : Bool) (s : State) (segments : Option (List Segment)) (cause : Cause) → s.output ≡ [] →
    output_behind (if aligned then stores s segments else Trapped cause) ≡ []
silent-store true s None cause e = refl
silent-store true s (Some segments) cause e = e
silent-store false s segments cause e = refl

-- an instruction that isn't a call sends nothing
pub execute-silent : (inst : Inst) (s : State) → s.output ≡ [] → (inst ≡ Ecall → ⊥) → output_behind (execute inst s) ≡ []
execute-silent (Op op rd rs1 rs2) s e h = e
execute-silent (OpImm op rd rs1 imm) s e h = e
execute-silent (Shift op rd rs1 amount) s e h = e
execute-silent (Load op rd rs1 imm) s e h =
    silent-load _ s rd (extended op) (read_bytes s.segments 4 (wrap (register s.registers rs1 + unsigned imm)) (load_size op)) _ e
execute-silent (Store op rs1 rs2 imm) s e h =
    silent-store _ s (write_bytes s.segments (wrap (register s.registers rs1 + unsigned imm)) (bytes_of (store_size op) (register s.registers rs2))) _ e
execute-silent (Branch op rs1 rs2 imm) s e h =
    silent-branch (is_taken op (register s.registers rs1) (register s.registers rs2)) _ _ _ _ e e
execute-silent (Upper op rd imm) s e h = e
execute-silent (Jal rd imm) s e h = silent-jump _ _ _ e
execute-silent (Jalr rd rs1 imm) s e h = silent-jump _ _ _ e
execute-silent (Fence rd rs1 imm) s e h = e
execute-silent Ecall s e h = absurd (h refl)
execute-silent Ebreak s e h = refl

pub other-silent : (machine : MachineValue) (inst : Inst) → Fetches (Ok inst) machine → (inst ≡ Ecall → ⊥) → sent machine ≡ []
unfolding sent
other-silent machine inst f h = rw (f [] []) (execute-silent inst (state_of machine [] []) refl h)

pub trap-silent : (machine : MachineValue) (cause : Cause) → Fetches (Err cause) machine → sent machine ≡ []
unfolding sent
trap-silent machine cause f = rw (f [] []) refl

-- ---- calls

pub receives-silent : (s : State) (address size : ℕ) (skip : Bool) (place : Option ℕ) → s.output ≡ [] →
    output_behind (if skip then sets s 10 0 else receives s address size place) ≡ []
receives-silent s address size true place e = e
receives-silent s address size false None e = refl
receives-silent s address size false (Some i) e = e

calls-silent : (exits receives_it : Bool) (code : ℕ) (output : List ℕ) (o p : Outcome) (cause : Cause) → output_behind o ≡ [] →
    output_behind (if exits then Exited code output else (if receives_it then o else (if false then p else Trapped cause))) ≡ []
calls-silent true receives_it code output o p cause e = refl
calls-silent false true code output o p cause e = e
calls-silent false false code output o p cause e = refl

-- a call that isn't call 64 to the output sends nothing
pub call-silent : (machine : MachineValue) → AtCall machine →
    (nat_eq (register machine.registers 17) 64 && nat_eq (register machine.registers 10) 1) ≡ false → sent machine ≡ []
unfolding sent
call-silent machine h e =
    let s = state_of machine [] [] in
    let x17 = register machine.registers 17 in
    let x10 = register machine.registers 10 in
    let x11 = register machine.registers 11 in
    let x12 = register machine.registers 12 in
    rw (h.next [] [], e)
    (calls-silent (nat_eq x17 93) (nat_eq x17 63 && nat_eq x10 0) (x10 % 256) [] (receive_call s x11 x12) (send_call s x11 x12) CauseCall
    (receives-silent s x11 x12 (nat_eq x12 0) (holder machine.segments 2 x11 x12) refl))

-- the same, of the answer of the test
pub call-silent-unless : (machine : MachineValue) (test : Bool) → AtCall machine →
    test ≡ (nat_eq (register machine.registers 17) 64 && nat_eq (register machine.registers 10) 1) → OnFalse test (sent machine ≡ [])
call-silent-unless machine true h e = tt
call-silent-unless machine false h e = call-silent machine h (sym e)

-- ---- an instruction that sends does the same on every input, and behind every output

-- the machine behind a call 64 that sends
abbrev pub passed : MachineValue → MachineValue
passed m = record m { pc = wrap (m.pc + 4); registers = with_register m.registers 10 (register m.registers 12) }

-- an instruction sends nothing, or it is a call 64: then what it does on an input and behind an output is what it does on none
abbrev pub IsSame : (machine : MachineValue) (input output : List ℕ) (alone there : Outcome) → Type 0
IsSame machine input output alone there =
    (output_behind alone ≡ []) ⊎ (there ≡ Ran (state_of (passed machine) input (output ++ output_behind alone)))

sends-same : (machine : MachineValue) (input output : List ℕ) (none : Bool) (bytes : Option (List ℕ)) →
    let n = register machine.registers 12 in
    IsSame machine input output
    (if none then sets (state_of machine [] []) 10 0 else sends (state_of machine [] []) n bytes)
    (if none then sets (state_of machine input output) 10 0 else sends (state_of machine input output) n bytes)
sends-same machine input output true bytes = inl refl
sends-same machine input output false None = inl refl
sends-same machine input output false (Some bytes) = inr refl

calls-same : (machine : MachineValue) (input output : List ℕ) (exits receives_it sends_it : Bool) (code : ℕ) (o p o' p' : Outcome) (cause : Cause) →
    output_behind o ≡ [] → IsSame machine input output p p' →
    IsSame machine input output
    (if exits then Exited code [] else (if receives_it then o else (if sends_it then p else Trapped cause)))
    (if exits then Exited code output else (if receives_it then o' else (if sends_it then p' else Trapped cause)))
calls-same machine input output true r t code o p o' p' cause e f = inl refl
calls-same machine input output false true t code o p o' p' cause e f = inl e
calls-same machine input output false false true code o p o' p' cause e f = f
calls-same machine input output false false false code o p o' p' cause e f = inl refl

execute-same : (machine : MachineValue) (input output : List ℕ) (inst : Inst) →
    IsSame machine input output (execute inst (state_of machine [] [])) (execute inst (state_of machine input output))
execute-same machine input output Ecall =
    let s = state_of machine [] [] in
    let t = state_of machine input output in
    let x17 = register machine.registers 17 in
    let x10 = register machine.registers 10 in
    let x11 = register machine.registers 11 in
    let x12 = register machine.registers 12 in
    calls-same machine input output (nat_eq x17 93) (nat_eq x17 63 && nat_eq x10 0) (nat_eq x17 64 && nat_eq x10 1) (x10 % 256)
    (receive_call s x11 x12) (send_call s x11 x12) (receive_call t x11 x12) (send_call t x11 x12) CauseCall
    (receives-silent s x11 x12 (nat_eq x12 0) (holder machine.segments 2 x11 x12) refl)
    (sends-same machine input output (nat_eq x12 0) (read_bytes machine.segments 4 x11 x12))
execute-same machine input output inst = inl (execute-silent inst (state_of machine [] []) refl (λ e. cc))

executes-same : (machine : MachineValue) (input output : List ℕ) (inst : Option Inst) →
    IsSame machine input output (executes (state_of machine [] []) inst) (executes (state_of machine input output) inst)
executes-same machine input output None = inl refl
executes-same machine input output (Some inst) = execute-same machine input output inst

fetches-same : (machine : MachineValue) (input output : List ℕ) (bytes : Option (List ℕ)) →
    IsSame machine input output (fetches (state_of machine [] []) bytes) (fetches (state_of machine input output) bytes)
fetches-same machine input output None = inl refl
fetches-same machine input output (Some bytes) = executes-same machine input output (decode (number_of bytes))

step-same : (machine : MachineValue) (input output : List ℕ) →
    IsSame machine input output (step (state_of machine [] [])) (step (state_of machine input output))
unfolding step
step-same machine input output =
    fetches-same machine input output (if nat_eq (machine.pc % 4) 0 then read_bytes machine.segments 1 machine.pc 4 else None)

ran-same : (machine : MachineValue) (input output : List ℕ) (alone there : Outcome) → (output_behind alone ≡ [] → ⊥) →
    IsSame machine input output alone there → there ≡ Ran (state_of (passed machine) input (output ++ output_behind alone))
ran-same machine input output alone there h (inl e) = absurd (h e)
ran-same machine input output alone there h (inr e) = e

-- an instruction that sends leads to the machine behind call 64
pub sent-steps : (old new : MachineValue) (input : List ℕ) → (sent old ≡ [] → ⊥) →
    new ≡ record (passed old) { taken = new.taken } → Steps old input new input
unfolding sent
sent-steps old new input h e =
    λ output. rw e (ran-same old input output (step (state_of old [] [])) (step (state_of old input output)) h (step-same old input output))

-- an instruction that exits or traps sends nothing
pub exits-silent : (machine : MachineValue) (input : List ℕ) (code : ℕ) → StepExits machine input code → (sent machine ≡ [] → ⊥) → ⊥
exits-silent machine input code exits h =
    let ran = sent-steps machine (passed machine) input h refl [] in
    let exited = exits [] in
    cc

pub traps-silent : (machine : MachineValue) (input : List ℕ) (cause : Cause) → StepTraps machine input cause → (sent machine ≡ [] → ⊥) → ⊥
traps-silent machine input cause traps h =
    let ran = sent-steps machine (passed machine) input h refl [] in
    let trapped = traps [] in
    cc
