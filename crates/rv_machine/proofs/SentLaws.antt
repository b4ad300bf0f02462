-- The room of memory: an instruction sends no more bytes than a readable segment has, and no segment gains bytes.
use Rattle.std.proofs.Common.{◌≡◌, ℕ, ◌+◌, ◌-◌, ◌%◌, ◌<◌, ◌≤◌, ◌&&◌, min, Bool, true, false, nat_eq, List, [], ◌++◌, length, take, Option, Some, None, refl, sym, ap, arith, All, option_map, slice_index_or, if◌then◌else◌}
use Rattle.std.proofs.lemmas.List.{length-append, length-take, length-drop}
use Rattle.std.proofs.lemmas.List.Elements.{All-set, All-get_or}
use Rattle.std.proofs.lemmas.List.Quantifiers.{position-Some}
use Rattle.rv_code.specs.Machine.{State, Outcome, Segment, Ran, Exited, Trapped, has_flag, holds, holder, empty_segment, bytes_in, written_in, read_bytes, write_bytes, register, sets, loads, stores, receives, sends, receive_call, send_call, execute, executes, fetches, step}
use Rattle.rv_code.specs.Table.{decode}
use Rattle.rv_code.specs.Bytes.{number_of, bytes_of, put_at}
use Rattle.rv_code.specs.Arithmetic.{wrap, unsigned, load_size, extended, store_size, is_taken}
use Rattle.rv_code.specs.declared.cause.Cause.{Cause}
use Rattle.rv_code.specs.declared.cause.Cause.TheVariants.{Call as CauseCall}
use Rattle.rv_code.specs.declared.instruction.Inst.{Inst}
use Rattle.rv_code.specs.declared.instruction.Inst.TheVariants.{Op, OpImm, Shift, Load, Store, Branch, Upper, Jal, Jalr, Fence, Ecall, Ebreak}
use Rattle.rv_machine.specs.Machines.{MachineValue, state_of, output_behind, sent, Steps}
use Rattle.rv_machine.proofs.MemoryLemmas.{holder-room}

-- a segment that can be read has at most so many bytes
abbrev pub IsWithin : ℕ → Segment → Type 0
IsWithin n s = has_flag s.flags 4 ≡ true → length s.bytes ≤ n

-- each segment that can be read has at most so many bytes
abbrev pub Within : ℕ → List Segment → Type 0
Within n segments = All (IsWithin n) segments

-- behind an instruction each segment that can be read has at most so many bytes, and at most so many bytes are sent
pub record Keeps (n : ℕ) (s t : State) : Type 0 where
  pub within : Within n t.segments
  pub few : length t.output ≤ length s.output + n

-- the same of an outcome: an exit and a trap have no state behind them
abbrev pub Stays : ℕ → State → Outcome → Type 0
Stays n s (Ran t) = Keeps n s t
Stays n s (Exited code output) = Unit {0}
Stays n s (Trapped cause) = Unit {0}

same : (n : ℕ) (s t : State) → Within n s.segments → t.segments ≡ s.segments → t.output ≡ s.output → Keeps n s t
same n s t w e f = record { within = rw e w; few = rw f (omega arith) }

-- ---- memory

first-true : (a b : Bool) → (a && b) ≡ true → a ≡ true
first-true true b h = refl
first-true false b h = h

pub put_at-length : (xs bs : List ℕ) (i : ℕ) → i + length bs ≤ length xs → length (put_at xs i bs) ≡ length xs
put_at-length xs bs i h = simp (length-append, length-take, length-drop) (omega arith)

pub holds-flag : (flag address size : ℕ) (s : Segment) → holds flag address size s ≡ true → has_flag s.flags flag ≡ true
holds-flag flag address size s h = first-true (has_flag s.flags flag) _ h

written-within : (n : ℕ) (segments : List Segment) (address size i : ℕ) (bytes : List ℕ) → Within n segments →
    Some i ≡ holder segments 2 address size → length bytes ≤ size → Within n (written_in segments address bytes i)
written-within n segments address size i bytes w e h =
    let s = slice_index_or segments i empty_segment in
    let room = holder-room segments 2 address size i empty_segment e in
    let below : i < length segments = (position-Some (holds 2 address size) segments i empty_segment (sym e)).0 in
    let few : IsWithin n s = All-get_or (IsWithin n) segments i empty_segment below w in
    let fits : address - s.address + length bytes ≤ length s.bytes = omega (arith, room.low, room.high, h) in
    let kept : IsWithin n (record s { bytes = put_at s.bytes (address - s.address) bytes }) =
    λ reads. rw (put_at-length s.bytes bytes (address - s.address) fits) (few reads)
    in
    All-set (IsWithin n) segments i (record s { bytes = put_at s.bytes (address - s.address) bytes }) kept w

read-few : (n : ℕ) (segments : List Segment) (address size i : ℕ) → Within n segments → Some i ≡ holder segments 4 address size →
    length (bytes_in segments address size i) ≤ n
read-few n segments address size i w e =
    let s = slice_index_or segments i empty_segment in
    let below : i < length segments = (position-Some (holds 4 address size) segments i empty_segment (sym e)).0 in
    let found = position-Some (holds 4 address size) segments i empty_segment (sym e) in
    let few : length s.bytes ≤ n = All-get_or (IsWithin n) segments i empty_segment below w (holds-flag 4 address size s found.1) in
    simp (length-take, length-drop) (omega (arith, few))

-- ---- instructions

jumps-stay : (n : ℕ) (b : Bool) (s t : State) (cause : Cause) → Within n s.segments → t.segments ≡ s.segments → t.output ≡ s.output →
    Stays n s (if b then Ran t else Trapped cause)
jumps-stay n true s t cause w e f = same n s t w e f
jumps-stay n false s t cause w e f = tt

branches-stay : (n : ℕ) (taken multiple : Bool) (s t u : State) (cause : Cause) → Within n s.segments →
    t.segments ≡ s.segments → t.output ≡ s.output → u.segments ≡ s.segments → u.output ≡ s.output →
    Stays n s (if taken then (if multiple then Ran t else Trapped cause) else Ran u)
branches-stay n true multiple s t u cause w e f g h = jumps-stay n multiple s t cause w e f
branches-stay n false multiple s t u cause w e f g h = same n s u w g h

loads-stay : (n : ℕ) (aligned : Bool) (s : State) (rd : ℕ) (extend : ℕ → ℕ) (bytes : Option (List ℕ)) (cause : Cause) →
    Within n s.segments → Stays n s (if aligned then loads s rd extend bytes else Trapped cause)
loads-stay n true s rd extend None cause w = tt
loads-stay n true s rd extend (Some bytes) cause w = same n s _ w refl refl
loads-stay n false s rd extend bytes cause w = tt

stored-stay : (n : ℕ) (s : State) (address : ℕ) (bytes : List ℕ) (place : Option ℕ) → Within n s.segments →
    place ≡ holder s.segments 2 address (length bytes) → Stays n s (stores s (option_map (written_in s.segments address bytes) place))
stored-stay n s address bytes None w e = tt
stored-stay n s address bytes (Some i) w e =
    record { within = written-within n s.segments address (length bytes) i bytes w e (omega arith); few = omega arith }

stores-stay : (n : ℕ) (aligned : Bool) (s : State) (address : ℕ) (bytes : List ℕ) (cause : Cause) → Within n s.segments →
    Stays n s (if aligned then stores s (write_bytes s.segments address bytes) else Trapped cause)
stores-stay n true s address bytes cause w = stored-stay n s address bytes (holder s.segments 2 address (length bytes)) w refl
stores-stay n false s address bytes cause w = tt

receives-stay : (n : ℕ) (none : Bool) (s : State) (address count : ℕ) (place : Option ℕ) → Within n s.segments →
    place ≡ holder s.segments 2 address count → Stays n s (if none then sets s 10 0 else receives s address count place)
receives-stay n true s address count place w e = same n s _ w refl refl
receives-stay n false s address count None w e = tt
receives-stay n false s address count (Some i) w e =
    let short : length (take (min count (length s.input)) s.input) ≤ count = simp length-take (omega arith) in
    record { within = written-within n s.segments address count i _ w e short; few = omega arith }

sent-stay : (n : ℕ) (s : State) (address count : ℕ) (place : Option ℕ) → Within n s.segments → place ≡ holder s.segments 4 address count →
    Stays n s (sends s count (option_map (bytes_in s.segments address count) place))
sent-stay n s address count None w e = tt
sent-stay n s address count (Some i) w e =
    record { within = w; few = simp length-append (omega (arith, read-few n s.segments address count i w e)) }

sends-stay : (n : ℕ) (none : Bool) (s : State) (address count : ℕ) → Within n s.segments →
    Stays n s (if none then sets s 10 0 else sends s count (read_bytes s.segments 4 address count))
sends-stay n true s address count w = same n s _ w refl refl
sends-stay n false s address count w = sent-stay n s address count (holder s.segments 4 address count) w refl

calls-stay : (n : ℕ) (exits receives_it sends_it : Bool) (s : State) (o p q : Outcome) (cause : Cause) → Stays n s o → Stays n s p → Stays n s q →
    Stays n s (if exits then o else (if receives_it then p else (if sends_it then q else Trapped cause)))
calls-stay n true r t s o p q cause f g h = f
calls-stay n false true t s o p q cause f g h = g
calls-stay n false false true s o p q cause f g h = h
calls-stay n false false false s o p q cause f g h = tt

execute-stays : (n : ℕ) (inst : Inst) (s : State) → Within n s.segments → Stays n s (execute inst s)
execute-stays n (Op op rd rs1 rs2) s w = same n s _ w refl refl
execute-stays n (OpImm op rd rs1 imm) s w = same n s _ w refl refl
execute-stays n (Shift op rd rs1 amount) s w = same n s _ w refl refl
execute-stays n (Load op rd rs1 imm) s w =
    loads-stay n _ s rd (extended op) (read_bytes s.segments 4 (wrap (register s.registers rs1 + unsigned imm)) (load_size op)) _ w
execute-stays n (Store op rs1 rs2 imm) s w =
    stores-stay n _ s (wrap (register s.registers rs1 + unsigned imm)) (bytes_of (store_size op) (register s.registers rs2)) _ w
execute-stays n (Branch op rs1 rs2 imm) s w =
    branches-stay n (is_taken op (register s.registers rs1) (register s.registers rs2)) _ s _ _ _ w refl refl refl refl
execute-stays n (Upper op rd imm) s w = same n s _ w refl refl
execute-stays n (Jal rd imm) s w = jumps-stay n _ s _ _ w refl refl
execute-stays n (Jalr rd rs1 imm) s w = jumps-stay n _ s _ _ w refl refl
execute-stays n (Fence rd rs1 imm) s w = same n s _ w refl refl
execute-stays n Ecall s w =
    let x17 = register s.registers 17 in
    let x10 = register s.registers 10 in
    let x11 = register s.registers 11 in
    let x12 = register s.registers 12 in
    calls-stay n (nat_eq x17 93) (nat_eq x17 63 && nat_eq x10 0) (nat_eq x17 64 && nat_eq x10 1) s (Exited (x10 % 256) s.output)
    (receive_call s x11 x12) (send_call s x11 x12) CauseCall (tt {0}) (receives-stay n (nat_eq x12 0) s x11 x12 (holder s.segments 2 x11 x12) w refl)
    (sends-stay n (nat_eq x12 0) s x11 x12 w)
execute-stays n Ebreak s w = tt

executes-stay : (n : ℕ) (s : State) (inst : Option Inst) → Within n s.segments → Stays n s (executes s inst)
executes-stay n s None w = tt
executes-stay n s (Some inst) w = execute-stays n inst s w

fetches-stay : (n : ℕ) (s : State) (bytes : Option (List ℕ)) → Within n s.segments → Stays n s (fetches s bytes)
fetches-stay n s None w = tt
fetches-stay n s (Some bytes) w = executes-stay n s (decode (number_of bytes)) w

step-stays : (n : ℕ) (s : State) → Within n s.segments → Stays n s (step s)
unfolding step
step-stays n s w = fetches-stay n s (if nat_eq (s.pc % 4) 0 then read_bytes s.segments 1 s.pc 4 else None) w

-- ---- machines

behind-few : (n : ℕ) (s : State) (o : Outcome) → s.output ≡ [] → Stays n s o → length (output_behind o) ≤ n
behind-few n s (Ran t) e h = let none : length s.output ≡ 0 = ap length e in omega (arith, none, h.few)
behind-few n s (Exited code output) e h = omega arith
behind-few n s (Trapped cause) e h = omega arith

-- an instruction sends at most as many bytes as the largest segment that can be read has
pub sent-few : (n : ℕ) (machine : MachineValue) → Within n machine.segments → length (sent machine) ≤ n
unfolding sent
sent-few n machine w = behind-few n (state_of machine [] []) (step (state_of machine [] [])) refl (step-stays n (state_of machine [] []) w)

-- an instruction leaves each segment that can be read within so many bytes
pub steps-within : (n : ℕ) (old new : MachineValue) (input rest : List ℕ) → Within n old.segments → Steps old input new rest → Within n new.segments
steps-within n old new input rest w h =
    let stays = step-stays n (state_of old input []) w in
    let keeps : Keeps n (state_of old input []) (state_of new rest ([] ++ sent old)) = rw (h []) at stays in
    keeps.within
