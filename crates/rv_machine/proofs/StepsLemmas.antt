-- One step: what it sends, and where it leads.
use Rattle.std.proofs.Common.{◌≡◌, ℕ, zero, suc, ◌+◌, min, Bool, true, false, nat_eq, List, [], ◌∷◌, length, take, drop, Option, Some, None, Ok, refl, sym, ap, ◌∙◌, arith, append-nil, option_map, if◌then◌else◌}
use Rattle.std.proofs.lemmas.Bool.Decides.{nat_tests}
use Rattle.std.proofs.lemmas.List.{drop-drop}
use Rattle.rv_code.specs.Arithmetic.{wrap}
use Rattle.rv_code.specs.Machine.{Segment, State, Ran, with_register, holder, read_bytes, written_in, sets, receives, sends, execute, step}
use Rattle.rv_code.specs.declared.instruction.Inst.{Inst}
use Rattle.rv_machine.proofs.SilentLaws.{receives-silent}
use Rattle.rv_machine.specs.Machines.{MachineValue, InputValue, left, state_of, output_behind, sent, Steps, StepSends}
use Rattle.rv_machine.specs.Effects.{Does, Fetches, AtReceive, AtSend, IsSend}

not-zero : (n : ℕ) → (n ≡ 0 → ⊥) → nat_eq n 0 ≡ false
not-zero n h = grind (arith, nat_tests)

-- ---- instructions that send nothing

-- a step that sends nothing, and keeps the output
pub silent-steps : (old new : MachineValue) (input rest : List ℕ) → sent old ≡ [] →
    ((output : List ℕ) → step (state_of old input output) ≡ Ran (state_of new rest output)) → Steps old input new rest
silent-steps old new input rest e h = λ output. rw (e, append-nil) (h output)

-- an instruction that isn't a call sends nothing
pub plain-silent : (old new : MachineValue) (inst : Inst) → Fetches (Ok inst) old → Does (Ok tt) old new (execute inst) → sent old ≡ []
unfolding sent
plain-silent old new inst f d = rw (f [] [], d.0 [] []) refl

pub plain-steps : (old new : MachineValue) (inst : Inst) (input : List ℕ) → Fetches (Ok inst) old → Does (Ok tt) old new (execute inst) →
    Steps old input new input
plain-steps old new inst input f d =
    silent-steps old new input input (plain-silent old new inst f d) (λ output. rw (f input output, d.0 input output) refl)

-- ---- the call 63

pub receive-silent : (machine : MachineValue) (address size : ℕ) → AtReceive machine address size → sent machine ≡ []
unfolding sent
receive-silent machine address size h =
    rw (h.next [] []) (receives-silent (state_of machine [] []) address size (nat_eq size 0) (holder machine.segments 2 address size) refl)

pub receive-none : (old new : MachineValue) (address size : ℕ) (input : List ℕ) → AtReceive old address size → size ≡ 0 →
    new ≡ record old { pc = wrap (old.pc + 4); registers = with_register old.registers 10 0 } → Steps old input new input
receive-none old new address size input h z n =
    silent-steps old new input input (receive-silent old address size h) (λ output. rw (h.next input output, z, n) refl)

receives-at : (s : State) (address size count : ℕ) (place : Option ℕ) (segments : List Segment) → count ≡ min size (length s.input) →
    option_map (written_in s.segments address (take count s.input)) place ≡ Some segments →
    receives s address size place ≡
    Ran (record s { pc = wrap (s.pc + 4); registers = with_register s.registers 10 count; segments = segments; input = drop count s.input })
receives-at s address size count None segments e h = cc
receives-at s address size count (Some i) segments e h =
    let w : written_in s.segments address (take count s.input) i ≡ segments = cc in
    rw (← e, w) refl

pub receive-some : (old new : MachineValue) (address size count : ℕ) (input rest : InputValue) (segments : List Segment) →
    AtReceive old address size → (size ≡ 0 → ⊥) → count ≡ min size (length (left input)) →
    option_map (written_in old.segments address (take count (left input))) (holder old.segments 2 address size) ≡ Some segments →
    rest ≡ record input { at = input.at + count } →
    new ≡ record old { pc = wrap (old.pc + 4); registers = with_register old.registers 10 count; segments = segments } →
    Steps old (left input) new (left rest)
receive-some old new address size count input rest segments h z e w r n =
    silent-steps old new (left input) (left rest) (receive-silent old address size h)
    (λ output. rw (h.next (left input) output, not-zero size z, receives-at (state_of old (left input) output) address size count (holder old.segments 2 address size) segments e w, r, n, drop-drop) refl)

-- ---- the call 64

pub send-none : (machine : MachineValue) (address size : ℕ) → AtSend machine address size → size ≡ 0 → sent machine ≡ []
unfolding sent
send-none machine address size h z = rw (h.next [] [], z) refl

pub send-some : (machine : MachineValue) (address size : ℕ) (bytes : List ℕ) → AtSend machine address size → (size ≡ 0 → ⊥) →
    Some bytes ≡ read_bytes machine.segments 4 address size → sent machine ≡ bytes
unfolding sent
send-some machine address size bytes h z e = rw (h.next [] [], not-zero size z, ← e) refl

pub send-none-steps : (old new : MachineValue) (address size : ℕ) (input : List ℕ) → AtSend old address size → size ≡ 0 →
    new ≡ record old { pc = wrap (old.pc + 4); registers = with_register old.registers 10 0 } → Steps old input new input
send-none-steps old new address size input h z n =
    silent-steps old new input input (send-none old address size h z) (λ output. rw (h.next input output, z, n) refl)

pub send-some-sends : (machine : MachineValue) (address size : ℕ) (input bytes : List ℕ) → AtSend machine address size → (size ≡ 0 → ⊥) →
    Some bytes ≡ read_bytes machine.segments 4 address size → StepSends machine input
send-some-sends machine address size input bytes h z e =
    λ output. rw (h.next input output, not-zero size z, send-some machine address size bytes h z e, ← e) refl

pub send-some-not_empty : (machine : MachineValue) (address size : ℕ) (bytes : List ℕ) → AtSend machine address size → (size ≡ 0 → ⊥) →
    Some bytes ≡ read_bytes machine.segments 4 address size → length bytes ≡ size → sent machine ≡ [] → ⊥
send-some-not_empty machine address size bytes h z e l n =
    let empty : bytes ≡ [] = sym (send-some machine address size bytes h z e) ∙ n in
    z (sym l ∙ ap length empty)

sends-unread : (none : Bool) (s : State) (size : ℕ) → s.output ≡ [] → output_behind (if none then sets s 10 0 else sends s size None) ≡ []
sends-unread true s size e = e
sends-unread false s size e = refl

-- a call 64 whose bytes can't be read sends nothing
pub send-unread : (machine : MachineValue) (address size : ℕ) → AtSend machine address size →
    None ≡ read_bytes machine.segments 4 address size → sent machine ≡ []
unfolding sent
send-unread machine address size h e = rw (h.next [] [], ← e) (sends-unread (nat_eq size 0) (state_of machine [] []) size refl)

no-bytes : (bytes : List ℕ) → length bytes ≡ 0 → bytes ≡ []
no-bytes [] h = refl
no-bytes (b ∷ bytes) h = absurd (omega (arith, h))

-- any other call 64 to the output sends those bytes, of which there may be none
pub send-read : (machine : MachineValue) (address size : ℕ) (bytes : List ℕ) → AtSend machine address size →
    Some bytes ≡ read_bytes machine.segments 4 address size → length bytes ≡ size → sent machine ≡ bytes
send-read machine address zero bytes h e l = send-none machine address zero h refl ∙ sym (no-bytes bytes l)
send-read machine address (suc size) bytes h e l = send-some machine address (suc size) bytes h (λ z. cc) e

-- ---- an instruction that sends

pub is-send-not_empty : (machine : MachineValue) (address size : ℕ) → IsSend machine address size → sent machine ≡ [] → ⊥
is-send-not_empty machine address size h = send-some-not_empty machine address size h.bytes h.at h.some h.read h.whole

pub is-send-sends : (machine : MachineValue) (address size : ℕ) (input : List ℕ) → IsSend machine address size → StepSends machine input
is-send-sends machine address size input h = send-some-sends machine address size input h.bytes h.at h.some h.read
