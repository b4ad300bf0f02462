-- A loop of one branch, on which the theorems hold, so that no premise is one that nothing meets.
use Rattle.std.proofs.Common.{◌≡◌, ℕ, ◌*◌, ◌<◌, List, [], ◌∷◌, refl, arith}
use Rattle.std.proofs.lemmas.List.Elements.{All-nil}
use Rattle.rv_code.specs.Machine.{run, Ran, State}
use Rattle.rv_code.specs.declared.instruction.BranchOp.TheVariants.{Beq, Bne}
use Rattle.rv_asm.specs.declared.item.Item.{Item}
use Rattle.rv_asm.specs.declared.item.Item.TheVariants.{Mark, Jump, BranchTo, Address}
use Rattle.rv_asm.specs.Conventions.{IsLayout}
use Rattle.rv_asm.specs.WordMachine.{WordState, IsBounded, machine_state, start_state}
use Rattle.rv_asm.specs.Assembly.{total, code_of}
use Rattle.rv_asm.specs.Arrivals.{IsAt, moved, moved_with}
use Rattle.rv_asm.proofs.Bridge.{IsBounded-start}
use Rattle.rv_asm.proofs.Encodings.{All-each_encodes}
use Rattle.rv_asm.proofs.LabelsArrive.{jumps-arrive, taken-arrive, others-pass, addresses-load}

-- a branch that is taken, one that isn't, a jump, and an address
abbrev looping : List Item
looping = Mark 0 ∷ BranchTo Beq 0 0 0 ∷ BranchTo Bne 0 0 0 ∷ Jump 0 ∷ Address 5 0 ∷ []

few : 4 * total looping < 1073741824
few = omega arith

layout : IsLayout 69632 (code_of looping) 512
layout = record {
  encodable = All-each_encodes (code_of looping) (refl, (refl, (refl, (refl, (refl, (refl, (refl, (refl, (refl, (refl, tt))))))))));
  aligned = omega arith;
  behind = omega arith;
  below = omega arith;
}

abbrev start : WordState
start = start_state 512 []

abbrev table_state : WordState → State
table_state c = machine_state 69632 (code_of looping) c

bounded : (n : ℕ) → IsBounded 512 (moved start n)
bounded n =
    let b = IsBounded-start 512 [] (All-nil (λ b. b < 256)) in
    record { size = b.size; registers = b.registers; words = b.words; input = b.input }

taken : (value : ℕ) × (run 3 (table_state (moved start 0)) ≡ Ran (table_state (moved_with start 0 31 value)))
taken =
    let at : IsAt looping (Mark 0 ∷ []) (BranchTo Beq 0 0 0) _ (moved start 0) = record { emitted = refl; pc = refl } in
    let arrives = taken-arrive looping few (Mark 0 ∷ []) _ Beq 0 0 0 (moved start 0) at refl in
    (arrives.0, arrives.1.table 69632 512 layout (bounded 0))

passed : run 1 (table_state (moved start 3)) ≡ Ran (table_state (moved start 6))
passed =
    let before = Mark 0 ∷ BranchTo Beq 0 0 0 ∷ [] in
    let at : IsAt looping before (BranchTo Bne 0 0 0) _ (moved start 3) = record { emitted = refl; pc = refl } in
    (others-pass looping few before _ Bne 0 0 0 (moved start 3) at refl).table 69632 512 layout (bounded 3)

jumped : (value : ℕ) × (run 2 (table_state (moved start 6)) ≡ Ran (table_state (moved_with start 0 31 value)))
jumped =
    let before = Mark 0 ∷ BranchTo Beq 0 0 0 ∷ BranchTo Bne 0 0 0 ∷ [] in
    let at : IsAt looping before (Jump 0) _ (moved start 6) = record { emitted = refl; pc = refl } in
    let arrives = jumps-arrive looping few before _ 0 (moved start 6) at in
    (arrives.0, arrives.1.table 69632 512 layout (bounded 6))

loaded : run 2 (table_state (moved start 8)) ≡ Ran (table_state (moved_with start 10 5 65536))
loaded =
    let before = Mark 0 ∷ BranchTo Beq 0 0 0 ∷ BranchTo Bne 0 0 0 ∷ Jump 0 ∷ [] in
    let at : IsAt looping before (Address 5 0) _ (moved start 8) = record { emitted = refl; pc = refl } in
    (addresses-load looping few before _ 5 0 (moved start 8) at (λ e. cc)).table 69632 512 layout (bounded 8)
