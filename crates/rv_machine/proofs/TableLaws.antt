-- Instructions that are decoded once: they stay right, whatever is written.
use Rattle.std.proofs.Common.{◌≡◌, ◌≢◌, ℕ, ◌+◌, ◌-◌, ◌*◌, ◌%◌, ◌^◌, ◌<◌, ◌≤◌, min, Bool, true, false, nat_eq, ◌⊎◌, inl, inr, List, [], ◌∷◌, ◌++◌, length, Option, Some, None, refl, sym, ap, ◌∙◌, arith, option_map, slice_index_or, slice_set, length-append, take, drop}
use Rattle.std.specs.Prelude.{position, IfSome}
use Rattle.std.specs.Bool.{OnTrue, OnFalse}
use Rattle.std.proofs.lemmas.Grind.{common_steps}
use Rattle.std.proofs.lemmas.Option.{slice_get-get_or}
use Rattle.std.proofs.Math.Nat.{eq-or-lt_of_le}
use Rattle.std.proofs.Math.Seq.{get_or-append_seam}
use Rattle.std.proofs.lemmas.Bool.Decides.{nat_tests}
use Rattle.std.proofs.lemmas.List.{take-append-le, length-take, get_or_append_left, get_or-set_other, length-set}
use Rattle.std.proofs.lemmas.List.Folds.{position_or_len-set}
use Rattle.std.proofs.lemmas.List.Quantifiers.{position-Some}
use Rattle.rv_code.specs.Bytes.{number_of, bytes_of, put_at}
use Rattle.rv_code.specs.Table.{decode}
use Rattle.rv_code.specs.Machine.{Segment, has_flag, holds, holder, empty_segment, State, read_bytes, write_bytes, written_in, step, executes, fetches}
use Rattle.rv_code.specs.declared.instruction.Inst.{Inst}
use Rattle.rv_machine.specs.Machines.{MachineValue, state_of}
use Rattle.rv_machine.specs.Memory.{IsFixed, IsTable}
use Rattle.rv_machine.proofs.MemoryLemmas.{holder-room}
use Rattle.rv_machine.proofs.SentLaws.{put_at-length, holds-flag}

-- ---- tables

pub no-table : (segments : List Segment) → IsTable segments 0 []
no-table segments = record { aligned = refl; low = omega arith; rows = λ k h. absurd (omega arith) }

pushed-row : (segments : List Segment) (address : ℕ) (table : List (Option Inst)) (entry : Option Inst) (k : ℕ) →
    ((j : ℕ) → j < length table → IsFixed segments (address + 4 * j) (slice_index_or table j None)) →
    IsFixed segments (address + 4 * length table) entry → (k ≡ length table) ⊎ (k < length table) →
    IsFixed segments (address + 4 * k) (slice_index_or (table ++ entry ∷ []) k None)
pushed-row segments address table entry k rows last (inl e) = rw (e, get_or-append_seam table entry [] None) last
pushed-row segments address table entry k rows last (inr below) = rw (get_or_append_left table (entry ∷ []) None k below) (rows k below)

-- one more row
pub table-push : (segments : List Segment) (address : ℕ) (table : List (Option Inst)) (entry : Option Inst) → IsTable segments address table →
    address + 4 * (length table + 1) ≤ 2 ^ 64 → IsFixed segments (address + 4 * length table) entry →
    IsTable segments address (table ++ entry ∷ [])
table-push segments address table entry h low last =
    let longer : length (table ++ entry ∷ []) ≡ length table + 1 = length-append table (entry ∷ []) in
    record {
      aligned = h.aligned;
      low = rw longer low;
      rows = λ k below. pushed-row segments address table entry k h.rows last (eq-or-lt_of_le (omega (arith, longer, below)));
    }

-- ---- memory that is written

same-holds : (flag address size : ℕ) (s t : Segment) → t.address ≡ s.address → t.flags ≡ s.flags → length t.bytes ≡ length s.bytes →
    holds flag address size t ≡ holds flag address size s
same-holds flag address size s t e f g = rw (e, f, g) refl

position-set : (p : Segment → Bool) (segments : List Segment) (i : ℕ) (t d : Segment) → p t ≡ p (slice_index_or segments i d) →
    position p (slice_set segments i t) ≡ position p segments
position-set p segments i t d e = rw (position_or_len-set p segments i t d e, length-set) refl

-- what is written where it can be leaves the instructions where it can't
fixed-written : (segments : List Segment) (address size i : ℕ) (bytes : List ℕ) (pc : ℕ) (entry : Option Inst) →
    Some i ≡ holder segments 2 address size → length bytes ≤ size → IsFixed segments pc entry →
    IsFixed (written_in segments address bytes i) pc entry
fixed-written segments address size i bytes pc entry e h f =
    let s = slice_index_or segments i empty_segment in
    let t : Segment = record s { bytes = put_at s.bytes (address - s.address) bytes } in
    let room = holder-room segments 2 address size i empty_segment e in
    let found = position-Some (holds 2 address size) segments i empty_segment (sym e) in
    let writable : has_flag s.flags 2 ≡ true = holds-flag 2 address size s found.1 in
    let long : length t.bytes ≡ length s.bytes = put_at-length s.bytes bytes (address - s.address) (omega (arith, room.low, room.high, h)) in
    let same : holder (slice_set segments i t) 1 pc 4 ≡ holder segments 1 pc 4 =
    position-set (holds 1 pc 4) segments i t empty_segment (same-holds 1 pc 4 s t refl refl long)
    in
    let apart : f.place ≢ i = λ g. let wrong : has_flag s.flags 2 ≡ false = rw g at f.kept in absurd (cc) in
    let other : slice_index_or (slice_set segments i t) f.place empty_segment ≡ slice_index_or segments f.place empty_segment =
    get_or-set_other segments i f.place t empty_segment apart
    in
    record {
      place = f.place;
      at = same ∙ f.at;
      kept = rw other f.kept;
      decodes = rw (same ∙ f.at, other) (rw f.at at f.decodes);
      amount = f.amount;
    }

table-written-at : (segments new : List Segment) (address size : ℕ) (bytes : List ℕ) (at : ℕ) (table : List (Option Inst)) (place : Option ℕ) →
    place ≡ holder segments 2 address size → option_map (written_in segments address bytes) place ≡ Some new → length bytes ≤ size →
    IsTable segments at table → IsTable new at table
table-written-at segments new address size bytes at table None e w h t = absurd (cc)
table-written-at segments new address size bytes at table (Some i) e w h t =
    let written : written_in segments address bytes i ≡ new = cc in
    rw (← written)
    (record {
      aligned = t.aligned;
      low = t.low;
      rows = λ k below. fixed-written segments address size i bytes (at + 4 * k) (slice_index_or table k None) e h (t.rows k below);
    })

-- the table stays right
pub table-written : (segments new : List Segment) (address size : ℕ) (bytes : List ℕ) (at : ℕ) (table : List (Option Inst)) →
    option_map (written_in segments address bytes) (holder segments 2 address size) ≡ Some new → length bytes ≤ size →
    IsTable segments at table → IsTable new at table
table-written segments new address size bytes at table = table-written-at segments new address size bytes at table (holder segments 2 address size) refl

-- what is received leaves the table right
pub table-received : (segments new : List Segment) (address size : ℕ) (input : List ℕ) (at : ℕ) (table : List (Option Inst)) (result : Option ℕ) →
    IfSome result (λ count. count ≡ min size (length input)) →
    IfSome result (λ count. option_map (written_in segments address (take count input)) (holder segments 2 address size) ≡ Some new) →
    (result ≡ None → new ≡ segments) → IsTable segments at table → IsTable new at table
table-received segments new address size input at table None c w n t = rw (n refl) t
table-received segments new address size input at table (Some count) c w n t =
    let short : length (take count input) ≤ size = rw length-take (omega (arith, c)) in
    table-written segments new address size (take count input) at table w short t

-- what is stored does too
pub table-stored : (segments new : List Segment) (address size number : ℕ) (at : ℕ) (table : List (Option Inst)) (result : Bool) →
    OnTrue result (write_bytes segments address (bytes_of size number) ≡ Some new) → OnFalse result (new ≡ segments) →
    IsTable segments at table → IsTable new at table
table-stored segments new address size number at table true w n t =
    table-written segments new address (length (bytes_of size number)) (bytes_of size number) at table w (omega arith) t
table-stored segments new address size number at table false w n t = rw n t

-- a vector behind which a slice of all its elements was lent
pub written-back : (n : ℕ) (xs ys : List Segment) → length xs ≡ length ys → n ≡ length ys → take n (xs ++ drop (length xs) ys) ≡ xs
written-back n xs ys e f =
    let same : n ≡ length xs = f ∙ sym e in
    let whole : take (length xs) xs ≡ xs = grind (arith, common_steps) in
    rw (same, take-append-le (length xs) xs (drop (length xs) ys) (omega arith)) whole

-- ---- the instruction at the pc

decoded-fetches : (s : State) (read : Option (List ℕ)) (entry : Option Inst) → option_map (λ bytes. decode (number_of bytes)) read ≡ Some entry →
    fetches s read ≡ executes s entry
decoded-fetches s None entry e = absurd (cc)
decoded-fetches s (Some bytes) entry e = let same : decode (number_of bytes) ≡ entry = cc in ap (executes s) same

same-entry : (k : ℕ) (table : List (Option Inst)) (entry : Option Inst) → k < length table → slice_index_or table k entry ≡ slice_index_or table k None
same-entry k table entry below =
    let p = slice_get-get_or table k entry below in
    let q = slice_get-get_or table k None below in
    cc

-- what an instruction of the table does is what the definition's step does
pub table-steps : (machine : MachineValue) (address k : ℕ) (table : List (Option Inst)) (entry : Option Inst) →
    IsTable machine.segments address table → k < length table → machine.pc ≡ address + 4 * k → entry ≡ slice_index_or table k entry →
    (input output : List ℕ) → step (state_of machine input output) ≡ executes (state_of machine input output) entry
unfolding step
table-steps machine address k table entry h below e at =
    let row = h.rows k below in
    let aligned : machine.pc % 4 ≡ 0 = omega (arith, h.aligned, e) in
    let multiple : nat_eq (machine.pc % 4) 0 ≡ true = grind (arith, nat_tests) in
    let same : slice_index_or table k None ≡ entry = sym (at ∙ same-entry k table entry below) in
    λ input output.
    rw multiple
    (decoded-fetches (state_of machine input output) (read_bytes machine.segments 1 machine.pc 4) entry (rw (e, ← same) row.decodes))
