-- The segment that has the bytes from an address on.
use Rattle.std.proofs.Common.{◌≡◌, ℕ, ◌+◌, ◌-◌, ◌<◌, ◌≤◌, true, List, length, take, drop, Option, Some, None, refl, sym, arith, slice_index_or, slice_set}
use Rattle.std.proofs.lemmas.Bool.Decides.{nat_tests}
use Rattle.std.proofs.lemmas.List.Quantifiers.{position-Some}
use Rattle.std.proofs.lemmas.List.{length-take, length-drop}
use Rattle.std.proofs.lemmas.Option.{slice_get-get_or}
use Rattle.std.specs.Bool.{OnTrue, OnFalse}
use Rattle.std.specs.Option.{is_some}
use Rattle.rv_code.specs.Bytes.{bytes_of, put_at}
use Rattle.rv_code.specs.Machine.{Segment, holds, holder, empty_segment, read_bytes, write_bytes}
use Rattle.rv_machine.specs.Memory.{AreRead}
use Rattle.rv_code.proofs.ByteLaws.{length-bytes}

-- the bytes lie in the segment
pub record HasRoom (address size : ℕ) (s : Segment) : Type 0 where
  pub low : s.address ≤ address
  pub high : address + size ≤ s.address + length s.bytes

pub holds-room : (flag address size : ℕ) (s : Segment) → holds flag address size s ≡ true → HasRoom address size s
holds-room flag address size s h = record { low = grind (arith, nat_tests); high = grind (arith, nat_tests) }

pub holder-room : (blocks : List Segment) (flag address size i : ℕ) (d : Segment) → Some i ≡ holder blocks flag address size →
    HasRoom address size (slice_index_or blocks i d)
holder-room blocks flag address size i d e =
    holds-room flag address size (slice_index_or blocks i d) (position-Some (holds flag address size) blocks i d (sym e)).1

-- which segment stands at a number within the list isn't the default's
pub same-default : (blocks : List Segment) (i : ℕ) (d e : Segment) → i < length blocks → slice_index_or blocks i d ≡ slice_index_or blocks i e
same-default blocks i d e h =
    let p = slice_get-get_or blocks i d h in
    let q = slice_get-get_or blocks i e h in
    cc

-- writing the bytes of a number in the segment that has them
pub writes : (blocks : List Segment) (address size number i : ℕ) (d new : Segment) → i < length blocks → Some i ≡ holder blocks 2 address size →
    new ≡ record (slice_index_or blocks i d) { bytes = put_at (slice_index_or blocks i d).bytes (address - (slice_index_or blocks i d).address) (bytes_of size number) } →
    write_bytes blocks address (bytes_of size number) ≡ Some (slice_set blocks i new)
writes blocks address size number i d new h e n =
    rw (length-bytes, sym e, n, same-default blocks i d empty_segment h) refl

pub writes-none : (blocks : List Segment) (address size number : ℕ) → None ≡ holder blocks 2 address size →
    write_bytes blocks address (bytes_of size number) ≡ None
writes-none blocks address size number e = rw (length-bytes, sym e) refl

-- the bytes in the segment that has them
pub reads : (blocks : List Segment) (flag address size i : ℕ) (d : Segment) → i < length blocks → Some i ≡ holder blocks flag address size →
    read_bytes blocks flag address size ≡ Some (take size (drop (address - (slice_index_or blocks i d).address) (slice_index_or blocks i d).bytes))
reads blocks flag address size i d h e = rw (sym e, same-default blocks i d empty_segment h) refl

-- the bytes that a readable segment has
are-read : (blocks : List Segment) (address size i : ℕ) → Some i ≡ holder blocks 4 address size → AreRead blocks address size
are-read blocks address size i e =
    let s = slice_index_or blocks i empty_segment in
    let room = holder-room blocks 4 address size i empty_segment e in
    record {
      bytes = take size (drop (address - s.address) s.bytes);
      read = rw (← e) refl;
      whole = rw (length-take, length-drop) (omega (arith, room.low, room.high));
    }

pub can-read : (blocks : List Segment) (address size : ℕ) (place : Option ℕ) → place ≡ holder blocks 4 address size →
    OnTrue (is_some place) (AreRead blocks address size)
can-read blocks address size None e = tt
can-read blocks address size (Some i) e = are-read blocks address size i e

pub cannot-read : (blocks : List Segment) (address size : ℕ) (place : Option ℕ) → place ≡ holder blocks 4 address size →
    OnFalse (is_some place) (read_bytes blocks 4 address size ≡ None)
cannot-read blocks address size None e = rw (← e) refl
cannot-read blocks address size (Some i) e = tt
