-- A sink in memory, as its callers see it.
use Rattle.std.specs.Prelude.{ℕ, ◌+◌, ◌-◌, ◌||◌, Bool, false, List, [], ◌++◌, length, take, nat_lt, if◌then◌else◌}
use Rattle.acg_base.specs.Outside.{counted, is_listed}

-- the room for bytes, the bytes written, the numbers of the writes that are to fail, the counts of writes and of faults, and
-- whether the last write failed
pub record SinkState : Type 0 where
  pub room : ℕ
  pub bytes : List ℕ
  pub failing : List ℕ
  pub writes : ℕ
  pub faults : ℕ
  pub last_failed : Bool

-- an empty sink at its start
abbrev pub fresh : ℕ → List ℕ → SinkState
fresh room failing = record { room = room; bytes = []; failing = failing; writes = 0; faults = 0; last_failed = false }

-- the next write fails before it appends: its number is listed
abbrev pub is_to_fail : SinkState → Bool
is_to_fail sink = is_listed sink.failing sink.writes

-- the next write of the piece fails: its number is listed, or the piece passes the room
abbrev pub write_fails : SinkState → List ℕ → Bool
write_fails sink piece = is_to_fail sink || nat_lt sink.room (length sink.bytes + length piece)

-- the bytes after a write: a listed one appends nothing, every other one what fits
abbrev pub bytes_after : SinkState → List ℕ → List ℕ
bytes_after sink piece = if is_to_fail sink then sink.bytes else sink.bytes ++ take (sink.room - length sink.bytes) piece

-- the sink after a write
abbrev pub after_write : SinkState → List ℕ → SinkState
after_write sink piece = record sink {
  bytes = bytes_after sink piece;
  writes = counted sink.writes;
  faults = if write_fails sink piece then counted sink.faults else sink.faults;
  last_failed = write_fails sink piece;
}
