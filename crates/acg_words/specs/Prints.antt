-- What a print does to a sink.
use Rattle.std.specs.Prelude.{◌≡◌, ◌≢◌, ◌⊎◌, ℕ, zero, suc, List, ◌∷◌, ◌++◌, length, IsTrue, Result, OnOk, OnErr}
use Rattle.std.specs.List.{concat}
use Rattle.acg_base.specs.Outside.{counted, GainsFrontOf}
use Rattle.acg_base.specs.declared.sink.Sink.{Ghosts}
use Rattle.acg_base.specs.declared.sink.SinkError.{SinkError}
use Rattle.acg_base.specs.declared.status.Status.{Status}
use Rattle.acg_base.specs.declared.status.Status.TheVariants as status

-- the count of writes behind so many more
abbrev pub writes_behind : (more old : ℕ) → ℕ
writes_behind zero old = old
writes_behind (suc more) old = counted (writes_behind more old)

-- the sink took exactly the text, and no write failed
pub record Took {K : Type 0} (sink : Ghosts K) (text : List ℕ) (old new : K) : Type 0 where
  pub wrote : IsTrue (sink.tells old) → sink.written new ≡ sink.written old ++ text
  pub still : sink.faults new ≡ sink.faults old
  pub tells_still : sink.tells new ≡ sink.tells old

-- the last write failed, and no other one: the sink took a front of the text
pub record Broke {K : Type 0} (sink : Ghosts K) (text : List ℕ) (old new : K) : Type 0 where
  pub part : IsTrue (sink.tells old) → GainsFrontOf text (sink.written old) (sink.written new)
  pub last : IsTrue (sink.last_failed new)
  pub one : sink.faults new ≡ counted (sink.faults old)
  pub tells_still : sink.tells new ≡ sink.tells old

-- of pieces that are printed one by one, each by one write, one failed: the ones before it stand in the sink, and behind
-- them a front of it
pub record PiecesBroke {K : Type 0} (sink : Ghosts K) (pieces : List (List ℕ)) (old new : K) : Type 0 where
  pub before : List (List ℕ)
  pub piece : List ℕ
  pub behind : List (List ℕ)
  pub split : pieces ≡ before ++ (piece ∷ behind)
  pub writes : sink.writes new ≡ writes_behind (suc (length before)) (sink.writes old)
  pub part : IsTrue (sink.tells old) → GainsFrontOf piece (sink.written old ++ concat before) (sink.written new)

-- the text is printed, or a write failed, the last one
pub record Printed {K : Type 0} (sink : Ghosts K) (text : List ℕ) (old new : K) (result : Result (Unit {0}) SinkError) : Type 0 where
  pub done : OnOk result (Took sink text old new)
  pub failed : OnErr result (Broke sink text old new)

-- the text is printed and its status answered, or a write failed, the last one, and the answer says so. Where the status is
-- itself that of a failed write, of the store, the answer is the same in both cases
pub record Answered {K : Type 0} (sink : Ghosts K) (text : List ℕ) (wanted : Status) (old new : K) (result : Status) : Type 0 where
  pub answer : result ≢ status.WriteFault → result ≡ wanted
  pub done : result ≢ status.WriteFault → Took sink text old new
  pub failed : result ≡ status.WriteFault → Broke sink text old new ⊎ ((wanted ≡ status.WriteFault) × Took sink text old new)
