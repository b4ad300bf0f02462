-- What is said: a text, and the status that is answered with it.
use Rattle.std.specs.Prelude.{◌≡◌, List, ◌++◌, ℕ}
use Rattle.acg_base.specs.declared.status.Status.{Status}
use Rattle.acg_base.specs.declared.sink.Sink.{Ghosts}
use Rattle.acg_words.specs.Lines.{bytes_of, status_of}
use Rattle.acg_words.specs.Prints.{Answered}
use Rattle.acg_words.specs.declared.line.Line.{Line}

-- messages, and behind them a line, with its status
abbrev pub SaysBehind : (messages : List ℕ) → Line → (text : List ℕ) → Status → Type 0
SaysBehind messages line text status = (text ≡ messages ++ bytes_of line) × (status ≡ status_of line)

-- a line alone, with its status
abbrev pub Says : Line → (text : List ℕ) → Status → Type 0
Says line text status = (text ≡ bytes_of line) × (status ≡ status_of line)

-- one of the lines that fit, alone
abbrev pub SaysOne : (Line → Type 0) → (text : List ℕ) → Status → Type 0
SaysOne Fits text status = (line : Line) × Fits line × Says line text status

-- a text and its status are right, and the sink gets the text; or its last write failed, in that text, and the answer
-- says so
pub record Said {K : Type 0} (sink : Ghosts K) (IsSaid : (text : List ℕ) → Status → Type 0) (old new : K) (result : Status) : Type 0 where
  pub text : List ℕ
  pub status : Status
  pub said : IsSaid text status
  pub answered : Answered sink text status old new result
