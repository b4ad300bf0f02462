-- What is said to a sink, by texts that are printed one behind the other.
use Rattle.std.proofs.Common.{◌≡◌, ℕ, ℤ, List, [], ◌∷◌, ◌++◌, Result, Ok, Err, true, false, inl, inr, refl, sym, ap, ◌∙◌, subst, append_assoc, append-nil}
use Rattle.std.specs.Result.{is_err}
use Rattle.acg_base.specs.declared.sink.Sink.{Ghosts}
use Rattle.acg_base.specs.declared.sink.SinkError.{SinkError}
use Rattle.acg_base.specs.declared.status.Status.{Status}
use Rattle.acg_base.specs.declared.status.Status.TheVariants as status
use Rattle.action_terms.specs.Performances.{records}
use Rattle.acg_words.specs.Lines.{bytes_of, status_of, message_line, message_lines}
use Rattle.acg_words.specs.Prints.{Took, Broke, Printed, Answered}
use Rattle.acg_words.specs.declared.line.Line.{Line}
use Rattle.acg_words.proofs.PrintsLemmas.{took-none, took-then, broke-then, broke-first}
use Rattle.acg_driver.specs.Says.{Said}
use Rattle.acg_driver.specs.Runs.{output_lines}

module _ {K : Type 0} {sink : Ghosts K} where
  -- a print that is no error has printed its text, and one that is has not
  pub printed-whole : {text : List ℕ} {old new : K} (result : Result (Unit {0}) SinkError) → is_err result ≡ false → Printed sink text old new result → Took sink text old new
  printed-whole (Ok u) fine printed = printed.done
  printed-whole (Err e) fine printed = absurd (cc)

  pub printed-failed : {text : List ℕ} {old new : K} (result : Result (Unit {0}) SinkError) → is_err result ≡ true → Printed sink text old new result → Broke sink text old new
  printed-failed (Ok u) fails printed = absurd (cc)
  printed-failed (Err e) fails printed = printed.failed

  -- an answer behind a text that was printed
  pub answered-then : {first second : List ℕ} {wanted : Status} {old middle new : K} {result : Status} → Took sink first old middle → Answered sink second wanted middle new result → Answered sink (first ++ second) wanted old new result
  answered-then begun answered = record {
    answer = answered.answer;
    done = λ other. took-then begun (answered.done other);
    failed = λ fault. elim (answered.failed fault) [ inl broke ↦ inl (broke-then begun broke) | inr other ↦ inr (other.0, took-then begun other.1) ];
  }

  -- a write that failed is answered, whatever was wanted
  pub answered-broke : {text : List ℕ} (wanted : Status) {old new : K} → Broke sink text old new → Answered sink text wanted old new status.WriteFault
  answered-broke wanted broke = record {
    answer = λ other. absurd (other refl);
    done = λ other. absurd (other refl);
    failed = λ _. inl broke;
  }

  -- what is said behind a text
  pub said-then : {P Q : List ℕ → Status → Type 0} {first : List ℕ} {old middle new : K} {result : Status} → Took sink first old middle → ((text : List ℕ) (s : Status) → P text s → Q (first ++ text) s) → Said sink P middle new result → Said sink Q old new result
  said-then {P} {Q} {first} begun goes said = record {
    text = first ++ said.text;
    status = said.status;
    said = goes said.text said.status said.said;
    answered = answered-then begun said.answered;
  }

  -- what is said is right in another way too
  pub said-map : {P Q : List ℕ → Status → Type 0} {old new : K} {result : Status} → ((text : List ℕ) (s : Status) → P text s → Q text s) → Said sink P old new result → Said sink Q old new result
  said-map goes said = record { text = said.text; status = said.status; said = goes said.text said.status said.said; answered = said.answered }

  -- a line behind messages
  pub said-line : {P : List ℕ → Status → Type 0} {messages : List ℕ} {old middle new : K} {result : Status} (line : Line) → Took sink messages old middle → Answered sink (bytes_of line) (status_of line) middle new result
      → P (messages ++ bytes_of line) (status_of line) → Said sink P old new result
  said-line {P} {messages} line begun answered said = record { text = messages ++ bytes_of line; status = status_of line; said = said; answered = answered-then begun answered }

  -- a write that failed in a text that has a front of what is said
  pub said-broke : {P : List ℕ → Status → Type 0} {front : List ℕ} {old new : K} (rest : List ℕ) (s : Status) → Broke sink front old new → P (front ++ rest) s → Said sink P old new status.WriteFault
  said-broke {P} {front} rest s broke said = record { text = front ++ rest; status = s; said = said; answered = answered-broke s (broke-first rest broke) }

-- the sink took the text but for the rest of it
pub record TookFront {K : Type 0} (sink : Ghosts K) (text rest : List ℕ) (old new : K) : Type 0 where
  pub front : List ℕ
  pub whole : text ≡ front ++ rest
  pub took : Took sink front old new

module _ {K : Type 0} {sink : Ghosts K} where
  pub front-none : (text : List ℕ) (old : K) → TookFront sink text text old old
  front-none text old = record { front = []; whole = refl; took = took-none old }

  -- one message more of some bytes
  pub front-more : {text : List ℕ} {old middle new : K} (bytes behind : List ℕ) (m : ℤ) → records bytes ≡ m ∷ records behind → TookFront sink text (output_lines bytes) old middle
      → Took sink (message_line m) middle new → TookFront sink text (output_lines behind) old new
  front-more bytes behind m is begun took = record {
    front = begun.front ++ message_line m;
    whole = begun.whole ∙ ap (λ ms. begun.front ++ message_lines ms) is ∙ sym (append_assoc begun.front (message_line m) (output_lines behind));
    took = took-then begun.took took;
  }

  pub front-broke : {text : List ℕ} {old middle new : K} (bytes behind : List ℕ) (m : ℤ) → records bytes ≡ m ∷ records behind → TookFront sink text (output_lines bytes) old middle
      → Broke sink (message_line m) middle new → Broke sink text old new
  front-broke {text} {old} {middle} {new} bytes behind m is begun broke =
      let split = begun.whole ∙ ap (λ ms. begun.front ++ message_lines ms) is in
      subst (λ t. Broke sink t old new) (sym split) (broke-then begun.took (broke-first (output_lines behind) broke))

  -- no message is left
  pub front-whole : {text : List ℕ} {old new : K} (bytes : List ℕ) → records bytes ≡ [] → TookFront sink text (output_lines bytes) old new → Took sink text old new
  front-whole {text} {old} {new} bytes none begun =
      let all = begun.whole ∙ ap (λ ms. begun.front ++ message_lines ms) none ∙ append-nil begun.front in
      subst (λ t. Took sink t old new) (sym all) begun.took
