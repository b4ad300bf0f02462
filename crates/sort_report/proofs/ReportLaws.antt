-- Reports in the making: what was printed is a front of the whole.
use Rattle.std.proofs.Common.{◌≡◌, ℕ, zero, suc, ◌≤◌, ◌+◌, List, [], ◌++◌, length, IsTrue, Result, Ok, Err, sym, ap, ◌∙◌, subst, arith, inl, inr, append_assoc, append-nil}
use Rattle.std.proofs.lemmas.Bool.{cases_lt}
use Rattle.std.proofs.Math.Seq.{take-append_seam}
use Rattle.std.specs.Prelude.{OnOk}
use Rattle.acg_base.specs.declared.sink.Sink.{Ghosts}
use Rattle.std.proofs.lemmas.List.{length-map}
use Rattle.action_terms.specs.Numbering.{Listed}
use Rattle.action_terms.specs.Meaning.{action_of, node_with, items_from}
use Rattle.acg_words.specs.Prints.{Took, Broke}
use Rattle.acg_words.proofs.PrintsLemmas.{front_of_first, front_of_second, took-then, broke-first, broke-then}
use Rattle.sort_report.specs.Report.{lines_below, TookFrontOf, Reported}
use Rattle.sort_report.specs.declared.error.ReportError.{ReportError}
use Rattle.sort_report.specs.declared.error.ReportError.TheVariants as error

-- an action has as many nodes as its graph
pub length-action_of : (g : Listed) → length (action_of g) ≡ length g.nodes
length-action_of g = length-map g.nodes (node_with (items_from 0 g.yielders))

same-number : (line : ℕ → List ℕ) (m n : ℕ) → m ≡ n → lines_below line m ≡ lines_below line n
same-number line m n e = ap (λ i. lines_below line i) e

-- the lines of the numbers below n are those of the numbers below k, and others
lines-front : (line : ℕ → List ℕ) (k n : ℕ) → k ≤ n → (rest : List ℕ) × (lines_below line n ≡ lines_below line k ++ rest)
lines-front line k zero below = ([], same-number line 0 k (omega (arith, below)) ∙ sym (append-nil (lines_below line k)))
lines-front line k (suc n) below =
    elim (cases_lt n k) [
      | inl beyond ↦ ([], same-number line (suc n) k (omega (arith, below, beyond)) ∙ sym (append-nil (lines_below line k)))
      | inr within ↦ let front = lines-front line k n within in (front.0 ++ line n, ap (λ t. t ++ line n) front.1 ∙ append_assoc (lines_below line k) front.0 (line n))
    ]

module _ {K : Type 0} {sink : Ghosts K} where
  -- a front of a text
  front-took : {first : List ℕ} {old new : K} (rest : List ℕ) → Took sink first old new → TookFrontOf sink (first ++ rest) old new
  front-took {first} {old} {new} rest took = record {
    part = λ told. (length first, took.wrote told ∙ ap (λ t. sink.written old ++ t) (sym (take-append_seam first rest)));
    still = took.still;
    tells_still = took.tells_still;
  }

  -- a front of the first of two texts
  front-first : {first : List ℕ} {old new : K} (second : List ℕ) → TookFrontOf sink first old new → TookFrontOf sink (first ++ second) old new
  front-first {first} {old} {new} second front = record {
    part = λ told. front_of_first first second (sink.written old) (sink.written new) (front.part told);
    still = front.still;
    tells_still = front.tells_still;
  }

  -- a front of a text behind one that was printed
  front-then : {first second : List ℕ} {old middle new : K} → Took sink first old middle → TookFrontOf sink second middle new → TookFrontOf sink (first ++ second) old new
  front-then {first} {second} {old} {middle} {new} begun front = record {
    part = λ told. front_of_second first second (sink.written old) (sink.written middle) (sink.written new) (begun.wrote told) (front.part (subst IsTrue (sym begun.tells_still) told));
    still = front.still ∙ begun.still;
    tells_still = front.tells_still ∙ begun.tells_still;
  }

  -- memory ran out
  out-of-memory : {text : List ℕ} {old new : K} (result : Result (Unit {0}) ReportError) → result ≡ Err error.Memory → TookFrontOf sink text old new → Reported sink text old new result
  out-of-memory (Ok u) is front = absurd (cc)
  out-of-memory (Err e) is front = record { done = tt; memory = λ same. front; failed = λ other. absurd (cc) }

  -- a write failed
  fault : {text : List ℕ} {old new : K} (result : Result (Unit {0}) ReportError) → result ≡ Err error.SinkFault → Broke sink text old new → Reported sink text old new result
  fault (Ok u) is broke = absurd (cc)
  fault (Err e) is broke = record { done = tt; memory = λ other. absurd (cc); failed = λ same. broke }

  -- memory ran out behind the lines of the numbers below k
  pub lines-stop : {old new : K} (line : ℕ → List ℕ) (k n : ℕ) → k ≤ n → (result : Result (Unit {0}) ReportError) → result ≡ Err error.Memory → Took sink (lines_below line k) old new
      → Reported sink (lines_below line n) old new result
  lines-stop {old} {new} line k n below result is took =
      let front = lines-front line k n below in
      subst (λ text. Reported sink text old new result) (sym front.1) (out-of-memory result is (front-took front.0 took))

  -- a write failed in the line of number k
  pub lines-break : {old middle new : K} (line : ℕ → List ℕ) (k n : ℕ) → k + 1 ≤ n → (result : Result (Unit {0}) ReportError) → result ≡ Err error.SinkFault → Took sink (lines_below line k) old middle
      → Broke sink (line k) middle new → Reported sink (lines_below line n) old new result
  lines-break {old} {middle} {new} line k n below result is took broke =
      let front = lines-front line (suc k) n (omega (arith, below)) in
      subst (λ text. Reported sink text old new result) (sym front.1) (fault result is (broke-first front.0 (broke-then took broke)))

  -- a report that succeeded
  pub reported-took : {text : List ℕ} {old new : K} {u : Unit {0}} (result : Result (Unit {0}) ReportError) → result ≡ Ok u → Reported sink text old new result → Took sink text old new
  reported-took (Ok u) is reported = reported.done
  reported-took (Err e) is reported = absurd (cc)

  -- the report of a text behind one that was printed
  pub reported-then : {first second : List ℕ} {old middle new : K} (result : Result (Unit {0}) ReportError) → Took sink first old middle → Reported sink second middle new result → Reported sink (first ++ second) old new result
  reported-then {first} {second} {old} {middle} {new} (Ok u) begun reported = record { done = took-then begun reported.done; memory = λ other. absurd (cc); failed = λ other. absurd (cc) }
  reported-then {first} {second} {old} {middle} {new} (Err e) begun reported = record {
    done = tt;
    memory = λ same. front-then begun (reported.memory same);
    failed = λ same. broke-then begun (reported.failed same);
  }

  -- a report that ended early ends a longer one
  pub reported-first : {first : List ℕ} {old new : K} {e : ReportError} (second : List ℕ) (result result' : Result (Unit {0}) ReportError) → result ≡ Err e → result' ≡ Err e → Reported sink first old new result
      → Reported sink (first ++ second) old new result'
  reported-first {first} {old} {new} {e} second result result' is is' reported = record {
    done = subst (λ r. OnOk r (Took sink (first ++ second) old new)) (sym is') tt;
    memory = λ same. front-first second (reported.memory (is ∙ sym is' ∙ same));
    failed = λ same. broke-first second (reported.failed (is ∙ sym is' ∙ same));
  }
