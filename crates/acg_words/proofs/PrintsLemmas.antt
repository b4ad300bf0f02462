-- Prints in a row: what they leave is what one print of the whole text leaves.
use Rattle.std.proofs.Common.{◌≡◌, ℕ, ◌+◌, List, [], ◌∷◌, ◌++◌, length, take, IsTrue, Result, Ok, Err, OnErr, refl, sym, ap, ◌∙◌, subst, arith, inl, inr, append_assoc, append-nil}
use Rattle.std.proofs.lemmas.Bool.{cases_lt}
use Rattle.std.proofs.lemmas.List.{take-append-le, take_all}
use Rattle.std.proofs.Math.Seq.{take-append_seam, take-append-add}
use Rattle.acg_base.specs.Outside.{counted, GainsFrontOf}
use Rattle.acg_base.specs.declared.sink.Sink.{Ghosts}
use Rattle.acg_base.specs.declared.sink.SinkError.{SinkError}
use Rattle.acg_words.specs.Prints.{Took, Broke, Printed, PiecesBroke}

-- a front of the first piece is a front of both
pub front_of_first : (first second old new : List ℕ) → GainsFrontOf first old new → GainsFrontOf (first ++ second) old new
front_of_first first second old new gains =
    elim (cases_lt (length first) gains.0) [
      | inr within ↦ (gains.0, gains.1 ∙ ap (λ front. old ++ front) (sym (take-append-le gains.0 first second within)))
      | inl beyond ↦ (length first, gains.1 ∙ ap (λ front. old ++ front) (take_all gains.0 first (omega arith) ∙ sym (take-append_seam first second)))
    ]

-- behind the first piece, a front of the second is a front of both
pub front_of_second : (first second old middle new : List ℕ) → middle ≡ old ++ first → GainsFrontOf second middle new → GainsFrontOf (first ++ second) old new
front_of_second first second old middle new behind gains =
    (length first + gains.0, gains.1 ∙ ap (λ bytes. bytes ++ take gains.0 second) behind ∙ append_assoc old first (take gains.0 second) ∙ ap (λ front. old ++ front) (sym (take-append-add first second gains.0)))

-- one piece whose write failed
pub broken-one :
    {K : Type 0} (sink : Ghosts K) (text : List ℕ) (old new : K) (result : Result (Unit {0}) SinkError) →
    sink.writes new ≡ counted (sink.writes old) →
    OnErr result (IsTrue (sink.tells old) → GainsFrontOf text (sink.written old) (sink.written new)) →
    OnErr result (PiecesBroke sink (text ∷ []) old new)
broken-one sink text old new (Ok u) once part = tt
broken-one sink text old new (Err e) once part = record {
  before = [];
  piece = text;
  behind = [];
  split = refl;
  writes = once;
  part = λ told. subst (λ bytes. GainsFrontOf text bytes (sink.written new)) (sym (append-nil (sink.written old)))
      (part told);
}

module _ {K : Type 0} {sink : Ghosts K} where
  -- nothing is printed by no write
  pub took-none : (old : K) → Took sink [] old old
  took-none old = record { wrote = λ told. sym (append-nil (sink.written old)); still = refl; tells_still = refl }

  -- one text behind another
  pub took-then : {first second : List ℕ} {old middle new : K} → Took sink first old middle → Took sink second middle new → Took sink (first ++ second) old new
  took-then {first} {second} {old} begun more = record {
    wrote = λ told. more.wrote (subst IsTrue (sym begun.tells_still) told) ∙ ap (λ bytes. bytes ++ second) (begun.wrote told) ∙ append_assoc (sink.written old) first second;
    still = more.still ∙ begun.still;
    tells_still = more.tells_still ∙ begun.tells_still;
  }

  -- a write that failed in the first of two texts
  pub broke-first : {first : List ℕ} {old new : K} (second : List ℕ) → Broke sink first old new → Broke sink (first ++ second) old new
  broke-first {first} {old} {new} second broke = record {
    part = λ told. front_of_first first second (sink.written old) (sink.written new) (broke.part told);
    last = broke.last;
    one = broke.one;
    tells_still = broke.tells_still;
  }

  -- a write that failed behind a text
  pub broke-then : {first second : List ℕ} {old middle new : K} → Took sink first old middle → Broke sink second middle new → Broke sink (first ++ second) old new
  broke-then {first} {second} {old} {middle} {new} begun broke = record {
    part = λ told. front_of_second first second (sink.written old) (sink.written middle) (sink.written new) (begun.wrote told) (broke.part (subst IsTrue (sym begun.tells_still) told));
    last = broke.last;
    one = broke.one ∙ ap counted begun.still;
    tells_still = broke.tells_still ∙ begun.tells_still;
  }

  -- a print that succeeded
  pub printed-took : {text : List ℕ} {old new : K} {u : Unit {0}} (result : Result (Unit {0}) SinkError) → result ≡ Ok u → Printed sink text old new result → Took sink text old new
  printed-took (Ok u) is printed = printed.done
  printed-took (Err e) is printed = absurd (cc)

  -- a text that was printed, and a print behind it
  pub printed-then : {first second : List ℕ} {old middle new : K} (result : Result (Unit {0}) SinkError) → Took sink first old middle → Printed sink second middle new result → Printed sink (first ++ second) old new result
  printed-then (Ok u) begun printed = record { done = took-then begun printed.done; failed = tt }
  printed-then (Err e) begun printed = record { done = tt; failed = broke-then begun printed.failed }

  -- a print that failed ends a longer one
  pub printed-err : {first text : List ℕ} {old middle new : K} {e e' : SinkError} (result result' : Result (Unit {0}) SinkError) → result ≡ Err e → result' ≡ Err e' → Printed sink first middle new result
      → (Broke sink first middle new → Broke sink text old new) → Printed sink text old new result'
  printed-err (Ok u) result' is is' printed goes = absurd (cc)
  printed-err (Err e) (Ok u) is is' printed goes = absurd (cc)
  printed-err (Err e) (Err e') is is' printed goes = record { done = tt; failed = goes printed.failed }

  -- a print that failed ends a longer one, of which a piece broke
  pub broken-err :
      {first : List ℕ} {pieces : List (List ℕ)} {old middle new : K} {e e' : SinkError}
      (result result' : Result (Unit {0}) SinkError) → result ≡ Err e → result' ≡ Err e' →
      Printed sink first middle new result → (Broke sink first middle new → PiecesBroke sink pieces old new) →
      OnErr result' (PiecesBroke sink pieces old new)
  broken-err (Ok u) result' is is' printed goes = absurd (cc)
  broken-err (Err e) (Ok u) is is' printed goes = tt
  broken-err (Err e) (Err e') is is' printed goes = goes printed.failed
