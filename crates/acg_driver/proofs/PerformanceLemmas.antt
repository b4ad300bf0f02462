-- Performances that a number chooses: how far they come in so many steps, and what they have sent.
use Rattle.std.proofs.Common.{◌≡◌, ◌≢◌, ℕ, ◌+◌, ◌<◌, ◌≤◌, ℤ, List, [], ◌∷◌, ◌++◌, length, drop, Some, slice_get, refl, sym, ap, ◌∙◌, subst, arith, append-nil, inl, inr}
use Rattle.std.proofs.lemmas.Bool.{cases_lt}
use Rattle.std.proofs.lemmas.List.{length-append, drop_at}
use Rattle.acg_base.specs.declared.status.Status.{Status}
use Rattle.acg_base.specs.declared.status.Status.TheVariants as status
use Rattle.action_terms.specs.Information.{World}
use Rattle.action_terms.specs.Acting.{End, Done, Esc, Fail, Tree, Run, Ended, Called, Par, First, Second, Or, Cut, Trap, Over}
use Rattle.action_terms.specs.Steps.{Effect, Silent, Commits, Allocates, Takes, Misses, Puts, Sends, Step, world_after}
use Rattle.action_terms.specs.Performances.{State, start}
use Rattle.action_terms.specs.Numbering.{Listed}
use Rattle.action_terms.specs.Meaning.{action_of}
use Rattle.action_sos.specs.Performers.{Performing, steps_of, outcome_of, moved_to, IsEnd, Takes as TakesStep}
use Rattle.action_sos.specs.Schedules.{IsScheduled, IsChosen, number_at, chosen}
use Rattle.action_sos.specs.declared.answers.Moved.{Moved}
use Rattle.action_sos.specs.declared.answers.Moved.TheVariants as moved
use Rattle.action_sos.specs.declared.answers.Outcome.{Outcome}
use Rattle.action_sos.specs.declared.answers.Outcome.TheVariants as outcome
use Rattle.acg_words.specs.Lines.{message_lines, bytes_of, status_of}
use Rattle.acg_words.specs.declared.line.Line.{Line}
use Rattle.acg_words.specs.declared.line.Line.TheVariants.{Memory, Completed, Failed, Escaped, Running}
use Rattle.acg_driver.specs.Commands.Perform.{step_limit, end_line, IsGoing, IsOutcome, IsPerformed}
use Rattle.acg_driver.proofs.MessageLemmas.{message_lines-append}

-- ---- ends

-- an answer that tells of an end tells which
pub moved-ended : (t : Tree) (o : Outcome) → moved.Ended o ≡ moved_to t → (z : End) × (t ≡ Ended z) × (o ≡ outcome_of z)
moved-ended (Ended z) o e = (z, refl, cc)
moved-ended (Run k d b) o e = absurd (cc)
moved-ended (Called c x) o e = absurd (cc)
moved-ended (Par k x y) o e = absurd (cc)
moved-ended (First k x d b) o e = absurd (cc)
moved-ended (Second k d b x) o e = absurd (cc)
moved-ended (Or x k d b) o e = absurd (cc)
moved-ended (Cut x) o e = absurd (cc)
moved-ended (Trap k x b) o e = absurd (cc)
moved-ended (Over x b) o e = absurd (cc)

-- an answer of another kind tells that there is no end yet
pub moved-on : (t : Tree) → moved.Went ≡ moved_to t → IsEnd t → ⊥
moved-on t e (z, ended) = let w : moved.Went ≡ moved_to (Ended z) = e ∙ ap moved_to ended in cc

-- the line of an outcome is that of each end with that outcome
pub completed-end : (z : End) → outcome.Completed ≡ outcome_of z → Completed ≡ end_line z
completed-end (Done d b) e = refl
completed-end (Esc d) e = absurd (cc)
completed-end Fail e = absurd (cc)

pub escaped-end : (z : End) → outcome.Escaped ≡ outcome_of z → Escaped ≡ end_line z
escaped-end (Done d b) e = absurd (cc)
escaped-end (Esc d) e = refl
escaped-end Fail e = absurd (cc)

pub failed-end : (z : End) → outcome.Failed ≡ outcome_of z → Failed ≡ end_line z
failed-end (Done d b) e = absurd (cc)
failed-end (Esc d) e = absurd (cc)
failed-end Fail e = refl

end-outcome : (count : ℕ) (tree : Tree) (z : End) → count ≤ step_limit → tree ≡ Ended z → IsOutcome count tree (end_line z)
end-outcome count tree (Done d b) within ended = (Done d b, within, ended, refl)
end-outcome count tree (Esc d) within ended = (Esc d, within, ended, refl)
end-outcome count tree Fail within ended = (Fail, within, ended, refl)

end-other : (z : End) → status_of (end_line z) ≢ status.ReadFault
end-other (Done d b) = λ e. cc
end-other (Esc d) = λ e. cc
end-other Fail = λ e. cc

outcome-other : (count : ℕ) (tree : Tree) (line : Line) → IsOutcome count tree line → status_of line ≢ status.ReadFault
outcome-other count tree Running h = λ e. cc
outcome-other count tree Memory h = λ e. cc
outcome-other count tree _ (z, within, ended, is) = λ e. end-other z (sym (ap status_of is) ∙ e)

-- no performance says that a file can't be read
pub performed-other : (n : ℕ) (g : Listed) (input : List ℤ) (text : List ℕ) (s : Status) → IsPerformed n g input text s → s ≢ status.ReadFault
performed-other n g input text s (steps, state, line, scheduled, outcome, says) = λ e. outcome-other (length steps) state.tree line outcome (sym says.1 ∙ e)

-- ---- steps

-- a chosen index is one of an open step
pub chosen-within : (x count : ℕ) → 0 < count → chosen x count < count
chosen-within x count some = omega arith

-- at the start there is no end yet, and nothing was sent
pub start-going : (s : State) (input : List ℤ) → s ≡ start input → IsEnd s.tree → ⊥
start-going s input e (z, ended) = let both = sym (ap (λ (t : State). t.tree) e) ∙ ended in cc

pub start-silent : (s : State) (input : List ℤ) → s ≡ start input → message_lines s.world.output ≡ []
start-silent s input e = ap (λ (t : State). message_lines t.world.output) e

-- so many steps that the number chooses lead from the start over the input to the state
pub record IsReached (n : ℕ) (g : Listed) (input : List ℤ) (count : ℕ) (s : State) : Type 0 where
  pub steps : List Step
  pub scheduled : IsScheduled n (action_of g) input steps s
  pub counted : length steps ≡ count

pub reached-start : (n : ℕ) (g : Listed) (input : List ℤ) (s : State) → s ≡ start input → IsReached n g input 0 s
reached-start n g input s e = record { steps = []; scheduled = e; counted = refl }

-- a performer's step by the number's choice leads to the next state
pub reached-more : (n x : ℕ) (g : Listed) (input : List ℤ) (count choice opened : ℕ) (old new : Performing) → IsReached n g input count old.state
    → old.graph ≡ g → x ≡ number_at n count → opened ≡ length (steps_of old) → choice ≡ chosen x opened → TakesStep choice old new → IsReached n g input (count + 1) new.state
reached-more n x g input count choice opened old new reached same number count_is choose takes =
    let Chosen : Listed → ℕ → Type 0 = λ h t. IsChosen (action_of h) (number_at n t) old.state takes.0 in
    let index : choice ≡ chosen (number_at n count) (length (steps_of old)) = choose ∙ ap (λ y. chosen y opened) number ∙ ap (chosen (number_at n count)) count_is in
    let here : Chosen old.graph count = subst (λ i. slice_get (steps_of old) i ≡ Some takes.0) index takes.1 in
    let there : Chosen g (length reached.steps) = subst (λ h. Chosen h (length reached.steps)) same (subst (λ t. Chosen old.graph t) (sym reached.counted) here) in
    record {
      steps = takes.0 ∷ reached.steps;
      scheduled = (old.state, reached.scheduled, there, ap (λ (p : Performing). p.state) takes.2);
      counted = omega (arith, reached.counted);
    }

-- a step keeps the graph
pub same-graph : (choice : ℕ) (old new : Performing) → TakesStep choice old new → new.graph ≡ old.graph
same-graph choice old new takes = ap (λ (p : Performing). p.graph) takes.2

-- ---- messages

-- what an effect sends
abbrev pub sent_by : Effect → List ℤ
sent_by (Sends m) = m ∷ []
sent_by _ = []

output-after : (e : Effect) (w : World) → (world_after e w).output ≡ w.output ++ sent_by e
output-after (Sends m) w = refl
output-after Silent w = sym (append-nil w.output)
output-after Commits w = sym (append-nil w.output)
output-after Allocates w = sym (append-nil w.output)
output-after Takes w = sym (append-nil w.output)
output-after Misses w = sym (append-nil w.output)
output-after (Puts c x) w = sym (append-nil w.output)

few-sent : (e : Effect) → length (sent_by e) ≤ 1
few-sent (Sends m) = omega arith
few-sent Silent = omega arith
few-sent Commits = omega arith
few-sent Allocates = omega arith
few-sent Takes = omega arith
few-sent Misses = omega arith
few-sent (Puts c x) = omega arith

output-step : (choice : ℕ) (old new : Performing) (takes : TakesStep choice old new) → new.state.world.output ≡ old.state.world.output ++ sent_by takes.0.effect
output-step choice old new takes = ap (λ (p : Performing). p.state.world.output) takes.2 ∙ output-after takes.0.effect old.state.world

-- a step sends one message or none
pub one-more : (choice : ℕ) (old new : Performing) → TakesStep choice old new → length new.state.world.output ≤ length old.state.world.output + 1
one-more choice old new takes =
    let size = ap length (output-step choice old new takes) in
    let both : length (old.state.world.output ++ sent_by takes.0.effect) ≡ length old.state.world.output + length (sent_by takes.0.effect) = length-append old.state.world.output (sent_by takes.0.effect) in
    omega (arith, size, both, few-sent takes.0.effect)

-- the lines of the messages after a step are those before, and that of what it sent
pub lines-step : (choice before : ℕ) (old new : Performing) → before ≡ length old.state.world.output → TakesStep choice old new →
    message_lines new.state.world.output ≡ message_lines old.state.world.output ++ message_lines (drop before new.state.world.output)
lines-step choice before old new size takes =
    let out = old.state.world.output in
    let more = sent_by takes.0.effect in
    let grown = output-step choice old new takes in
    let behind : drop before new.state.world.output ≡ more = ap (drop before) grown ∙ drop_at out more before (sym size) in
    ap message_lines grown ∙ message_lines-append out more ∙ ap (λ ms. message_lines out ++ message_lines ms) (sym behind)

-- ---- what is said

-- behind the messages so far a line is said that is right for how far they lead
pub reached-performed : (n : ℕ) (g : Listed) (input : List ℤ) (count : ℕ) (s : State) (line : Line) → IsReached n g input count s → IsOutcome count s.tree line
    → IsPerformed n g input (message_lines s.world.output ++ bytes_of line) (status_of line)
reached-performed n g input count s line reached outcome =
    (reached.steps, s, line, reached.scheduled, subst (λ c. IsOutcome c s.tree line) (sym reached.counted) outcome, (refl, refl))

pub ended-performed : (n : ℕ) (g : Listed) (input : List ℤ) (count : ℕ) (s : State) (z : End) → IsReached n g input count s → count ≤ step_limit → s.tree ≡ Ended z
    → IsPerformed n g input (message_lines s.world.output ++ bytes_of (end_line z)) (status_of (end_line z))
ended-performed n g input count s z reached within ended = reached-performed n g input count s (end_line z) reached (end-outcome count s.tree z within ended)

going : (t : Tree) → (IsEnd t → ⊥) → IsGoing t
going t none = λ z ended. none (z, ended)

pub running-performed : (n : ℕ) (g : Listed) (input : List ℤ) (count : ℕ) (s : State) → IsReached n g input count s → count ≡ step_limit → (IsEnd s.tree → ⊥)
    → IsPerformed n g input (message_lines s.world.output ++ bytes_of Running) (status_of Running)
running-performed n g input count s reached all none = reached-performed n g input count s Running reached (all, going s.tree none)

pub broken-performed : (n : ℕ) (g : Listed) (input : List ℤ) (count : ℕ) (s : State) → IsReached n g input count s → count < step_limit → (IsEnd s.tree → ⊥)
    → IsPerformed n g input (message_lines s.world.output ++ bytes_of Memory) (status_of Memory)
broken-performed n g input count s reached within none = reached-performed n g input count s Memory reached (within, going s.tree none)

-- a line that may be said behind the messages of a step, whatever becomes of the next ones
pub record Goes (n : ℕ) (g : Listed) (input : List ℤ) (s : State) : Type 0 where
  pub line : Line
  pub right : IsPerformed n g input (message_lines s.world.output ++ bytes_of line) (status_of line)

pub step-goes : (n : ℕ) (g : Listed) (input : List ℤ) (count : ℕ) (s : State) (m : Moved) → IsReached n g input count s → count ≤ step_limit → m ≡ moved_to s.tree → Goes n g input s
step-goes n g input count s (moved.Ended o) reached within is =
    let ended = moved-ended s.tree o is in
    record { line = end_line ended.0; right = ended-performed n g input count s ended.0 reached within ended.1 }
step-goes n g input count s moved.Went reached within is = elim (cases_lt count step_limit) [
  | inl below ↦ record { line = Memory; right = broken-performed n g input count s reached below (moved-on s.tree is) }
  | inr above ↦ record { line = Running; right = running-performed n g input count s reached (omega arith) (moved-on s.tree is) }
]
