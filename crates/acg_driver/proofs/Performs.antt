-- An action that reads is performed, or run where it has code.
use Rattle.std.proofs.Common.{◌≡◌, ◌≢◌, inl, inr, ℕ, zero, suc, ◌≤◌, ℤ, List, [], ◌∷◌, length, Option, Some, None, IsTrue, refl, sym, ap, ◌∙◌, subst, arith}
use Rattle.acg_base.specs.Outside.{Contents, front}
use Rattle.acg_base.specs.declared.limits.TheConstants.{LIMIT_ACTION, LIMIT_IMAGE, LIMIT_INPUT}
use Rattle.acg_base.specs.declared.sink.Sink.{Ghosts as Sink}
use Rattle.acg_base.specs.declared.status.Status.{Status}
use Rattle.acg_base.specs.declared.store.Store.{Ghosts as Store}
use Rattle.acg_base.specs.declared.status.Status.TheVariants as status
use Rattle.action_terms.specs.Acting.{End, Done, Esc, Fail, Tree}
use Rattle.action_terms.specs.Numbering.{Listed}
use Rattle.rv_code.specs.Machine.{State, Outcome, Ran, Exited, Trapped}
use Rattle.acg_words.specs.Commands.{Command, Act, Run, Perform, Help, Version}
use Rattle.acg_words.specs.Lines.{status_of, exit_status}
use Rattle.acg_words.specs.declared.line.Line.{Line}
use Rattle.acg_words.specs.declared.line.Line.TheVariants.{LimitInput, Memory, ReadFault, Running}
use Rattle.acg_driver.specs.Files.{files_if, readings_of, AreGiven}
use Rattle.acg_driver.specs.Commands.Run.{EndsAs}
use Rattle.acg_driver.specs.Commands.Perform.{end_line, IsOutcome, IsPerformed}
use Rattle.acg_driver.specs.Serving.{Replies, RepliesIf, IsOfPerformance, IsOfImage, PerformsAsked, Served}
use Rattle.acg_driver.proofs.ImageLemmas.{content-image}
use Rattle.acg_driver.proofs.ActRuns.{act-performs}
use Rattle.acg_driver.proofs.Fronts.{given-is}
use Rattle.acg_driver.proofs.InputLemmas.{memory-performs, unread-performs, input-performs}
use Rattle.acg_driver.proofs.TextErrors.{content-refused}

end-performs : (z : End) → IsOfPerformance (status_of (end_line z))
end-performs (Done d b) = tt
end-performs (Esc d) = tt
end-performs Fail = tt

outcome-performs : (count : ℕ) (tree : Tree) (line : Line) → IsOutcome count tree line → IsOfPerformance (status_of line)
outcome-performs count tree Running h = tt
outcome-performs count tree Memory h = tt
outcome-performs count tree line (z, within, ended, is) = subst (λ l. IsOfPerformance (status_of l)) (sym is) (end-performs z)

performed-performs : (n : ℕ) (g : Listed) (input : List ℤ) (text : List ℕ) (s : Status) → IsPerformed n g input text s → IsOfPerformance s
performed-performs n g input text s (steps, state, line, scheduled, outcome, says) =
    subst IsOfPerformance (sym says.1) (outcome-performs (length steps) state.tree line outcome)

perform-performs : (contents : Contents) (n : ℕ) (action : List ℕ) (input : Option (List ℕ)) (givens : List (List ℕ)) (text : List ℕ) (s : Status)
    → AreGiven contents (readings_of (files_if (Some (Perform n action input))) givens) → Replies (Perform n action input) givens text s → s ≢ status.ReadFault → PerformsAsked contents (Some (Perform n action input)) s
perform-performs contents n action input [] text s given (inl (line, unread, says)) not content g bytes there reads is within =
    subst IsOfPerformance (sym says.1) (unread-performs action line unread (λ e. not (says.1 ∙ e)))
perform-performs contents n action input [] text s given (inr none) not content g bytes there reads is within = absurd none
perform-performs contents n action input (b ∷ givens) text s given (inl (line, inl (none, refused), says)) not content g bytes there reads is within =
    subst IsOfPerformance (sym says.1) (memory-performs line (content-refused content b g line (given-is contents action content b LIMIT_ACTION there given.0) reads refused))
perform-performs contents n action input (b ∷ givens) text s given (inl (line, inr (is_action, refused), says)) not content g bytes there reads is within =
    subst IsOfPerformance (sym says.1) (input-performs contents input givens bytes line given.1 is within (λ e. not (says.1 ∙ e)) refused)
perform-performs contents n action input (b ∷ givens) text s given (inr (h, integers, read, is_input, performed)) not content g bytes there reads is within =
    performed-performs n h integers text s performed

-- ---- images

performance-image : (s : Status) → IsOfPerformance s → IsOfImage s
performance-image status.Done is = tt
performance-image status.Failed is = tt
performance-image status.Escaped is = tt
performance-image status.Running is = tt
performance-image status.Memory is = tt
performance-image _ is = absurd is

exit-image : (code : ℕ) → IsOfImage (exit_status code)
exit-image zero = tt
exit-image (suc zero) = tt
exit-image (suc (suc zero)) = tt
exit-image (suc (suc (suc zero))) = tt
exit-image (suc (suc (suc (suc code)))) = tt

ends-image : (o : Outcome) (before : State) (text : List ℕ) (s : Status) → EndsAs o before text s → IsOfImage s
ends-image (Ran t) before text s says = subst IsOfImage (sym says.1) tt
ends-image (Exited code output) before text s says = subst IsOfImage (sym says.1) (exit-image code)
ends-image (Trapped cause) before text s says = subst IsOfImage (sym says.1) tt

run-performs : (contents : Contents) (budget : ℕ) (image : List ℕ) (input : Option (List ℕ)) (givens : List (List ℕ)) (text : List ℕ) (s : Status)
    → AreGiven contents (readings_of (files_if (Some (Run budget image input))) givens) → Replies (Run budget image input) givens text s → s ≢ status.ReadFault → PerformsAsked contents (Some (Run budget image input)) s
run-performs contents budget image input [] text s given (inl (line, unread, says)) not content x bytes there gives is within =
    performance-image s (subst IsOfPerformance (sym says.1) (unread-performs image line unread (λ e. not (says.1 ∙ e))))
run-performs contents budget image input [] text s given (inr none) not content x bytes there gives is within = absurd none
run-performs contents budget image input (b ∷ givens) text s given (inl (line, inl (none, refused), says)) not content x bytes there gives is within =
    performance-image s
    (subst IsOfPerformance (sym says.1) (memory-performs line (content-image content b x line (given-is contents image content b LIMIT_IMAGE there given.0) gives refused)))
run-performs contents budget image input (b ∷ givens) text s given (inl (line, inr (is_image, refused), says)) not content x bytes there gives is within =
    performance-image s (subst IsOfPerformance (sym says.1) (input-performs contents input givens bytes line given.1 is within (λ e. not (says.1 ∙ e)) refused))
run-performs contents budget image input (b ∷ givens) text s given (inr (few, (left, is_bytes, (start, load, runs)))) not content x bytes there gives is within =
    ends-image _ _ text s runs

-- what is replied to a command over a store that tells its contents
reply-performs : (contents : Contents) (asked : Option Command) (givens : List (List ℕ)) (text : List ℕ) (s : Status) → AreGiven contents (readings_of (files_if asked) givens) → RepliesIf asked givens text s
    → s ≢ status.ReadFault → PerformsAsked contents asked s
reply-performs contents None givens text s given reply not = tt
reply-performs contents (Some (Act c budget action input)) givens text s given reply not = act-performs contents c budget action input givens text s given reply not
reply-performs contents (Some (Run budget image input)) givens text s given reply not = run-performs contents budget image input givens text s given reply not
reply-performs contents (Some (Perform n action input)) givens text s given reply not = perform-performs contents n action input givens text s given reply not
reply-performs contents (Some Help) givens text s given reply not = tt
reply-performs contents (Some Version) givens text s given reply not = tt

-- what a request does that is neither refused for a file that isn't there, nor fails to write
pub served-performs : {S K : Type 0} {store : Store S} {sink : Sink K} (asked : Option Command) {old new : S} {out gained : K} {result : Status} → Served store sink asked old new out gained result
    → IsTrue (store.tells old) → result ≢ status.ReadFault → result ≢ status.WriteFault → PerformsAsked (store.contents old) asked result
served-performs {S} {K} {store} {sink} asked {old} served told not_read not_write =
    let is = served.answered.answer not_write in
    subst (λ s. PerformsAsked (store.contents old) asked s) (sym is)
    (reply-performs (store.contents old) asked served.givens served.text served.status (served.read.given told) served.said (λ fault. not_read (is ∙ fault)))
