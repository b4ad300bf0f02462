-- An action that reads, is well-sorted, and whose nodes have code, is run.
use Rattle.std.proofs.Common.{◌≡◌, ◌≢◌, inl, inr, ℕ, zero, suc, List, [], ◌∷◌, Option, Some, None, slice_get, refl, sym, ap, ◌∙◌, subst}
use Rattle.acg_base.specs.Outside.{Contents}
use Rattle.acg_base.specs.declared.capacity.Capacity.{Capacity}
use Rattle.acg_base.specs.declared.limits.TheConstants.{LIMIT_ACTION}
use Rattle.acg_base.specs.declared.status.Status.{Status}
use Rattle.acg_base.specs.declared.status.Status.TheVariants as status
use Rattle.action_terms.specs.Numbering.{Listed, listed}
use Rattle.action_terms.specs.Meaning.{action_of}
use Rattle.rv_code.specs.Machine.{Outcome, Ran, Exited, Trapped, run}
use Rattle.sort_rules.specs.Admissible.{IsAdmissible, IsWellSorted}
use Rattle.rv_codegen.specs.Built.{unbuilt}
use Rattle.acg_words.specs.Commands.{Act}
use Rattle.acg_words.specs.Lines.{status_of}
use Rattle.acg_words.specs.declared.line.Line.{Line}
use Rattle.acg_words.specs.declared.line.Line.TheVariants.{IllSorted, Memory, ReadFault, Unbuilt}
use Rattle.acg_driver.specs.Texts.{Reads, IsUnread}
use Rattle.acg_driver.specs.Files.{files_if, readings_of, AreGiven}
use Rattle.acg_driver.specs.Runs.{IsExit, IsRunOf, IsRun}
use Rattle.acg_driver.specs.Commands.Act.{IsBuilt, IsUncompiled}
use Rattle.acg_driver.specs.Serving.{Replies, IsOfPerformance, IsOfRun, PerformsAsked}
use Rattle.acg_driver.proofs.InputLemmas.{input-performs}
use Rattle.acg_driver.proofs.Fronts.{given-is}
use Rattle.acg_driver.proofs.TextErrors.{one_text, content-refused, reads-whole}

-- bytes are the text of one graph
one-graph : (bytes : List ℕ) (g h : Listed) → Reads bytes g → Reads bytes h → g ≡ h
one-graph bytes g h (small, (t, text, graph)) (less, (u, other, same)) =
    graph.numbered ∙ ap listed (one_text bytes t u text other) ∙ sym same.numbered

-- an action that is well-sorted and has code isn't refused
pub built-compiled : (bytes : List ℕ) (g : Listed) (line : Line) → IsBuilt bytes g → IsWellSorted (action_of g) → IsUncompiled bytes line → ⊥
built-compiled bytes g (IllSorted node) (reads, built) (t, admissible) (h, others, ill) =
    ill.none_is t (subst (λ x. IsAdmissible (action_of x) t) (one-graph bytes g h reads others) admissible)
built-compiled bytes g (Unbuilt node) (reads, built) sorted (h, others, (well, first)) =
    let none : unbuilt (action_of h) ≡ [] =
    subst (λ x. unbuilt (action_of x) ≡ []) (one-graph bytes g h reads others) built in
    let at : slice_get [] 0 ≡ Some node = sym (ap (λ ks. slice_get ks 0) none) ∙ first in
    absurd (cc)
built-compiled bytes g _ built sorted is = absurd is

memory-runs : (line : Line) → line ≡ Memory → IsOfRun (status_of line)
memory-runs line is = subst (λ l. IsOfRun (status_of l)) (sym is) tt

unread-runs : (name : List ℕ) (line : Line) → IsUnread name line → status_of line ≢ status.ReadFault → IsOfRun (status_of line)
unread-runs name (ReadFault other) unread not = absurd (not refl)
unread-runs name Memory unread not = tt
unread-runs name _ unread not = absurd unread

exit-runs : (code : ℕ) (line : Line) → IsExit code line → IsOfRun (status_of line)
exit-runs zero line is = subst (λ l. IsOfRun (status_of l)) (sym is) tt
exit-runs (suc zero) line is = subst (λ l. IsOfRun (status_of l)) (sym is) tt
exit-runs (suc (suc zero)) line is = subst (λ l. IsOfRun (status_of l)) (sym is) tt
exit-runs (suc (suc (suc zero))) line is = subst (λ l. IsOfRun (status_of l)) (sym is) tt
exit-runs (suc (suc (suc (suc code)))) line is = absurd is

outcome-runs : (o : Outcome) (text : List ℕ) (s : Status) → IsRunOf o text s → IsOfRun s
outcome-runs (Ran t) text s says = subst IsOfRun (sym says.1) tt
outcome-runs (Exited code sent) text s (line, exit, says) = subst IsOfRun (sym says.1) (exit-runs code line exit)
outcome-runs (Trapped cause) text s says = absurd says

run-runs : (g : Listed) (c : Capacity) (budget : ℕ) (left text : List ℕ) (s : Status) → IsRun g c budget left text s → IsOfRun s
run-runs g c budget left text s (t, least, (file, image, made, (start, load, bytes, (rest, is, runs)))) = outcome-runs (run budget start) rest s runs

performance-runs : (s : Status) → IsOfPerformance s → IsOfRun s
performance-runs status.Done is = tt
performance-runs status.Failed is = tt
performance-runs status.Escaped is = tt
performance-runs status.Running is = tt
performance-runs status.Memory is = tt
performance-runs _ is = absurd is

-- what is replied to `act` over a store that tells its contents
pub act-performs :
    (contents : Contents) (c : Capacity) (budget : ℕ) (action : List ℕ) (input : Option (List ℕ)) (givens : List (List ℕ)) (text : List ℕ) (s : Status) →
    AreGiven contents (readings_of (files_if (Some (Act c budget action input))) givens) → Replies (Act c budget action input) givens text s →
    s ≢ status.ReadFault → PerformsAsked contents (Some (Act c budget action input)) s
act-performs contents c budget action input [] text s given (inl (line, unread, says)) not content g bytes there built sorted is within =
    subst IsOfRun (sym says.1) (unread-runs action line unread (λ e. not (says.1 ∙ e)))
act-performs contents c budget action input [] text s given (inr none) not content g bytes there built sorted is within = absurd none
act-performs contents c budget action input (b ∷ givens) text s given (inl (line, inl (none, inl refused), says)) not content g bytes there built sorted is within =
    let front_of = given-is contents action content b LIMIT_ACTION there given.0 in
    subst IsOfRun (sym says.1) (memory-runs line (content-refused content b g line front_of built.0 refused))
act-performs contents c budget action input (b ∷ givens) text s given (inl (line, inl (none, inr uncompiled), says)) not content g bytes there built sorted is within =
    let front_of = given-is contents action content b LIMIT_ACTION there given.0 in
    let whole = reads-whole content b g front_of built.0 in
    absurd (built-compiled content g line built sorted (subst (λ x. IsUncompiled x line) whole uncompiled))
act-performs contents c budget action input (b ∷ givens) text s given (inl (line, inr (compiled, refused), says)) not content g bytes there built sorted is within =
    performance-runs s (subst IsOfPerformance (sym says.1) (input-performs contents input givens bytes line given.1 is within (λ e. not (says.1 ∙ e)) refused))
act-performs contents c budget action input (b ∷ givens) text s given (inr (h, others, (left, is_bytes, runs))) not content g bytes there built sorted is within = run-runs h c budget left text s runs
