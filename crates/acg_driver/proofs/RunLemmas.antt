-- Runs whose messages are printed one by one.
use Rattle.std.proofs.Common.{◌≡◌, ◌≢◌, ℕ, zero, suc, ◌+◌, ◌<◌, ◌≤◌, List, [], ◌∷◌, ◌++◌, refl, sym, ap, ◌∙◌, subst, arith, append_assoc, append-nil}
use Rattle.acg_base.specs.declared.status.Status.{Status}
use Rattle.acg_base.specs.declared.status.Status.TheVariants as status
use Rattle.rv_code.specs.Machine.{State, Outcome, Ran, Exited, Trapped, after, step, run}
use Rattle.rv_code.specs.declared.cause.Cause.{Cause}
use Rattle.rv_machine.specs.Machines.{MachineValue, state_of, state_behind, output_behind, last, sent, sent_in, Steps, StepExits, StepTraps, StepSends, Runs}
use Rattle.rv_machine.proofs.GrowsLemmas.{Grows, step-grows, sent_in-passes}
use Rattle.rv_machine.proofs.RunsLemmas.{run-suc, sent_in-then, sent_in-more, sent_in-exit, run-exits, run-traps}
use Rattle.acg_words.specs.Lines.{bytes_of, status_of}
use Rattle.acg_words.specs.declared.line.Line.{Line}
use Rattle.acg_words.specs.declared.line.Line.TheVariants.{Completed, Failed, Escaped, Full, Running}
use Rattle.acg_driver.specs.Runs.{output_lines, IsExit, IsRunOf}
use Rattle.acg_driver.specs.Sending.{IsWhole, SendsMessages}
use Rattle.acg_driver.proofs.MessageLemmas.{output_lines-append}

-- every run sends whole messages, exits with a code of 0 to 3 and doesn't trap
abbrev pub Sane : MachineValue → (input : List ℕ) → Type 0
Sane m i = (n : ℕ) → SendsMessages (run n (state_of m i []))

sent-whole : (n : ℕ) (m k : MachineValue) (i j : List ℕ) → Sane m i → Runs n m i k j → IsWhole (sent_in n m i)
sent-whole n m k i j sane r = let shown = sane n in rw (r []) at shown

-- the lines of one more instruction stand behind the others
pub lines-more : (n : ℕ) (m k l : MachineValue) (i j q : List ℕ) → Sane m i → Runs n m i k j → Steps k j l q →
    output_lines (sent_in (n + 1) m i) ≡ output_lines (sent_in n m i) ++ output_lines (sent k)
lines-more n m k l i j q sane r s =
    ap output_lines (sent_in-more n m i k j l q r s) ∙ output_lines-append (sent_in n m i) (sent k) (sent-whole n m k i j sane r)

-- instructions behind others that send nothing
pub quiet-behind : (n p : ℕ) (m k l : MachineValue) (i j q : List ℕ) → Runs n m i k j → Runs p k j l q → sent_in p k j ≡ [] →
    sent_in (n + p) m i ≡ sent_in n m i
quiet-behind n p m k l i j q r s none = sent_in-then n p m i k j l q r s ∙ ap (λ more. sent_in n m i ++ more) none ∙ append-nil (sent_in n m i)

pub never-traps : (n b : ℕ) (m k : MachineValue) (i j : List ℕ) (cause : Cause) → Sane m i → Runs n m i k j → StepTraps k j cause → n < b → ⊥
never-traps n b m k i j cause sane r s h = let shown = sane b in rw (run-traps n b m i k j cause r s h []) at shown

pub exit-code : (n b : ℕ) (m k : MachineValue) (i j : List ℕ) (code : ℕ) → Sane m i → Runs n m i k j → StepExits k j code → n < b → code ≤ 3
exit-code n b m k i j code sane r s h =
    let shown = sane b in
    let exits : SendsMessages (Exited code (sent_in b m i)) = rw (run-exits n b m i k j code r s h []) at shown in
    exits.1

-- what is said of a run that exits
pub exit-answer : (n b : ℕ) (m k : MachineValue) (i j : List ℕ) (code : ℕ) (line : Line) → Runs n m i k j → StepExits k j code →
    n < b → IsExit code line → IsRunOf (run b (state_of m i [])) (output_lines (sent_in n m i) ++ bytes_of line) (status_of line)
exit-answer n b m k i j code line r s h e =
    let same = sent_in-exit n b m i k j code r s h in
    rw (run-exits n b m i k j code r s h []) (line, e, (ap (λ output. output_lines output ++ bytes_of line) (sym same), refl))

-- what is said of a run that doesn't end
pub running-answer : (b : ℕ) (m k : MachineValue) (i j : List ℕ) → Runs b m i k j →
    IsRunOf (run b (state_of m i [])) (output_lines (sent_in b m i) ++ bytes_of Running) (status_of Running)
running-answer b m k i j r = rw (r []) (refl, refl)

-- ---- what a whole run says

-- the output of an outcome that isn't a trap
abbrev pub OutputIs : List ℕ → Outcome → Type 0
OutputIs output (Ran t) = t.output ≡ output
OutputIs output (Exited code sent) = sent ≡ output
OutputIs output (Trapped cause) = Unit {0}

output-behind : (o : Outcome) (s : State) (go : State → Outcome) (follow : State → State) → Grows s o → ((u : State) → OutputIs (follow u).output (go u)) → OutputIs (state_behind o s follow).output (after o go)
output-behind (Ran u) s go follow grows rest = rest u
output-behind (Exited code sent) s go follow grows rest = grows
output-behind (Trapped cause) s go follow grows rest = tt

pub run-output : (n : ℕ) (s : State) → OutputIs (last n s).output (run n s)
unfolding run last
run-output zero s = refl
run-output (suc n) s = output-behind (step s) s (run n) (last n) (step-grows s) (run-output n)

-- a text and a status that are right for an outcome
pub record Ends (o : Outcome) (lines : List ℕ) : Type 0 where
  pub line : Line
  pub right : IsRunOf o (lines ++ bytes_of line) (status_of line)

exit-ends : (code : ℕ) (sent output : List ℕ) → sent ≡ output → code ≤ 3 → Ends (Exited code sent) (output_lines output)
exit-ends zero sent output e h = record { line = Completed; right = (Completed, refl, (ap (λ o. output_lines o ++ bytes_of Completed) (sym e), refl)) }
exit-ends (suc zero) sent output e h = record { line = Failed; right = (Failed, refl, (ap (λ o. output_lines o ++ bytes_of Failed) (sym e), refl)) }
exit-ends (suc (suc zero)) sent output e h = record { line = Escaped; right = (Escaped, refl, (ap (λ o. output_lines o ++ bytes_of Escaped) (sym e), refl)) }
exit-ends (suc (suc (suc zero))) sent output e h = record { line = Full; right = (Full, refl, (ap (λ o. output_lines o ++ bytes_of Full) (sym e), refl)) }
exit-ends (suc (suc (suc (suc code)))) sent output e h = absurd (omega arith)

outcome-ends : (o : Outcome) (output : List ℕ) → SendsMessages o → OutputIs output o → Ends o (output_lines output)
outcome-ends (Ran s) output sends is = record { line = Running; right = (ap (λ o. output_lines o ++ bytes_of Running) (sym is), refl) }
outcome-ends (Exited code sent) output sends is = exit-ends code sent output is sends.1
outcome-ends (Trapped cause) output sends is = absurd sends

-- a run says something, which begins with its messages
pub whole-run : (b : ℕ) (m : MachineValue) (i : List ℕ) → Sane m i → Ends (run b (state_of m i [])) (output_lines (sent_in b m i))
unfolding sent_in
whole-run b m i sane = outcome-ends (run b (state_of m i [])) (sent_in b m i) (sane b) (run-output b (state_of m i []))

whole-sent : (o : Outcome) (output : List ℕ) → output_behind o ≡ output → (output ≡ [] → ⊥) → SendsMessages o → IsWhole output
whole-sent (Ran s) output is some sends = subst IsWhole is sends
whole-sent (Exited code sent) output is some sends = absurd (some (sym is))
whole-sent (Trapped cause) output is some sends = absurd sends

some-behind : (xs ys : List ℕ) → ys ≢ [] → xs ++ ys ≡ [] → ⊥
some-behind [] ys some none = some none
some-behind (x ∷ xs) ys some none = cc

-- the messages before an instruction that sends, and its own, are whole
sends-whole : (n : ℕ) (m k : MachineValue) (i j : List ℕ) → Sane m i → Runs n m i k j → sent k ≢ [] → StepSends k j → IsWhole (sent_in n m i ++ sent k)
sends-whole n m k i j sane r some sends =
    let next : run (suc n) (state_of m i []) ≡ step (state_of k j (sent_in n m i)) = run-suc n (state_of m i []) _ (r []) in
    whole-sent (step (state_of k j (sent_in n m i))) (sent_in n m i ++ sent k) (sends (sent_in n m i)) (some-behind (sent_in n m i) (sent k) some)
    (subst SendsMessages next (sane (suc n)))

-- what is said of a run, where it sends at an instruction
pub record SaysAt (b n : ℕ) (m k : MachineValue) (i : List ℕ) : Type 0 where
  pub rest : List ℕ
  pub status : Status
  pub right : IsRunOf (run b (state_of m i [])) ((output_lines (sent_in n m i) ++ output_lines (sent k)) ++ rest) status

pub says-at : (n b : ℕ) (m k : MachineValue) (i j : List ℕ) → Sane m i → n < b → Runs n m i k j → sent k ≢ [] → StepSends k j → SaysAt b n m k i
says-at n b m k i j sane h r some sends =
    let all = whole-run b m i sane in
    let passes = sent_in-passes n b m i k j h r some sends in
    let both = output_lines-append (sent_in n m i) (sent k) (sent-whole n m k i j sane r) in
    let split : output_lines (sent_in b m i) ≡ (output_lines (sent_in n m i) ++ output_lines (sent k)) ++ output_lines passes.0 =
    ap output_lines passes.1 ∙ output_lines-append (sent_in n m i ++ sent k) passes.0 (sends-whole n m k i j sane r some sends) ∙ ap (λ lines. lines ++ output_lines passes.0) both
    in
    record {
      rest = output_lines passes.0 ++ bytes_of all.line;
      status = status_of all.line;
      right = subst (λ text. IsRunOf (run b (state_of m i [])) text (status_of all.line))
          (ap (λ lines. lines ++ bytes_of all.line) split ∙ append_assoc (output_lines (sent_in n m i) ++ output_lines (sent k)) (output_lines passes.0) (bytes_of all.line)) all.right;
    }

-- no run says that a file can't be read
exit-other : (code : ℕ) (line : Line) → IsExit code line → status_of line ≢ status.ReadFault
exit-other zero line e = λ f. let both = sym (ap status_of e) ∙ f in cc
exit-other (suc zero) line e = λ f. let both = sym (ap status_of e) ∙ f in cc
exit-other (suc (suc zero)) line e = λ f. let both = sym (ap status_of e) ∙ f in cc
exit-other (suc (suc (suc zero))) line e = λ f. let both = sym (ap status_of e) ∙ f in cc
exit-other (suc (suc (suc (suc code)))) line e = absurd e

pub run-other : (o : Outcome) (text : List ℕ) (s : Status) → IsRunOf o text s → s ≢ status.ReadFault
run-other (Ran t) text s says = λ f. let both = sym says.1 ∙ f in cc
run-other (Exited code sent) text s (line, exit, says) = λ f. exit-other code line exit (sym says.1 ∙ f)
run-other (Trapped cause) text s says = absurd says
