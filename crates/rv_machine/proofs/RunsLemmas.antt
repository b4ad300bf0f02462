-- Runs: one more step, and a stop.
use Rattle.std.proofs.Common.{◌≡◌, ℕ, zero, suc, ◌+◌, ◌<◌, List, [], ◌++◌, refl, ap, ◌∙◌, arith, append-nil, append_assoc, add-one, ⊎_elim}
use Rattle.rv_code.specs.Machine.{State, Outcome, Ran, Exited, Trapped, after, step, run}
use Rattle.rv_code.specs.declared.cause.Cause.{Cause}
use Rattle.rv_machine.specs.Machines.{MachineValue, state_of, state_behind, sent, last, sent_in, write_counted, writes_behind, Steps, StepExits, StepTraps, Runs, RunExits, RunTraps, IsCounted}
use Rattle.acg_base.specs.Outside.{counted}
use Rattle.std.proofs.Math.Seq.{drop-length, drop-append_seam}
use Rattle.std.proofs.lemmas.Bool.{cases_lt}
use Rattle.std.proofs.lemmas.Bool.Decides.{nat_tests}

-- ---- states

-- an outcome that ends a run
pub record IsEnd (o : Outcome) : Type 0 where
  pub stays : (go : State → Outcome) → after o go ≡ o
  pub before : (s : State) (go : State → State) → state_behind o s go ≡ s

pub exited-end : (code : ℕ) (output : List ℕ) → IsEnd (Exited code output)
exited-end code output = record { stays = λ go. refl; before = λ s go. refl }

pub trapped-end : (cause : Cause) → IsEnd (Trapped cause)
trapped-end cause = record { stays = λ go. refl; before = λ s go. refl }

behind-ran : (o : Outcome) (s t : State) (go : State → Outcome) (follow : State → State) →
    ((u : State) → go u ≡ Ran t → follow u ≡ t) → after o go ≡ Ran t → state_behind o s follow ≡ t
behind-ran (Ran u) s t go follow h e = h u e
behind-ran (Exited code output) s t go follow h e = cc
behind-ran (Trapped cause) s t go follow h e = cc

-- a run that ran all of its instructions ends in that state
pub last-run : (n : ℕ) (s t : State) → run n s ≡ Ran t → last n s ≡ t
unfolding run last
last-run zero s t e = cc
last-run (suc n) s t e = behind-ran (step s) s t (run n) (last n) (λ u h. last-run n u t h) e

after-ran : (o : Outcome) (t : State) (x : Outcome) (go next : State → Outcome) →
    ((u : State) → go u ≡ Ran t → next u ≡ x) → after o go ≡ Ran t → after o next ≡ x
after-ran (Ran u) t x go next h e = h u e
after-ran (Exited code output) t x go next h e = cc
after-ran (Trapped cause) t x go next h e = cc

after-none : (o : Outcome) → after o (run 0) ≡ o
unfolding run
after-none (Ran s) = refl
after-none (Exited code output) = refl
after-none (Trapped cause) = refl

-- one more instruction
pub run-suc : (n : ℕ) (s t : State) → run n s ≡ Ran t → run (suc n) s ≡ step t
unfolding run
run-suc zero s t e = let same : s ≡ t = cc in rw (← same) (after-none (step s))
run-suc (suc n) s t e = after-ran (step s) t (step t) (run n) (run (suc n)) (λ u h. run-suc n u t h) e

-- a run that comes to an end within its budget
pub run-end : (n b : ℕ) (s t : State) (o : Outcome) → IsEnd o → n < b → run n s ≡ Ran t → step t ≡ o → run b s ≡ o
unfolding run
run-end n zero s t o end h e f = absurd (omega arith)
run-end zero (suc b) s t o end h e f =
    let same : s ≡ t = cc in rw (same, f) (end.stays (run b))
run-end (suc n) (suc b) s t o end h e f =
    after-ran (step s) t o (run n) (run b) (λ u r. run-end n b u t o end (omega arith) r f) e

pub last-end : (n b : ℕ) (s t : State) (o : Outcome) → IsEnd o → n < b → run n s ≡ Ran t → step t ≡ o → last b s ≡ t
unfolding run last
last-end n zero s t o end h e f = absurd (omega arith)
last-end zero (suc b) s t o end h e f =
    let same : s ≡ t = cc in rw (same, f) (end.before t (last b))
last-end (suc n) (suc b) s t o end h e f =
    behind-ran (step s) s t (run n) (last b) (λ u r. last-end n b u t o end (omega arith) r f) e

-- ---- machines

pub runs-none : (m : MachineValue) (i : List ℕ) → Runs 0 m i m i
unfolding run sent_in last
runs-none m i = λ output. rw append-nil refl

pub sent_in-none : (m : MachineValue) (i : List ℕ) → sent_in 0 m i ≡ []
unfolding sent_in last
sent_in-none m i = refl

-- one more step sends what its instruction sends
pub sent_in-more : (n : ℕ) (m : MachineValue) (i : List ℕ) (k : MachineValue) (j : List ℕ) (l : MachineValue) (q : List ℕ) →
    Runs n m i k j → Steps k j l q → sent_in (n + 1) m i ≡ sent_in n m i ++ sent k
unfolding sent_in
sent_in-more n m i k j l q r s =
    let more : run (suc n) (state_of m i []) ≡ Ran (state_of l q (sent_in n m i ++ sent k)) =
    run-suc n (state_of m i []) _ (r []) ∙ s (sent_in n m i)
    in
    rw add-one (ap (λ t. t.output) (last-run (suc n) (state_of m i []) _ more))

-- one more step
pub runs-more : (n : ℕ) (m : MachineValue) (i : List ℕ) (k : MachineValue) (j : List ℕ) (l : MachineValue) (q : List ℕ) →
    Runs n m i k j → Steps k j l q → Runs (n + 1) m i l q
runs-more n m i k j l q r s =
    λ output. rw (sent_in-more n m i k j l q r s, add-one, ← append_assoc) (run-suc n (state_of m i output) _ (r output) ∙ s (output ++ sent_in n m i))

-- nothing is sent behind an exit
pub sent_in-exit : (n b : ℕ) (m : MachineValue) (i : List ℕ) (k : MachineValue) (j : List ℕ) (code : ℕ) →
    Runs n m i k j → StepExits k j code → n < b → sent_in b m i ≡ sent_in n m i
unfolding sent_in
sent_in-exit n b m i k j code r s h =
    ap (λ t. t.output) (last-end n b (state_of m i []) _ _ (exited-end code _) h (r []) (s _))

pub run-exits : (n b : ℕ) (m : MachineValue) (i : List ℕ) (k : MachineValue) (j : List ℕ) (code : ℕ) →
    Runs n m i k j → StepExits k j code → n < b → RunExits b m i code
run-exits n b m i k j code r s h =
    λ output. rw (sent_in-exit n b m i k j code r s h)
    (run-end n b (state_of m i output) _ _ (exited-end code _) h (r output) (s (output ++ sent_in n m i)))

-- nor behind a trap
pub sent_in-trap : (n b : ℕ) (m : MachineValue) (i : List ℕ) (k : MachineValue) (j : List ℕ) (cause : Cause) →
    Runs n m i k j → StepTraps k j cause → n < b → sent_in b m i ≡ sent_in n m i
unfolding sent_in
sent_in-trap n b m i k j cause r s h =
    ap (λ t. t.output) (last-end n b (state_of m i []) _ _ (trapped-end cause) h (r []) (s _))

pub run-traps : (n b : ℕ) (m : MachineValue) (i : List ℕ) (k : MachineValue) (j : List ℕ) (cause : Cause) →
    Runs n m i k j → StepTraps k j cause → n < b → RunTraps b m i cause
run-traps n b m i k j cause r s h =
    λ output. run-end n b (state_of m i output) _ _ (trapped-end cause) h (r output) (s (output ++ sent_in n m i))

run-then : (n p : ℕ) (s t : State) → run n s ≡ Ran t → run (n + p) s ≡ run p t
unfolding run
run-then zero p s t e = let same : s ≡ t = cc in let sum : zero + p ≡ p = omega arith in rw (sum, same) refl
run-then (suc n) p s t e =
    let sum : suc n + p ≡ suc (n + p) = omega arith in
    rw sum (after-ran (step s) t (run p t) (run n) (run (n + p)) (λ u h. run-then n p u t h) e)

-- a run behind another sends what it sends
pub sent_in-then : (n p : ℕ) (m : MachineValue) (i : List ℕ) (k : MachineValue) (j : List ℕ) (l : MachineValue) (q : List ℕ) →
    Runs n m i k j → Runs p k j l q → sent_in (n + p) m i ≡ sent_in n m i ++ sent_in p k j
unfolding sent_in
sent_in-then n p m i k j l q r s =
    let both = run-then n p (state_of m i []) _ (r []) ∙ s (sent_in n m i) in
    ap (λ t. t.output) (last-run (n + p) (state_of m i []) _ both)

-- a run behind another
pub runs-then : (n p : ℕ) (m : MachineValue) (i : List ℕ) (k : MachineValue) (j : List ℕ) (l : MachineValue) (q : List ℕ) →
    Runs n m i k j → Runs p k j l q → Runs (n + p) m i l q
runs-then n p m i k j l q r s =
    λ output. rw (sent_in-then n p m i k j l q r s, ← append_assoc) (run-then n p (state_of m i output) _ (r output) ∙ s (output ++ sent_in n m i))

-- ---- the writes

pub writes_behind-none : (m : MachineValue) (i : List ℕ) (before : ℕ) → writes_behind 0 m i before ≡ before
unfolding writes_behind
writes_behind-none m i before = refl

-- one more step makes one write where it sends
pub writes_behind-more : (n : ℕ) (m : MachineValue) (i : List ℕ) (k : MachineValue) (j : List ℕ) (l : MachineValue) (q : List ℕ) (before : ℕ) →
    Runs n m i k j → Steps k j l q → writes_behind (n + 1) m i before ≡ write_counted (sent k) (writes_behind n m i before)
unfolding writes_behind
writes_behind-more n m i k j l q before r s =
    let all : sent_in (suc n) m i ≡ sent_in n m i ++ sent k = rw add-one at (sent_in-more n m i k j l q r s) in
    rw (add-one, all, drop-append_seam) refl

-- where no more is sent, no more is written
pub writes_behind-end : (n b : ℕ) (m : MachineValue) (i : List ℕ) (before : ℕ) →
    ((c : ℕ) → n < c → sent_in c m i ≡ sent_in n m i) → n < b → writes_behind b m i before ≡ writes_behind n m i before
unfolding writes_behind
writes_behind-end n zero m i before stays h = absurd (omega arith)
writes_behind-end n (suc b) m i before stays h =
    ⊎_elim
    (λ lt. rw (stays (suc b) h, stays b lt, drop-length, writes_behind-end n b m i before stays lt) refl)
    (λ ge. let same : b ≡ n = omega arith in rw (same, stays (suc n) (omega arith), drop-length) refl)
    (cases_lt n b)

-- ---- the count

pub counted-none : (m : MachineValue) → IsCounted 0 m m
counted-none m = grind (arith, nat_tests)

-- one more instruction is counted
pub counted-more : (n : ℕ) (m k l : MachineValue) → IsCounted n m k → l.taken ≡ counted k.taken → IsCounted (n + 1) m l
counted-more n m k l e f = grind (arith, nat_tests)

-- the instructions of a run behind another are counted
pub counted-then : (n p : ℕ) (m k l : MachineValue) → IsCounted n m k → IsCounted p k l → IsCounted (n + p) m l
counted-then n p m k l e f = grind (arith, nat_tests)
