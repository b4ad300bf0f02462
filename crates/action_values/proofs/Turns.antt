-- A walk over a yielder ends: arguments have greater numbers.
use Rattle.std.proofs.Common.{◌≡◌, ℕ, suc, ◌+◌, ◌-◌, ◌*◌, ◌^◌, ◌<◌, ◌≤◌, true, List, ◌∷◌, ◌++◌, lit<, arith, refl, ap, ◌∙◌}
use Rattle.std.specs.Prelude.{sum_by}
use Rattle.std.proofs.Math.Nat.{one-le-pow, pow-le-pow_right}
use Rattle.std.proofs.lemmas.Grind.{pow_more}
use Rattle.std.proofs.lemmas.List.Sums.{sum_by-cons}
use Rattle.action_terms.specs.Numbering.{ListedYielder}
use Rattle.action_terms.specs.Forms.{HasArguments}
use Rattle.action_terms.specs.declared.view.YielderView.{YielderView}
use Rattle.action_terms.specs.declared.view.YielderView.TheVariants as yielder
use Rattle.action_values.specs.Evaluation.{is_operation, opened, job_turns}
use Rattle.action_values.specs.declared.walk.Job.{Job}
use Rattle.action_values.specs.declared.walk.Job.TheVariants as job

power_from : (count n x : ℕ) → n < x → 4 ^ (count - x) ≤ 4 ^ (count - suc n)
power_from count n x less = pow-le-pow_right {n = 4} (lit< tt) (omega arith)

power_here : (count n : ℕ) → n < count → 4 ^ (count - n) ≡ 4 ^ (count - suc n) * 4
power_here count n h =
    let e : count - n ≡ (count - suc n) + 1 = omega arith in
    ap (λ k. 4 ^ k) e ∙ pow_more 4 (count - suc n)

pub power_one : (k : ℕ) → 1 ≤ 4 ^ k
power_one k = one-le-pow k 4 (lit< tt)

module _ (count n : ℕ) (within : n < count) where
  -- the turns of the jobs of one argument, and of two
  one_fewer : (x : ℕ) (j : Job) (js : List Job) → n < x → job_turns count j ≡ 1
      → sum_by (job_turns count) (job.Visit x ∷ j ∷ js) < 4 ^ (count - n) + sum_by (job_turns count) js
  one_fewer x j js less one =
      omega (arith, sum_by-cons (job_turns count) (job.Visit x) (j ∷ js), sum_by-cons (job_turns count) j js, power_from count n x less, power_here count n within, power_one (count - suc n))

  two_fewer : (x y : ℕ) (j : Job) (js : List Job) → n < x → n < y → job_turns count j ≡ 1
      → sum_by (job_turns count) (job.Visit x ∷ job.Visit y ∷ j ∷ js) < 4 ^ (count - n) + sum_by (job_turns count) js
  two_fewer x y j js less less2 one =
      omega (
        arith,
        sum_by-cons (job_turns count) (job.Visit x) (job.Visit y ∷ j ∷ js),
        sum_by-cons (job_turns count) (job.Visit y) (j ∷ js),
        sum_by-cons (job_turns count) j js,
        power_from count n x less,
        power_from count n y less2,
        power_here count n within,
        power_one (count - suc n),
      )

  -- the jobs of a yielder that is opened, and those that were there
  pub opened-turns : (ls : List ListedYielder) (v : YielderView) → HasArguments ls n v → is_operation v ≡ true → (js : List Job)
      → sum_by (job_turns count) (opened v ++ js) < 4 ^ (count - n) + sum_by (job_turns count) js
  opened-turns ls (yielder.StoredIn s x) h operation js = one_fewer x (job.Stored s) js h.0 refl
  opened-turns ls (yielder.OnOne f x) h operation js = one_fewer x (job.One f) js h.0 refl
  opened-turns ls (yielder.OnTwo f x y) h operation js = two_fewer x y (job.Two f) js h.0.0 h.1.0 refl
  opened-turns ls _ h operation js = cc
