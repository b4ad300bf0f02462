-- What is answered where an input is read, or isn't.
use Rattle.std.proofs.Common.{◌≡◌, ◌≢◌, ℕ, ◌≤◌, List, [], ◌∷◌, length, Option, Some, None, refl, sym, ap, ◌∙◌, subst, arith}
use Rattle.acg_base.specs.Outside.{Contents, front}
use Rattle.acg_base.specs.declared.limits.TheConstants.{LIMIT_INPUT}
use Rattle.acg_base.specs.declared.status.Status.TheVariants as status
use Rattle.acg_words.specs.Lines.{status_of}
use Rattle.acg_words.specs.declared.line.Line.{Line}
use Rattle.acg_words.specs.declared.line.Line.TheVariants.{LimitInput, Memory, ReadFault, Exited}
use Rattle.acg_driver.specs.Texts.{IsUnread}
use Rattle.acg_driver.specs.Files.{input_files, readings_of, AreGiven}
use Rattle.acg_driver.specs.Inputs.{RefusesBytes, RefusesInput}
use Rattle.acg_driver.specs.Serving.{IsOfPerformance, IsInput}
use Rattle.acg_driver.proofs.Fronts.{given-is, whole-front}

pub memory-performs : (line : Line) → line ≡ Memory → IsOfPerformance (status_of line)
memory-performs line is = subst (λ l. IsOfPerformance (status_of l)) (sym is) tt

pub unread-performs : (name : List ℕ) (line : Line) → IsUnread name line → status_of line ≢ status.ReadFault → IsOfPerformance (status_of line)
unread-performs name (ReadFault other) unread not = absurd (not refl)
unread-performs name Memory unread not = tt
unread-performs name _ unread not = absurd unread

bytes-perform : (bytes taken : List ℕ) (line : Line) → taken ≡ front LIMIT_INPUT bytes → length bytes ≤ LIMIT_INPUT → RefusesBytes taken line → IsOfPerformance (status_of line)
bytes-perform bytes taken LimitInput is within long =
    let whole = is ∙ whole-front LIMIT_INPUT bytes within in
    absurd (omega (arith, within, long, ap length whole))
bytes-perform bytes taken Memory is within refused = tt
bytes-perform bytes taken _ is within refused = absurd refused

pub input-performs : (contents : Contents) (input : Option (List ℕ)) (givens : List (List ℕ)) (bytes : List ℕ) (line : Line) → AreGiven contents (readings_of (input_files input) givens) → IsInput contents input bytes
    → length bytes ≤ LIMIT_INPUT → status_of line ≢ status.ReadFault → RefusesInput input givens line → IsOfPerformance (status_of line)
input-performs contents None givens bytes line given is within not refused = absurd refused
input-performs contents (Some input) [] bytes line given is within not unread = unread-performs input line unread not
input-performs contents (Some input) (taken ∷ []) bytes line given is within not refused =
    bytes-perform bytes taken line (given-is contents input bytes taken LIMIT_INPUT is given.0) within refused
input-performs contents (Some input) (taken ∷ more ∷ others) bytes line given is within not refused = absurd refused
