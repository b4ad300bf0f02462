-- The command `perform`: what it says, from what its files gave.
use Rattle.std.proofs.Common.{◌≡◌, ◌≢◌, inl, inr, ℕ, ℤ, List, [], ◌∷◌, Option, Some, None, refl, sym, ap, ◌∙◌, subst}
use Rattle.acg_base.specs.declared.sink.Sink.{Ghosts}
use Rattle.acg_base.specs.declared.status.Status.{Status}
use Rattle.acg_base.specs.declared.status.Status.TheVariants as status
use Rattle.action_terms.specs.Performances.{State, start}
use Rattle.action_sos.specs.Performers.{Performing}
use Rattle.acg_words.specs.Lines.{status_of}
use Rattle.acg_words.specs.declared.line.Line.{Line}
use Rattle.acg_words.specs.declared.line.Line.TheVariants.{ReadFault, Memory, Exited}
use Rattle.action_terms.specs.Numbering.{Listed}
use Rattle.acg_driver.specs.Texts.{Reads}
use Rattle.acg_driver.specs.Says.{Said}
use Rattle.acg_driver.specs.Inputs.{RefusesBytes}
use Rattle.acg_driver.specs.Commands.Perform.{IsInputOf, IsPerformed, RefusesPerform, StartsPerform, SaysPerform}
use Rattle.acg_driver.proofs.PerformanceLemmas.{performed-other}

-- no refusal of the bytes of an input is a read fault
pub bytes-other : (bytes : List ℕ) (line : Line) → RefusesBytes bytes line → status_of line ≢ status.ReadFault
bytes-other bytes (ReadFault name) refused = absurd refused
bytes-other bytes (Exited code) refused = absurd refused
bytes-other bytes _ refused = λ e. cc

-- where the input is taken, memory may still run out
pub memory-refuses : (action : List ℕ) (input : Option (List ℕ)) (bytes : List ℕ) (givens : List (List ℕ)) (integers : List ℤ) (g : Listed) → Reads bytes g → IsInputOf input givens integers
    → RefusesPerform action input (bytes ∷ givens) Memory
memory-refuses action None bytes [] integers g reads is = inl (refl, tt)
memory-refuses action None bytes (taken ∷ givens) integers g reads is = absurd is.1
memory-refuses action (Some i) bytes [] integers g reads is = absurd is.1
memory-refuses action (Some i) bytes (taken ∷ []) integers g reads is = inr ((g, reads), tt)
memory-refuses action (Some i) bytes (taken ∷ more ∷ givens) integers g reads is = absurd is.1

pub starts-at : (input : Option (List ℕ)) (givens : List (List ℕ)) (p : Performing) → StartsPerform input givens p → p.state ≡ start p.state.world.input
starts-at input [] p starts = absurd starts
starts-at input (bytes ∷ givens) p (integers, reads, is_input, is) = is ∙ ap (λ (s : State). start s.world.input) (sym is)

module _ {K : Type 0} {sink : Ghosts K} where
  -- the performance that was started is what the command says
  pub perform-said : (n : ℕ) (input : Option (List ℕ)) (givens : List (List ℕ)) (p : Performing) {old new : K} {result : Status} → StartsPerform input givens p → Said sink (IsPerformed n p.graph p.state.world.input) old new result
      → (said : Said sink (SaysPerform n input givens) old new result) × (said.status ≢ status.ReadFault)
  perform-said n input [] p starts said = absurd starts
  perform-said n input (bytes ∷ givens) p (integers, reads, is_input, is) said =
      let same : p.state.world.input ≡ integers = ap (λ (s : State). s.world.input) is in
      let performed = subst (λ i. IsPerformed n p.graph i said.text said.status) same said.said in (
        record { text = said.text; status = said.status; said = (p.graph, integers, reads, is_input, performed); answered = said.answered },
        performed-other n p.graph integers said.text said.status performed,
      )
