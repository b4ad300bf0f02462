-- The command `act`: what it says, from what its file gave.
use Rattle.std.proofs.Common.{◌≡◌, ◌≢◌, ◌⊎◌, inl, inr, ℕ, List, [], ◌∷◌, Option, Some, None, slice_get, refl, ap}
use Rattle.acg_base.specs.declared.capacity.Capacity.{Capacity}
use Rattle.acg_base.specs.declared.sink.Sink.{Ghosts}
use Rattle.acg_base.specs.declared.status.Status.{Status}
use Rattle.acg_base.specs.declared.status.Status.TheVariants as status
use Rattle.action_terms.specs.Numbering.{Listed}
use Rattle.action_terms.specs.Meaning.{action_of}
use Rattle.rv_code.specs.Machine.{run}
use Rattle.sort_rules.specs.Tables.{MarkedTable}
use Rattle.acg_words.specs.Lines.{status_of}
use Rattle.acg_words.specs.declared.line.Line.{Line}
use Rattle.acg_words.specs.declared.line.Line.TheVariants.{IllSorted, Memory, ReadFault, Unbuilt, Exited}
use Rattle.acg_driver.specs.Texts.{Reads, RefusesText}
use Rattle.acg_driver.specs.Says.{Said}
use Rattle.acg_driver.specs.Runs.{IsRun, IsLoaded}
use Rattle.acg_driver.specs.Inputs.{IsBytesOf}
use Rattle.acg_driver.specs.Compiling.{IsCompiled}
use Rattle.acg_driver.specs.Commands.Act.{IsCompileLine, IsUncompiled, IsCompilable, BuildsAct, RefusesAct, StartsAct, RunsAct}
use Rattle.acg_driver.specs.declared.compiling.Built.{Built}
use Rattle.acg_driver.specs.declared.running.Ready.{Ready}
use Rattle.acg_driver.proofs.ActRuns.{built-compiled}
use Rattle.acg_driver.proofs.TextErrors.{reads-refused}
use Rattle.acg_driver.proofs.Asking.{text-other}
use Rattle.acg_driver.proofs.RunLemmas.{run-other}

-- a list with nothing at its front is empty
pub nothing-first : (xs : List ℕ) → None ≡ slice_get xs 0 → xs ≡ []
nothing-first [] none = refl
nothing-first (x ∷ xs) none = absurd (cc)

-- the line with which a graph that was read isn't compiled
pub compile-refused : (bytes : List ℕ) (g : Listed) (line : Line) → Reads bytes g → IsCompileLine (action_of g) line → RefusesText bytes line ⊎ IsUncompiled bytes line
compile-refused bytes g (IllSorted node) reads is = inr (g, reads, is)
compile-refused bytes g (Unbuilt node) reads is = inr (g, reads, is)
compile-refused bytes g Memory reads is = inl tt
compile-refused bytes g _ reads is = absurd is

uncompiled-other : (bytes : List ℕ) (line : Line) → IsUncompiled bytes line → status_of line ≢ status.ReadFault
uncompiled-other bytes (ReadFault name) is = absurd is
uncompiled-other bytes (Exited code) is = absurd is
uncompiled-other bytes _ is = λ e. cc

-- no refusal behind the read is a read fault
pub load-other : (bytes : List ℕ) (line : Line) → RefusesText bytes line ⊎ IsUncompiled bytes line → status_of line ≢ status.ReadFault
load-other bytes line (inl refused) = text-other bytes line refused
load-other bytes line (inr uncompiled) = uncompiled-other bytes line uncompiled

-- an action that is compiled is refused for want of memory alone
pub compilable-refused : (bytes : List ℕ) (line : Line) → IsCompilable bytes → RefusesText bytes line ⊎ IsUncompiled bytes line → status_of line ≡ status.Memory
compilable-refused bytes line (g, built, sorted) (inl refused) = ap status_of (reads-refused bytes g line built.0 refused)
compilable-refused bytes line (g, built, sorted) (inr uncompiled) = absurd (built-compiled bytes g line built sorted uncompiled)

-- bytes from which an image was made are those of an action that is compiled
pub built-compilable : (bytes : List ℕ) (c : Capacity) (built : Built) → BuildsAct bytes c built → IsCompilable bytes
built-compilable bytes c built (g, reads, (t, compiled)) = (g, (reads, compiled.whole), (t, compiled.least.admissible))

-- the image that was made is loaded, beside the input
pub act-starts : (c : Capacity) (input : Option (List ℕ)) (bytes : List ℕ) (givens : List (List ℕ)) (built : Built) (ready : Ready) → BuildsAct bytes c built
    → ((g : Listed) (t : MarkedTable) (c : Capacity) → IsCompiled g t c built → IsLoaded g c ready.loaded) → IsBytesOf input givens ready.input.items → StartsAct c input (bytes ∷ givens) ready
act-starts c input bytes givens built ready (g, reads, (t, compiled)) loads is = (g, (reads, compiled.whole), (is, loads g t c compiled))

-- where the input is taken, memory may still run out
pub memory-refuses-act : (action : List ℕ) (input : Option (List ℕ)) (bytes : List ℕ) (givens : List (List ℕ)) (left : List ℕ) → IsCompilable bytes → IsBytesOf input givens left
    → RefusesAct action input (bytes ∷ givens) Memory
memory-refuses-act action None bytes [] left compiled is = inl (refl, inl tt)
memory-refuses-act action None bytes (taken ∷ givens) left compiled is = absurd is
memory-refuses-act action (Some i) bytes [] left compiled is = absurd is
memory-refuses-act action (Some i) bytes (taken ∷ []) left compiled is = inr (compiled, tt)
memory-refuses-act action (Some i) bytes (taken ∷ more ∷ givens) left compiled is = absurd is

pub act-loaded : (c : Capacity) (input : Option (List ℕ)) (givens : List (List ℕ)) (ready : Ready) → StartsAct c input givens ready → (g : Listed) × IsLoaded g c ready.loaded
act-loaded c input [] ready starts = absurd starts
act-loaded c input (bytes ∷ givens) ready (g, built, (is, loaded)) = (g, loaded)

is_run-other : (g : Listed) (c : Capacity) (budget : ℕ) (left text : List ℕ) (s : Status) → IsRun g c budget left text s → s ≢ status.ReadFault
is_run-other g c budget left text s (t, least, (file, image, made, (start, load, bytes, (rest, is, runs)))) = run-other (run budget start) rest s runs

module _ {K : Type 0} {sink : Ghosts K} where
  -- the run of what was loaded is what the command says
  pub act-said : (c : Capacity) (budget : ℕ) (input : Option (List ℕ)) (givens : List (List ℕ)) (ready : Ready) {old new : K} {result : Status} → StartsAct c input givens ready
      → ((g : Listed) → IsLoaded g c ready.loaded → Said sink (IsRun g c budget ready.input.items) old new result)
      → (said : Said sink (RunsAct c budget input givens) old new result) × (said.status ≢ status.ReadFault)
  act-said c budget input [] ready starts runs = absurd starts
  act-said c budget input (bytes ∷ givens) ready (g, built, (is, loaded)) runs =
      let said = runs g loaded in (
        record { text = said.text; status = said.status; said = (g, built, (ready.input.items, is, said.said)); answered = said.answered },
        is_run-other g c budget ready.input.items said.text said.status said.said,
      )
