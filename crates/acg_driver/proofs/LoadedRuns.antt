-- The run of an image that is loaded for an action.
use Rattle.std.proofs.Common.{◌≡◌, ℕ, ◌<◌, All, List, [], ◌++◌, length, get_or, Fits, w8, refl, ap, sym, subst, arith}
use Rattle.std.proofs.lemmas.Grind.{get_or_default_zero}
use Rattle.acg_base.specs.declared.capacity.Capacity.{Capacity}
use Rattle.acg_base.specs.declared.status.Status.{Status}
use Rattle.action_terms.specs.Numbering.{Listed}
use Rattle.rv_code.specs.Machine.{run}
use Rattle.rv_code.specs.Images.{started}
use Rattle.rv_machine.specs.Machines.{MachineValue, state_of}
use Rattle.acg_words.specs.Lines.{header_line}
use Rattle.acg_driver.specs.Compiling.{subject_for}
use Rattle.acg_driver.specs.Runs.{IsRunOf, IsRun, IsLoaded}
use Rattle.acg_driver.specs.Sending.{SendsMessages}
use Rattle.acg_driver.specs.declared.running.Loaded.{Loaded}
use Rattle.acg_driver.proofs.RightRuns.{right-sends}

-- a byte of a list is below 256
pub small-byte : (xs : List ℕ) (k d : ℕ) → k < length xs → Fits w8 (get_or xs k 0) → get_or xs k d < 256
small-byte xs k d below fits =
    let same = get_or_default_zero xs k d below in
    omega (arith, same, fits)

-- its machine sends whole messages, exits with a code of 0 to 3 and doesn't trap
pub loaded-sends : (g : Listed) (c : Capacity) (loaded : Loaded) (input : List ℕ) → All (λ b. b < 256) input → IsLoaded g c loaded
    → (m : ℕ) → SendsMessages (run m (state_of loaded.machine input []))
loaded-sends g c loaded input bytes (t, least, (start, factor)) m =
    subst (λ machine. SendsMessages (run m (state_of machine input []))) (sym start.3)
    (right-sends start.1 (subject_for g t c) input bytes start.2.1.right m)

-- what is said of the run stands behind the header
pub loaded-run : (g : Listed) (c : Capacity) (budget : ℕ) (loaded : Loaded) (input : List ℕ) → All (λ b. b < 256) input → IsLoaded g c loaded → (rest : List ℕ) (s : Status)
    → IsRunOf (run budget (state_of loaded.machine input [])) rest s → IsRun g c budget input (header_line c.stack c.units loaded.factor ++ rest) s
loaded-run g c budget loaded input bytes (t, least, (start, factor)) rest s runs = (
  t,
  least,
  (
    start.0,
    start.1,
    start.2,
    (
      started start.1 input,
      (start.1, start.2.1.read, refl),
      bytes,
      (
        rest,
        ap (λ f. header_line c.stack c.units f ++ rest) factor,
        subst (λ machine. IsRunOf (run budget (state_of machine input [])) rest s) start.3 runs,
      ),
    ),
  ),
)
