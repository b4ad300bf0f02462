-- The command `run`: what it says, from what its files gave.
use Rattle.std.proofs.Common.{◌≡◌, ◌≢◌, inl, inr, ℕ, zero, suc, ◌≤◌, List, [], ◌∷◌, length, Option, Some, None, refl, sym, ap, ◌∙◌, subst, arith}
use Rattle.acg_base.specs.Outside.{front}
use Rattle.acg_base.specs.declared.limits.TheConstants.{LIMIT_IMAGE}
use Rattle.acg_base.specs.declared.sink.Sink.{Ghosts}
use Rattle.acg_base.specs.declared.status.Status.{Status}
use Rattle.acg_base.specs.declared.status.Status.TheVariants as status
use Rattle.rv_code.specs.Machine.{State, Outcome, Ran, Exited, Trapped, run}
use Rattle.rv_code.specs.Images.{Image, started}
use Rattle.elf_image.specs.Reading.{IsRefused}
use Rattle.elf_image.specs.declared.error.ImageError.{ImageError}
use Rattle.elf_image.specs.declared.error.ImageError.TheVariants as error
use Rattle.elf_image.proofs.SegmentLaws.{refused-not}
use Rattle.rv_machine.specs.Machines.{state_of, last}
use Rattle.acg_words.specs.Lines.{status_of}
use Rattle.acg_words.specs.declared.line.Line.{Line}
use Rattle.acg_words.specs.declared.line.Line.TheVariants.{ReadFault, Memory, LimitImage, ImageShort, ImageMagic, ImageClass, ImageMachine, ImageKind, ImageHeader, ImageSegment, Exited as ExitLine}
use Rattle.acg_driver.specs.ImageFiles.{GivesImage, FailsCheck, RefusesImage}
use Rattle.acg_driver.specs.Inputs.{IsBytesOf}
use Rattle.acg_driver.specs.Says.{Said}
use Rattle.acg_driver.specs.Commands.Run.{EndsAs, IsRunFrom, RefusesRun, SaysRun, StartsRun}
use Rattle.acg_driver.specs.declared.commands.run.Ready.{Ready}
use Rattle.acg_driver.proofs.Asking.{exit_status-other}
use Rattle.acg_driver.proofs.Fronts.{short-front, whole-front}

-- ---- the image

-- no refusal of an image is a read fault
pub image-other : (bytes : List ℕ) (line : Line) → RefusesImage bytes line → status_of line ≢ status.ReadFault
image-other bytes (ReadFault name) refused = absurd refused
image-other bytes (ExitLine code) refused = absurd refused
image-other bytes _ refused = λ e. cc

-- bytes that give an image fail no check
fails-none : (bytes : List ℕ) (x : Image) (e : ImageError) → GivesImage bytes x → (e ≡ error.Memory → ⊥) → FailsCheck bytes e → ⊥
fails-none bytes x e gives other fails = other (refused-not bytes x e gives.1 fails.1)

-- they are refused for want of memory alone
pub image-refused : (bytes : List ℕ) (x : Image) (line : Line) → GivesImage bytes x → RefusesImage bytes line → line ≡ Memory
image-refused bytes x Memory gives refused = refl
image-refused bytes x LimitImage gives long = absurd (omega (arith, gives.0, long))
image-refused bytes x ImageShort gives fails = absurd (fails-none bytes x error.Short gives (λ e. cc) fails)
image-refused bytes x ImageMagic gives fails = absurd (fails-none bytes x error.Magic gives (λ e. cc) fails)
image-refused bytes x ImageClass gives fails = absurd (fails-none bytes x error.Class gives (λ e. cc) fails)
image-refused bytes x ImageMachine gives fails = absurd (fails-none bytes x error.Machine gives (λ e. cc) fails)
image-refused bytes x ImageKind gives fails = absurd (fails-none bytes x error.Kind gives (λ e. cc) fails)
image-refused bytes x ImageHeader gives fails = absurd (fails-none bytes x error.Header gives (λ e. cc) fails)
image-refused bytes x (ImageSegment index) gives fails =
    absurd (fails-none bytes x (error.Segment index) gives (λ e. cc) fails)
image-refused bytes x _ gives refused = absurd refused

-- a content gives an image where what was read of it does
pub gives-content : (content given : List ℕ) (x : Image) → given ≡ front LIMIT_IMAGE content → GivesImage given x → GivesImage content x
gives-content content given x is gives =
    let short : length (front LIMIT_IMAGE content) ≤ LIMIT_IMAGE = subst (λ b. length b ≤ LIMIT_IMAGE) is gives.0 in
    subst (λ b. GivesImage b x) (is ∙ short-front LIMIT_IMAGE content short) gives

-- where a content gives an image, what was read of it is refused for want of memory alone
pub content-image : (content given : List ℕ) (x : Image) (line : Line) → given ≡ front LIMIT_IMAGE content → GivesImage content x → RefusesImage given line → line ≡ Memory
content-image content given x line is gives refused =
    let whole : given ≡ content = is ∙ whole-front LIMIT_IMAGE content gives.0 in
    image-refused content x line gives (subst (λ b. RefusesImage b line) whole refused)

-- ---- the run

-- where the input is taken, memory may still run out
pub memory-refuses-run : (image : List ℕ) (input : Option (List ℕ)) (bytes : List ℕ) (givens : List (List ℕ)) (left : List ℕ) (x : Image) → GivesImage bytes x → IsBytesOf input givens left
    → RefusesRun image input (bytes ∷ givens) Memory
memory-refuses-run image None bytes [] left x gives is = inl (refl, tt)
memory-refuses-run image None bytes (taken ∷ givens) left x gives is = absurd is
memory-refuses-run image (Some i) bytes [] left x gives is = absurd is
memory-refuses-run image (Some i) bytes (taken ∷ []) left x gives is = inr ((x, gives), tt)
memory-refuses-run image (Some i) bytes (taken ∷ more ∷ givens) left x gives is = absurd is

-- no run says that a file can't be read
ends-other : (o : Outcome) (before : State) (text : List ℕ) (s : Status) → EndsAs o before text s → s ≢ status.ReadFault
ends-other (Ran t) before text s says = λ f. let both = sym says.1 ∙ f in cc
ends-other (Exited code output) before text s says = λ f. exit_status-other code (sym says.1 ∙ f)
ends-other (Trapped cause) before text s says = λ f. let both = sym says.1 ∙ f in cc

module _ {K : Type 0} {sink : Ghosts K} where
  -- the run of what was loaded is what the command says
  pub run-said : (budget : ℕ) (input : Option (List ℕ)) (givens : List (List ℕ)) (ready : Ready) {old new : K} {result : Status} → StartsRun input givens ready
      → Said sink (IsRunFrom budget (state_of ready.machine ready.input.items [])) old new result
      → (said : Said sink (SaysRun budget input givens) old new result) × (said.status ≢ status.ReadFault)
  run-said budget input [] ready starts said = absurd starts
  run-said budget input (bytes ∷ givens) ready (x, gives, (is_bytes, is)) said =
      let left = ready.input.items in
      let runs = subst (λ m. IsRunFrom budget (state_of m left []) said.text said.status) is said.said in
      let start = started x left in (
        record {
          text = said.text;
          status = said.status;
          said = (gives.0, (left, is_bytes, (start, (x, gives.1, refl), runs)));
          answered = said.answered;
        },
        ends-other (run budget start) (last budget start) said.text said.status runs,
      )
