-- The steps of two parts that run side by side within frames.
use Rattle.std.proofs.Common.{◌≡◌, ℕ, ◌+◌, List, ◌++◌, All, map, length, sym, ap, subst, ◌∙◌, length-append, arith}
use Rattle.std.proofs.lemmas.List.{length-map}
use Rattle.action_terms.specs.Information.{World}
use Rattle.action_terms.specs.Actions.{Action}
use Rattle.action_terms.specs.Acting.{Tree, Par}
use Rattle.action_terms.specs.Steps.{InLeft, InRight, Effect, Made, Step, commits, on_side, open_steps}
use Rattle.action_terms.specs.Frames.{Frame, shut_if}
use Rattle.action_sos.specs.Parts.{inside, IsKeptFrame, lifted, frames_steps}
use Rattle.action_sos.proofs.PlacedSteps.{HasStep, HasStep-left, HasStep-right, HasStep-side, HasStep-lifted}
use Rattle.action_sos.proofs.FramesOpen.{IsGoingTree, open-inside, open-par}

-- the steps of two parts that go on, within frames: the left part's, the right part's, and those of the frames
pub open-parts : (a : Action) (w : World) (fs : List Frame) (k : ℕ) (x y : Tree) → All IsKeptFrame fs → IsGoingTree x → IsGoingTree y
    → open_steps a w (inside fs (Par k x y)) ≡ map (lifted fs) (map (on_side InLeft (λ x'. Par k x' y)) (open_steps a w x) ++ map (on_side InRight (Par k x)) (open_steps a w y)) ++ frames_steps fs
open-parts a w fs k x y kept gx gy = open-inside a w fs (Par k x y) kept tt ∙ ap (λ l. map (lifted fs) l ++ frames_steps fs) (open-par a w k x y gx gy)

pub length-two_maps : (xs ys : List Step) (h i : Step → Step) → length (map h xs ++ map i ys) ≡ length xs + length ys
length-two_maps xs ys h i = omega (arith, length-append (map h xs) (map i ys), length-map xs h, length-map ys i)

length-parts : (fs : List Frame) (h i : Step → Step) (xs ys : List Step) → length (map (lifted fs) (map h xs ++ map i ys) ++ frames_steps fs) ≡ length xs + (length ys + length (frames_steps fs))
length-parts fs h i xs ys =
    omega (arith, length-append (map (lifted fs) (map h xs ++ map i ys)) (frames_steps fs), length-map (map h xs ++ map i ys) (lifted fs), length-two_maps xs ys h i)

pub length-open_parts : (a : Action) (w : World) (fs : List Frame) (k : ℕ) (x y : Tree) → All IsKeptFrame fs → IsGoingTree x → IsGoingTree y
    → length (open_steps a w (inside fs (Par k x y))) ≡ length (open_steps a w x) + (length (open_steps a w y) + length (frames_steps fs))
length-open_parts a w fs k x y kept gx gy = ap length (open-parts a w fs k x y kept gx gy) ∙ length-parts fs (on_side InLeft (λ x'. Par k x' y)) (on_side InRight (Par k x)) (open_steps a w x) (open_steps a w y)

-- ---- two parts within frames: the left part's steps come first, then the right part's, then those of the frames

pub step-left : (a : Action) (w : World) (fs : List Frame) (k : ℕ) (x y : Tree) → All IsKeptFrame fs → IsGoingTree x → IsGoingTree y
    → (i : ℕ) (t : Tree) (e : Effect) (made : List Made) → HasStep (open_steps a w x) i t e made
    → HasStep (open_steps a w (inside fs (Par k x y))) i (inside (map (shut_if (commits e)) fs) (Par k t y)) e made
step-left a w fs k x y kept gx gy i t e made has =
    let within = HasStep-lifted (HasStep-left (HasStep-side has InLeft (λ x'. Par k x' y)) (map (on_side InRight (Par k x)) (open_steps a w y))) fs in
    subst (λ l. HasStep l i (inside (map (shut_if (commits e)) fs) (Par k t y)) e made) (sym (open-parts a w fs k x y kept gx gy)) (HasStep-left within (frames_steps fs))

pub step-right : (a : Action) (w : World) (fs : List Frame) (k : ℕ) (x y : Tree) → All IsKeptFrame fs → IsGoingTree x → IsGoingTree y
    → (i : ℕ) (t : Tree) (e : Effect) (made : List Made) → HasStep (open_steps a w y) i t e made
    → HasStep (open_steps a w (inside fs (Par k x y))) (length (open_steps a w x) + i) (inside (map (shut_if (commits e)) fs) (Par k x t)) e made
step-right a w fs k x y kept gx gy i t e made has =
    let lefts = map (on_side InLeft (λ x'. Par k x' y)) (open_steps a w x) in
    let within = HasStep-left (HasStep-lifted (HasStep-right (HasStep-side has InRight (Par k x)) lefts) fs) (frames_steps fs) in
    let whole = subst (λ l. HasStep l (length lefts + i) (inside (map (shut_if (commits e)) fs) (Par k x t)) e made) (sym (open-parts a w fs k x y kept gx gy)) within in
    subst (λ n. HasStep (open_steps a w (inside fs (Par k x y))) (n + i) (inside (map (shut_if (commits e)) fs) (Par k x t)) e made) (length-map (open_steps a w x) (on_side InLeft (λ x'. Par k x' y))) whole
