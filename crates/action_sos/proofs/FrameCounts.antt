-- How many steps of their own frames have.
use Rattle.std.proofs.Common.{◌≡◌, ℕ, zero, suc, ◌+◌, ◌≤◌, Bool, true, false, List, [], ◌∷◌, ◌++◌, map, length, refl, length-append, arith}
use Rattle.std.proofs.lemmas.List.{length-map}
use Rattle.action_terms.specs.Acting.{Esc, Fail, Tree, Ended}
use Rattle.action_terms.specs.Steps.{TakesLeft, TakesRight, at_letter, after_broken}
use Rattle.action_terms.specs.Frames.{Frame, InParLeft, InParRight, InOr, shut_if, framed}
use Rattle.action_sos.specs.Parts.{own_steps, frames_steps}
use Rattle.action_sos.specs.Views.{closed_first}

broken-at_most : (t : Tree) → length (after_broken t) ≤ 1
broken-at_most (Ended (Esc d)) = omega arith
broken-at_most (Ended Fail) = omega arith
broken-at_most _ = omega arith

pub own-at_most : (f : Frame) → length (own_steps f) ≤ 1
own-at_most (InParLeft k y) = omega (arith, length-map (after_broken y) (at_letter TakesRight), broken-at_most y)
own-at_most (InParRight k x) = omega (arith, length-map (after_broken x) (at_letter TakesLeft), broken-at_most x)
own-at_most _ = omega arith

pub frames_steps-cons : (f : Frame) (fs : List Frame) → length (frames_steps (f ∷ fs)) ≡ length (frames_steps fs) + length (own_steps f)
frames_steps-cons f fs = omega (arith, length-append (map (framed f) (frames_steps fs)) (own_steps f), length-map (frames_steps fs) (framed f))

pub frames_steps-at_most : (fs : List Frame) → length (frames_steps fs) ≤ length fs
frames_steps-at_most [] = omega arith
frames_steps-at_most (f ∷ fs) = omega (arith, frames_steps-cons f fs, own-at_most f, frames_steps-at_most fs)

pub frames_steps-append : (fs gs : List Frame) → length (frames_steps (fs ++ gs)) ≡ length (frames_steps fs) + length (frames_steps gs)
frames_steps-append [] gs = omega arith
frames_steps-append (f ∷ fs) gs = omega (arith, frames_steps-cons f fs, frames_steps-cons f (fs ++ gs), frames_steps-append fs gs)

pub frames_steps-inmost : (fs : List Frame) (f : Frame) → length (frames_steps (fs ++ f ∷ [])) ≡ length (frames_steps fs) + length (own_steps f)
frames_steps-inmost fs f = omega (arith, frames_steps-append fs (f ∷ []), frames_steps-cons f [])

-- a closed alternative changes none
own-shut : (f : Frame) → length (own_steps (shut_if true f)) ≡ length (own_steps f)
own-shut (InOr k d b) = refl
own-shut _ = refl

pub frames_steps-closed_first : (n : ℕ) (fs : List Frame) → length (frames_steps (closed_first n fs)) ≡ length (frames_steps fs)
frames_steps-closed_first zero fs = refl
frames_steps-closed_first (suc n) [] = refl
frames_steps-closed_first (suc n) (f ∷ fs) =
    omega (arith, frames_steps-cons (shut_if true f) (closed_first n fs), frames_steps-cons f fs, own-shut f, frames_steps-closed_first n fs)

pub frames_steps-shut : (q : Bool) (fs : List Frame) → length (frames_steps (map (shut_if q) fs)) ≡ length (frames_steps fs)
frames_steps-shut q [] = refl
frames_steps-shut q (f ∷ fs) = omega (arith, frames_steps-cons (shut_if q f) (map (shut_if q) fs), frames_steps-cons f fs, own-either q f, frames_steps-shut q fs)
  where
    own-either : (q : Bool) (f : Frame) → length (own_steps (shut_if q f)) ≡ length (own_steps f)
    own-either true f = own-shut f
    own-either false (InOr k d b) = refl
    own-either false _ = refl
