-- The open steps of a tree within frames.
use Rattle.std.proofs.Common.{◌≡◌, ℕ, ◌+◌, ◌<◌, Bool, true, false, List, [], ◌∷◌, ◌++◌, All, map, length, refl, sym, ap, ◌∙◌, append-nil, append_assoc, map-id, arith}
use Rattle.std.proofs.Math.Path.{fun_ext}
use Rattle.std.proofs.lemmas.List.{map-append, length-map}
use Rattle.std.proofs.lemmas.List.Elements.{All-head, All-tail}
use Rattle.std.proofs.lemmas.Simd.{map-map}
use Rattle.action_terms.specs.Information.{Binds, Data, World}
use Rattle.action_terms.specs.Actions.{Action, Node, node_at}
use Rattle.action_terms.specs.Acting.{End, Done, Esc, Fail, Tree, Ended, Par}
use Rattle.action_terms.specs.Steps.{InLeft, InRight, TakesLeft, TakesRight, Silent, Step, commits, silent, on_side, at_letter, or_or_cut, in_or, after_any, after_broken, after_both, after_first, after_second, after_or, after_trap, after_over, open_steps}
use Rattle.action_terms.specs.Frames.{Frame, InCalled, InParLeft, InParRight, InFirst, InSecond, InOr, InCut, InTrap, InOver, InTail, wrap, shut_if, framed}
use Rattle.action_terms.proofs.Contexts.{shut_all-false}
use Rattle.action_sos.specs.Parts.{inside, IsKeptFrame, lifted, own_steps, frames_steps}
pub use Rattle.action_sos.specs.Branches.{IsGoingTree}
use Rattle.action_sos.proofs.PlacedSteps.{HasStep, HasStep-left, HasStep-right, HasStep-framed}
pub use Rattle.action_sos.specs.Parts.{IsBroken, IsBesideEnd}

-- ---- a part that goes on makes nothing of the whole

any-going : (t : Tree) → IsGoingTree t → after_any t ≡ []
any-going (Ended z) g = absurd g
any-going _ g = refl

broken-going : (t : Tree) → IsGoingTree t → after_broken t ≡ []
broken-going (Ended z) g = absurd g
broken-going _ g = refl

first-going : (n : Node) (k : ℕ) (d : Data) (b : Binds) (t : Tree) → IsGoingTree t → after_first n k d b t ≡ []
first-going n k d b (Ended z) g = absurd g
first-going n k d b _ g = refl

second-going : (n : Node) (d : Data) (b : Binds) (t : Tree) → IsGoingTree t → after_second n d b t ≡ []
second-going n d b (Ended z) g = absurd g
second-going n d b _ g = refl

or-going : (k : ℕ) (d : Data) (b : Binds) (t : Tree) → IsGoingTree t → after_or k d b t ≡ []
or-going k d b (Ended z) g = absurd g
or-going k d b _ g = refl

trap-going : (n : Node) (b : Binds) (t : Tree) → IsGoingTree t → after_trap n b t ≡ []
trap-going n b (Ended z) g = absurd g
trap-going n b _ g = refl

over-going : (b : Binds) (t : Tree) → IsGoingTree t → after_over b t ≡ []
over-going b (Ended z) g = absurd g
over-going b _ g = refl

left-going : (n : Node) (x y : Tree) → IsGoingTree x → after_both n x y ≡ []
left-going n (Ended z) y g = absurd g
left-going n _ y g = refl

right-going : (n : Node) (x y : Tree) → IsGoingTree y → after_both n x y ≡ []
right-going n x (Ended z) g = absurd g
right-going n (Ended (Done d b)) _ g = refl
right-going n _ _ g = refl

-- ---- one frame

-- a frame that adds silent steps of its own only once the part within it has ended
alone : (steps : List Step) (ends : List Tree) → ends ≡ [] → steps ++ map silent ends ≡ steps ++ []
alone steps ends e = rw e

arm-framed : (k : ℕ) (d : Data) (b : Binds) (q : Bool) (t : Tree) → or_or_cut q t k d b ≡ wrap (shut_if q (InOr k d b)) t
arm-framed k d b true t = refl
arm-framed k d b false t = refl

pub open-wrapped : (a : Action) (w : World) (f : Frame) (t : Tree) → IsKeptFrame f → IsGoingTree t → open_steps a w (wrap f t) ≡ map (framed f) (open_steps a w t) ++ own_steps f
open-wrapped a w (InCalled c) t kept g = alone _ _ (any-going t g)
open-wrapped a w (InParLeft k (Ended z)) t kept g =
    rw (left-going (node_at a k) t (Ended z) g, broken-going t g)
open-wrapped a w (InParLeft k _) t kept g = absurd kept
open-wrapped a w (InParRight k (Ended z)) t kept g =
    rw (right-going (node_at a k) (Ended z) t g, broken-going t g) (ap (λ l. map (on_side InRight (Par k (Ended z))) (open_steps a w t) ++ l) (append-nil _))
open-wrapped a w (InParRight k _) t kept g = absurd kept
open-wrapped a w (InFirst k d b) t kept g = alone _ _ (first-going (node_at a k) k d b t g)
open-wrapped a w (InSecond k d b) t kept g = alone _ _ (second-going (node_at a k) d b t g)
open-wrapped a w (InOr k d b) t kept g =
    let arms : in_or k d b ≡ framed (InOr k d b) = fun_ext (λ n. ap (λ x. record n { tree = x }) (arm-framed k d b (commits n.effect) n.tree)) in
    alone _ _ (or-going k d b t g) ∙ ap (λ h. map h (open_steps a w t) ++ []) arms
open-wrapped a w InCut t kept g = alone _ _ (any-going t g)
open-wrapped a w (InTrap k b) t kept g = alone _ _ (trap-going (node_at a k) b t g)
open-wrapped a w (InOver b) t kept g = alone _ _ (over-going b t g)
open-wrapped a w (InTail n) t kept g = absurd kept

-- ---- frames within frames

pub inside-behind : (fs gs : List Frame) (t : Tree) → inside (fs ++ gs) t ≡ inside fs (inside gs t)
inside-behind [] gs t = refl
inside-behind (f ∷ fs) gs t = ap (wrap f) (inside-behind fs gs t)

-- the tree of an ended part has something of the frame in it
abbrev pub IsTreeFrame : Frame → Type 0
IsTreeFrame (InTail n) = ⊥
IsTreeFrame _ = Unit {0}

pub IsTreeFrame-kept : (f : Frame) → IsKeptFrame f → IsTreeFrame f
IsTreeFrame-kept (InTail n) kept = kept
IsTreeFrame-kept _ kept = tt

pub wrap-going : (f : Frame) (t : Tree) → IsTreeFrame f → IsGoingTree (wrap f t)
wrap-going (InTail n) t h = absurd h
wrap-going _ t h = tt

pub inside-going : (fs : List Frame) (t : Tree) → All IsKeptFrame fs → IsGoingTree t → IsGoingTree (inside fs t)
inside-going [] t kept g = g
inside-going (f ∷ fs) t kept g = wrap-going f (inside fs t) (IsTreeFrame-kept f (All-head IsKeptFrame f fs kept))

-- whatever stands within it, where there is a frame
pub inside-going_frames : (fs : List Frame) (t : Tree) → 0 < length fs → All IsKeptFrame fs → IsGoingTree (inside fs t)
inside-going_frames [] t some kept = absurd (omega arith)
inside-going_frames (f ∷ fs) t some kept = wrap-going f (inside fs t) (IsTreeFrame-kept f (All-head IsKeptFrame f fs kept))

-- one more frame around steps
framed-lifted : (f : Frame) (fs : List Frame) (part own : List Step) → map (framed f) (map (lifted fs) part ++ frames_steps fs) ++ own ≡ map (lifted (f ∷ fs)) part ++ (map (framed f) (frames_steps fs) ++ own)
framed-lifted f fs part own =
    ap (λ l. l ++ own) (map-append (framed f) (map (lifted fs) part) (frames_steps fs) ∙ ap (λ l. l ++ map (framed f) (frames_steps fs)) (map-map (framed f) (lifted fs) part))
    ∙ append_assoc (map (lifted (f ∷ fs)) part) (map (framed f) (frames_steps fs)) own

pub open-inside : (a : Action) (w : World) (fs : List Frame) (t : Tree) → All IsKeptFrame fs → IsGoingTree t → open_steps a w (inside fs t) ≡ map (lifted fs) (open_steps a w t) ++ frames_steps fs
open-inside a w [] t kept g = sym (append-nil _ ∙ map-id _)
open-inside a w (f ∷ fs) t kept g =
    let kept' = All-tail IsKeptFrame f fs kept in
    open-wrapped a w f (inside fs t) (All-head IsKeptFrame f fs kept) (inside-going fs t kept' g)
    ∙ ap (λ l. map (framed f) l ++ own_steps f) (open-inside a w fs t kept' g)
    ∙ framed-lifted f fs (open_steps a w t) (own_steps f)

-- the innermost frame is that of a part that has ended
pub open-ended : (a : Action) (w : World) (fs : List Frame) (f : Frame) (z : End) → All IsKeptFrame fs → IsTreeFrame f → open_steps a w (inside (fs ++ f ∷ []) (Ended z)) ≡ map (lifted fs) (open_steps a w (wrap f (Ended z))) ++ frames_steps fs
open-ended a w fs f z kept h =
    ap (open_steps a w) (inside-behind fs (f ∷ []) (Ended z)) ∙ open-inside a w fs (wrap f (Ended z)) kept (wrap-going f (Ended z) h)

-- two parts that both go on
pub open-par : (a : Action) (w : World) (k : ℕ) (x y : Tree) → IsGoingTree x → IsGoingTree y
    → open_steps a w (Par k x y) ≡ map (on_side InLeft (λ x'. Par k x' y)) (open_steps a w x) ++ map (on_side InRight (Par k x)) (open_steps a w y)
open-par a w k x y gx gy =
    rw (left-going (node_at a k) x y gx, broken-going x gx, broken-going y gy)
    (ap (λ l. map (on_side InLeft (λ x'. Par k x' y)) (open_steps a w x) ++ l) (append-nil _))

-- ---- the steps of frames themselves

shut_if-false : (f : Frame) → shut_if false f ≡ f
shut_if-false f = let h = shut_all-false (f ∷ []) in cc

own-step : (f : Frame) (z : End) → IsBesideEnd z f → IsBroken z → HasStep (own_steps f) 0 (Ended z) Silent []
own-step (InParLeft k y) z e broken = rw e (own_left z broken)
  where
    own_left : (z : End) → IsBroken z → HasStep (map (at_letter TakesRight) (after_broken (Ended z))) 0 (Ended z) Silent []
    own_left (Done d b) broken = absurd broken
    own_left (Esc d) broken = record { step = at_letter TakesRight (Ended (Esc d)); at = refl; tree_is = refl; effect_is = refl; made_is = refl }
    own_left Fail broken = record { step = at_letter TakesRight (Ended Fail); at = refl; tree_is = refl; effect_is = refl; made_is = refl }
own-step (InParRight k x) z e broken = rw e (own_right z broken)
  where
    own_right : (z : End) → IsBroken z → HasStep (map (at_letter TakesLeft) (after_broken (Ended z))) 0 (Ended z) Silent []
    own_right (Done d b) broken = absurd broken
    own_right (Esc d) broken = record { step = at_letter TakesLeft (Ended (Esc d)); at = refl; tree_is = refl; effect_is = refl; made_is = refl }
    own_right Fail broken = record { step = at_letter TakesLeft (Ended Fail); at = refl; tree_is = refl; effect_is = refl; made_is = refl }
own-step _ z e broken = absurd e

-- the end of the part beside is taken, and goes on within the outer frames
pub frames-own : (outer inner : List Frame) (f : Frame) (z : End) → IsBesideEnd z f → IsBroken z
    → HasStep (frames_steps (outer ++ f ∷ inner)) (length (frames_steps inner)) (inside outer (Ended z)) Silent []
frames-own [] inner f z e broken =
    let place : length (map (framed f) (frames_steps inner)) + 0 ≡ length (frames_steps inner) = omega (arith, length-map (frames_steps inner) (framed f)) in
    rw place at (HasStep-right (own-step f z e broken) (map (framed f) (frames_steps inner)))
frames-own (g ∷ outer) inner f z e broken = rw (shut_if-false g) at (HasStep-left (HasStep-framed (frames-own outer inner f z e broken) g) (own_steps g))
