-- An open step of a part of an acting tree is one of the whole.
use Rattle.std.proofs.Common.{◌≡◌, ℕ, Bool, true, false, List, [], ◌∷◌, ◌++◌, map, refl, ap₂, subst}
use Rattle.action_terms.specs.Information.{Binds, Data, World}
use Rattle.action_terms.specs.Actions.{Action}
use Rattle.action_terms.specs.Acting.{Tree, Called, Par, First, Second, Or, Cut, Trap, Over}
use Rattle.action_terms.specs.Steps.{InLeft, InRight, Step, commits, within, on_side, or_or_cut, in_or, open_steps}
use Rattle.action_terms.specs.Frames.{Frame, InCalled, InParLeft, InParRight, InFirst, InSecond, InOr, InCut, InTrap, InOver, InTail, wrap, plug, open_or_cut, shut_if, shut_all, framed, plugged}
use Rattle.action_terms.specs.Performances.{OneOf, Here, Later}

pub of_map : {X Y : Type 0} (h : X → Y) (x : X) (xs : List X) → OneOf x xs → OneOf (h x) (map h xs)
of_map h x _ Here = Here
of_map h x _ (Later p) = Later (of_map h x _ p)

pub of_left : {X : Type 0} (x : X) (xs ys : List X) → OneOf x xs → OneOf x (xs ++ ys)
of_left x _ ys Here = Here
of_left x _ ys (Later p) = Later (of_left x _ ys p)

pub of_right : {X : Type 0} (x : X) (xs ys : List X) → OneOf x ys → OneOf x (xs ++ ys)
of_right x [] ys p = p
of_right x (z ∷ xs) ys p = Later (of_right x xs ys p)

of_part : (h : Step → Step) (xs ys : List Step) (n : Step) → OneOf n xs → OneOf (h n) (map h xs ++ ys)
of_part h xs ys n p = of_left (h n) (map h xs) ys (of_map h n xs p)

-- ---- an open step of a part is one of the whole

or_or_cut-wrap : (q : Bool) (k2 : ℕ) (d : Data) (b : Binds) (t : Tree) → or_or_cut q t k2 d b ≡ wrap (open_or_cut q k2 d b) t
or_or_cut-wrap true k2 d b t = refl
or_or_cut-wrap false k2 d b t = refl

pub open-wrap : (a : Action) (w : World) (f : Frame) (t : Tree) (n : Step) → OneOf n (open_steps a w t) → OneOf (framed f n) (open_steps a w (wrap f t))
open-wrap a w (InCalled c) t n h = of_part (within (Called c)) _ _ n h
open-wrap a w (InParLeft k y) t n h = of_part (on_side InLeft (λ x. Par k x y)) _ _ n h
open-wrap a w (InParRight k x) t n h =
    of_right _ (map (on_side InLeft (λ x'. Par k x' t)) (open_steps a w x)) _ (of_part (on_side InRight (Par k x)) _ _ n h)
open-wrap a w (InFirst k d b) t n h = of_part (within (λ x. First k x d b)) _ _ n h
open-wrap a w (InSecond k d1 b1) t n h = of_part (within (Second k d1 b1)) _ _ n h
open-wrap a w (InOr k2 d b) t n h =
    subst (λ x. OneOf (record n { tree = x }) (open_steps a w (Or t k2 d b))) (or_or_cut-wrap (commits n.effect) k2 d b n.tree)
    (of_part (in_or k2 d b) _ _ n h)
open-wrap a w InCut t n h = of_part (within Cut) _ _ n h
open-wrap a w (InTrap k b) t n h = of_part (within (λ x. Trap k x b)) _ _ n h
open-wrap a w (InOver b) t n h = of_part (within (λ x. Over x b)) _ _ n h
open-wrap a w (InTail m) t n h = h

pub open-plug : (a : Action) (w : World) (fs : List Frame) (t : Tree) (n : Step) → OneOf n (open_steps a w t) → OneOf (plugged fs n) (open_steps a w (plug fs t))
open-plug a w [] t n h = h
open-plug a w (f ∷ fs) t n h = open-plug a w fs (wrap f t) (framed f n) (open-wrap a w f t n h)

-- ---- frames that a step leaves as they are

shut_if-false : (f : Frame) → shut_if false f ≡ f
shut_if-false (InOr k2 d b) = refl
shut_if-false _ = refl

pub shut_all-false : (fs : List Frame) → shut_all false fs ≡ fs
shut_all-false [] = refl
shut_all-false (f ∷ fs) = ap₂ ◌∷◌ (shut_if-false f) (shut_all-false fs)
