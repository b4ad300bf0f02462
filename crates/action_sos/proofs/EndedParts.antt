-- The steps of a whole whose part has ended.
use Rattle.std.proofs.Common.{◌≡◌, ℕ, zero, suc, ◌<◌, List, [], ◌∷◌, ◌++◌, length, map, refl, sym, ap, subst, ◌∙◌, arith, length-append}
use Rattle.std.specs.Prelude.{Some, slice_get, option_map}
use Rattle.std.proofs.lemmas.Option.{slice_get-map}
use Rattle.std.proofs.lemmas.List.{length-map}
use Rattle.action_terms.specs.Meaning.{action_of}
use Rattle.action_terms.specs.Information.{World}
use Rattle.action_terms.specs.Actions.{Node, Action, node_at}
use Rattle.action_terms.specs.Acting.{End, Tree, Ended}
use Rattle.action_terms.specs.Steps.{Letter, Joins, TakesLeft, TakesRight, Silent, Step, silent, at_letter, after_any, after_both, after_broken, open_steps}
use Rattle.action_terms.specs.Frames.{Frame as FrameMeant, InCalled, InParLeft, InParRight, InFirst, InSecond, InOr, InCut, InTrap, InOver, wrap}
use Rattle.action_sos.specs.declared.ends.End.{End as EndAt}
use Rattle.action_terms.specs.Numbering.{Listed}
use Rattle.action_sos.specs.declared.part.Frame.{Frame}
use Rattle.action_sos.specs.declared.part.Frame.TheVariants as frame
use Rattle.action_sos.specs.declared.part.Side.{Side}
use Rattle.action_sos.specs.declared.part.Side.TheVariants as side
use Rattle.action_sos.specs.Parts.{IsKeptFrame}
use Rattle.action_sos.specs.Views.{frame_of, end_of}
use Rattle.action_sos.specs.Moves.{IsStepAt, ended_steps}
use Rattle.action_sos.specs.Ends.{both_trees, ended_trees}

-- ---- the trees of these steps

pub silent_at : (ts : List Tree) (j : ℕ) (t : Tree) → slice_get ts j ≡ Some t → IsStepAt (map silent ts) j Silent t
silent_at ts j t e = (silent t, slice_get-map silent ts j ∙ ap (option_map silent) e, refl, refl)

letter_at : (l : Letter) (ts us : List Tree) (steps : List Step) → ((j : ℕ) (t : Tree) → slice_get us j ≡ Some t → IsStepAt steps j Silent t) → (j : ℕ) (t : Tree) → slice_get (ts ++ us) j ≡ Some t → IsStepAt (map (at_letter l) ts ++ steps) j Silent t
letter_at l [] us steps h j t e = h j t e
letter_at l (x ∷ ts) us steps h zero t e = (at_letter l x, refl, refl, cc)
letter_at l (x ∷ ts) us steps h (suc j) t e = letter_at l ts us steps h j t e

last_letter_at : (l : Letter) (ts : List Tree) (j : ℕ) (t : Tree) → slice_get ts j ≡ Some t → IsStepAt (map (at_letter l) ts) j Silent t
last_letter_at l ts j t e = (at_letter l t, slice_get-map (at_letter l) ts j ∙ ap (option_map (at_letter l)) e, refl, refl)

-- the steps of `and` or `moreover` itself
abbrev both_steps : Node → Tree → Tree → List Step
both_steps n x y = map (at_letter Joins) (after_both n x y) ++ (map (at_letter TakesLeft) (after_broken x) ++ map (at_letter TakesRight) (after_broken y))

both_at : (n : Node) (x y : Tree) (j : ℕ) (t : Tree) → slice_get (both_trees n x y) j ≡ Some t → IsStepAt (both_steps n x y) j Silent t
both_at n x y =
    letter_at Joins (after_both n x y) (after_broken x ++ after_broken y) _ (letter_at TakesLeft (after_broken x) (after_broken y) _ (last_letter_at TakesRight (after_broken y)))

length-both : (n : Node) (x y : Tree) → length (both_steps n x y) ≡ length (both_trees n x y)
length-both n x y = simp (length-append, length-map)

-- the step with this tree stands at this place
pub ended_at : (a : Action) (w : World) (f : FrameMeant) (z : End) → IsKeptFrame f → (j : ℕ) (t : Tree) → slice_get (ended_trees a f (Ended z)) j ≡ Some t → IsStepAt (open_steps a w (wrap f (Ended z))) j Silent t
ended_at a w (InCalled c) z kept j t e = silent_at (after_any (Ended z)) j t e
ended_at a w (InParLeft k (Ended y)) z kept j t e = both_at (node_at a k) (Ended z) (Ended y) j t e
ended_at a w (InParRight k (Ended x)) z kept j t e = both_at (node_at a k) (Ended x) (Ended z) j t e
ended_at a w (InFirst k d b) z kept j t e = silent_at _ j t e
ended_at a w (InSecond k d1 b1) z kept j t e = silent_at _ j t e
ended_at a w (InOr k2 d b) z kept j t e = silent_at _ j t e
ended_at a w InCut z kept j t e = silent_at (after_any (Ended z)) j t e
ended_at a w (InTrap k b) z kept j t e = silent_at _ j t e
ended_at a w (InOver b) z kept j t e = silent_at _ j t e
ended_at a w _ z kept j t e = absurd kept

pub length-ended : (a : Action) (w : World) (f : FrameMeant) (z : End) → IsKeptFrame f → length (open_steps a w (wrap f (Ended z))) ≡ length (ended_trees a f (Ended z))
length-ended a w (InCalled c) z kept = length-map (after_any (Ended z)) silent
length-ended a w (InParLeft k (Ended y)) z kept = length-both (node_at a k) (Ended z) (Ended y)
length-ended a w (InParRight k (Ended x)) z kept = length-both (node_at a k) (Ended x) (Ended z)
length-ended a w (InFirst k d b) z kept = length-map _ silent
length-ended a w (InSecond k d1 b1) z kept = length-map _ silent
length-ended a w (InOr k2 d b) z kept = length-map _ silent
length-ended a w InCut z kept = length-map (after_any (Ended z)) silent
length-ended a w (InTrap k b) z kept = length-map _ silent
length-ended a w (InOver b) z kept = length-map _ silent
length-ended a w _ z kept = absurd kept

-- a frame in memory has no part beside it that goes on
kept-frame_of : (f : Frame) → IsKeptFrame (frame_of f)
kept-frame_of (frame.Called c) = tt
kept-frame_of (frame.First k d b) = tt
kept-frame_of (frame.Second k d b) = tt
kept-frame_of (frame.Or k d b) = tt
kept-frame_of frame.Cut = tt
kept-frame_of (frame.Trap k b) = tt
kept-frame_of (frame.Over b) = tt
kept-frame_of (frame.Beside k side.Left z) = tt
kept-frame_of (frame.Beside k side.Right z) = tt

-- a frame beside a part that has ended
pub left_ended : (f : Frame) (k : ℕ) (s : Side) (z : EndAt) → f ≡ frame.Beside k s z → s ≡ side.Left → frame_of f ≡ InParRight k (Ended (end_of z))
left_ended f k s z e h = ap frame_of e ∙ ap (λ (x : Side). frame_of (frame.Beside k x z)) h

pub right_ended : (f : Frame) (k : ℕ) (s : Side) (z : EndAt) → f ≡ frame.Beside k s z → s ≡ side.Right → frame_of f ≡ InParLeft k (Ended (end_of z))
right_ended f k s z e h = ap frame_of e ∙ ap (λ (x : Side). frame_of (frame.Beside k x z)) h

first_place : (j : ℕ) → j < 1 → j ≡ 0
first_place j less = omega arith

module _ (g : Listed) (f : Frame) (z : EndAt) (j : ℕ) where
  -- one of several trees
  pub one_of_trees : (f' : FrameMeant) → frame_of f ≡ f' → (t : Tree) → slice_get (ended_trees (action_of g) f' (Ended (end_of z))) j ≡ Some t → (w : World) → IsStepAt (ended_steps g f z w) j Silent t
  one_of_trees f' e t at w =
      let there = subst (λ (h : FrameMeant). slice_get (ended_trees (action_of g) h (Ended (end_of z))) j ≡ Some t) (sym e) at in
      ended_at (action_of g) w (frame_of f) (end_of z) (kept-frame_of f) j t there

  -- the place is among the trees
  pub among_trees : (f' : FrameMeant) → frame_of f ≡ f' → ((w : World) → j < length (ended_steps g f z w)) → j < length (ended_trees (action_of g) f' (Ended (end_of z)))
  among_trees f' e among =
      let w : World = record { cells = []; output = []; input = [] } in
      let same = length-ended (action_of g) w (frame_of f) (end_of z) (kept-frame_of f) ∙ ap (λ h. length (ended_trees (action_of g) h (Ended (end_of z)))) e in
      subst (λ n. j < n) same (among w)

  -- the only tree
  pub only_tree : (f' : FrameMeant) → frame_of f ≡ f' → ((w : World) → j < length (ended_steps g f z w)) → (t : Tree) → ended_trees (action_of g) f' (Ended (end_of z)) ≡ t ∷ [] → (w : World) → IsStepAt (ended_steps g f z w) j Silent t
  only_tree f' e among t only =
      let less : j < length (t ∷ []) = subst (λ (ts : List Tree). j < length ts) only (among_trees f' e among) in
      one_of_trees f' e t (ap (λ ts. slice_get ts j) only ∙ ap (slice_get (t ∷ [])) (first_place j less))
