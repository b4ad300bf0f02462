-- Every state of a performance of a proper action is sound: the first one, and each that a step leads to.
use Rattle.std.proofs.Common.{ℕ, ◌<◌, ◌≤◌, ℤ, Bool, true, false, List, [], ◌∷◌, ◌++◌, map, length, refl, sym, subst, le_refl, length-append, arith, All}
use Rattle.std.proofs.lemmas.List.{length-set}
use Rattle.std.specs.Prelude.{Some, None, IfSome}
use Rattle.std.proofs.lemmas.List.Elements.{All-nil, All-append, All-set, All-push}
use Rattle.action_terms.specs.Information.{Binds, Data, World}
use Rattle.action_terms.specs.Actions.{Action, node_at}
use Rattle.action_terms.specs.Acting.{Tree, Run, Ended, Called, Par, First, Second, Or, Cut, Trap, Over}
use Rattle.action_terms.specs.Steps.{Letter, InLeft, InRight, Joins, TakesLeft, TakesRight, Effect, Allocates, Puts, world_after, commits, Step, silent, after_any, after_broken, after_both, after_first, after_second, after_or, after_trap, after_over, within, on_side, at_letter, or_or_cut, in_or, open_steps}
use Rattle.action_terms.specs.Performances.{State, start, IsOpen, after, IsPart}
use Rattle.action_terms.specs.Proper.{IsProper}
use Rattle.action_terms.specs.Sound.{Known, IsSoundDatum, AreSoundCells, IsKnownTree, IsSoundTree, any_node, known_in, IsSound}
use Rattle.action_terms.proofs.AllLaws.{All-member, All-mapped}
use Rattle.action_terms.proofs.NamedNodes.{named-within}
use Rattle.action_terms.proofs.SoundPrimitives.{IsSoundEffect, IsNewKnown, IsSoundStep, Knows, sound-silent, sound-run_steps}
use Rattle.action_terms.proofs.WiderKnown.{wider-tree, wider-cells}
use Rattle.action_terms.proofs.KnownBodies.{body-within, knows-in}
use Rattle.action_terms.proofs.SoundEnds.{sound-after_any, sound-after_broken, sound-after_both, sound-after_first, sound-after_second, sound-after_or, sound-after_trap, sound-after_over}

pub sound-start : (a : Action) (input : List ℤ) → IsProper a → IsSound a (start input)
sound-start a input proper =
    let known = known_in a (start input).world in
    record { tree = (proper.root, All-nil (IsSoundDatum known), tt); cells = All-nil (λ content. IfSome content (IsSoundDatum known)) }

-- the cells after a step that puts a sound datum, or none
sound-world_after : (known : Known) (e : Effect) (w : World) → IsSoundEffect known e → AreSoundCells known w.cells → AreSoundCells known (world_after e w).cells
sound-world_after known Allocates w here cells = All-push (λ content. IfSome content (IsSoundDatum known)) w.cells None cells tt
sound-world_after known (Puts c x) w here cells = All-set (λ content. IfSome content (IsSoundDatum known)) w.cells c (Some x) here cells
sound-world_after known _ w here cells = cells

-- no cell goes, and one that is allocated is there
cells-stay : (e : Effect) (w : World) → length w.cells ≤ length (world_after e w).cells
cells-stay Allocates w = omega (arith, length-append w.cells (None ∷ []))
cells-stay (Puts c x) w = omega (arith, length-set w.cells c (Some x))
cells-stay _ w = le_refl (length w.cells)

new-known : (a : Action) (e : Effect) (w : World) → IsNewKnown (known_in a (world_after e w)) w e
new-known a Allocates w = omega (arith, length-append w.cells (None ∷ []))
new-known a _ w = tt

module _ (known : Known) (a : Action) (w : World) where
  -- a step of a part, as a step of the whole: where it makes sound trees of sound ones
  sound-within : (f : Tree → Tree) → ((t : Tree) → IsKnownTree known a t → IsKnownTree known a (f t)) → (n : Step) → IsSoundStep known a w n → IsSoundStep known a w (within f n)
  sound-within f each n here = record { tree = λ new. each n.tree (here.tree new); effect = here.effect }

  sound-on_side : (x : Letter) (f : Tree → Tree) → ((t : Tree) → IsKnownTree known a t → IsKnownTree known a (f t)) → (n : Step) → IsSoundStep known a w n → IsSoundStep known a w (on_side x f n)
  sound-on_side x f each n here = record { tree = λ new. each n.tree (here.tree new); effect = here.effect }

  sound-or_or_cut : (q : Bool) (x : Tree) (k2 : ℕ) (d : Data) (b : Binds) → IsKnownTree known a (Or x k2 d b) → IsKnownTree known a (or_or_cut q x k2 d b)
  sound-or_or_cut true x k2 d b here = here.0
  sound-or_or_cut false x k2 d b here = here

  sound-in_or : (k2 : ℕ) (d : Data) (b : Binds) → ((t : Tree) → IsKnownTree known a t → IsKnownTree known a (Or t k2 d b)) → (n : Step) → IsSoundStep known a w n → IsSoundStep known a w (in_or k2 d b n)
  sound-in_or k2 d b each n here = record { tree = λ new. sound-or_or_cut (commits n.effect) n.tree k2 d b (each n.tree (here.tree new)); effect = here.effect }

  -- the steps of a part, and those to trees that follow its end
  sound-part : (h : Step → Step) (steps : List Step) (ts : List Tree) → ((n : Step) → IsSoundStep known a w n → IsSoundStep known a w (h n)) → All (IsSoundStep known a w) steps → All (IsKnownTree known a) ts → All (IsSoundStep known a w) (map h steps ++ map silent ts)
  sound-part h steps ts each inside behind =
      All-append (IsSoundStep known a w) (map h steps) (map silent ts) (All-mapped (IsSoundStep known a w) (IsSoundStep known a w) h steps each inside)
      (All-mapped (IsKnownTree known a) (IsSoundStep known a w) silent ts (sound-silent known a w) behind)

  sound-at_letter : (x : Letter) (ts : List Tree) → All (IsKnownTree known a) ts → All (IsSoundStep known a w) (map (at_letter x) ts)
  sound-at_letter x ts all = All-mapped (IsKnownTree known a) (IsSoundStep known a w) (at_letter x) ts (λ t here. record { tree = λ new. here; effect = tt }) all

  -- the steps of two parts that are interleaved, and those of the whole
  sound-both : (k : ℕ) (x y : Tree) → IsKnownTree known a (Par k x y) → All (IsSoundStep known a w) (open_steps a w x) → All (IsSoundStep known a w) (open_steps a w y) → All (IsSoundStep known a w) (open_steps a w (Par k x y))
  sound-both k x y here lefts rights =
      let in_left = sound-on_side InLeft (λ x'. Par k x' y) (λ t h. (here.0, h, here.2)) in
      let in_right = sound-on_side InRight (Par k x) (λ t h. (here.0, here.1, h)) in
      let joins = sound-at_letter Joins _ (sound-after_both known a (node_at a k) x y here.1 here.2) in
      let takes_left = sound-at_letter TakesLeft _ (sound-after_broken known a x here.1) in
      let takes_right = sound-at_letter TakesRight _ (sound-after_broken known a y here.2) in
      let Sound : Step → Type 0 = IsSoundStep known a w in
      All-append Sound (map (on_side InLeft (λ x'. Par k x' y)) (open_steps a w x)) _ (All-mapped Sound Sound _ (open_steps a w x) in_left lefts)
      (All-append Sound (map (on_side InRight (Par k x)) (open_steps a w y)) _ (All-mapped Sound Sound _ (open_steps a w y) in_right rights)
      (All-append Sound (map (at_letter Joins) (after_both (node_at a k) x y)) _ joins
      (All-append Sound (map (at_letter TakesLeft) (after_broken x)) _ takes_left takes_right)))

  module _ (proper : IsProper a) (knows : Knows known a) (cells : AreSoundCells known w.cells) where
    sound-open_steps : (t : Tree) → IsKnownTree known a t → All (IsSoundStep known a w) (open_steps a w t)
    sound-open_steps (Run k d b) here = sound-run_steps known a w knows d b here.1 here.2 cells (node_at a k) k refl (named-within a k proper) (knows.named k)
    sound-open_steps (Ended z) here = All-nil (IsSoundStep known a w)
    sound-open_steps (Called c x) here =
        sound-part (within (Called c)) (open_steps a w x) (after_any x) (sound-within (Called c) (λ t h. (here.0, h))) (sound-open_steps x here.1) (sound-after_any known a x here.1)
    sound-open_steps (Par k x y) here = sound-both k x y here (sound-open_steps x here.1) (sound-open_steps y here.2)
    sound-open_steps (First k x d b) here =
        sound-part (within (λ x'. First k x' d b)) (open_steps a w x) (after_first (node_at a k) k d b x) (sound-within (λ x'. First k x' d b) (λ t h. (here.0, h, here.2, here.3))) (sound-open_steps x here.1)
        (sound-after_first known a (node_at a k) k d b x (named-within a k proper) here.0 (here.2, here.3) here.1)
    sound-open_steps (Second k d1 b1 x) here =
        sound-part (within (Second k d1 b1)) (open_steps a w x) (after_second (node_at a k) d1 b1 x) (sound-within (Second k d1 b1) (λ t h. (here.0, here.1, here.2, h))) (sound-open_steps x here.3)
        (sound-after_second known a (node_at a k) d1 b1 x (here.1, here.2) here.3)
    sound-open_steps (Or x k2 d b) here =
        sound-part (in_or k2 d b) (open_steps a w x) (after_or k2 d b x) (sound-in_or k2 d b (λ t h. (h, here.1, here.2, here.3))) (sound-open_steps x here.0)
        (sound-after_or known a k2 d b x (here.1, here.2, here.3) here.0)
    sound-open_steps (Cut x) here =
        sound-part (within Cut) (open_steps a w x) (after_any x) (sound-within Cut (λ t h. h)) (sound-open_steps x here) (sound-after_any known a x here)
    sound-open_steps (Trap k x b) here =
        sound-part (within (λ x'. Trap k x' b)) (open_steps a w x) (after_trap (node_at a k) b x) (sound-within (λ x'. Trap k x' b) (λ t h. (here.0, h, here.2))) (sound-open_steps x here.1)
        (sound-after_trap known a (node_at a k) b x (named-within a k proper) here.2 here.1)
    sound-open_steps (Over x b) here =
        sound-part (within (λ x'. Over x' b)) (open_steps a w x) (after_over b x) (sound-within (λ x'. Over x' b) (λ t h. (h, here.1))) (sound-open_steps x here.0)
        (sound-after_over known a b x here.1 here.0)

-- a sound state has a sound tree
pub sound-tree : (a : Action) (s : State) → IsProper a → IsSound a s → IsSoundTree a s.tree
sound-tree a s proper sound = wider-tree (known_in a s.world) (any_node a) (λ c body. body-within a c proper body) (λ n here. tt) a s.tree sound.tree

pub sound-after : (a : Action) (s : State) (n : Step) → IsProper a → IsSound a s → IsOpen a s n → IsSound a (after n s)
sound-after a s n proper sound is_open =
    let now = known_in a s.world in
    let then = known_in a (world_after n.effect s.world) in
    let stay : (m : ℕ) → m < length s.world.cells → m < length (world_after n.effect s.world).cells = λ m less. omega (arith, less, cells-stay n.effect s.world) in
    let tree = wider-tree now then (λ c body. body) stay a s.tree sound.tree in
    let cells = wider-cells now then (λ c body. body) stay s.world.cells sound.cells in
    let knows : Knows then a = knows-in a (world_after n.effect s.world) proper in
    let step = All-member (IsSoundStep then a s.world) n (open_steps a s.world s.tree) is_open (sound-open_steps then a s.world proper knows cells s.tree tree) in
    record { tree = step.tree (new-known a n.effect s.world); cells = sound-world_after then n.effect s.world step.effect cells }

-- every state that a part of a performance leads to
pub sound-reached : (a : Action) (input : List ℤ) (steps : List Step) (s : State) → IsProper a → IsPart a input steps s → IsSound a s
sound-reached a input [] s proper part = subst (IsSound a) (sym part) (sound-start a input proper)
sound-reached a input (n ∷ earlier) s proper part =
    subst (IsSound a) (sym part.3) (sound-after a part.0 n proper (sound-reached a input earlier part.0 proper part.1) part.2)
