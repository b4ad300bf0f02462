-- What stands around a part of an acting tree, as a list of frames, and what becomes of it by a step of the part.
use Rattle.std.specs.Prelude.{ℕ, Bool, true, false, List, [], ◌∷◌}
use Rattle.action_terms.specs.Information.{Binds, Data}
use Rattle.action_terms.specs.Acting.{Tree, Called, Par, First, Second, Or, Cut, Trap, Over}
use Rattle.action_terms.specs.Steps.{Letter, InLeft, InRight, Step, commits}

-- what stands around a part; numbers, data and bindings are those of the tree
pub data Frame : Type 0 where
  InCalled : (c : ℕ) → Frame
  InParLeft : (k : ℕ) (y : Tree) → Frame
  InParRight : (k : ℕ) (x : Tree) → Frame
  InFirst : (k : ℕ) (d : Data) (b : Binds) → Frame
  InSecond : (k : ℕ) (d1 : Data) (b1 : Binds) → Frame
  InOr : (k2 : ℕ) (d : Data) (b : Binds) → Frame
  InCut : Frame
  InTrap : (k : ℕ) (b : Binds) → Frame
  InOver : (b : Binds) → Frame
  -- what stands for node n once its other arm or its handler runs: the tree has nothing there
  InTail : (n : ℕ) → Frame

abbrev pub wrap : Frame → Tree → Tree
wrap (InCalled c) x = Called c x
wrap (InParLeft k y) x = Par k x y
wrap (InParRight k x) y = Par k x y
wrap (InFirst k d b) x = First k x d b
wrap (InSecond k d1 b1) x = Second k d1 b1 x
wrap (InOr k2 d b) x = Or x k2 d b
wrap InCut x = Cut x
wrap (InTrap k b) x = Trap k x b
wrap (InOver b) x = Over x b
wrap (InTail n) x = x

-- a part within frames, the innermost first
abbrev pub plug : List Frame → Tree → Tree
plug [] t = t
plug (f ∷ fs) t = plug fs (wrap f t)

-- a commitment closes an alternative
abbrev pub open_or_cut : Bool → ℕ → Data → Binds → Frame
open_or_cut true k2 d b = InCut
open_or_cut false k2 d b = InOr k2 d b

abbrev pub shut_if : Bool → Frame → Frame
shut_if q (InOr k2 d b) = open_or_cut q k2 d b
shut_if q (InCalled c) = InCalled c
shut_if q (InParLeft k y) = InParLeft k y
shut_if q (InParRight k x) = InParRight k x
shut_if q (InFirst k d b) = InFirst k d b
shut_if q (InSecond k d1 b1) = InSecond k d1 b1
shut_if q InCut = InCut
shut_if q (InTrap k b) = InTrap k b
shut_if q (InOver b) = InOver b
shut_if q (InTail n) = InTail n

-- the frames after a step within them that commits, or doesn't
abbrev pub shut_all : Bool → List Frame → List Frame
shut_all q [] = []
shut_all q (f ∷ fs) = shut_if q f ∷ shut_all q fs

abbrev pub placed : Frame → List Letter → List Letter
placed (InParLeft k y) p = InLeft ∷ p
placed (InParRight k x) p = InRight ∷ p
placed _ p = p

abbrev pub placed_all : List Frame → List Letter → List Letter
placed_all [] p = p
placed_all (f ∷ fs) p = placed_all fs (placed f p)

-- a step of a part, as a step of the whole around it
abbrev pub framed : Frame → Step → Step
framed f n = record n { place = placed f n.place; tree = wrap (shut_if (commits n.effect) f) n.tree }

abbrev pub plugged : List Frame → Step → Step
plugged fs n = record n { place = placed_all fs n.place; tree = plug (shut_all (commits n.effect) fs) n.tree }
