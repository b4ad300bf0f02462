-- How a performer keeps an acting tree: as parts that run side by side, each within frames.
use Rattle.std.specs.Prelude.{◌≡◌, ℕ, Bool, List, [], ◌∷◌, ◌++◌, All, map}
use Rattle.action_terms.specs.Information.{World}
use Rattle.action_terms.specs.Actions.{Action}
use Rattle.action_terms.specs.Acting.{End, Done, Tree, Ended}
use Rattle.action_terms.specs.Steps.{TakesLeft, TakesRight, Step, at_letter, after_broken, open_steps}
use Rattle.action_terms.specs.Frames.{Frame, InParLeft, InParRight, InTail, wrap, shut_if, framed}

-- what stands within the frames of a part: a tree that runs or has ended, or the two parts of node k, which are parts of their own
pub data Focus : Type 0 where
  Leaf : (t : Tree) → Focus
  Parts : (k : ℕ) → Focus

-- a part, its frames outermost first
pub record Part : Type 0 where
  pub frames : List Frame
  pub focus : Focus

-- a tree within frames, the outermost first
abbrev pub inside : List Frame → Tree → Tree
inside [] t = t
inside (f ∷ fs) t = wrap f (inside fs t)

-- the part beside has ended, where the frame has one
abbrev pub IsBeside : Tree → Type 0
IsBeside (Ended z) = Unit {0}
IsBeside _ = ⊥

-- a frame of an acting tree, where the part beside has ended
abbrev pub IsKeptFrame : Frame → Type 0
IsKeptFrame (InParLeft k y) = IsBeside y
IsKeptFrame (InParRight k x) = IsBeside x
IsKeptFrame (InTail n) = ⊥
IsKeptFrame _ = Unit {0}

abbrev pub AreKept : Part → Type 0
AreKept p = All IsKeptFrame p.frames

-- ---- steps

-- a step within frames, as a step of the whole
abbrev pub lifted : List Frame → Step → Step
lifted [] n = n
lifted (f ∷ fs) n = framed f (lifted fs n)

-- the step of a frame itself while its part goes on: the end of the part beside is taken, where that has escaped or failed
abbrev pub own_steps : Frame → List Step
own_steps (InParLeft k y) = map (at_letter TakesRight) (after_broken y)
own_steps (InParRight k x) = map (at_letter TakesLeft) (after_broken x)
own_steps _ = []

abbrev pub frames_steps : List Frame → List Step
frames_steps [] = []
frames_steps (f ∷ fs) = map (framed f) (frames_steps fs) ++ own_steps f

-- the steps of a part that aren't those of its two parts
abbrev pub focus_steps : Action → World → List Frame → Focus → List Step
focus_steps a w fs (Leaf t) = open_steps a w (inside fs t)
focus_steps a w fs (Parts k) = frames_steps fs

abbrev pub part_steps : Action → World → Part → List Step
part_steps a w p = focus_steps a w p.frames p.focus

-- a part whose alternatives are closed, or aren't
abbrev pub closes : Bool → Part → Part
closes q p = record p { frames = map (shut_if q) p.frames }

-- ---- a part that has ended beside another

-- the end of the part beside becomes that of the whole
abbrev pub IsBroken : End → Type 0
IsBroken (Done d b) = ⊥
IsBroken _ = Unit {0}

-- the frame is that of a part whose other part has ended so
abbrev pub IsBesideEnd : End → Frame → Type 0
IsBesideEnd z (InParLeft k y) = y ≡ Ended z
IsBesideEnd z (InParRight k x) = x ≡ Ended z
IsBesideEnd z _ = ⊥
