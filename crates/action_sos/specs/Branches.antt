-- The parts of an acting tree that run side by side, as a tree of their own: what it stands for, and the way to a step in it.
use Rattle.std.specs.Prelude.{◌≡◌, ℕ, suc, ◌+◌, ◌-◌, ◌≤◌, Bool, ◌∷◌, ◌++◌, map, length, Option, Some, None, nat_lt, if◌then◌else◌, Box}
use Rattle.std.specs.Global.{Global}
use Rattle.action_terms.specs.Information.{World}
use Rattle.action_terms.specs.Actions.{Action}
use Rattle.action_terms.specs.Acting.{End, Tree, Ended, Fail, Par}
use Rattle.action_terms.specs.Steps.{open_steps}
use Rattle.action_terms.specs.Frames.{Frame, InParLeft, InParRight, shut_if}
use Rattle.action_sos.specs.Parts.{Focus, Leaf, Parts, Part as PartMeant, inside, closes}
use Rattle.action_sos.specs.Views.{part_of}
use Rattle.action_sos.specs.Kept.{IsCounted}
use Rattle.action_sos.specs.declared.part.Part.{Part}
use Rattle.action_sos.specs.declared.part.Side.{Side}
use Rattle.action_sos.specs.declared.part.Side.TheVariants as side
use Rattle.action_sos.specs.declared.branch.Branch.{Branch, Branch', Held-Branch-left, None', Some', out-Branch}
use Rattle.action_sos.specs.declared.branch.Branch.TheViews.{roll-Branch}

-- ---- one branch

-- what stands in place of the part on a side
abbrev pub child_of : Side → Branch → Option (Box Branch Global)
child_of side.Left b = (out-Branch b).left
child_of side.Right b = (out-Branch b).right

-- a branch with what stands in place of the part on a side
abbrev pub turned : Side → Option (Box Branch Global) → Branch → Branch
turned side.Left h b = let r = out-Branch b in roll-Branch (record { part = r.part; count = r.count; went = side.Left; left = h; right = r.right })
turned side.Right h b = let r = out-Branch b in roll-Branch (record { part = r.part; count = r.count; went = side.Right; left = r.left; right = h })

-- the other side
abbrev pub opposite : Side → Side
opposite side.Left = side.Right
opposite side.Right = side.Left

-- the part on the other side
abbrev pub other_at : Side → Branch → Option (Box Branch Global)
other_at side.Left b = (out-Branch b).right
other_at side.Right b = (out-Branch b).left

-- the part on the other side than the one in which a step is made
abbrev pub other_of : Branch → Option (Box Branch Global)
other_of b = other_at (out-Branch b).went b

-- how many steps stand open in a branch, as it keeps it
abbrev pub count_in : Branch → ℕ
count_in b = (out-Branch b).count

-- the same; none where there is no branch
abbrev pub counted : Option (Box Branch Global) → ℕ
counted None = 0
counted (Some x) = count_in x.value

-- ---- how large a branch is

-- how many branches there are
abbrev mutual
  pub size : Branch → ℕ
  size (Branch' part count went left right) = suc (size_held left + size_held right)

  pub size_held : Held-Branch-left → ℕ
  size_held None' = 0
  size_held (Some' p b) = size b

-- how long the row of right parts is
abbrev mutual
  pub spine : Branch → ℕ
  spine (Branch' part count went left right) = suc (spine_held right)

  pub spine_held : Held-Branch-left → ℕ
  spine_held None' = 0
  spine_held (Some' p b) = spine b

-- ---- the way to a step

-- the side on which the step with an index is, of so many on the left one and so many on the right one
abbrev pub way_at : ℕ → ℕ → ℕ → Option Side
way_at l r c = if nat_lt c l then Some side.Left else if nat_lt (c - l) r then Some side.Right else None

-- the same for two parts; none where there is no part
abbrev pub way_of : Option (Box Branch Global) → Option (Box Branch Global) → ℕ → Option Side
way_of (Some x) (Some y) c = way_at (count_in x.value) (count_in y.value) c
way_of _ _ c = None

-- the side on which the step of a branch with an index is: none where it is one of its part itself
abbrev pub way : Branch → ℕ → Option Side
way b c = way_of (out-Branch b).left (out-Branch b).right c

-- the index of that step in the part on the side
abbrev pub rest_of : Side → Branch → ℕ → ℕ
rest_of side.Left b c = c
rest_of side.Right b c = c - counted (out-Branch b).left

-- one of three, by the way
abbrev pub by_way : {X : Type 0} → Option Side → X → X → X → X
by_way (Some side.Left) x y z = x
by_way (Some side.Right) x y z = y
by_way None x y z = z

-- the branch in which the step with the index is made
abbrev pub target : Branch → ℕ → Branch
target (Branch' part count went (Some' p l) (Some' q r)) c =
    by_way (way_at (count_in l) (count_in r) c) (target l c) (target r (c - count_in l)) (Branch' part count went (Some' p l) (Some' q r))
target b c = b

-- the index of the step there
abbrev pub target_index : Branch → ℕ → ℕ
target_index (Branch' part count went (Some' p l) (Some' q r)) c =
    by_way (way_at (count_in l) (count_in r) c) (target_index l c) (target_index r (c - count_in l)) c
target_index b c = c

-- ---- the acting tree

-- what stands within frames, with the trees of the two parts where there are two
abbrev pub whole : Focus → Tree → Tree → Tree
whole (Leaf t) x y = t
whole (Parts k) x y = Par k x y

-- the acting tree of a branch
abbrev mutual
  pub grown : Branch → Tree
  grown (Branch' part count went left right) = inside (part_of part).frames (whole (part_of part).focus (grown_held left) (grown_held right))

  pub grown_held : Held-Branch-left → Tree
  grown_held None' = Ended Fail
  grown_held (Some' p b) = grown b

-- the same for a branch that may not be there
abbrev pub grown_of : Option (Box Branch Global) → Tree
grown_of None = Ended Fail
grown_of (Some x) = grown x.value

-- the tree around two parts after a step in one of them, which commits or doesn't
abbrev pub refitted : Bool → Part → Tree → Tree → Tree
refitted q part x y = inside (map (shut_if q) (part_of part).frames) (whole (part_of part).focus x y)

-- the whole tree after a step, where t is then in place of the branch in which it is made
abbrev pub renewed : Bool → Branch → ℕ → Tree → Tree
renewed q (Branch' part count went (Some' p l) (Some' r' r)) c t =
    by_way (way_at (count_in l) (count_in r) c) (refitted q part (renewed q l c t) (grown r)) (refitted q part (grown l) (renewed q r (c - count_in l) t)) t
renewed q b c t = t

-- the same, from the branches around: t is within the first of them
abbrev mutual
  pub regrown_in : Bool → Branch → Tree → Tree
  regrown_in q (Branch' part count side.Left left right) t = regrown_held q left (refitted q part t (grown_held right))
  regrown_in q (Branch' part count side.Right left right) t = regrown_held q right (refitted q part (grown_held left) t)

  pub regrown_held : Bool → Held-Branch-left → Tree → Tree
  regrown_held q None' t = t
  regrown_held q (Some' p b) t = regrown_in q b t

-- the same for branches that may not be there
abbrev pub regrown : Bool → Option (Box Branch Global) → Tree → Tree
regrown q None t = t
regrown q (Some x) t = regrown_in q x.value t

-- ---- what always holds of them

-- the tree has not ended as a whole
abbrev pub IsGoingTree : Tree → Type 0
IsGoingTree (Ended z) = ⊥
IsGoingTree _ = Unit {0}

-- a part without parts: the steps that stand open in it are counted, in any world
pub record IsAlone (a : Action) (part : Part) (count : ℕ) : Type 0 where
  pub counted : IsCounted part
  pub tree : Tree
  pub leaf : (part_of part).focus ≡ Leaf tree
  pub counts : (w : World) → count ≡ length (open_steps a w (inside (part_of part).frames tree))

-- a part and its two parts, with their trees and how many steps stand open in each; none of the two has ended
pub record IsPair (part : Part) (count : ℕ) (left right : ℕ) (x y : Tree) : Type 0 where
  pub counted : IsCounted part
  pub node : ℕ
  pub parts : (part_of part).focus ≡ Parts node
  pub counts : count ≡ part.broken + (left + right)
  pub left_going : IsGoingTree x
  pub right_going : IsGoingTree y

-- a branch and all below it: it has two parts or none
abbrev pub IsGrown : Action → Branch → Type 0
IsGrown a (Branch' part count went None' None') = IsAlone a part count
IsGrown a (Branch' part count went (Some' p l) (Some' q r)) = IsPair part count (count_in l) (count_in r) (grown l) (grown r) × IsGrown a l × IsGrown a r
IsGrown a _ = ⊥

-- there is a branch, and it is well-grown
abbrev pub IsGrown_of : Action → Option (Box Branch Global) → Type 0
IsGrown_of a None = ⊥
IsGrown_of a (Some x) = IsGrown a x.value

-- a part around another one in which so many steps stand open, and its other part
pub record IsAround (limit : ℕ) (part : Part) (count : ℕ) (inner other : ℕ) (y : Tree) : Type 0 where
  pub counted : IsCounted part
  pub node : ℕ
  pub parts : (part_of part).focus ≡ Parts node
  pub counts : count ≡ part.broken + (inner + other)
  pub going : IsGoingTree y
  pub few : count ≤ limit

-- the branches around one in which so many steps stand open; no more than the limit stand open in any of them
abbrev mutual
  pub AreAround_in : (limit inner : ℕ) → Branch → Type 0
  AreAround_in limit inner (Branch' part count side.Left left (Some' q r)) = IsAround limit part count inner (count_in r) (grown r) × AreAround_held limit count left
  AreAround_in limit inner (Branch' part count side.Right (Some' q l) right) = IsAround limit part count inner (count_in l) (grown l) × AreAround_held limit count right
  AreAround_in limit inner _ = ⊥

  pub AreAround_held : (limit inner : ℕ) → Held-Branch-left → Type 0
  AreAround_held limit inner None' = Unit {0}
  AreAround_held limit inner (Some' p b) = AreAround_in limit inner b

-- the same for branches that may not be there
abbrev pub AreAround : (limit inner : ℕ) → Option (Box Branch Global) → Type 0
AreAround limit inner None = Unit {0}
AreAround limit inner (Some x) = AreAround_in limit inner x.value

-- their other parts are well-grown
abbrev mutual
  pub AreGrown_in : Action → Branch → Type 0
  AreGrown_in a (Branch' part count side.Left left (Some' q r)) = IsGrown a r × AreGrown_held a left
  AreGrown_in a (Branch' part count side.Right (Some' q l) right) = IsGrown a l × AreGrown_held a right
  AreGrown_in a _ = ⊥

  pub AreGrown_held : Action → Held-Branch-left → Type 0
  AreGrown_held a None' = Unit {0}
  AreGrown_held a (Some' p b) = AreGrown_in a b

-- the same for branches that may not be there
abbrev pub AreGrown : Action → Option (Box Branch Global) → Type 0
AreGrown a None = Unit {0}
AreGrown a (Some x) = AreGrown_in a x.value

-- the branch and those around it are well-grown, no more than the limit stand open in any, and the branch has not ended where it is a part
pub record IsReached (a : Action) (limit : ℕ) (b : Branch) (around : Option (Box Branch Global)) : Type 0 where
  pub grows : IsGrown a b
  pub others : AreGrown a around
  pub stands : AreAround limit (count_in b) around
  pub few : count_in b ≤ limit
  pub going : (x : Box Branch Global) → around ≡ Some x → IsGoingTree (grown b)

-- how many steps may stand open before a step: after it all can be counted
abbrev pub most : ℕ
most = 18446744073709551600

-- a branch stands within others: before the step at most so many fewer steps stood open in it
pub record HasRoom (around : Option (Box Branch Global)) (b : Branch) : Type 0 where
  pub inner : ℕ
  pub stands : AreAround most inner around
  pub few : count_in b ≤ inner + 8
  pub going : (x : Box Branch Global) → around ≡ Some x → IsGoingTree (grown b)

-- a branch whose alternatives are closed, or aren't, and whose steps are counted anew
pub record IsRefilled (q : Bool) (old new : Branch) : Type 0 where
  pub part : part_of (out-Branch new).part ≡ closes q (part_of (out-Branch old).part)
  pub kept : IsCounted (out-Branch new).part
  pub broken : (out-Branch new).part.broken ≡ (out-Branch old).part.broken
  pub counts : (out-Branch new).count ≡ (out-Branch old).part.broken + (counted (out-Branch old).left + counted (out-Branch old).right)
  pub left : (out-Branch new).left ≡ (out-Branch old).left
  pub right : (out-Branch new).right ≡ (out-Branch old).right

-- ---- a part that has ended beside another one

-- the node of two parts
abbrev pub node_of : Focus → ℕ
node_of (Parts k) = k
node_of (Leaf t) = 0

-- the frame of the part whose other part, on this side, has ended
abbrev pub beside_frame : Side → ℕ → End → Frame
beside_frame side.Left k z = InParRight k (Ended z)
beside_frame side.Right k z = InParLeft k (Ended z)

-- the frames of both, this frame, and those of the part that goes on are one stack
abbrev pub joined_of : Bool → Branch → End → Part → PartMeant
joined_of q o z p = record {
  frames = map (shut_if q) (part_of (out-Branch o).part).frames ++ beside_frame (out-Branch o).went (node_of (part_of (out-Branch o).part).focus) z ∷ (part_of p).frames;
  focus = (part_of p).focus;
}

-- a branch around, which may be joined with its other part
pub record IsOuter (o : Branch) : Type 0 where
  pub action : Action
  pub inner : ℕ
  pub stands : AreAround_in most inner o
  pub others : AreGrown_in action o

-- the branch whose part is now this one
pub record IsTaken (old : Branch) (p : Part) (new : Branch) : Type 0 where
  pub part : (out-Branch new).part ≡ p
  pub counts : (out-Branch new).count + (out-Branch old).part.broken ≡ (out-Branch old).count + p.broken
  pub left : (out-Branch new).left ≡ (out-Branch old).left
  pub right : (out-Branch new).right ≡ (out-Branch old).right
