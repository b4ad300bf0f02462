-- One turn of the way back.
use Rattle.std.proofs.Common.{◌≡◌, ℕ, ◌+◌, ◌<◌, ◌≤◌, ◌^◌, Bool, Option, Some, Box, Global, refl, sym, ap, ap₂, subst, ◌∙◌, arith}
use Rattle.action_terms.specs.Actions.{Action}
use Rattle.action_terms.specs.Acting.{Tree, Par}
use Rattle.action_sos.specs.Parts.{Parts, inside, closes}
use Rattle.action_sos.specs.Views.{part_of}
use Rattle.action_sos.specs.Kept.{IsCounted}
use Rattle.action_sos.specs.Branches.{IsTaken, child_of, opposite, other_at, other_of, turned, count_in, counted, whole, grown, grown_of, refitted, regrown_in, regrown, IsGoingTree, IsPair, IsGrown, IsAround, AreAround_in, AreAround, AreGrown_in, AreGrown, most, IsRefilled}
use Rattle.action_sos.specs.declared.part.Part.{Part}
use Rattle.action_sos.specs.declared.part.Side.{Side}
use Rattle.action_sos.specs.declared.part.Side.TheVariants as side
use Rattle.action_sos.specs.declared.branch.Branch.{Branch, Branch', None', Some', out-Branch}
use Rattle.action_sos.specs.declared.branch.Branch.TheViews.{roll-Branch}
use Rattle.action_sos.specs.declared.branch.Branch.TheOpen.{Branch-F}
use Rattle.action_sos.proofs.FramesOpen.{inside-going}
use Rattle.action_sos.proofs.KeptInMemory.{part_of-kept}
use Rattle.action_sos.proofs.Sizes.{out-left, out-right, out-part, out-count}

-- ---- a branch read by its fields

pub out-grown : (b : Branch) → grown b ≡ inside (part_of (out-Branch b).part).frames (whole (part_of (out-Branch b).part).focus (grown_of (out-Branch b).left) (grown_of (out-Branch b).right))
unfolding out-Branch denote.Hole.Carrier.out
out-grown (Branch' part count went None' None') = refl
out-grown (Branch' part count went None' (Some' q r)) = refl
out-grown (Branch' part count went (Some' p l) None') = refl
out-grown (Branch' part count went (Some' p l) (Some' q r)) = refl

pub pair-grown : (a : Action) (b : Branch) (x y : Box Branch Global) → (out-Branch b).left ≡ Some x → (out-Branch b).right ≡ Some y →
    IsPair (out-Branch b).part (out-Branch b).count (count_in x.value) (count_in y.value) (grown x.value) (grown y.value) → IsGrown a x.value → IsGrown a y.value → IsGrown a b
unfolding out-Branch denote.Hole.Carrier.out
pair-grown a (Branch' part count went None' right) x y e f p gx gy = cc
pair-grown a (Branch' part count went (Some' p' l) None') x y e f p gx gy = cc
pair-grown a (Branch' part count went (Some' p' l) (Some' q r)) x y e f p gx gy =
    let el : x.value ≡ l = cc in
    let er : y.value ≡ r = cc in
    let pl : IsPair part count (count_in l) (count_in y.value) (grown l) (grown y.value) = subst (λ b. IsPair part count (count_in b) (count_in y.value) (grown b) (grown y.value)) el p in
    (subst (λ b. IsPair part count (count_in l) (count_in b) (grown l) (grown b)) er pl, subst (IsGrown a) el gx, subst (IsGrown a) er gy)

-- ---- a branch around

pub record IsCrumb (limit n : ℕ) (o : Branch) : Type 0 where
  pub other : Box Branch Global
  pub is : other_of o ≡ Some other
  pub around : IsAround limit (out-Branch o).part (out-Branch o).count n (count_in other.value) (grown other.value)
  pub rest : AreAround limit (out-Branch o).count (child_of (out-Branch o).went o)

pub crumb : (limit n : ℕ) (o : Branch) → AreAround_in limit n o → IsCrumb limit n o
unfolding out-Branch denote.Hole.Carrier.out
crumb limit n (Branch' part count side.Left None' (Some' q r)) g = record { other = _; is = refl; around = g.0; rest = g.1 }
crumb limit n (Branch' part count side.Left (Some' p l) (Some' q r)) g = record { other = _; is = refl; around = g.0; rest = g.1 }
crumb limit n (Branch' part count side.Left left None') g = absurd g
crumb limit n (Branch' part count side.Right (Some' p l) None') g = record { other = _; is = refl; around = g.0; rest = g.1 }
crumb limit n (Branch' part count side.Right (Some' p l) (Some' q r)) g = record { other = _; is = refl; around = g.0; rest = g.1 }
crumb limit n (Branch' part count side.Right None' right) g = absurd g

pub crumb-grown : (a : Action) (o : Branch) (y : Box Branch Global) → AreGrown_in a o → other_of o ≡ Some y → IsGrown a y.value × AreGrown a (child_of (out-Branch o).went o)
unfolding out-Branch denote.Hole.Carrier.out
crumb-grown a (Branch' part count side.Left None' (Some' q r)) y g e = let same : r ≡ y.value = cc in (subst (IsGrown a) same g.0, g.1)
crumb-grown a (Branch' part count side.Left (Some' p l) (Some' q r)) y g e = let same : r ≡ y.value = cc in (subst (IsGrown a) same g.0, g.1)
crumb-grown a (Branch' part count side.Left left None') y g e = absurd g
crumb-grown a (Branch' part count side.Right (Some' p l) None') y g e = let same : l ≡ y.value = cc in (subst (IsGrown a) same g.0, g.1)
crumb-grown a (Branch' part count side.Right (Some' p l) (Some' q r)) y g e = let same : l ≡ y.value = cc in (subst (IsGrown a) same g.0, g.1)
crumb-grown a (Branch' part count side.Right None' right) y g e = absurd g

-- the tree of a part and the two trees of its parts, the first of which is on the side
abbrev pub refit_side : Side → Bool → Part → Tree → Tree → Tree
refit_side side.Left q p t u = refitted q p t u
refit_side side.Right q p t u = refitted q p u t

pub crumb-regrown : (q : Bool) (o : Branch) (y : Box Branch Global) (t : Tree) → other_of o ≡ Some y →
    regrown_in q o t ≡ regrown q (child_of (out-Branch o).went o) (refit_side (out-Branch o).went q (out-Branch o).part t (grown y.value))
unfolding out-Branch denote.Hole.Carrier.out
crumb-regrown q (Branch' part count side.Left None' (Some' p r)) y t e = let same : r ≡ y.value = cc in ap (λ b. refitted q part t (grown b)) same
crumb-regrown q (Branch' part count side.Left (Some' p' l) (Some' p r)) y t e = let same : r ≡ y.value = cc in ap (λ b. regrown_in q l (refitted q part t (grown b))) same
crumb-regrown q (Branch' part count side.Left left None') y t e = cc
crumb-regrown q (Branch' part count side.Right (Some' p l) None') y t e = let same : l ≡ y.value = cc in ap (λ b. refitted q part (grown b) t) same
crumb-regrown q (Branch' part count side.Right (Some' p l) (Some' p' r)) y t e = let same : l ≡ y.value = cc in ap (λ b. regrown_in q r (refitted q part (grown b) t)) same
crumb-regrown q (Branch' part count side.Right None' right) y t e = cc

-- ---- the branch around, with a part in its place

-- what the refilled branch is, by its fields
pub record IsMended (q : Bool) (o new : Branch) (left right : Box Branch Global) : Type 0 where
  pub part : part_of (out-Branch new).part ≡ closes q (part_of (out-Branch o).part)
  pub kept : IsCounted (out-Branch new).part
  pub broken : (out-Branch new).part.broken ≡ (out-Branch o).part.broken
  pub counts : (out-Branch new).count ≡ (out-Branch o).part.broken + (count_in left.value + count_in right.value)
  pub left_is : (out-Branch new).left ≡ Some left
  pub right_is : (out-Branch new).right ≡ Some right

mended : (q : Bool) (o mid new : Branch) (x y : Box Branch Global) → (out-Branch mid).part ≡ (out-Branch o).part → (out-Branch mid).left ≡ Some x → (out-Branch mid).right ≡ Some y →
    IsRefilled q mid new → IsMended q o new x y
mended q o mid new x y p e f r = record {
  part = r.part ∙ ap (λ z. closes q (part_of z)) p;
  kept = r.kept;
  broken = r.broken ∙ ap (λ z. z.broken) p;
  counts = r.counts ∙ ap₂ (λ z n. z.broken + n) p (ap₂ (λ h i. counted h + counted i) e f);
  left_is = r.left ∙ e;
  right_is = r.right ∙ f;
}

abbrev pub IsMendedAt : Side → Bool → Branch → Branch → Box Branch Global → Box Branch Global → Type 0
IsMendedAt side.Left q o new x y = IsMended q o new x y
IsMendedAt side.Right q o new x y = IsMended q o new y x

pub mended-at : (s : Side) (q : Bool) (o mid new : Branch) (x y : Box Branch Global) → other_at s o ≡ Some y → mid ≡ turned s (Some x) o → IsRefilled q mid new → IsMendedAt s q o new x y
mended-at side.Left q o mid new x y e is r =
    mended q o mid new x y (ap (λ b. (out-Branch b).part) is ∙ out-part _) (ap (λ b. (out-Branch b).left) is ∙ out-left _) (ap (λ b. (out-Branch b).right) is ∙ out-right _ ∙ e) r
mended-at side.Right q o mid new x y e is r =
    mended q o mid new y x (ap (λ b. (out-Branch b).part) is ∙ out-part _) (ap (λ b. (out-Branch b).left) is ∙ out-left _ ∙ e) (ap (λ b. (out-Branch b).right) is ∙ out-right _) r

module _ (q : Bool) (o new left right : _) (k : ℕ) (parts : (part_of (out-Branch o).part).focus ≡ Parts k) (m : IsMended q o new left right) where
  mended-focus : (part_of (out-Branch new).part).focus ≡ Parts k
  mended-focus = ap (λ r. r.focus) m.part ∙ parts

  mended-tree : grown new ≡ refitted q (out-Branch o).part (grown left.value) (grown right.value)
  mended-tree =
      out-grown new
      ∙ ap₂ (λ h i. inside (part_of (out-Branch new).part).frames (whole (part_of (out-Branch new).part).focus (grown_of h) (grown_of i))) m.left_is m.right_is
      ∙ ap (λ p. inside p.frames (whole p.focus (grown left.value) (grown right.value))) m.part

  mended-going : IsGoingTree (grown new)
  mended-going =
      subst IsGoingTree (sym (out-grown new))
      (subst (λ f. IsGoingTree (inside (part_of (out-Branch new).part).frames (whole f (grown_of (out-Branch new).left) (grown_of (out-Branch new).right)))) (sym mended-focus)
      (inside-going (part_of (out-Branch new).part).frames (Par k (grown_of (out-Branch new).left) (grown_of (out-Branch new).right)) (part_of-kept (out-Branch new).part) tt))

  mended-grown : (a : Action) → IsGoingTree (grown left.value) → IsGoingTree (grown right.value) → IsGrown a left.value → IsGrown a right.value → IsGrown a new
  mended-grown a gl gr hl hr =
      pair-grown a new left right m.left_is m.right_is
      (record {
        counted = m.kept;
        node = k;
        parts = mended-focus;
        counts = m.counts ∙ ap (λ n. n + (count_in left.value + count_in right.value)) (sym m.broken);
        left_going = gl;
        right_going = gr;
      }) hl hr

-- the same for either side: x is in the place, y is the other part
module _ (q : Bool) (limit n : ℕ) (o new : Branch) (x y : Box Branch Global) (k : IsAround limit (out-Branch o).part (out-Branch o).count n (count_in y.value) (grown y.value)) where
  pub side-tree : (s : Side) → IsMendedAt s q o new x y → grown new ≡ refit_side s q (out-Branch o).part (grown x.value) (grown y.value)
  side-tree side.Left m = mended-tree q o new x y k.node k.parts m
  side-tree side.Right m = mended-tree q o new y x k.node k.parts m

  pub side-going : (s : Side) → IsMendedAt s q o new x y → IsGoingTree (grown new)
  side-going side.Left m = mended-going q o new x y k.node k.parts m
  side-going side.Right m = mended-going q o new y x k.node k.parts m

  pub side-count : (s : Side) → IsMendedAt s q o new x y → count_in x.value ≤ n + 8 → count_in new ≤ (out-Branch o).count + 8
  side-count side.Left m few = omega (arith, m.counts, k.counts, few)
  side-count side.Right m few = omega (arith, m.counts, k.counts, few)

  pub side-grown : (s : Side) (a : Action) → IsMendedAt s q o new x y → IsGoingTree (grown x.value) → IsGrown a x.value → IsGrown a y.value → IsGrown a new
  side-grown side.Left a m g hx hy = mended-grown q o new x y k.node k.parts m a g k.going hx hy
  side-grown side.Right a m g hx hy = mended-grown q o new y x k.node k.parts m a k.going g hy hx

-- what it takes to count the steps of the branch around
pub side-fits : (s : Side) (n : ℕ) (o mid : Branch) (x y : Box Branch Global) → IsAround most (out-Branch o).part (out-Branch o).count n (count_in y.value) (grown y.value) →
    other_at s o ≡ Some y → mid ≡ turned s (Some x) o → count_in x.value ≤ n + 8 →
    IsCounted (out-Branch mid).part × ((out-Branch mid).part.broken + (counted (out-Branch mid).left + counted (out-Branch mid).right) < 2 ^ 64)
side-fits side.Left n o mid x y k e is few =
    let p : (out-Branch mid).part ≡ (out-Branch o).part = ap (λ b. (out-Branch b).part) is ∙ out-part _ in
    let l : counted (out-Branch mid).left ≡ count_in x.value = ap counted (ap (λ b. (out-Branch b).left) is ∙ out-left _) in
    let r : counted (out-Branch mid).right ≡ count_in y.value = ap counted (ap (λ b. (out-Branch b).right) is ∙ out-right _ ∙ e) in
    (subst IsCounted (sym p) k.counted, omega (arith, l, r, ap (λ z. z.broken) p, k.counts, k.few, few))
side-fits side.Right n o mid x y k e is few =
    let p : (out-Branch mid).part ≡ (out-Branch o).part = ap (λ b. (out-Branch b).part) is ∙ out-part _ in
    let l : counted (out-Branch mid).left ≡ count_in y.value = ap counted (ap (λ b. (out-Branch b).left) is ∙ out-left _ ∙ e) in
    let r : counted (out-Branch mid).right ≡ count_in x.value = ap counted (ap (λ b. (out-Branch b).right) is ∙ out-right _) in
    (subst IsCounted (sym p) k.counted, omega (arith, l, r, ap (λ z. z.broken) p, k.counts, k.few, few))

-- a branch that was written twice: its part, and then its count
pub refilled : (q : Bool) (old : Branch) (first then : Branch-F Branch) → part_of first.part ≡ closes q (part_of (out-Branch old).part) → IsCounted first.part → first.part.broken ≡ (out-Branch old).part.broken →
    first.left ≡ (out-Branch old).left → first.right ≡ (out-Branch old).right →
    then.part ≡ (out-Branch (roll-Branch first)).part → then.left ≡ (out-Branch (roll-Branch first)).left → then.right ≡ (out-Branch (roll-Branch first)).right →
    then.count ≡ (out-Branch old).part.broken + (counted (out-Branch old).left + counted (out-Branch old).right) → IsRefilled q old (roll-Branch then)
refilled q old first then p k b l r e f g n =
    let same : (out-Branch (roll-Branch then)).part ≡ first.part = out-part then ∙ e ∙ out-part first in
    record {
      part = ap part_of same ∙ p;
      kept = subst IsCounted (sym same) k;
      broken = ap (λ z. z.broken) same ∙ b;
      counts = out-count then ∙ n;
      left = out-left then ∙ f ∙ out-left first ∙ l;
      right = out-right then ∙ g ∙ out-right first ∙ r;
    }

-- ---- the other part in place of the branch

pub other-turned : (s : Side) (h : Option (Box Branch Global)) (o : Branch) → child_of (opposite s) (turned s h o) ≡ other_at s o
other-turned side.Left h o = out-right _
other-turned side.Right h o = out-left _

-- a branch that was written twice: its count, and then its part
pub taken : (old : Branch) (p : Part) (first then : Branch-F Branch) (n : ℕ) → first.count ≡ n → n + (out-Branch old).part.broken ≡ (out-Branch old).count + p.broken → first.left ≡ (out-Branch old).left → first.right ≡ (out-Branch old).right →
    then.part ≡ p → then.count ≡ (out-Branch (roll-Branch first)).count → then.left ≡ (out-Branch (roll-Branch first)).left → then.right ≡ (out-Branch (roll-Branch first)).right → IsTaken old p (roll-Branch then)
taken old p first then n c m l r e d f g = record {
  part = out-part then ∙ e;
  counts = ap (λ k. k + (out-Branch old).part.broken) (out-count then ∙ d ∙ out-count first ∙ c) ∙ m;
  left = out-left then ∙ f ∙ out-left first ∙ l;
  right = out-right then ∙ g ∙ out-right first ∙ r;
}
