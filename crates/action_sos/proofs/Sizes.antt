-- How many branches there are, and how long the row of right parts is.
use Rattle.std.proofs.Common.{◌≡◌, ℕ, suc, ◌+◌, ◌-◌, ◌*◌, ◌<◌, ◌≤◌, Option, Some, None, Box, Global, refl, ap, ◌∙◌, arith}
use Rattle.action_sos.specs.Branches.{size, size_held, spine, spine_held}
use Rattle.action_sos.specs.declared.branch.Branch.{Branch, Branch', Held-Branch-left, None', Some', out-Branch}
use Rattle.action_sos.specs.declared.branch.Branch.TheViews.{roll-Branch}
use Rattle.action_sos.specs.declared.branch.Branch.TheOpen.{Branch-F}

abbrev pub size_of : Option (Box Branch Global) → ℕ
size_of None = 0
size_of (Some x) = size x.value

abbrev pub spine_of : Option (Box Branch Global) → ℕ
spine_of None = 0
spine_of (Some x) = spine x.value

mutual
  pub spine-size : (b : Branch) → spine b ≤ size b
  spine-size (Branch' part count went left right) = omega (arith, spine-size_held right)

  spine-size_held : (h : Held-Branch-left) → spine_held h ≤ size_held h
  spine-size_held None' = omega arith
  spine-size_held (Some' p b) = spine-size b

pub out-size : (b : Branch) → size b ≡ suc (size_of (out-Branch b).left + size_of (out-Branch b).right)
unfolding out-Branch denote.Hole.Carrier.out
out-size (Branch' part count went None' None') = refl
out-size (Branch' part count went None' (Some' q r)) = refl
out-size (Branch' part count went (Some' p l) None') = refl
out-size (Branch' part count went (Some' p l) (Some' q r)) = refl

pub out-spine : (b : Branch) → spine b ≡ suc (spine_of (out-Branch b).right)
unfolding out-Branch denote.Hole.Carrier.out
out-spine (Branch' part count went None' None') = refl
out-spine (Branch' part count went None' (Some' q r)) = refl
out-spine (Branch' part count went (Some' p l) None') = refl
out-spine (Branch' part count went (Some' p l) (Some' q r)) = refl

pub roll-size : (r : Branch-F Branch) → size (roll-Branch r) ≡ suc (size_of r.left + size_of r.right)
unfolding roll-Branch denote.Hole.Carrier.roll
roll-size r = of_two r.part r.count r.went r.left r.right
  where
    of_two : (part : _) (count : _) (went : _) (x y : Option (Box Branch Global)) →
        size (roll-Branch (record { part = part; count = count; went = went; left = x; right = y })) ≡ suc (size_of x + size_of y)
    of_two part count went None None = refl
    of_two part count went None (Some y) = refl
    of_two part count went (Some x) None = refl
    of_two part count went (Some x) (Some y) = refl

pub roll-spine : (r : Branch-F Branch) → spine (roll-Branch r) ≡ suc (spine_of r.right)
unfolding roll-Branch denote.Hole.Carrier.roll
roll-spine r = of_two r.part r.count r.went r.left r.right
  where
    of_two : (part : _) (count : _) (went : _) (x y : Option (Box Branch Global)) →
        spine (roll-Branch (record { part = part; count = count; went = went; left = x; right = y })) ≡ suc (spine_of y)
    of_two part count went None None = refl
    of_two part count went None (Some y) = refl
    of_two part count went (Some x) None = refl
    of_two part count went (Some x) (Some y) = refl

pub out-left : (r : Branch-F Branch) → (out-Branch (roll-Branch r)).left ≡ r.left
unfolding out-Branch denote.Hole.Carrier.out roll-Branch denote.Hole.Carrier.roll
out-left r = of_two r.part r.count r.went r.left r.right
  where
    of_two : (part : _) (count : _) (went : _) (x y : Option (Box Branch Global)) →
        (out-Branch (roll-Branch (record { part = part; count = count; went = went; left = x; right = y }))).left ≡ x
    of_two part count went None None = refl
    of_two part count went None (Some y) = refl
    of_two part count went (Some x) None = refl
    of_two part count went (Some x) (Some y) = refl

pub out-right : (r : Branch-F Branch) → (out-Branch (roll-Branch r)).right ≡ r.right
unfolding out-Branch denote.Hole.Carrier.out roll-Branch denote.Hole.Carrier.roll
out-right r = of_two r.part r.count r.went r.left r.right
  where
    of_two : (part : _) (count : _) (went : _) (x y : Option (Box Branch Global)) →
        (out-Branch (roll-Branch (record { part = part; count = count; went = went; left = x; right = y }))).right ≡ y
    of_two part count went None None = refl
    of_two part count went None (Some y) = refl
    of_two part count went (Some x) None = refl
    of_two part count went (Some x) (Some y) = refl

pub out-part : (r : Branch-F Branch) → (out-Branch (roll-Branch r)).part ≡ r.part
unfolding out-Branch denote.Hole.Carrier.out roll-Branch denote.Hole.Carrier.roll
out-part r = of_two r.part r.count r.went r.left r.right
  where
    of_two : (part : _) (count : _) (went : _) (x y : Option (Box Branch Global)) →
        (out-Branch (roll-Branch (record { part = part; count = count; went = went; left = x; right = y }))).part ≡ part
    of_two part count went None None = refl
    of_two part count went None (Some y) = refl
    of_two part count went (Some x) None = refl
    of_two part count went (Some x) (Some y) = refl

pub out-count : (r : Branch-F Branch) → (out-Branch (roll-Branch r)).count ≡ r.count
unfolding out-Branch denote.Hole.Carrier.out roll-Branch denote.Hole.Carrier.roll
out-count r = of_two r.part r.count r.went r.left r.right
  where
    of_two : (part : _) (count : _) (went : _) (x y : Option (Box Branch Global)) →
        (out-Branch (roll-Branch (record { part = part; count = count; went = went; left = x; right = y }))).count ≡ count
    of_two part count went None None = refl
    of_two part count went None (Some y) = refl
    of_two part count went (Some x) None = refl
    of_two part count went (Some x) (Some y) = refl

-- ---- the measure by which a branch is taken apart

-- where it has no left part, its right one is left
pub only-smaller : (b new : Branch) (x : Box Branch Global) → (out-Branch b).left ≡ None → (out-Branch b).right ≡ Some x → new ≡ x.value →
    2 * size new - spine new < 2 * size b - spine b
only-smaller b new x e f g =
    omega (arith, out-size b, out-spine b, ap size_of e, ap size_of f, ap spine_of f, ap size g, ap spine g, spine-size new)

-- the left part is put around the rest of its branch
pub raised-smaller : (b : Branch) (x : Box Branch Global) (inner d : Branch) (taken : Option (Box Branch Global)) (new rest : Branch-F Branch) (y : Box Branch Global) →
    (out-Branch b).left ≡ Some x → inner ≡ x.value → taken ≡ (out-Branch inner).right → (out-Branch d).right ≡ (out-Branch b).right →
    new.left ≡ (out-Branch inner).left → new.right ≡ Some y → y.value ≡ roll-Branch rest → rest.left ≡ taken → rest.right ≡ (out-Branch d).right →
    2 * size (roll-Branch new) - spine (roll-Branch new) < 2 * size b - spine b
raised-smaller b x inner d taken new rest y e1 e2 e3 e4 e5 e6 e7 e8 e9 =
    omega (
      arith,
      out-size b,
      out-spine b,
      ap size_of e1,
      ap size e2,
      out-size inner,
      roll-size new,
      roll-spine new,
      ap size_of e5,
      ap size_of e6,
      ap spine_of e6,
      ap size e7,
      ap spine e7,
      roll-size rest,
      roll-spine rest,
      ap size_of (e8 ∙ e3),
      ap size_of (e9 ∙ e4),
      ap spine_of (e9 ∙ e4),
      spine-size (roll-Branch new),
      spine-size b,
    )
