-- Branches that a step makes.
use Rattle.std.proofs.Common.{◌≡◌, ℕ, ◌+◌, List, [], ◌∷◌, ◌++◌, length, Some, None, Box, Global, sym, ap, ap₂, subst, ◌∙◌}
use Rattle.action_terms.specs.Information.{World}
use Rattle.action_terms.specs.Actions.{Action}
use Rattle.action_terms.specs.Acting.{Tree, Par}
use Rattle.action_terms.specs.Sound.{IsSoundTree}
use Rattle.action_terms.specs.Frames.{Frame as FrameMeant, wrap}
use Rattle.action_sos.specs.Moves.{running}
use Rattle.action_sos.specs.declared.moves.Received.{Received}
use Rattle.action_sos.proofs.FramesOpen.{inside-behind}
use Rattle.action_sos.proofs.SoundWithin.{inside-sound}
use Rattle.action_sos.specs.Parts.{Leaf, Parts, inside, part_steps, focus_steps}
use Rattle.action_sos.specs.Views.{part_of}
use Rattle.action_sos.specs.Kept.{IsCounted}
use Rattle.action_sos.specs.Plans.{IsSoundPart, IsSoundWithin}
use Rattle.action_sos.specs.Branches.{count_in, whole, grown, grown_of, IsGrown, IsGoingTree}
use Rattle.action_sos.specs.declared.part.Part.{Part}
use Rattle.action_sos.specs.declared.branch.Branch.{Branch, out-Branch}
use Rattle.action_sos.specs.declared.branch.Branch.TheViews.{roll-Branch}
use Rattle.action_sos.specs.declared.branch.Branch.TheOpen.{Branch-F}
use Rattle.action_sos.proofs.Sizes.{out-left, out-right, out-part, out-count}
use Rattle.action_sos.proofs.Climbing.{out-grown, pair-grown}

-- ---- a branch without parts

module _ (part : Part) (t : Tree) (leaf : (part_of part).focus ≡ Leaf t) where
  pub leaf-sound : (a : Action) → IsSoundTree a (inside (part_of part).frames t) → IsSoundPart a (part_of part)
  leaf-sound a s = subst (IsSoundWithin a (part_of part).frames) (sym leaf) s

  pub leaf-grown : (a : Action) (count : _) (went : _) → IsCounted part → ((w : World) → count ≡ length (part_steps a w (part_of part))) →
      IsGrown a (roll-Branch (record { part = part; count = count; went = went; left = None; right = None }))
  unfolding roll-Branch denote.Hole.Carrier.roll
  leaf-grown a count went counted counts = record {
    counted = counted;
    tree = t;
    leaf = leaf;
    counts = λ w. counts w ∙ ap (λ f. length (focus_steps a w (part_of part).frames f)) leaf;
  }

pub leaf-tree : (r : Branch-F Branch) (t : Tree) → (part_of r.part).focus ≡ Leaf t → grown (roll-Branch r) ≡ inside (part_of r.part).frames t
leaf-tree r t leaf =
    out-grown (roll-Branch r)
    ∙ ap (λ p. inside (part_of p).frames (whole (part_of p).focus (grown_of (out-Branch (roll-Branch r)).left) (grown_of (out-Branch (roll-Branch r)).right))) (out-part r)
    ∙ ap (λ f. inside (part_of r.part).frames (whole f (grown_of (out-Branch (roll-Branch r)).left) (grown_of (out-Branch (roll-Branch r)).right))) leaf

-- ---- one with two

module _ (part : Part) (node : ℕ) (is : (part_of part).focus ≡ Parts node) (r : Branch-F Branch) (x y : Box Branch Global) (of_part : r.part ≡ part) (left : r.left ≡ Some x) (right : r.right ≡ Some y) where
  pub fork-tree : grown (roll-Branch r) ≡ inside (part_of part).frames (Par node (grown x.value) (grown y.value))
  fork-tree =
      out-grown (roll-Branch r)
      ∙ ap₂ (λ h i. inside (part_of (out-Branch (roll-Branch r)).part).frames (whole (part_of (out-Branch (roll-Branch r)).part).focus (grown_of h) (grown_of i))) (out-left r ∙ left) (out-right r ∙ right)
      ∙ ap (λ p. inside (part_of p).frames (whole (part_of p).focus (grown x.value) (grown y.value))) (out-part r ∙ of_part)
      ∙ ap (λ f. inside (part_of part).frames (whole f (grown x.value) (grown y.value))) is

  pub fork-grown : (a : Action) → IsCounted part → r.count ≡ part.broken + (count_in x.value + count_in y.value) → IsGoingTree (grown x.value) → IsGoingTree (grown y.value) →
      IsGrown a x.value → IsGrown a y.value → IsGrown a (roll-Branch r)
  fork-grown a counted counts gx gy hx hy =
      let same : (out-Branch (roll-Branch r)).part ≡ part = out-part r ∙ of_part in
      pair-grown a (roll-Branch r) x y (out-left r ∙ left) (out-right r ∙ right)
      (record {
        counted = subst IsCounted (sym same) counted;
        node = node;
        parts = ap (λ p. (part_of p).focus) same ∙ is;
        counts = out-count r ∙ counts ∙ ap (λ p. p.broken + (count_in x.value + count_in y.value)) (sym same);
        left_going = gx;
        right_going = gy;
      }) hx hy

-- ---- trees that are started

pub running-going : (k : ℕ) (r : Received) (t : Tree) → t ≡ running k r → IsGoingTree t
running-going k r t e = subst IsGoingTree (sym e) tt

-- one more frame
pub within-tree : (outer all : List FrameMeant) (f : FrameMeant) (t : Tree) → all ≡ outer ++ f ∷ [] → inside all t ≡ inside outer (wrap f t)
within-tree outer all f t e = ap (λ l. inside l t) e ∙ inside-behind outer (f ∷ []) t

-- the parts of a sound whole
pub parts-sound : (a : Action) (fs : List FrameMeant) (k : ℕ) (x y : Tree) → IsSoundTree a (inside fs (Par k x y)) → IsSoundTree a x × IsSoundTree a y
parts-sound a fs k x y s = let both : IsSoundTree a (Par k x y) = inside-sound a fs (Par k x y) s in (both.1, both.2)
