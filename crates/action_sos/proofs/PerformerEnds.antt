-- Whether a branch has ended; a performer at an end has no open step, and else it has one.
use Rattle.std.proofs.Common.{◌≡◌, ◌≢◌, ◌<◌, ◌↔◌, ◌∙◌, ℕ, zero, suc, List, [], ◌∷◌, length, Option, Some, None, Box, Global, refl, sym, subst, ap, arith}
use Rattle.action_terms.specs.Meaning.{action_of}
use Rattle.action_terms.specs.Acting.{Tree}
use Rattle.action_terms.specs.Steps.{Step, open_steps}
use Rattle.action_terms.proofs.NeverStuck.{never-stuck}
use Rattle.action_sos.specs.Parts.{inside}
use Rattle.action_sos.specs.Views.{part_of, focus_of}
use Rattle.action_sos.specs.Kept.{IsCounted}
use Rattle.action_sos.specs.Performers.{steps_of, IsEnd}
use Rattle.action_sos.specs.Performed.{world_of, performing_of, IsPerformer}
use Rattle.action_sos.specs.Branches.{counted, whole, grown, grown_of, IsGoingTree}
use Rattle.action_sos.specs.declared.ends.End.{End as EndAt}
use Rattle.action_terms.specs.Numbering.{Listed}
use Rattle.action_sos.specs.declared.part.Part.{Part}
use Rattle.action_sos.specs.declared.part.Focus.{Focus as FocusAt}
use Rattle.action_sos.specs.declared.part.Focus.TheVariants as focus
use Rattle.action_sos.specs.declared.branch.Branch.{Branch, out-Branch}
use Rattle.action_sos.specs.declared.world.World.{World}
use Rattle.action_sos.proofs.CountedParts.{depth-frames}
use Rattle.action_sos.proofs.KeptInMemory.{part_of-kept}
use Rattle.action_sos.proofs.FramesOpen.{inside-going, inside-going_frames}
use Rattle.action_sos.proofs.Climbing.{out-grown}
use Rattle.action_sos.proofs.Growing.{open-count}

none-open : (xs : List Step) → length xs ≡ 0 → xs ≡ []
none-open [] e = refl
none-open (x ∷ xs) e = absurd (omega (arith, e))

pub root-count : (g : Listed) (root : Option (Box Branch Global)) (w : World) → IsPerformer g root w → counted root ≡ length (steps_of (performing_of g root w))
root-count g None w kept = absurd kept.grows
root-count g (Some x) w kept = open-count (action_of g) (world_of w) x.value kept.grows

pub at-end : (g : Listed) (root : Option (Box Branch Global)) (w : World) (count : ℕ) → IsPerformer g root w
    → count ≡ length (steps_of (performing_of g root w)) → count ≡ 0 ↔ IsEnd (performing_of g root w).state.tree
at-end g root w count kept many = (
  λ e. never-stuck (action_of g) (performing_of g root w).state kept.proper kept.sound (none-open (steps_of (performing_of g root w)) (sym many ∙ e)),
  λ end. many ∙ ap (λ t. length (open_steps (action_of g) (world_of w) t)) end.1,
)

-- ---- a branch that goes on

positive : (n : ℕ) → n ≢ 0 → 0 < n
positive zero h = absurd (h refl)
positive (suc n) h = omega arith

focus-going : (p : Part) (f : FocusAt) (x y : Tree) → IsCounted p → ((z : EndAt) → f ≡ focus.Ended z → p.depth ≢ 0) → IsGoingTree (inside (part_of p).frames (whole (focus_of f) x y))
focus-going p (focus.Run k d b) x y counted framed = inside-going (part_of p).frames _ (part_of-kept p) tt
focus-going p (focus.Parts k) x y counted framed = inside-going (part_of p).frames _ (part_of-kept p) tt
focus-going p (focus.Ended z) x y counted framed =
    inside-going_frames (part_of p).frames _ (subst (λ n. 0 < n) (depth-frames p counted) (positive p.depth (framed z refl))) (part_of-kept p)

pub going-tree : (b : Branch) → IsCounted (out-Branch b).part → ((z : EndAt) → (out-Branch b).part.focus ≡ focus.Ended z → (out-Branch b).part.depth ≢ 0) → IsGoingTree (grown b)
going-tree b counted framed =
    subst IsGoingTree (sym (out-grown b)) (focus-going (out-Branch b).part (out-Branch b).part.focus (grown_of (out-Branch b).left) (grown_of (out-Branch b).right) counted framed)
