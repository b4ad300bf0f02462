-- A step of the branch to which the way leads is one of the whole.
use Rattle.std.proofs.Common.{◌≡◌, ℕ, ◌+◌, ◌-◌, ◌<◌, ◌≤◌, Bool, true, false, cond, List, map, length, Option, Some, None, refl, sym, ap, subst, ◌∙◌, arith}
use Rattle.std.specs.Prelude.{nat_lt}
use Rattle.std.proofs.lemmas.Bool.Decides.{nat_tests}
use Rattle.action_terms.specs.Information.{World}
use Rattle.action_terms.specs.Actions.{Action}
use Rattle.action_terms.specs.Acting.{Tree, Ended, Fail, Par}
use Rattle.action_terms.specs.Steps.{Effect, Made, commits, open_steps}
use Rattle.action_terms.specs.Sound.{Known, IsKnownTree}
use Rattle.action_terms.specs.Frames.{Frame, shut_if}
use Rattle.action_sos.specs.Parts.{inside}
use Rattle.action_sos.specs.Views.{part_of}
use Rattle.action_sos.specs.Branches.{count_in, way_at, by_way, target, target_index, whole, grown, refitted, renewed, IsPair, IsGrown}
use Rattle.action_sos.specs.declared.part.Part.{Part}
use Rattle.action_sos.specs.declared.part.Side.{Side}
use Rattle.action_sos.specs.declared.part.Side.TheVariants as side
use Rattle.action_sos.specs.declared.branch.Branch.{Branch, Branch', None', Some', out-Branch}
use Rattle.action_sos.proofs.PlacedSteps.{HasStep}
use Rattle.action_sos.proofs.PairSteps.{length-open_parts, step-left, step-right}
use Rattle.action_sos.proofs.CountedParts.{broken-frames}
use Rattle.action_sos.proofs.KeptInMemory.{part_of-kept}
use Rattle.action_sos.proofs.PartsClosed.{shut-false}
use Rattle.action_sos.proofs.SoundWithin.{inside-known}

-- ---- how many steps stand open

pair-count : (a : Action) (w : World) (part : Part) (count left right : ℕ) (x y : Tree) → IsPair part count left right x y →
    left ≡ length (open_steps a w x) → right ≡ length (open_steps a w y) → count ≡ length (open_steps a w (inside (part_of part).frames (whole (part_of part).focus x y)))
pair-count a w part count left right x y p e f =
    subst (λ q. count ≡ length (open_steps a w (inside (part_of part).frames (whole q x y)))) (sym p.parts)
    (omega (arith, p.counts, e, f, broken-frames part p.counted, length-open_parts a w (part_of part).frames p.node x y (part_of-kept part) p.left_going p.right_going))

pub open-count : (a : Action) (w : World) (b : Branch) → IsGrown a b → count_in b ≡ length (open_steps a w (grown b))
unfolding out-Branch denote.Hole.Carrier.out
open-count a w (Branch' part count went None' None') g =
    g.counts w ∙ ap (λ q. length (open_steps a w (inside (part_of part).frames (whole q (Ended Fail) (Ended Fail))))) (sym g.leaf)
open-count a w (Branch' part count went None' (Some' q r)) g = absurd g
open-count a w (Branch' part count went (Some' p l) None') g = absurd g
open-count a w (Branch' part count went (Some' p l) (Some' q r)) g =
    pair-count a w part count (count_in l) (count_in r) (grown l) (grown r) g.0 (open-count a w l g.1) (open-count a w r g.2)

-- ---- which way

-- the three ways, by what is known of the index
ways : {X : Type 0} (l r c : ℕ) → (way_at l r c ≡ Some side.Left → c < l → X) → (way_at l r c ≡ Some side.Right → l ≤ c → c - l < r → X) → (way_at l r c ≡ None → X) → X
ways {X} l r c on_left on_right on_none = by_test (nat_lt c l) (nat_lt (c - l) r) refl refl
  where
    by_test : (p q : Bool) → nat_lt c l ≡ p → nat_lt (c - l) r ≡ q → X
    by_test true q e f = on_left (ap (λ b. cond b (Some side.Left) (cond (nat_lt (c - l) r) (Some side.Right) None)) e) (grind (arith, nat_tests))
    by_test false true e f =
        on_right (ap (λ b. cond b (Some side.Left) (cond (nat_lt (c - l) r) (Some side.Right) None)) e ∙ ap (λ b. cond b (Some side.Right) None) f) (grind (arith, nat_tests)) (grind (arith, nat_tests))
    by_test false false e f = on_none (ap (λ b. cond b (Some side.Left) (cond (nat_lt (c - l) r) (Some side.Right) None)) e ∙ ap (λ b. cond b (Some side.Right) None) f)

by_way_all : {X : Type 0} (P : X → Type 0) (o : Option Side) (x y z : X) → P x → P y → P z → P (by_way o x y z)
by_way_all P (Some side.Left) x y z px py pz = px
by_way_all P (Some side.Right) x y z px py pz = py
by_way_all P None x y z px py pz = pz

-- ---- the branch to which the way leads

pub target-grown : (a : Action) (b : Branch) (c : ℕ) → IsGrown a b → IsGrown a (target b c)
target-grown a (Branch' part count went None' None') c g = g
target-grown a (Branch' part count went None' (Some' q r)) c g = absurd g
target-grown a (Branch' part count went (Some' p l) None') c g = absurd g
target-grown a (Branch' part count went (Some' p l) (Some' q r)) c g =
    by_way_all (IsGrown a) (way_at (count_in l) (count_in r) c) (target l c) (target r (c - count_in l)) (Branch' part count went (Some' p l) (Some' q r))
    (target-grown a l c g.1) (target-grown a r (c - count_in l) g.2) g

pair-known : (known : Known) (a : Action) (part : Part) (count left right : ℕ) (x y : Tree) → IsPair part count left right x y →
    IsKnownTree known a (inside (part_of part).frames (whole (part_of part).focus x y)) → IsKnownTree known a x × IsKnownTree known a y
pair-known known a part count left right x y g s =
    let both : IsKnownTree known a (Par g.node x y) = inside-known known a (part_of part).frames (Par g.node x y) (subst (λ f. IsKnownTree known a (inside (part_of part).frames (whole f x y))) g.parts s) in
    (both.1, both.2)

pub target-known : (known : Known) (a : Action) (b : Branch) (c : ℕ) → IsGrown a b → IsKnownTree known a (grown b) → IsKnownTree known a (grown (target b c))
target-known known a (Branch' part count went None' None') c g s = s
target-known known a (Branch' part count went None' (Some' q r)) c g s = absurd g
target-known known a (Branch' part count went (Some' p l) None') c g s = absurd g
target-known known a (Branch' part count went (Some' p l) (Some' q r)) c g s =
    let both : IsKnownTree known a (grown l) × IsKnownTree known a (grown r) = pair-known known a part count (count_in l) (count_in r) (grown l) (grown r) g.0 s in
    by_way_all (λ b. IsKnownTree known a (grown b)) (way_at (count_in l) (count_in r) c) (target l c) (target r (c - count_in l)) (Branch' part count went (Some' p l) (Some' q r))
    (target-known known a l c g.1 both.0) (target-known known a r (c - count_in l) g.2 both.1) s

-- the step stands open in it
pub target-open : (a : Action) (b : Branch) (c : ℕ) → IsGrown a b → c < count_in b → target_index b c < count_in (target b c)
target-open a (Branch' part count went None' None') c g less = less
target-open a (Branch' part count went None' (Some' q r)) c g less = absurd g
target-open a (Branch' part count went (Some' p l) None') c g less = absurd g
target-open a (Branch' part count went (Some' p l) (Some' q r)) c g less =
    ways (count_in l) (count_in r) c
    (λ o within. subst Open (sym o) (target-open a l c g.1 within))
    (λ o more within. subst Open (sym o) (target-open a r (c - count_in l) g.2 within))
    (λ o. subst Open (sym o) less)
  where
    Open : Option Side → Type 0
    Open o = by_way o (target_index l c) (target_index r (c - count_in l)) c < count_in (by_way o (target l c) (target r (c - count_in l)) (Branch' part count went (Some' p l) (Some' q r)))

-- a step of it is one of the whole
module _ (a : Action) (w : World) (t : Tree) (e : Effect) (made : List Made) where
  abbrev Steps : Branch → ℕ → Type 0
  Steps b c = HasStep (open_steps a w (grown (target b c))) (target_index b c) t e made → HasStep (open_steps a w (grown b)) c (renewed (commits e) b c t) e made

  -- the same for two parts, by the way to the step
  abbrev StepsBy : Part → Branch → Branch → Branch → ℕ → Option Side → Type 0
  StepsBy part l r b c o =
      HasStep (open_steps a w (grown (by_way o (target l c) (target r (c - count_in l)) b))) (by_way o (target_index l c) (target_index r (c - count_in l)) c) t e made →
      HasStep (open_steps a w (inside (part_of part).frames (whole (part_of part).focus (grown l) (grown r)))) c
      (by_way o (refitted (commits e) part (renewed (commits e) l c t) (grown r)) (refitted (commits e) part (grown l) (renewed (commits e) r (c - count_in l) t)) t) e made

  step-pair : (part : Part) (count : ℕ) (l r b : Branch) (c : ℕ) → IsPair part count (count_in l) (count_in r) (grown l) (grown r) → count_in l ≡ length (open_steps a w (grown l)) →
      grown b ≡ inside (part_of part).frames (whole (part_of part).focus (grown l) (grown r)) → Steps l c → Steps r (c - count_in l) → StepsBy part l r b c (way_at (count_in l) (count_in r) c)
  step-pair part count l r b c g many same sl sr =
      let fs : List Frame = (part_of part).frames in
      let x : Tree = grown l in
      let y : Tree = grown r in
      let k : ℕ = g.node in
      ways (count_in l) (count_in r) c
      (λ o less. subst (StepsBy part l r b c) (sym o) (λ has.
      let t' : Tree = renewed (commits e) l c t in
      subst (λ f. HasStep (open_steps a w (inside fs (whole f x y))) c (inside (map (shut_if (commits e)) fs) (whole f t' y)) e made) (sym g.parts)
      (step-left a w fs k x y (part_of-kept part) g.left_going g.right_going c t' e made (sl has))))
      (λ o more within. subst (StepsBy part l r b c) (sym o) (λ has.
      let t' : Tree = renewed (commits e) r (c - count_in l) t in
      let index : length (open_steps a w x) + (c - count_in l) ≡ c = omega (arith, many, more) in
      subst (λ f. HasStep (open_steps a w (inside fs (whole f x y))) c (inside (map (shut_if (commits e)) fs) (whole f x t')) e made) (sym g.parts)
      (subst (λ i. HasStep (open_steps a w (inside fs (Par k x y))) i (inside (map (shut_if (commits e)) fs) (Par k x t')) e made) index
      (step-right a w fs k x y (part_of-kept part) g.left_going g.right_going (c - count_in l) t' e made (sr has)))))
      (λ o. subst (StepsBy part l r b c) (sym o) (λ has. subst (λ u. HasStep (open_steps a w u) c t e made) same has))

  pub target-step : (b : Branch) (c : ℕ) → IsGrown a b → Steps b c
  target-step (Branch' part count went None' None') c g = λ has. has
  target-step (Branch' part count went None' (Some' q r)) c g = absurd g
  target-step (Branch' part count went (Some' p l) None') c g = absurd g
  target-step (Branch' part count went (Some' p l) (Some' q r)) c g =
      step-pair part count l r (Branch' part count went (Some' p l) (Some' q r)) c g.0 (open-count a w l g.1) refl (target-step l c g.1) (target-step r (c - count_in l) g.2)

-- ---- nothing changes where nothing is done

refitted-same : (part : Part) (x y : Tree) → refitted false part x y ≡ inside (part_of part).frames (whole (part_of part).focus x y)
refitted-same part x y = ap (λ fs. inside fs (whole (part_of part).focus x y)) (shut-false (part_of part).frames)

pub renewed-same : (b : Branch) (c : ℕ) → renewed false b c (grown (target b c)) ≡ grown b
renewed-same (Branch' part count went None' None') c = refl
renewed-same (Branch' part count went None' (Some' q r)) c = refl
renewed-same (Branch' part count went (Some' p l) None') c = refl
renewed-same (Branch' part count went (Some' p l) (Some' q r)) c =
    by_option (way_at (count_in l) (count_in r) c)
    (ap (λ t. refitted false part t (grown r)) (renewed-same l c) ∙ refitted-same part (grown l) (grown r))
    (ap (λ t. refitted false part (grown l) t) (renewed-same r (c - count_in l)) ∙ refitted-same part (grown l) (grown r))
  where
    by_option : (o : Option Side) → refitted false part (renewed false l c (grown (target l c))) (grown r) ≡ inside (part_of part).frames (whole (part_of part).focus (grown l) (grown r)) →
        refitted false part (grown l) (renewed false r (c - count_in l) (grown (target r (c - count_in l)))) ≡ inside (part_of part).frames (whole (part_of part).focus (grown l) (grown r)) →
        by_way o (refitted false part (renewed false l c (grown (by_way o (target l c) (target r (c - count_in l)) (Branch' part count went (Some' p l) (Some' q r))))) (grown r))
        (refitted false part (grown l) (renewed false r (c - count_in l) (grown (by_way o (target l c) (target r (c - count_in l)) (Branch' part count went (Some' p l) (Some' q r))))))
        (grown (by_way o (target l c) (target r (c - count_in l)) (Branch' part count went (Some' p l) (Some' q r))))
        ≡ inside (part_of part).frames (whole (part_of part).focus (grown l) (grown r))
    by_option (Some side.Left) e f = e
    by_option (Some side.Right) e f = f
    by_option None e f = refl
