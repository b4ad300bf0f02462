-- The step to which a way leads, as a step of the part there and of the branch.
use Rattle.std.proofs.Common.{◌≡◌, ℕ, zero, suc, ◌+◌, ◌-◌, ◌<◌, ◌≤◌, List, [], ◌∷◌, ◌++◌, All, map, length, Some, None, refl, sym, ap, subst, ◌∙◌, length-append, arith}
use Rattle.std.specs.Prelude.{slice_get, nat_lt, Bool, true, false, cond}
use Rattle.std.proofs.lemmas.Bool.Decides.{nat_tests}
use Rattle.std.proofs.lemmas.List.{length-map}
use Rattle.std.proofs.lemmas.List.Elements.{All-head, All-tail}
use Rattle.action_terms.specs.Information.{World}
use Rattle.action_terms.specs.Actions.{Action}
use Rattle.action_terms.specs.Acting.{Tree, Ended, Fail, Par}
use Rattle.action_terms.specs.Steps.{InLeft, InRight, Effect, Step, on_side, open_steps}
use Rattle.action_terms.specs.Proper.{IsProper}
use Rattle.action_terms.specs.Sound.{IsSound, IsSoundTree}
use Rattle.action_terms.specs.Performances.{OneOf, Here, Later, State, after}
use Rattle.action_terms.proofs.SoundStates.{sound-tree, sound-after}
use Rattle.action_terms.specs.Frames.{Frame, framed}
use Rattle.action_sos.specs.Parts.{inside, IsKeptFrame, lifted, own_steps, frames_steps, focus_steps, part_steps}
use Rattle.action_sos.specs.Views.{part_of}
use Rattle.action_sos.specs.Moves.{next_tree, effect_of, IsStepAt}
use Rattle.action_sos.specs.Plans.{IsSoundWithin, IsSoundPart, IsPlan, kept_frames}
use Rattle.action_sos.specs.Branches.{count_in, way_at, way, whole, grown, IsGoingTree, IsAlone, IsPair, IsGrown}
use Rattle.action_sos.specs.Taking.{below}
use Rattle.action_sos.specs.declared.part.Part.{Part}
use Rattle.action_sos.specs.declared.plan.Plan.{Plan}
use Rattle.action_sos.specs.declared.part.Side.TheVariants as side
use Rattle.action_sos.specs.declared.branch.Branch.{Branch, Branch', None', Some', out-Branch}
use Rattle.action_sos.proofs.FramesOpen.{inside-going_frames, open-wrapped}
use Rattle.action_sos.proofs.FrameCounts.{frames_steps-cons, own-at_most}
use Rattle.action_sos.proofs.CountedParts.{broken-frames}
use Rattle.action_sos.proofs.KeptInMemory.{part_of-kept}
use Rattle.action_sos.proofs.OpenLengths.{length-open}
use Rattle.action_sos.proofs.PartWorlds.{empty_world}
use Rattle.action_sos.proofs.PairSteps.{open-parts, length-two_maps, length-open_parts}
use Rattle.action_sos.proofs.PlanSteps.{behind-at}
use Rattle.action_sos.proofs.Growing.{open-count}

-- ---- where the way has ended, the steps of both parts come before

past-two : (l r c : ℕ) → way_at l r c ≡ None → l + r ≤ c
past-two l r c = by_test (nat_lt c l) (nat_lt (c - l) r) refl refl
  where
    by_test : (p q : Bool) → nat_lt c l ≡ p → nat_lt (c - l) r ≡ q → cond p (Some side.Left) (cond q (Some side.Right) None) ≡ None → l + r ≤ c
    by_test true q e f w = cc
    by_test false true e f w = cc
    by_test false false e f w = grind (arith, nat_tests)

pub past-parts : (a : Action) (b : Branch) (c : ℕ) → IsGrown a b → way b c ≡ None → below b ≤ c
unfolding out-Branch denote.Hole.Carrier.out
past-parts a (Branch' part count went None' None') c g w = omega arith
past-parts a (Branch' part count went None' (Some' q r)) c g w = absurd g
past-parts a (Branch' part count went (Some' p l) None') c g w = absurd g
past-parts a (Branch' part count went (Some' p l) (Some' q r)) c g w = past-two (count_in l) (count_in r) c w

-- ---- how many steps a part has of its own

alone-many : (a : Action) (w : World) (part : Part) (count : ℕ) → IsAlone a part count →
    length (open_steps a w (inside (part_of part).frames (whole (part_of part).focus (Ended Fail) (Ended Fail)))) ≡ length (part_steps a w (part_of part))
alone-many a w part count g =
    subst (λ f. length (open_steps a w (inside (part_of part).frames (whole f (Ended Fail) (Ended Fail)))) ≡ length (focus_steps a w (part_of part).frames f)) (sym g.leaf) refl

pair-many : (a : Action) (w : World) (part : Part) (count l r : ℕ) (x y : Tree) → IsPair part count l r x y → l ≡ length (open_steps a w x) → r ≡ length (open_steps a w y) →
    length (open_steps a w (inside (part_of part).frames (whole (part_of part).focus x y))) ≡ l + r + length (part_steps a w (part_of part))
pair-many a w part count l r x y g e f =
    subst (λ q. length (open_steps a w (inside (part_of part).frames (whole q x y))) ≡ l + r + length (focus_steps a w (part_of part).frames q)) (sym g.parts)
    (omega (arith, e, f, length-open_parts a w (part_of part).frames g.node x y (part_of-kept part) g.left_going g.right_going))

pub own-many : (a : Action) (w : World) (b : Branch) → IsGrown a b → length (open_steps a w (grown b)) ≡ below b + length (part_steps a w (part_of (out-Branch b).part))
unfolding out-Branch denote.Hole.Carrier.out
own-many a w (Branch' part count went None' None') g = omega (arith, alone-many a w part count g)
own-many a w (Branch' part count went None' (Some' q r)) g = absurd g
own-many a w (Branch' part count went (Some' p l) None') g = absurd g
own-many a w (Branch' part count went (Some' p l) (Some' q r)) g =
    pair-many a w part count (count_in l) (count_in r) (grown l) (grown r) g.0 (open-count a w l g.1) (open-count a w r g.2)

-- ---- a step of the part is one of the branch

alone-step : (a : Action) (w : World) (part : Part) (count c i : ℕ) (e : Effect) (t : Tree) → IsAlone a part count → i ≡ c → IsStepAt (part_steps a w (part_of part)) i e t →
    IsStepAt (open_steps a w (inside (part_of part).frames (whole (part_of part).focus (Ended Fail) (Ended Fail)))) c e t
alone-step a w part count c i e t g same =
    subst (λ f. IsStepAt (focus_steps a w (part_of part).frames f) i e t → IsStepAt (open_steps a w (inside (part_of part).frames (whole f (Ended Fail) (Ended Fail)))) c e t) (sym g.leaf)
    (subst (λ n. IsStepAt (open_steps a w (inside (part_of part).frames g.tree)) n e t) same)

par-step : (a : Action) (w : World) (fs : List Frame) (k : ℕ) (x y : Tree) (c own : ℕ) (e : Effect) (t : Tree) → All IsKeptFrame fs → IsGoingTree x → IsGoingTree y →
    length (open_steps a w x) + length (open_steps a w y) + own ≡ c → IsStepAt (frames_steps fs) own e t → IsStepAt (open_steps a w (inside fs (Par k x y))) c e t
par-step a w fs k x y c own e t kept gx gy sum at =
    let left = on_side InLeft (λ x'. Par k x' y) in
    let right = on_side InRight (Par k x) in
    let both : List Step = map left (open_steps a w x) ++ map right (open_steps a w y) in
    let past : length (map (lifted fs) both) + own ≡ c = omega (arith, sum, length-map both (lifted fs), length-two_maps (open_steps a w x) (open_steps a w y) left right) in
    subst (λ s. IsStepAt s c e t) (sym (open-parts a w fs k x y kept gx gy)) (behind-at (map (lifted fs) both) (frames_steps fs) c own e t past at)

pair-step : (a : Action) (w : World) (part : Part) (count l r : ℕ) (x y : Tree) (c : ℕ) (e : Effect) (t : Tree) → IsPair part count l r x y → l ≡ length (open_steps a w x) → r ≡ length (open_steps a w y) →
    l + r ≤ c → IsStepAt (part_steps a w (part_of part)) (c - (l + r)) e t → IsStepAt (open_steps a w (inside (part_of part).frames (whole (part_of part).focus x y))) c e t
pair-step a w part count l r x y c e t g el er past =
    let fs = (part_of part).frames in
    let sum : length (open_steps a w x) + length (open_steps a w y) + (c - (l + r)) ≡ c = omega (arith, el, er, past) in
    subst (λ f. IsStepAt (focus_steps a w fs f) (c - (l + r)) e t → IsStepAt (open_steps a w (inside fs (whole f x y))) c e t) (sym g.parts)
    (par-step a w fs g.node x y c (c - (l + r)) e t (part_of-kept part) g.left_going g.right_going sum)

pub own-step : (a : Action) (w : World) (b : Branch) (c : ℕ) (e : Effect) (t : Tree) → IsGrown a b → below b ≤ c →
    IsStepAt (part_steps a w (part_of (out-Branch b).part)) (c - below b) e t → IsStepAt (open_steps a w (grown b)) c e t
unfolding out-Branch denote.Hole.Carrier.out
own-step a w (Branch' part count went None' None') c e t g past at = alone-step a w part count c (c - (0 + 0)) e t g (omega arith) at
own-step a w (Branch' part count went None' (Some' q r)) c e t g past at = absurd g
own-step a w (Branch' part count went (Some' p l) None') c e t g past at = absurd g
own-step a w (Branch' part count went (Some' p l) (Some' q r)) c e t g past at =
    pair-step a w part count (count_in l) (count_in r) (grown l) (grown r) c e t g.0 (open-count a w l g.1) (open-count a w r g.2) past at

-- ---- what stands in the part is sound

alone-sound : (a : Action) (part : Part) (count : ℕ) → IsAlone a part count → IsSoundTree a (inside (part_of part).frames (whole (part_of part).focus (Ended Fail) (Ended Fail))) → IsSoundPart a (part_of part)
alone-sound a part count g =
    subst (λ f. IsSoundTree a (inside (part_of part).frames (whole f (Ended Fail) (Ended Fail))) → IsSoundWithin a (part_of part).frames f) (sym g.leaf) (λ s. s)

pub own-sound : (a : Action) (b : Branch) → IsGrown a b → IsSoundTree a (grown b) → IsSoundPart a (part_of (out-Branch b).part)
unfolding out-Branch denote.Hole.Carrier.out
own-sound a (Branch' part count went None' None') g s = alone-sound a part count g s
own-sound a (Branch' part count went None' (Some' q r)) g s = absurd g
own-sound a (Branch' part count went (Some' p l) None') g s = absurd g
own-sound a (Branch' part count went (Some' p l) (Some' q r)) g s = subst (IsSoundWithin a (part_of part).frames) (sym g.0.parts) tt

-- ---- the steps of the frames of a part are open but for one

broken-open : (a : Action) (w : World) (fs : List Frame) (t : Tree) → All IsKeptFrame fs → length (frames_steps fs) ≤ length (open_steps a w (inside fs t)) + 1
broken-open a w [] t kept = omega arith
broken-open a w (f ∷ []) t kept = omega (arith, frames_steps-cons f [], own-at_most f)
broken-open a w (f ∷ g ∷ fs) t kept =
    let within = All-tail IsKeptFrame f (g ∷ fs) kept in
    let steps = open-wrapped a w f (inside (g ∷ fs) t) (All-head IsKeptFrame f (g ∷ fs) kept) (inside-going_frames (g ∷ fs) t (omega arith) within) in
    omega (
      arith,
      frames_steps-cons f (g ∷ fs),
      ap length steps,
      length-append (map (framed f) (open_steps a w (inside (g ∷ fs) t))) (own_steps f),
      length-map (open_steps a w (inside (g ∷ fs) t)) (framed f),
      broken-open a w (g ∷ fs) t within,
    )

alone-broken : (a : Action) (part : Part) (count : ℕ) → IsAlone a part count → part.broken ≤ count + 1
alone-broken a part count g =
    omega (arith, broken-frames part g.counted, g.counts empty_world, broken-open a empty_world (part_of part).frames g.tree (part_of-kept part))

pub own-broken : (a : Action) (b : Branch) → IsGrown a b → (out-Branch b).part.broken ≤ count_in b + 1
unfolding out-Branch denote.Hole.Carrier.out
own-broken a (Branch' part count went None' None') g = alone-broken a part count g
own-broken a (Branch' part count went None' (Some' q r)) g = absurd g
own-broken a (Branch' part count went (Some' p l) None') g = absurd g
own-broken a (Branch' part count went (Some' p l) (Some' q r)) g = omega (arith, g.0.counts)

-- ---- the step to which a way leads

pub own-there : (a : Action) (w w' : World) (b d1 d2 : Branch) (index own : ℕ) → d1 ≡ b → d2 ≡ b → IsGrown a b → way b index ≡ None → own ≡ index - below d1 →
    index < length (open_steps a w (grown b)) → own < length (part_steps a w' (part_of (out-Branch d2).part))
own-there a w w' b d1 d2 index own e f g ends is there =
    omega (
      arith,
      past-parts a b index g ends,
      ap below e,
      is,
      there,
      length-open a w w' (grown b),
      own-many a w' b g,
      ap (λ d. length (part_steps a w' (part_of (out-Branch d).part))) f,
    )

pub way-step : (a : Action) (w : World) (b d1 d2 : Branch) (index own : ℕ) (plan : Plan) → d1 ≡ b → d2 ≡ b → IsGrown a b → way b index ≡ None → own ≡ index - below d1 →
    IsPlan (part_steps a w (part_of (out-Branch d2).part)) own plan → IsStepAt (open_steps a w (grown b)) index (effect_of plan.change) (inside (kept_frames plan) (next_tree plan.next))
way-step a w b d1 d2 index own plan e f g ends is planned =
    own-step a w b index (effect_of plan.change) (inside (kept_frames plan) (next_tree plan.next)) g (past-parts a b index g ends)
    (subst (λ n. IsStepAt (part_steps a w (part_of (out-Branch b).part)) n (effect_of plan.change) (inside (kept_frames plan) (next_tree plan.next))) (is ∙ ap (λ d. index - below d) e)
    (subst (λ d. IsStepAt (part_steps a w (part_of (out-Branch d).part)) own (effect_of plan.change) (inside (kept_frames plan) (next_tree plan.next))) f planned.step))

-- ---- a step that stands somewhere is open

pub one-of : {X : Type 0} (xs : List X) (i : ℕ) (x : X) → slice_get xs i ≡ Some x → OneOf x xs
one-of [] i x at = cc
one-of (y ∷ xs) zero x at =
    let same : y ≡ x = cc in
    subst (λ z. OneOf z (y ∷ xs)) same Here
one-of (y ∷ xs) (suc i) x at = Later (one-of xs i x at)

pub step-sound : (a : Action) (w : World) (t u : Tree) (c : ℕ) (e : Effect) → IsProper a → IsSound a (record { tree = t; world = w }) → IsStepAt (open_steps a w t) c e u → IsSoundTree a u
step-sound a w t u c e proper sound at =
    let s : State = record { tree = t; world = w } in
    subst (IsSoundTree a) at.3 (sound-tree a (after at.0 s) proper (sound-after a s at.0 proper sound (one-of (open_steps a w t) c at.0 at.1)))
