-- The other part in place of a branch whose part has ended.
use Rattle.std.proofs.Common.{◌≡◌, ℕ, ◌+◌, ◌≤◌, ◌⊎◌, inl, inr, Bool, List, [], ◌∷◌, ◌++◌, All, map, length, Some, None, Box, Global, refl, sym, ap, ap₂, subst, ◌∙◌, length-append, arith}
use Rattle.std.proofs.lemmas.List.Elements.{All-nil, All-cons, All-append}
use Rattle.action_terms.specs.Information.{World}
use Rattle.action_terms.specs.Actions.{Action}
use Rattle.action_terms.specs.Acting.{End, Tree, Ended}
use Rattle.action_terms.specs.Steps.{open_steps}
use Rattle.action_terms.specs.Frames.{Frame, wrap, shut_if}
use Rattle.action_sos.specs.Parts.{closes, Leaf, inside, IsKeptFrame, lifted, own_steps, frames_steps}
use Rattle.action_sos.specs.Views.{part_of, end_of, frame_of, focus_of}
use Rattle.action_sos.specs.Kept.{IsCounted}
use Rattle.action_sos.specs.Branches.{count_in, other_of, whole, grown, grown_of, node_of, beside_frame, joined_of, most, IsGoingTree, IsAlone, IsPair, IsGrown, IsAround, IsTaken, IsOuter}
use Rattle.action_sos.specs.declared.ends.End.{End as EndAt}
use Rattle.action_sos.specs.declared.part.Part.{Part}
use Rattle.action_sos.specs.declared.part.Side.{Side}
use Rattle.action_sos.specs.declared.part.Side.TheVariants as side
use Rattle.action_sos.specs.declared.part.Frame.TheVariants as frame
use Rattle.action_sos.specs.declared.part.Focus.TheVariants as focus
use Rattle.action_sos.specs.declared.branch.Branch.{Branch, Branch', None', Some', out-Branch}
use Rattle.action_sos.proofs.PartsClosed.{shut-kept}
use Rattle.action_sos.proofs.KeptInMemory.{part_of-kept}
use Rattle.action_sos.proofs.FramesOpen.{inside-behind, inside-going, open-inside}
use Rattle.action_sos.proofs.FrameCounts.{own-at_most, frames_steps-cons, frames_steps-append, frames_steps-inmost, frames_steps-shut}
use Rattle.action_sos.proofs.CountedParts.{broken-frames}
use Rattle.action_sos.proofs.Climbing.{crumb, crumb-grown, refit_side, out-grown, pair-grown}
use Rattle.std.proofs.lemmas.List.{length-map}
use Rattle.std.specs.Prelude.{option_map}
use Rattle.std.proofs.lemmas.Option.{same_Some}

pub beside-is : (s : Side) (k : ℕ) (z : EndAt) → frame_of (frame.Beside k s z) ≡ beside_frame s k (end_of z)
beside-is side.Left k z = refl
beside-is side.Right k z = refl

beside-kept : (s : Side) (k : ℕ) (z : End) → IsKeptFrame (beside_frame s k z)
beside-kept side.Left k z = tt
beside-kept side.Right k z = tt

beside-going : (s : Side) (k : ℕ) (z : End) (t : Tree) → IsGoingTree (wrap (beside_frame s k z) t)
beside-going side.Left k z t = tt
beside-going side.Right k z t = tt

-- ---- a well-grown branch, by its fields

pub grown-counted : (a : Action) (b : Branch) → IsGrown a b → IsCounted (out-Branch b).part
unfolding out-Branch denote.Hole.Carrier.out
grown-counted a (Branch' part count went None' None') g = g.counted
grown-counted a (Branch' part count went None' (Some' q r)) g = absurd g
grown-counted a (Branch' part count went (Some' p l) None') g = absurd g
grown-counted a (Branch' part count went (Some' p l) (Some' q r)) g = g.0.counted

pub record HasNone (a : Action) (b : Branch) : Type 0 where
  pub left : (out-Branch b).left ≡ None
  pub right : (out-Branch b).right ≡ None
  pub alone : IsAlone a (out-Branch b).part (out-Branch b).count

pub record HasTwo (a : Action) (b : Branch) : Type 0 where
  pub one : Box Branch Global
  pub two : Box Branch Global
  pub left : (out-Branch b).left ≡ Some one
  pub right : (out-Branch b).right ≡ Some two
  pub pair : IsPair (out-Branch b).part (out-Branch b).count (count_in one.value) (count_in two.value) (grown one.value) (grown two.value)
  pub left_grown : IsGrown a one.value
  pub right_grown : IsGrown a two.value

pub fields : (a : Action) (b : Branch) → IsGrown a b → HasNone a b ⊎ HasTwo a b
unfolding out-Branch denote.Hole.Carrier.out
fields a (Branch' part count went None' None') g = inl (record { left = refl; right = refl; alone = g })
fields a (Branch' part count went None' (Some' q r)) g = absurd g
fields a (Branch' part count went (Some' p l) None') g = absurd g
fields a (Branch' part count went (Some' p l) (Some' q r)) g = inr (record { one = _; two = _; left = refl; right = refl; pair = g.0; left_grown = g.1; right_grown = g.2 })

pub alone-grown : (a : Action) (b : Branch) → HasNone a b → IsGrown a b
unfolding out-Branch denote.Hole.Carrier.out
alone-grown a (Branch' part count went None' None') h = h.alone
alone-grown a (Branch' part count went None' (Some' q r)) h = let e = h.right in cc
alone-grown a (Branch' part count went (Some' p l) right) h = let e = h.left in cc

-- ---- the part within that around both

pub joined-is : (q : Bool) (o : Branch) (k : ℕ) (z : EndAt) (p self other : Part) (y : Box Branch Global) → (out-Branch o).part.focus ≡ focus.Parts k → part_of self ≡ closes q (part_of (out-Branch o).part) →
    other ≡ (out-Branch y.value).part →
    part_of p ≡ record { frames = (part_of self).frames ++ frame_of (frame.Beside k (out-Branch o).went z) ∷ (part_of other).frames; focus = (part_of other).focus } →
    part_of p ≡ joined_of q o (end_of z) (out-Branch y.value).part
joined-is q o k z p self other y is shut same e =
    e
    ∙ ap₂ (λ a b. record { frames = a.frames ++ frame_of (frame.Beside k (out-Branch o).went z) ∷ (part_of b).frames; focus = (part_of b).focus }) shut same
    ∙ ap (λ f. record { frames = map (shut_if q) (part_of (out-Branch o).part).frames ++ f ∷ (part_of (out-Branch y.value).part).frames; focus = (part_of (out-Branch y.value).part).focus })
    (beside-is (out-Branch o).went k z ∙ ap (λ f. beside_frame (out-Branch o).went (node_of (focus_of f)) (end_of z)) (sym is))

-- the other part
pub beside-one : (o : Branch) (p : Part) (y : Box Branch Global) → option_map (λ x. (out-Branch x.value).part) (other_of o) ≡ Some p → other_of o ≡ Some y → p ≡ (out-Branch y.value).part
beside-one o p y e f = same_Some p (out-Branch y.value).part (sym e ∙ ap (option_map (λ x. (out-Branch x.value).part)) f)

pub other-counted : (o : Branch) (p : Part) → IsOuter o → option_map (λ x. (out-Branch x.value).part) (other_of o) ≡ Some p → IsCounted p
other-counted o p outer e =
    let k = crumb most outer.inner o outer.stands in
    subst IsCounted (sym (beside-one o p k.other e k.is)) (grown-counted outer.action k.other.value (crumb-grown outer.action o k.other outer.others k.is).0)

-- ---- the joined branch

module _ (a : Action) (q : Bool) (limit n : ℕ) (o : Branch) (y : Branch) (k : IsAround limit (out-Branch o).part (out-Branch o).count n (count_in y) (grown y)) (z : End) (p : Part)
    (grows : IsGrown a y) (is : part_of p ≡ joined_of q o z (out-Branch y).part) (counted : IsCounted p) where
  outer : List Frame
  outer = map (shut_if q) (part_of (out-Branch o).part).frames

  f : Frame
  f = beside_frame (out-Branch o).went k.node z

  inner : List Frame
  inner = (part_of (out-Branch y).part).frames

  stack : (part_of p).frames ≡ outer ++ f ∷ inner
  unfolding outer f inner
  stack = ap (λ r. r.frames) is ∙ ap (λ c. map (shut_if q) (part_of (out-Branch o).part).frames ++ beside_frame (out-Branch o).went (node_of c) z ∷ (part_of (out-Branch y).part).frames) k.parts

  focus-same : (part_of p).focus ≡ (part_of (out-Branch y).part).focus
  focus-same = ap (λ r. r.focus) is

  kept : All IsKeptFrame outer
  unfolding outer
  kept = shut-kept q (part_of (out-Branch o).part).frames (part_of-kept (out-Branch o).part)

  -- what stands within the frames is what stood within those of the other part
  same-within : (t : Tree) → inside (part_of p).frames t ≡ inside outer (wrap f (inside inner t))
  same-within t = ap (λ l. inside l t) stack ∙ inside-behind outer (f ∷ inner) t

  side-whole : (s : Side) (t : Tree) → inside outer (wrap (beside_frame s k.node z) t) ≡ refit_side s q (out-Branch o).part (Ended z) t
  unfolding outer
  side-whole side.Left t = ap (λ c. inside (map (shut_if q) (part_of (out-Branch o).part).frames) (whole c (Ended z) t)) (sym k.parts)
  side-whole side.Right t = ap (λ c. inside (map (shut_if q) (part_of (out-Branch o).part).frames) (whole c t (Ended z))) (sym k.parts)

  -- how many steps stand open
  broken-sum : p.broken ≡ (out-Branch o).part.broken + length (own_steps f) + (out-Branch y).part.broken
  unfolding outer inner
  broken-sum =
      omega (
        arith,
        broken-frames p counted,
        ap (λ l. length (frames_steps l)) stack,
        frames_steps-append outer (f ∷ inner),
        frames_steps-cons f inner,
        frames_steps-shut q (part_of (out-Branch o).part).frames,
        broken-frames (out-Branch o).part k.counted,
        broken-frames (out-Branch y).part (grown-counted a y grows),
      )

  pub joined-more : (out-Branch y).part.broken ≤ p.broken
  joined-more = omega (arith, broken-sum)

  pub joined-fits : count_in y + p.broken ≤ (out-Branch y).part.broken + limit + 1
  joined-fits = omega (arith, broken-sum, own-at_most f, k.counts, k.few)

  module _ (new : Branch) (taken : IsTaken y p new) where
    new-within : grown new ≡ inside outer (wrap f (grown y))
    unfolding inner
    new-within =
        out-grown new
        ∙ ap (λ c. inside (part_of c).frames (whole (part_of c).focus (grown_of (out-Branch new).left) (grown_of (out-Branch new).right))) taken.part
        ∙ ap₂ (λ l r. inside (part_of p).frames (whole (part_of p).focus (grown_of l) (grown_of r))) taken.left taken.right
        ∙ ap (λ c. inside (part_of p).frames (whole c (grown_of (out-Branch y).left) (grown_of (out-Branch y).right))) focus-same
        ∙ same-within (whole (part_of (out-Branch y).part).focus (grown_of (out-Branch y).left) (grown_of (out-Branch y).right))
        ∙ ap (λ t. inside outer (wrap f t)) (sym (out-grown y))

    pub joined-going : IsGoingTree (grown new)
    unfolding f
    joined-going = subst IsGoingTree (sym new-within) (inside-going outer (wrap f (grown y)) kept (beside-going (out-Branch o).went k.node z (grown y)))

    pub joined-tree : grown new ≡ refit_side (out-Branch o).went q (out-Branch o).part (Ended z) (grown y)
    unfolding f
    joined-tree = new-within ∙ side-whole (out-Branch o).went (grown y)

    pub joined-count : count_in new ≤ (out-Branch o).count + 8
    joined-count = omega (arith, taken.counts, broken-sum, own-at_most f, k.counts)

    alone-count : (t : Tree) (w : World) → (part_of (out-Branch y).part).focus ≡ Leaf t → (out-Branch y).count ≡ length (open_steps a w (inside inner t)) → IsGoingTree (inside inner t) →
        (out-Branch new).count ≡ length (open_steps a w (inside (part_of p).frames t))
    unfolding outer f inner
    alone-count t w leaf e g =
        let steps = open-inside a w (outer ++ f ∷ []) (inside inner t) (All-append IsKeptFrame outer (f ∷ []) kept (All-cons IsKeptFrame f [] (beside-kept (out-Branch o).went k.node z) (All-nil IsKeptFrame))) g in
        let tree : inside (part_of p).frames t ≡ inside (outer ++ f ∷ []) (inside inner t) = same-within t ∙ sym (inside-behind outer (f ∷ []) (inside inner t)) in
        omega (
          arith,
          taken.counts,
          broken-sum,
          e,
          ap (λ u. length (open_steps a w u)) tree,
          ap length steps,
          length-lifted (outer ++ f ∷ []) (open_steps a w (inside inner t)) (frames_steps (outer ++ f ∷ [])),
          frames_steps-inmost outer f,
          frames_steps-shut q (part_of (out-Branch o).part).frames,
          broken-frames (out-Branch o).part k.counted,
        )
      where
        length-lifted : (fs : List Frame) (xs ys : List _) → length (map (lifted fs) xs ++ ys) ≡ length xs + length ys
        length-lifted fs xs ys = omega (arith, length-append (map (lifted fs) xs) ys, length-map xs (lifted fs))

    same-part : (out-Branch new).part ≡ p
    same-part = taken.part

    same-focus : (part_of (out-Branch new).part).focus ≡ (part_of (out-Branch y).part).focus
    same-focus = ap (λ c. (part_of c).focus) same-part ∙ focus-same

    joined-alone : HasNone a y → IsGrown a new
    unfolding inner
    joined-alone h =
        let t : Tree = h.alone.tree in
        let tree : grown y ≡ inside inner t =
        out-grown y ∙ ap (λ c. inside (part_of (out-Branch y).part).frames (whole c (grown_of (out-Branch y).left) (grown_of (out-Branch y).right))) h.alone.leaf in
        let going : IsGoingTree (inside inner t) = subst IsGoingTree tree k.going in
        alone-grown a new
        (record {
          left = taken.left ∙ h.left;
          right = taken.right ∙ h.right;
          alone = record {
            counted = subst IsCounted (sym same-part) counted;
            tree = t;
            leaf = same-focus ∙ h.alone.leaf;
            counts = λ w.
                alone-count t w h.alone.leaf (h.alone.counts w) going
                ∙ ap (λ c. length (open_steps a w (inside (part_of c).frames t))) (sym same-part);
          };
        })

    joined-pair : HasTwo a y → IsGrown a new
    joined-pair h =
        pair-grown a new h.one h.two (taken.left ∙ h.left) (taken.right ∙ h.right)
        (record {
          counted = subst IsCounted (sym same-part) counted;
          node = h.pair.node;
          parts = same-focus ∙ h.pair.parts;
          counts = omega (arith, taken.counts, h.pair.counts, ap (λ c. c.broken) same-part);
          left_going = h.pair.left_going;
          right_going = h.pair.right_going;
        }) h.left_grown h.right_grown

    pub joined-grown : IsGrown a new
    joined-grown = elim (fields a y grows) [ inl h ↦ joined-alone h | inr h ↦ joined-pair h ]
