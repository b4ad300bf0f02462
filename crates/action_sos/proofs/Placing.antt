-- A step in its place.
use Rattle.std.proofs.Common.{◌≡◌, ℕ, ◌+◌, ◌<◌, ◌≤◌, Bool, Option, Some, None, Box, Global, refl, sym, ap, subst, ◌∙◌, arith}
use Rattle.std.specs.Prelude.{IsSome}
use Rattle.std.proofs.lemmas.Option.{same_Some}
use Rattle.action_terms.specs.Actions.{Action}
use Rattle.action_terms.specs.Acting.{Ended}
use Rattle.action_sos.specs.Views.{part_of}
use Rattle.action_sos.specs.Branches.{child_of, other_of, joined_of, count_in, grown, regrown_in, regrown, most, IsGoingTree, IsGrown, AreAround_in, AreAround, AreGrown_in, AreGrown, IsReached, HasRoom, IsTaken, IsOuter}
use Rattle.action_sos.specs.Taking.{IsJoined, AreJoined, IsFitting}
use Rattle.action_sos.specs.declared.part.Part.{Part}
use Rattle.action_sos.specs.declared.branch.Branch.{Branch, out-Branch}
use Rattle.action_sos.specs.declared.branch.Way.{Way}
use Rattle.action_sos.specs.declared.take.Made.{Made}
use Rattle.action_sos.proofs.Climbing.{IsCrumb, crumb, crumb-grown, crumb-regrown}
use Rattle.action_sos.proofs.Joining.{joined-more, joined-fits, joined-count, joined-going, joined-tree, joined-grown}

pub outer-one : (a : Action) (b : Branch) (around : Option (Box Branch Global)) (o : Box Branch Global) → IsReached a most b around → around ≡ Some o → IsOuter o.value
outer-one a b around o r e = record {
  action = a;
  inner = count_in b;
  stands = subst (AreAround most (count_in b)) e r.stands;
  others = subst (AreGrown a) e r.others;
}

-- ---- the branch has ended beside another one

pub record IsBeside (a : Action) (q : Bool) (m : ℕ) (o b : Branch) (p : Part) : Type 0 where
  pub joined : IsJoined q o b p
  pub stands : AreAround_in most m o
  pub others : AreGrown_in a o

both-there : (q : Bool) (around : Option (Box Branch Global)) (b : Branch) (joined : Option Part) (o : Box Branch Global) (p : Part) → AreJoined q around b joined → joined ≡ Some p → around ≡ Some o → IsJoined q o.value b p
both-there q around b joined o p j e f = subst (λ h. AreJoined q h b (Some p)) f (subst (AreJoined q around b) e j)

pub ended-beside : (way : Way) (made : Made) (fits : IsFitting way made) (p : Part) (o : Box Branch Global) → made.joined ≡ Some p → way.around ≡ Some o →
    IsBeside fits.action made.commits (count_in way.branch.value) o.value made.branch p
ended-beside way made fits p o e f = record {
  joined = both-there made.commits way.around made.branch made.joined o p fits.joined e f;
  stands = subst (AreAround most (count_in way.branch.value)) f fits.reached.stands;
  others = subst (AreGrown fits.action) f fits.reached.others;
}

module _ (a : Action) (q : Bool) (m : ℕ) (o b : Branch) (p : Part) (j : IsBeside a q m o b p) where
  k : IsCrumb most m o
  k = crumb most m o j.stands

  grows : IsGrown a k.other.value
  grows = (crumb-grown a o k.other j.others k.is).0

  is : part_of p ≡ joined_of q o j.joined.end (out-Branch k.other.value).part
  is = j.joined.part k.other k.is

  -- what its part wants of the other one
  pub there : IsSome (other_of o)
  there = subst IsSome (sym k.is) refl

  pub fits : (y : Box Branch Global) → other_of o ≡ Some y → count_in y.value + p.broken < (out-Branch y.value).part.broken + 18446744073709551616
  fits y e =
      subst (λ x. count_in x.value + p.broken < (out-Branch x.value).part.broken + 18446744073709551616) (same_Some k.other y (sym k.is ∙ e))
      (omega (arith, joined-fits a q most m o k.other.value k.around j.joined.end p grows is j.joined.counted))

  pub more : (y : Box Branch Global) → other_of o ≡ Some y → (out-Branch y.value).part.broken ≤ p.broken
  more y e =
      subst (λ x. (out-Branch x.value).part.broken ≤ p.broken) (same_Some k.other y (sym k.is ∙ e))
      (joined-more a q most m o k.other.value k.around j.joined.end p grows is j.joined.counted)

  -- the other one in place of the branch around both
  module _ (new : Branch) (rest : Option (Box Branch Global)) (is_rest : rest ≡ child_of (out-Branch o).went o) (takes : (y : Box Branch Global) → other_of o ≡ Some y → IsTaken y.value p new) where
    t : IsTaken k.other.value p new
    t = takes k.other k.is

    pub room : HasRoom rest new
    room = record {
      inner = (out-Branch o).count;
      stands = subst (AreAround most (out-Branch o).count) (sym is_rest) k.rest;
      few = joined-count a q most m o k.other.value k.around j.joined.end p grows is j.joined.counted new t;
      going = λ x e. joined-going a q most m o k.other.value k.around j.joined.end p grows is j.joined.counted new t;
    }

    pub tree : regrown q rest (grown new) ≡ regrown_in q o (grown b)
    tree =
        ap (λ h. regrown q h (grown new)) is_rest
        ∙ ap (regrown q (child_of (out-Branch o).went o)) (joined-tree a q most m o k.other.value k.around j.joined.end p grows is j.joined.counted new t)
        ∙ sym (crumb-regrown q o k.other (Ended j.joined.end) k.is)
        ∙ ap (regrown_in q o) (sym j.joined.ended)

    pub sound : (a' : Action) → AreGrown_in a' o → AreGrown a' rest × IsGrown a' new
    sound a' g =
        let both = crumb-grown a' o k.other g k.is in
        (subst (AreGrown a') (sym is_rest) both.1, joined-grown a' q most m o k.other.value k.around j.joined.end p both.0 is j.joined.counted new t)

-- ---- it stays where it is

stays-going : (q : Bool) (around : Option (Box Branch Global)) (b : Branch) → AreJoined q around b None → (x : Box Branch Global) → around ≡ Some x → IsGoingTree (grown b)
stays-going q None b j x i = cc
stays-going q (Some o) b j x i = j x i

pub stays : (way : Way) (made : Made) → IsFitting way made → made.joined ≡ None → HasRoom way.around made.branch
stays way made fits e = record {
  inner = count_in way.branch.value;
  stands = fits.reached.stands;
  few = fits.few;
  going = stays-going made.commits way.around made.branch (subst (AreJoined made.commits way.around made.branch) e fits.joined);
}

pub goes-back : (a : Action) (b : Branch) (around : Option (Box Branch Global)) → IsReached a most b around → HasRoom around b
goes-back a b around r = record { inner = count_in b; stands = r.stands; few = omega arith; going = r.going }
