-- One turn of the way to a step keeps what holds of the branch and of those around it.
use Rattle.std.proofs.Common.{◌≡◌, ℕ, ◌≤◌, Option, Some, None, Box, Global, sym, subst, arith}
use Rattle.action_terms.specs.Actions.{Action}
use Rattle.action_sos.specs.Branches.{child_of, turned, count_in, way, grown, IsGoingTree, IsGrown, AreAround_in, AreAround, AreGrown_in, AreGrown, IsReached}
use Rattle.action_sos.specs.declared.part.Side.{Side}
use Rattle.action_sos.specs.declared.part.Side.TheVariants as side
use Rattle.action_sos.specs.declared.branch.Branch.{Branch, Branch', None', Some', out-Branch}
use Rattle.action_sos.specs.declared.branch.Branch.TheViews.{roll-Branch}

pub record IsTurned (a : Action) (limit : ℕ) (b x y : Branch) (h : Option (Box Branch Global)) : Type 0 where
  pub grows : IsGrown a x
  pub going : IsGoingTree (grown x)
  pub less : count_in x ≤ count_in b
  pub others : AreGrown a h → AreGrown_in a y
  pub stands : count_in b ≤ limit → AreAround limit (count_in b) h → AreAround_in limit (count_in x) y

turned-left : (a : Action) (limit : ℕ) (part : _) (count : _) (went : Side) (p q : _) (l r : Branch) (h : Option (Box Branch Global)) → IsGrown a (Branch' part count went (Some' p l) (Some' q r)) →
    IsTurned a limit (Branch' part count went (Some' p l) (Some' q r)) l (turned side.Left h (Branch' part count went (Some' p l) (Some' q r))) h
unfolding out-Branch denote.Hole.Carrier.out roll-Branch denote.Hole.Carrier.roll
turned-left a limit part count went p q l r None g = record {
  grows = g.1;
  going = g.0.left_going;
  less = omega (arith, g.0.counts);
  others = λ o. (g.2, tt);
  stands = λ few s. (record { counted = g.0.counted; node = g.0.node; parts = g.0.parts; counts = g.0.counts; going = g.0.right_going; few = few }, tt);
}
turned-left a limit part count went p q l r (Some z) g = record {
  grows = g.1;
  going = g.0.left_going;
  less = omega (arith, g.0.counts);
  others = λ o. (g.2, o);
  stands = λ few s. (record { counted = g.0.counted; node = g.0.node; parts = g.0.parts; counts = g.0.counts; going = g.0.right_going; few = few }, s);
}

turned-right : (a : Action) (limit : ℕ) (part : _) (count : _) (went : Side) (p q : _) (l r : Branch) (h : Option (Box Branch Global)) → IsGrown a (Branch' part count went (Some' p l) (Some' q r)) →
    IsTurned a limit (Branch' part count went (Some' p l) (Some' q r)) r (turned side.Right h (Branch' part count went (Some' p l) (Some' q r))) h
unfolding out-Branch denote.Hole.Carrier.out roll-Branch denote.Hole.Carrier.roll
turned-right a limit part count went p q l r None g = record {
  grows = g.2;
  going = g.0.right_going;
  less = omega (arith, g.0.counts);
  others = λ o. (g.1, tt);
  stands = λ few s. (record { counted = g.0.counted; node = g.0.node; parts = g.0.parts; counts = omega (arith, g.0.counts); going = g.0.left_going; few = few }, tt);
}
turned-right a limit part count went p q l r (Some z) g = record {
  grows = g.2;
  going = g.0.right_going;
  less = omega (arith, g.0.counts);
  others = λ o. (g.1, o);
  stands = λ few s. (record { counted = g.0.counted; node = g.0.node; parts = g.0.parts; counts = omega (arith, g.0.counts); going = g.0.left_going; few = few }, s);
}

pub turned-kept : (a : Action) (limit : ℕ) (b : Branch) (c : ℕ) (s : Side) (x : Box Branch Global) (h : Option (Box Branch Global)) → IsGrown a b → way b c ≡ Some s → child_of s b ≡ Some x →
    IsTurned a limit b x.value (turned s h b) h
unfolding out-Branch denote.Hole.Carrier.out
turned-kept a limit (Branch' part count went None' right) c s x h g w e = cc
turned-kept a limit (Branch' part count went (Some' p l) None') c s x h g w e = absurd g
turned-kept a limit (Branch' part count went (Some' p l) (Some' q r)) c side.Left x h g w e =
    let same : l ≡ x.value = cc in
    subst (λ z. IsTurned a limit (Branch' part count went (Some' p l) (Some' q r)) z (turned side.Left h (Branch' part count went (Some' p l) (Some' q r))) h) same (turned-left a limit part count went p q l r h g)
turned-kept a limit (Branch' part count went (Some' p l) (Some' q r)) c side.Right x h g w e =
    let same : r ≡ x.value = cc in
    subst (λ z. IsTurned a limit (Branch' part count went (Some' p l) (Some' q r)) z (turned side.Right h (Branch' part count went (Some' p l) (Some' q r))) h) same (turned-right a limit part count went p q l r h g)

pub reached-turn : (a : Action) (limit : ℕ) (b : Branch) (c : ℕ) (s : Side) (x y : Box Branch Global) (h : Option (Box Branch Global)) → way b c ≡ Some s → child_of s b ≡ Some x → y.value ≡ turned s h b →
    IsReached a limit b h → IsReached a limit x.value (Some y)
reached-turn a limit b c s x y h w e f g =
    let t = turned-kept a limit b c s x h g.grows w e in
    record {
      grows = t.grows;
      others = subst (AreGrown_in a) (sym f) (t.others g.others);
      stands = subst (AreAround_in limit (count_in x.value)) (sym f) (t.stands g.few g.stands);
      few = omega (arith, t.less, g.few);
      going = λ z i. t.going;
    }
