use Rattle.std.proofs.Common.{◌≡◌, ◌∙◌, ap, ap₂, sym, subst, Some}
use Rattle.action_sos.specs.Branches.{child_of, turned, grown, regrown, AreAround, AreGrown, most, IsGoingTree}
use Rattle.action_sos.specs.declared.branch.Branch.{out-Branch}
use Rattle.action_sos.proofs.Climbing.{IsCrumb, crumb, crumb-grown, crumb-regrown, IsMendedAt, mended-at, side-tree, side-going, side-count, side-grown, side-fits}
use Rattle.action_sos.proofs.branch.climb.Goals as goal

pub loop-around-preserved : goal.loop-around-preserved
loop-around-preserved c =
    let o = c.in-Some.outer.value in
    let x = c.loop-around.branch in
    let q = c.args.closes in
    let s = (out-Branch o).went in
    let new = c.refill.new.branch in
    let mid = c.deref_mut-in-Some.result.now in
    let room = c.loop-around.invariant.room in
    let k : IsCrumb most room.inner o = crumb most room.inner o (subst (AreAround most room.inner) c.in-Some.is room.stands) in
    let child : c.turn-around.result ≡ child_of s o = c.turn-around.ensures.child ∙ ap₂ (λ d m. child_of (out-Branch d).went m) c.deref.ensures c.deref_mut.ensures.value in
    let is : mid ≡ turned s (Some x) o =
    c.deref_mut-in-Some.ensures.value ∙ c.turn-around.ensures.turned ∙ ap₂ (λ d m. turned (out-Branch d).went (Some x) m) c.deref.ensures c.deref_mut.ensures.value in
    let m : IsMendedAt s q o new x k.other = mended-at s q o mid new x k.other k.is is c.refill.ensures in
    let going : IsGoingTree (grown x.value) = room.going c.in-Some.outer c.in-Some.is in
    record {
      room = record {
        inner = (out-Branch o).count;
        stands = subst (AreAround most (out-Branch o).count) (sym child) k.rest;
        few = side-count q most room.inner o new x k.other k.around s m room.few;
        going = λ y e. side-going q most room.inner o new x k.other k.around s m;
      };
      tree =
          ap (λ h. regrown q h (grown new)) child
          ∙ ap (regrown q (child_of s o)) (side-tree q most room.inner o new x k.other k.around s m)
          ∙ sym (crumb-regrown q o k.other (grown x.value) k.is)
          ∙ sym (ap (λ h. regrown q h (grown x.value)) c.in-Some.is)
          ∙ c.loop-around.invariant.tree;
      sound = λ a ga gb.
          let both = c.loop-around.invariant.sound a ga gb in
          let around = crumb-grown a o k.other (subst (AreGrown a) c.in-Some.is both.0) k.is in
          (subst (AreGrown a) (sym child) around.1, side-grown q most room.inner o new x k.other k.around s a m going both.1 around.0);
    }

pub refill-requires : goal.refill-requires
refill-requires c =
    let o = c.in-Some.outer.value in
    let x = c.loop-around.branch in
    let s = (out-Branch o).went in
    let mid = c.deref_mut-in-Some.result.now in
    let room = c.loop-around.invariant.room in
    let k : IsCrumb most room.inner o = crumb most room.inner o (subst (AreAround most room.inner) c.in-Some.is room.stands) in
    let is : mid ≡ turned s (Some x) o =
    c.deref_mut-in-Some.ensures.value ∙ c.turn-around.ensures.turned ∙ ap₂ (λ d m. turned (out-Branch d).went (Some x) m) c.deref.ensures c.deref_mut.ensures.value in
    let both = side-fits s room.inner o mid x k.other k.around k.is is room.few in
    record { counted = both.0; fits = both.1 }
