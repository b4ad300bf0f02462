use Rattle.std.proofs.Common.{◌≡◌, ◌≤◌, ◌<◌, ◌+◌, ◌∙◌, Option, Some, None, Box, Global, ap, ap₂, sym, subst}
use Rattle.action_sos.specs.Branches.{child_of, opposite, other_of, turned, count_in, IsTaken}
use Rattle.action_sos.specs.declared.branch.Branch.{Branch, out-Branch}
use Rattle.action_sos.proofs.Climbing.{other-turned}
use Rattle.action_sos.proofs.branch.join.Goals as goal

-- what the second turn takes out is the other part
other_is : (o d m m2 t1 : Branch) (opp : _) (result : Option (Box Branch Global)) (other : Box Branch Global) → d ≡ o → m ≡ o → t1 ≡ turned (out-Branch d).went None m → m2 ≡ t1 →
    opp ≡ opposite (out-Branch d).went → result ≡ child_of opp m2 → result ≡ Some other → other_of o ≡ Some other
other_is o d m m2 t1 opp result other e1 e2 e3 e4 e5 e6 e7 =
    sym (other-turned (out-Branch o).went None o)
    ∙ sym (ap₂ child_of (e5 ∙ ap (λ z. opposite (out-Branch z).went) e1) (e4 ∙ e3 ∙ ap₂ (λ x y. turned (out-Branch x).went None y) e1 e2))
    ∙ sym e6 ∙ e7

pub take_part-requires : goal.take_part-requires
take_part-requires c =
    let is : other_of c.args.outer.value ≡ Some c.in-Some.other =
    other_is c.args.outer.value c.deref.result.now c.deref_mut.result.now c.deref_mut-2.result.now c.turn-around.new.branch c.opposite.result c.turn.result c.in-Some.other
    c.deref.ensures c.deref_mut.ensures.value c.turn-around.ensures.turned c.deref_mut-2.ensures.value c.opposite.ensures c.turn.ensures.child c.in-Some.is in
    record {
      fits = subst (λ b. count_in b + c.args.part.broken < (out-Branch b).part.broken + 18446744073709551616) (sym c.deref_mut-3.ensures.value) (c.requires.fits c.in-Some.other is);
      more = subst (λ b. (out-Branch b).part.broken ≤ c.args.part.broken) (sym c.deref_mut-3.ensures.value) (c.requires.more c.in-Some.other is);
    }

pub returns : goal.returns
returns c =
    let is : other_of c.args.outer.value ≡ Some c.in-Some.other =
    other_is c.args.outer.value c.deref.result.now c.deref_mut.result.now c.deref_mut-2.result.now c.turn-around.new.branch c.opposite.result c.turn.result c.in-Some.other
    c.deref.ensures c.deref_mut.ensures.value c.turn-around.ensures.turned c.deref_mut-2.ensures.value c.opposite.ensures c.turn.ensures.child c.in-Some.is in
    record {
      around = c.turn-around.ensures.child ∙ ap₂ (λ d m. child_of (out-Branch d).went m) c.deref.ensures c.deref_mut.ensures.value;
      joined = λ y e.
          let same : c.in-Some.other ≡ y = cc in
          subst (λ b. IsTaken b c.args.part c.take_part.new.branch) (c.deref_mut-3.ensures.value ∙ ap (λ z. z.value) same) c.take_part.ensures;
    }
