use Rattle.std.proofs.Common.{List, [], ap, arith, map, refl, sym, ◌<◌, length, ◌∙◌, ◌≤◌}
use Rattle.sort_rules.specs.Parts.{Component, Listed}
use Rattle.sort_rules.specs.Sets.{Set}
use Rattle.sort_rules.specs.declared.set as memory
use Rattle.sort_rules.specs.Views.{place_of}
use Rattle.sort_rules.proofs.JoinedLists.{joined-differ, joined-end, joined-more}
use Rattle.sort_rules.proofs.tuples.joined.Goals as goal

pub returns-then-xs-ys : goal.returns-then-xs-ys
returns-then-xs-ys c = sym (joined-differ place_of c.args.xs.now c.args.ys.now c.if-xs-ys.true)

pub loop-i-preserved : goal.loop-i-preserved
loop-i-preserved c =
    let xs = c.args.xs.now in
    let ys = c.args.ys.now in
    let less2 : c.loop-i.i < length ys = omega (arith, c.loop-i-test.true, c.if-xs-ys.false) in
    joined-more place_of xs ys c.loop-i.i c.index-xs-i.result c.index-ys-i.result c.loop-i-test.true less2 c.index-xs-i.is c.index-ys-i.is c.loop-i.all.items c.push.new.self.items c.in_ok-set.set _ c.in_ok-push.ensures.items refl (ap (λ (s : Set). (let c : Component = record { token = []; set = s } in c)) c.in_ok-set.ensures) c.loop-i.invariant

pub returns : goal.returns
returns c =
    let xs = c.args.xs.now in
    let ys = c.args.ys.now in
    let less2 : length ys ≤ c.loop-i.i = omega (arith, c.loop-i-test.false, c.if-xs-ys.false) in
    ap (λ (zs : List memory.Set.Set). Listed (map place_of zs)) c.into_bump_slice.ensures ∙ joined-end place_of xs ys c.loop-i.all.items c.loop-i.i _ c.loop-i-test.false less2 c.loop-i.invariant
