use Rattle.std.proofs.Common.{List, ap, arith, false, length, map, sym, true, ◌<◌, ◌∙◌, ◌≡◌, ◌≤◌}
use Rattle.sort_rules.specs.Parts.{Component, Listed, same_token}
use Rattle.sort_rules.specs.Sets.{Set}
use Rattle.sort_rules.specs.Views.{pair_of}
use Rattle.sort_rules.proofs.JoinedLists.{joined-clash, joined-differ, joined-end, joined-more}
use Rattle.sort_rules.proofs.Putting.{Pair}
use Rattle.sort_rules.proofs.maps.joined.Goals as goal

pub returns-then-xs-ys : goal.returns-then-xs-ys
returns-then-xs-ys c = sym (joined-differ pair_of c.args.xs.now c.args.ys.now c.if-xs-ys.true)

pub returns-then-not-same_token : goal.returns-then-not-same_token
returns-then-not-same_token c =
    let xs = c.args.xs.now in
    let ys = c.args.ys.now in
    let less2 : c.loop-i.i < length ys = omega (arith, c.loop-i-test.true, c.if-xs-ys.false) in
    let other : same_token c.index-xs-i.result.0.now c.index-ys-i.result.0.now ≡ false = cc c.if-not-same_token.ensures in
    joined-clash pair_of xs ys c.loop-i.i c.index-xs-i.result c.index-ys-i.result c.loop-i-test.true less2 c.index-xs-i.is c.index-ys-i.is c.loop-i.all.items _ other c.loop-i.invariant

pub loop-i-preserved : goal.loop-i-preserved
loop-i-preserved c =
    let xs = c.args.xs.now in
    let ys = c.args.ys.now in
    let x = c.index-xs-i.result in
    let less2 : c.loop-i.i < length ys = omega (arith, c.loop-i-test.true, c.if-xs-ys.false) in
    let same : same_token x.0.now c.index-ys-i.result.0.now ≡ true = cc c.if-not-same_token.ensures in
    let united = ap (λ (s : Set). let p : Component = record { token = x.0.now; set = s } in p) c.in_ok-set.ensures in
    joined-more pair_of xs ys c.loop-i.i x c.index-ys-i.result c.loop-i-test.true less2 c.index-xs-i.is c.index-ys-i.is c.loop-i.all.items c.push.new.self.items (x.0, c.in_ok-set.set) _ c.in_ok-push.ensures.items same united c.loop-i.invariant

pub returns : goal.returns
returns c =
    let xs = c.args.xs.now in
    let ys = c.args.ys.now in
    let less2 : length ys ≤ c.loop-i.i = omega (arith, c.loop-i-test.false, c.if-xs-ys.false) in
    ap (λ (zs : List Pair). Listed (map pair_of zs)) c.into_bump_slice.ensures ∙ joined-end pair_of xs ys c.loop-i.all.items c.loop-i.i _ c.loop-i-test.false less2 c.loop-i.invariant
