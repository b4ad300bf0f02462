use Rattle.std.proofs.Common.{arith}
use Rattle.tree_pick.proofs.FirstLists.{taken_lists, taken_more, taken_there}
use Rattle.tree_pick.proofs.corners.add_pair.Goals as goal

pub returns-then-first-count-clause-first : goal.returns-then-first-count-clause-first
returns-then-first-count-clause-first c a b = absurd (omega (arith, a, c.if-first-count.true))

pub returns-then-whole-count-clause-first : goal.returns-then-whole-count-clause-first
returns-then-whole-count-clause-first c a b = absurd (omega (arith, b, c.if-whole-count.true))

pub index_mut-requires : goal.index_mut-requires
index_mut-requires c = omega (arith, c.requires.count, c.if-whole-count.false, c.args.lists.now.ok.0)

pub returns-clause-lists : goal.returns-clause-lists
returns-clause-lists c =
    taken_lists c.args.count c.args.pair.whole c.args.pair.first c.args.lists.now.items c.index_mut.result.now c.push.new.self c.requires (omega (arith, c.if-whole-count.false)) (omega (arith, c.if-first-count.false)) c.index_mut.ensures.value c.in_ok-push.ensures.items

pub returns-clause-more : goal.returns-clause-more
returns-clause-more c =
    taken_more c.args.count c.args.pair.whole c.args.pair.first c.args.lists.now.items c.index_mut.result.now c.push.new.self c.requires (omega (arith, c.if-whole-count.false)) (omega (arith, c.if-first-count.false)) c.index_mut.ensures.value c.in_ok-push.ensures.items

pub returns-clause-first : goal.returns-clause-first
returns-clause-first c a b =
    taken_there c.args.count c.args.pair.whole c.args.pair.first c.args.lists.now.items c.index_mut.result.now c.push.new.self c.requires b a c.index_mut.ensures.value c.in_ok-push.ensures.items
