use Rattle.meta_check.proofs.DeclaredItems.{item_more}
use Rattle.meta_check.proofs.matching.as_items.Goals as goal

pub loop-declaration-preserved : goal.loop-declaration-preserved
loop-declaration-preserved c =
    item_more c.args.declarations.now c.loop-declaration.declaration-index _ c.loop-declaration.list.items c.push.new.self.items c.loop-declaration-test.true c.loop-declaration.invariant c.in_ok-push.ensures.items
