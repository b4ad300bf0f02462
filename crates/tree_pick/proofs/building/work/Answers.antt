use Rattle.tree_pick.proofs.BuiltParts.{stack_more}
use Rattle.tree_pick.proofs.building.work.Goals as goal

pub build_phrase-requires-clause-stack : goal.build_phrase-requires-clause-stack
build_phrase-requires-clause-stack c =
    stack_more c.args.parse.now.grammar c.args.parse.now.kinds c.args.stack.now.items c.push_phrase.new.stack.items c.args.phrase c.in_ok-push_phrase.ensures c.requires.stack c.requires.has c.requires.within
