use Rattle.equation_expand.proofs.FilledItems.{phrase-applied, phrase-under}
use Rattle.equation_expand.proofs.filled.meaning_of.Goals as goal

pub returns-in-Sub-clause-filled : goal.returns-in-Sub-clause-filled
returns-in-Sub-clause-filled c s = phrase-applied s c.args.part c.in_ok-tree.field-0 c.in-Sub.tree c.args.function.now c.in_ok-tree.was c.in-Sub.is

pub returns-in-Sub-clause-under : goal.returns-in-Sub-clause-under
returns-in-Sub-clause-under c t h = phrase-under c.args.part c.in_ok-tree.field-0 c.in-Sub.tree t c.in_ok-tree.was c.in-Sub.is h
