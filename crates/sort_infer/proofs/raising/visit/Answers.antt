use Rattle.std.proofs.Common.{List, subst}
use Rattle.action_terms.specs.Meaning.{action_of}
use Rattle.sort_rules.specs.Admissible.{Holds}
use Rattle.sort_rules.specs.MarkedRows.{marked_table}
use Rattle.sort_rules.specs.declared.rows.MarkedRow.{MarkedRow}
use Rattle.sort_infer.proofs.Growing.{grows_refl}
use Rattle.sort_infer.proofs.raising.visit.Goals as goal

pub returns-then-met-clause-grows : goal.returns-then-met-clause-grows
returns-then-met-clause-grows c = grows_refl (action_of c.args.task.now.graph.now) c.args.rows.now.items c.requires.table

pub returns-then-met-clause-holds : goal.returns-then-met-clause-holds
returns-then-met-clause-holds c = λ e.
    let a = action_of c.args.task.now.graph.now in
    let k = c.args.node in
    subst (λ (rows : List MarkedRow). Holds a (marked_table rows) k) c.as_slice.ensures.value (c.in_ok-met.ensures c.if-met.true)
