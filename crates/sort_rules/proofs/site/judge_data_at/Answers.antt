use Rattle.std.proofs.Common.{ap, ℕ}
use Rattle.sort_rules.specs.MarkedRows.{contents_in, marked_table}
use Rattle.sort_rules.specs.Parts.{Part}
use Rattle.sort_rules.specs.Values.{items_value, items_wrong}
use Rattle.sort_rules.proofs.AskedLaws.{at_node}
use Rattle.action_terms.specs.Forms.{items_at}
use Rattle.sort_rules.proofs.site.judge_data_at.Goals as goal

pub returns-clause-value : goal.returns-clause-value
returns-clause-value c =
    let is = items_at c.args.graph.now.yielders c.args.numbers.now in
    at_node (marked_table c.args.site.now.rows.now) c.args.site.now.node _ _ _ (λ (c : ℕ → Part) (g h : Part). items_value c g h is) _
    (ap contents_in c.context_of-context.ensures.rows) c.context_of-context.ensures.g c.context_of-context.ensures.h c.in_ok-judged.ensures.value

pub returns-clause-wrong : goal.returns-clause-wrong
returns-clause-wrong c =
    let is = items_at c.args.graph.now.yielders c.args.numbers.now in
    at_node (marked_table c.args.site.now.rows.now) c.args.site.now.node _ _ _ (λ (c : ℕ → Part) (g h : Part). items_wrong c g h is) _
    (ap contents_in c.context_of-context.ensures.rows) c.context_of-context.ensures.g c.context_of-context.ensures.h c.in_ok-judged.ensures.wrong
