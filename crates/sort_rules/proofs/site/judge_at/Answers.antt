use Rattle.std.proofs.Common.{ap, ℕ}
use Rattle.sort_rules.specs.Judgements.{Judgement}
use Rattle.sort_rules.specs.MarkedRows.{contents_in, marked_table}
use Rattle.sort_rules.specs.Parts.{Part}
use Rattle.sort_rules.specs.Values.{value, wrong}
use Rattle.sort_rules.proofs.AskedLaws.{at_node}
use Rattle.action_terms.specs.Forms.{yielder_at}
use Rattle.sort_rules.proofs.site.judge_at.Goals as goal

pub returns-clause-value : goal.returns-clause-value
returns-clause-value c =
    let y = yielder_at c.args.graph.now.yielders c.args.number in
    at_node (marked_table c.args.site.now.rows.now) c.args.site.now.node _ _ _ (λ (c : ℕ → Part) (g h : Part). value c g h y) _
    (ap contents_in c.context_of-context.ensures.rows) c.context_of-context.ensures.g c.context_of-context.ensures.h (ap (λ (j : Judgement). j.value) c.in_ok-judged.ensures.judged)

pub returns-clause-wrong : goal.returns-clause-wrong
returns-clause-wrong c =
    let y = yielder_at c.args.graph.now.yielders c.args.number in
    at_node (marked_table c.args.site.now.rows.now) c.args.site.now.node _ _ _ (λ (c : ℕ → Part) (g h : Part). wrong c g h y) _
    (ap contents_in c.context_of-context.ensures.rows) c.context_of-context.ensures.g c.context_of-context.ensures.h (ap (λ (j : Judgement). j.wrong) c.in_ok-judged.ensures.judged)
