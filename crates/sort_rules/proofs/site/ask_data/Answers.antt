use Rattle.std.proofs.Common.{◌∙◌}
use Rattle.sort_rules.proofs.AskedLaws.{marked_behind}
use Rattle.sort_rules.proofs.site.ask_data.Goals as goal

pub returns-clause-asked : goal.returns-clause-asked
returns-clause-asked c =
    marked_behind _ _ _ _ _ _ _ _ _ c.in_ok-mark.ensures c.in_ok-judged.ensures.wrong (c.as_slice.ensures.value ∙ c.in_ok-judged.ensures.closures) c.new-closures.ensures.items
