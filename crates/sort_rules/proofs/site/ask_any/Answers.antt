use Rattle.std.proofs.Common.{ap, ◌∙◌}
use Rattle.sort_rules.specs.Values.{clashes}
use Rattle.sort_rules.proofs.AskedLaws.{both_wrong, marked_behind}
use Rattle.sort_rules.proofs.site.ask_any.Goals as goal

pub returns-clause-asked : goal.returns-clause-asked
returns-clause-asked c =
    marked_behind _ _ _ _ _ _ _ _ _ c.in_ok-mark.ensures
    (both_wrong _ _ _ _ _ c.both_fit-fits.ensures c.in_ok-judged.ensures.wrong (c.is_no_clash.ensures ∙ ap clashes c.in_ok-judged.ensures.value))
    (c.as_slice.ensures.value ∙ c.in_ok-judged.ensures.closures) c.new-closures.ensures.items
