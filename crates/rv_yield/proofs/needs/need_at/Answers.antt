-- What an operation needs.
use Rattle.std.proofs.Common.{◌≡◌, ap, ap₂, sym, ◌∙◌}
use Rattle.action_terms.specs.Actions.{Single, Them}
use Rattle.action_terms.specs.Forms.{two_viewed, yielder_at, yielder_in}
use Rattle.rv_yield.specs.Registers.{both_needed, need_of}
use Rattle.rv_yield.proofs.NeedLaws.{need-both}
use Rattle.rv_yield.proofs.needs.need_at.Goals as goal

pub returns-in-OnTwo-clause-need : goal.returns-in-OnTwo-clause-need
returns-in-OnTwo-clause-need c datum =
    let ls = c.args.graph.now.yielders in
    let a = c.in-OnTwo.ensures.arguments in
    c.need_of_both.ensures
    ∙ ap₂ both_needed (c.requires.behind c.in-OnTwo.first a.0.0 a.0.1) (c.requires.behind c.in-OnTwo.second a.1.0 a.1.1)
    ∙ need-both (two_viewed c.in-OnTwo.operation) (yielder_at ls c.in-OnTwo.first) (yielder_at ls c.in-OnTwo.second)
    ∙ ap need_of (sym (ap yielder_in c.in-OnTwo.ensures.item))

pub returns-in-Them-clause-need : goal.returns-in-Them-clause-need
returns-in-Them-clause-need c datum =
    let none : Them ≡ Single (yielder_at c.args.graph.now.yielders c.args.k) = sym c.in-Them.ensures.item ∙ datum.single in
    absurd (cc)
