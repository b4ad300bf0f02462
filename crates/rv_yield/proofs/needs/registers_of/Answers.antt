-- No registers are known of a yielder whose code can't be made.
use Rattle.std.proofs.Common.{◌≡◌, slice_index, sym, ◌∙◌, rules}
use Rattle.action_terms.specs.Forms.{yielder_at}
use Rattle.rv_yield.proofs.NeedLaws.{need-none}
use Rattle.rv_yield.proofs.needs.registers_of.Goals as goal

pub returns-in-0-clause-unbuilt : goal.returns-in-0-clause-unbuilt
returns-in-0-clause-unbuilt c =
    let y = yielder_at c.args.graph.now.yielders c.args.yielder in
    let zero : slice_index c.args.needs.now c.args.yielder ≡ 0 = search rules in
    need-none y (sym (c.requires.needs.each c.args.yielder c.requires.datum) ∙ zero)
