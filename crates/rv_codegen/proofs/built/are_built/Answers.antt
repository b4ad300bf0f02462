use Rattle.std.proofs.Common.{sym, ◌∙◌}
use Rattle.rv_codegen.proofs.BuiltCode.{built-on, built-stops}
use Rattle.rv_codegen.proofs.built.are_built.Goals as goal

pub loop-item-preserved : goal.loop-item-preserved
loop-item-preserved c =
    let ls = c.args.graph.now.yielders in
    sym (built-on ls c.args.items.now c.loop-item.item-index 0 c.loop-item-test.true (sym c.if-not-is_built_item.ensures)) ∙ c.loop-item.invariant

pub returns-then-not-is_built_item : goal.returns-then-not-is_built_item
returns-then-not-is_built_item c =
    let ls = c.args.graph.now.yielders in
    sym (sym c.loop-item.invariant ∙ built-stops ls c.args.items.now c.loop-item.item-index 0 c.loop-item-test.true (sym c.if-not-is_built_item.ensures))
