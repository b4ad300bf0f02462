use Rattle.std.proofs.Common.{ap, sym, subst, ◌∙◌, ◌<◌, All, arith}
use Rattle.std.proofs.lemmas.List.Elements.{All-drop}
use Rattle.rv_codegen.proofs.BuiltCode.{built-rest, count-next, items-next}
use Rattle.rv_codegen.proofs.DataItems.{gives-next}
use Rattle.rv_codegen.proofs.data.append_data.Goals as goal

pub loop-item-preserved : goal.loop-item-preserved
loop-item-preserved c =
    let ls = c.args.source.now.graph.now.yielders in
    let i = c.loop-item.item-index in
    let less = c.loop-item-test.true in
    let done = c.in_ok-rest.ensures in
    record {
      items = gives-next c.loop-item.asm c.append_item.new.asm c.args.source.now.given.now c.loop-item.rest.now _ c.args.source.now.nothing _ _ _ (items-next ls c.args.items.now i _ less) done.rest done.items ∙ c.loop-item.invariant.items;
      labels = ap (λ s. s.labels) done.items ∙ c.loop-item.invariant.labels;
      built = built-rest ls c.args.items.now i 0 less c.loop-item.invariant.built;
      few = omega (arith, count-next ls c.args.items.now i 0 less, c.loop-item.invariant.few);
      near = subst (λ os. All (λ o. o < 33554432) os) (sym done.rest) (All-drop (λ o. o < 33554432) _ c.loop-item.rest.now c.loop-item.invariant.near);
    }
