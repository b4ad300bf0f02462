use Rattle.std.proofs.Common.{◌≡◌, ◌<◌, ◌++◌, All, drop, true}
use Rattle.action_terms.specs.Forms.{items_at}
use Rattle.action_terms.specs.Need.{items_yielder_count}
use Rattle.rv_codegen.specs.Built.{are_built}
use Rattle.rv_codegen.specs.GivenItems.{give_items}
use Rattle.rv_codegen.proofs.data.append_data.Given as goal

-- with the items that are left, and the words that are left for them, all is there
abbrev pub invariant-loop-item : goal.invariant-loop-item
invariant-loop-item l =
    let is = items_at l.source.graph.now.yielders (drop l.item-index l.items) in
    record {
      items : l.asm.items ++ give_items l.source.given.now l.rest l.source.nothing is ≡ l.fn.asm.items ++ give_items l.source.given.now l.out l.source.nothing (items_at l.source.graph.now.yielders l.items);
      labels : l.asm.labels ≡ l.fn.asm.labels;
      built : are_built is ≡ true;
      few : items_yielder_count is < 65536;
      near : All (λ o. o < 33554432) l.rest;
    }
