use Rattle.rv_yield.specs.YielderCode.{load_items, store_items}
use Rattle.rv_codegen.proofs.Emitting.{OnOk-then, plain-both}
use Rattle.rv_codegen.proofs.data.append_move.Goals as goal

pub returns : goal.returns
returns c =
    OnOk-then c.append_store.result (λ e. plain-both c.args.asm.now c.append_load.new.asm c.append_store.new.asm (load_items 10 c.args.from) (store_items c.args.to) c.in_ok-append_load.ensures.ok e) c.append_store.ensures.ok
