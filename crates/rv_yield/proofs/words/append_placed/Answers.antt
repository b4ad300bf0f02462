-- The word at an offset is loaded.
use Rattle.std.proofs.Common.{sym, subst, OnErr}
use Rattle.rv_yield.specs.Fronts.{AppendsFrontOf}
use Rattle.rv_yield.specs.YielderCode.{placed_items}
use Rattle.rv_yield.proofs.words.append_placed.Goals as goal

pub returns-in-Some-clause-err : goal.returns-in-Some-clause-err
returns-in-Some-clause-err c =
    subst (λ o. OnErr c.append_load.result (AppendsFrontOf (placed_items o c.args.to c.args.nothing) c.args.asm.now c.append_load.new.asm)) (sym c.in-Some.is) c.append_load.ensures.err
