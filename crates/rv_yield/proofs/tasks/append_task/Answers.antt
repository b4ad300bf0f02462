-- An operation's items are those of its task.
use Rattle.std.proofs.Common.{OnErr, sym, subst}
use Rattle.rv_yield.specs.Fronts.{AppendsFrontOf}
use Rattle.rv_yield.specs.Tasks.{task_items}
use Rattle.rv_yield.specs.Sources.{places_of}
use Rattle.rv_yield.proofs.tasks.append_task.Goals as goal

pub returns-in-OnTwo-clause-err : goal.returns-in-OnTwo-clause-err
returns-in-OnTwo-clause-err c =
    let s = c.args.source.now in
    subst (λ t. OnErr c.append_operation.result (AppendsFrontOf (task_items s.graph.now.yielders (places_of s) s.nothing t) c.args.asm.now c.append_operation.new.asm)) (sym c.in-OnTwo.is) c.append_operation.ensures.err

pub returns-in-OnOne-clause-err : goal.returns-in-OnOne-clause-err
returns-in-OnOne-clause-err c =
    let s = c.args.source.now in
    subst (λ t. OnErr c.append_one.result (AppendsFrontOf (task_items s.graph.now.yielders (places_of s) s.nothing t) c.args.asm.now c.append_one.new.asm)) (sym c.in-OnOne.is) c.append_one.ensures.err
