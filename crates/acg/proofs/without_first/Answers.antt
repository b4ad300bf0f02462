-- The iterator gives all arguments but the first.
use Rattle.std.proofs.Common.{◌≡◌, length, sym, ◌∙◌, arith}
use Rattle.std.specs.Iterator.Adapters.{skip_source, skip_count}
use Rattle.std.specs.Vec.Iter.{into_iter_items, into_iter_len}
use Rattle.std.proofs.lemmas.List.{map-id}
use Rattle.std.proofs.lemmas.Iterator.Consumers.{YieldsList-end, YieldsList-turn}
use Rattle.acg.proofs.Others.{others-yielded, some-at-err}
use Rattle.acg.proofs.without_first.Goals as goal

pub returns-clause-ok : goal.returns-clause-ok
returns-clause-ok c =
    let len : into_iter_len c.args.args ≡ length (into_iter_items c.args.args) = omega (arith, c.args.args.rest.ok.0) in
    let others = others-yielded c.args.args c.into_iter-argument-iterator.result len (cc) (cc) in
    let end = YieldsList-end others c.loop-argument.yielded c.loop-argument.argument-iterator c.loop-argument.yielded_by c.next.result c.next.new.self c.in-None.is c.next.ensures.steps in
    c.loop-argument.invariant ∙ sym (map-id c.loop-argument.yielded) ∙ end.0

pub returns-in_err-push-clause-err : goal.returns-in_err-push-clause-err
returns-in_err-push-clause-err c =
    let len : into_iter_len c.args.args ≡ length (into_iter_items c.args.args) = omega (arith, c.args.args.rest.ok.0) in
    let others = others-yielded c.args.args c.into_iter-argument-iterator.result len (cc) (cc) in
    let turn = YieldsList-turn others c.loop-argument.yielded c.loop-argument.argument-iterator c.loop-argument.yielded_by c.next.result c.next.new.self c.in-Some.argument c.in-Some.is c.next.ensures.steps in
    some-at-err c.from_residual.result _ _ turn.0
