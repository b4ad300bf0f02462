use Rattle.std.proofs.Common.{◌≡◌, ◌∙◌, ap, subst, [], ◌∷◌, ◌++◌, take, drop, arith}
use Rattle.std.proofs.lemmas.Grind.{common_steps}
use Rattle.action_values.specs.Puts.{Puts}
use Rattle.action_values.specs.Values.{bindings_of}
use Rattle.action_values.proofs.Laying.{bound_into, set-bound}
use Rattle.action_values.proofs.bindings.put.Goals as goal

pub returns-in-Ok : goal.returns-in-Ok
returns-in-Ok c = set-bound c.as_slice.result.now c.args.list.now.items c.in-Ok.i c.args.binding c.as_slice.ensures.value c.in-Ok.ensures.bound_in c.in-Ok.ensures.bound_at

pub returns-in_ok-insert-in-Err : goal.returns-in_ok-insert-in-Err
returns-in_ok-insert-in-Err c =
    let xs = c.args.list.now.items in
    let e : c.insert.new.self.items ≡ (take c.in-Err.i xs ++ c.args.binding ∷ []) ++ drop c.in-Err.i xs = grind (arith, common_steps) in
    ap bindings_of e ∙ bound_into xs c.args.binding c.in-Err.i c.in-Err.i (subst (λ l. Puts l c.args.binding.token.now (take c.in-Err.i l) (drop c.in-Err.i l)) c.as_slice.ensures.value c.in-Err.ensures.put_at)
