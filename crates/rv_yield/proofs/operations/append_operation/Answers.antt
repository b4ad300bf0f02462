-- A sum is written with the part whose register isn't the target behind.
use Rattle.std.proofs.Common.{◌≡◌, rules, arith, sym, subst}
use Rattle.std.proofs.lemmas.Grind.{common_steps}
use Rattle.std.proofs.lemmas.Result.{on_err_weaker}
use Rattle.action_terms.specs.Forms.{two_viewed}
use Rattle.rv_yield.specs.Fronts.{AppendsFrontOf}
use Rattle.rv_yield.specs.YielderCode.{operation_items, sum_items}
use Rattle.rv_yield.proofs.operations.append_operation.Goals as goal

pub returns-in-Sum-clause-err : goal.returns-in-Sum-clause-err
returns-in-Sum-clause-err c =
    let a = c.args in
    let same : operation_items (two_viewed a.operation) a.to a.a a.b a.nothing ≡ sum_items a.to a.a a.b a.nothing = first_of (search rules, grind (arith, common_steps)) in
    on_err_weaker c.append_sum.result (λ f. subst (λ i. AppendsFrontOf i a.asm.now c.append_sum.new.asm) (sym same) f) c.append_sum.ensures.err

pub returns-in-Sum-2-clause-err : goal.returns-in-Sum-2-clause-err
returns-in-Sum-2-clause-err c =
    let a = c.args in
    let same : operation_items (two_viewed a.operation) a.to a.a a.b a.nothing ≡ sum_items a.to a.b a.a a.nothing = first_of (search rules, grind (arith, common_steps)) in
    on_err_weaker c.append_sum-in-Sum-2.result (λ f. subst (λ i. AppendsFrontOf i a.asm.now c.append_sum-in-Sum-2.new.asm) (sym same) f) c.append_sum-in-Sum-2.ensures.err
