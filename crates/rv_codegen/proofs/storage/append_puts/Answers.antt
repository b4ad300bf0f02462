use Rattle.std.proofs.Common.{◌∙◌, arith}
use Rattle.rv_codegen.proofs.Emitting.{OnOk-then}
use Rattle.rv_codegen.proofs.storage.append_puts.Goals as goal

pub returns-then-plan-datum-clause-placed : goal.returns-then-plan-datum-clause-placed
returns-then-plan-datum-clause-placed c = OnOk-then c.append_put.result (λ same l. same l ∙ c.in_ok-append_pair.ensures.placed l) c.append_put.ensures.placed

pub returns-then-plan-datum-clause-short : goal.returns-then-plan-datum-clause-short
returns-then-plan-datum-clause-short c = OnOk-then c.append_put.result (λ more. omega (arith, more, c.in_ok-append_pair.ensures.short)) c.append_put.ensures.short

pub returns-clause-placed : goal.returns-clause-placed
returns-clause-placed c = OnOk-then c.append_put-2.result (λ same l. same l ∙ c.in_ok-append_pair-2.ensures.placed l) c.append_put-2.ensures.placed

pub returns-clause-short : goal.returns-clause-short
returns-clause-short c = OnOk-then c.append_put-2.result (λ more. omega (arith, more, c.in_ok-append_pair-2.ensures.short)) c.append_put-2.ensures.short
