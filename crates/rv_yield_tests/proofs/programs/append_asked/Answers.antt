-- An exit stands behind a condition.
use Rattle.std.proofs.Common.{arith}
use Rattle.std.proofs.lemmas.Result.{on_ok_weaker}
use Rattle.rv_asm.specs.Pieces.{exit_with}
use Rattle.rv_yield_tests.proofs.Totals.{total-appended}
use Rattle.rv_yield_tests.proofs.programs.append_asked.Goals as goal

pub returns-in_ok-condition_code-in-Condition-clause-short : goal.returns-in_ok-condition_code-in-Condition-clause-short
returns-in_ok-condition_code-in-Condition-clause-short c =
    on_ok_weaker c.exit_with.result
    (λ e. omega (arith, c.in_ok-condition_code-in-Condition.ensures.short, c.requires.few, total-appended c.condition_code.new.asm c.exit_with.new.asm (exit_with 3) e))
    c.exit_with.ensures.ok
