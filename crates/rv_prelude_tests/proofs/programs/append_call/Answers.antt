-- Two instructions and a jump.
use Rattle.std.proofs.Common.{◌≡◌, ◌+◌, ◌≤◌, [], ◌∷◌, arith, refl, ◌∙◌}
use Rattle.std.proofs.lemmas.Result.{on_ok_weaker}
use Rattle.rv_asm.specs.declared.item.Item.TheVariants.{Jump}
use Rattle.rv_prelude_tests.proofs.Pieces.{placed-same, total-more}
use Rattle.rv_prelude_tests.proofs.programs.append_call.Goals as goal

pub returns-clause-short : goal.returns-clause-short
returns-clause-short c =
    let first = total-more c.args.asm.now c.emit.new.self _ c.in_ok-emit.ensures.ok in
    on_ok_weaker c.jump.result
    (λ e. omega (arith, first, c.in_ok-append_add.ensures.short, total-more c.append_add.new.asm c.jump.new.self (Jump c.args.to ∷ []) e))
    c.jump.ensures.ok

pub returns-clause-placed : goal.returns-clause-placed
returns-clause-placed c =
    let first = placed-same c.args.asm.now c.emit.new.self _ (λ l. refl) c.in_ok-emit.ensures.ok in
    on_ok_weaker c.jump.result
    (λ e l. placed-same c.append_add.new.asm c.jump.new.self (Jump c.args.to ∷ []) (λ k. refl) e l ∙ c.in_ok-append_add.ensures.placed l ∙ first l)
    c.jump.ensures.ok
