-- A constant, a load, a message and an exit.
use Rattle.std.proofs.Common.{arith, ap, [], ◌∷◌, pos}
use Rattle.std.proofs.lemmas.Result.{on_ok_weaker}
use Rattle.rv_asm.specs.Assembly.{total}
use Rattle.rv_asm.specs.Pieces.{send_word, exit_with}
use Rattle.rv_asm.specs.declared.item.Item.TheVariants.{Plain}
use Rattle.rv_code.specs.declared.instruction.Inst.TheVariants.{Load}
use Rattle.rv_code.specs.declared.instruction.LoadOp.TheVariants.{Ld}
use Rattle.rv_asm.proofs.Labels.{total-append}
use Rattle.rv_yield_tests.proofs.Totals.{total-appended, total-constant}
use Rattle.rv_yield_tests.proofs.programs.append_end.Goals as goal

pub returns-clause-short : goal.returns-clause-short
returns-clause-short c =
    on_ok_weaker c.exit_with.result
    (λ e.
    let start = c.load_constant.new.asm in
    let constant = total-constant c.args.asm.now start 11 c.args.address c.in_ok-load_constant.ensures.ok in
    let loaded = ap (λ s. total s.items) c.in_ok-emit.ensures.ok in
    let load = total-append start.items (Plain (Load Ld 10 11 (pos 0)) ∷ []) in
    let message = total-appended c.emit.new.self c.send_word.new.asm (send_word 10 0) c.in_ok-send_word.ensures.ok in
    let end = total-appended c.send_word.new.asm c.exit_with.new.asm (exit_with 0) e in
    omega (arith, constant, loaded, load, message, end))
    c.exit_with.ensures.ok
