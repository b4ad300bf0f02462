-- Two constants and a store.
use Rattle.std.proofs.Common.{arith, ap, [], ◌∷◌, ◌+◌, ◌*◌, pos}
use Rattle.std.proofs.lemmas.Result.{on_ok_weaker}
use Rattle.rv_asm.specs.Assembly.{total}
use Rattle.rv_asm.specs.declared.item.Item.TheVariants.{Plain}
use Rattle.rv_code.specs.declared.instruction.Inst.TheVariants.{Store}
use Rattle.rv_code.specs.declared.instruction.StoreOp.TheVariants.{Sd}
use Rattle.rv_asm.proofs.Labels.{total-append}
use Rattle.rv_yield_tests.proofs.Totals.{total-constant}
use Rattle.rv_yield_tests.proofs.programs.append_word.Goals as goal

pub returns-clause-short : goal.returns-clause-short
returns-clause-short c =
    let start = c.load_constant.new.asm in
    let mid = c.load_constant-2.new.asm in
    let first = total-constant c.args.asm.now start 10 c.cast_unsigned.result c.in_ok-load_constant.ensures.ok in
    let second = total-constant start mid 11 (33554432 + 8 * c.from.result) c.in_ok-load_constant-2.ensures.ok in
    let store = total-append mid.items (Plain (Store Sd 11 10 (pos 0)) ∷ []) in
    on_ok_weaker c.emit.result (λ e. omega (arith, first, second, ap (λ s. total s.items) e, store)) c.emit.ensures.ok
