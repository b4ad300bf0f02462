-- Each instruction encodes; where one isn't emitted, the assembler holds those before it.
use Rattle.std.proofs.Common.{◌≡◌, ℕ, zero, suc, ◌<◌, true, List, [], ◌∷◌, get_or, length, map, IsTrue, ◌∙◌, rules, sym, subst, arith}
use Rattle.rv_code.specs.Encode.{is_in_format}
use Rattle.rv_code.specs.declared.instruction.Inst.{Inst}
use Rattle.rv_asm.specs.declared.item.Item.TheVariants.{Plain}
use Rattle.rv_asm.proofs.Places.{and-true}
use Rattle.rv_yield.specs.Fronts.{AppendsFrontOf, are_in_format}
use Rattle.rv_yield.proofs.Fronts.{front-plain}
use Rattle.rv_yield.proofs.emitting.append_all.Goals as goal

in-format-at : (is : List Inst) (k : ℕ) (i : Inst) → are_in_format is ≡ true → k < length is → is_in_format (get_or is k i) ≡ true
in-format-at [] k i h lt = absurd (omega arith)
in-format-at (x ∷ is) zero i h lt = (and-true (is_in_format x) (are_in_format is) h).0
in-format-at (x ∷ is) (suc k) i h lt = in-format-at is k i (and-true (is_in_format x) (are_in_format is) h).1 (omega arith)

pub emit-requires : goal.emit-requires
emit-requires c =
    let item = c.inst-item.result in
    subst (λ i. IsTrue (is_in_format i)) (sym c.inst-item.is) (in-format-at c.args.insts.now c.loop-inst.inst-index item c.requires c.loop-inst-test.true)

pub returns-in_err-emit-clause-err : goal.returns-in_err-emit-clause-err
returns-in_err-emit-clause-err c =
    let front : AppendsFrontOf (map Plain c.args.insts.now) c.args.asm.now c.emit.new.self =
    front-plain c.args.insts.now c.args.asm.now c.emit.new.self (c.loop-inst.inst-index, c.in_err-emit.ensures.err ∙ c.loop-inst.invariant) in
    search rules
