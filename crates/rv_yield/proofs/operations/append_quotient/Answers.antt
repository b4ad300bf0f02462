-- Where an instruction isn't emitted, the assembler holds those before it.
use Rattle.std.proofs.Common.{◌≡◌, ℕ, List, [], ◌∷◌, ◌++◌, map, pos, ap, ◌∙◌, rules}
use Rattle.std.proofs.lemmas.Result.{on_err_weaker}
use Rattle.rv_code.specs.declared.instruction.Inst.{Inst}
use Rattle.rv_code.specs.declared.instruction.Inst.TheVariants.{Op, OpImm}
use Rattle.rv_code.specs.declared.instruction.OpOp.TheVariants.{Div, And}
use Rattle.rv_code.specs.declared.instruction.OpImmOp.TheVariants.{Slti}
use Rattle.rv_code.specs.declared.instruction.BranchOp.TheVariants.{Beq, Bne}
use Rattle.rv_asm.specs.Assembly.{Listing}
use Rattle.rv_asm.specs.declared.item.Item.{Item}
use Rattle.rv_asm.specs.declared.item.Item.TheVariants.{Plain, BranchTo}
use Rattle.rv_yield.specs.Fronts.{extended, AppendsFrontOf}
use Rattle.rv_yield.specs.YielderCode.{quotient_items}
use Rattle.rv_yield.proofs.Fronts.{front-none, front-second, front-same}
use Rattle.rv_yield.proofs.operations.append_quotient.Goals as goal

-- the instructions between the two branches
abbrev division : (to a b : ℕ) → List Inst
division to a b =
    OpImm Slti 29 a (pos 0) ∷ OpImm Slti 28 b (pos 0) ∷ Op And 29 29 28 ∷ Op Div to a b ∷ OpImm Slti 28 to (pos 0) ∷ Op And 29 29 28 ∷ []

abbrev first_branch : (b nothing : ℕ) → List Item
first_branch b nothing = BranchTo Beq b 0 nothing ∷ []

abbrev last_branch : ℕ → List Item
last_branch nothing = BranchTo Bne 29 0 nothing ∷ []

-- behind the first branch, a front of what follows
behind_first :
    (to a b nothing : ℕ) (old mid new : Listing) → mid ≡ extended old (first_branch b nothing) → AppendsFrontOf (map Plain (division to a b) ++ last_branch nothing) mid new →
    AppendsFrontOf (quotient_items to a b nothing) old new
behind_first to a b nothing old mid new e f = front-second (first_branch b nothing) (map Plain (division to a b) ++ last_branch nothing) old mid new e f

pub returns-in_err-append_divisor_test-clause-err : goal.returns-in_err-append_divisor_test-clause-err
returns-in_err-append_divisor_test-clause-err c =
    let front : AppendsFrontOf (quotient_items c.args.to c.args.a c.args.b c.args.nothing) c.args.asm.now c.append_divisor_test.new.asm = front-none _ _ _ c.in_err-append_divisor_test.ensures.err in
    search rules

pub returns-in_err-append_all-clause-err : goal.returns-in_err-append_all-clause-err
returns-in_err-append_all-clause-err c =
    let emitted = c.is_negative.result ∷ c.is_negative-2.result ∷ c.on_registers.result ∷ c.on_registers-2.result ∷ c.is_negative-3.result ∷ c.on_registers-3.result ∷ [] in
    let a = c.args in
    let front =
    behind_first a.to a.a a.b a.nothing a.asm.now c.append_divisor_test.new.asm c.append_all.new.asm c.in_ok-append_divisor_test.ensures.ok
    (front-same emitted (division a.to a.a a.b) (last_branch a.nothing) c.append_divisor_test.new.asm c.append_all.new.asm (search rules) c.in_err-append_all.ensures.err) in
    search rules

pub returns-clause-err : goal.returns-clause-err
returns-clause-err c =
    let emitted = c.is_negative.result ∷ c.is_negative-2.result ∷ c.on_registers.result ∷ c.on_registers-2.result ∷ c.is_negative-3.result ∷ c.on_registers-3.result ∷ [] in
    let a = c.args in
    let same : emitted ≡ division a.to a.a a.b = search rules in
    on_err_weaker c.branch-asm.result
    (λ e.
    behind_first a.to a.a a.b a.nothing a.asm.now c.append_divisor_test.new.asm c.branch-asm.new.self c.in_ok-append_divisor_test.ensures.ok
    (front-second (map Plain (division a.to a.a a.b)) (last_branch a.nothing) c.append_divisor_test.new.asm c.append_all.new.asm c.branch-asm.new.self
    (c.in_ok-append_all.ensures.ok ∙ ap (λ k. extended c.append_divisor_test.new.asm (map Plain k)) same) (front-none _ _ _ e)))
    c.branch-asm.ensures.err
