-- Where an instruction isn't emitted, the assembler holds those before it.
use Rattle.std.proofs.Common.{◌≡◌, ℕ, List, [], ◌∷◌, pos, ap, ◌∙◌, rules}
use Rattle.std.proofs.lemmas.Result.{on_err_weaker}
use Rattle.rv_code.specs.declared.instruction.Inst.TheVariants.{Load}
use Rattle.rv_code.specs.declared.instruction.LoadOp.TheVariants.{Ld}
use Rattle.rv_code.specs.declared.instruction.BranchOp.TheVariants.{Beq}
use Rattle.rv_asm.specs.Assembly.{Listing}
use Rattle.rv_asm.specs.declared.item.Item.{Item}
use Rattle.rv_asm.specs.declared.item.Item.TheVariants.{Plain, BranchTo}
use Rattle.rv_yield.specs.Fronts.{extended, AppendsFrontOf}
use Rattle.rv_yield.specs.YielderCode.{content_items}
use Rattle.rv_yield.proofs.Fronts.{front-none, front-second}
use Rattle.rv_yield.proofs.operations.append_content.Goals as goal

-- where the branch isn't emitted
behind_load : (to a nothing : ℕ) (old mid new : Listing) → mid ≡ extended old (Plain (Load Ld 29 a (pos 0)) ∷ []) → new ≡ mid → AppendsFrontOf (content_items to a nothing) old new
behind_load to a nothing old mid new e same =
    front-second (Plain (Load Ld 29 a (pos 0)) ∷ []) (BranchTo Beq 29 0 nothing ∷ Plain (Load Ld to a (pos 8)) ∷ []) old mid new e (front-none _ mid new same)

-- where the second load isn't emitted
behind_test :
    (to a nothing : ℕ) (old mid mid' new : Listing) → mid ≡ extended old (Plain (Load Ld 29 a (pos 0)) ∷ []) → mid' ≡ extended mid (BranchTo Beq 29 0 nothing ∷ []) → new ≡ mid' →
    AppendsFrontOf (content_items to a nothing) old new
behind_test to a nothing old mid mid' new e f same =
    front-second (Plain (Load Ld 29 a (pos 0)) ∷ []) (BranchTo Beq 29 0 nothing ∷ Plain (Load Ld to a (pos 8)) ∷ []) old mid new e
    (front-second (BranchTo Beq 29 0 nothing ∷ []) (Plain (Load Ld to a (pos 8)) ∷ []) mid mid' new f (front-none _ mid' new same))

pub returns-in_err-emit-clause-err : goal.returns-in_err-emit-clause-err
returns-in_err-emit-clause-err c =
    let front : AppendsFrontOf (content_items c.args.to c.args.a c.args.nothing) c.args.asm.now c.emit.new.self = front-none _ _ _ c.in_err-emit.ensures.err in
    search rules

pub returns-in_err-branch-clause-err : goal.returns-in_err-branch-clause-err
returns-in_err-branch-clause-err c =
    let a = c.args in
    let first : c.emit.new.self ≡ extended a.asm.now (Plain (Load Ld 29 a.a (pos 0)) ∷ []) = c.in_ok-emit.ensures.ok ∙ ap (λ i. extended a.asm.now (Plain i ∷ [])) c.load.ensures in
    let front = behind_load a.to a.a a.nothing a.asm.now c.emit.new.self c.branch-asm.new.self first c.in_err-branch.ensures.err in
    search rules

pub returns-clause-err : goal.returns-clause-err
returns-clause-err c =
    let a = c.args in
    let first : c.emit.new.self ≡ extended a.asm.now (Plain (Load Ld 29 a.a (pos 0)) ∷ []) = c.in_ok-emit.ensures.ok ∙ ap (λ i. extended a.asm.now (Plain i ∷ [])) c.load.ensures in
    on_err_weaker c.emit-2.result (λ same. behind_test a.to a.a a.nothing a.asm.now c.emit.new.self c.branch-asm.new.self c.emit-2.new.self first c.in_ok-branch.ensures.ok same) c.emit-2.ensures.err
