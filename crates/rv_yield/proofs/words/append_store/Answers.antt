-- Far from the frame's address: where an instruction isn't emitted, the assembler holds those before it.
use Rattle.std.proofs.Common.{◌≡◌, ◌*◌, [], ◌∷◌, ◌++◌, pos, subst, rules, arith}
use Rattle.std.proofs.lemmas.Grind.{common_steps}
use Rattle.std.proofs.lemmas.Result.{on_err_weaker}
use Rattle.rv_code.specs.declared.instruction.Inst.TheVariants.{Op, Store}
use Rattle.rv_code.specs.declared.instruction.OpOp.TheVariants.{Add}
use Rattle.rv_code.specs.declared.instruction.StoreOp.TheVariants.{Sd}
use Rattle.rv_asm.specs.Pieces.{load_constant}
use Rattle.rv_asm.specs.declared.item.Item.TheVariants.{Plain}
use Rattle.rv_yield.specs.Fronts.{AppendsFrontOf}
use Rattle.rv_yield.specs.YielderCode.{store_items}
use Rattle.rv_yield.proofs.Fronts.{front-instructions, front-others}
use Rattle.rv_yield.proofs.words.append_store.Goals as goal

pub returns-in_err-load_constant-clause-err : goal.returns-in_err-load_constant-clause-err
returns-in_err-load_constant-clause-err c =
    let last = Op Add 11 11 2 ∷ Store Sd 11 10 (pos 0) ∷ [] in
    let piece : store_items c.args.offset ≡ load_constant 11 (8 * c.from.result) ++ last = first_of (search rules, grind (arith, common_steps)) in
    let front = front-instructions (load_constant 11 (8 * c.from.result)) last (store_items c.args.offset) c.args.asm.now c.load_constant.new.asm piece c.in_err-load_constant.ensures.err in
    search rules

pub returns-clause-err : goal.returns-clause-err
returns-clause-err c =
    let last = Op Add 11 11 2 ∷ Store Sd 11 10 (pos 0) ∷ [] in
    let piece : store_items c.args.offset ≡ load_constant 11 (8 * c.from.result) ++ last = first_of (search rules, grind (arith, common_steps)) in
    on_err_weaker c.append_all.result
    (λ f.
    front-others (load_constant 11 (8 * c.from.result)) last (store_items c.args.offset) c.args.asm.now c.load_constant.new.asm c.append_all.new.asm piece c.in_ok-load_constant.ensures.ok
    (subst (λ i. AppendsFrontOf (Plain i ∷ Plain (Store Sd 11 10 (pos 0)) ∷ []) c.load_constant.new.asm c.append_all.new.asm) c.add_frame.ensures f))
    c.append_all.ensures.err
