-- Far from the frame's address: where an instruction isn't emitted, the assembler holds those before it.
use Rattle.std.proofs.Common.{◌≡◌, ◌*◌, [], ◌∷◌, ◌++◌, pos, subst, rules, arith}
use Rattle.std.proofs.lemmas.Grind.{common_steps}
use Rattle.std.proofs.lemmas.Result.{on_err_weaker}
use Rattle.rv_code.specs.declared.instruction.Inst.TheVariants.{Op, Load}
use Rattle.rv_code.specs.declared.instruction.OpOp.TheVariants.{Add}
use Rattle.rv_code.specs.declared.instruction.LoadOp.TheVariants.{Ld}
use Rattle.rv_asm.specs.Pieces.{load_constant}
use Rattle.rv_asm.specs.declared.item.Item.TheVariants.{Plain}
use Rattle.rv_yield.specs.Fronts.{AppendsFrontOf}
use Rattle.rv_yield.specs.YielderCode.{load_items}
use Rattle.rv_yield.proofs.Fronts.{front-instructions, front-others}
use Rattle.rv_yield.proofs.words.append_load.Goals as goal

pub returns-in_err-load_constant-clause-err : goal.returns-in_err-load_constant-clause-err
returns-in_err-load_constant-clause-err c =
    let to = c.args.to in
    let last = Op Add to to 2 ∷ Load Ld to to (pos 0) ∷ [] in
    let piece : load_items to c.args.offset ≡ load_constant to (8 * c.from.result) ++ last = first_of (search rules, grind (arith, common_steps)) in
    let front = front-instructions (load_constant to (8 * c.from.result)) last (load_items to c.args.offset) c.args.asm.now c.load_constant.new.asm piece c.in_err-load_constant.ensures.err in
    search rules

pub returns-clause-err : goal.returns-clause-err
returns-clause-err c =
    let to = c.args.to in
    let last = Op Add to to 2 ∷ Load Ld to to (pos 0) ∷ [] in
    let piece : load_items to c.args.offset ≡ load_constant to (8 * c.from.result) ++ last = first_of (search rules, grind (arith, common_steps)) in
    on_err_weaker c.append_all.result
    (λ f.
    front-others (load_constant to (8 * c.from.result)) last (load_items to c.args.offset) c.args.asm.now c.load_constant.new.asm c.append_all.new.asm piece c.in_ok-load_constant.ensures.ok
    (subst (λ i. AppendsFrontOf (Plain i ∷ Plain (Load Ld to to (pos 0)) ∷ []) c.load_constant.new.asm c.append_all.new.asm) c.add_frame.ensures f))
    c.append_all.ensures.err
