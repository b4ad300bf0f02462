-- The two instructions of a word stand behind those of the words so far.
use Rattle.std.proofs.Common.{◌≡◌, suc, ◌+◌, ◌-◌, ◌*◌, [], ◌∷◌, pos, to_z, of_z, w32, arith, rules, sym, ap, ◌∙◌, subst}
use Rattle.std.proofs.lemmas.Int.{ints}
use Rattle.rv_code.specs.declared.instruction.Inst.TheVariants.{Load}
use Rattle.rv_code.specs.declared.instruction.LoadOp.TheVariants.{Ld}
use Rattle.std.proofs.lemmas.Grind.{common_steps}
use Rattle.rv_asm.specs.PieceRuns.{CopiesWords}
use Rattle.rv_asm.specs.Pieces.{appended, copy_words}
use Rattle.rv_asm.proofs.Appended.{appended-copy_words_more}
use Rattle.rv_asm.proofs.PieceLeads.{copies-words}
use Rattle.rv_asm.proofs.Fronts.{front-none, front-one, front-copied}
use Rattle.rv_asm.proofs.pieces.copy_words.Goals as goal

pub loop-i-preserved : goal.loop-i-preserved
loop-i-preserved c =
    let load : to_z w32 (of_z w32 c.offset.result) ≡ pos (8 * (c.args.from + c.loop-i.i)) = grind (arith, ints, c.offset.ensures.is, c.requires.from, c.loop-i-test.true) in
    let store : to_z w32 (of_z w32 c.offset-in-loop-i.result) ≡ pos (8 * (c.args.to + c.loop-i.i)) = grind (arith, ints, c.offset-in-loop-i.ensures.is, c.requires.to, c.loop-i-test.true) in
    appended-copy_words_more c.args.asm.now c.loop-i.asm c.emit.new.self c.emit-in-loop-i.new.self c.loop-i.i c.args.scratch c.args.source c.args.from c.args.target c.args.to
    (to_z w32 (of_z w32 c.offset.result)) (to_z w32 (of_z w32 c.offset-in-loop-i.result))
    load store c.loop-i.invariant c.in_ok-emit.ensures.ok c.in_ok-emit-2.ensures.ok

pub returns-in_err-emit-clause-err : goal.returns-in_err-emit-clause-err
returns-in_err-emit-clause-err c =
    let front =
    front-copied c.loop-i.i (c.args.n - c.loop-i.i) c.args.n c.args.scratch c.args.source c.args.from c.args.target c.args.to c.args.asm.now c.loop-i.asm c.emit.new.self
    (omega arith) c.loop-i.invariant (front-none _ _ _ c.in_err-emit.ensures.err) in
    search rules

pub returns-in_err-emit-2-clause-err : goal.returns-in_err-emit-2-clause-err
returns-in_err-emit-2-clause-err c =
    let load : to_z w32 (of_z w32 c.offset.result) ≡ pos (8 * (c.args.from + c.loop-i.i)) = grind (arith, ints, c.offset.ensures.is, c.requires.from, c.loop-i-test.true) in
    let loaded : c.emit.new.self ≡ appended c.loop-i.asm (Load Ld c.args.scratch c.args.source (pos (8 * (c.args.from + c.loop-i.i))) ∷ []) =
    c.in_ok-emit.ensures.ok ∙ ap (λ z. appended c.loop-i.asm (Load Ld c.args.scratch c.args.source z ∷ [])) load in
    let front =
    front-copied c.loop-i.i (suc (c.args.n - c.loop-i.i - 1)) c.args.n c.args.scratch c.args.source c.args.from c.args.target c.args.to c.args.asm.now c.loop-i.asm c.emit-in-loop-i.new.self
    (omega arith) c.loop-i.invariant (front-one _ _ _ _ _ loaded (front-none _ _ _ c.in_err-emit-2.ensures.err)) in
    search rules

pub returns-clause-copies : goal.returns-clause-copies
returns-clause-copies c =
    let a = c.args in
    let same : c.loop-i.asm ≡ appended a.asm.now (copy_words a.n a.scratch a.source a.from a.target a.to) = first_of (search rules, grind (arith, common_steps)) in
    subst (CopiesWords a.n a.scratch a.source a.from a.target a.to a.asm.now) (sym same) (copies-words a.asm.now a.n a.scratch a.source a.from a.target a.to)
