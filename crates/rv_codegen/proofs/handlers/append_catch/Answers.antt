-- The words are copied from the address in register 10 on, by two instructions for each.
use Rattle.std.proofs.Common.{◌*◌, [], ◌∷◌, ◌∙◌, arith}
use Rattle.rv_codegen.proofs.CaughtCode.{appended-placed, appended-total, constant-total, copied-total}
use Rattle.rv_codegen.proofs.Emitting.{OnOk-then}
use Rattle.rv_codegen.proofs.handlers.append_catch.Goals as goal

pub returns-then-first-from-lt257-clause-placed : goal.returns-then-first-from-lt257-clause-placed
returns-then-first-from-lt257-clause-placed c =
    OnOk-then c.copy_words.result (λ e. appended-placed c.args.asm.now c.copy_words.new.asm _ e) c.copy_words.ensures.ok

pub returns-then-first-from-lt257-clause-short : goal.returns-then-first-from-lt257-clause-short
returns-then-first-from-lt257-clause-short c =
    let few = c.requires.few in
    OnOk-then c.copy_words.result (λ e. omega (arith, copied-total c.args.asm.now c.copy_words.new.asm _ 0 2 _ e, few)) c.copy_words.ensures.ok

pub returns-clause-placed : goal.returns-clause-placed
returns-clause-placed c =
    let s1 = c.load_constant.new.asm in
    let s2 = c.emit.new.self in
    let first = appended-placed c.args.asm.now s1 _ c.in_ok-load_constant.ensures.ok in
    let second = appended-placed s1 s2 (_ ∷ []) c.in_ok-emit.ensures.ok in
    OnOk-then c.copy_words-2.result (λ e l. appended-placed s2 c.copy_words-2.new.asm _ e l ∙ second l ∙ first l) c.copy_words-2.ensures.ok

pub returns-clause-short : goal.returns-clause-short
returns-clause-short c =
    let s1 = c.load_constant.new.asm in
    let s2 = c.emit.new.self in
    let few = c.requires.few in
    let first = constant-total c.args.asm.now s1 5 (8 * c.from-2.result) c.in_ok-load_constant.ensures.ok in
    let second = appended-total s1 s2 (_ ∷ []) c.in_ok-emit.ensures.ok in
    OnOk-then c.copy_words-2.result (λ e. omega (arith, first, second, copied-total s2 c.copy_words-2.new.asm _ 0 5 0 e, few)) c.copy_words-2.ensures.ok
