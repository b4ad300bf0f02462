use Rattle.std.proofs.Common.{◌≡◌, ◌∙◌, take, sym, subst, arith}
use Rattle.std.proofs.lemmas.List.{take_all}
use Rattle.gram_form.specs.Plain.{texts}
use Rattle.source_lex.specs.Literals.{HasLengths}
use Rattle.source_lex.proofs.DistinctLiterals.{text_count}
use Rattle.source_lex.proofs.Search.{lengths-more}
use Rattle.source_lex.proofs.literals.Literals.new.Goals as goal

pub loop-literal-preserved : goal.loop-literal-preserved
loop-literal-preserved c =
    lengths-more c.loop-literal.lengths.keys c.insert.new.self.keys c.args.literals.now c.loop-literal.literal-index _ c.loop-literal-test.true
    c.in_ok-insert.ensures.keys c.loop-literal.invariant

pub returns-clause-lengths : goal.returns-clause-lengths
returns-clause-lengths c =
    let all : take c.loop-literal.literal-index (texts c.args.literals.now) ≡ texts c.args.literals.now =
    take_all c.loop-literal.literal-index (texts c.args.literals.now) (omega (arith, c.loop-literal-test.false, text_count c.args.literals.now)) in
    subst (HasLengths c.loop-literal.lengths.keys) (all ∙ sym c.in_ok-texts.ensures) c.loop-literal.invariant
