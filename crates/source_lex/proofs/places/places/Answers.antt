use Rattle.std.proofs.Common.{◌∙◌, arith}
use Rattle.std.proofs.lemmas.List.{take_all}
use Rattle.gram_form.specs.Plain.{texts}
use Rattle.source_lex.proofs.DistinctLiterals.{text_count, texts-more}
use Rattle.source_lex.proofs.places.places.Goals as goal

pub loop-text-preserved : goal.loop-text-preserved
loop-text-preserved c =
    texts-more c.loop-text.places.keys c.insert.new.self.keys c.args.list.now c.loop-text.text-index _ c.requires c.loop-text-test.true
    c.in_ok-insert.ensures.keys c.loop-text.invariant

pub returns : goal.returns
returns c =
    c.loop-text.invariant ∙ take_all c.loop-text.text-index (texts c.args.list.now) (omega (arith, c.loop-text-test.false, text_count c.args.list.now))
