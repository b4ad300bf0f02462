-- One write of one piece.
use Rattle.acg_words.proofs.PrintsLemmas.{broken-one}
use Rattle.acg_words.proofs.prints.print.Goals as goal

pub returns-clause-broken : goal.returns-clause-broken
returns-clause-broken g c = broken-one g.K.Sink c.args.text.now c.args.out.now _ c.write.result c.write.ensures.writes c.write.ensures.part
