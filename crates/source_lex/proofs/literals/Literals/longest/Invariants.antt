use Rattle.gram_form.specs.Plain.{texts}
use Rattle.source_lex.proofs.Search.{IsFound, AreAtMost}
use Rattle.source_lex.proofs.literals.Literals.longest.Given as goal

abbrev pub invariant-loop-len : goal.invariant-loop-len
invariant-loop-len l =
    IsFound (texts l.self.texts.keys) l.rest l.found l.most
    × AreAtMost (texts l.self.texts.keys) l.len-items l.len-index l.rest l.most
