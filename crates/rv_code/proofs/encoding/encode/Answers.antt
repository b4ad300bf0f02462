use Rattle.rv_code.proofs.Words.{decoded-encode}
use Rattle.rv_code.proofs.encoding.encode.Goals as goal

pub returns-clause-decoded : goal.returns-clause-decoded
returns-clause-decoded c = decoded-encode _ _ c.word_in_format.ensures.is
