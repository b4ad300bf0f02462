use Rattle.sort_rules.proofs.Soundness.{unions_complete}
use Rattle.sort_rules.proofs.laws.unions_complete.Goals as goal

pub returns : goal.returns
returns c = unions_complete
