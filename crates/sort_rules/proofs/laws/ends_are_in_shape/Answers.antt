use Rattle.sort_rules.proofs.Soundness.{ends_in_shape}
use Rattle.sort_rules.proofs.laws.ends_are_in_shape.Goals as goal

pub returns : goal.returns
returns c = ends_in_shape
