use Rattle.sort_rules.proofs.Soundness.{nodes_run}
use Rattle.sort_rules.proofs.laws.nodes_run_in_sort.Goals as goal

pub returns : goal.returns
returns c = nodes_run
