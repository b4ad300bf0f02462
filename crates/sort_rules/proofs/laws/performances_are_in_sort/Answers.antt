use Rattle.sort_rules.proofs.InSort.{parts_in_sort}
use Rattle.sort_rules.proofs.laws.performances_are_in_sort.Goals as goal

pub returns : goal.returns
returns c = λ a t h input steps s part. parts_in_sort a t h input steps s part
