use Rattle.std.proofs.Common.{sym}
use Rattle.action_terms.specs.Places.{wanted_by}
use Rattle.action_terms.proofs.PlacesLemmas.{length-copies}
use Rattle.action_terms.proofs.under.count_of.Goals as goal

pub returns-in-Some : goal.returns-in-Some
returns-in-Some c = rw c.in-Some.is (sym (length-copies c.in-Some.group.count (wanted_by c.in-Some.group.place)))
