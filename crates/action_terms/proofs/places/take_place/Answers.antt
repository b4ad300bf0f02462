use Rattle.std.proofs.Common.{arith}
use Rattle.action_terms.proofs.PlacesLemmas.{wanted_on-taken}
use Rattle.action_terms.proofs.places.take_place.Goals as goal

pub returns-then-top-gt0-clause-first : goal.returns-then-top-gt0-clause-first
returns-then-top-gt0-clause-first c = wanted_on-taken _ _ _ c.in-Some.top _ (omega arith) c.in-Some.ensures.items c.push_reserved.ensures.items
