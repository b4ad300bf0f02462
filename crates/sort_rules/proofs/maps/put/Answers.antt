use Rattle.sort_rules.proofs.Putting.{set-put}
use Rattle.sort_rules.proofs.maps.put.Goals as goal

pub returns-in-Ok : goal.returns-in-Ok
returns-in-Ok c = set-put c.as_slice.result.now c.args.list.now.items c.in-Ok.i c.args.pair c.as_slice.ensures.value c.in-Ok.ensures.bound_in c.in-Ok.ensures.bound_at
