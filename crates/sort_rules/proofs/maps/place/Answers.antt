use Rattle.sort_rules.proofs.Putting.{passed_none}
use Rattle.sort_rules.proofs.maps.place.Goals as goal

pub loop-i-init : goal.loop-i-init
loop-i-init c = passed_none c.args.pairs.now c.args.token.now
