use Rattle.std.proofs.Common.{sym}
use Rattle.sort_rules.specs.Views.{place_of}
use Rattle.sort_rules.proofs.JoinedLists.{are_below-differ}
use Rattle.sort_rules.proofs.tuples.are_below.Goals as goal

pub returns-then-xs-ys : goal.returns-then-xs-ys
returns-then-xs-ys c = sym (are_below-differ place_of c.args.xs.now c.args.ys.now c.if-xs-ys.true)
