use Rattle.std.proofs.Common.{◌-◌, ◌*◌}
use Rattle.action_sos.specs.Branches.{size, spine}
use Rattle.action_sos.proofs.branch.Branch.+drop.Given as goal

abbrev pub decreases-loop-only : goal.decreases-loop-only
decreases-loop-only l = 2 * size l.self - spine l.self
