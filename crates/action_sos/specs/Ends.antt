-- What a whole becomes whose parts have ended.
use Rattle.std.specs.Prelude.{List, [], ◌++◌}
use Rattle.action_terms.specs.Actions.{Node, Action, node_at}
use Rattle.action_terms.specs.Acting.{Tree}
use Rattle.action_terms.specs.Steps.{after_any, after_both, after_broken, after_first, after_second, after_or, after_trap, after_over}
use Rattle.action_terms.specs.Frames.{Frame, InCalled, InParLeft, InParRight, InFirst, InSecond, InOr, InCut, InTrap, InOver, InTail}

-- what `and` or `moreover` becomes, in the order of its steps: joined, or one of its parts
abbrev pub both_trees : Node → Tree → Tree → List Tree
both_trees n x y = after_both n x y ++ (after_broken x ++ after_broken y)

-- what a whole becomes, in the order of its steps, where the part within its frame has ended
abbrev pub ended_trees : Action → Frame → Tree → List Tree
ended_trees a (InCalled c) x = after_any x
ended_trees a (InParLeft k y) x = both_trees (node_at a k) x y
ended_trees a (InParRight k x) y = both_trees (node_at a k) x y
ended_trees a (InFirst k d b) x = after_first (node_at a k) k d b x
ended_trees a (InSecond k d1 b1) x = after_second (node_at a k) d1 b1 x
ended_trees a (InOr k2 d b) x = after_or k2 d b x
ended_trees a InCut x = after_any x
ended_trees a (InTrap k b) x = after_trap (node_at a k) b x
ended_trees a (InOver b) x = after_over b x
ended_trees a (InTail n) x = []
