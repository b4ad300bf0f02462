use Rattle.std.proofs.Common.{take}
use Rattle.tree_pick.specs.Runs.{CutsAmong}
use Rattle.tree_pick.proofs.FoundChoices.{IsOnly}
use Rattle.tree_pick.proofs.choices.cut_among.Given as goal

abbrev pub invariant-loop-k : goal.invariant-loop-k
invariant-loop-k l = IsOnly l.found (CutsAmong l.parse.grammar l.parse.kinds l.rest l.end (take l.k l.places))
