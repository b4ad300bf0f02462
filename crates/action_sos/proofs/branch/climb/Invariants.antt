use Rattle.std.proofs.Common.{◌≡◌}
use Rattle.action_terms.specs.Actions.{Action}
use Rattle.action_sos.specs.Branches.{grown, regrown, IsGrown, AreGrown, HasRoom}
use Rattle.action_sos.proofs.branch.climb.Given as goal

abbrev pub invariant-loop-around : goal.invariant-loop-around
invariant-loop-around l = record {
  room : HasRoom l.around l.branch.value;
  tree : regrown l.closes l.around (grown l.branch.value) ≡ regrown l.closes l.fn.around (grown l.fn.branch.value);
  sound : (a : Action) → AreGrown a l.fn.around → IsGrown a l.fn.branch.value → AreGrown a l.around × IsGrown a l.branch.value;
}
