use Rattle.std.proofs.Common.{◌≡◌, ◌≤◌, ℕ, Bool}
use Rattle.action_terms.specs.Actions.{Action}
use Rattle.action_terms.specs.Acting.{Tree}
use Rattle.action_sos.specs.Branches.{target, target_index, renewed, regrown, count_in, IsGrown, IsReached}
use Rattle.action_sos.proofs.branch.descend.Given as goal

abbrev pub invariant-loop-side : goal.invariant-loop-side
invariant-loop-side l = record {
  branch : target l.branch.value l.index ≡ target l.fn.root.value l.fn.choice;
  index : target_index l.branch.value l.index ≡ target_index l.fn.root.value l.fn.choice;
  around : (q : Bool) (t : Tree) → regrown q l.around (renewed q l.branch.value l.index t) ≡ renewed q l.fn.root.value l.fn.choice t;
  reached : (a : Action) (limit : ℕ) → IsGrown a l.fn.root.value → count_in l.fn.root.value ≤ limit → IsReached a limit l.branch.value l.around;
}
