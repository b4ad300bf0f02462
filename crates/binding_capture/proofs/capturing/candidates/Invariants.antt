use Rattle.std.proofs.Common.{[], Vec, length, true, ℕ, ◌<◌, ◌≡◌}
use Rattle.std.specs.Global.{Global}
use Rattle.sort_rules.specs.Numbers.{is_listed}
use Rattle.sort_rules.specs.Rows.{unmarked}
use Rattle.sort_rules.specs.Shapes.{domain}
use Rattle.sort_rules.specs.Tables.{BindsIn}
use Rattle.binding_capture.specs.Captures.{marked_at, marks}
use Rattle.binding_capture.specs.declared.marking.Candidate.{Candidate}
use Rattle.binding_capture.proofs.capturing.candidates.Given as goal

-- the tokens of the first nodes are there
abbrev pub invariant-loop-node : goal.invariant-loop-node
invariant-loop-node l = record {
  long : length l.candidates.items ≡ l.node;
  tokens : (k : ℕ) (d : Vec Candidate Global) → k < l.node → is_listed k l.bodies ≡ true → marked_at l.candidates.items d k ≡ marks (domain (unmarked l.table (BindsIn k))) [];
}
