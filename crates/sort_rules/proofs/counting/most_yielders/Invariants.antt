use Rattle.std.proofs.Common.{◌≡◌, ◌<◌, drop}
use Rattle.action_terms.specs.Meaning.{action_of}
use Rattle.action_terms.specs.Need.{most_yielders}
use Rattle.sort_rules.proofs.counting.most_yielders.Given as goal

-- the greatest number of yielders of the last nodes
abbrev pub invariant-loop-k : goal.invariant-loop-k
invariant-loop-k l = record {
  most : l.most ≡ most_yielders (drop l.k (action_of l.graph));
  few : l.most < 65536;
}
