use Rattle.std.proofs.Common.{drop, map, ◌++◌, ◌≡◌}
use Rattle.sort_rules.specs.Shapes.{tokens_in}
use Rattle.sort_rules.specs.Views.{pair_of}
use Rattle.binding_capture.specs.Asked.{tokens_of}
use Rattle.binding_capture.proofs.marking.push_domain.Given as goal

-- the first tokens of the domain, and those that are left
abbrev pub invariant-loop-i : goal.invariant-loop-i
invariant-loop-i l = tokens_of l.tokens.items ++ tokens_in (map pair_of (drop l.i l.pairs)) ≡ tokens_of l.initial.tokens.items ++ tokens_in (map pair_of l.pairs)
