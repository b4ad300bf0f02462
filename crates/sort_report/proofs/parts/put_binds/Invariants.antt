use Rattle.std.proofs.Common.{◌≡◌, ◌++◌, map, take, codes}
use Rattle.sort_rules.specs.Views.{pair_of}
use Rattle.sort_report.specs.Report.{binding_text}
use Rattle.sort_report.specs.Separated.{separated_behind}
use Rattle.sort_report.proofs.parts.put_binds.Given as goal

abbrev pub invariant-loop-index : goal.invariant-loop-index
invariant-loop-index l =
    l.text.items ≡ (l.fn.text.items ++ codes "{") ++ separated_behind 44 0 (map (λ p. binding_text (pair_of p)) (take l.index l.pairs))
