use Rattle.std.proofs.Common.{◌≡◌, ◌++◌, map, take, codes}
use Rattle.sort_rules.specs.Views.{place_of}
use Rattle.sort_report.specs.Report.{place_text}
use Rattle.sort_report.specs.Separated.{separated_behind}
use Rattle.sort_report.proofs.parts.put_tuple.Given as goal

abbrev pub invariant-loop-index : goal.invariant-loop-index
invariant-loop-index l =
    l.text.items ≡ (l.fn.text.items ++ codes "(") ++ separated_behind 44 0 (map (λ s. place_text (place_of s)) (take l.index l.sets))
