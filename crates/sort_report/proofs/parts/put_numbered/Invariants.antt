use Rattle.std.proofs.Common.{◌≡◌, ◌++◌, map, take}
use Rattle.sort_report.specs.Report.{numbered}
use Rattle.sort_report.specs.Separated.{separated_behind}
use Rattle.sort_report.proofs.parts.put_numbered.Given as goal

abbrev pub invariant-loop-index : goal.invariant-loop-index
invariant-loop-index l =
    l.text.items ≡ l.fn.text.items ++ separated_behind 124 l.members (map (numbered l.word) (take l.index l.numbers))
