use Rattle.std.proofs.Common.{take}
use Rattle.std.specs.List.{flat_map}
use Rattle.acg_words.specs.Usage.{status_line}
use Rattle.acg_words.specs.Prints.{Took}
use Rattle.acg_words.proofs.usage.print_statuses.Given as goal

abbrev pub invariant-loop-status : goal.invariant-loop-status
invariant-loop-status g l = Took g.K.Sink (flat_map status_line (take l.status-index l.statuses)) l.fn.out l.out
