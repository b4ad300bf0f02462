use Rattle.std.proofs.Common.{take}
use Rattle.std.specs.List.{flat_map}
use Rattle.acg_words.specs.Usage.{command_lines}
use Rattle.acg_words.specs.Prints.{Took}
use Rattle.acg_words.proofs.usage.print_commands.Given as goal

abbrev pub invariant-loop-kind : goal.invariant-loop-kind
invariant-loop-kind g l = Took g.K.Sink (flat_map command_lines (take l.kind-index l.kinds)) l.fn.out l.out
