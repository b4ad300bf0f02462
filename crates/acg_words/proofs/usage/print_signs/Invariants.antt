use Rattle.std.proofs.Common.{take}
use Rattle.std.specs.List.{flat_map}
use Rattle.acg_words.specs.Usage.{option_text}
use Rattle.acg_words.specs.Prints.{Took}
use Rattle.acg_words.proofs.usage.print_signs.Given as goal

abbrev pub invariant-loop-setting : goal.invariant-loop-setting
invariant-loop-setting g l = Took g.K.Sink (flat_map option_text (take l.setting-index l.settings)) l.fn.out l.out
