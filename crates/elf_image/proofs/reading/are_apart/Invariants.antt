use Rattle.std.proofs.Common.{take, All}
use Rattle.rv_code.specs.Images.{AreApart}
use Rattle.elf_image.specs.Reading.{stretch}
use Rattle.elf_image.proofs.reading.are_apart.Given as goal

abbrev pub invariant-loop-segment : goal.invariant-loop-segment
invariant-loop-segment l = All (λ s. AreApart s (stretch l.fn.address l.fn.size)) (take l.segment-index l.segments)
