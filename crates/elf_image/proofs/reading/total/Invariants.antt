use Rattle.std.proofs.Common.{◌≡◌, take, sum_by}
use Rattle.elf_image.proofs.reading.total.Given as goal

abbrev pub invariant-loop-segment : goal.invariant-loop-segment
invariant-loop-segment l = l.sum ≡ sum_by (λ s. s.size) (take l.segment-index l.segments)
