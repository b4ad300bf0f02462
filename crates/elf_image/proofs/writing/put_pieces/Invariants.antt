use Rattle.std.proofs.Common.{◌≡◌, ◌++◌, length, take}
use Rattle.elf_image.specs.Files.{contents}
use Rattle.elf_image.proofs.writing.put_pieces.Given as goal

abbrev pub invariant-loop-segment : goal.invariant-loop-segment
invariant-loop-segment l = l.out.items ≡ l.fn.out.items ++ contents (length l.fn.out.items) (take l.segment-index l.segments)
