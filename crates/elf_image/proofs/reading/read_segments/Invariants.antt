use Rattle.std.proofs.Common.{◌≡◌}
use Rattle.elf_image.specs.Reading.{segments_of, Loads}
use Rattle.elf_image.proofs.reading.read_segments.Given as goal

abbrev pub invariant-loop-index : goal.invariant-loop-index
invariant-loop-index l = record {
  read : l.segments.items ≡ segments_of l.bytes l.index;
  loads : Loads l.bytes l.index;
}
