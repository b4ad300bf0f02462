use Rattle.elf_image.proofs.SegmentLaws.{loads-none}
use Rattle.elf_image.specs.Reading.{segments_of}
use Rattle.elf_image.proofs.reading.read_segments.Goals as goal

pub loop-index-init : goal.loop-index-init
unfolding segments_of
loop-index-init c = record { read = c.in_ok-segments.ensures.items; loads = loads-none c.args.bytes.now }
