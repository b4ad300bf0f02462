use Rattle.elf_image.proofs.SegmentLaws.{read-back, read-taken}
use Rattle.elf_image.proofs.reading.read_image.Goals as goal

pub returns-clause-back : goal.returns-clause-back
returns-clause-back c = read-back c.args.bytes.now c.read_checked.result c.read_checked.ensures.read

pub returns-clause-taken : goal.returns-clause-taken
returns-clause-taken c = read-taken c.args.bytes.now c.read_checked.result c.read_checked.ensures.refused
