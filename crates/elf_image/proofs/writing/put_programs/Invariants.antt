use Rattle.std.proofs.Common.{◌≡◌, ◌++◌, take}
use Rattle.elf_image.specs.Files.{program_headers, end_of}
use Rattle.elf_image.proofs.writing.put_programs.Given as goal

abbrev pub invariant-loop-segment : goal.invariant-loop-segment
invariant-loop-segment l = record {
  put : l.out.items ≡ l.fn.out.items ++ program_headers l.fn.end (take l.segment-index l.segments);
  last : l.last ≡ end_of l.fn.end (take l.segment-index l.segments);
}
