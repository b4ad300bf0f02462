use Rattle.std.proofs.Common.{◌≡◌, ◌^◌, ◌≤◌, ◌++◌, length, take, sym, ap, ◌∙◌, subst}
use Rattle.elf_image.specs.Files.{file_header, program_headers, headers_end, end_of}
use Rattle.elf_image.proofs.WrittenLaws.{headers-reach, parts}
use Rattle.elf_image.proofs.writing.put_file.Goals as goal

pub put_pieces-requires : goal.put_pieces-requires
put_pieces-requires c =
    let ss = c.args.segments.now in
    let header = file_header c.args.entry (length ss) in
    let programs = program_headers (headers_end (length ss)) ss in
    let first : c.put_header.new.out.items ≡ header = c.in_ok-put_header.ensures ∙ ap (λ xs. xs ++ header) c.requires.empty in
    let reach : length c.reserve_exact.new.self.items ≡ headers_end (length ss) =
    ap length (c.in_ok-reserve_exact.ensures.items ∙ c.in_ok-end.ensures.put ∙ ap (λ xs. xs ++ programs) first) ∙ headers-reach c.args.entry ss in
    λ i. subst (λ n. end_of n (take i ss) ≤ 2 ^ 32) (sym reach) (c.requires.low i)

pub returns : goal.returns
returns c =
    let ss = c.args.segments.now in
    let header = file_header c.args.entry (length ss) in
    let first : c.put_header.new.out.items ≡ header = c.in_ok-put_header.ensures ∙ ap (λ xs. xs ++ header) c.requires.empty in
    parts c.args.entry ss c.put_header.new.out.items c.reserve_exact.new.self.items c.put_pieces.new.out.items first
    (c.in_ok-reserve_exact.ensures.items ∙ c.in_ok-end.ensures.put)
    c.in_ok-put_pieces.ensures
