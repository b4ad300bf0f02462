use Rattle.std.proofs.Common.{◌≡◌, ◌^◌, ◌≤◌, length, take, sym, ap, ◌∙◌, subst, arith}
use Rattle.rv_code.specs.Images.{Image}
use Rattle.elf_image.specs.Files.{headers_end, end_of, file_of}
use Rattle.elf_image.proofs.FileLaws.{end_of-image}
use Rattle.elf_image.proofs.WrittenLaws.{written}
use Rattle.elf_image.proofs.writing.write_image.Goals as goal

pub put_file-requires-clause-low : goal.put_file-requires-clause-low
put_file-requires-clause-low c =
    let image : Image = record { entry = c.image.inside.entry; segments = c.image.inside.segments.items } in
    λ i. subst (λ ss. end_of (headers_end (length ss)) (take i ss) ≤ 2 ^ 32) (sym c.deref.ensures.value) (end_of-image image c.image.invariant i)

pub returns-clause-back : goal.returns-clause-back
returns-clause-back c =
    let image : Image = record { entry = c.image.inside.entry; segments = c.image.inside.segments.items } in
    let e : c.put_file.new.out.items ≡ file_of image =
    c.in_ok-put_file.ensures ∙ ap (λ ss. file_of (record { entry = c.image.inside.entry; segments = ss })) c.deref.ensures.value in
    rw (e, ← c.image.view_is) (written image c.image.invariant (omega arith))
