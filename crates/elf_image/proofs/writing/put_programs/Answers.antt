use Rattle.std.proofs.Common.{◌≡◌, ◌+◌, ◌++◌, ◌∷◌, [], take, refl, sym, ap, ◌∙◌, append_assoc}
use Rattle.std.proofs.lemmas.List.{append-nil, take_more}
use Rattle.elf_image.specs.Files.{offset_behind, end_behind, program_header, program_headers, end_of}
use Rattle.elf_image.proofs.FileLaws.{end_of-push, headers-push}
use Rattle.elf_image.proofs.writing.put_programs.Goals as goal

pub loop-segment-init : goal.loop-segment-init
unfolding program_headers end_of
loop-segment-init c = record { put = sym (append-nil c.args.out.now.items); last = refl }

pub loop-segment-preserved : goal.loop-segment-preserved
loop-segment-preserved c =
    let end = c.args.end in
    let s = c.segment-item.result in
    let ss = take c.loop-segment.segment-index c.args.segments.now in
    let before = c.loop-segment.invariant in
    let taken : take (c.loop-segment.segment-index + 1) c.args.segments.now ≡ ss ++ s ∷ [] =
    take_more c.args.segments.now c.loop-segment.segment-index s c.loop-segment-test.true ∙ ap (λ t. ss ++ t ∷ []) (sym c.segment-item.is) in
    rw taken
    (record {
      put =
          c.in_ok-put_program.ensures
          ∙ ap (λ xs. xs ++ program_header (offset_behind c.loop-segment.last s) s) before.put
          ∙ append_assoc c.args.out.now.items (program_headers end ss) (program_header (offset_behind c.loop-segment.last s) s)
          ∙ ap (λ e. c.args.out.now.items ++ (program_headers end ss ++ program_header (offset_behind e s) s)) before.last
          ∙ ap (λ xs. c.args.out.now.items ++ xs) (sym (headers-push end ss s));
      last = c.end_behind-last.ensures ∙ ap (λ e. end_behind e s) before.last ∙ sym (end_of-push end ss s);
    })
