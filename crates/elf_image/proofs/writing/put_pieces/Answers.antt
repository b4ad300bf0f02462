use Rattle.std.proofs.Common.{◌≡◌, ◌+◌, ◌++◌, ◌∷◌, [], take, length, sym, ap, ◌∙◌, append_assoc, length-append, arith}
use Rattle.std.proofs.lemmas.List.{append-nil, take_more}
use Rattle.elf_image.specs.Files.{piece_behind, contents, end_of}
use Rattle.elf_image.proofs.FileLaws.{contents-push, contents-length}
use Rattle.elf_image.proofs.writing.put_pieces.Goals as goal

pub loop-segment-init : goal.loop-segment-init
unfolding contents
loop-segment-init c = sym (append-nil c.args.out.now.items)

pub put_piece-requires : goal.put_piece-requires
put_piece-requires c =
    let out = c.args.out.now.items in
    let ss = take c.loop-segment.segment-index c.args.segments.now in
    omega (arith, ap length c.loop-segment.invariant, length-append out (contents (length out) ss), contents-length (length out) ss, c.requires c.loop-segment.segment-index)

pub loop-segment-preserved : goal.loop-segment-preserved
loop-segment-preserved c =
    let out = c.args.out.now.items in
    let s = c.segment-item.result in
    let ss = take c.loop-segment.segment-index c.args.segments.now in
    let taken : take (c.loop-segment.segment-index + 1) c.args.segments.now ≡ ss ++ s ∷ [] =
    take_more c.args.segments.now c.loop-segment.segment-index s c.loop-segment-test.true ∙ ap (λ t. ss ++ t ∷ []) (sym c.segment-item.is) in
    let reaches : length c.loop-segment.out.items ≡ end_of (length out) ss =
    omega (arith, ap length c.loop-segment.invariant, length-append out (contents (length out) ss), contents-length (length out) ss) in
    rw taken
    (c.in_ok-put_piece.ensures
    ∙ ap (λ xs. xs ++ piece_behind (length c.loop-segment.out.items) s) c.loop-segment.invariant
    ∙ append_assoc out (contents (length out) ss) (piece_behind (length c.loop-segment.out.items) s)
    ∙ ap (λ e. out ++ (contents (length out) ss ++ piece_behind e s)) reaches
    ∙ ap (λ xs. out ++ xs) (sym (contents-push (length out) ss s)))
