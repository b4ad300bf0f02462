use Rattle.std.proofs.Common.{take, ap, ◌∙◌, ◌++◌, sym}
use Rattle.std.proofs.lemmas.List.{take_more}
use Rattle.rv_asm.specs.Conventions.{instruction_bytes}
use Rattle.acg_driver.proofs.CodeBytes.{instruction_bytes-push}
use Rattle.acg_driver.proofs.image.bytes_of_words.Goals as goal

pub loop-word-preserved : goal.loop-word-preserved
loop-word-preserved c =
    let words = c.args.words.now in
    let k = c.loop-word.word-index in
    c.in_ok-extend_from_slice.ensures.items
    ∙ ap (λ bytes. bytes ++ c.to_le_bytes.result) c.loop-word.invariant
    ∙ ap (λ bytes. instruction_bytes (take k words) ++ bytes) c.to_le_bytes.ensures
    ∙ sym (ap instruction_bytes (take_more words k 0 c.loop-word-test.true) ∙ instruction_bytes-push (take k words) _)
