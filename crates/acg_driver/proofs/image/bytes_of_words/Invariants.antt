use Rattle.std.proofs.Common.{◌≡◌, take}
use Rattle.rv_asm.specs.Conventions.{instruction_bytes}
use Rattle.acg_driver.proofs.image.bytes_of_words.Given as goal

-- the bytes so far are those of the words before
abbrev pub invariant-loop-word : goal.invariant-loop-word
invariant-loop-word l = l.bytes.items ≡ instruction_bytes (take l.word-index l.words)
