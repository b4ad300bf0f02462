-- What is left to append, behind what was, is the whole program.
use Rattle.std.proofs.Common.{◌≡◌, drop, map}
use Rattle.rv_asm.specs.Messages.{messages_code, messages_program}
use Rattle.rv_asm.specs.Pieces.{appended}
use Rattle.rv_asm.specs.declared.item.Item.TheVariants.{Plain}
use Rattle.rv_asm.proofs.program.messages_program.Given as goal

abbrev pub invariant-loop-message : goal.invariant-loop-message
invariant-loop-message l =
    appended l.asm (messages_code (drop l.message-index l.messages)) ≡ record { items = map Plain (messages_program 69632 l.messages); labels = 0 }
