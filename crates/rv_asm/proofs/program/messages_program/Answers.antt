-- The items that were appended are the program's, so its words send the messages.
use Rattle.std.proofs.Common.{◌≡◌, ◌*◌, ◌<◌, [], Some, drop, map, arith, sym, ap, ◌∙◌, subst}
use Rattle.std.proofs.lemmas.List.{drop_all}
use Rattle.std.proofs.lemmas.Result.{IfOk-weaker}
use Rattle.rv_code.specs.Encode.{encode}
use Rattle.rv_asm.specs.Assembly.{total, code_of}
use Rattle.rv_asm.specs.Messages.{messages_code, messages_program, SendsAlways}
use Rattle.rv_asm.specs.Pieces.{appended}
use Rattle.rv_asm.specs.declared.item.Item.TheVariants.{Plain}
use Rattle.rv_asm.proofs.Sending.{all-words, sends-always, total-plain, messages_program-few}
use Rattle.rv_asm.proofs.program.messages_program.Goals as goal
use Rattle.rv_asm.proofs.program.messages_program.Goals.{In_ok-exit_with}

all-appended : (c : In_ok-exit_with) → c.exit_with.new.asm ≡ record { items = map Plain (messages_program 69632 c.args.messages.now); labels = 0 }
all-appended c =
    let none : drop c.loop-message.message-index c.args.messages.now ≡ [] = drop_all c.loop-message.message-index c.args.messages.now (omega (arith, c.loop-message-test.false)) in
    c.in_ok-exit_with.ensures.ok ∙ ap (λ ms. appended c.loop-message.asm (messages_code ms)) (sym none) ∙ c.loop-message.invariant

pub finish-requires : goal.finish-requires
finish-requires c =
    let few = messages_program-few 69632 c.args.messages.now c.requires in
    let size = total-plain (messages_program 69632 c.args.messages.now) in
    subst (λ asm. 4 * total asm.items < 1073741824) (sym (all-appended c)) (omega (arith, size, few.1))

pub returns : goal.returns
returns c =
    let ms = c.args.messages.now in
    let items = all-appended (goal.at.returns c).In_ok-exit_with in
    IfOk-weaker c.finish.result (λ code. map Some code.words.items ≡ map encode (code_of c.exit_with.new.asm.items)) (λ code. SendsAlways ms code.words.items)
    (λ code e. sends-always ms code.words.items c.requires (all-words ms c.type_inv.messages) (e ∙ ap (λ asm. map encode (code_of asm.items)) items))
    c.finish.ensures.words
