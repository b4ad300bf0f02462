use Rattle.std.proofs.Common.{◌≡◌, ℕ, ◌-◌, ◌≤◌, length, drop, ap, sym, ◌∙◌, arith}
use Rattle.std.proofs.lemmas.List.{length-drop}
use Rattle.rv_code.specs.Bytes.{number_of}
use Rattle.rv_machine.proofs.FrontLaws.{read-behind, rest-taken, copied-zeros}
use Rattle.rv_machine.proofs.block.number_behind.Goals as goal

pub returns-clause-is : goal.returns-clause-is
returns-clause-is c =
    let front = c.args.front.now in
    let there = rest-taken c.args.from c.min.result front c.min.ensures in
    let is = rw (c.copy_from_slice.ensures.after, there) at c.number.ensures.is in
    let left : length (drop c.args.from front) ≡ length front - c.args.from = length-drop c.args.from front in
    let few : length (drop c.args.from front) ≤ c.args.size = omega (arith, left, c.requires.behind) in
    let small : c.args.size ≤ 8 = grind (arith, c.requires.size) in
    let copied = copied-zeros c.args.size (drop c.args.from front) few small in
    λ all h. is ∙ ap number_of (copied ∙ sym (read-behind all c.args.from c.args.size front c.requires.behind h))
