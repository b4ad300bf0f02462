-- The line is the pieces that were put into it.
use Rattle.std.proofs.Common.{◌≡◌, ℕ, List, subst, append_assoc, refl}
use Rattle.acg_words.specs.Lines.{rule_line}
use Rattle.acg_words.specs.Prints.{Printed}
use Rattle.acg_words.proofs.prints.print_rule.Goals as goal

pub returns-clause-printed : goal.returns-clause-printed
returns-clause-printed g c =
    let text : c.as_slice.result.now ≡ rule_line c.args.rule c.args.item =
    simp (c.as_slice.ensures, c.put-3.ensures, c.put_unsigned-2.ensures.appended, c.put-2.ensures, c.put_unsigned.ensures.appended, c.put.ensures, c.new-line.ensures, c.from.ensures, c.from-2.ensures, append_assoc) refl in
    subst (λ (line : List ℕ). Printed g.K.Sink line c.args.out.now c.print.new.out c.print.result) text c.print.ensures.printed
