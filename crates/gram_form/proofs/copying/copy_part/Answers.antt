use Rattle.std.proofs.Common.{◌∙◌, ap}
use Rattle.gram_form.specs.Grammars.{seen_with}
use Rattle.gram_form.proofs.copying.copy_part.Goals as goal

pub returns-in_ok-note-in-Literal-clause-seen : goal.returns-in_ok-note-in-Literal-clause-seen
returns-in_ok-note-in-Literal-clause-seen c =
    rw c.in-Literal.is (c.in_ok-note-in-Literal.ensures ∙ ap (seen_with c.args.literals.now) c.in_ok-bytes-in-Literal.ensures)
