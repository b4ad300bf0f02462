use Rattle.std.proofs.Common.{take, sym, ◌∙◌, ap, arith}
use Rattle.std.specs.Prelude.{is_some}
use Rattle.source_lex.proofs.Search.{found_at, found_nowhere, taken_some}
use Rattle.source_lex.proofs.literals.Literals.of_length.Goals as goal

pub returns-in_err-number : goal.returns-in_err-number
returns-in_err-number c =
    rw c.from_residual.ensures
    (λ k t. found_nowhere c.args.self.now.texts.keys (take c.args.len c.args.rest.now)
    (sym c.get_index_of.ensures.found ∙ ap is_some c.in_err-number.was) k t.1.0)

pub returns : goal.returns
returns c = (
  omega (arith, c.if-len-rest.false),
  (
    found_at c.args.self.now.texts.keys (take c.args.len c.args.rest.now) c.in_ok-number.number (sym c.get_index_of.ensures.index ∙ c.in_ok-number.was),
    taken_some c.args.len c.args.rest.now c.if-len-eq0.false (omega (arith, c.if-len-rest.false)),
  ),
)
