use Rattle.std.proofs.Common.{sym, ◌∙◌}
use Rattle.meta_lex.proofs.Longest.{word_longest}
use Rattle.meta_lex.proofs.lex.longest.Goals as goal

pub returns-then-is_letter : goal.returns-then-is_letter
returns-then-is_letter c =
    rw c.word_bytes.ensures.value (word_longest c.args.first c.args.after.now (sym c.is_letter.ensures ∙ c.if-is_letter.true))
