use Rattle.std.proofs.Common.{sym, ◌∙◌}
use Rattle.source_lex.proofs.Words.{identifier_longest, numeral_longest}
use Rattle.source_lex.proofs.longest.longest_word.Goals as goal

pub returns-then-is_letter : goal.returns-then-is_letter
returns-then-is_letter c =
    rw c.name_bytes.ensures.value (identifier_longest c.args.first c.args.after.now (sym c.is_letter.ensures ∙ c.if-is_letter.true))

pub returns-then-is_digit : goal.returns-then-is_digit
returns-then-is_digit c =
    rw c.digits.ensures.value
    (numeral_longest c.args.first c.args.after.now (sym c.is_letter.ensures ∙ c.if-is_letter.false) (sym c.is_digit.ensures ∙ c.if-is_digit.true))
