use Rattle.std.proofs.Common.{rules, ◌≢◌, ◌+◌, List, length, map, sym, subst, arith}
use Rattle.std.specs.Prelude.{AllPairs}
use Rattle.gram_form.specs.Plain.{texts, plain_grammar}
use Rattle.source_lex.specs.Lexemes.{PlainLexeme, AreLexemes, IsBadByte, plain_lexeme}
use Rattle.source_lex.proofs.DistinctLiterals.{distinct_literals}
use Rattle.source_lex.proofs.OneScan.{one_list, lexemes_or_bad_byte}
use Rattle.source_lex.proofs.Steps.{reads_pushed, lexeme_count}
use Rattle.source_lex.proofs.scanning.scan.Goals as goal

pub new-requires : goal.new-requires
new-requires c = distinct_literals (plain_grammar c.grammar.inside.productions.now c.grammar.inside.literals.now) c.grammar.invariant

pub lexeme_at-requires-clause-distinct : goal.lexeme_at-requires-clause-distinct
lexeme_at-requires-clause-distinct c =
    subst (λ literals. AllPairs (λ x y. x ≢ y) literals) (sym c.in_ok-literals.ensures.literals)
    (distinct_literals (plain_grammar c.grammar.inside.productions.now c.grammar.inside.literals.now) c.grammar.invariant)

pub loop-at-preserved : goal.loop-at-preserved
loop-at-preserved c = (
  c.loop-at.at + length c.in-Some.lexeme.bytes.now,
  reads_pushed (texts c.in_ok-literals.literals.texts.keys) c.in_ok-text.field-0.now c.loop-at.invariant.0 c.loop-at.at c.loop-at.list.items c.push.new.self.items c.in-Some.lexeme
      c.loop-at.invariant.1 c.loop-at.invariant.2 c.in-Some.ensures c.in_ok-push.ensures.items,
  sym c.after_blanks-at-in-loop-at.ensures.value,
  c.after_blanks-at-in-loop-at.ensures.within,
)

pub returns-in_default-clause-error : goal.returns-in_default-clause-error
returns-in_default-clause-error c =
    let bad : IsBadByte c.args.grammar.now.literals c.args.bytes.now c.loop-at.at = search rules in
    (bad, λ ls are. lexemes_or_bad_byte c.args.grammar.now.literals c.args.bytes.now ls c.loop-at.at are bad)

pub returns-then-len-gt-MOST-clause-error : goal.returns-then-len-gt-MOST-clause-error
returns-then-len-gt-MOST-clause-error c =
    let list : List PlainLexeme = map plain_lexeme c.loop-at.list.items in
    let are : AreLexemes c.args.grammar.now.literals c.args.bytes.now list = search rules in (
      list,
      are,
      λ others other. one_list c.args.grammar.now.literals c.args.bytes.now others list other are,
      omega (arith, c.if-len-gt-MOST.true, c.len.ensures, lexeme_count c.loop-at.list.items),
    )

pub returns-clause-no_others : goal.returns-clause-no_others
returns-clause-no_others c =
    let are : AreLexemes c.args.grammar.now.literals c.args.bytes.now (map plain_lexeme c.in_ok-list.field-0.now) = search rules in
    λ others other. one_list c.args.grammar.now.literals c.args.bytes.now others (map plain_lexeme c.in_ok-list.field-0.now) other are
