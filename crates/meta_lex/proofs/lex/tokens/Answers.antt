use Rattle.std.proofs.Common.{rules, ◌+◌, length, map, sym}
use Rattle.meta_lex.specs.Tokens.{AreTokens, IsBadByte, plain_token}
use Rattle.meta_lex.proofs.OneReading.{one_token_list, tokens_or_bad_byte}
use Rattle.meta_lex.proofs.Steps.{reads_pushed}
use Rattle.meta_lex.proofs.lex.tokens.Goals as goal

pub loop-at-preserved : goal.loop-at-preserved
loop-at-preserved c = (
  c.loop-at.at + length c.in-Some.token.bytes.now,
  reads_pushed c.in_ok-text.field-0.now c.loop-at.invariant.0 c.loop-at.at c.loop-at.list.items c.push.new.self.items c.in-Some.token
      c.loop-at.invariant.1 c.loop-at.invariant.2 c.in-Some.ensures c.in_ok-push.ensures.items,
  sym c.after_blanks-at-in-loop-at.ensures.value,
  c.after_blanks-at-in-loop-at.ensures.within,
)

pub returns-in_default-clause-error : goal.returns-in_default-clause-error
returns-in_default-clause-error c =
    let bad : IsBadByte c.args.bytes.now c.loop-at.at = search rules in
    (bad, λ ts are. tokens_or_bad_byte c.args.bytes.now ts c.loop-at.at are bad)

pub returns-clause-no_others : goal.returns-clause-no_others
returns-clause-no_others c =
    let are : AreTokens c.args.bytes.now (map plain_token c.in_ok-list.field-0.now) = search rules in
    λ others other. one_token_list c.args.bytes.now others (map plain_token c.in_ok-list.field-0.now) other are
