use Rattle.std.proofs.Common.{subst}
use Rattle.source_lex.specs.Literals.{IsLongestWord, HasNoWord}
use Rattle.source_lex.proofs.Choices.{first_and_rest, literal_alone, literal_first, word_first}
use Rattle.source_lex.proofs.longest.longest.Goals as goal

pub returns-in-Some-None : goal.returns-in-Some-None
returns-in-Some-None c =
    literal_alone _ c.args.rest.now c.in-Some-None.number c.in-Some-None.len c.requires.distinct c.in-Some-None.ensures
    (subst HasNoWord (first_and_rest c.args.rest.now c.split_at.result.1.now c.requires.some c.split_at.ensures.back) c.in-Some-None.ensures')

pub returns-then-len-word : goal.returns-then-len-word
returns-then-len-word c =
    word_first _ c.args.rest.now c.in-Some-Some.len c.in-Some-Some.word.0 c.in-Some-Some.word.1 c.in-Some-Some.ensures.longest
    (subst (λ bytes. IsLongestWord bytes c.in-Some-Some.word.0 c.in-Some-Some.word.1)
    (first_and_rest c.args.rest.now c.split_at.result.1.now c.requires.some c.split_at.ensures.back) c.in-Some-Some.ensures')
    c.if-len-word.true

pub returns-else-len-word : goal.returns-else-len-word
returns-else-len-word c =
    literal_first _ c.args.rest.now c.in-Some-Some.number c.in-Some-Some.len c.in-Some-Some.word.0 c.in-Some-Some.word.1 c.requires.distinct c.in-Some-Some.ensures
    (subst (λ bytes. IsLongestWord bytes c.in-Some-Some.word.0 c.in-Some-Some.word.1)
    (first_and_rest c.args.rest.now c.split_at.result.1.now c.requires.some c.split_at.ensures.back) c.in-Some-Some.ensures')
    c.if-len-word.false
