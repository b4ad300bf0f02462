use Rattle.std.proofs.Common.{refl}
use Rattle.rv_code.specs.Arithmetic.{signed_word}
use Rattle.rv_machine.proofs.IntegersLemmas.{remainder-bits, word-not_zero}
use Rattle.rv_machine.proofs.arithmetic.remw.Goals as goal

pub returns-else-divisor-eq0 : goal.returns-else-divisor-eq0
returns-else-divisor-eq0 c =
    let bits =
    remainder-bits (signed_word c.args.a) (signed_word c.args.b) _ _ _ _ _ c.signed_word.type_inv c.signed_word-divisor.type_inv
    c.signed_word.ensures c.signed_word-divisor.ensures c.from.ensures c.from-else-divisor-eq0.ensures c.cast_unsigned.ensures
    in
    rw (word-not_zero c.args.b _ c.signed_word-divisor.ensures c.if-divisor-eq0.false, bits) refl
