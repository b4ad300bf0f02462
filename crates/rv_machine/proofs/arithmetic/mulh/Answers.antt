use Rattle.rv_machine.proofs.IntegersLemmas.{mulh-bits}
use Rattle.rv_machine.proofs.arithmetic.mulh.Goals as goal

pub returns : goal.returns
returns c =
    mulh-bits c.args.a c.args.b _ _ _ _ _ c.cast_signed.type_inv c.cast_signed-2.type_inv c.cast_signed.ensures c.cast_signed-2.ensures
    c.from.ensures c.from-2.ensures c.cast_unsigned.ensures
