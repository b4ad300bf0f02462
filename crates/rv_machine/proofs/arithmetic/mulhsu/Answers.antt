use Rattle.rv_machine.proofs.IntegersLemmas.{mulhsu-bits}
use Rattle.rv_machine.proofs.arithmetic.mulhsu.Goals as goal

pub returns : goal.returns
returns c =
    mulhsu-bits c.args.a c.args.b _ _ _ _ c.cast_signed.type_inv c.ranges.b.fits c.cast_signed.ensures
    c.from.ensures c.from-2.ensures c.cast_unsigned.ensures
