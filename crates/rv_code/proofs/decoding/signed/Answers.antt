-- 2 ^ width is at most 2 ^ 30, so the difference fits 32 bits.
use Rattle.std.proofs.Common.{◌^◌, ◌≤◌, arith}
use Rattle.std.proofs.Math.Nat.{pow-le-pow_right}
use Rattle.std.proofs.lemmas.Int.{ints}
use Rattle.rv_code.proofs.decoding.signed.Goals as goal

pub overflow_sub-result : goal.overflow_sub-result
overflow_sub-result c =
    let most : 2 ^ c.args.width ≤ 2 ^ 30 = pow-le-pow_right (omega arith) c.requires.high in
    omega (arith, ints)
