-- Twice half of 2 ^ width fits 32 bits, since width is at most 31.
use Rattle.std.proofs.Common.{◌-◌, ◌^◌, ◌≤◌, arith}
use Rattle.std.proofs.Math.Nat.{pow-le-pow_right}
use Rattle.rv_code.proofs.encoding.low_bits.Goals as goal

pub overflow_mul-result : goal.overflow_mul-result
overflow_mul-result c =
    let most : c.args.width - 1 ≤ 30 = omega arith in
    let half : 2 ^ (c.args.width - 1) ≤ 2 ^ 30 = pow-le-pow_right (omega arith) most in
    omega arith
