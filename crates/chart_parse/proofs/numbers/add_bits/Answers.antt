use Rattle.std.proofs.Common.{◌≡◌, ◌≢◌, ◌<◌, ◌*◌, ◌%◌, ◌^◌, ℕ, bit_and, arith}
use Rattle.std.specs.Int.{bit_at, bit_not, trailing_zeros, w64}
use Rattle.std.proofs.lemmas.Nat.Bits.{bit_at-trailing_zeros, bit_at_clear_same, bit_at_clear_other}
use Rattle.chart_parse.proofs.Collected.{collects_none, collects_bit, collects_all, left_less}
use Rattle.chart_parse.proofs.numbers.add_bits.Goals as goal

pub loop-init : goal.loop-init
loop-init c = record {
  within = λ i small h. h;
  each = λ e. collects_none c.args.below c.args.word c.args.first c.args.list.now.items e;
}

pub returns-then-left-eq0 : goal.returns-then-left-eq0
returns-then-left-eq0 c e =
    collects_all c.args.below c.args.word c.args.first c.args.list.now.items c.loop.list.items c.loop.left e c.if-left-eq0.true (c.loop.invariant.each e)

pub loop-preserved : goal.loop-preserved
loop-preserved c =
    let left : ℕ = c.loop.left in
    let b : ℕ = trailing_zeros w64 left in
    let less : ℕ = bit_and left (bit_not w64 (1 * 2 ^ b % 2 ^ 64)) in
    let fits : left < 18446744073709551616 = omega (arith, c.loop.auto.left-fits) in
    let lowest = bit_at-trailing_zeros w64 left (omega (arith, c.if-left-eq0.false)) fits in
    let cleared : bit_at less b ≡ 0 = bit_at_clear_same w64 left b lowest.0 in
    let others : (i : ℕ) → i < 64 → i ≢ b → bit_at less i ≡ bit_at left i = λ i small ne. bit_at_clear_other w64 left b lowest.0 i small ne in
    record {
      within = left_less c.args.word left less b c.loop.invariant.within cleared others;
      each = λ e. collects_bit c.args.below c.args.word c.args.first c.args.list.now.items c.loop.list.items c.add_below.new.list.items left less b e c.loop.invariant.within lowest.0 lowest.1 cleared others
          (c.in_ok-add_below.ensures e) (c.loop.invariant.each e);
    }
