use Rattle.std.proofs.Common.{inl, inr, ℕ, ◌<◌, List, [], bit_and, get_or, arith}
use Rattle.std.specs.Int.{bit_not, w64}
use Rattle.chart_parse.specs.Rows.{IsExtra}
use Rattle.chart_parse.proofs.Bits.{extra_word}
use Rattle.chart_parse.proofs.Collected.{word_more}
use Rattle.chart_parse.proofs.numbers.difference.Goals as goal

pub loop-k-preserved : goal.loop-k-preserved
loop-k-preserved c e =
    let row : List ℕ = c.args.row.now in
    let other : List ℕ = c.args.other.now in
    let k : ℕ = c.loop-k.k in
    let old : List ℕ = [] in
    let h = c.loop-k.invariant e in
    let more = word_more (IsExtra c.args.below row other) old c.loop-k.list.items c.add_bits.new.list.items c.args.below (bit_and (get_or row k 0) (bit_not w64 (get_or other k 0))) k e
    (λ at. let fits : get_or other k 0 < 18446744073709551616 = omega (arith, c.type_inv.other k) in let x = extra_word row other k e at fits in (λ q. (q.0, x.0 (q.1, q.2)), λ q. let y = x.1 q.1 in (q.0, y.0, y.1)))
    (λ y. inr (h.0 y), λ y. elim y [ inl o ↦ absurd (let lt = o.1 in omega arith) | inr q ↦ h.1 q ])
    (c.in_ok-add_bits.ensures e) in (
      λ y. elim (more.0 y) [ inl o ↦ absurd (let lt = o.1 in omega arith) | inr q ↦ q ],
      λ y. more.1 (inr y),
    )

pub returns : goal.returns
returns c e = let h = c.loop-k.invariant e in (
  λ y. (h.0 y).1,
  λ y. h.1 ((let lt = y.0 in omega (arith, c.loop-k-test.false)), y),
)
