use Rattle.std.proofs.Common.{inl, inr, ℕ, ◌<◌, List, get_or, arith}
use Rattle.chart_parse.specs.Rows.{Has}
use Rattle.chart_parse.proofs.Bits.{has_word}
use Rattle.chart_parse.proofs.Collected.{word_more}
use Rattle.chart_parse.proofs.numbers.add_numbers.Goals as goal

pub loop-k-init : goal.loop-k-init
loop-k-init c e = (λ h. inl h, λ h. elim h [ inl o ↦ o | inr x ↦ absurd (let lt = x.0 in omega arith) ])

pub loop-k-preserved : goal.loop-k-preserved
loop-k-preserved c e =
    let row : List ℕ = c.args.row.now in
    let k : ℕ = c.loop-k.k in
    word_more (λ x. (x < c.args.below) × Has row x) c.args.list.now.items c.loop-k.list.items c.add_bits.new.list.items c.args.below (get_or row k 0) k e
    (λ at. let h = has_word row k e at in (λ q. (q.0, h.0 q.1), λ q. (q.0, h.1 q.1)))
    (c.loop-k.invariant e) (c.in_ok-add_bits.ensures e)

pub returns : goal.returns
returns c e = let h = c.loop-k.invariant e in (
  λ y. elim (h.0 y) [ inl o ↦ inl o | inr q ↦ inr q.1 ],
  λ y. elim y [ inl o ↦ h.1 (inl o) | inr q ↦ h.1 (inr ((let lt = q.0 in omega (arith, c.loop-k-test.false)), q)) ],
)
