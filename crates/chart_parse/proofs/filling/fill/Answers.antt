use Rattle.std.proofs.Common.{◌≡◌, ◌-◌, ◌+◌, ℕ, length, subst, arith}
use Rattle.chart_parse.specs.Places.{Places, grammar_of, AreNear}
use Rattle.chart_parse.proofs.Rounds.{closed_next}
use Rattle.chart_parse.proofs.filling.fill.Goals as goal

pub loop-done-init : goal.loop-done-init
loop-done-init c = record {
  part = c.in_ok-places.ensures;
  near = c.in_ok-near.ensures c.in_ok-places.places.items (length c.args.source.now.kinds.now + 1 - 0);
  closed = λ i le lt. absurd (omega (arith, le, lt));
}

pub loop-done-preserved : goal.loop-done-preserved
loop-done-preserved c =
    let g = grammar_of c.args.source.now in
    let w = c.args.source.now.kinds.now in
    record {
      part = c.in_ok-close.ensures.added.part;
      near = subst (λ (first : ℕ). AreNear g w c.close.new.places.items first c.mark_near.new.near.items) (let e : length w - c.loop-done.done ≡ length w + 1 - (c.loop-done.done + 1) = omega arith in e)
          (subst (λ (p : Places). AreNear g w p (length w - c.loop-done.done) c.mark_near.new.near.items) c.deref-in-loop-done.ensures.value c.in_ok-mark_near.ensures);
      closed = closed_next g w (length w - c.loop-done.done) c.loop-done.done c.loop-done.places.items c.close.new.places.items c.loop-done.invariant.part (omega (arith, c.loop-done-test.true)) c.in_ok-close.ensures.added c.in_ok-close.ensures.closed c.loop-done.invariant.closed;
    }

pub returns-clause-closed : goal.returns-clause-closed
returns-clause-closed c i le = c.loop-done.invariant.closed i le (omega (arith, c.loop-done-test.false))
