use Rattle.std.proofs.Common.{take, length, Contains}
use Rattle.tree_pick.specs.declared.phrases.Span.{Span}
use Rattle.tree_pick.specs.Walk.{span, WorkedSpan, AreReached}
use Rattle.tree_pick.proofs.walking.is_ambiguous.Given as goal

abbrev pub invariant-loop-p : goal.invariant-loop-p
invariant-loop-p l =
    let gr = l.parse.grammar in
    let w = l.parse.kinds in
    record {
      root : Contains l.seen.keys (span 0 0 (length w));
      reached : AreReached gr w l.seen.keys;
      worked : (x : Span) → Contains (take l.p l.seen.keys) x → WorkedSpan gr w l.seen.keys x.nonterm x.start x.end;
    }
