use Rattle.std.proofs.Common.{◌≤◌, List, drop, length}
use Rattle.tree_pick.specs.declared.phrases.Span.{Span}
use Rattle.chart_parse.specs.Growths.{HasPieces}
use Rattle.tree_pick.specs.Spines.{Reached, Parts}
use Rattle.tree_pick.specs.Longer.{IsKept, IsLonger}
use Rattle.tree_pick.specs.Walk.{root_of, WorkedParts, AreReached}
use Rattle.tree_pick.proofs.walking.look_at_parts.Given as goal

abbrev pub invariant-loop-p : goal.invariant-loop-p
invariant-loop-p l =
    let gr = l.parse.grammar in
    let w = l.parse.kinds in
    record {
      at : Reached gr w (root_of w) (Parts (drop l.p l.parts) l.at l.end);
      has : HasPieces gr w (drop l.p l.parts) l.at l.end;
      within : l.at ≤ length w;
      reached : AreReached gr w l.seen.keys;
      longer : IsLonger l.fn.seen.keys l.seen.keys;
      worked : (T : List Span) → IsKept l.seen.keys T → WorkedParts gr w T (drop l.p l.parts) l.at l.end → WorkedParts gr w T l.parts l.start l.end;
    }
