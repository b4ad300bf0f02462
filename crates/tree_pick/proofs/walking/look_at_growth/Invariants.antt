use Rattle.std.proofs.Common.{◌≤◌, List, length}
use Rattle.tree_pick.specs.declared.phrases.Span.{Span}
use Rattle.tree_pick.specs.Spines.{Reached, Growing, CanGrow}
use Rattle.tree_pick.specs.Longer.{IsKept, IsLonger}
use Rattle.tree_pick.specs.Walk.{root_of, WorkedGrowth, AreReached}
use Rattle.tree_pick.proofs.walking.look_at_growth.Given as goal

abbrev pub invariant-loop : goal.invariant-loop
invariant-loop l =
    let gr = l.parse.grammar in
    let w = l.parse.kinds in
    record {
      at : Reached gr w (root_of w) (Growing l.from l.at l.phrase.nonterm l.phrase.end);
      can : CanGrow gr w l.phrase.nonterm l.phrase.end l.from l.at;
      within : l.at ≤ length w;
      reached : AreReached gr w l.seen.keys;
      longer : IsLonger l.fn.seen.keys l.seen.keys;
      worked : (T : List Span) → IsKept l.seen.keys T → WorkedGrowth gr w T l.phrase.nonterm l.phrase.end l.from l.at → WorkedGrowth gr w T l.phrase.nonterm l.phrase.end l.fn.leaf.production l.fn.leaf.end;
    }
