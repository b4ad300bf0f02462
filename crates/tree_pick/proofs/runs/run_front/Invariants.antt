use Rattle.std.proofs.Common.{◌≤◌, ℕ, drop, Contains}
use Rattle.std.specs.Prelude.{◌↔◌}
use Rattle.chart_parse.specs.Growths.{HasPieces}
use Rattle.tree_pick.specs.Runs.{AreWithin}
use Rattle.tree_pick.proofs.runs.run_front.Given as goal

abbrev pub invariant-loop-p : goal.invariant-loop-p
invariant-loop-p l =
    let gr = l.parse.grammar in
    let w = l.parse.kinds in
    record {
      within : AreWithin w l.places.items;
      upto : l.p ≤ l.count;
      places : (e : ℕ) → HasPieces gr w l.parts l.start e ↔ ((k : ℕ) × Contains l.places.items k × HasPieces gr w (drop l.p l.parts) k e);
    }
