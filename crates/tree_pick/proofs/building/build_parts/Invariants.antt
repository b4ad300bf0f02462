use Rattle.std.proofs.Common.{◌≡◌, ◌≤◌, length, List, drop, ◌++◌, true}
use Rattle.gram_form.specs.declared.tree.TreePart.{TreePart}
use Rattle.gram_form.specs.Trees.{Pieces}
use Rattle.source_lex.specs.Trees.{ArePieces}
use Rattle.chart_parse.specs.Growths.{HasPieces}
use Rattle.tree_pick.proofs.Plain.{all_before}
use Rattle.tree_pick.specs.Built.{HaveTrees}
use Rattle.tree_pick.proofs.building.build_parts.Given as goal

abbrev pub invariant-loop-p : goal.invariant-loop-p
invariant-loop-p l =
    let gr = l.parse.grammar in
    let w = l.parse.kinds in
    record {
      has : HasPieces gr w (drop l.p l.parts) l.at l.end;
      within : l.at ≤ length w;
      stack : HaveTrees gr w l.stack.items;
      whole : l.whole ≡ true → (more : List TreePart) × (l.list.items ≡ l.fn.list.items ++ more) × ((qs : Pieces) → ArePieces gr w (drop l.p l.parts) l.at l.end qs → ArePieces gr w l.parts l.start l.end (all_before more qs));
    }
