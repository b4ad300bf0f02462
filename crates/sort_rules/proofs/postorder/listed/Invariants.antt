use Rattle.std.proofs.Common.{All, List, [], length, ℕ, ◌+◌, ◌++◌, ◌∷◌, ◌≡◌}
use Rattle.action_terms.specs.Forms.{IsDatum, yielder_at}
use Rattle.std.specs.Prelude.{reverse}
use Rattle.action_terms.specs.Need.{yielder_count}
use Rattle.action_terms.specs.Steps.{closures_in}
use Rattle.action_terms.specs.declared.view.YielderView.{YielderView}
use Rattle.sort_rules.specs.Judgements.{judgement}
use Rattle.sort_rules.specs.Parts.{Part}
use Rattle.sort_rules.specs.Postorder.{judged_by_all, listed_closures}
use Rattle.sort_rules.proofs.Listing.{closures_at, judged_stack, left_count}
use Rattle.sort_rules.proofs.postorder.listed.Given as goal

-- with whatever leads to the judgements of what is left, the list leads to that of the yielder
abbrev pub invariant-loop-next : goal.invariant-loop-next
invariant-loop-next l = record {
  judged : (c : ℕ → Part) (g h : Part) (more : List YielderView) → judged_by_all c g h more ≡ judged_stack l.graph.yielders c g h l.left.items
      → judged_by_all c g h (l.views.items ++ more) ≡ judgement c g h (yielder_at l.graph.yielders l.number) ∷ [];
  closures : (more : List YielderView) → listed_closures more ≡ reverse (closures_at l.graph.yielders l.left.items)
      → listed_closures (l.views.items ++ more) ≡ reverse (closures_in (yielder_at l.graph.yielders l.number));
  count : length l.views.items + left_count l.graph.yielders l.left.items ≡ yielder_count (yielder_at l.graph.yielders l.number);
  data_left : All (IsDatum l.graph.yielders) l.left.items;
}

abbrev pub decreases-loop-next : goal.decreases-loop-next
decreases-loop-next l = left_count l.graph.yielders l.left.items
