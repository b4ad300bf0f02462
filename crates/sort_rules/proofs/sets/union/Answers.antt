use Rattle.std.proofs.Common.{IsTrue, List, ℕ, subst, sym, ◌≡◌}
use Rattle.sort_rules.specs.Numbers.{ascends, merged}
use Rattle.sort_rules.proofs.Ascents.{ascends-complete, ascends-sound}
use Rattle.sort_rules.proofs.Wellformed.{merged_ascends}
use Rattle.sort_rules.proofs.sets.union.Goals as goal

ascends-merged : (xs ys zs : List ℕ) → IsTrue (ascends ys) → zs ≡ merged xs ys → IsTrue (ascends zs)
ascends-merged xs ys zs h e = subst (λ (zs : List ℕ). IsTrue (ascends zs)) (sym e) (ascends-complete (merged_ascends xs (ascends-sound ys h)))

pub invariant_of-result : goal.invariant_of-result
invariant_of-result c = record {
  cells_ascend = ascends-merged c.args.x.cells.now c.args.y.cells.now c.in_ok-cells.cells.now c.args.y.cells_ascend c.in_ok-cells.ensures;
  abstractions_ascend = ascends-merged c.args.x.abstractions.now c.args.y.abstractions.now c.in_ok-abstractions.abstractions.now c.args.y.abstractions_ascend c.in_ok-abstractions.ensures;
}
