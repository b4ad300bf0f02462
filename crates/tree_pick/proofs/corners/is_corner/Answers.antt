use Rattle.std.proofs.Common.{◌≡◌, ◌∙◌, ◌&&◌, true, false, nat_eq, sym, arith}
use Rattle.std.proofs.lemmas.Bool.Decides.{nat_tests}
use Rattle.tree_pick.specs.declared.corners.Beginning.{Beginning}
use Rattle.tree_pick.specs.Corners.{beginning}
use Rattle.tree_pick.specs.contracts.corners.BeginningPartialEq as eq
use Rattle.tree_pick.proofs.AllCorners.{any_there}
use Rattle.tree_pick.proofs.corners.is_corner.Goals as goal

pair_itself : (x : Beginning) → eq.TheImpl.eq-value.it x x ≡ true
pair_itself x = let f : (nat_eq x.first x.first && nat_eq x.whole x.whole) ≡ true = grind (arith, nat_tests) in f

pub returns : goal.returns
returns c un there =
    let t : true ≡ false = sym (any_there eq.TheImpl.eq-value.it pair_itself c.args.pairs.now.keys (beginning c.args.first c.args.whole) there) ∙ sym c.contains.ensures ∙ un in
    cc
