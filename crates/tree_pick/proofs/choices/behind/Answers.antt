use Rattle.std.proofs.Common.{sym, subst}
use Rattle.std.specs.Prelude.{MatchOption}
use Rattle.tree_pick.specs.declared.phrases.Corner.{Corner}
use Rattle.tree_pick.specs.Choices.{BeginsNot, IsBehind}
use Rattle.tree_pick.proofs.choices.behind.Goals as goal

pub returns-in-Leaf : goal.returns-in-Leaf
returns-in-Leaf c =
    let gr = c.args.parse.now.grammar in
    let w = c.args.parse.now.kinds in
    subst (λ (k : Corner). MatchOption c.behind_leaf.result (BeginsNot gr w k c.args.parts.now) (λ r. IsBehind gr w k c.args.parts.now r.0.now r.1)) (sym c.in-Leaf.is) c.behind_leaf.ensures

pub returns-in-Branch : goal.returns-in-Branch
returns-in-Branch c =
    let gr = c.args.parse.now.grammar in
    let w = c.args.parse.now.kinds in
    subst (λ (k : Corner). MatchOption c.behind_phrase.result (BeginsNot gr w k c.args.parts.now) (λ r. IsBehind gr w k c.args.parts.now r.0.now r.1)) (sym c.in-Branch.is) c.behind_phrase.ensures
