use Rattle.std.proofs.Common.{◌∙◌, sym, ap, [], ◌∷◌}
use Rattle.action_terms.specs.Labels.{AnAction}
use Rattle.action_terms.specs.Places.{fills}
use Rattle.action_terms.proofs.Whole.{whole-fills, fills-whole, one_tree}
use Rattle.action_terms.proofs.BuilderLemmas.{fills-expects}
use Rattle.action_terms.proofs.builder.GraphBuilder.is_whole.Goals as goal

pub returns-clause-exact : goal.returns-clause-exact
returns-clause-exact c =
    let s = c.self.inside in
    let same = ap (fills (AnAction ∷ [])) (sym c.self.view_is) ∙ fills-expects _ _ _ _ c.self.invariant ∙ sym c.is_met.ensures in
    (λ true. fills-whole _ (same ∙ true), λ whole. sym same ∙ whole-fills _ whole)

pub returns-clause-one_tree : goal.returns-clause-one_tree
returns-clause-one_tree c t u h g e f = one_tree t u h g (e ∙ sym f)
