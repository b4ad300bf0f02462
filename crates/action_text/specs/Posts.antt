-- The labels of a tree, each behind those of the trees under it.
use Rattle.std.specs.Prelude.{List, [], ◌∷◌, ◌++◌}
use Rattle.meta_terms.specs.Templates.{Label, Tree, Trees}
use Rattle.action_terms.specs.Trees.{tree, none, more}

abbrev mutual
  pub postorder : Tree → List Label
  postorder (tree l ts) = postorders ts ++ l ∷ []

  pub postorders : Trees → List Label
  postorders none = []
  postorders (more t ts) = postorder t ++ postorders ts
