use Rattle.std.proofs.Common.{◌≡◌, List, Some, None, Option, true, [], ◌∷◌, sym, ap, subst, ◌∙◌}
use Rattle.tree_pick.specs.declared.phrases.Taken.{Taken}
use Rattle.source_lex.specs.declared.numbered.Symbol.TheVariants.{Phrase}
use Rattle.source_lex.specs.Numbered.{Alternative}
use Rattle.gram_form.specs.Trees.{PlainTree, Node}
use Rattle.source_lex.specs.Trees.{IsTree}
use Rattle.tree_pick.specs.Built.{IsTreeOf}
use Rattle.gram_form.specs.declared.tree.TreePart.{TreePart, Sub}
use Rattle.source_lex.specs.Trees.{ArePieces}
use Rattle.std.proofs.Common.{Bor, ◌++◌, true, IfSome, is_some}
use Rattle.gram_form.specs.declared.tree.Tree.{Tree}
use Rattle.tree_pick.proofs.BuiltParts.{step_tree}
use Rattle.tree_pick.proofs.Looked.{behind}
use Rattle.gram_form.specs.Trees.{plain_pieces, plain_tree}
use Rattle.tree_pick.proofs.building.build_step.Goals as goal
use Rattle.tree_pick.proofs.building.build_step.Goals.{in-Some+in_ok-push_part, in_default}

there : (o : Option (Bor Tree)) → is_some o ≡ true → o ≡ None → ⊥
there None a b = cc
there (Some t) a b = cc

pub returns-clause-tree : goal.returns-clause-tree
returns-clause-tree c =
    let gr = c.args.parse.now.grammar in
    let w = c.args.parse.now.kinds in
    let parts : Alternative = c.alternative-parts.result.now in
    let step : Taken = c.args.step in
    let rest : Alternative = c.requires.fits.0.0 in
    let f : parts ≡ Phrase c.args.from ∷ rest = (let q : Some parts ≡ Some (Phrase c.args.from ∷ rest) = sym c.alternative-parts.ensures ∙ c.requires.fits.0.1 in cc) in
    let h = c.in_ok-whole.ensures.whole c.if-not-whole.false in
    let more : List TreePart = h.0 in
    let ps = subst (λ (r : Alternative). ArePieces gr w r c.args.at step.end (plain_pieces more)) (behind parts (Phrase c.args.from) rest f) h.2 in
    let items : List TreePart = c.into_bump_slice.result.now in
    let is : IsTree gr w step.production c.args.phrase.start step.end (Node step.production step.alternative (plain_pieces items) c.args.phrase.start step.end) = elim c.match-tree.branch [
      | in-Some+in_ok-push_part w1 ↦
          let t : Bor Tree = w1.in-Some.tree in
          let below : IsTreeOf gr w c.args.from c.args.phrase.start c.args.at t.now = subst (λ (o : Option (Bor Tree)). IfSome o (λ u. IsTreeOf gr w c.args.from c.args.phrase.start c.args.at u.now)) w1.in-Some.is c.requires.tree in
          let a : c.match-tree.list.items ≡ w1.push_part.new.list.items = (let q = w1.list-is in cc) in
          let b : w1.push_part.new.list.items ≡ c.new-list.result.items ++ Sub t ∷ [] = w1.in_ok-push_part.ensures in
          let d : c.new-list.result.items ≡ [] = c.new-list.ensures.items in
          let k : items ≡ c.build_parts.new.list.items = c.into_bump_slice.ensures in
          let l : c.match-tree.list.items ≡ Sub t ∷ [] = a ∙ b ∙ ap (λ (x : List TreePart). x ++ Sub t ∷ []) d in
          step_tree gr w c.args.from c.args.phrase.start c.args.at step parts rest t more items c.alternative-parts.ensures f below ps (k ∙ h.1 ∙ ap (λ (x : List TreePart). x ++ more) l)
      | in_default w1 ↦ absurd (there c.args.tree c.if-is_none.ensures w1.in_default.is)
    ] in
    subst (λ (t : PlainTree). IsTree gr w step.production c.args.phrase.start step.end t) (sym (ap plain_tree c.in_ok-place.ensures)) is
