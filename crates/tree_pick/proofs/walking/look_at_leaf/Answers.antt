use Rattle.std.proofs.Common.{◌≡◌, length, true, false, ◌+◌, sym, ap, subst, ◌∙◌, ◌==◌}
use Rattle.source_lex.specs.declared.numbered.Symbol.TheVariants.{Word}
use Rattle.source_lex.specs.Numbered.{Alternative}
use Rattle.tree_pick.specs.Spines.{Reached, Parts}
use Rattle.tree_pick.specs.Walk.{root_of}
use Rattle.tree_pick.proofs.Looked.{leaf_at, behind}
use Rattle.tree_pick.proofs.walking.look_at_leaf.Goals as goal

pub look_at_parts-requires-clause-at : goal.look_at_parts-requires-clause-at
look_at_parts-requires-clause-at c =
    let gr = c.args.parse.now.grammar in
    let w = c.args.parse.now.kinds in
    let h = leaf_at gr w c.args.phrase.nonterm c.args.phrase.start c.args.phrase.end c.args.leaf c.alternative-parts.result.now c.alternative-parts.ensures c.requires.fits (λ e. let z : false ≡ true = c.if-is_empty.ensures ∙ ap (λ (l : Alternative). length l == 0) e in cc) c.requires.at in
    subst (λ (r : Alternative). Reached gr w (root_of w) (Parts r (c.args.phrase.start + 1) c.args.leaf.end)) (sym (behind c.alternative-parts.result.now (Word h.0) h.1 h.2)) h.3
