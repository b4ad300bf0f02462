use Rattle.std.proofs.Common.{sym, subst}
use Rattle.source_lex.specs.declared.numbered.Symbol.TheVariants.{Phrase}
use Rattle.source_lex.specs.Numbered.{Alternative}
use Rattle.tree_pick.specs.Spines.{Reached, Parts}
use Rattle.tree_pick.specs.Walk.{root_of}
use Rattle.tree_pick.proofs.Looked.{step_at, behind}
use Rattle.tree_pick.proofs.walking.look_at_step.Goals as goal

pub look_at_parts-requires-clause-at : goal.look_at_parts-requires-clause-at
look_at_parts-requires-clause-at c =
    let gr = c.args.parse.now.grammar in
    let w = c.args.parse.now.kinds in
    let h = step_at gr w c.args.phrase.nonterm c.args.phrase.end c.args.from c.args.at c.args.step c.alternative-parts.result.now c.alternative-parts.ensures c.requires.fits c.requires.at in
    subst (λ (r : Alternative). Reached gr w (root_of w) (Parts r c.args.at c.args.step.end)) (sym (behind c.alternative-parts.result.now (Phrase c.args.from) h.0 h.1)) h.2
