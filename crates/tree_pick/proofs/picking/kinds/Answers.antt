use Rattle.std.proofs.Common.{◌∙◌, map, take_all, ap}
use Rattle.source_lex.specs.declared.lexeme.Lexeme.{Lexeme}
use Rattle.tree_pick.proofs.picking.kinds.Goals as goal

pub returns : goal.returns
returns c = c.into_bump_slice.ensures ∙ c.loop-lexeme.invariant ∙ ap (map (λ (x : Lexeme). x.kind)) (take_all c.loop-lexeme.lexeme-index c.args.lexemes.now c.loop-lexeme-test.false)
