use Rattle.std.proofs.Common.{◌≡◌, map, take}
use Rattle.source_lex.specs.declared.lexeme.Lexeme.{Lexeme}
use Rattle.tree_pick.proofs.picking.kinds.Given as goal

abbrev pub invariant-loop-lexeme : goal.invariant-loop-lexeme
invariant-loop-lexeme l = l.list.items ≡ map (λ (x : Lexeme). x.kind) (take l.lexeme-index l.lexemes)
