use Rattle.std.proofs.Common.{◌≡◌, ◌<◌, ℕ, slice_get, Some}
use Rattle.source_lex.specs.declared.numbered.Symbol.TheVariants.{Word}
use Rattle.source_lex.specs.declared.lexeme.LexKind.{LexKind}
use Rattle.tree_pick.proofs.choices.are_words.Given as goal

abbrev pub invariant-loop-k : goal.invariant-loop-k
invariant-loop-k l = (j : ℕ) → j < l.k → (c : LexKind) × (slice_get l.parts j ≡ Some (Word c))
