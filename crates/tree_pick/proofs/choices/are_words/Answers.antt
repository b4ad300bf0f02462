use Rattle.std.proofs.Common.{◌∙◌, Some, ap, below_more}
use Rattle.std.proofs.lemmas.Option.{slice_get-get_or}
use Rattle.source_lex.specs.declared.numbered.Symbol.{Symbol}
use Rattle.source_lex.specs.declared.numbered.Symbol.TheVariants.{Word}
use Rattle.source_lex.specs.declared.lexeme.LexKind.TheVariants.{Literal}
use Rattle.tree_pick.proofs.choices.are_words.Goals as goal

pub loop-k-preserved : goal.loop-k-preserved
loop-k-preserved c =
    below_more _ _ c.loop-k.invariant (c.in-Word.field-0, slice_get-get_or c.args.parts.now c.loop-k.k (Word (Literal 0)) c.loop-k-test.true ∙ ap (λ (x : Symbol). Some x) c.in-Word.is)
