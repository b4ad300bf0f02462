use Rattle.std.proofs.Common.{◌≡◌, ℕ, ◌+◌, ◌<◌, ◌∷◌, drop, drop-cons, get_or, length, add-one, subst, arith}
use Rattle.std.proofs.lemmas.Option.{slice_get_within}
use Rattle.source_lex.specs.Numbered.{Alternative}
use Rattle.source_lex.specs.declared.numbered.Symbol.{Symbol}
use Rattle.source_lex.specs.declared.numbered.Symbol.TheVariants.{Word}
use Rattle.source_lex.specs.declared.lexeme.LexKind.TheVariants.{Literal}
use Rattle.chart_parse.proofs.Followed.{word_more}
use Rattle.chart_parse.proofs.runs.after_words.Goals as goal

next : (parts : Alternative) (p : ℕ) (d : Symbol) → p < length parts → drop p parts ≡ get_or parts p d ∷ drop (p + 1) parts
next parts p d h = rw (add-one p) (drop-cons parts p d h)

pub loop-k-preserved : goal.loop-k-preserved
loop-k-preserved c =
    let w = c.args.kinds.now in
    let parts : Alternative = c.args.parts.now in
    let there = c.is_kind.ensures.0 c.if-not-is_kind.false in
    let f = subst (λ (s : Symbol). drop c.loop-k.k parts ≡ s ∷ drop (c.loop-k.k + 1) parts) c.in-Word.is (next parts c.loop-k.k (Word (Literal 0)) c.loop-k-test.true) in
    record {
      within = omega (arith, slice_get_within w c.loop-k.at c.in-Word.kind there);
      on = λ g p. word_more g w p parts (drop c.loop-k.k parts) (drop (c.loop-k.k + 1) parts) c.in-Word.kind c.args.start c.loop-k.at f there (c.loop-k.invariant.on g p);
    }
