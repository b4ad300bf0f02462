use Rattle.std.proofs.Common.{◌≤◌, inl, inr, ℕ, length, sym, subst, Bor, arith}
use Rattle.tree_pick.specs.declared.phrases.Span.{Span}
use Rattle.source_lex.specs.Trees.{Has}
use Rattle.gram_form.specs.declared.tree.Tree.{Tree}
use Rattle.tree_pick.specs.Walk.{span}
use Rattle.tree_pick.specs.Built.{IsTreeOf}
use Rattle.tree_pick.proofs.building.build.Goals as goal

pub returns-in-Some : goal.returns-in-Some
returns-in-Some c =
    let gr = c.args.parse.now.grammar in
    let w = c.args.parse.now.kinds in
    let t : Bor Tree = c.in-Some.tree.now in
    subst (λ (n : ℕ). IsTreeOf gr w 0 0 n t.now) c.len.ensures (c.loop.invariant.built (span 0 0 c.len.result) t (sym c.in-Some.ensures.value))

pub work-requires-clause-has : goal.work-requires-clause-has
work-requires-clause-has c =
    let gr = c.args.parse.now.grammar in
    let w = c.args.parse.now.kinds in
    elim c.next_phrase-phrase.ensures.of [
      | inl e ↦ subst (λ (s : Span). Has gr w s.nonterm s.start s.end) (sym e) (subst (λ (n : ℕ). Has gr w 0 0 n) (sym c.len.ensures) c.requires.has)
      | inr h ↦ (c.loop.invariant.stack c.next_phrase-phrase.result h).0
    ]

pub work-requires-clause-within : goal.work-requires-clause-within
work-requires-clause-within c =
    let w = c.args.parse.now.kinds in
    elim c.next_phrase-phrase.ensures.of [
      | inl e ↦ subst (λ (s : Span). s.start ≤ length w) (sym e) (omega arith)
      | inr h ↦ (c.loop.invariant.stack c.next_phrase-phrase.result h).1
    ]

pub work-requires-clause-stack : goal.work-requires-clause-stack
work-requires-clause-stack c x h = c.loop.invariant.stack x (c.next_phrase-phrase.ensures.rest x h)
