use Rattle.std.proofs.Common.{◌≡◌, ◌↔◌, ℕ, List, IsTrue, ap, subst, ◌∙◌}
use Rattle.chart_parse.specs.Charts.{PlainChart}
use Rattle.source_lex.specs.Numbered.{Numbered}
use Rattle.source_lex.specs.declared.lexeme.LexKind.{LexKind}
use Rattle.chart_parse.specs.Growths.{Grows}
use Rattle.tree_pick.proofs.SpineTwo.{can_grow, grows_so}
use Rattle.tree_pick.proofs.parse.Parse.grows.Goals as goal

pub returns : goal.returns
returns c =
    let g : Numbered = c.args.self.now.grammar in
    let w : List LexKind = c.args.self.now.kinds in
    let n : ℕ = c.args.into.nonterm in
    let j : ℕ = c.args.into.end in
    let a : c.self.inside.chart.now.grammar ≡ g = c.self.invariant.0 ∙ ap (λ (v : PlainChart). v.grammar) c.self.view_is in
    let b : c.self.inside.chart.now.kinds ≡ w = c.self.invariant.1 ∙ ap (λ (v : PlainChart). v.kinds) c.self.view_is in
    let h = subst (λ (v : List LexKind). IsTrue c.grows.result ↔ Grows g v n j c.args.from c.args.k) b
    (subst (λ (h : Numbered). IsTrue c.grows.result ↔ Grows h c.self.inside.chart.now.kinds n j c.args.from c.args.k) a c.grows.ensures) in (
      λ yes. can_grow g w n j c.args.from c.args.k (h.0 yes),
      λ can. h.1 (grows_so g w n j c.args.from c.args.k can.0 can.1),
    )
