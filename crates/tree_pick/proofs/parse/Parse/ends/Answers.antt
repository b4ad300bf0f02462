use Rattle.std.proofs.Common.{◌≡◌, ◌↔◌, ℕ, List, IfOk, Contains, ap, subst, ◌∙◌}
use Rattle.chart_parse.specs.Charts.{PlainChart}
use Rattle.source_lex.specs.Numbered.{Numbered}
use Rattle.source_lex.specs.Trees.{Has}
use Rattle.source_lex.specs.declared.lexeme.LexKind.{LexKind}
use Rattle.tree_pick.proofs.parse.Parse.ends.Goals as goal

pub returns : goal.returns
returns c =
    let a : c.self.inside.chart.now.grammar ≡ c.args.self.now.grammar = c.self.invariant.0 ∙ ap (λ (v : PlainChart). v.grammar) c.self.view_is in
    let b : c.self.inside.chart.now.kinds ≡ c.args.self.now.kinds = c.self.invariant.1 ∙ ap (λ (v : PlainChart). v.kinds) c.self.view_is in
    subst (λ (w : List LexKind). IfOk c.ends.result (λ ends. (j : ℕ) → Contains ends.items j ↔ Has c.args.self.now.grammar w c.args.nonterm c.args.start j)) b
    (subst (λ (g : Numbered). IfOk c.ends.result (λ ends. (j : ℕ) → Contains ends.items j ↔ Has g c.self.inside.chart.now.kinds c.args.nonterm c.args.start j)) a c.ends.ensures)
