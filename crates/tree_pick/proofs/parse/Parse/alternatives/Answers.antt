use Rattle.std.proofs.Common.{◌≡◌, ◌<◌, ◌∙◌, ℕ, List, length, slice_get, Bor, ap, sym, arith}
use Rattle.std.proofs.lemmas.List.{length-map}
use Rattle.source_lex.specs.Numbered.{plain_alternatives, plain_numbered}
use Rattle.source_lex.specs.declared.numbered.Symbol.{Symbol}
use Rattle.chart_parse.specs.Charts.{PlainChart}
use Rattle.tree_pick.proofs.FewAlternatives.{numbered_at, numbered_few}
use Rattle.tree_pick.proofs.parse.Parse.alternatives.Goals as goal

pub returns-clause-few : goal.returns-clause-few
returns-clause-few c =
    let list : List (Bor (List (Bor (List Symbol)))) = c.self.inside.nonterminals.now in
    let n : ℕ = c.args.nonterm in
    let count : length (plain_numbered list) ≡ length c.args.self.now.grammar = ap (λ (v : PlainChart). length v.grammar) c.self.view_is in
    let lt : n < length list = omega (arith, c.requires, count, length-map list plain_alternatives) in
    numbered_few list n lt c.self.invariant.4

pub returns-clause-alternatives : goal.returns-clause-alternatives
returns-clause-alternatives c =
    let list : List (Bor (List (Bor (List Symbol)))) = c.self.inside.nonterminals.now in
    let n : ℕ = c.args.nonterm in
    let count : length (plain_numbered list) ≡ length c.args.self.now.grammar = ap (λ (v : PlainChart). length v.grammar) c.self.view_is in
    let lt : n < length list = omega (arith, c.requires, count, length-map list plain_alternatives) in
    sym (ap (λ (v : PlainChart). slice_get v.grammar n) c.self.view_is) ∙ numbered_at list n lt
