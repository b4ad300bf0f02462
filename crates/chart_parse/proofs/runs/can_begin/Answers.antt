use Rattle.std.proofs.Common.{◌≡◌, ◌∙◌, ◌<◌, ℕ, List, length, sym, ap, subst, arith}
use Rattle.std.proofs.lemmas.List.{length-map}
use Rattle.source_lex.specs.Numbered.{Alternative, plain_alternatives}
use Rattle.chart_parse.specs.declared.rows.Entry.{Entry}
use Rattle.chart_parse.specs.Rows.{Lists}
use Rattle.chart_parse.specs.Places.{grammar_of, list_of, RunsTo}
use Rattle.chart_parse.proofs.Stored.{lists_there, list_there}
use Rattle.chart_parse.proofs.runs.can_begin.Goals as goal

pub index-requires : goal.index-requires
index-requires c =
    let lt : c.args.at < length c.args.places.now = omega (arith, c.requires.part.count, c.requires.at) in
    let len = ap length (lists_there c.args.places.now c.args.at c.index-places-at.result lt c.index-places-at.is) in
    omega (arith, len, c.requires.part.tables c.args.at c.requires.at, length-map c.args.source.now.nonterminals.now plain_alternatives, c.index-places-at.result.ok.0)

pub returns-in-None : goal.returns-in-None
returns-in-None c q e run = absurd (cc)

pub returns-in-Some : goal.returns-in-Some
returns-in-Some c q e run =
    let p = c.args.places.now in
    let g = grammar_of c.args.source.now in
    let w = c.args.source.now.kinds.now in
    let n : ℕ = length c.args.source.now.nonterminals.now in
    let lt : c.args.at < length p = omega (arith, c.requires.part.count, c.requires.at) in
    let count : length g ≡ n = length-map c.args.source.now.nonterminals.now plain_alternatives in
    let len = ap length (lists_there p c.args.at c.index-places-at.result lt c.index-places-at.is) in
    let inside : n < length c.index-places-at.result.items = omega (arith, len, c.requires.part.tables c.args.at c.requires.at, count) in
    let there : list_of p c.args.at n ≡ c.index.result.now.items = list_there p c.args.at n c.index-places-at.result c.index.result.now lt c.index-places-at.is inside c.index.ensures in
    let same : list_of p c.args.at (length g) ≡ c.deref.result.now = ap (list_of p c.args.at) count ∙ there ∙ sym c.deref.ensures.value in
    let x = subst (λ (r : Alternative). RunsTo g w p r c.args.at e) c.in-Some.ensures run in
    c.is_present.ensures q x.0 (subst (λ (l : List Entry). Lists l c.in-Some.nonterminal x.0) same x.1.1)
