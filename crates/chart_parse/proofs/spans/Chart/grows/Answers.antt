use Rattle.std.proofs.Common.{◌≡◌, ◌∙◌, ◌<◌, ◌≤◌, List, length, sym, ap, subst, arith}
use Rattle.std.specs.Prelude.{◌↔◌, IsTrue}
use Rattle.std.proofs.lemmas.List.{length-map}
use Rattle.source_lex.specs.Numbered.{plain_alternatives}
use Rattle.chart_parse.specs.Charts.{PlainChart}
use Rattle.chart_parse.specs.Growths.{Grows}
use Rattle.chart_parse.specs.declared.rows.Entry.{Entry}
use Rattle.chart_parse.specs.Rows.{Lists, AreWide}
use Rattle.chart_parse.specs.Places.{Places, grammar_of, width_of, list_of}
use Rattle.chart_parse.proofs.Lists.{wide_room}
use Rattle.chart_parse.proofs.Stored.{lists_there, list_there}
use Rattle.chart_parse.proofs.Updated.{has_bit}
use Rattle.chart_parse.proofs.spans.Chart.grows.Goals as goal

pub index-requires : goal.index-requires
index-requires c =
    let g = grammar_of c.self.inside.source in
    let w = c.self.inside.source.kinds.now in
    let p : Places = c.self.inside.places.items in
    let count = length-map c.self.inside.source.nonterminals.now plain_alternatives in
    let kinds = ap (λ (x : PlainChart). length x.kinds) c.self.view_is in
    let nonterminals = ap (λ (x : PlainChart). length x.grammar) c.self.view_is in
    let at : c.args.k ≤ length w = omega (arith, c.requires.places.0, kinds) in
    let lt : c.args.k < length p = omega (arith, c.self.invariant.count, at) in
    let len = ap length (lists_there p c.args.k c.index-lists.result.now lt c.index-lists.ensures) in
    omega (arith, len, c.self.invariant.tables c.args.k at, count, nonterminals, c.index-lists.result.now.ok.0, c.requires.nonterminal)

pub is_listed-requires : goal.is_listed-requires
is_listed-requires c =
    let g = grammar_of c.self.inside.source in
    let w = c.self.inside.source.kinds.now in
    let p : Places = c.self.inside.places.items in
    let count = length-map c.self.inside.source.nonterminals.now plain_alternatives in
    let kinds = ap (λ (x : PlainChart). length x.kinds) c.self.view_is in
    let nonterminals = ap (λ (x : PlainChart). length x.grammar) c.self.view_is in
    let at : c.args.k ≤ length w = omega (arith, c.requires.places.0, kinds) in
    let lt : c.args.k < length p = omega (arith, c.self.invariant.count, at) in
    let len = ap length (lists_there p c.args.k c.index-lists.result.now lt c.index-lists.ensures) in
    let below : c.args.j ≤ length w = omega (arith, c.requires.places.1, kinds) in
    let inside : c.args.from < length c.index-lists.result.now.items = omega (arith, len, c.self.invariant.tables c.args.k at, count, nonterminals, c.requires.nonterminal) in
    let e : list_of p c.args.k (c.args.from) ≡ c.index.result.now.items = list_there p c.args.k (c.args.from) c.index-lists.result.now c.index.result.now lt c.index-lists.ensures inside c.index.ensures in
    wide_room (width_of w) c.args.j c.deref.result.now (has_bit w c.args.j below) (subst (AreWide (width_of w)) (e ∙ sym c.deref.ensures.value) (c.self.invariant.wide c.args.k (c.args.from)))

pub returns : goal.returns
returns c =
    let g = grammar_of c.self.inside.source in
    let w = c.self.inside.source.kinds.now in
    let p : Places = c.self.inside.places.items in
    let count = length-map c.self.inside.source.nonterminals.now plain_alternatives in
    let kinds = ap (λ (x : PlainChart). length x.kinds) c.self.view_is in
    let nonterminals = ap (λ (x : PlainChart). length x.grammar) c.self.view_is in
    let at : c.args.k ≤ length w = omega (arith, c.requires.places.0, kinds) in
    let lt : c.args.k < length p = omega (arith, c.self.invariant.count, at) in
    let len = ap length (lists_there p c.args.k c.index-lists.result.now lt c.index-lists.ensures) in
    let below : c.args.j ≤ length w = omega (arith, c.requires.places.1, kinds) in
    let inside : c.args.from < length c.index-lists.result.now.items = omega (arith, len, c.self.invariant.tables c.args.k at, count, nonterminals, c.requires.nonterminal) in
    let e : list_of p c.args.k (c.args.from) ≡ c.index.result.now.items = list_there p c.args.k (c.args.from) c.index-lists.result.now c.index.result.now lt c.index-lists.ensures inside c.index.ensures in
    let listed = c.is_listed.ensures in
    let exact = c.self.invariant.growths c.args.k c.args.from c.args.into c.args.j at below (omega (arith, c.requires.nonterminal, nonterminals)) in
    let f : list_of p c.args.k c.args.from ≡ c.deref.result.now = e ∙ sym c.deref.ensures.value in
    subst (λ (x : PlainChart). IsTrue c.is_listed.result ↔ Grows x.grammar x.kinds c.args.into c.args.j c.args.from c.args.k) c.self.view_is (
      λ t. exact.0 (subst (λ (l : List Entry). Lists l c.args.into c.args.j) (sym f) (listed.0 t)),
      λ h. listed.1 (subst (λ (l : List Entry). Lists l c.args.into c.args.j) f (exact.1 h)),
    )
