use Rattle.std.proofs.Common.{◌≡◌, ◌∙◌, ◌<◌, ◌≤◌, ℕ, List, Contains, length, sym, ap, subst, arith, Vec, Global}
use Rattle.std.specs.Prelude.{◌↔◌}
use Rattle.std.proofs.lemmas.List.{length-map}
use Rattle.source_lex.specs.Numbered.{plain_alternatives}
use Rattle.source_lex.specs.Trees.{Has}
use Rattle.chart_parse.specs.Charts.{PlainChart}
use Rattle.chart_parse.specs.declared.rows.Entry.{Entry}
use Rattle.chart_parse.specs.Rows.{Lists, AreWide}
use Rattle.chart_parse.specs.Places.{Places, grammar_of, width_of, list_of}
use Rattle.chart_parse.proofs.Answered.{if_ok}
use Rattle.chart_parse.proofs.LeftCorners.{tree_within}
use Rattle.chart_parse.proofs.Stored.{lists_there, list_there}
use Rattle.chart_parse.proofs.spans.Chart.ends.Goals as goal

pub index-list-requires : goal.index-list-requires
index-list-requires c =
    let g = grammar_of c.self.inside.source in
    let w = c.self.inside.source.kinds.now in
    let p : Places = c.self.inside.places.items in
    let count = length-map c.self.inside.source.nonterminals.now plain_alternatives in
    let kinds = ap (λ (x : PlainChart). length x.kinds) c.self.view_is in
    let nonterminals = ap (λ (x : PlainChart). length x.grammar) c.self.view_is in
    let at : c.args.i ≤ length w = omega (arith, c.requires, kinds) in
    let lt : c.args.i < length p = omega (arith, c.self.invariant.count, at) in
    let len = ap length (lists_there p c.args.i c.index-lists.result.now lt c.index-lists.ensures) in
    omega (arith, len, c.self.invariant.tables c.args.i at, count, nonterminals, c.index-lists.result.now.ok.0)

pub listed-requires-clause-wide : goal.listed-requires-clause-wide
listed-requires-clause-wide c =
    let g = grammar_of c.self.inside.source in
    let w = c.self.inside.source.kinds.now in
    let p : Places = c.self.inside.places.items in
    let count = length-map c.self.inside.source.nonterminals.now plain_alternatives in
    let kinds = ap (λ (x : PlainChart). length x.kinds) c.self.view_is in
    let nonterminals = ap (λ (x : PlainChart). length x.grammar) c.self.view_is in
    let at : c.args.i ≤ length w = omega (arith, c.requires, kinds) in
    let lt : c.args.i < length p = omega (arith, c.self.invariant.count, at) in
    let len = ap length (lists_there p c.args.i c.index-lists.result.now lt c.index-lists.ensures) in
    let inside : length c.self.inside.source.nonterminals.now < length c.index-lists.result.now.items = omega (arith, len, c.self.invariant.tables c.args.i at, count, nonterminals) in
    let e : list_of p c.args.i (length c.self.inside.source.nonterminals.now) ≡ c.index-list.result.now.items = list_there p c.args.i (length c.self.inside.source.nonterminals.now) c.index-lists.result.now c.index-list.result.now lt c.index-lists.ensures inside c.index-list.ensures in
    let f : list_of p c.args.i (length g) ≡ c.deref.result.now = ap (list_of p c.args.i) count ∙ e ∙ sym c.deref.ensures.value in
    subst (AreWide (width_of w)) f (c.self.invariant.wide c.args.i (length g))

pub listed-requires-clause-small : goal.listed-requires-clause-small
listed-requires-clause-small c = c.self.invariant.small

pub as_places-requires : goal.as_places-requires
as_places-requires c j h =
    let x = (c.in_ok-ends.ensures j).0 (subst (λ (t : List ℕ). Contains t j) c.deref-2.ensures.value h) in
    omega (arith, x.0, c.self.invariant.small)

pub returns : goal.returns
returns c =
    let g = grammar_of c.self.inside.source in
    let w = c.self.inside.source.kinds.now in
    let p : Places = c.self.inside.places.items in
    let count = length-map c.self.inside.source.nonterminals.now plain_alternatives in
    let kinds = ap (λ (x : PlainChart). length x.kinds) c.self.view_is in
    let nonterminals = ap (λ (x : PlainChart). length x.grammar) c.self.view_is in
    let at : c.args.i ≤ length w = omega (arith, c.requires, kinds) in
    let lt : c.args.i < length p = omega (arith, c.self.invariant.count, at) in
    let len = ap length (lists_there p c.args.i c.index-lists.result.now lt c.index-lists.ensures) in
    let inside : length c.self.inside.source.nonterminals.now < length c.index-lists.result.now.items = omega (arith, len, c.self.invariant.tables c.args.i at, count, nonterminals) in
    let e : list_of p c.args.i (length c.self.inside.source.nonterminals.now) ≡ c.index-list.result.now.items = list_there p c.args.i (length c.self.inside.source.nonterminals.now) c.index-lists.result.now c.index-list.result.now lt c.index-lists.ensures inside c.index-list.ensures in
    let f : list_of p c.args.i (length g) ≡ c.deref.result.now = ap (list_of p c.args.i) count ∙ e ∙ sym c.deref.ensures.value in
    let ends : List ℕ = c.in_ok-ends.ends.items in
    if_ok c.as_places.result (λ (r : Vec ℕ Global). r.items ≡ c.deref-2.result.now) (λ (r : Vec ℕ Global). (j : ℕ) → Contains r.items j ↔ Has c.args.self.now.grammar c.args.self.now.kinds c.args.nonterminal c.args.i j) c.as_places.ensures
    (λ r is j.
    let same : r.items ≡ ends = is ∙ c.deref-2.ensures.value in
    let listed = c.in_ok-ends.ensures j in
    subst (λ (x : PlainChart). Contains r.items j ↔ Has x.grammar x.kinds c.args.nonterminal c.args.i j) c.self.view_is (
      λ h. let x = listed.0 (subst (λ (t : List ℕ). Contains t j) same h) in (c.self.invariant.ends c.args.i c.args.nonterminal j at x.0).0 (subst (λ (l : List Entry). Lists l c.args.nonterminal j) (sym f) x.1),
      λ h.
          let within : j ≤ length w = tree_within g w c.args.nonterminal c.args.i j h.0 at h.1 in
          subst (λ (t : List ℕ). Contains t j) (sym same) (listed.1 (within, subst (λ (l : List Entry). Lists l c.args.nonterminal j) f ((c.self.invariant.ends c.args.i c.args.nonterminal j at within).1 h))),
    ))
