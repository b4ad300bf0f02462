use Rattle.std.proofs.Common.{◌≡◌, ◌∙◌, ◌<◌, ◌≤◌, ℕ, List, Contains, length, ltb-true, ltb-false, sym, ap, subst, arith, Vec, Global}
use Rattle.std.proofs.lemmas.List.{length-map}
use Rattle.source_lex.specs.Numbered.{plain_alternatives}
use Rattle.chart_parse.specs.Charts.{PlainChart}
use Rattle.chart_parse.specs.Places.{row_at}
use Rattle.chart_parse.proofs.NearRows.{row_there}
use Rattle.tree_pick.specs.Corners.{AreAllCorners, AreFirsts}
use Rattle.tree_pick.proofs.FirstLists.{growth_listed}
use Rattle.tree_pick.proofs.parse.Parse.firsts.Goals as goal

pub returns-in-Some-clause-below : goal.returns-in-Some-clause-below
returns-in-Some-clause-below c m h =
    let rows : List (Vec ℕ Global) = c.deref.result.now in
    let lists : List (Vec ℕ Global) = c.self.inside.corners.now.firsts.items in
    let lt : c.args.whole < length rows = ltb-true _ _ (sym c.in-Some.ensures.lookup.0) in
    let there : row_at rows c.args.whole ≡ c.in-Some.list.now.items = row_there rows c.args.whole c.in-Some.list.now lt c.in-Some.ensures.lookup.1 in
    let here : row_at lists c.args.whole ≡ c.as_slice.result.now = sym (ap (λ (l : List (Vec ℕ Global)). row_at l c.args.whole) c.deref.ensures.value) ∙ there ∙ sym c.as_slice.ensures.value in
    let count = ap (λ (v : PlainChart). length v.grammar) c.self.view_is in
    omega (arith, count, length-map c.self.inside.nonterminals.now plain_alternatives, c.self.invariant.6.lists.below c.args.whole m (subst (λ (l : List ℕ). Contains l m) (sym here) h))

pub returns-in-Some-clause-all : goal.returns-in-Some-clause-all
returns-in-Some-clause-all c j m k within can =
    let rows : List (Vec ℕ Global) = c.deref.result.now in
    let lists : List (Vec ℕ Global) = c.self.inside.corners.now.firsts.items in
    let lt : c.args.whole < length rows = ltb-true _ _ (sym c.in-Some.ensures.lookup.0) in
    let there : row_at rows c.args.whole ≡ c.in-Some.list.now.items = row_there rows c.args.whole c.in-Some.list.now lt c.in-Some.ensures.lookup.1 in
    let here : row_at lists c.args.whole ≡ c.as_slice.result.now = sym (ap (λ (l : List (Vec ℕ Global)). row_at l c.args.whole) c.deref.ensures.value) ∙ there ∙ sym c.as_slice.ensures.value in
    let pairs = c.self.inside.corners.now.pairs.keys in
    let corners = subst (λ (v : PlainChart). AreAllCorners v.grammar pairs) c.self.view_is c.self.invariant.5 in
    let count : length c.self.inside.nonterminals.now ≡ length c.args.self.now.grammar = sym (length-map c.self.inside.nonterminals.now plain_alternatives) ∙ ap (λ (v : PlainChart). length v.grammar) c.self.view_is in
    let all = subst (λ (n : ℕ). AreFirsts n pairs lists) count c.self.invariant.6 in
    subst (λ (l : List ℕ). Contains l m) here (growth_listed c.args.self.now.grammar c.args.self.now.kinds pairs lists corners all c.args.whole j m k within can).1

pub returns-in-None-clause-all : goal.returns-in-None-clause-all
returns-in-None-clause-all c j m k within can =
    let lists : List (Vec ℕ Global) = c.self.inside.corners.now.firsts.items in
    let pairs = c.self.inside.corners.now.pairs.keys in
    let corners = subst (λ (v : PlainChart). AreAllCorners v.grammar pairs) c.self.view_is c.self.invariant.5 in
    let count : length c.self.inside.nonterminals.now ≡ length c.args.self.now.grammar = sym (length-map c.self.inside.nonterminals.now plain_alternatives) ∙ ap (λ (v : PlainChart). length v.grammar) c.self.view_is in
    let all = subst (λ (n : ℕ). AreFirsts n pairs lists) count c.self.invariant.6 in
    let lt : c.args.whole < length c.args.self.now.grammar = (growth_listed c.args.self.now.grammar c.args.self.now.kinds pairs lists corners all c.args.whole j m k within can).0 in
    let past : length c.deref.result.now ≤ c.args.whole = ltb-false _ _ (sym c.in-None.ensures.lookup.0) in
    absurd (omega (arith, lt, past, all.lists.count, ap length c.deref.ensures.value))
