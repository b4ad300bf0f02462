use Rattle.std.proofs.Common.{ℕ, List, Contains, sym, subst, arith}
use Rattle.std.specs.Prelude.{◌↔◌}
use Rattle.std.proofs.lemmas.Result.{IfOk-weaker}
use Rattle.source_lex.specs.Trees.{Has}
use Rattle.chart_parse.proofs.LeftCorners.{tree_within}
use Rattle.tree_pick.specs.Runs.{Cuts, CutsAmong}
use Rattle.tree_pick.proofs.FollowedParts.{choice_of}
use Rattle.tree_pick.proofs.FoundChoices.{last_cut, words_within}
use Rattle.tree_pick.proofs.choices.cut.Goals as goal

pub overflow_cast-result : goal.overflow_cast-result
overflow_cast-result c =
    let le = words_within c.args.parse.now.grammar c.args.parse.now.kinds c.args.nonterm c.args.rest.now c.args.at c.args.end (c.are_words.ensures c.if-are_words.true) c.requires.some in
    omega (arith, le, c.requires.places.1, c.requires.short)

pub overflow_sub-result : goal.overflow_sub-result
overflow_sub-result c = words_within c.args.parse.now.grammar c.args.parse.now.kinds c.args.nonterm c.args.rest.now c.args.at c.args.end (c.are_words.ensures c.if-are_words.true) c.requires.some

pub returns-then-are_words : goal.returns-then-are_words
returns-then-are_words c =
    last_cut c.args.parse.now.grammar c.args.parse.now.kinds c.args.nonterm c.args.rest.now c.args.at c.args.end (c.are_words.ensures c.if-are_words.true) c.requires.some

pub cut_among-requires-clause-some : goal.cut_among-requires-clause-some
cut_among-requires-clause-some c =
    let h : ℕ = c.requires.some.0 in
    (h, (subst (λ (l : List ℕ). Contains l h) (sym c.deref.ensures.value) ((c.in_ok-ends.ensures h).1 c.requires.some.1.0), c.requires.some.1.1))

pub cut_among-requires-clause-places : goal.cut_among-requires-clause-places
cut_among-requires-clause-places c k there =
    let t = (c.in_ok-ends.ensures k).0 (subst (λ (l : List ℕ). Contains l k) c.deref.ensures.value there) in
    tree_within c.args.parse.now.grammar c.args.parse.now.kinds c.args.nonterm c.args.at k t.0 c.requires.places.0 t.1

pub returns : goal.returns
returns c =
    let gr = c.args.parse.now.grammar in
    let w = c.args.parse.now.kinds in
    let places : List ℕ = c.deref.result.now in
    let ends : (k : ℕ) → Contains places k ↔ Has gr w c.args.nonterm c.args.at k = (λ k. subst (λ (l : List ℕ). Contains l k ↔ Has gr w c.args.nonterm c.args.at k) (sym c.deref.ensures.value) (c.in_ok-ends.ensures k)) in
    IfOk-weaker c.cut_among.result _ _
    (λ r h. choice_of (CutsAmong gr w c.args.rest.now c.args.end places) (Cuts gr w c.args.nonterm c.args.rest.now c.args.at c.args.end) r (λ k. (λ x. ((ends k).0 x.0, x.1), λ x. ((ends k).1 x.0, x.1))) h)
    c.cut_among.ensures
