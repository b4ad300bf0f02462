use Rattle.std.proofs.Common.{◌≡◌, ◌∙◌, ℕ, ◌+◌, length, sym, subst, arith}
use Rattle.std.proofs.lemmas.List.{length-map}
use Rattle.source_lex.specs.Numbered.{plain_alternatives}
use Rattle.chart_parse.specs.Table.{AllWide}
use Rattle.chart_parse.specs.Places.{grammar_of}
use Rattle.chart_parse.proofs.FirstLists.{HasFirst, AreFirst, no_places, one_place, first_part}
use Rattle.chart_parse.proofs.first.first_places.Goals as goal

pub loop-i-init : goal.loop-i-init
loop-i-init c = subst (AreFirst (grammar_of c.args.source.now) c.args.source.now.kinds.now 0) (sym c.new-places.ensures.items) (no_places (grammar_of c.args.source.now) c.args.source.now.kinds.now)

pub loop-i-preserved : goal.loop-i-preserved
loop-i-preserved c =
    let g = grammar_of c.args.source.now in
    let w = c.args.source.now.kinds.now in
    let count : length g ≡ length c.args.source.now.nonterminals.now = length-map c.args.source.now.nonterminals.now plain_alternatives in
    subst (AreFirst g w (c.loop-i.i + 1)) (sym c.in_ok-push.ensures.items)
    (one_place g w c.loop-i.i c.loop-i.places.items c.in_ok-first_lists.field-0 c.in_ok-row.row.now (omega (arith, c.loop-i-test.true)) c.loop-i.invariant
    (c.in_ok-first_lists.ensures.len ∙ omega (arith, count))
    (subst (λ (n : ℕ). AllWide n c.in_ok-first_lists.field-0.items) c.in_ok-row.ensures.len c.in_ok-first_lists.ensures.wide)
    (subst (λ (n : ℕ). HasFirst n c.in_ok-row.row.now c.in_ok-first_lists.field-0.items) (sym count) c.in_ok-first_lists.ensures.lists)
    c.in_ok-row.ensures.one)

pub returns : goal.returns
returns c =
    let all : c.loop-i.i ≡ length c.args.source.now.kinds.now + 1 = omega (arith, c.loop-i-test.false, c.loop-i.auto.i-end) in
    first_part (grammar_of c.args.source.now) c.args.source.now.kinds.now c.loop-i.places.items (omega (arith, c.requires, length-map c.args.source.now.nonterminals.now plain_alternatives))
    (subst (λ (n : ℕ). AreFirst (grammar_of c.args.source.now) c.args.source.now.kinds.now n c.loop-i.places.items) all c.loop-i.invariant)
