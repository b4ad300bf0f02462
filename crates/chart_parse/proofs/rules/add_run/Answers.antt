use Rattle.std.proofs.Common.{◌≡◌, [], refl, sym, subst, eqb-true}
use Rattle.std.proofs.lemmas.List.{nil_from_length}
use Rattle.source_lex.specs.Numbered.{Alternative}
use Rattle.chart_parse.specs.Places.{Places, grammar_of, RunsTo}
use Rattle.chart_parse.proofs.Rounds.{end_right}
use Rattle.chart_parse.proofs.rules.add_run.Goals as goal

pub add_list-requires-clause-right : goal.add_list-requires-clause-right
add_list-requires-clause-right c n e more =
    let g = grammar_of c.args.site.source.now in
    let w = c.args.site.source.now.kinds.now in
    let p : Places = c.args.places.now.items in
    let none : c.in-Some.rest.now ≡ [] = nil_from_length c.in-Some.rest.now (eqb-true _ 0 (sym c.if-is_empty.ensures)) in
    let run : RunsTo g w p c.args.parts.now c.args.site.place c.in-Some.at = (c.in-Some.ensures.1 g p c.in-Some.at).1 (subst (λ (r : Alternative). RunsTo g w p r c.in-Some.at c.in-Some.at) (sym none) refl) in
    end_right g w p c.args.site.place c.args.nonterminal c.args.parts.now c.args.into c.in-Some.at c.requires.part run c.requires.right n e more
