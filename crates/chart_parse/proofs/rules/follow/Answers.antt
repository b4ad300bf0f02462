use Rattle.std.proofs.Common.{◌≡◌, drop, length, sym, subst, refl, ap, arith, ℕ, ◌<◌}
use Rattle.std.proofs.lemmas.List.{length-map}
use Rattle.source_lex.specs.Numbered.{Alternative, plain_alternatives}
use Rattle.chart_parse.specs.Places.{Places, grammar_of, IsRule, IsMetBy, FollowsBy}
use Rattle.chart_parse.proofs.Answered.{on_then}
use Rattle.chart_parse.proofs.EndsOfParts.{alternative_within}
use Rattle.chart_parse.proofs.Rounds.{added_none, rule_other, rule_phrase, met_other, met_phrase}
use Rattle.chart_parse.proofs.rules.follow.Goals as goal

pub add_run-requires-clause-nonterminal : goal.add_run-requires-clause-nonterminal
add_run-requires-clause-nonterminal c = alternative_within (grammar_of c.args.site.source.now) c.args.rule.nonterminal c.requires.rule.0 c.args.rule.parts.now c.requires.rule.1

pub add_run-requires-in-Some-clause-nonterminal : goal.add_run-requires-in-Some-clause-nonterminal
add_run-requires-in-Some-clause-nonterminal c = alternative_within (grammar_of c.args.site.source.now) c.args.rule.nonterminal c.requires.rule.0 c.args.rule.parts.now c.requires.rule.1

pub add_run-requires-clause-right : goal.add_run-requires-clause-right
add_run-requires-clause-right c =
    subst (λ (n : ℕ). IsRule (grammar_of c.args.site.source.now) c.args.site.source.now.kinds.now c.args.site.place c.args.rule.nonterminal c.args.rule.parts.now n) (length-map c.args.site.source.now.nonterminals.now plain_alternatives)
    (rule_other (grammar_of c.args.site.source.now) c.args.site.source.now.kinds.now c.args.site.place c.args.rule.nonterminal c.requires.rule.0 c.args.rule.parts.now c.requires.rule.1)

pub add_run-requires-in-Some-clause-right : goal.add_run-requires-in-Some-clause-right
add_run-requires-in-Some-clause-right c =
    let g = grammar_of c.args.site.source.now in
    let w = c.args.site.source.now.kinds.now in
    let some : c.in-Some.first < length g = omega (arith, c.if-into-count.false, length-map c.args.site.source.now.nonterminals.now plain_alternatives) in
    subst (λ (r : Alternative). IsRule g w c.args.site.place c.args.rule.nonterminal r c.in-Some.first) (sym c.split_at.ensures.back)
    (rule_phrase g w c.args.site.place c.args.rule.nonterminal c.requires.rule.0 c.in-Some.first c.args.rule.parts.now (drop 1 c.args.rule.parts.now) c.in-Some.ensures c.requires.rule.1 some)

pub split_at-requires : goal.split_at-requires
split_at-requires c = omega (arith, ap length c.in-Some.ensures)

pub returns-then-into-count-clause-added : goal.returns-then-into-count-clause-added
returns-then-into-count-clause-added c = added_none (grammar_of c.args.site.source.now) c.args.site.source.now.kinds.now c.args.site.place c.args.places.now.items c.requires.part

pub returns-then-into-count-clause-same : goal.returns-then-into-count-clause-same
returns-then-into-count-clause-same c _ i n = refl

pub returns-then-into-count-clause-met : goal.returns-then-into-count-clause-met
returns-then-into-count-clause-met c =
    met_phrase (grammar_of c.args.site.source.now) c.args.site.source.now.kinds.now c.args.places.now.items c.args.places.now.items c.args.site.place c.args.rule.nonterminal c.in-Some.first c.args.rule.parts.now (drop 1 c.args.rule.parts.now) c.in-Some.ensures
    (λ lt. absurd (omega (arith, lt, c.if-into-count.true, length-map c.args.site.source.now.nonterminals.now plain_alternatives)))

pub returns-in-None-clause-met : goal.returns-in-None-clause-met
returns-in-None-clause-met c =
    let g = grammar_of c.args.site.source.now in
    let w = c.args.site.source.now.kinds.now in
    let old : Places = c.args.places.now.items in
    let new : Places = c.add_run.new.places.items in
    let count = length-map c.args.site.source.now.nonterminals.now plain_alternatives in
    on_then c.add_run.result (FollowsBy g w old new c.args.site.place c.args.rule.nonterminal c.args.rule.parts.now (length c.args.site.source.now.nonterminals.now))
    (IsMetBy g w old new c.args.site.place c.args.rule.nonterminal c.args.rule.parts.now) c.add_run.ensures.follows
    (λ h. met_other g w old new c.args.site.place c.args.rule.nonterminal c.args.rule.parts.now c.in-None.ensures (subst (λ (n : ℕ). FollowsBy g w old new c.args.site.place c.args.rule.nonterminal c.args.rule.parts.now n) (sym count) h))

pub returns-else-into-count-clause-met : goal.returns-else-into-count-clause-met
returns-else-into-count-clause-met c =
    let g = grammar_of c.args.site.source.now in
    let w = c.args.site.source.now.kinds.now in
    let old : Places = c.args.places.now.items in
    let new : Places = c.add_run-in-Some.new.places.items in
    on_then c.add_run-in-Some.result (FollowsBy g w old new c.args.site.place c.args.rule.nonterminal c.split_at.result.1.now c.in-Some.first)
    (IsMetBy g w old new c.args.site.place c.args.rule.nonterminal c.args.rule.parts.now) c.add_run-in-Some.ensures.follows
    (λ h. met_phrase g w old new c.args.site.place c.args.rule.nonterminal c.in-Some.first c.args.rule.parts.now (drop 1 c.args.rule.parts.now) c.in-Some.ensures
    (λ _. subst (λ (r : Alternative). FollowsBy g w old new c.args.site.place c.args.rule.nonterminal r c.in-Some.first) c.split_at.ensures.back h))
