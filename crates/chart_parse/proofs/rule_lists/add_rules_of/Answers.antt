use Rattle.std.proofs.Common.{◌≡◌, ℕ, List, [], Some, get_or, inl, refl, arith}
use Rattle.std.specs.Borrow.{Bor}
use Rattle.source_lex.specs.Numbered.{alternative_of}
use Rattle.source_lex.specs.declared.numbered.Symbol.{Symbol}
use Rattle.chart_parse.specs.declared.rule_lists.Rule.{Rule}
use Rattle.chart_parse.specs.Places.{grammar_of}
use Rattle.chart_parse.proofs.Rounds.{alternative_there, alternative_inside}
use Rattle.chart_parse.proofs.RuleLists.{rule_more, rule_next}
use Rattle.chart_parse.proofs.rule_lists.add_rules_of.Goals as goal

abbrev no_parts : Bor (List Symbol)
no_parts = record { ref_ptr = (0, 0); now = [] }

pub loop-a-init : goal.loop-a-init
loop-a-init c = record {
  longer = λ x h. h;
  rules = λ x h. inl h;
  has = λ b parts lt. absurd (omega arith);
}

pub loop-a-preserved : goal.loop-a-preserved
loop-a-preserved c =
    let g = grammar_of c.args.source.now in
    let m : ℕ = c.args.nonterminal in
    let all = c.args.alternatives.now in
    let rule : Rule = record { nonterminal = m; parts = get_or all c.loop-a.a no_parts } in
    let there : alternative_of g m c.loop-a.a ≡ Some rule.parts.now = alternative_there g all m c.loop-a.a no_parts c.requires c.loop-a-test.true in
    let add = c.in_ok-add_rule.ensures in
    record {
      longer = λ x h. (add x).1 (inl (c.loop-a.invariant.longer x h));
      rules = rule_more g c.args.class rule c.args.list.now.items c.loop-a.list.items c.add_rule.new.list.items add (c.loop-a.a, there) c.loop-a.invariant.rules;
      has = rule_next g c.args.class rule c.loop-a.list.items c.add_rule.new.list.items m c.loop-a.a add refl there c.loop-a.invariant.has;
    }

pub returns-clause-has : goal.returns-clause-has
returns-clause-has c a parts e is =
    let g = grammar_of c.args.source.now in
    let m : ℕ = c.args.nonterminal in
    let all = c.args.alternatives.now in
    c.loop-a.invariant.has a parts (omega (arith, alternative_inside g all m a parts c.requires e, c.loop-a-test.false)) e is
