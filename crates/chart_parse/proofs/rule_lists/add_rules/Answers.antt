use Rattle.std.proofs.Common.{inl, inr, ℕ, [], sym, subst, arith}
use Rattle.std.proofs.lemmas.List.{length-map}
use Rattle.std.proofs.lemmas.Bool.Decides.{eqb_tells}
use Rattle.source_lex.specs.Numbered.{plain_alternatives}
use Rattle.chart_parse.specs.Places.{grammar_of, HasClassOf}
use Rattle.chart_parse.proofs.EndsOfParts.{alternative_within}
use Rattle.chart_parse.proofs.Rounds.{alternatives_there}
use Rattle.chart_parse.proofs.RuleLists.{class_kept}
use Rattle.chart_parse.proofs.rule_lists.add_rules.Goals as goal

pub loop-nonterminal-init : goal.loop-nonterminal-init
loop-nonterminal-init c = record {
  longer = λ x h. h;
  rules = λ x h. inl h;
  has = λ m lt. absurd (omega arith);
}

pub add_rules_of-requires : goal.add_rules_of-requires
add_rules_of-requires c = alternatives_there c.args.source.now.nonterminals.now c.loop-nonterminal.nonterminal (record { ref_ptr = (0, 0); now = [] }) c.loop-nonterminal-test.true

pub loop-nonterminal-preserved : goal.loop-nonterminal-preserved
loop-nonterminal-preserved c =
    let g = grammar_of c.args.source.now in
    let mid = c.loop-nonterminal.list.items in
    let new = c.add_rules_of.new.list.items in
    let more = c.in_ok-add_rules_of.ensures in
    record {
      longer = λ x h. more.longer x (c.loop-nonterminal.invariant.longer x h);
      rules = λ x h. elim (more.rules x h) [ inl o ↦ c.loop-nonterminal.invariant.rules x o | inr q ↦ inr q ];
      has = λ m lt. elim (eqb_tells m c.loop-nonterminal.nonterminal) [
        | inl s ↦ subst (λ (i : ℕ). HasClassOf g c.args.class new i) (sym s.1) more.has
        | inr d ↦ class_kept g c.args.class mid new m more.longer (c.loop-nonterminal.invariant.has m (omega (arith, d.1, lt)))
      ];
    }

pub returns-clause-has : goal.returns-clause-has
returns-clause-has c m a parts e is =
    c.loop-nonterminal.invariant.has m (omega (arith, alternative_within (grammar_of c.args.source.now) m a parts e, c.loop-nonterminal-test.false, length-map c.args.source.now.nonterminals.now plain_alternatives)) a parts e is
