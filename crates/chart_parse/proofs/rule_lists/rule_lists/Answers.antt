use Rattle.std.proofs.Common.{◌≡◌, inl, inr, List, [], Contains, subst, arith}
use Rattle.chart_parse.specs.declared.rule_lists.Rule.{Rule}
use Rattle.chart_parse.specs.declared.rule_lists.Class.TheVariants.{Behind, Here}
use Rattle.chart_parse.specs.Places.{grammar_of, IsOfClass}
use Rattle.chart_parse.proofs.RuleLists.{class_kept}
use Rattle.chart_parse.proofs.rule_lists.rule_lists.Goals as goal

nothing : (list : List Rule) (x : Rule) → list ≡ [] → Contains list x → ⊥
nothing list x e h = let y = subst (λ (l : List Rule). Contains l x) e h in absurd (let lt = y.1 in omega arith)

pub returns : goal.returns
returns c =
    let g = grammar_of c.args.source.now in
    let one = c.in_ok-add_rules.ensures in
    let two = c.in_ok-add_rules-2.ensures in
    let three = c.in_ok-add_rules-3.ensures in
    record {
      rules_behind = λ x h. elim (one.rules x h) [ inl o ↦ absurd (nothing _ x c.new-behind.ensures.items o) | inr q ↦ q.0 ];
      class_behind = λ x h. elim (one.rules x h) [ inl o ↦ absurd (nothing _ x c.new-behind.ensures.items o) | inr q ↦ q.1 ];
      rules_here = λ x h. elim (three.rules x h) [
        | inl m ↦ elim (two.rules x m) [ inl o ↦ absurd (nothing _ x c.new-here.ensures.items o) | inr q ↦ q.0 ]
        | inr q ↦ q.0
      ];
      has_behind = one.has;
      has_here = λ m. class_kept g Here _ _ m three.longer (two.has m);
      has_empty = three.has;
    }
