use Rattle.std.proofs.Common.{◌≡◌, ◌⊎◌, inl, inr, ℕ, ◌+◌, List, [], ◌∷◌, ◌++◌, take, take_all, get_or, Contains, add-one, true, false, sym, subst, ◌∙◌, arith}
use Rattle.std.proofs.Math.Seq.{take-suc}
use Rattle.std.proofs.lemmas.List.Elements.{Contains-get_or, Contains-push_cases}
use Rattle.chart_parse.specs.declared.rule_lists.Rule.{Rule}
use Rattle.chart_parse.specs.declared.rule_lists.Class.TheVariants.{Behind}
use Rattle.chart_parse.specs.Places.{Places, grammar_of, class_of, IsMet}
use Rattle.chart_parse.proofs.EndsOfParts.{met_kept}
use Rattle.chart_parse.proofs.NearRows.{near_kept}
use Rattle.chart_parse.proofs.Rounds.{added_none, added_more, same_met, behind_met, behind_still}
use Rattle.chart_parse.proofs.rules.follow_each.Goals as goal
use Rattle.chart_parse.proofs.rules.follow_each.Goals.{then-branch, else-branch}

abbrev no_rule : Rule
no_rule = record { nonterminal = 0; parts = record { ref_ptr = (0, 0); now = [] } }

pub loop-k-init : goal.loop-k-init
loop-k-init c = record {
  added = added_none (grammar_of c.args.site.source.now) c.args.site.source.now.kinds.now c.args.site.place c.args.places.now.items c.requires.part;
  met = λ x h _. absurd (let lt = h.1 in omega arith);
}

pub follow-requires-clause-part : goal.follow-requires-clause-part
follow-requires-clause-part c = c.loop-k.invariant.added.part

pub follow-requires-clause-near : goal.follow-requires-clause-near
follow-requires-clause-near c = near_kept (grammar_of c.args.site.source.now) c.args.site.source.now.kinds.now c.args.site.place c.args.places.now.items c.loop-k.places.items c.args.site.near.now c.requires.near c.loop-k.invariant.added

pub follow-requires-clause-rule : goal.follow-requires-clause-rule
follow-requires-clause-rule c = c.requires.rules (get_or c.args.rules.now c.loop-k.k no_rule) (Contains-get_or c.args.rules.now c.loop-k.k no_rule c.loop-k-test.true)

pub loop-k-preserved : goal.loop-k-preserved
loop-k-preserved c =
    let g = grammar_of c.args.site.source.now in
    let w = c.args.site.source.now.kinds.now in
    let old : Places = c.args.places.now.items in
    let mid : Places = c.loop-k.places.items in
    let new : Places = c.follow.new.places.items in
    let place : ℕ = c.args.site.place in
    let rules : List Rule = c.args.rules.now in
    let rule : Rule = get_or rules c.loop-k.k no_rule in
    let next : take (c.loop-k.k + 1) rules ≡ take c.loop-k.k rules ++ rule ∷ [] = rw (add-one c.loop-k.k) (take-suc rules c.loop-k.k no_rule c.loop-k-test.true) in
    let part = c.loop-k.invariant.added.part in
    let added = c.in_ok-follow.ensures.added in
    record {
      added = added_more g w place old mid new c.loop-k.invariant.added added;
      met = λ x here why. elim (Contains-push_cases (take c.loop-k.k rules) rule x (subst (λ (t : List Rule). Contains t x) next here)) [
        | inl o ↦ elim why [
          | inl q ↦ elim c.if-branch.branch [
            | then-branch v ↦ absurd (let y : true ≡ false = sym v.more-is ∙ q in cc)
            | else-branch v ↦
                met_kept g w 0 mid new part added.part (λ i n _. c.in_ok-follow.ensures.same v.if-branch.false i n) place x.nonterminal x.parts.now (omega arith)
                (c.loop-k.invariant.met x o (inl (sym v.more-is ∙ q)))
          ]
          | inr b ↦ behind_still g w place x.nonterminal mid new part added x.parts.now b (c.loop-k.invariant.met x o (inr b))
        ]
        | inr s ↦ elim why [
          | inl q ↦ elim c.if-branch.branch [
            | then-branch v ↦ absurd (let y : true ≡ false = sym v.more-is ∙ q in cc)
            | else-branch v ↦
                subst (λ (y : Rule). IsMet g w new place y.nonterminal y.parts.now) s
                (same_met g w mid new added.part (c.in_ok-follow.ensures.same v.if-branch.false) place rule.nonterminal rule.parts.now c.in_ok-follow.ensures.met)
          ]
          | inr b ↦
              subst (λ (y : Rule). IsMet g w new place y.nonterminal y.parts.now) s
              (behind_met g w place rule.nonterminal mid new part added rule.parts.now (subst (λ (y : Rule). class_of y.parts.now ≡ Behind) (sym s) b) c.in_ok-follow.ensures.met)
        ]
      ];
    }

pub returns-clause-met : goal.returns-clause-met
returns-clause-met c x h why = c.loop-k.invariant.met x (subst (λ (t : List Rule). Contains t x) (sym (take_all c.loop-k.k c.args.rules.now c.loop-k-test.false)) h) why
