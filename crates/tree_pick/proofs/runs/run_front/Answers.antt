use Rattle.std.proofs.Common.{◌≡◌, ◌+◌, ◌<◌, ◌≤◌, ℕ, List, [], ◌∷◌, ◌++◌, drop, length, Contains, sym, subst, refl, arith, get_or, ◌∙◌, ap}
use Rattle.std.specs.Prelude.{◌↔◌}
use Rattle.source_lex.specs.declared.lexeme.LexKind.TheVariants.{Literal}
use Rattle.source_lex.specs.declared.numbered.Symbol.{Symbol as Part}
use Rattle.source_lex.specs.declared.numbered.Symbol.TheVariants.{Word}
use Rattle.source_lex.specs.Numbered.{Alternative}
use Rattle.chart_parse.specs.Growths.{HasPieces}
use Rattle.tree_pick.specs.Runs.{AreWithin, LeadsFrom}
use Rattle.tree_pick.proofs.Looked.{next}
use Rattle.tree_pick.proofs.FollowedParts.{run_more, alone, led_within}
use Rattle.tree_pick.proofs.runs.run_front.Goals as goal

pub loop-p-init : goal.loop-p-init
loop-p-init c =
    let gr = c.args.parse.now.grammar in
    let w = c.args.parse.now.kinds in
    let parts : Alternative = c.args.parts.now in
    let items : List ℕ = c.push.new.self.items in
    let one : items ≡ c.args.start ∷ [] = c.in_ok-push.ensures.items ∙ ap (λ (l : List ℕ). l ++ c.args.start ∷ []) c.new-places.ensures.items in
    record {
      within = λ k h. subst (λ (n : ℕ). n ≤ length w) ((alone items c.args.start k one).0 h) c.requires.start;
      upto = omega arith;
      places = λ e. (
        λ h. (c.args.start, (alone items c.args.start c.args.start one).1 refl, h),
        λ h. subst (λ (k : ℕ). HasPieces gr w parts k e) (sym ((alone items c.args.start h.0 one).0 h.1)) h.2,
      );
    }

pub follow-requires-clause-within : goal.follow-requires-clause-within
follow-requires-clause-within c = subst (AreWithin c.args.parse.now.kinds) (sym c.deref.ensures.value) c.loop-p.invariant.within

pub loop-p-preserved : goal.loop-p-preserved
loop-p-preserved c =
    let gr = c.args.parse.now.grammar in
    let w = c.args.parse.now.kinds in
    let parts : Alternative = c.args.parts.now in
    let part : Part = get_or parts c.loop-p.p (Word (Literal 0)) in
    let old : List ℕ = c.loop-p.places.items in
    let new : List ℕ = c.in_ok-places.places.items in
    let lt : c.loop-p.p < length parts = omega (arith, c.loop-p-test.true, c.requires.count) in
    let f = next parts c.loop-p.p (Word (Literal 0)) part lt refl in
    let led : (v : ℕ) → Contains new v ↔ LeadsFrom gr w part old v = (λ v. subst (λ (l : List ℕ). Contains new v ↔ LeadsFrom gr w part l v) c.deref.ensures.value (c.in_ok-places.ensures v)) in
    record {
      within = λ k h. led_within gr w part old k c.loop-p.invariant.within ((led k).0 h);
      upto = omega (arith, c.loop-p-test.true);
      places = λ e. run_more gr w parts (drop c.loop-p.p parts) (drop (c.loop-p.p + 1) parts) part c.args.start e old new f (c.loop-p.invariant.places e) led;
    }

pub returns-clause-places : goal.returns-clause-places
returns-clause-places c e =
    let gr = c.args.parse.now.grammar in
    let w = c.args.parse.now.kinds in
    let parts : Alternative = c.args.parts.now in
    let q : c.loop-p.p ≡ c.args.count = omega (arith, c.loop-p.invariant.upto, c.loop-p-test.false) in
    subst (λ (n : ℕ). HasPieces gr w parts c.args.start e ↔ ((k : ℕ) × Contains c.loop-p.places.items k × HasPieces gr w (drop n parts) k e)) q (c.loop-p.invariant.places e)
