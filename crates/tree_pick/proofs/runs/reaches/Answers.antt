use Rattle.std.proofs.Common.{◌≡◌, ◌<◌, ℕ, List, [], length, sym, subst, refl, arith, get_or, IsTrue, nat_eq, ◌-◌}
use Rattle.std.specs.Prelude.{◌↔◌}
use Rattle.std.proofs.lemmas.Bool.Decides.{nat_tests}
use Rattle.source_lex.specs.Numbered.{Alternative}
use Rattle.source_lex.specs.declared.lexeme.LexKind.TheVariants.{Literal}
use Rattle.source_lex.specs.declared.numbered.Symbol.{Symbol as Part}
use Rattle.source_lex.specs.declared.numbered.Symbol.TheVariants.{Word}
use Rattle.chart_parse.specs.Growths.{HasPieces}
use Rattle.tree_pick.specs.Runs.{AreWithin, LeadsFrom}
use Rattle.tree_pick.proofs.LeftParts.{empty_list, some_list}
use Rattle.tree_pick.proofs.FollowedParts.{no_part, last_run}
use Rattle.tree_pick.proofs.runs.reaches.Goals as goal

equal : (a b : ℕ) → IsTrue (nat_eq a b) ↔ (a ≡ b)
equal a b = (λ h. grind (arith, nat_tests), λ h. grind (arith, nat_tests))

pub returns-then-is_empty : goal.returns-then-is_empty
returns-then-is_empty c =
    let gr = c.args.parse.now.grammar in
    let w = c.args.parse.now.kinds in
    let i : ℕ = c.args.start in
    let j : ℕ = c.args.end in
    let e : c.args.parts.now ≡ [] = empty_list c.args.parts.now c.if-is_empty.ensures in
    let n = subst (λ (r : Alternative). HasPieces gr w r i j ↔ (i ≡ j)) (sym e) (no_part gr w i j) in (
      λ h. n.1 ((equal i j).0 h),
      λ h. (equal i j).1 (n.0 h),
    )

pub leads_from-requires-clause-within : goal.leads_from-requires-clause-within
leads_from-requires-clause-within c = subst (AreWithin c.args.parse.now.kinds) (sym c.deref.ensures.value) c.in_ok-places.ensures.within

pub returns : goal.returns
returns c =
    let gr = c.args.parse.now.grammar in
    let w = c.args.parse.now.kinds in
    let parts : Alternative = c.args.parts.now in
    let places : List ℕ = c.in_ok-places.places.items in
    let last : ℕ = length parts - 1 in
    let lt : 0 < length parts = some_list parts c.if-is_empty.ensures in
    let part : Part = get_or parts last (Word (Literal 0)) in
    let r = last_run gr w parts part last c.args.start c.args.end places (omega (arith, lt)) refl (c.in_ok-places.ensures.places c.args.end) in
    let led = subst (λ (l : List ℕ). IsTrue c.leads_from.result ↔ LeadsFrom gr w part l c.args.end) c.deref.ensures.value c.leads_from.ensures in (
      λ h. r.0 (led.0 h),
      λ h. led.1 (r.1 h),
    )
