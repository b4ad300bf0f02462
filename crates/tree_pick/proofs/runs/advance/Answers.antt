use Rattle.std.proofs.Common.{◌≡◌, ◌⊎◌, inl, inr, ℕ, List, Contains, sym, subst, slice_get, Some}
use Rattle.std.specs.Prelude.{◌↔◌}
use Rattle.source_lex.specs.declared.numbered.Symbol.{Symbol as Part}
use Rattle.std.proofs.lemmas.Result.{on_ok_weaker}
use Rattle.tree_pick.specs.Runs.{Leads}
use Rattle.tree_pick.proofs.runs.advance.Goals as goal

pub returns-in_ok-add_place-in-Word : goal.returns-in_ok-add_place-in-Word
returns-in_ok-add_place-in-Word c e =
    let gr = c.args.parse.now.grammar in
    let w = c.args.parse.now.kinds in
    let old : List ℕ = c.args.places.now.items in
    let new : List ℕ = c.add_place.new.places.items in
    let h = c.in_ok-add_place-in-Word.ensures e in
    let there : slice_get w c.args.at ≡ Some c.in-Word.kind = c.is_kind.ensures.0 c.if-is_kind.true in
    subst (λ (p : Part). Contains new e ↔ (Contains old e ⊎ Leads gr w p c.args.at e)) (sym c.in-Word.is) (
      λ x. elim (h.0 x) [ inl o ↦ inl o | inr q ↦ inr (there, q) ],
      λ x. elim x [ inl o ↦ h.1 (inl o) | inr q ↦ h.1 (inr q.1) ],
    )

pub returns-in_ok-ends-in-Phrase : goal.returns-in_ok-ends-in-Phrase
returns-in_ok-ends-in-Phrase c =
    let gr = c.args.parse.now.grammar in
    let w = c.args.parse.now.kinds in
    let old : List ℕ = c.args.places.now.items in
    let new : List ℕ = c.add_places.new.places.items in
    on_ok_weaker c.add_places.result (λ all e.
    let h = all e in
    let k = c.in_ok-ends-in-Phrase.ensures e in
    subst (λ (p : Part). Contains new e ↔ (Contains old e ⊎ Leads gr w p c.args.at e)) (sym c.in-Phrase.is) (
      λ x. elim (h.0 x) [ inl o ↦ inl o | inr q ↦ inr (k.0 (subst (λ (l : List ℕ). Contains l e) c.deref.ensures.value q)) ],
      λ x. elim x [ inl o ↦ h.1 (inl o) | inr q ↦ h.1 (inr (subst (λ (l : List ℕ). Contains l e) (sym c.deref.ensures.value) (k.1 q))) ],
    )) c.add_places.ensures
