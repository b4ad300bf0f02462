use Rattle.std.proofs.Common.{◌≡◌, ◌⊎◌, ◌∙◌, ap, inl, inr, ℕ, List, take, ◌++◌, drop, length, sym, subst, arith}
use Rattle.std.specs.Prelude.{◌↔◌}
use Rattle.chart_parse.specs.Rows.{Has}
use Rattle.chart_parse.proofs.Stored.{written_back}
use Rattle.chart_parse.proofs.first.row_of.Goals as goal

one_alone : (old new : List ℕ) (e d : ℕ) → ((k : ℕ) → Has old k → ⊥) → (Has new d ↔ (Has old d ⊎ (d ≡ e))) → Has new d ↔ (d ≡ e)
one_alone old new e d none one = (
  λ h. elim (one.0 h) [ inl o ↦ absurd (none d o) | inr q ↦ q ],
  λ q. one.1 (inr q),
)

pub returns-in-Ok-clause-one : goal.returns-in-Ok-clause-one
returns-in-Ok-clause-one c d within =
    let row : List ℕ = c.in_ok-row.row.items in
    let new : List ℕ = c.insert.new.row in
    let was : c.deref_mut.result.now ≡ row = c.deref_mut.ensures.value in
    let back : take c.in_ok-row.row.len (new ++ drop (length new) row) ≡ new =
    written_back new row c.in_ok-row.row.len (omega (arith, c.in_ok-row.row.ok.0)) (c.insert.ensures.len ∙ ap length was) in
    let same : c.in-Ok.copy.now ≡ new = c.in-Ok.ensures ∙ c.deref.ensures.value ∙ back in
    subst (λ (r : List ℕ). Has r d ↔ (d ≡ c.args.e)) (sym same) (one_alone c.deref_mut.result.now new c.args.e d (λ k h. c.in_ok-row.ensures.none k (subst (λ (r : List ℕ). Has r k) was h)) (c.insert.ensures.one d))
