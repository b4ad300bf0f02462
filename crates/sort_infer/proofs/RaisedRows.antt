-- The table with one row raised.
use Rattle.std.proofs.Common.{List, [], ap, arith, inl, inr, refl, suc, sym, zero, ℕ, ◌∙◌, ◌∷◌, ◌≡◌, ◌⊎◌}
use Rattle.std.specs.Prelude.{Some, slice_get, slice_set}
use Rattle.std.proofs.lemmas.Bool.{cases_lt}
use Rattle.sort_rules.specs.Demands.{Demand, ◌⊒◌}
use Rattle.sort_rules.specs.MarkedRows.{marked_table, part_in, row_part}
use Rattle.sort_rules.specs.Parts.{Part, join}
use Rattle.sort_rules.specs.Raising.{IsJoined}
use Rattle.sort_rules.specs.Tables.{Entry, node_of}
use Rattle.sort_rules.specs.declared.rows.MarkedRow.{MarkedRow}
use Rattle.sort_rules.proofs.MarkedLaws.{marked-part}
use Rattle.sort_infer.specs.Raised.{RaisesBy, RaisesEntry, RaisesRow, entry_of}

get-set : (ms : List MarkedRow) (k : ℕ) (r m : MarkedRow) → slice_get ms k ≡ Some r → slice_get (slice_set ms k m) k ≡ Some m
get-set [] k r m e = cc
get-set (x ∷ ms) zero r m e = refl
get-set (x ∷ ms) (suc k) r m e = get-set ms k r m e

get-other : (ms : List MarkedRow) (k j : ℕ) (m : MarkedRow) → (j ≡ k → ⊥) → slice_get (slice_set ms k m) j ≡ slice_get ms j
get-other [] k j m h = refl
get-other (x ∷ ms) zero zero m h = absurd (h refl)
get-other (x ∷ ms) zero (suc j) m h = refl
get-other (x ∷ ms) (suc k) zero m h = refl
get-other (x ∷ ms) (suc k) (suc j) m h = get-other ms k j m (λ e. h (ap suc e))

pub set-joined : (ms : List MarkedRow) (k : ℕ) (r m : MarkedRow) (x : Entry) (v : Part) → slice_get ms k ≡ Some r → k ≡ node_of x → RaisesEntry x v r m → IsJoined (marked_table ms) (marked_table (slice_set ms k m)) x v
set-joined ms k r m x v there same h = record { at = joined; others = other }
  where
    new : (y : Entry) → node_of y ≡ k → marked_table (slice_set ms k m) y ≡ row_part m y
    new y e = marked-part (slice_set ms k m) y ∙ ap (λ (j : ℕ). part_in (λ r. row_part r y) (slice_get (slice_set ms k m) j)) e ∙ ap (part_in (λ r. row_part r y)) (get-set ms k r m there)

    old : (y : Entry) → node_of y ≡ k → marked_table ms y ≡ row_part r y
    old y e = marked-part ms y ∙ ap (λ (j : ℕ). part_in (λ r. row_part r y) (slice_get ms j)) e ∙ ap (part_in (λ r. row_part r y)) there

    joined : marked_table (slice_set ms k m) x ≡ join (marked_table ms x) v
    joined = new x (sym same) ∙ h.at ∙ sym (ap (λ (p : Part). join p v) (old x (sym same)))

    far : (y : Entry) → (node_of y ≡ k → ⊥) → marked_table (slice_set ms k m) y ≡ marked_table ms y
    far y e = marked-part (slice_set ms k m) y ∙ ap (part_in (λ r. row_part r y)) (get-other ms k (node_of y) m e) ∙ sym (marked-part ms y)

    near : (y : Entry) → node_of y ≡ k → (y ≡ x) ⊎ (marked_table (slice_set ms k m) y ≡ marked_table ms y)
    near y e = elim (h.others y (e ∙ same)) [ inl q ↦ inl q | inr q ↦ inr (new y e ∙ q ∙ sym (old y e)) ]

    other : (y : Entry) → (y ≡ x) ⊎ (marked_table (slice_set ms k m) y ≡ marked_table ms y)
    other y = elim (cases_lt (node_of y) k) [
      | inl lt ↦ inr (far y (λ e. absurd (omega (arith, lt, e))))
      | inr le ↦ elim (cases_lt k (node_of y)) [ inl gt ↦ inr (far y (λ e. absurd (omega (arith, gt, e)))) | inr ge ↦ near y (omega (arith, le, ge)) ]
    ]

-- by a demand
pub set-raised : (d : Demand) (ms : List MarkedRow) (k : ℕ) (r m : MarkedRow) → slice_get ms k ≡ Some r → k ≡ node_of (entry_of d) → RaisesRow d r m → RaisesBy d (marked_table ms) (marked_table (slice_set ms k m))
set-raised (x ⊒ v) ms k r m there same h = set-joined ms k r m x v there same h
