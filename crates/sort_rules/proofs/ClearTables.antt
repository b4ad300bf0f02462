-- A table in memory has no clash, so it is admissible where its demands hold.
use Rattle.std.proofs.Common.{List, [], false, refl, suc, zero, ℕ, ◌∷◌, ◌≡◌}
use Rattle.std.specs.Prelude.{slice_index_or}
use Rattle.action_terms.specs.Actions.{Action}
use Rattle.sort_rules.specs.Admissible.{IsAdmissible, IsClear, Meets, is_clash}
use Rattle.sort_rules.specs.Demands.{Each, MoreOf, NoneOf}
use Rattle.sort_rules.specs.Parts.{Part, Unreached}
use Rattle.sort_rules.specs.Rows.{IsBindSort, IsSortRow, IsTable, IsTupleSort, SortRow, SortTable, unmarked, unreached_row}
use Rattle.sort_rules.specs.Sets.{Set, empty_set, is_empty}
use Rattle.sort_rules.specs.Values.{one_or_unreached}
use Rattle.sort_rules.specs.Wellformed.{IsSort, ListedSort, UnreachedBindings, UnreachedSort, UnreachedTuple}
use Rattle.sort_rules.proofs.Choices.{of_choice}

sort_clear : {x : Part} → IsSort x → is_clash x ≡ false
sort_clear UnreachedSort = refl
sort_clear (ListedSort f l) = refl

-- each row of a table is well-formed
pub row_at : (rs : List SortRow) (k : ℕ) → Each IsSortRow rs → IsSortRow (slice_index_or rs k unreached_row)
row_at [] k NoneOf =
    let none : IsTupleSort Unreached = record { sort = UnreachedSort; tuple = UnreachedTuple } in
    let none2 : IsBindSort Unreached = record { sort = UnreachedSort; bindings = UnreachedBindings } in
    record { data_in = none; binds_in = none2; data_out = none; binds_out = none2; escaped = none }
row_at (r ∷ rs) zero (MoreOf h hs) = h
row_at (r ∷ rs) (suc k) (MoreOf h hs) = row_at rs k hs

contents_clear : (x : Set) → is_clash (one_or_unreached x) ≡ false
contents_clear x = of_choice (is_empty x) _ _ (λ y. is_clash y ≡ false) (λ e. refl) (λ e. refl)

-- a table in memory has no clash and no mark
pub table_clear : (t : SortTable) → IsTable t → (k : ℕ) → IsClear (unmarked t) k
table_clear t h k =
    let row = row_at t.rows k h.rows in
    record {
      data_in = sort_clear row.data_in.sort;
      binds_in = sort_clear row.binds_in.sort;
      data_out = sort_clear row.data_out.sort;
      binds_out = sort_clear row.binds_out.sort;
      escaped = sort_clear row.escaped.sort;
      contents = contents_clear (slice_index_or t.contents k empty_set);
      mark = refl;
    }

-- so it is admissible where the root's demand and those of all nodes hold
pub table_admissible : (a : Action) (t : SortTable) → IsTable t → Meets a (unmarked t) → IsAdmissible a (unmarked t)
table_admissible a t h m = record { meets = m; clear = table_clear t h }
