-- The table of the tests is well-formed: its parts are empty, unreached, or a tuple of one set that has no numbers.
use Rattle.std.proofs.Common.{Bool, List, [], ap, arith, false, not, refl, subst, sym, true, ◌∙◌, ◌∷◌, ◌≡◌}
use Rattle.std.specs.Prelude.{map}
use Rattle.sort_rules.specs.Demands.{MoreOf, NoneOf}
use Rattle.sort_rules.specs.Parts.{Listed, Part, Unreached}
use Rattle.sort_rules.specs.Rows.{IsBindSort, IsSortRow, IsTable, IsTupleSort}
use Rattle.sort_rules.specs.Sets as meant
use Rattle.sort_rules.specs.Sets.{is_empty}
use Rattle.sort_rules.specs.Views.{binds_of, place_of, row_of, set_of, sort_table, tuple_of}
use Rattle.sort_rules.specs.Wellformed.{ATuple, Ascending, IsAscendingSet, ListedSort, NoNumber, NoPlace, NoSort, NoToken, OnePlace, OneSort, SomeBindings, UnreachedSort, UnreachedTuple}
use Rattle.sort_rules.specs.declared.set.Set.{Set}
use Rattle.sort_rules.specs.declared.table.Row.{Row}
use Rattle.sort_rules_tests.proofs.judgements.table_of.Goals as goal

no_tuple : IsTupleSort (Listed [])
no_tuple = record { sort = ListedSort NoSort (omega arith); tuple = ATuple NoPlace }

no_bindings : IsBindSort (Listed [])
no_bindings = record { sort = ListedSort NoSort (omega arith); bindings = SomeBindings NoToken }

-- sets without numbers
ascending : (s t : meant.Set) → s ≡ t → t.cells ≡ [] → t.abstractions ≡ [] → IsAscendingSet s
ascending s t e f g = record {
  cells = subst Ascending (sym (ap (λ (s : meant.Set). s.cells) e ∙ f)) NoNumber;
  abstractions = subst Ascending (sym (ap (λ (s : meant.Set). s.abstractions) e ∙ g)) NoNumber;
}

-- of the integers or of the truth-values
one_atom : (b : Bool) → is_empty (record { integer = b; truth = not b; cells = []; abstractions = [] }) ≡ false
one_atom true = refl
one_atom false = refl

one_place : (s : Set) (b : Bool) → set_of s ≡ record { integer = b; truth = not b; cells = []; abstractions = [] } → IsTupleSort (Listed (map place_of (s ∷ [])))
one_place s b e = record { sort = ListedSort (OneSort (ascending _ _ e refl refl) (ap is_empty e ∙ one_atom b) NoSort) (omega arith); tuple = ATuple (OnePlace refl NoPlace) }

-- the row of a node that binds nothing
row_fits : (r : Row) (d o : Part) → tuple_of r.g ≡ d → binds_of r.h ≡ Listed [] → tuple_of r.o ≡ o → binds_of r.p ≡ Listed [] → tuple_of r.e ≡ Unreached → IsTupleSort d → IsTupleSort o → IsSortRow (row_of r)
row_fits r d o e1 e2 e3 e4 e5 h m = record {
  data_in = subst IsTupleSort (sym e1) h;
  binds_in = subst IsBindSort (sym e2) no_bindings;
  data_out = subst IsTupleSort (sym e3) m;
  binds_out = subst IsBindSort (sym e4) no_bindings;
  escaped = subst IsTupleSort (sym e5) (record { sort = UnreachedSort; tuple = UnreachedTuple });
}

pub make-requires : goal.make-requires
make-requires c =
    let then = c.row-then.result in
    let give = c.row-give.result in
    let send = c.row-send.result in
    let none = c.atoms-none.result in
    let set = c.in_ok-set.field-0.now in
    let place : IsTupleSort (Listed (map place_of c.in_ok-set.field-0.now)) =
    subst (λ (sets : List Set). IsTupleSort (Listed (map place_of sets))) (sym c.in_ok-set.ensures) (one_place c.atoms.result c.args.integer c.atoms.ensures) in
    let empty = ascending (set_of none) _ c.atoms-none.ensures refl refl in
    let table : IsTable (sort_table (then ∷ give ∷ send ∷ []) (none ∷ none ∷ none ∷ [])) = record {
      same_length = refl;
      rows = MoreOf (row_fits then (Listed []) (Listed []) c.row-then.ensures.g c.row-then.ensures.h c.row-then.ensures.o c.row-then.ensures.p c.row-then.ensures.e no_tuple no_tuple)
          (MoreOf (row_fits give (Listed []) (Listed (map place_of set)) c.row-give.ensures.g c.row-give.ensures.h c.row-give.ensures.o c.row-give.ensures.p c.row-give.ensures.e no_tuple place)
          (MoreOf (row_fits send (Listed (map place_of set)) (Listed []) c.row-send.ensures.g c.row-send.ensures.h c.row-send.ensures.o c.row-send.ensures.p c.row-send.ensures.e place no_tuple) NoneOf));
      contents = MoreOf empty (MoreOf empty (MoreOf empty NoneOf));
    } in
    record {
      proper = subst (λ (rows : List Row). IsTable (sort_table rows c.in_ok-contents.field-0.now)) (sym c.in_ok-rows.ensures)
          (subst (λ (contents : List Set). IsTable (sort_table (then ∷ give ∷ send ∷ []) contents)) (sym c.in_ok-contents.ensures) table);
    }
