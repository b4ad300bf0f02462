-- The table of the test is well-formed: its parts are empty, unreached, or a tuple of the integers.
use Rattle.std.proofs.Common.{[], ap, arith, refl, subst, sym, ◌∙◌, ◌≡◌}
use Rattle.sort_rules.specs.Demands.{MoreOf, NoneOf}
use Rattle.sort_rules.specs.Parts.{Listed}
use Rattle.sort_rules.specs.Rows.{IsBindSort, IsTupleSort}
use Rattle.sort_rules.specs.Sets.{Set, is_empty}
use Rattle.sort_rules.specs.Wellformed.{ATuple, Ascending, IsAscendingSet, ListedSort, NoNumber, NoPlace, NoSort, NoToken, OnePlace, OneSort, SomeBindings, UnreachedSort, UnreachedTuple}
use Rattle.sort_rules_tests.proofs.tables.a_table_keeps_its_rows.Goals as goal

no_tuple : IsTupleSort (Listed [])
no_tuple = record { sort = ListedSort NoSort (omega arith); tuple = ATuple NoPlace }

no_bindings : IsBindSort (Listed [])
no_bindings = record { sort = ListedSort NoSort (omega arith); bindings = SomeBindings NoToken }

-- sets without numbers
ascending : (s t : Set) → s ≡ t → t.cells ≡ [] → t.abstractions ≡ [] → IsAscendingSet s
ascending s t e f g = record {
  cells = subst Ascending (sym (ap (λ (s : Set). s.cells) e ∙ f)) NoNumber;
  abstractions = subst Ascending (sym (ap (λ (s : Set). s.abstractions) e ∙ g)) NoNumber;
}

pub make-table-requires : goal.make-table-requires
make-table-requires g c = record {
  proper = record {
    same_length = refl;
    rows = MoreOf (record {
      data_in = no_tuple;
      binds_in = no_bindings;
      data_out = record { sort = ListedSort (OneSort (ascending _ _ c.atoms.ensures refl refl) (ap is_empty c.atoms.ensures) NoSort) (omega arith); tuple = ATuple (OnePlace refl NoPlace) };
      binds_out = no_bindings;
      escaped = record { sort = UnreachedSort; tuple = UnreachedTuple };
    }) NoneOf;
    contents = MoreOf (ascending _ _ c.atoms-2.ensures refl refl) NoneOf;
  };
}
