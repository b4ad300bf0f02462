-- Marked rows without a clash are those of a table.
use Rattle.std.proofs.Common.{Bool, List, [], ap, arith, false, get_or, if◌then◌else◌, length, refl, subst, suc, sym, take, true, zero, ℕ, ◌&&◌, ◌++◌, ◌+◌, ◌<◌, ◌∙◌, ◌∷◌, ◌≡◌, ◌≤◌}
use Rattle.std.specs.Prelude.{Option, Some, map, not, slice_get, slice_index_or}
use Rattle.std.proofs.lemmas.Bool.{false≢true}
use Rattle.std.proofs.lemmas.List.{take_all, take_more}
use Rattle.std.proofs.lemmas.Option.{slice_get-get_or}
use Rattle.action_terms.specs.Actions.{Action}
use Rattle.action_terms.specs.Performances.{OneOf}
use Rattle.sort_rules.specs.Admissible.{IsClear, is_clash}
use Rattle.sort_rules.specs.Demands.{Each, MoreOf, NoneOf, allocate_nodes, closure_bodies}
use Rattle.sort_rules.specs.MarkedRows.{marked_table, part_in, row_part, table_part}
use Rattle.sort_rules.specs.Numbers.{is_none}
use Rattle.sort_rules.specs.Parts.{Clash, Component, Part, Unreached}
use Rattle.sort_rules.specs.Rows.{IsRowOver, IsSortRow, unmarked, unreached_row}
use Rattle.sort_rules.specs.Sets as meant
use Rattle.sort_rules.specs.Sets.{empty_set, is_empty}
use Rattle.sort_rules.specs.Tables.{BindsIn, BindsOut, Contents, DataIn, DataOut, Entry, Escaped, Mark}
use Rattle.sort_rules.specs.Values.{one, one_or_unreached}
use Rattle.sort_rules.specs.Views.{binds_of, marked_binds_of, marked_tuple_of, row_of, set_of, sort_table, tuple_of, value_part}
use Rattle.sort_rules.specs.Judgements.{misfit_unless}
use Rattle.sort_rules.specs.Wellformed.{AreOf, Ascending, ClashOf, IsAscendingSet, IsBindings, IsPartOf, IsSetOf, IsTableOver, IsTuple, ListedOf, NoNumber, NoneListed, OneListed, UnreachedOf}
use Rattle.sort_rules.specs.declared.rows.MarkedRow.{MarkedRow}
use Rattle.sort_rules.specs.declared.set.Set.{Set}
use Rattle.sort_rules.specs.declared.table.BindSort.{BindSort}
use Rattle.sort_rules.specs.declared.table.BindSort.TheVariants as binds
use Rattle.sort_rules.specs.declared.table.Row.{Row}
use Rattle.sort_rules.specs.declared.table.TupleSort.{TupleSort}
use Rattle.sort_rules.specs.declared.table.TupleSort.TheVariants as tuple
use Rattle.sort_rules.proofs.Choices.{both_left, both_right, of_choice}
use Rattle.sort_rules.proofs.Wellformed.{sort_of}
use Rattle.sort_infer.specs.ClearRows.{HasNoClash, HasParts, HaveParts, IsClearTable, IsFilled, IsFirstClash, NoRow, OneRow}
use Rattle.sort_infer.specs.Raised.{IsProperTable}

-- ---- the rows so far

have-behind : (m : MarkedRow) (r : Row) (s : Set) {ms : List MarkedRow} {rs : List Row} {ss : List Set} → HasParts m r s → HaveParts ms rs ss → HaveParts (ms ++ m ∷ []) (rs ++ r ∷ []) (ss ++ s ∷ [])
have-behind m r s h NoRow = OneRow h NoRow
have-behind m r s h (OneRow f fs) = OneRow f (have-behind m r s h fs)

-- none yet
pub have-none : (rs : List Row) (ss : List Set) → rs ≡ [] → ss ≡ [] → HaveParts [] rs ss
have-none rs ss e f = subst (λ (zs : List Row). HaveParts [] zs ss) (sym e) (subst (λ (zs : List Set). HaveParts [] [] zs) (sym f) NoRow)

-- one more
pub have-more : (ms : List MarkedRow) (k : ℕ) (m : MarkedRow) (r : Row) (s : Set) (rs : List Row) (ss : List Set) → k < length ms → m ≡ get_or ms k m → HasParts m r s → HaveParts (take k ms) rs ss → HaveParts (take (k + 1) ms) (rs ++ r ∷ []) (ss ++ s ∷ [])
have-more ms k m r s rs ss less same h f =
    let next : take (k + 1) ms ≡ take k ms ++ m ∷ [] = take_more ms k m less ∙ ap (λ (q : MarkedRow). take k ms ++ q ∷ []) (sym same) in
    subst (λ (zs : List MarkedRow). HaveParts zs (rs ++ r ∷ []) (ss ++ s ∷ [])) (sym next) (have-behind m r s h f)

-- ---- the same table

parts-at : {ms : List MarkedRow} {rs : List Row} {ss : List Set} → HaveParts ms rs ss → (k : ℕ) (x : Entry) → table_part (slice_index_or (map row_of rs) k unreached_row) (slice_index_or (map set_of ss) k empty_set) x ≡ part_in (λ r. row_part r x) (slice_get ms k)
parts-at NoRow k (DataIn j) = refl
parts-at NoRow k (BindsIn j) = refl
parts-at NoRow k (DataOut j) = refl
parts-at NoRow k (BindsOut j) = refl
parts-at NoRow k (Escaped j) = refl
parts-at NoRow k (Contents j) = refl
parts-at NoRow k (Mark j) = refl
parts-at (OneRow f fs) zero x = f x
parts-at (OneRow f fs) (suc k) x = parts-at fs k x

same-table : {ms : List MarkedRow} {rs : List Row} {ss : List Set} → HaveParts ms rs ss → (x : Entry) → unmarked (sort_table rs ss) x ≡ marked_table ms x
same-table h (DataIn k) = parts-at h k (DataIn k)
same-table h (BindsIn k) = parts-at h k (BindsIn k)
same-table h (DataOut k) = parts-at h k (DataOut k)
same-table h (BindsOut k) = parts-at h k (BindsOut k)
same-table h (Escaped k) = parts-at h k (Escaped k)
same-table h (Contents k) = parts-at h k (Contents k)
same-table h (Mark k) = parts-at h k (Mark k)

-- ---- no clash

tuple-clear : (t : TupleSort) → is_clash (tuple_of t) ≡ false
tuple-clear tuple.Unreached = refl
tuple-clear (tuple.List sets) = refl

binds-clear : (b : BindSort) → is_clash (binds_of b) ≡ false
binds-clear binds.Unreached = refl
binds-clear (binds.Map pairs) = refl

part-clear : (r : Row) (s : Set) (x : Entry) → is_clash (table_part (row_of r) (set_of s) x) ≡ false
part-clear r s (DataIn k) = tuple-clear r.g
part-clear r s (BindsIn k) = binds-clear r.h
part-clear r s (DataOut k) = tuple-clear r.o
part-clear r s (BindsOut k) = binds-clear r.p
part-clear r s (Escaped k) = tuple-clear r.e
part-clear r s (Contents k) = of_choice (is_empty (set_of s)) _ _ (λ y. is_clash y ≡ false) (λ e. refl) (λ e. refl)
part-clear r s (Mark k) = refl

clear-at : (k : ℕ) (ms : List MarkedRow) {rs : List Row} {ss : List Set} → HaveParts (take k ms) rs ss → (i : ℕ) → i < k → (x : Entry) → is_clash (part_in (λ r. row_part r x) (slice_get ms i)) ≡ false
clear-at zero ms h i less x = absurd (omega arith)
clear-at (suc k) [] h i less x = refl
clear-at (suc k) (m ∷ ms) (OneRow {r} {s} f fs) zero less x = subst (λ (v : Part). is_clash v ≡ false) (f x) (part-clear r s x)
clear-at (suc k) (m ∷ ms) (OneRow f fs) (suc i) less x = clear-at k ms fs i (omega arith) x

no-clash : (ms : List MarkedRow) (k : ℕ) (m : MarkedRow) → slice_get ms k ≡ Some m → IsClear (marked_table ms) k → HasNoClash m
no-clash ms k m e c (DataIn j) = subst (λ (o : Option MarkedRow). is_clash (part_in (λ r. marked_tuple_of r.g) o) ≡ false) e c.data_in
no-clash ms k m e c (BindsIn j) = subst (λ (o : Option MarkedRow). is_clash (part_in (λ r. marked_binds_of r.h) o) ≡ false) e c.binds_in
no-clash ms k m e c (DataOut j) = subst (λ (o : Option MarkedRow). is_clash (part_in (λ r. marked_tuple_of r.o) o) ≡ false) e c.data_out
no-clash ms k m e c (BindsOut j) = subst (λ (o : Option MarkedRow). is_clash (part_in (λ r. marked_binds_of r.p) o) ≡ false) e c.binds_out
no-clash ms k m e c (Escaped j) = subst (λ (o : Option MarkedRow). is_clash (part_in (λ r. marked_tuple_of r.e) o) ≡ false) e c.escaped
no-clash ms k m e c (Contents j) = subst (λ (o : Option MarkedRow). is_clash (part_in (λ r. value_part r.contents) o) ≡ false) e c.contents
no-clash ms k m e c (Mark j) = subst (λ (o : Option MarkedRow). is_clash (part_in (λ r. misfit_unless r.fits) o) ≡ false) e c.mark

-- the first row with a clash, behind those without one
pub first-clash : (ms : List MarkedRow) (k : ℕ) (m : MarkedRow) (rs : List Row) (ss : List Set) → k < length ms → m ≡ get_or ms k m → HaveParts (take k ms) rs ss → (HasNoClash m → ⊥) → IsFirstClash (marked_table ms) k
first-clash ms k m rs ss less same h none = record {
  clash = λ c. none (no-clash ms k m (slice_get-get_or ms k m less ∙ ap (λ (r : MarkedRow). Some r) (sym same)) c);
  first = λ i before. record {
    data_in = clear-at k ms h i before (DataIn i);
    binds_in = clear-at k ms h i before (BindsIn i);
    data_out = clear-at k ms h i before (DataOut i);
    binds_out = clear-at k ms h i before (BindsOut i);
    escaped = clear-at k ms h i before (Escaped i);
    contents = clear-at k ms h i before (Contents i);
    mark = clear-at k ms h i before (Mark i);
  };
}

-- ---- well-formed

filled-list : {cs bs : List ℕ} {ps : List Component} → AreOf cs bs ps → Each (λ p. is_empty p.set ≡ false) ps
filled-list NoneListed = NoneOf
filled-list (OneListed h e hs) = MoreOf e (filled-list hs)

filled : {cs bs : List ℕ} {x : Part} → IsPartOf cs bs x → IsFilled x
filled UnreachedOf = tt
filled (ListedOf h l) = filled-list h
filled ClashOf = tt

-- what is stored isn't the empty set
pub filled-at : (a : Action) (ms : List MarkedRow) (k : ℕ) (m : MarkedRow) → k < length ms → m ≡ get_or ms k m → IsProperTable a ms → IsFilled (value_part m.contents)
filled-at a ms k m less same proper =
    let there : slice_get ms k ≡ Some m = slice_get-get_or ms k m less ∙ ap (λ (r : MarkedRow). Some r) (sym same) in
    filled (subst (λ (o : Option MarkedRow). IsPartOf (allocate_nodes a) (closure_bodies a) (part_in (λ r. value_part r.contents) o)) there (proper.over (Contents k)).sets)

module _ (cs bs : List ℕ) where
  none-over : (xs ys : List ℕ) → is_none xs ≡ true → (k : ℕ) → OneOf k xs → OneOf k ys
  none-over [] ys e k m = elim m [ ]
  none-over (x ∷ xs) ys e k m = absurd {0} (cc)

  none-ascends : (xs : List ℕ) → is_none xs ≡ true → Ascending xs
  none-ascends [] e = NoNumber
  none-ascends (x ∷ xs) e = absurd {0} (cc)

  empty-over : (s : meant.Set) → is_empty s ≡ true → IsSetOf cs bs s
  empty-over s e =
      let lists : (is_none s.cells && is_none s.abstractions) ≡ true = both_right (not s.truth) (is_none s.cells && is_none s.abstractions) (both_right (not s.integer) (not s.truth && (is_none s.cells && is_none s.abstractions)) e) in
      let cells : is_none s.cells ≡ true = both_left (is_none s.cells) (is_none s.abstractions) lists in
      let bodies : is_none s.abstractions ≡ true = both_right (is_none s.cells) (is_none s.abstractions) lists in
      record { cells_of = none-over s.cells cs cells; abstractions_of = none-over s.abstractions bs bodies; cells_ascend = none-ascends s.cells cells; abstractions_ascend = none-ascends s.abstractions bodies }

  full-over : (s : meant.Set) → IsPartOf cs bs (one s) → IsSetOf cs bs s
  full-over s (ListedOf (OneListed h e hs) l) = h

  set-over : (s : meant.Set) → IsPartOf cs bs (one_or_unreached s) → IsSetOf cs bs s
  set-over s h = go (is_empty s) refl
    where
      go : (b : Bool) → is_empty s ≡ b → IsSetOf cs bs s
      go true e = empty-over s e
      go false e = full-over s (subst (λ (b : Bool). IsPartOf cs bs (if b then Unreached else one s)) e h)

  module _ (ms : List MarkedRow) (m : MarkedRow) (r : Row) (s : Set) (h : HasParts m r s) (over : IsTableOver cs bs (marked_table (m ∷ ms))) where
    row-over : IsRowOver cs bs (row_of r)
    row-over = record {
      data_in = subst (IsPartOf cs bs) (sym (h (DataIn 0))) (over (DataIn 0)).sets;
      binds_in = subst (IsPartOf cs bs) (sym (h (BindsIn 0))) (over (BindsIn 0)).sets;
      data_out = subst (IsPartOf cs bs) (sym (h (DataOut 0))) (over (DataOut 0)).sets;
      binds_out = subst (IsPartOf cs bs) (sym (h (BindsOut 0))) (over (BindsOut 0)).sets;
      escaped = subst (IsPartOf cs bs) (sym (h (Escaped 0))) (over (Escaped 0)).sets;
    }

    row-sort : IsSortRow (row_of r)
    row-sort = record {
      data_in = record { sort = sort_of row-over.data_in (tuple-clear r.g); tuple = subst IsTuple (sym (h (DataIn 0))) (over (DataIn 0)).shape };
      binds_in = record { sort = sort_of row-over.binds_in (binds-clear r.h); bindings = subst IsBindings (sym (h (BindsIn 0))) (over (BindsIn 0)).shape };
      data_out = record { sort = sort_of row-over.data_out (tuple-clear r.o); tuple = subst IsTuple (sym (h (DataOut 0))) (over (DataOut 0)).shape };
      binds_out = record { sort = sort_of row-over.binds_out (binds-clear r.p); bindings = subst IsBindings (sym (h (BindsOut 0))) (over (BindsOut 0)).shape };
      escaped = record { sort = sort_of row-over.escaped (tuple-clear r.e); tuple = subst IsTuple (sym (h (Escaped 0))) (over (Escaped 0)).shape };
    }

    contents-over : IsSetOf cs bs (set_of s)
    contents-over = set-over (set_of s) (subst (IsPartOf cs bs) (sym (h (Contents 0))) (over (Contents 0)).sets)

    contents-ascend : IsAscendingSet (set_of s)
    contents-ascend = record { cells = contents-over.cells_ascend; abstractions = contents-over.abstractions_ascend }

    rest-over : IsTableOver cs bs (marked_table ms)
    rest-over (DataIn k) = let f = over (DataIn (suc k)) in record { sets = f.sets; shape = f.shape }
    rest-over (BindsIn k) = let f = over (BindsIn (suc k)) in record { sets = f.sets; shape = f.shape }
    rest-over (DataOut k) = let f = over (DataOut (suc k)) in record { sets = f.sets; shape = f.shape }
    rest-over (BindsOut k) = let f = over (BindsOut (suc k)) in record { sets = f.sets; shape = f.shape }
    rest-over (Escaped k) = let f = over (Escaped (suc k)) in record { sets = f.sets; shape = f.shape }
    rest-over (Contents k) = let f = over (Contents (suc k)) in record { sets = f.sets; shape = f.shape }
    rest-over (Mark k) = let f = over (Mark (suc k)) in record { sets = f.sets; shape = f.shape }

  rows-over : {ms : List MarkedRow} {rs : List Row} {ss : List Set} → HaveParts ms rs ss → IsTableOver cs bs (marked_table ms) → Each (IsRowOver cs bs) (map row_of rs)
  rows-over NoRow over = NoneOf
  rows-over (OneRow {m} {ms} {r} {rs} {s} h hs) over = MoreOf (row-over ms m r s h over) (rows-over hs (rest-over ms m r s h over))

  rows-sort : {ms : List MarkedRow} {rs : List Row} {ss : List Set} → HaveParts ms rs ss → IsTableOver cs bs (marked_table ms) → Each IsSortRow (map row_of rs)
  rows-sort NoRow over = NoneOf
  rows-sort (OneRow {m} {ms} {r} {rs} {s} h hs) over = MoreOf (row-sort ms m r s h over) (rows-sort hs (rest-over ms m r s h over))

  sets-over : {ms : List MarkedRow} {rs : List Row} {ss : List Set} → HaveParts ms rs ss → IsTableOver cs bs (marked_table ms) → Each (IsSetOf cs bs) (map set_of ss)
  sets-over NoRow over = NoneOf
  sets-over (OneRow {m} {ms} {r} {rs} {s} h hs) over = MoreOf (contents-over ms m r s h over) (sets-over hs (rest-over ms m r s h over))

  sets-ascend : {ms : List MarkedRow} {rs : List Row} {ss : List Set} → HaveParts ms rs ss → IsTableOver cs bs (marked_table ms) → Each IsAscendingSet (map set_of ss)
  sets-ascend NoRow over = NoneOf
  sets-ascend (OneRow {m} {ms} {r} {rs} {s} h hs) over = MoreOf (contents-ascend ms m r s h over) (sets-ascend hs (rest-over ms m r s h over))

rows-count : {ms : List MarkedRow} {rs : List Row} {ss : List Set} → HaveParts ms rs ss → length (map row_of rs) ≡ length ms
rows-count NoRow = refl
rows-count (OneRow h hs) = ap suc (rows-count hs)

sets-count : {ms : List MarkedRow} {rs : List Row} {ss : List Set} → HaveParts ms rs ss → length (map set_of ss) ≡ length ms
sets-count NoRow = refl
sets-count (OneRow h hs) = ap suc (sets-count hs)

clear-all : (a : Action) (ms : List MarkedRow) (rs : List Row) (ss : List Set) → IsProperTable a ms → HaveParts ms rs ss → IsClearTable a ms (sort_table rs ss)
clear-all a ms rs ss proper h =
    let cs = allocate_nodes a in
    let bs = closure_bodies a in record {
      same = same-table h;
      proper = record {
        long = rows-count h ∙ proper.count;
        table = record { same_length = rows-count h ∙ sym (sets-count h); rows = rows-sort cs bs h proper.over; contents = sets-ascend cs bs h proper.over };
        rows = rows-over cs bs h proper.over;
        contents = sets-over cs bs h proper.over;
      };
    }

-- where all rows are without a clash, they are a table
pub clear-table : (a : Action) (ms : List MarkedRow) (k : ℕ) (rs kept : List Row) (ss stored : List Set) → IsProperTable a ms → length ms ≤ k → HaveParts (take k ms) rs ss → kept ≡ rs → stored ≡ ss → IsClearTable a ms (sort_table kept stored)
clear-table a ms k rs kept ss stored proper all h e f =
    let whole : HaveParts ms rs ss = subst (λ (zs : List MarkedRow). HaveParts zs rs ss) (take_all k ms all) h in
    let same : HaveParts ms kept ss = subst (λ (zs : List Row). HaveParts ms zs ss) (sym e) whole in
    clear-all a ms kept stored proper (subst (λ (zs : List Set). HaveParts ms kept zs) (sym f) same)

-- ---- one row

-- a part that is a clash
pub part-clash : (m : MarkedRow) (x : Entry) → row_part m x ≡ Clash → HasNoClash m → ⊥
part-clash m x e h = false≢true (sym (h x) ∙ ap is_clash e)
