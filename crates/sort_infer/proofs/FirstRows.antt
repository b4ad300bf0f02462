-- The rows with nothing but the root's demand, and what they settle to.
use Rattle.std.proofs.Common.{List, [], arith, length, refl, subst, suc, sym, zero, ℕ, ◌++◌, ◌∙◌, ◌∷◌, ◌≡◌}
use Rattle.std.specs.Prelude.{slice_get}
use Rattle.std.proofs.Math.Path.{fun_ext}
use Rattle.action_terms.specs.Actions.{Action}
use Rattle.sort_rules.specs.Admissible.{IsLeastMarked}
use Rattle.sort_rules.specs.Demands.{allocate_nodes, closure_bodies}
use Rattle.sort_rules.specs.MarkedRows.{marked_table, part_in, row_part}
use Rattle.sort_rules.specs.Parts.{Part, Unreached}
use Rattle.sort_rules.specs.Raising.{IsOnTheWay, first_table}
use Rattle.sort_rules.specs.Tables.{BindsIn, BindsOut, Contents, DataIn, DataOut, Entry, Escaped, Mark, MarkedTable, node_of}
use Rattle.sort_rules.specs.Values.{nothing}
use Rattle.sort_rules.specs.Wellformed.{ATuple, IsEntryOf, IsTableOver, ListedOf, NoPlace, NoToken, NoneListed, SomeBindings, UnreachedBindings, UnreachedOf, UnreachedTuple}
use Rattle.sort_rules.specs.declared.rows.MarkedRow.{MarkedRow}
use Rattle.sort_rules.proofs.MarkedLaws.{marked-part}
use Rattle.sort_rules.proofs.Raises.{first_on_the_way, least_on_the_way, raised_on_the_way}
use Rattle.sort_infer.specs.Raised.{IsGiven, IsProperTable, Settles}

-- the root's row alone
pub first-one : (m : MarkedRow) → IsGiven m nothing nothing → (x : Entry) → marked_table (m ∷ []) x ≡ first_table x
first-one m h (DataIn zero) = h.data_in
first-one m h (BindsIn zero) = h.binds_in
first-one m h (DataOut zero) = h.data_out
first-one m h (BindsOut zero) = h.binds_out
first-one m h (Escaped zero) = h.escaped
first-one m h (Contents zero) = h.contents
first-one m h (Mark zero) = h.mark
first-one m h (DataIn (suc k)) = refl
first-one m h (BindsIn (suc k)) = refl
first-one m h (DataOut (suc k)) = refl
first-one m h (BindsOut (suc k)) = refl
first-one m h (Escaped (suc k)) = refl
first-one m h (Contents (suc k)) = refl
first-one m h (Mark (suc k)) = refl

unreached-part : (m : MarkedRow) → IsGiven m Unreached Unreached → (x : Entry) → row_part m x ≡ Unreached
unreached-part m h (DataIn k) = h.data_in
unreached-part m h (BindsIn k) = h.binds_in
unreached-part m h (DataOut k) = h.data_out
unreached-part m h (BindsOut k) = h.binds_out
unreached-part m h (Escaped k) = h.escaped
unreached-part m h (Contents k) = h.contents
unreached-part m h (Mark k) = h.mark

read-more : (f : MarkedRow → Part) (ms : List MarkedRow) (m : MarkedRow) (k : ℕ) → f m ≡ Unreached → part_in f (slice_get (ms ++ m ∷ []) k) ≡ part_in f (slice_get ms k)
read-more f [] m zero e = e
read-more f [] m (suc k) e = refl
read-more f (x ∷ ms) m zero e = refl
read-more f (x ∷ ms) m (suc k) e = read-more f ms m k e

-- a row more that nothing reaches
pub first-more : (ms : List MarkedRow) (m : MarkedRow) → IsGiven m Unreached Unreached → ((x : Entry) → marked_table ms x ≡ first_table x) → (x : Entry) → marked_table (ms ++ m ∷ []) x ≡ first_table x
first-more ms m h f x = marked-part (ms ++ m ∷ []) x ∙ read-more (λ r. row_part r x) ms m (node_of x) (unreached-part m h x) ∙ sym (marked-part ms x) ∙ f x

-- they are well-formed
first-over : {cs bs : List ℕ} → IsTableOver cs bs first_table
first-over (DataIn zero) = record { sets = ListedOf NoneListed (omega arith); shape = ATuple NoPlace }
first-over (BindsIn zero) = record { sets = ListedOf NoneListed (omega arith); shape = SomeBindings NoToken }
first-over (DataIn (suc k)) = record { sets = UnreachedOf; shape = UnreachedTuple }
first-over (BindsIn (suc k)) = record { sets = UnreachedOf; shape = UnreachedBindings }
first-over (DataOut k) = record { sets = UnreachedOf; shape = UnreachedTuple }
first-over (BindsOut k) = record { sets = UnreachedOf; shape = UnreachedBindings }
first-over (Escaped k) = record { sets = UnreachedOf; shape = UnreachedTuple }
first-over (Contents k) = record { sets = UnreachedOf; shape = UnreachedTuple }
first-over (Mark k) = record { sets = UnreachedOf; shape = UnreachedTuple }

pub first-proper : (a : Action) (rows : List MarkedRow) → length rows ≡ length a → ((x : Entry) → marked_table rows x ≡ first_table x) → IsProperTable a rows
first-proper a rows count e = record { count = count; over = λ x. subst (IsEntryOf (allocate_nodes a) (closure_bodies a) x) (sym (e x)) (first-over x) }

-- where they have settled, the table is the least marked one
pub settled-least : (a : Action) (old new : List MarkedRow) → ((x : Entry) → marked_table old x ≡ first_table x) → Settles a old new → IsLeastMarked a (marked_table new)
settled-least a old new e settles =
    let same : marked_table old ≡ first_table = fun_ext e in
    let start : IsOnTheWay a (marked_table old) = subst (λ (t : MarkedTable). IsOnTheWay a t) (sym same) first_on_the_way in
    least_on_the_way (raised_on_the_way start settles.raised) settles.holds
