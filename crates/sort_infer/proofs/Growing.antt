-- Tables in memory that grow towards the least marked one.
use Rattle.std.proofs.Common.{Bool, List, ap, arith, false, if◌then◌else◌, length, refl, subst, sym, true, ℕ, ◌+◌, ◌<◌, ◌||◌, ◌∙◌, ◌≡◌, ◌≤◌}
use Rattle.std.specs.Prelude.{not}
use Rattle.action_terms.specs.Actions.{Action}
use Rattle.action_terms.specs.Performances.{OneOf}
use Rattle.action_terms.specs.Proper.{IsProper}
use Rattle.sort_rules.specs.Demands.{Demand, allocate_nodes, closure_bodies, demands, ◌⊒◌}
use Rattle.sort_rules.specs.MarkedRows.{marked_table}
use Rattle.sort_rules.specs.Tables.{Entry, IsUnder, node_of}
use Rattle.sort_rules.specs.Tests.{is_met}
use Rattle.sort_rules.specs.Wellformed.{IsEntryOf}
use Rattle.sort_rules.specs.declared.rows.MarkedRow.{MarkedRow}
use Rattle.sort_rules.proofs.ActionNumbers.{allocates_from-below, closure_bodies-below}
use Rattle.sort_rules.proofs.EachLaws.{each_one}
use Rattle.sort_rules.proofs.ProperDemands.{demands_over, joined_over}
use Rattle.sort_rules.proofs.Raises.{raised_by, raised_refl, raised_trans}
use Rattle.sort_rules.proofs.Rooms.{small_part, table_less}
use Rattle.sort_infer.specs.Raised.{Grows, IsProperTable, RaisesBy, entry_of, room_of}

less_less : (i j k : ℕ) → i < j → j < k → i < k
less_less i j k h m = omega arith

less_or_same : (i j : ℕ) → i < j → i ≤ j
less_or_same i j h = omega arith

same_no_more : (i j : ℕ) → i ≡ j → i ≤ j
same_no_more i j e = omega (arith, e)

-- nothing is raised
pub grows_refl : (a : Action) (rows : List MarkedRow) → IsProperTable a rows → Grows a false rows rows
grows_refl a rows proper = record { raised = raised_refl; proper = proper; same = λ e. refl; less = λ e. absurd {0} (cc) }

-- first to the one, and then to the other
pub grows_trans : (a : Action) (g h : Bool) (old mid new : List MarkedRow) → Grows a g old mid → Grows a h mid new → Grows a (g || h) old new
grows_trans a false false old mid new f m = record { raised = raised_trans f.raised m.raised; proper = m.proper; same = λ e. m.same refl ∙ f.same refl; less = λ e. absurd {0} (cc) }
grows_trans a false true old mid new f m = record {
  raised = raised_trans f.raised m.raised;
  proper = m.proper;
  same = λ e. absurd {0} (cc);
  less = λ e. subst (λ (rows : List MarkedRow). room_of a new < room_of a rows) (f.same refl) (m.less refl);
}
grows_trans a true false old mid new f m = record {
  raised = raised_trans f.raised m.raised;
  proper = m.proper;
  same = λ e. absurd {0} (cc);
  less = λ e. subst (λ (rows : List MarkedRow). room_of a rows < room_of a old) (sym (m.same refl)) (f.less refl);
}
grows_trans a true true old mid new f m = record {
  raised = raised_trans f.raised m.raised;
  proper = m.proper;
  same = λ e. absurd {0} (cc);
  less = λ e. less_less (room_of a new) (room_of a mid) (room_of a old) (m.less refl) (f.less refl);
}

-- what node k asks for in a lower table is well-formed, and about a node of the action
module _ (a : Action) (k : ℕ) (first old : List MarkedRow) (action : IsProper a) (within : k < length a) (start : IsProperTable a first) (proper : IsProperTable a old) (under : IsUnder (marked_table first) (marked_table old)) where
  over : (x : Entry) (v : _) → OneOf (x ⊒ v) (demands a (marked_table first) k) → IsEntryOf (allocate_nodes a) (closure_bodies a) x v × (node_of x < length a)
  over x v asked = each_one asked (demands_over a action (marked_table first) start.over k within)

  pub node_within : (d : Demand) → OneOf d (demands a (marked_table first) k) → node_of (entry_of d) < length old
  node_within (x ⊒ v) asked = subst (λ (n : ℕ). node_of x < n) (sym proper.count) ((over x v asked).1)

  -- the table raised by it
  grows_by : (d : Demand) (new : List MarkedRow) → OneOf d (demands a (marked_table first) k) → is_met (marked_table old) d ≡ false → length new ≡ length old → RaisesBy d (marked_table old) (marked_table new) → Grows a true old new
  grows_by (x ⊒ v) new asked unmet count joined =
      let fits = over x v asked in record {
        raised = raised_by k within under asked joined;
        proper = record { count = count ∙ proper.count; over = joined_over proper.over fits.0 joined };
        same = λ e. absurd {0} (cc);
        less = λ e. table_less (length a) x joined (small_part (λ c h. omega (arith, allocates_from-below 0 a c h)) (λ c h. closure_bodies-below (length a) a c action.nodes h) fits.0.sets) unmet (length a) fits.1;
      }

  -- or left as it is, where it meets it
  pub grows_unless_met : (d : Demand) (grew : Bool) (new : List MarkedRow) → (is_met (marked_table old) d ≡ false → OneOf d (demands a (marked_table first) k)) → not grew ≡ is_met (marked_table old) d → (grew ≡ false → new ≡ old)
      → (grew ≡ true → RaisesBy d (marked_table old) (marked_table new)) → length new ≡ length old → Grows a grew old new
  grows_unless_met d false new asked met same joined count = subst (Grows a false old) (sym (same refl)) (grows_refl a old proper)
  grows_unless_met d true new asked met same joined count = grows_by d new (asked (sym met)) (sym met) count (joined refl)

-- ---- rounds

-- no room comes back
no_more : (a : Action) (grew : Bool) (old new : List MarkedRow) → Grows a grew old new → room_of a new ≤ room_of a old
no_more a true old new f = less_or_same (room_of a new) (room_of a old) (f.less refl)
no_more a false old new f = same_no_more (room_of a new) (room_of a old) (ap (room_of a) (f.same refl))

one-more : (x y z : ℕ) → x < y → y ≤ z → x + 1 < z + 1
one-more x y z h m = omega arith

same-less : (x y z : ℕ) → x ≡ y → y ≤ z → x + 0 < z + 1
same-less x y z h m = omega arith

-- a round that follows one that changed something is nearer to the last, also where something was raised between them
pub round_less : (a : Action) (before between grew : Bool) (old mid new : List MarkedRow) → before ≡ true → Grows a between old mid → Grows a grew mid new → room_of a new + (if grew then 1 else 0) < room_of a old + (if before then 1 else 0)
round_less a before between true old mid new e g f =
    subst (λ (b : Bool). room_of a new + 1 < room_of a old + (if b then 1 else 0)) (sym e) (one-more (room_of a new) (room_of a mid) (room_of a old) (f.less refl) (no_more a between old mid g))
round_less a before between false old mid new e g f =
    subst (λ (b : Bool). room_of a new + 0 < room_of a old + (if b then 1 else 0)) (sym e) (same-less (room_of a new) (room_of a mid) (room_of a old) (ap (room_of a) (f.same refl)) (no_more a between old mid g))
