-- A listed demand that isn't met is one of the node.
use Rattle.std.proofs.Common.{List, [], add-one, arith, false, get_or, length, refl, subst, suc, sym, take, true, zero, ℕ, ◌+◌, ◌<◌, ◌∷◌, ◌≡◌}
use Rattle.std.proofs.lemmas.Bool.{and_from}
use Rattle.action_terms.specs.Actions.{Action}
use Rattle.action_terms.specs.Performances.{Here, Later, OneOf}
use Rattle.sort_rules.specs.DemandViews.{demand_of, demands_of}
use Rattle.sort_rules.specs.Demands.{Demand, demands, ◌⊒◌}
use Rattle.sort_rules.specs.MarkedRows.{marked_table}
use Rattle.sort_rules.specs.Parts.{Clash, Listed, Part, Unreached}
use Rattle.sort_rules.specs.Reached.{AskTheSame, in_front, reached_ones}
use Rattle.sort_rules.specs.Tables.{Entry, MarkedTable}
use Rattle.sort_rules.specs.Tests.{are_met, is_met}
use Rattle.sort_rules.specs.declared.demands.Demand.{Demand as DemandInMemory}
use Rattle.sort_rules.specs.declared.rows.MarkedRow.{MarkedRow}
use Rattle.sort_rules.proofs.Choices.{both_left, both_right}

-- it asks for a reached part
first-kept : (t : MarkedTable) (x : Entry) (v : Part) (ds : List Demand) → is_met t (x ⊒ v) ≡ false → OneOf (x ⊒ v) (in_front x v ds)
first-kept t x Unreached ds e = absurd {0} (cc)
first-kept t x (Listed ps) ds e = Here
first-kept t x Clash ds e = Here

later-kept : {d : Demand} (x : Entry) (v : Part) {ds : List Demand} → OneOf d ds → OneOf d (in_front x v ds)
later-kept x Unreached m = m
later-kept x (Listed ps) m = Later m
later-kept x Clash m = Later m

kept : (t : MarkedTable) {d : Demand} {ds : List Demand} → is_met t d ≡ false → OneOf d ds → OneOf d (reached_ones ds)
kept t {d = x ⊒ v} e (Here {xs = ds}) = first-kept t x v (reached_ones ds) e
kept t {ds = (x ⊒ v) ∷ ds} e (Later m) = later-kept x v (kept t e m)

-- those of reached parts are among all
among-front : {d : Demand} (x : Entry) (v : Part) {ds es : List Demand} → (OneOf d ds → OneOf d es) → OneOf d (in_front x v ds) → OneOf d ((x ⊒ v) ∷ es)
among-front x Unreached f m = Later (f m)
among-front x (Listed ps) f Here = Here
among-front x (Listed ps) f (Later m) = Later (f m)
among-front x Clash f Here = Here
among-front x Clash f (Later m) = Later (f m)

among : {d : Demand} (ds : List Demand) → OneOf d (reached_ones ds) → OneOf d ds
among [] m = elim m [ ]
among ((x ⊒ v) ∷ ds) m = among-front x v (λ h. among ds h) m

pub asked_of : (t : MarkedTable) (d : Demand) (ds es : List Demand) → AskTheSame ds es → OneOf d ds → is_met t d ≡ false → OneOf d es
asked_of t d ds es e m h = among es (e.there d (kept t h m))

-- ---- lists in memory

one_at : (ds : List DemandInMemory) (i : ℕ) (d : DemandInMemory) → i < length ds → OneOf (demand_of (get_or ds i d)) (demands_of ds)
one_at [] i d h = absurd (omega arith)
one_at (x ∷ ds) zero d h = Here
one_at (x ∷ ds) (suc i) d h = Later (one_at ds i d (omega arith))

-- the demand of place i
pub listed_one : (ds : List DemandInMemory) (i : ℕ) (d : DemandInMemory) → i < length ds → d ≡ get_or ds i d → OneOf (demand_of d) (demands_of ds)
listed_one ds i d h e = subst (λ (q : DemandInMemory). OneOf (demand_of q) (demands_of ds)) (sym e) (one_at ds i d h)

met_next : (t : MarkedTable) (ds : List DemandInMemory) (i : ℕ) (d : DemandInMemory) → i < length ds → are_met t (demands_of (take i ds)) ≡ true → is_met t (demand_of (get_or ds i d)) ≡ true → are_met t (demands_of (take (suc i) ds)) ≡ true
met_next t [] i d h e f = absurd (omega arith)
met_next t (x ∷ ds) zero d h e f = and_from (is_met t (demand_of x)) true f refl
met_next t (x ∷ ds) (suc i) d h e f =
    and_from (is_met t (demand_of x)) (are_met t (demands_of (take (suc i) ds))) (both_left (is_met t (demand_of x)) (are_met t (demands_of (take i ds))) e)
    (met_next t ds i d (omega arith) (both_right (is_met t (demand_of x)) (are_met t (demands_of (take i ds))) e) f)

-- one more is met
pub met_more : (t : MarkedTable) (ds : List DemandInMemory) (i : ℕ) (d : DemandInMemory) → i < length ds → d ≡ get_or ds i d → are_met t (demands_of (take i ds)) ≡ true → is_met t (demand_of d) ≡ true → are_met t (demands_of (take (i + 1) ds)) ≡ true
met_more t ds i d h same e f = rw (add-one i) (met_next t ds i d h e (subst (λ (q : DemandInMemory). is_met t (demand_of q) ≡ true) same f))

-- what was listed, as it is read
pub listed_same : (a : Action) (k : ℕ) (ds read : List DemandInMemory) (rows seen : List MarkedRow) → read ≡ ds → seen ≡ rows → AskTheSame (demands_of ds) (demands a (marked_table seen) k) → AskTheSame (demands_of read) (demands a (marked_table rows) k)
listed_same a k ds read rows seen e f h =
    subst (λ (zs : List DemandInMemory). AskTheSame (demands_of zs) (demands a (marked_table rows) k)) (sym e) (subst (λ (zs : List MarkedRow). AskTheSame (demands_of ds) (demands a (marked_table zs) k)) f h)
