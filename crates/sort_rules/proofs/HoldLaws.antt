-- The demands that were listed tell whether a node holds, and those of all nodes whether a table is admissible.
use Rattle.std.proofs.Common.{Bool, List, [], add-one, ap, arith, false, inl, inr, length, refl, subst, suc, sym, true, zero, ℕ, ◌&&◌, ◌+◌, ◌<◌, ◌∙◌, ◌∷◌, ◌≡◌}
use Rattle.std.specs.Prelude.{IsTrue, ◌↔◌}
use Rattle.std.proofs.Math.Path.{fun_ext}
use Rattle.std.proofs.lemmas.Bool.{and_from, cases_lt, false≢true}
use Rattle.action_terms.specs.Actions.{Action}
use Rattle.action_terms.specs.Performances.{Here, Later, OneOf}
use Rattle.sort_rules.specs.Admissible.{Holds, IsAdmissible, Meets}
use Rattle.sort_rules.specs.Demands.{Demand, demands, ◌⊒◌}
use Rattle.sort_rules.specs.Parts.{Clash, Listed, Unreached}
use Rattle.sort_rules.specs.Reached.{AskTheSame, reached_ones}
use Rattle.sort_rules.specs.Rows.{IsTable, SortTable, unmarked}
use Rattle.sort_rules.specs.Tables.{BindsIn, DataIn, Entry, MarkedTable}
use Rattle.sort_rules.specs.Tests.{all_hold, are_met, holds, is_below, is_met, root_is_met}
use Rattle.sort_rules.specs.Values.{nothing}
use Rattle.sort_rules.proofs.Choices.{both_left, both_right}
use Rattle.sort_rules.proofs.ClearTables.{table_admissible}
use Rattle.sort_rules.proofs.TestsTell.{holds-complete, holds-sound, is_below-complete, is_below-sound}

-- a demand of an unreached part is met
met-reached : (t : MarkedTable) (ds : List Demand) → are_met t (reached_ones ds) ≡ are_met t ds
met-reached t [] = refl
met-reached t ((x ⊒ Unreached) ∷ ds) = met-reached t ds
met-reached t ((x ⊒ Listed ps) ∷ ds) = ap (λ (b : Bool). is_below (Listed ps) (t x) && b) (met-reached t ds)
met-reached t ((x ⊒ Clash) ∷ ds) = ap (λ (b : Bool). is_below Clash (t x) && b) (met-reached t ds)

one_met : (t : MarkedTable) (d : Demand) (ds : List Demand) → are_met t ds ≡ true → OneOf d ds → is_met t d ≡ true
one_met t d _ e (Here {xs = ds}) = both_left (is_met t d) (are_met t ds) e
one_met t d _ e (Later {y = o} {xs = ds} m) = one_met t d ds (both_right (is_met t o) (are_met t ds) e) m

each_met : (t : MarkedTable) (ds : List Demand) → ((d : Demand) → OneOf d ds → is_met t d ≡ true) → are_met t ds ≡ true
each_met t [] h = refl
each_met t (d ∷ ds) h = and_from (is_met t d) (are_met t ds) (h d Here) (each_met t ds (λ o m. h o (Later m)))

-- where each demand of one list stands in the other, both are met or none
same_met : (t : MarkedTable) (ds es : List Demand) → ((d : Demand) → OneOf d ds → OneOf d es) → ((d : Demand) → OneOf d es → OneOf d ds) → are_met t ds ≡ are_met t es
same_met t ds es f g = go (are_met t ds) (are_met t es) refl refl
  where
    met : are_met t es ≡ true → are_met t ds ≡ true
    met e = each_met t ds (λ d m. one_met t d es e (f d m))

    back : are_met t ds ≡ true → are_met t es ≡ true
    back e = each_met t es (λ d m. one_met t d ds e (g d m))

    go : (b c : Bool) → are_met t ds ≡ b → are_met t es ≡ c → b ≡ c
    go true c e f = sym (back e) ∙ f
    go false true e f = sym e ∙ met f
    go false false e f = refl

-- so those of reached parts tell
pub holds-listed : (a : Action) (t : MarkedTable) (k : ℕ) (ds : List Demand) → AskTheSame ds (demands a t k) → are_met t ds ≡ holds a t k
holds-listed a t k ds e =
    sym (met-reached t ds) ∙ same_met t (reached_ones ds) (reached_ones (demands a t k)) e.there e.back ∙ met-reached t (demands a t k)

-- the test tells whether the node holds, also in a table with the same entries
pub holds-tell : (a : Action) (t u : MarkedTable) (k : ℕ) (b : Bool) → ((x : Entry) → t x ≡ u x) → b ≡ holds a t k → IsTrue b ↔ Holds a u k
holds-tell a t u k b e f =
    let g : b ≡ holds a u k = f ∙ ap (λ (t : MarkedTable). holds a t k) (fun_ext e) in
    (λ h. holds-sound a u k (sym g ∙ h), λ h. g ∙ holds-complete a u k h)

and_false : (b : Bool) → (b && false) ≡ false
and_false true = refl
and_false false = refl

-- one node that doesn't hold
pub all_hold-not : (a : Action) (t : MarkedTable) (k n : ℕ) → k < n → holds a t k ≡ false → all_hold a t n ≡ false
all_hold-not a t k zero less e = absurd (omega arith)
all_hold-not a t k (suc n) less e = elim (cases_lt k n) [ inl lt ↦ later (all_hold-not a t k n lt e) | inr past ↦ here (omega (arith, past, less)) ]
  where
    later : all_hold a t n ≡ false → (holds a t n && all_hold a t n) ≡ false
    later h = ap (λ (b : Bool). holds a t n && b) h ∙ and_false (holds a t n)

    here : k ≡ n → (holds a t n && all_hold a t n) ≡ false
    here same = ap (λ (b : Bool). b && all_hold a t n) (ap (holds a t) (sym same) ∙ e)

-- one node more
pub all_hold-more : (a : Action) (t : MarkedTable) (k : ℕ) → all_hold a t k ≡ true → holds a t k ≡ true → all_hold a t (k + 1) ≡ true
all_hold-more a t k h e = rw (add-one k) (and_from (holds a t k) (all_hold a t k) e h)

all_hold-each : (a : Action) (t : MarkedTable) (n : ℕ) → all_hold a t n ≡ true → (k : ℕ) → k < n → Holds a t k
all_hold-each a t zero h k less = absurd (omega arith)
all_hold-each a t (suc n) h k less =
    let before = all_hold-each a t n (both_right (holds a t n) (all_hold a t n) h) k in
    elim (cases_lt k n) [ inl lt ↦ before lt | inr past ↦ here (omega (arith, past, less)) ]
  where
    here : k ≡ n → Holds a t k
    here same = subst (Holds a t) (sym same) (holds-sound a t n (both_left (holds a t n) (all_hold a t n) h))

each-all_hold : (a : Action) (t : MarkedTable) (n : ℕ) → ((k : ℕ) → k < n → Holds a t k) → all_hold a t n ≡ true
each-all_hold a t zero h = refl
each-all_hold a t (suc n) h = and_from (holds a t n) (all_hold a t n) (holds-complete a t n (h n (omega arith))) (each-all_hold a t n (λ k less. h k (omega (arith, less))))

meets-root : (a : Action) (t : MarkedTable) → Meets a t → root_is_met t ≡ true
meets-root a t m = and_from _ _ (is_below-complete m.root_data) (and_from _ _ (is_below-complete m.root_binds) refl)

-- in a table in memory, the tests of the root and of all nodes tell whether it is admissible
pub admissible-tell : (a : Action) (t : MarkedTable) (u : SortTable) (b : Bool) → IsTable u → ((x : Entry) → t x ≡ unmarked u x) → root_is_met t ≡ true → b ≡ all_hold a t (length a) → IsTrue b ↔ IsAdmissible a (unmarked u)
admissible-tell a t u b proper e root f =
    let same : t ≡ unmarked u = fun_ext e in
    let g : b ≡ all_hold a (unmarked u) (length a) = f ∙ ap (λ (t : MarkedTable). all_hold a t (length a)) same in
    let met : root_is_met (unmarked u) ≡ true = subst (λ (t : MarkedTable). root_is_met t ≡ true) same root in (
      λ h. table_admissible a u proper (record {
        root_data = is_below-sound nothing (unmarked u (DataIn 0)) (both_left (is_below nothing (unmarked u (DataIn 0))) (is_below nothing (unmarked u (BindsIn 0)) && true) met);
        root_binds = is_below-sound nothing (unmarked u (BindsIn 0)) (both_left (is_below nothing (unmarked u (BindsIn 0))) true (both_right (is_below nothing (unmarked u (DataIn 0))) (is_below nothing (unmarked u (BindsIn 0)) && true) met));
        each = all_hold-each a (unmarked u) (length a) (sym g ∙ h);
      }),
      λ h. g ∙ each-all_hold a (unmarked u) (length a) h.meets.each,
    )

-- where the root's demand isn't met, it is none
pub admissible-not : (a : Action) (t : MarkedTable) (u : SortTable) → ((x : Entry) → t x ≡ unmarked u x) → root_is_met t ≡ false → IsTrue false ↔ IsAdmissible a (unmarked u)
admissible-not a t u e root =
    let not_met : root_is_met (unmarked u) ≡ false = subst (λ (t : MarkedTable). root_is_met t ≡ false) (fun_ext e) root in
    (λ h. absurd (false≢true h), λ h. sym not_met ∙ meets-root a (unmarked u) h.meets)
