-- Each rule asks of the items before an item those of its kind alone, and of all items no order between kinds.
use Rattle.std.proofs.Common.{◌≡◌, ◌∙◌, ℕ, zero, suc, ◌+◌, ◌<◌, Bool, true, not, ◌&&◌, List, [], ◌∷◌, length, take, map, flat_map, option_to_list, nat_eq, refl, sym, ap, ap₂, subst, arith}
use Rattle.std.specs.Prelude.{is_none, IsSomeAnd, slice_get}
use Rattle.std.specs.List.{list_any, list_all}
use Rattle.std.specs.Str.{bytes_eq}
use Rattle.gram_form.specs.Plain.{PlainProduction, PlainNonterm}
use Rattle.meta_terms.specs.Templates.{Label, ActionNode, YielderNode, ActionTokenOf, YielderTokenOf, Applied, ValueOf}
use Rattle.meta_terms.specs.PlainItems.{PlainDeclaration, PlainEquation, PlainItem, AProduction, ADeclaration, AnEquation}
use Rattle.meta_check.specs.Checked.{PlainDescription, IsDescriptionOf, IsChecked, in_order, items_of}
use Rattle.meta_check.specs.Rules.{Rule, rules, Holds, HoldBelow, IsWellFormed, same_number, gives_the_same, fits, stands_for, repeats_name, names_no_production, names_no_function, repeats_function, equals_no_alternative, repeats_equation, misuses_variable, misuses_part, starts_elsewhere}
use Rattle.meta_check.specs.Views.{productions_of, declarations_of, equations_of, is_in, names_outside, calls_outside, alternative_of, alternatives_of, nonterminal_of, part_for, parts_of_pattern, place_among}
use Rattle.meta_check.proofs.InOrder.{IsOfKinds, AreSame, breaks_there, sorted, sorted_holds, first_found}
use Rattle.meta_check.proofs.Known.{same_any}
use Rattle.meta_check.proofs.RulesBelow.{all_hold}

names_repeat : IsOfKinds repeats_name
names_repeat e f xs ys (AProduction p) b s = ap (λ ps. is_in (map (λ (q : PlainProduction). q.name) ps) p.name) b
names_repeat e f xs ys (ADeclaration d) b s = refl
names_repeat e f xs ys (AnEquation q) b s = refl

names_outside_same : IsOfKinds names_no_production
names_outside_same e f xs ys x b s = ap (λ ps. names_outside (map (λ (q : PlainProduction). q.name) ps) x) s.productions

calls_outside_same : IsOfKinds names_no_function
calls_outside_same e f xs ys x b s = ap (λ ds. calls_outside (map (λ (q : PlainDeclaration). q.function) ds) x) s.declarations

functions_repeat : IsOfKinds repeats_function
functions_repeat e f xs ys (AProduction p) b s = refl
functions_repeat e f xs ys (ADeclaration d) b s = ap (λ ds. is_in (map (λ (q : PlainDeclaration). q.function) ds) d.function) b
functions_repeat e f xs ys (AnEquation q) b s = refl

alternative_same : (xs ys : List PlainItem) → AreSame xs ys → (e : PlainEquation) → alternative_of xs e ≡ alternative_of ys e
alternative_same xs ys s e =
    ap₂ (λ ps ds. place_among 0 (flat_map (alternatives_of ps) (option_to_list (nonterminal_of ds e.function))) (parts_of_pattern e.pattern)) s.productions s.declarations

patterns_strange : IsOfKinds equals_no_alternative
patterns_strange e f xs ys (AProduction p) b s = refl
patterns_strange e f xs ys (ADeclaration d) b s = refl
patterns_strange e f xs ys (AnEquation q) b s = ap is_none (alternative_same xs ys s q)

equations_repeat : IsOfKinds repeats_equation
equations_repeat e f xs ys (AProduction p) b s = refl
equations_repeat e f xs ys (ADeclaration d) b s = refl
equations_repeat e f xs ys (AnEquation q) b s =
    ap (list_any (gives_the_same xs q)) b
    ∙ same_any (gives_the_same xs q) (gives_the_same ys q) (λ g. ap₂ (λ m n. bytes_eq q.function g.function && same_number m n) (alternative_same xs ys s q) (alternative_same xs ys s g)) (equations_of f)

variables_same : IsOfKinds misuses_variable
variables_same e f xs ys (AProduction p) b s = refl
variables_same e f xs ys (ADeclaration d) b s = refl
variables_same e f xs ys (AnEquation q) b s = refl

fits_same : (xs ys : List PlainItem) → AreSame xs ys → (e : PlainEquation) (l : Label) → fits xs e l ≡ fits ys e l
fits_same xs ys s e (Applied f v) = ap (λ ds. stands_for (map PlainNonterm (option_to_list (nonterminal_of ds f))) (part_for e.pattern v)) s.declarations
fits_same xs ys s e (ActionNode k n t) = refl
fits_same xs ys s e (YielderNode k t) = refl
fits_same xs ys s e (ActionTokenOf k n t v) = refl
fits_same xs ys s e (YielderTokenOf k t v) = refl
fits_same xs ys s e (ValueOf v) = refl

same_all : {X : Type 0} (p q : X → Bool) → ((x : X) → p x ≡ q x) → (xs : List X) → list_all p xs ≡ list_all q xs
same_all p q h [] = refl
same_all p q h (x ∷ xs) = ap₂ (λ a b. a && b) (h x) (same_all p q h xs)

parts_same : IsOfKinds misuses_part
parts_same e f xs ys (AProduction p) b s = refl
parts_same e f xs ys (ADeclaration d) b s = refl
parts_same e f xs ys (AnEquation q) b s = ap not (same_all (fits xs q) (fits ys q) (fits_same xs ys s q) q.action)

starts_same : IsOfKinds starts_elsewhere
starts_same e f xs ys (AProduction p) b s = refl
starts_same e f xs ys (ADeclaration d) b s = ap₂ (λ ds ps. nat_eq (length ds) 0 && not (is_in (take 1 (map (λ (q : PlainProduction). q.name) ps)) d.nonterminal)) b s.productions
starts_same e f xs ys (AnEquation q) b s = refl

abbrev AreOfKinds : List Rule → Type 0
AreOfKinds [] = Unit {0}
AreOfKinds (rule ∷ list) = IsOfKinds rule × AreOfKinds list

rules_of_kinds : AreOfKinds rules
rules_of_kinds = (names_repeat, (names_outside_same, (calls_outside_same, (functions_repeat, (patterns_strange, (equations_repeat, (variables_same, (parts_same, (starts_same, tt)))))))))

still_holds : (items : List PlainItem) (list : List Rule) → AreOfKinds list → (k : ℕ) → IsSomeAnd (slice_get list k) (λ rule. Holds rule items) → IsSomeAnd (slice_get list k) (λ rule. Holds rule (sorted items))
still_holds items [] kinds k h = absurd h
still_holds items (rule ∷ list) kinds zero h = sorted_holds rule kinds.0 items h
still_holds items (rule ∷ list) kinds (suc k) h = still_holds items list kinds.1 k h

-- where each equation's function is declared, and there is a declaration or an equation, there is a declaration
a_function : (items : List PlainItem) → Holds names_no_function items → 0 < length (declarations_of items) + length (equations_of items) → 0 < length (declarations_of items)
a_function items holds some = pick (declarations_of items) refl (equations_of items) refl some
  where
    pick : (ds : List PlainDeclaration) → declarations_of items ≡ ds → (es : List PlainEquation) → equations_of items ≡ es → 0 < length ds + length es → 0 < length ds
    pick (d ∷ ds) p es q h = omega arith
    pick [] p [] q h = absurd (omega (arith, h))
    pick [] p (e ∷ es) q h =
        let f = first_found items es e q in
        let breaks : names_no_function f.0 items (AnEquation e) ≡ true = ap (λ ds. calls_outside (map (λ (d : PlainDeclaration). d.function) ds) (AnEquation e)) p in
        absurd (breaks_there names_no_function items f.0 f.1 (AnEquation e) f.2 breaks holds)

-- a description of items that meet the rules meets them
pub description_checked : (items : List PlainItem) (d : PlainDescription) → IsDescriptionOf items d → HoldBelow items 9 → 0 < length (declarations_of items) + length (equations_of items) → IsChecked d
description_checked items d of below some =
    let same : items_of d ≡ sorted items = ap₂ (λ ps ds. in_order ps ds d.equations) of.productions of.functions ∙ ap (in_order (productions_of items) (declarations_of items)) of.equations in
    record {
      rules = subst IsWellFormed (sym same) (all_hold (sorted items) (λ r h. still_holds items rules rules_of_kinds r (below r h)));
      main = subst (λ (ds : List PlainDeclaration). 0 < length ds) (sym of.functions) (a_function items (below 2 (omega arith)) some);
    }
