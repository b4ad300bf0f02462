-- The first item that breaks a rule.
use Rattle.std.proofs.Common.{◌≡◌, ◌∙◌, ℕ, ◌+◌, ◌<◌, ◌≤◌, true, false, List, length, take, get_or, map, refl, sym, ap, below_more, arith}
use Rattle.std.proofs.lemmas.List.{length-map}
use Rattle.gram_form.proofs.Searching.{some_within, some_at, at_some}
use Rattle.gram_form.specs.Plain.{PlainProduction, plain_production}
use Rattle.meta_terms.specs.declared.items.Equation.{Equation}
use Rattle.meta_terms.specs.declared.items.Item.{Item}
use Rattle.meta_terms.specs.declared.items.Item.TheVariants as item
use Rattle.meta_terms.specs.PlainItems.{PlainDeclaration, PlainItem, AProduction, ADeclaration, AnEquation, plain_item, plain_declaration, plain_equation}
use Rattle.std.proofs.lemmas.Bool.{false_from_ne_true}
use Rattle.meta_check.specs.Rules.{Rule, Breaks, IsFirstBreach, Holds, names_no_production}
use Rattle.meta_check.specs.Views.{names_outside, nonterminals_of}

-- no item before the place breaks the rule
abbrev pub HoldsBelow : Rule → List Item → ℕ → Type 0
HoldsBelow rule list i = (k : ℕ) → k < i → Breaks rule (map plain_item list) k → ⊥

-- nor does the item there
pub holds_more : (rule : Rule) (list : List Item) (i : ℕ) (d : Item) → HoldsBelow rule list i → d ≡ get_or list i d → rule (take i (map plain_item list)) (map plain_item list) (plain_item d) ≡ false → HoldsBelow rule list (i + 1)
holds_more rule list i d below is test =
    let here = sym (ap (λ (x : Item). rule (take i (map plain_item list)) (map plain_item list) (plain_item x)) is) ∙ test in
    below_more (λ k. Breaks rule (map plain_item list) k → ⊥) i below
    (λ b. let e : false ≡ true = sym here ∙ some_at plain_item list i d (λ item. rule (take i (map plain_item list)) (map plain_item list) item ≡ true) b in absurd (cc))

-- the item there does
pub first_breach : (rule : Rule) (list : List Item) (i : ℕ) (d : Item) → HoldsBelow rule list i → i < length list → d ≡ get_or list i d → rule (take i (map plain_item list)) (map plain_item list) (plain_item d) ≡ true
    → IsFirstBreach rule (map plain_item list) i
first_breach rule list i d below within is test = record {
  breaks = at_some plain_item list i d (λ item. rule (take i (map plain_item list)) (map plain_item list) item ≡ true) within
      (sym (ap (λ (x : Item). rule (take i (map plain_item list)) (map plain_item list) (plain_item x)) is) ∙ test);
  first = λ j b less. below j less b;
}

-- at the end none does
pub holds_all : (rule : Rule) (list : List Item) (i : ℕ) → HoldsBelow rule list i → length list ≤ i → Holds rule (map plain_item list)
holds_all rule list i below end k b =
    let within = some_within (map plain_item list) k (λ item. rule (take k (map plain_item list)) (map plain_item list) item ≡ true) b in
    below k (omega (arith, within, length-map list plain_item, end)) b

-- a rule on equations: the item is one, and doesn't break it
pub equation_holds : (rule : Rule) (list : List Item) (i : ℕ) (d : Item) (own : Equation) → HoldsBelow rule list i → d ≡ get_or list i d → d ≡ item.Equation own
    → rule (take i (map plain_item list)) (map plain_item list) (AnEquation (plain_equation own)) ≡ false → HoldsBelow rule list (i + 1)
equation_holds rule list i d own below is e test =
    holds_more rule list i d below is (ap (λ (x : Item). rule (take i (map plain_item list)) (map plain_item list) (plain_item x)) e ∙ test)

-- it is one, and breaks it
pub equation_breaks : (rule : Rule) (list : List Item) (i : ℕ) (d : Item) (own : Equation) → HoldsBelow rule list i → i < length list → d ≡ get_or list i d → d ≡ item.Equation own
    → rule (take i (map plain_item list)) (map plain_item list) (AnEquation (plain_equation own)) ≡ true → IsFirstBreach rule (map plain_item list) i
equation_breaks rule list i d own below within is e test =
    first_breach rule list i d below within is (ap (λ (x : Item). rule (take i (map plain_item list)) (map plain_item list) (plain_item x)) e ∙ test)

-- where each name has a production, those that a pattern names have
pub item_defined : (list : List Item) (i : ℕ) (d : Item) (own : Equation) → i < length list → d ≡ get_or list i d → d ≡ item.Equation own → Holds names_no_production (map plain_item list)
    → names_outside (nonterminals_of (map plain_item list)) (AnEquation (plain_equation own)) ≡ false
item_defined list i d own h is e holds =
    let names = nonterminals_of (map plain_item list) in
    false_from_ne_true (names_outside names (AnEquation (plain_equation own))) (λ broken.
    holds i (at_some plain_item list i d (λ x. names_no_production (take i (map plain_item list)) (map plain_item list) x ≡ true) h
    (ap (λ (x : Item). names_outside names (plain_item x)) (sym is ∙ e) ∙ broken)))

-- no other item breaks the rule
abbrev pub IsOnEquations : Rule → Type 0
IsOnEquations rule = (earlier all : List PlainItem) → ((p : PlainProduction) → rule earlier all (AProduction p) ≡ false) × ((d : PlainDeclaration) → rule earlier all (ADeclaration d) ≡ false)

pub other_holds : (rule : Rule) → IsOnEquations rule → (list : List Item) (i : ℕ) (d : Item) → HoldsBelow rule list i → d ≡ get_or list i d → ((e : Equation) → d ≡ item.Equation e → ⊥) → HoldsBelow rule list (i + 1)
other_holds rule on list i d below is other = holds_more rule list i d below is (pick d other)
  where
    pick : (x : Item) → ((e : Equation) → x ≡ item.Equation e → ⊥) → rule (take i (map plain_item list)) (map plain_item list) (plain_item x) ≡ false
    pick (item.Production p) h = (on (take i (map plain_item list)) (map plain_item list)).0 (plain_production p)
    pick (item.Declaration q) h = (on (take i (map plain_item list)) (map plain_item list)).1 (plain_declaration q)
    pick (item.Equation e) h = absurd (h e refl)
