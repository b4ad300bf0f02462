-- The category that a node of a template asks of its variable.
use Rattle.std.proofs.Common.{◌≡◌, ◌∙◌, ℕ, Bool, true, false, not, ◌&&◌, List, [], ◌∷◌, map, nat_eq, Option, Some, None, option_to_list, refl, sym, ap}
use Rattle.std.specs.Prelude.{◌||◌, option_map, if◌then◌else◌}
use Rattle.std.specs.List.{list_any, list_all}
use Rattle.std.specs.Str.{bytes_eq}
use Rattle.std.proofs.Math.Bool.{and-true, or-false}
use Rattle.std.proofs.lemmas.Bool.{eq-eqb, ne_eqb, not-false, or_parts}
use Rattle.std.proofs.lemmas.Slice.Eq.{bytes_eq-Decides}
use Rattle.gram_form.specs.Grammars.{is_undefined, names_of}
use Rattle.gram_form.specs.Plain.{PlainPart, PlainLiteral, PlainNonterm, PlainIdentifier, PlainNumeral}
use Rattle.meta_terms.specs.declared.template.TemplateNode.{TemplateNode}
use Rattle.meta_terms.specs.Nodes.{label_of}
use Rattle.meta_terms.specs.Templates.{Label, ActionNode, YielderNode, ActionTokenOf, YielderTokenOf, Applied, ValueOf}
use Rattle.meta_terms.specs.PlainItems.{PlainItem, PlainEquation, PlainPatternPart}
use Rattle.meta_check.specs.declared.categories.Category.{Category}
use Rattle.meta_check.specs.declared.categories.Category.TheVariants.{Phrase, Identifier, Numeral}
use Rattle.meta_check.specs.Rules.{fits, stands_for}
use Rattle.meta_check.specs.Tables.{AreNumbers, category_of, is_fit, stands_as}
use Rattle.meta_check.specs.Views.{declarations_of, is_in, nonterminal_of, part_for, productions_of}
use Rattle.meta_check.proofs.NumberTable.{place_names}

-- what is known of the numbers and of the tables, for one equation
pub record AreTold (all : List PlainItem) (e : PlainEquation) (number : List ℕ → ℕ) (nonterminal : List ℕ → Option ℕ) (category : List ℕ → Option Category) : Type 0 where
  pub numbers : AreNumbers (names_of (productions_of all)) number
  pub functions : (f : List ℕ) → nonterminal f ≡ option_map number (nonterminal_of (declarations_of all) f)
  pub categories : (v : List ℕ) → category v ≡ option_map (category_of number) (part_for e.pattern v)
  pub defined : list_any (λ (p : PlainPatternPart). is_undefined (names_of (productions_of all)) p.part) e.pattern ≡ false

-- what a variable stands for is defined
part_defined : (names : List (List ℕ)) (pattern : List PlainPatternPart) (v name : List ℕ) → list_any (λ (p : PlainPatternPart). is_undefined names p.part) pattern ≡ false
    → part_for pattern v ≡ Some (PlainNonterm name) → is_in names name ≡ true
part_defined names [] v name h e = absurd (cc)
part_defined names (p ∷ pattern) v name h e =
    let both = or_parts (is_undefined names p.part) (list_any (λ (q : PlainPatternPart). is_undefined names q.part) pattern) h in
    pick (list_any (bytes_eq v) (option_to_list p.variable)) both.0 e (λ f. part_defined names pattern v name both.1 f)
  where
    own : (q : PlainPart) → is_undefined names q ≡ false → Some q ≡ Some (PlainNonterm name) → is_in names name ≡ true
    own (PlainNonterm n) u s = let same : n ≡ name = cc in ap (is_in names) (sym same) ∙ not-false (is_in names n) u
    own (PlainLiteral b) u s = absurd (cc)
    own PlainIdentifier u s = absurd (cc)
    own PlainNumeral u s = absurd (cc)

    pick : (b : Bool) → is_undefined names p.part ≡ false → (if b then Some p.part else part_for pattern v) ≡ Some (PlainNonterm name) → (part_for pattern v ≡ Some (PlainNonterm name) → is_in names name ≡ true) → is_in names name ≡ true
    pick true u s rest = own p.part u s
    pick false u s rest = rest s

-- an identifier and a numeral
identifier_fits : (number : List ℕ → ℕ) (o : Option PlainPart) → stands_as (Some Identifier) (option_map (category_of number) o) ≡ stands_for (PlainIdentifier ∷ []) o
identifier_fits number None = refl
identifier_fits number (Some (PlainLiteral b)) = refl
identifier_fits number (Some (PlainNonterm n)) = refl
identifier_fits number (Some PlainIdentifier) = refl
identifier_fits number (Some PlainNumeral) = refl

numeral_fits : (number : List ℕ → ℕ) (o : Option PlainPart) → stands_as (Some Numeral) (option_map (category_of number) o) ≡ stands_for (PlainNumeral ∷ []) o
numeral_fits number None = refl
numeral_fits number (Some (PlainLiteral b)) = refl
numeral_fits number (Some (PlainNonterm n)) = refl
numeral_fits number (Some PlainIdentifier) = refl
numeral_fits number (Some PlainNumeral) = refl

-- a phrase: two names have one number exactly where they are one, if the first is there
same_names : (names : List (List ℕ)) (number : List ℕ → ℕ) (a b : List ℕ) → AreNumbers names number → is_in names a ≡ true → nat_eq (number a) (number b) ≡ bytes_eq a b
same_names names number a b numbers there = pick (bytes_eq a b) refl
  where
    pick : (t : Bool) → bytes_eq a b ≡ t → nat_eq (number a) (number b) ≡ t
    pick true e = eq-eqb (number a) (number b) (ap number ((bytes_eq-Decides a b).0 e))
    pick false e = ne_eqb (number a) (number b) (λ s.
        let wrong : false ≡ true = sym e ∙ (bytes_eq-Decides a b).1 (place_names names a b there (sym (numbers a) ∙ s ∙ numbers b)) in absurd (cc))

phrase_fits : (names : List (List ℕ)) (number : List ℕ → ℕ) → AreNumbers names number → (o : Option (List ℕ)) (part : Option PlainPart) → ((name : List ℕ) → part ≡ Some (PlainNonterm name) → is_in names name ≡ true)
    → stands_as (option_map Phrase (option_map number o)) (option_map (category_of number) part) ≡ stands_for (map PlainNonterm (option_to_list o)) part
phrase_fits names number numbers None None h = refl
phrase_fits names number numbers (Some name) None h = refl
phrase_fits names number numbers None (Some part) h = refl
phrase_fits names number numbers (Some name) (Some (PlainLiteral b)) h = refl
phrase_fits names number numbers (Some name) (Some (PlainNonterm n)) h = same_names names number n name numbers (h n refl) ∙ sym (or-false (bytes_eq n name))
phrase_fits names number numbers (Some name) (Some PlainIdentifier) h = refl
phrase_fits names number numbers (Some name) (Some PlainNumeral) h = refl

pub fits_by : (all : List PlainItem) (e : PlainEquation) (number : List ℕ → ℕ) (nonterminal : List ℕ → Option ℕ) (category : List ℕ → Option Category)
    → AreTold all e number nonterminal category → (l : Label) → is_fit nonterminal category l ≡ fits all e l
fits_by all e number nonterminal category t (ActionNode k i w) = refl
fits_by all e number nonterminal category t (YielderNode k w) = refl
fits_by all e number nonterminal category t (ActionTokenOf k i w v) = and-true (stands_as (Some Identifier) (category v)) ∙ ap (stands_as (Some Identifier)) (t.categories v) ∙ identifier_fits number (part_for e.pattern v)
fits_by all e number nonterminal category t (YielderTokenOf k w v) = and-true (stands_as (Some Identifier) (category v)) ∙ ap (stands_as (Some Identifier)) (t.categories v) ∙ identifier_fits number (part_for e.pattern v)
fits_by all e number nonterminal category t (ValueOf v) = and-true (stands_as (Some Numeral) (category v)) ∙ ap (stands_as (Some Numeral)) (t.categories v) ∙ numeral_fits number (part_for e.pattern v)
fits_by all e number nonterminal category t (Applied f v) =
    and-true (stands_as (option_map Phrase (nonterminal f)) (category v))
    ∙ ap (stands_as (option_map Phrase (nonterminal f))) (t.categories v)
    ∙ ap (λ o. stands_as (option_map Phrase o) (option_map (category_of number) (part_for e.pattern v))) (t.functions f)
    ∙ phrase_fits (names_of (productions_of all)) number t.numbers (nonterminal_of (declarations_of all) f) (part_for e.pattern v) (λ name s. part_defined (names_of (productions_of all)) e.pattern v name t.defined s)

-- one of the nodes doesn't fit
pub one_unfit : (all : List PlainItem) (e : PlainEquation) (number : List ℕ → ℕ) (nonterminal : List ℕ → Option ℕ) (category : List ℕ → Option Category)
    → AreTold all e number nonterminal category
    → (nodes : List TemplateNode) → list_any (λ x. not (is_fit nonterminal category (label_of x))) nodes ≡ not (list_all (fits all e) (map label_of nodes))
one_unfit all e number nonterminal category t [] = refl
one_unfit all e number nonterminal category t (x ∷ nodes) =
    ap (λ b. not b || list_any (λ y. not (is_fit nonterminal category (label_of y))) nodes) (fits_by all e number nonterminal category t (label_of x))
    ∙ ap (λ b. not (fits all e (label_of x)) || b) (one_unfit all e number nonterminal category t nodes)
    ∙ pick (fits all e (label_of x)) (list_all (fits all e) (map label_of nodes))
  where
    pick : (a b : Bool) → (not a || not b) ≡ not (a && b)
    pick true b = refl
    pick false b = refl
