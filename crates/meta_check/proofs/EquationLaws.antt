-- What the rules say of one equation of a checked description.
use Rattle.std.proofs.Common.{◌≡◌, ◌∙◌, ℕ, true, false, not, List, ◌∷◌, ◌++◌, map, flat_map, Option, Some, None, option_to_list, refl, sym, ap, ap₂, append-nil, append_assoc, arith}
use Rattle.std.specs.Prelude.{is_none}
use Rattle.std.specs.List.{list_any, list_all}
use Rattle.std.proofs.lemmas.Bool.{false_from_ne_true, or_parts}
use Rattle.std.proofs.lemmas.List.{map-append}
use Rattle.gram_form.specs.Plain.{PlainPart, PlainProduction}
use Rattle.meta_terms.specs.PlainItems.{PlainDeclaration, PlainEquation, AProduction, ADeclaration, AnEquation}
use Rattle.meta_check.specs.Checked.{PlainDescription, IsChecked, in_order, items_of}
use Rattle.meta_check.specs.Rules.{Rule, Holds, names_no_function, equals_no_alternative, repeats_equation, misuses_variable, misuses_part, gives_the_same, repeats, fits}
use Rattle.meta_check.specs.Views.{is_in, applies_outside, calls_outside, uses_outside, variables_of, nonterminal_of, alternatives_of, parts_of_pattern, place_among}
use Rattle.meta_check.proofs.InOrder.{breaks_there, kinds_kept}
use Rattle.meta_check.proofs.Known.{was_there}

-- its function has a nonterminal, its pattern an alternative of this, and no equation before it is for both; its variables are
-- distinct, and its template names functions that there are, and uses each variable as its part
pub record IsCheckedEquation (d : PlainDescription) (before : List PlainEquation) (e : PlainEquation) : Type 0 where
  pub nonterminal : List ℕ
  pub declared : nonterminal_of d.functions e.function ≡ Some nonterminal
  pub number : ℕ
  pub alternative : place_among 0 (alternatives_of d.grammar.productions nonterminal) (parts_of_pattern e.pattern) ≡ Some number
  pub alone : list_any (gives_the_same (items_of d) e) before ≡ false
  pub distinct : repeats (variables_of e.pattern) ≡ false
  pub functions : list_any (applies_outside (map (λ (f : PlainDeclaration). f.function) d.functions)) e.action ≡ false
  pub variables : list_any (uses_outside (variables_of e.pattern)) e.action ≡ false
  pub fitting : list_all (fits (items_of d) e) e.action ≡ true

-- a rule that holds, at the place of the equation among the items
keeps : (rule : Rule) (d : PlainDescription) (before after : List PlainEquation) (e : PlainEquation) → d.equations ≡ before ++ e ∷ after → Holds rule (items_of d)
    → rule (in_order d.grammar.productions d.functions before) (items_of d) (AnEquation e) ≡ false
keeps rule d before after e cut holds =
    let ps = map AProduction d.grammar.productions in
    let ds = map ADeclaration d.functions in
    let es = map AnEquation before in
    let rest = AnEquation e ∷ map AnEquation after in
    let here : items_of d ≡ (ps ++ (ds ++ es)) ++ rest =
    ap (λ list. ps ++ (ds ++ list)) (ap (map AnEquation) cut ∙ map-append AnEquation before (e ∷ after))
    ∙ ap (λ list. ps ++ list) (sym (append_assoc ds es rest))
    ∙ sym (append_assoc ps (ds ++ es) rest) in
    false_from_ne_true (rule (ps ++ (ds ++ es)) (items_of d) (AnEquation e))
    (λ broken. breaks_there rule (items_of d) (ps ++ (ds ++ es)) (map AnEquation after) (AnEquation e) here broken holds)

-- where a number is found, there is a nonterminal
found_number : (ps : List PlainProduction) (o : Option (List ℕ)) (parts : List PlainPart) → is_none (place_among 0 (flat_map (alternatives_of ps) (option_to_list o)) parts) ≡ false
    → (name : List ℕ) × (number : ℕ) × (o ≡ Some name) × (place_among 0 (alternatives_of ps name) parts ≡ Some number)
found_number ps None parts h = absurd (cc)
found_number ps (Some name) parts h =
    pick (place_among 0 (alternatives_of ps name) parts) refl
    (sym (ap (λ list. is_none (place_among 0 list parts)) (append-nil (alternatives_of ps name))) ∙ h)
  where
    pick : (n : Option ℕ) → place_among 0 (alternatives_of ps name) parts ≡ n → is_none (place_among 0 (alternatives_of ps name) parts) ≡ false
        → (other : List ℕ) × (number : ℕ) × (Some name ≡ Some other) × (place_among 0 (alternatives_of ps other) parts ≡ Some number)
    pick None e f = let wrong : true ≡ false = sym (ap is_none e) ∙ f in absurd (cc)
    pick (Some number) e f = (name, number, refl, e)

pub checked_equation : (d : PlainDescription) → IsChecked d → (before after : List PlainEquation) (e : PlainEquation) → d.equations ≡ before ++ e ∷ after → IsCheckedEquation d before e
checked_equation d checked before after e cut =
    let all = kinds_kept d.grammar.productions d.functions d.equations in
    let earlier = kinds_kept d.grammar.productions d.functions before in
    let third = keeps names_no_function d before after e cut (checked.rules 2 names_no_function (omega arith)) in
    let fifth = keeps equals_no_alternative d before after e cut (checked.rules 4 names_no_function (omega arith)) in
    let sixth = keeps repeats_equation d before after e cut (checked.rules 5 names_no_function (omega arith)) in
    let seventh = keeps misuses_variable d before after e cut (checked.rules 6 names_no_function (omega arith)) in
    let eighth = keeps misuses_part d before after e cut (checked.rules 7 names_no_function (omega arith)) in
    let known = map (λ (f : PlainDeclaration). f.function) d.functions in
    let calls = or_parts (not (is_in known e.function)) (list_any (applies_outside known) e.action) (ap (λ ds. calls_outside (map (λ (f : PlainDeclaration). f.function) ds) (AnEquation e)) (sym all.declarations) ∙ third) in
    let found = found_number d.grammar.productions (nonterminal_of d.functions e.function) (parts_of_pattern e.pattern)
    (ap₂ (λ ps ds. is_none (place_among 0 (flat_map (alternatives_of ps) (option_to_list (nonterminal_of ds e.function))) (parts_of_pattern e.pattern)))
    (sym all.productions) (sym all.declarations) ∙ fifth) in
    let uses = or_parts (repeats (variables_of e.pattern)) (list_any (uses_outside (variables_of e.pattern)) e.action) seventh in
    record {
      nonterminal = found.0;
      declared = found.2;
      number = found.1;
      alternative = found.3;
      alone = ap (list_any (gives_the_same (items_of d) e)) (sym earlier.equations) ∙ sixth;
      distinct = uses.0;
      functions = calls.1;
      variables = uses.1;
      fitting = was_there (list_all (fits (items_of d) e) e.action) eighth;
    }
