-- The equation of a phrase is one of the description, for its function and its alternative.
use Rattle.std.proofs.Common.{◌≡◌, ◌∙◌, ℕ, ◌+◌, Bool, true, false, List, [], ◌∷◌, ◌++◌, flat_map, Option, Some, None, option_to_list, refl, sym, suc, ap, ap₂, append-nil, arith}
use Rattle.std.specs.Prelude.{if◌then◌else◌, slice_get}
use Rattle.std.specs.Str.{bytes_eq}
use Rattle.std.proofs.lemmas.Bool.{and_parts, eqb-true}
use Rattle.std.proofs.lemmas.Slice.Eq.{bytes_eq-Decides}
use Rattle.gram_form.specs.Plain.{PlainPart}
use Rattle.meta_terms.specs.PlainItems.{PlainEquation}
use Rattle.meta_check.specs.Checked.{PlainDescription, IsChecked, items_of}
use Rattle.meta_check.specs.Rules.{same_number}
use Rattle.meta_check.specs.Views.{alternative_of, alternatives_of, nonterminal_of, parts_of_pattern, place_among, same_parts}
use Rattle.meta_check.proofs.EquationLaws.{IsCheckedEquation, checked_equation}
use Rattle.meta_check.proofs.InOrder.{kinds_kept}
use Rattle.meta_check.proofs.SameParts.{parts_same}
use Rattle.equation_expand.specs.Meaning.{equation_among, equation_of, is_equation_for}

-- the equation stands between others, and is for the function and the alternative
pub record IsFound (d : PlainDescription) (es : List PlainEquation) (f : List ℕ) (a : ℕ) (e : PlainEquation) : Type 0 where
  pub before : List PlainEquation
  pub after : List PlainEquation
  pub cut : es ≡ before ++ e ∷ after
  pub function : f ≡ e.function
  pub alternative : alternative_of (items_of d) e ≡ Some a

number_is : (o : Option ℕ) (a : ℕ) → same_number o (Some a) ≡ true → o ≡ Some a
number_is None a h = absurd (let r : false ≡ true = h in cc)
number_is (Some n) a h = ap Some (eqb-true n a h)

is-for : (d : PlainDescription) (f : List ℕ) (a : ℕ) (e : PlainEquation) → is_equation_for d f a e ≡ true → (f ≡ e.function) × (alternative_of (items_of d) e ≡ Some a)
is-for d f a e h =
    let both = and_parts (bytes_eq f e.function) (same_number (alternative_of (items_of d) e) (Some a)) h in
    ((bytes_eq-Decides f e.function).0 both.0, number_is (alternative_of (items_of d) e) a both.1)

pub found : (d : PlainDescription) (es : List PlainEquation) (f : List ℕ) (a : ℕ) (e : PlainEquation) → equation_among d es f a ≡ Some e → IsFound d es f a e
found d [] f a e h = absurd (cc)
found d (x ∷ es) f a e h = go (is_equation_for d f a x) refl h (λ k. found d es f a e k)
  where
    go : (b : Bool) → is_equation_for d f a x ≡ b → (if b then Some x else equation_among d es f a) ≡ Some e → (equation_among d es f a ≡ Some e → IsFound d es f a e) → IsFound d (x ∷ es) f a e
    go true is k later =
        let same : x ≡ e = some-same x e k in
        let there = is-for d f a x is in
        record { before = []; after = es; cut = ap (λ y. y ∷ es) same; function = there.0 ∙ ap (λ y. y.function) same; alternative = ap (alternative_of (items_of d)) (sym same) ∙ there.1 }
      where
        some-same : (x y : PlainEquation) → Some x ≡ Some y → x ≡ y
        some-same x y e = cc
    go false is k later =
        let r = later k in
        record { before = x ∷ r.before; after = r.after; cut = ap (λ ys. x ∷ ys) r.cut; function = r.function; alternative = r.alternative }

-- ---- its alternative

-- the alternative of a number is there, and has these parts
alternative-there : (n a : ℕ) (list : List (List PlainPart)) (parts : List PlainPart) → place_among n list parts ≡ Some a → (k : ℕ) × (a ≡ n + k) × (slice_get list k ≡ Some parts)
alternative-there n a [] parts h = absurd (cc)
alternative-there n a (x ∷ list) parts h = go (same_parts x parts) refl h (λ k. alternative-there (n + 1) a list parts k)
  where
    go : (b : Bool) → same_parts x parts ≡ b → (if b then Some n else place_among (n + 1) list parts) ≡ Some a
        → (place_among (n + 1) list parts ≡ Some a → (k : ℕ) × (a ≡ n + 1 + k) × (slice_get list k ≡ Some parts)) → (k : ℕ) × (a ≡ n + k) × (slice_get (x ∷ list) k ≡ Some parts)
    go true is k later =
        let same : n ≡ a = number-same n a k in
        (0, omega (arith, same), ap Some (parts_same x parts is))
      where
        number-same : (x y : ℕ) → Some x ≡ Some y → x ≡ y
        number-same x y e = cc
    go false is k later =
        let r = later k in
        (suc r.0, omega (arith, r.1), r.2)

-- of a found equation of a checked description the pattern's parts are those of the alternative
pub record IsFitting (d : PlainDescription) (f : List ℕ) (a : ℕ) (e : PlainEquation) : Type 0 where
  pub before : List PlainEquation
  pub rules : IsCheckedEquation d before e
  pub function : f ≡ e.function
  pub parts : slice_get (alternatives_of d.grammar.productions rules.nonterminal) a ≡ Some (parts_of_pattern e.pattern)

pub fitting : (d : PlainDescription) → IsChecked d → (f : List ℕ) (a : ℕ) (e : PlainEquation) → equation_of d f a ≡ Some e → IsFitting d f a e
fitting d checked f a e h =
    let r = found d d.equations f a e h in
    let rules = checked_equation d checked r.before r.after e r.cut in
    let all = kinds_kept d.grammar.productions d.functions d.equations in
    let by : alternative_of (items_of d) e ≡ place_among 0 (alternatives_of d.grammar.productions rules.nonterminal) (parts_of_pattern e.pattern) =
    ap₂ (λ ps ds. place_among 0 (flat_map (alternatives_of ps) (option_to_list (nonterminal_of ds e.function))) (parts_of_pattern e.pattern)) all.productions all.declarations
    ∙ ap (λ o. place_among 0 (flat_map (alternatives_of d.grammar.productions) (option_to_list o)) (parts_of_pattern e.pattern)) rules.declared
    ∙ ap (λ list. place_among 0 list (parts_of_pattern e.pattern)) (append-nil (alternatives_of d.grammar.productions rules.nonterminal)) in
    let there = alternative-there 0 a (alternatives_of d.grammar.productions rules.nonterminal) (parts_of_pattern e.pattern) (sym by ∙ r.alternative) in
    let same : a ≡ there.0 = omega (arith, there.1) in
    record {
      before = r.before;
      rules = rules;
      function = r.function;
      parts = ap (slice_get (alternatives_of d.grammar.productions rules.nonterminal)) same ∙ there.2;
    }
