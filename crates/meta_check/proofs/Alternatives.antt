-- The alternative of an equation, by tables; and equations that are for one function and alternative.
use Rattle.std.proofs.Common.{◌≡◌, ◌∙◌, ℕ, Bool, true, false, ◌&&◌, List, [], ◌∷◌, ◌++◌, Option, Some, None, nat_eq, option_to_list, flat_map, refl, sym, ap, ap₂, append-nil}
use Rattle.std.specs.Prelude.{◌||◌, option_map}
use Rattle.std.specs.Borrow.{Bor}
use Rattle.std.specs.List.{list_any}
use Rattle.std.specs.Str.{bytes_eq}
use Rattle.std.proofs.lemmas.List.Folds.{list_any-append}
use Rattle.std.proofs.Math.Bool.{and-false, or-false}
use Rattle.meta_terms.specs.PlainItems.{PlainItem, PlainEquation}
use Rattle.meta_check.specs.Rules.{gives_the_same, same_number}
use Rattle.meta_check.specs.Tables.{Texts, Alternatives, AreNonterminals, AreNumbers, AreAlternatives, TellAlternatives, alternatives_at, number_behind}
use Rattle.meta_check.proofs.Keys.{then_equal}
use Rattle.meta_check.proofs.Known.{same_any}
use Rattle.meta_check.proofs.Lookups.{any_insert}
use Rattle.meta_check.proofs.NumberTable.{alternatives_placed}
use Rattle.gram_form.specs.Grammars.{names_of}
use Rattle.std.specs.BTreeMap.{is_at}
use Rattle.std.specs.BTreeSet.{insert_key}
use Rattle.std.specs.Cmp.{unsigned_tied}
use Rattle.std.specs.Cmp.Lexicographic.{slice_cmp}
use Rattle.std.specs.Ordering.{is_eq, nat_cmp, ordering_then}
use Rattle.std.specs.declared.cmp.Ordering.{Ordering}
use Rattle.std.specs.declared.cmp.Ordering.TheVariants.{Equal}
use Rattle.std.proofs.lemmas.Bool.{and_parts, eqb-true}
use Rattle.std.proofs.lemmas.Map.Text.{is_eq-slice_cmp}
use Rattle.std.proofs.lemmas.Slice.Eq.{bytes_eq-Decides}
use Rattle.meta_check.specs.Views.{productions_of, declarations_of, nonterminal_of, alternatives_of, alternative_of, parts_of_pattern, place_among}

-- the tables tell the alternative of each equation
pub alternatives_told : (items : List PlainItem) (number : List ℕ → ℕ) (functions : Texts ℕ) (alternatives : Alternatives) → AreNumbers (names_of (productions_of items)) number
    → AreNonterminals number (declarations_of items) functions → AreAlternatives (productions_of items) alternatives → TellAlternatives items functions alternatives
alternatives_told items number functions alternatives n f a e =
    ap (λ o. number_behind alternatives o (parts_of_pattern e.pattern)) (f e.function) ∙ pick (nonterminal_of (declarations_of items) e.function)
  where
    pick : (o : Option (List ℕ)) → number_behind alternatives (option_map number o) (parts_of_pattern e.pattern) ≡ place_among 0 (flat_map (alternatives_of (productions_of items)) (option_to_list o)) (parts_of_pattern e.pattern)
    pick None = refl
    pick (Some name) =
        a (number name) (parts_of_pattern e.pattern)
        ∙ ap (λ list. place_among 0 list (parts_of_pattern e.pattern))
        (ap (alternatives_at (productions_of items)) (n name) ∙ alternatives_placed (productions_of items) name ∙ sym (append-nil (alternatives_of (productions_of items) name)))

-- a function and the number of an alternative
abbrev pub Pair : Type 0
Pair = Bor (List ℕ) × ℕ

-- the pair has this function and this number
abbrev pub is_pair : List ℕ → ℕ → Pair → Bool
is_pair f n pair = bytes_eq f pair.0.now && nat_eq n pair.1

-- the equation is for that function and that alternative
abbrev pub is_for : List PlainItem → List ℕ → ℕ → PlainEquation → Bool
is_for all f n e = bytes_eq f e.function && same_number (Some n) (alternative_of all e)

-- the pairs are those of the equations
abbrev pub ArePairs : List PlainItem → List Pair → List PlainEquation → Type 0
ArePairs all pairs equations = (f : List ℕ) (n : ℕ) → list_any (is_pair f n) pairs ≡ list_any (is_for all f n) equations

-- pairs are compared by their functions, and then by their numbers
abbrev pub pair_cmp : Pair → Pair → Ordering
pair_cmp a b = ordering_then (slice_cmp nat_cmp a.0.now b.0.now) (nat_cmp a.1 b.1)

pub pairs_are : (a b : Pair) → is_eq (pair_cmp a b) ≡ is_pair a.0.now a.1 b
pairs_are a b = then_equal (slice_cmp nat_cmp a.0.now b.0.now) (nat_cmp a.1 b.1) ∙ ap₂ (λ s t. s && t) (is_eq-slice_cmp a.0.now b.0.now) (unsigned_tied a.1 b.1)

-- whether a pair is there
pub pair_found : (pairs : List Pair) (k : Pair) → list_any (is_at (pair_cmp k)) pairs ≡ list_any (is_pair k.0.now k.1) pairs
pair_found pairs k = same_any (is_at (pair_cmp k)) (is_pair k.0.now k.1) (pairs_are k) pairs

pairs_congruent : (f : List ℕ) (n : ℕ) (k q : Pair) → pair_cmp k q ≡ Equal → is_pair f n k ≡ is_pair f n q
pairs_congruent f n k q h =
    let both = and_parts (bytes_eq k.0.now q.0.now) (nat_eq k.1 q.1) (sym (pairs_are k q) ∙ ap is_eq h) in
    ap₂ (λ g m. bytes_eq f g && nat_eq n m) ((bytes_eq-Decides k.0.now q.0.now).0 both.0) (eqb-true k.1 q.1 both.1)

or_behind : (a b : Bool) → (a || b) ≡ (b || (a || false))
or_behind true true = refl
or_behind true false = refl
or_behind false true = refl
or_behind false false = refl

pub pair_more : (all : List PlainItem) (pairs new : List Pair) (equations : List PlainEquation) (e : PlainEquation) (name : Bor (List ℕ)) (m : ℕ)
    → ArePairs all pairs equations → alternative_of all e ≡ Some m → e.function ≡ name.now → new ≡ insert_key pair_cmp pairs (name, m) → ArePairs all new (equations ++ e ∷ [])
pair_more all pairs new equations e name m so_far alternative is inserted f n =
    ap (list_any (is_pair f n)) inserted
    ∙ any_insert pair_cmp (is_pair f n) (pairs_congruent f n) pairs (name, m)
    ∙ or_behind (is_pair f n (name, m)) (list_any (is_pair f n) pairs)
    ∙ ap (λ b. b || (is_pair f n (name, m) || false)) (so_far f n)
    ∙ ap (λ t. list_any (is_for all f n) equations || ((bytes_eq f t && nat_eq n m) || false)) (sym is)
    ∙ ap (λ o. list_any (is_for all f n) equations || ((bytes_eq f e.function && same_number (Some n) o) || false)) (sym alternative)
    ∙ sym (list_any-append (is_for all f n) equations (e ∷ []))

pub pair_none : (all : List PlainItem) (pairs : List Pair) (equations : List PlainEquation) (e : PlainEquation) → ArePairs all pairs equations → alternative_of all e ≡ None
    → ArePairs all pairs (equations ++ e ∷ [])
pair_none all pairs equations e so_far none f n =
    so_far f n
    ∙ sym (list_any-append (is_for all f n) equations (e ∷ [])
    ∙ ap (λ o. list_any (is_for all f n) equations || ((bytes_eq f e.function && same_number (Some n) o) || false)) none
    ∙ ap (λ b. list_any (is_for all f n) equations || (b || false)) (and-false (bytes_eq f e.function))
    ∙ or-false (list_any (is_for all f n) equations))

-- an earlier equation is for the function and the alternative of this one
pub repeats_by : (all : List PlainItem) (pairs : List Pair) (equations : List PlainEquation) (e : PlainEquation) (m : ℕ) → ArePairs all pairs equations → alternative_of all e ≡ Some m
    → list_any (gives_the_same all e) equations ≡ list_any (is_pair e.function m) pairs
repeats_by all pairs equations e m so_far alternative =
    ap (λ o. list_any (λ g. bytes_eq e.function g.function && same_number o (alternative_of all g)) equations) alternative ∙ sym (so_far e.function m)

-- none is, where it has none
pub repeats_none : (all : List PlainItem) (equations : List PlainEquation) (e : PlainEquation) → alternative_of all e ≡ None → list_any (gives_the_same all e) equations ≡ false
repeats_none all equations e none = ap (λ o. list_any (λ g. bytes_eq e.function g.function && same_number o (alternative_of all g)) equations) none ∙ go equations
  where
    go : (equations : List PlainEquation) → list_any (λ (g : PlainEquation). bytes_eq e.function g.function && same_number None (alternative_of all g)) equations ≡ false
    go [] = refl
    go (g ∷ equations) = ap (λ b. b || list_any (λ (g : PlainEquation). bytes_eq e.function g.function && same_number None (alternative_of all g)) equations) (and-false (bytes_eq e.function g.function)) ∙ go equations
