-- The table of equations, filled equation by equation.
use Rattle.std.proofs.Common.{◌≡◌, ◌∙◌, ℕ, zero, suc, ◌+◌, ◌<◌, Bool, true, false, List, [], ◌∷◌, ◌++◌, length, take, get_or, map, nat_eq, Option, Some, None, is_some, refl, sym, ap, ap₂, arith}
use Rattle.std.specs.Prelude.{◌&&◌, if◌then◌else◌, option_map}
use Rattle.std.specs.BTreeMap.{insert_entry, is_at}
use Rattle.std.specs.Map.{lookup}
use Rattle.std.specs.Str.{bytes_eq}
use Rattle.std.specs.Ordering.{is_eq}
use Rattle.std.proofs.lemmas.Bool.{and_from, and_parts, eqb-true, eq-eqb}
use Rattle.std.proofs.lemmas.Slice.Eq.{bytes_eq-Decides}
use Rattle.std.proofs.Math.Bool.{and-false}
use Rattle.meta_terms.specs.PlainItems.{PlainEquation, plain_equation}
use Rattle.meta_terms.specs.declared.items.Equation.{Equation}
use Rattle.meta_check.specs.Checked.{PlainDescription, items_of}
use Rattle.meta_check.specs.Rules.{same_number}
use Rattle.meta_check.specs.Views.{alternative_of}
use Rattle.meta_check.proofs.Alternatives.{pair_cmp, pairs_are}
use Rattle.meta_check.proofs.Lookups.{Agrees, else_at, is_equal, lookup_insert, lookup_same}
use Rattle.meta_check.proofs.Mapped.{take_mapped}
use Rattle.equation_expand.specs.Meaning.{equation_among, is_equation_for}
use Rattle.equation_expand.specs.Sources.{Key, is_key}

abbrev pub Table : Type 0
Table = List (Key × Equation)

key-parts : (f : List ℕ) (a : ℕ) (k : Key) → is_key f a k ≡ true → (f ≡ k.0.now) × (a ≡ k.1)
key-parts f a k h =
    let both = and_parts (bytes_eq f k.0.now) (nat_eq a k.1) h in
    ((bytes_eq-Decides f k.0.now).0 both.0, eqb-true a k.1 both.1)

keys-agree : (f : List ℕ) (a : ℕ) → Agrees pair_cmp (is_key f a)
keys-agree f a = record {
  congruent = λ k q h. let e = key-parts k.0.now k.1 q (sym (pairs_are k q) ∙ ap is_eq h) in
      ap₂ (λ g m. bytes_eq f g && nat_eq a m) e.0 e.1;
  apart = λ k q t u. let e = key-parts f a k t in let g = key-parts f a q u in
      is_equal (pair_cmp k q) (pairs_are k q
      ∙ and_from (bytes_eq k.0.now q.0.now) (nat_eq k.1 q.1) ((bytes_eq-Decides k.0.now q.0.now).1 (sym e.0 ∙ g.0)) (eq-eqb k.1 q.1 (sym e.1 ∙ g.1)));
}

-- a look-up by a key
pub key-found : (entries : Table) (k : Key) → lookup (is_at (pair_cmp k)) entries ≡ lookup (is_key k.0.now k.1) entries
key-found entries k = lookup_same (is_at (pair_cmp k)) (is_key k.0.now k.1) (pairs_are k) entries

-- a key that is new
pub key-new : (entries : Table) (k : Key) (e : Equation) (f : List ℕ) (a : ℕ) → false ≡ is_some (lookup (is_at (pair_cmp k)) entries)
    → lookup (is_key f a) (insert_entry pair_cmp entries k e) ≡ else_at (lookup (is_key f a) entries) (is_key f a k) e
key-new entries k e f a new =
    lookup_insert pair_cmp (is_key f a) (keys-agree f a) entries k e ∙ pick (is_key f a k) refl (lookup (is_key f a) entries) refl
  where
    pick : (b : Bool) → is_key f a k ≡ b → (o : Option Equation) → lookup (is_key f a) entries ≡ o → (if b then Some e else o) ≡ else_at o b e
    pick false h None g = refl
    pick false h (Some x) g = refl
    pick true h None g = refl
    pick true h (Some x) g =
        let s = key-parts f a k h in
        let wrong : false ≡ true = new ∙ ap is_some (key-found entries k) ∙ ap₂ (λ j n. is_some (lookup (is_key j n) entries)) (sym s.0) (sym s.1) ∙ ap is_some g in absurd (cc)

-- a key that is there
pub key-known : (entries : Table) (k : Key) (e : Equation) (f : List ℕ) (a : ℕ) → true ≡ is_some (lookup (is_at (pair_cmp k)) entries)
    → lookup (is_key f a) entries ≡ else_at (lookup (is_key f a) entries) (is_key f a k) e
key-known entries k e f a known = pick (is_key f a k) refl (lookup (is_key f a) entries) refl
  where
    pick : (b : Bool) → is_key f a k ≡ b → (o : Option Equation) → lookup (is_key f a) entries ≡ o → o ≡ else_at o b e
    pick b h (Some x) g = refl
    pick false h None g = refl
    pick true h None g =
        let s = key-parts f a k h in
        let wrong : true ≡ false = known ∙ ap is_some (key-found entries k) ∙ ap₂ (λ j n. is_some (lookup (is_key j n) entries)) (sym s.0) (sym s.1) ∙ ap is_some g in absurd (cc)

map-else : {A B : Type 0} (f : A → B) (o : Option A) (b : Bool) (x : A) → option_map f (else_at o b x) ≡ else_at (option_map f o) b (f x)
map-else f None true x = refl
map-else f None false x = refl
map-else f (Some y) b x = refl

equation-next : (d : PlainDescription) (es : List PlainEquation) (e : PlainEquation) (f : List ℕ) (a : ℕ) → equation_among d (es ++ e ∷ []) f a ≡ else_at (equation_among d es f a) (is_equation_for d f a e) e
equation-next d [] e f a = refl
equation-next d (q ∷ es) e f a = pick (is_equation_for d f a q) (equation-next d es e f a)
  where
    pick : (b : Bool) → equation_among d (es ++ e ∷ []) f a ≡ else_at (equation_among d es f a) (is_equation_for d f a e) e
        → (if b then Some q else equation_among d (es ++ e ∷ []) f a) ≡ else_at (if b then Some q else equation_among d es f a) (is_equation_for d f a e) e
    pick true rest = refl
    pick false rest = rest

-- the table has the equations so far
abbrev pub TellSoFar : PlainDescription → List Equation → ℕ → Table → Type 0
TellSoFar d list i entries = (f : List ℕ) (a : ℕ) → option_map plain_equation (lookup (is_key f a) entries) ≡ equation_among d (take i (map plain_equation list)) f a

same-way : (m n : ℕ) → nat_eq m n ≡ nat_eq n m
same-way m n = pick (nat_eq m n) refl (nat_eq n m) refl
  where
    pick : (b : Bool) → nat_eq m n ≡ b → (c : Bool) → nat_eq n m ≡ c → b ≡ c
    pick true e true g = refl
    pick false e false g = refl
    pick true e false g = sym (eq-eqb n m (sym (eqb-true m n e))) ∙ g
    pick false e true g = sym e ∙ eq-eqb m n (sym (eqb-true n m g))

-- an equation for an alternative
pub equation-noted : (d : PlainDescription) (list : List Equation) (i : ℕ) (own : Equation) (old new : Table) (a : ℕ) → i < length list → own ≡ get_or list i own → alternative_of (items_of d) (plain_equation own) ≡ Some a
    → TellSoFar d list i old → ((f : List ℕ) (b : ℕ) → lookup (is_key f b) new ≡ else_at (lookup (is_key f b) old) (is_key f b (own.function, a)) own) → TellSoFar d list (i + 1) new
equation-noted d list i own old new a h there is before step f b =
    let so-far = take i (map plain_equation list) in
    let fits : is_key f b (own.function, a) ≡ is_equation_for d f b (plain_equation own) =
    ap (λ t. bytes_eq f own.function.now && t) (same-way b a) ∙ ap (λ o. bytes_eq f own.function.now && same_number o (Some b)) (sym is) in
    ap (option_map plain_equation) (step f b)
    ∙ map-else plain_equation (lookup (is_key f b) old) (is_key f b (own.function, a)) own
    ∙ ap₂ (λ o t. else_at o t (plain_equation own)) (before f b) fits
    ∙ sym (equation-next d so-far (plain_equation own) f b)
    ∙ ap (λ (e : Equation). equation_among d (so-far ++ plain_equation e ∷ []) f b) there
    ∙ ap (λ es. equation_among d es f b) (sym (take_mapped plain_equation list i own h))

-- an equation for none
pub equation-passed : (d : PlainDescription) (list : List Equation) (i : ℕ) (own : Equation) (old : Table) → i < length list → own ≡ get_or list i own → alternative_of (items_of d) (plain_equation own) ≡ None
    → TellSoFar d list i old → TellSoFar d list (i + 1) old
equation-passed d list i own old h there is before f b =
    let so-far = take i (map plain_equation list) in
    let none : is_equation_for d f b (plain_equation own) ≡ false = ap (λ o. bytes_eq f own.function.now && same_number o (Some b)) is ∙ and-false (bytes_eq f own.function.now) in
    before f b
    ∙ unchanged (equation_among d so-far f b)
    ∙ ap (λ t. else_at (equation_among d so-far f b) t (plain_equation own)) (sym none)
    ∙ sym (equation-next d so-far (plain_equation own) f b)
    ∙ ap (λ (e : Equation). equation_among d (so-far ++ plain_equation e ∷ []) f b) there
    ∙ ap (λ es. equation_among d es f b) (sym (take_mapped plain_equation list i own h))
  where
    unchanged : (o : Option PlainEquation) → o ≡ else_at o false (plain_equation own)
    unchanged None = refl
    unchanged (Some e) = refl

-- the alternative of an equation, in a list of them
alternative-at : (d : PlainDescription) (list : List Equation) (i : ℕ) (x : Equation) (y : Option ℕ) → i < length list → get_or (map (alternative_of (items_of d)) (map plain_equation list)) i y ≡ alternative_of (items_of d) (plain_equation (get_or list i x))
alternative-at d [] i x y h = absurd (omega arith)
alternative-at d (e ∷ list) zero x y h = refl
alternative-at d (e ∷ list) (suc i) x y h = alternative-at d list i x y (omega arith)

pub alternative-is : (d : PlainDescription) (list : List Equation) (alternatives : List (Option ℕ)) (i : ℕ) (own : Equation) (y o : Option ℕ) → i < length list → own ≡ get_or list i own → d.equations ≡ map plain_equation list
    → alternatives ≡ map (alternative_of (items_of d)) d.equations → get_or alternatives i y ≡ o → alternative_of (items_of d) (plain_equation own) ≡ o
alternative-is d list alternatives i own y o h there same numbers e =
    ap (λ (z : Equation). alternative_of (items_of d) (plain_equation z)) there ∙ sym (alternative-at d list i own y h)
    ∙ ap (λ es. get_or (map (alternative_of (items_of d)) es) i y) (sym same) ∙ ap (λ l. get_or l i y) (sym numbers) ∙ e
