-- What a table has for a key, after one more entry.
use Rattle.std.proofs.Common.{◌≡◌, ◌∙◌, ℕ, Bool, true, false, List, [], ◌∷◌, Option, Some, None, is_some, refl, sym, ap}
use Rattle.std.specs.Prelude.{◌||◌, if◌then◌else◌}
use Rattle.std.specs.Borrow.{Bor}
use Rattle.std.specs.BTreeMap.{insert_entry, is_at}
use Rattle.std.specs.BTreeSet.{insert_key}
use Rattle.std.specs.Cmp.Lexicographic.{slice_cmp}
use Rattle.std.specs.List.{list_any}
use Rattle.std.specs.Map.{lookup}
use Rattle.std.specs.Ordering.{is_eq, match_ordering, nat_cmp}
use Rattle.std.specs.Str.{bytes_eq}
use Rattle.std.specs.declared.cmp.Ordering.{Ordering}
use Rattle.std.specs.declared.cmp.Ordering.TheVariants.{Less, Equal, Greater}
use Rattle.std.proofs.lemmas.Map.Text.{is_eq-slice_cmp}
use Rattle.std.proofs.lemmas.Slice.Eq.{bytes_eq-Decides}
use Rattle.gram_form.proofs.OrderedTexts.{text_cmp}

-- the test tells keys as the comparison does
pub record Agrees {K : Type 0} (cmp : K → K → Ordering) (test : K → Bool) : Type 0 where
  pub congruent : (k q : K) → cmp k q ≡ Equal → test k ≡ test q
  pub apart : (k q : K) → test k ≡ true → test q ≡ true → cmp k q ≡ Equal

pub lookup_same : {K V : Type 0} (p q : K → Bool) → ((a : K) → p a ≡ q a) → (entries : List (K × V)) → lookup p entries ≡ lookup q entries
lookup_same p q h [] = refl
lookup_same p q h (e ∷ entries) = ap (λ b. if b then Some e.1 else lookup p entries) (h e.0) ∙ ap (λ o. if q e.0 then Some e.1 else o) (lookup_same p q h entries)

pub lookup_insert : {K V : Type 0} (cmp : K → K → Ordering) (test : K → Bool) → Agrees cmp test → (entries : List (K × V)) (k : K) (v : V)
    → lookup test (insert_entry cmp entries k v) ≡ (if test k then Some v else lookup test entries)
lookup_insert cmp test a [] k v = refl
lookup_insert {K} {V} cmp test a (e ∷ entries) k v = pick (cmp k e.0) refl (lookup_insert cmp test a entries k v)
  where
    same : (b : Bool) → (if b then Some v else lookup test entries) ≡ (if b then Some v else (if b then Some e.1 else lookup test entries))
    same true = refl
    same false = refl

    other : (b c : Bool) → (b ≡ true → c ≡ true → ⊥) → (if c then Some e.1 else (if b then Some v else lookup test entries)) ≡ (if b then Some v else (if c then Some e.1 else lookup test entries))
    other true true h = absurd (h refl refl)
    other true false h = refl
    other false true h = refl
    other false false h = refl

    distinct : Greater ≡ Equal → ⊥
    distinct h = let wrong : false ≡ true = ap is_eq h in absurd (cc)

    pick : (o : Ordering) → cmp k e.0 ≡ o → lookup test (insert_entry cmp entries k v) ≡ (if test k then Some v else lookup test entries)
        → lookup test (match_ordering o ((k, v) ∷ e ∷ entries) ((e.0, v) ∷ entries) (e ∷ insert_entry cmp entries k v)) ≡ (if test k then Some v else lookup test (e ∷ entries))
    pick Less h rest = refl
    pick Equal h rest =
        let t : test e.0 ≡ test k = sym (a.congruent k e.0 h) in
        ap (λ b. if b then Some v else lookup test entries) t ∙ same (test k) ∙ ap (λ b. if test k then Some v else (if b then Some e.1 else lookup test entries)) (sym t)
    pick Greater h rest =
        ap (λ o. if test e.0 then Some e.1 else o) rest
        ∙ other (test k) (test e.0) (λ t u. distinct (sym h ∙ a.apart k e.0 t u))

or_twice : (a b c : Bool) → a ≡ b → (b || c) ≡ (a || (b || c))
or_twice true b c e = ap (λ x. x || c) (sym e)
or_twice false b c e = refl

or_between : (a b c : Bool) → (b || (a || c)) ≡ (a || (b || c))
or_between true true c = refl
or_between true false c = refl
or_between false b c = refl

-- the same of a set
pub any_insert : {K : Type 0} (cmp : K → K → Ordering) (test : K → Bool) → ((k q : K) → cmp k q ≡ Equal → test k ≡ test q) → (keys : List K) (k : K)
    → list_any test (insert_key cmp keys k) ≡ (test k || list_any test keys)
any_insert cmp test a [] k = refl
any_insert cmp test a (x ∷ keys) k = pick (cmp k x) refl (any_insert cmp test a keys k)
  where
    pick : (o : Ordering) → cmp k x ≡ o → list_any test (insert_key cmp keys k) ≡ (test k || list_any test keys)
        → list_any test (match_ordering o (k ∷ x ∷ keys) (x ∷ keys) (x ∷ insert_key cmp keys k)) ≡ (test k || (test x || list_any test keys))
    pick Less h rest = refl
    pick Equal h rest = or_twice (test k) (test x) (list_any test keys) (a k x h)
    pick Greater h rest = ap (λ b. test x || b) rest ∙ or_between (test k) (test x) (list_any test keys)

-- what compares as equal
pub is_equal : (o : Ordering) → is_eq o ≡ true → o ≡ Equal
is_equal Equal h = refl
is_equal Less h = absurd (cc)
is_equal Greater h = absurd (cc)

-- texts as keys
pub texts_agree : (name : List ℕ) → Agrees text_cmp (λ k. bytes_eq name k.now)
texts_agree name = record {
  congruent = λ k q h. ap (bytes_eq name) ((bytes_eq-Decides k.now q.now).0 (sym (is_eq-slice_cmp k.now q.now) ∙ ap is_eq h));
  apart = λ k q t u. is_equal (text_cmp k q)
      (is_eq-slice_cmp k.now q.now ∙ (bytes_eq-Decides k.now q.now).1 (sym ((bytes_eq-Decides name k.now).0 t) ∙ (bytes_eq-Decides name q.now).0 u));
}

-- a look-up by a text
pub text_found : {V : Type 0} (name : List ℕ) (entries : List (Bor (List ℕ) × V))
    → lookup (is_at (λ (k : Bor (List ℕ)). slice_cmp nat_cmp name k.now)) entries ≡ lookup (λ (q : Bor (List ℕ)). bytes_eq name q.now) entries
text_found name entries = lookup_same (is_at (λ (k : Bor (List ℕ)). slice_cmp nat_cmp name k.now)) (λ (q : Bor (List ℕ)). bytes_eq name q.now) (λ k. is_eq-slice_cmp name k.now) entries

-- a list of names with values, and one pair more behind it
abbrev pub else_at : {A : Type 0} → Option A → Bool → A → Option A
else_at None b x = if b then Some x else None
else_at (Some y) b x = Some y

-- a text that is new
pub text_new : {V : Type 0} (entries : List (Bor (List ℕ) × V)) (k : Bor (List ℕ)) (v : V) (name : List ℕ) → false ≡ is_some (lookup (is_at (text_cmp k)) entries)
    → lookup (λ (q : Bor (List ℕ)). bytes_eq name q.now) (insert_entry text_cmp entries k v) ≡ else_at (lookup (λ (q : Bor (List ℕ)). bytes_eq name q.now) entries) (bytes_eq name k.now) v
text_new {V} entries k v name new =
    lookup_insert text_cmp (λ q. bytes_eq name q.now) (texts_agree name) entries k v ∙ pick (bytes_eq name k.now) refl (lookup (λ (q : Bor (List ℕ)). bytes_eq name q.now) entries) refl
  where
    pick : (b : Bool) → bytes_eq name k.now ≡ b → (o : Option V) → lookup (λ (q : Bor (List ℕ)). bytes_eq name q.now) entries ≡ o → (if b then Some v else o) ≡ else_at o b v
    pick false e None f = refl
    pick false e (Some x) f = refl
    pick true e None f = refl
    pick true e (Some x) f =
        let there : false ≡ is_some (lookup (λ (q : Bor (List ℕ)). bytes_eq name q.now) entries) =
        new ∙ ap is_some (text_found k.now entries) ∙ ap (λ n. is_some (lookup (λ (q : Bor (List ℕ)). bytes_eq n q.now) entries)) (sym ((bytes_eq-Decides name k.now).0 e)) in
        let wrong : false ≡ true = there ∙ ap is_some f in absurd (cc)

-- a text that is there
pub text_known : {V : Type 0} (entries : List (Bor (List ℕ) × V)) (k : Bor (List ℕ)) (v : V) (name : List ℕ) → true ≡ is_some (lookup (is_at (text_cmp k)) entries)
    → lookup (λ (q : Bor (List ℕ)). bytes_eq name q.now) entries ≡ else_at (lookup (λ (q : Bor (List ℕ)). bytes_eq name q.now) entries) (bytes_eq name k.now) v
text_known {V} entries k v name known = pick (bytes_eq name k.now) refl (lookup (λ (q : Bor (List ℕ)). bytes_eq name q.now) entries) refl
  where
    pick : (b : Bool) → bytes_eq name k.now ≡ b → (o : Option V) → lookup (λ (q : Bor (List ℕ)). bytes_eq name q.now) entries ≡ o → o ≡ else_at o b v
    pick b e (Some x) f = refl
    pick false e None f = refl
    pick true e None f =
        let there : true ≡ is_some (lookup (λ (q : Bor (List ℕ)). bytes_eq name q.now) entries) =
        known ∙ ap is_some (text_found k.now entries) ∙ ap (λ n. is_some (lookup (λ (q : Bor (List ℕ)). bytes_eq n q.now) entries)) (sym ((bytes_eq-Decides name k.now).0 e)) in
        let wrong : true ≡ false = there ∙ ap is_some f in absurd (cc)
