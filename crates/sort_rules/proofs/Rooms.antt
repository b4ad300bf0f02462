-- A table that is raised has less room left, so raising ends.
use Rattle.std.proofs.Common.{Bool, List, [], ap, arith, false, inl, inr, length, nat_eq, refl, subst, suc, sym, true, zero, ℕ, ◌&&◌, ◌*◌, ◌+◌, ◌<◌, ◌||◌, ◌∷◌, ◌≡◌, ◌≤◌, ◌⊎◌}
use Rattle.std.proofs.lemmas.Bool.{and_cases, or_left}
use Rattle.std.proofs.Math.Nat.{mul-le-mul_right}
use Rattle.std.proofs.lemmas.Bool.Decides.{nat_tests}
use Rattle.action_terms.specs.Information.{Token}
use Rattle.action_terms.specs.Performances.{Here, Later, OneOf}
use Rattle.sort_rules.specs.Parts.{Clash, Component, Listed, Part, Unreached, join, joined_components, same_token, with_component}
use Rattle.sort_rules.specs.Raising.{AreSmall, IsJoined, IsSmall, IsSmallSet, NoneSmall, OneSmall, SmallClash, SmallList, SmallUnreached, absent, lacks, list_room, room, row_room, set_room, table_room}
use Rattle.sort_rules.specs.Numbers.{is_listed, merged}
use Rattle.sort_rules.specs.Sets.{Set, set_union}
use Rattle.sort_rules.specs.Tables.{BindsIn, BindsOut, Contents, DataIn, DataOut, Entry, Escaped, Mark, MarkedTable, node_of}
use Rattle.sort_rules.specs.Numbers.{are_listed}
use Rattle.sort_rules.specs.Tests.{are_below, implies, is_below, is_subset}
use Rattle.sort_rules.specs.Wellformed.{AreOf, ClashOf, IsPartOf, IsSetOf, ListedOf, NoneListed, OneListed, UnreachedOf}
use Rattle.sort_rules.proofs.Choices.{eq_of_test, of_choice}
use Rattle.sort_rules.proofs.Joins.{same_token_eq, same_token_refl}
use Rattle.sort_rules.proofs.NumberLists.{is_listed_of, listed_of, merged_left, merged_right}

less_than_next : (i k : ℕ) → i < suc k → nat_eq i k ≡ false → i < k
less_than_next i k h e = grind (arith, nat_tests)

lacks-one : (b : Bool) → lacks b ≤ 1
lacks-one true = omega arith
lacks-one false = omega arith

lacks-mono : (a b : Bool) → (a ≡ true → b ≡ true) → lacks b ≤ lacks a
lacks-mono true b h = rw (h refl) (omega arith)
lacks-mono false b h = lacks-one b

absent-most : (n : ℕ) (xs : List ℕ) → absent n xs ≤ n
absent-most zero xs = omega arith
absent-most (suc k) xs = omega (arith, lacks-one (is_listed k xs), absent-most k xs)

room-most : (n : ℕ) (ps : List Component) → list_room n ps ≤ length ps * (2 + (n + n))
room-most n [] = omega arith
room-most n (p ∷ ps) = omega (arith, lacks-one p.set.integer, lacks-one p.set.truth, absent-most n p.set.cells, absent-most n p.set.abstractions, room-most n ps)

absent-mono : (n : ℕ) (xs ys : List ℕ) → ((k : ℕ) → OneOf k xs → OneOf k ys) → absent n ys ≤ absent n xs
absent-mono zero xs ys h = omega arith
absent-mono (suc k) xs ys h = omega (arith, lacks-mono (is_listed k xs) (is_listed k ys) (λ e. listed_of k ys (h k (is_listed_of k xs e))), absent-mono k xs ys h)

-- one more below n
absent-less : (n : ℕ) (xs ys : List ℕ) → ((k : ℕ) → OneOf k xs → OneOf k ys) → (i : ℕ) → i < n → OneOf i ys → is_listed i xs ≡ false → absent n ys < absent n xs
absent-less zero xs ys h i l m e = absurd (omega arith)
absent-less (suc k) xs ys h i l m e = go (nat_eq i k) refl (λ q. absent-less k xs ys h i q m e)
  where
    here : i ≡ k → absent (suc k) ys < absent (suc k) xs
    here q =
        let e1 : lacks (is_listed k xs) ≡ 1 = ap lacks (subst (λ (j : ℕ). is_listed j xs ≡ false) q e) in
        let e2 : lacks (is_listed k ys) ≡ 0 = ap lacks (listed_of k ys (subst (λ (j : ℕ). OneOf j ys) q m)) in
        omega (arith, e1, e2, absent-mono k xs ys h)

    later : i < k → absent k ys < absent k xs → absent (suc k) ys < absent (suc k) xs
    later q r = omega (arith, lacks-mono (is_listed k xs) (is_listed k ys) (λ e. listed_of k ys (h k (is_listed_of k xs e))), r)

    go : (b : Bool) → nat_eq i k ≡ b → (i < k → absent k ys < absent k xs) → absent (suc k) ys < absent (suc k) xs
    go true q f = here (eq_of_test i k q)
    go false q f = later (less_than_next i k l q) (f (less_than_next i k l q))

-- a number of the first that the second lacks
missing : (xs ys : List ℕ) → are_listed xs ys ≡ false → (k : ℕ) × OneOf k xs × (is_listed k ys ≡ false)
missing [] ys e = absurd {0} (cc)
missing (x ∷ xs) ys e = go (is_listed x ys) refl e (missing xs ys)
  where
    go : (b : Bool) → is_listed x ys ≡ b → (b && are_listed xs ys) ≡ false → (are_listed xs ys ≡ false → (k : ℕ) × OneOf k xs × (is_listed k ys ≡ false)) → (k : ℕ) × OneOf k (x ∷ xs) × (is_listed k ys ≡ false)
    go true q e f = let (k, m, r) = f e in (k, Later m, r)
    go false q e f = (x, Here, q)

-- sets
or_more : (a b : Bool) → implies b a ≡ false → lacks (a || b) < lacks a
or_more true true e = absurd {0} (cc)
or_more true false e = absurd {0} (cc)
or_more false true e = omega arith
or_more false false e = absurd {0} (cc)

numbers-mono : (n : ℕ) (xs ys : List ℕ) → absent n (merged xs ys) ≤ absent n xs
numbers-mono n xs ys = absent-mono n xs (merged xs ys) (merged_left xs ys)

numbers-less : (n : ℕ) (xs ys : List ℕ) → ((k : ℕ) → OneOf k ys → k < n) → are_listed ys xs ≡ false → absent n (merged xs ys) < absent n xs
numbers-less n xs ys f e = let (k, m, q) = missing ys xs e in absent-less n xs (merged xs ys) (merged_left xs ys) k (f k m) (merged_right xs ys k m) q

set-mono : (n : ℕ) (x y : Set) → set_room n (set_union x y) ≤ set_room n x
set-mono n x y = omega (arith, lacks-mono x.integer (x.integer || y.integer) (or_left _ _), lacks-mono x.truth (x.truth || y.truth) (or_left _ _), numbers-mono n x.cells y.cells, numbers-mono n x.abstractions y.abstractions)

set-less : (n : ℕ) (x y : Set) → IsSmallSet n y → is_subset y x ≡ false → set_room n (set_union x y) < set_room n x
set-less n x y f e = go (and_cases _ _ e)
  where
    a : lacks (x.integer || y.integer) ≤ lacks x.integer
    a = lacks-mono x.integer (x.integer || y.integer) (or_left _ _)

    b : lacks (x.truth || y.truth) ≤ lacks x.truth
    b = lacks-mono x.truth (x.truth || y.truth) (or_left _ _)

    three : (are_listed y.cells x.cells ≡ false) ⊎ (are_listed y.abstractions x.abstractions ≡ false) → set_room n (set_union x y) < set_room n x
    three (inl q) = omega (arith, a, b, numbers-less n x.cells y.cells f.cells q, numbers-mono n x.abstractions y.abstractions)
    three (inr q) = omega (arith, a, b, numbers-mono n x.cells y.cells, numbers-less n x.abstractions y.abstractions f.abstractions q)

    two : (implies y.truth x.truth ≡ false) ⊎ ((are_listed y.cells x.cells && are_listed y.abstractions x.abstractions) ≡ false) → set_room n (set_union x y) < set_room n x
    two (inl q) = omega (arith, a, or_more x.truth y.truth q, numbers-mono n x.cells y.cells, numbers-mono n x.abstractions y.abstractions)
    two (inr q) = three (and_cases _ _ q)

    go : (implies y.integer x.integer ≡ false) ⊎ ((implies y.truth x.truth && (are_listed y.cells x.cells && are_listed y.abstractions x.abstractions)) ≡ false) → set_room n (set_union x y) < set_room n x
    go (inl q) = omega (arith, b, or_more x.integer y.integer q, numbers-mono n x.cells y.cells, numbers-mono n x.abstractions y.abstractions)
    go (inr q) = two (and_cases _ _ q)

-- joined places have no more room; and less where the second isn't below
data AtMost (n r : ℕ) : Part → Type 0 where
  MostClash : AtMost n r Clash
  MostList : {zs : List Component} → list_room n zs ≤ r → AtMost n r (Listed zs)

data LessThan (n r : ℕ) : Part → Type 0 where
  LessClash : LessThan n r Clash
  LessList : {zs : List Component} → list_room n zs < r → LessThan n r (Listed zs)

with-most : (n : ℕ) (s : Component) {x : Part} {r r2 : ℕ} → AtMost n r x → set_room n s.set + r ≤ r2 → AtMost n r2 (with_component s x)
with-most n s MostClash h = MostClash
with-most n s (MostList f) h = MostList (omega arith)

with-less : (n : ℕ) (s : Component) {x : Part} {r r2 : ℕ} → LessThan n r x → set_room n s.set + r ≤ r2 → LessThan n r2 (with_component s x)
with-less n s LessClash h = LessClash
with-less n s (LessList f) h = LessList (omega arith)

most-less : (n : ℕ) (s : Component) {x : Part} {r r2 : ℕ} → AtMost n r x → set_room n s.set + r < r2 → LessThan n r2 (with_component s x)
most-less n s MostClash h = LessClash
most-less n s (MostList f) h = LessList (omega arith)

list-mono : (n : ℕ) (ps qs : List Component) → AtMost n (list_room n ps) (joined_components ps qs)
list-mono n [] [] = MostList (omega arith)
list-mono n [] (q ∷ qs) = MostClash
list-mono n (p ∷ ps) [] = MostClash
list-mono n (p ∷ ps) (q ∷ qs) = of_choice (same_token p.token q.token) _ _ (AtMost n (list_room n (p ∷ ps)))
    (λ e. with-most n (record { token = p.token; set = set_union p.set q.set }) (list-mono n ps qs) (omega (arith, set-mono n p.set q.set))) (λ e. MostClash)

list-less : (n : ℕ) (ps qs : List Component) → AreSmall n qs → are_below qs ps ≡ false → LessThan n (list_room n ps) (joined_components ps qs)
list-less n [] [] f e = absurd {0} (cc)
list-less n [] (q ∷ qs) f e = LessClash
list-less n (p ∷ ps) [] f e = LessClash
list-less n (p ∷ ps) (q ∷ qs) (OneSmall f fs) e = of_choice (same_token p.token q.token) _ _ (LessThan n (list_room n (p ∷ ps))) (λ t. same t (and_cases _ _ e) (list-less n ps qs fs)) (λ t. LessClash)
  where
    s : Component
    s = record { token = p.token; set = set_union p.set q.set }

    two : (is_subset q.set p.set ≡ false) ⊎ (are_below qs ps ≡ false) → (are_below qs ps ≡ false → LessThan n (list_room n ps) (joined_components ps qs)) → LessThan n (list_room n (p ∷ ps)) (with_component s (joined_components ps qs))
    two (inl h) r = most-less n s (list-mono n ps qs) (omega (arith, set-less n p.set q.set f h))
    two (inr h) r = with-less n s (r h) (omega (arith, set-mono n p.set q.set))

    same : same_token p.token q.token ≡ true → (same_token q.token p.token ≡ false) ⊎ ((is_subset q.set p.set && are_below qs ps) ≡ false) → (are_below qs ps ≡ false → LessThan n (list_room n ps) (joined_components ps qs)) → LessThan n (list_room n (p ∷ ps)) (with_component s (joined_components ps qs))
    same t (inl h) r =
        let eq : same_token q.token p.token ≡ true = subst (λ (u : Token). same_token q.token u ≡ true) (sym (same_token_eq p.token q.token t)) (same_token_refl q.token) in
        absurd {0} (cc)
    same t (inr h) r = two (and_cases _ _ h) r

less-room : (n : ℕ) {x : Part} {r : ℕ} → LessThan n r x → room n x < suc r
less-room n LessClash = omega arith
less-room n (LessList f) = omega arith

-- the part that grows has less room
pub join-room : (n : ℕ) (x v : Part) → IsSmall n v → is_below v x ≡ false → room n (join x v) < room n x
join-room n x Unreached f e = absurd {0} (cc)
join-room n Unreached (Listed qs) (SmallList f h) e = omega (arith, room-most n qs, mul-le-mul_right (2 + (n + n)) h)
join-room n Unreached Clash f e = omega arith
join-room n (Listed ps) (Listed qs) (SmallList f h) e = less-room n (list-less n ps qs f e)
join-room n (Listed ps) Clash f e = omega arith
join-room n Clash (Listed qs) f e = absurd {0} (cc)
join-room n Clash Clash f e = absurd {0} (cc)

module _ (n : ℕ) {t u : MarkedTable} {x : Entry} {v : Part} (joined : IsJoined t u x v) (small : IsSmall n v) (more : is_below v (t x) ≡ false) where
  at_less : room n (u x) < room n (t x)
  at_less = let r : room n (u x) ≡ room n (join (t x) v) = ap (room n) joined.at in omega (arith, r, join-room n (t x) v small more)

  entry_most : (y : Entry) → room n (u y) ≤ room n (t y)
  entry_most y = go (joined.others y)
    where
      here : room n (u x) ≤ room n (t x)
      here = omega (arith, at_less)

      go : (y ≡ x) ⊎ (u y ≡ t y) → room n (u y) ≤ room n (t y)
      go (inl q) = subst (λ (e : Entry). room n (u e) ≤ room n (t e)) (sym q) here
      go (inr q) = let r : room n (u y) ≡ room n (t y) = ap (room n) q in omega (arith, r)

  row_most : (k : ℕ) → row_room n u k ≤ row_room n t k
  row_most k = omega (arith, entry_most (DataIn k), entry_most (BindsIn k), entry_most (DataOut k), entry_most (BindsOut k), entry_most (Escaped k), entry_most (Contents k), entry_most (Mark k))

  table_most : (m : ℕ) → table_room n m u ≤ table_room n m t
  table_most zero = omega arith
  table_most (suc m) = omega (arith, row_most m, table_most m)

-- the row whose entry grew has less room
row_less : (n : ℕ) {t u : MarkedTable} {v : Part} (x : Entry) → IsJoined t u x v → IsSmall n v → is_below v (t x) ≡ false → row_room n u (node_of x) < row_room n t (node_of x)
row_less n (DataIn k) j s m = omega (arith, at_less n j s m, entry_most n j s m (BindsIn k), entry_most n j s m (DataOut k), entry_most n j s m (BindsOut k), entry_most n j s m (Escaped k), entry_most n j s m (Contents k), entry_most n j s m (Mark k))
row_less n (BindsIn k) j s m = omega (arith, at_less n j s m, entry_most n j s m (DataIn k), entry_most n j s m (DataOut k), entry_most n j s m (BindsOut k), entry_most n j s m (Escaped k), entry_most n j s m (Contents k), entry_most n j s m (Mark k))
row_less n (DataOut k) j s m = omega (arith, at_less n j s m, entry_most n j s m (DataIn k), entry_most n j s m (BindsIn k), entry_most n j s m (BindsOut k), entry_most n j s m (Escaped k), entry_most n j s m (Contents k), entry_most n j s m (Mark k))
row_less n (BindsOut k) j s m = omega (arith, at_less n j s m, entry_most n j s m (DataIn k), entry_most n j s m (BindsIn k), entry_most n j s m (DataOut k), entry_most n j s m (Escaped k), entry_most n j s m (Contents k), entry_most n j s m (Mark k))
row_less n (Escaped k) j s m = omega (arith, at_less n j s m, entry_most n j s m (DataIn k), entry_most n j s m (BindsIn k), entry_most n j s m (DataOut k), entry_most n j s m (BindsOut k), entry_most n j s m (Contents k), entry_most n j s m (Mark k))
row_less n (Contents k) j s m = omega (arith, at_less n j s m, entry_most n j s m (DataIn k), entry_most n j s m (BindsIn k), entry_most n j s m (DataOut k), entry_most n j s m (BindsOut k), entry_most n j s m (Escaped k), entry_most n j s m (Mark k))
row_less n (Mark k) j s m = omega (arith, at_less n j s m, entry_most n j s m (DataIn k), entry_most n j s m (BindsIn k), entry_most n j s m (DataOut k), entry_most n j s m (BindsOut k), entry_most n j s m (Escaped k), entry_most n j s m (Contents k))

-- and so has the table
pub table_less : (n : ℕ) {t u : MarkedTable} {v : Part} (x : Entry) → IsJoined t u x v → IsSmall n v → is_below v (t x) ≡ false → (m : ℕ) → node_of x < m → table_room n m u < table_room n m t
table_less n x j s r zero h = absurd (omega arith)
table_less n {t} {u} x j s r (suc m) h = go (nat_eq (node_of x) m) refl (table_less n x j s r m)
  where
    go : (b : Bool) → nat_eq (node_of x) m ≡ b → (node_of x < m → table_room n m u < table_room n m t) → table_room n (suc m) u < table_room n (suc m) t
    go true e f =
        let here = subst (λ (k : ℕ). row_room n u k < row_room n t k) (eq_of_test (node_of x) m e) (row_less n x j s r) in
        omega (arith, here, table_most n j s r m)
    go false e f = omega (arith, row_most n j s r m, f (less_than_next (node_of x) m h e))

-- what is well-formed over numbers below n is small
small_set : {cs bs : List ℕ} {n : ℕ} {s : Set} → ((c : ℕ) → OneOf c cs → c < n) → ((c : ℕ) → OneOf c bs → c < n) → IsSetOf cs bs s → IsSmallSet n s
small_set f g h = record { cells = λ k m. f k (h.cells_of k m); abstractions = λ k m. g k (h.abstractions_of k m) }

small_list : {cs bs : List ℕ} {n : ℕ} {ps : List Component} → ((c : ℕ) → OneOf c cs → c < n) → ((c : ℕ) → OneOf c bs → c < n) → AreOf cs bs ps → AreSmall n ps
small_list f g NoneListed = NoneSmall
small_list f g (OneListed h e hs) = OneSmall (small_set f g h) (small_list f g hs)

pub small_part : {cs bs : List ℕ} {n : ℕ} {v : Part} → ((c : ℕ) → OneOf c cs → c < n) → ((c : ℕ) → OneOf c bs → c < n) → IsPartOf cs bs v → IsSmall n v
small_part f g UnreachedOf = SmallUnreached
small_part f g (ListedOf h l) = SmallList (small_list f g h) l
small_part f g ClashOf = SmallClash
