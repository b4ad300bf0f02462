-- The nodes of an action in lists: all of them, and those that pass a test.
use Rattle.std.proofs.Common.{◌≡◌, ◌⊎◌, ℕ, zero, suc, ◌+◌, ◌<◌, ◌≤◌, Bool, true, false, List, [], ◌∷◌, ◌++◌, length, refl, sym, ap, subst, ◌∙◌, arith, inl, inr, cond, add-one}
use Rattle.std.specs.Prelude.{filter}
use Rattle.std.specs.List.{range_with_len}
use Rattle.std.proofs.lemmas.Bool.Decides.{eqb_tells}
use Rattle.std.proofs.lemmas.List.{append-nil}
use Rattle.action_terms.specs.Actions.{Action}
use Rattle.action_terms.specs.Performances.{OneOf, Here, Later}
use Rattle.sort_rules.specs.Measures.{node_numbers, numbers_before}
use Rattle.sort_rules.proofs.Choices.{either, member_cases}
use Rattle.frame_layout.proofs.Grouping.{range-more}

numbers-range : (n : ℕ) (ks : List ℕ) → numbers_before n ks ≡ range_with_len 0 n ++ ks
numbers-range zero ks = refl
numbers-range (suc n) ks =
    numbers-range n (n ∷ ks) ∙ joined (range_with_len 0 n) ks ∙ ap (λ (js : List ℕ). js ++ ks) (sym (range-more 0 n) ∙ ap (range_with_len 0) (add-one n))
  where
    joined : (xs ks : List ℕ) → xs ++ n ∷ ks ≡ (xs ++ (0 + n) ∷ []) ++ ks
    joined [] ks = let first : 0 + n ≡ n = omega arith in ap (λ (k : ℕ). k ∷ ks) (sym first)
    joined (x ∷ xs) ks = ap (λ (ys : List ℕ). x ∷ ys) (joined xs ks)

pub node_numbers-range : (a : Action) → node_numbers a ≡ range_with_len 0 (length a)
node_numbers-range a = numbers-range (length a) [] ∙ append-nil (range_with_len 0 (length a))

first : (x y : ℕ) (xs : List ℕ) → x ≡ y → OneOf x (y ∷ xs)
first x y xs same = subst (λ (z : ℕ). OneOf x (z ∷ xs)) same Here

-- a member of a filtered list passes the test
pub filter-member : (p : ℕ → Bool) (xs : List ℕ) (x : ℕ) → OneOf x (filter p xs) → OneOf x xs × (p x ≡ true)
filter-member p [] x m = elim m [ ]
filter-member p (y ∷ xs) x m = go (p y) refl m (filter-member p xs x)
  where
    go : (b : Bool) → p y ≡ b → OneOf x (cond b (y ∷ filter p xs) (filter p xs)) → (OneOf x (filter p xs) → OneOf x xs × (p x ≡ true)) → OneOf x (y ∷ xs) × (p x ≡ true)
    go true e m later = either (λ same. (first x y xs same, ap p same ∙ e)) (λ m. let r = later m in (Later r.0, r.1)) (member_cases m)
    go false e m later = let r = later m in (Later r.0, r.1)

pub member-filter : (p : ℕ → Bool) (xs : List ℕ) (x : ℕ) → OneOf x xs → p x ≡ true → OneOf x (filter p xs)
member-filter p [] x m e = elim m [ ]
member-filter p (y ∷ xs) x m e = go (p y) refl (λ m. member-filter p xs x m e) (member_cases m)
  where
    go : (b : Bool) → p y ≡ b → (OneOf x xs → OneOf x (filter p xs)) → (x ≡ y) ⊎ OneOf x xs → OneOf x (cond b (y ∷ filter p xs) (filter p xs))
    go true q later (inl same) = first x y (filter p xs) same
    go true q later (inr m) = Later (later m)
    go false q later (inl same) = absurd {0} (let passes = ap p same in cc)
    go false q later (inr m) = later m

-- tests that agree on the members
pub filter-same : (p q : ℕ → Bool) (xs : List ℕ) → ((x : ℕ) → OneOf x xs → p x ≡ q x) → filter p xs ≡ filter q xs
filter-same p q [] same = refl
filter-same p q (x ∷ xs) same =
    ap (λ (b : Bool). cond b (x ∷ filter p xs) (filter p xs)) (same x Here)
    ∙ ap (λ (ys : List ℕ). cond (q x) (x ∷ ys) ys) (filter-same p q xs (λ y m. same y (Later m)))

pub length-filter_most : (p : ℕ → Bool) (xs : List ℕ) → length (filter p xs) ≤ length xs
length-filter_most p [] = omega arith
length-filter_most p (x ∷ xs) = go (p x) (length-filter_most p xs)
  where
    go : (b : Bool) → length (filter p xs) ≤ length xs → length (cond b (x ∷ filter p xs) (filter p xs)) ≤ suc (length xs)
    go true h = omega (arith, h)
    go false h = omega (arith, h)

-- a number below another is one of the first
pub member-range : (a n k : ℕ) → a ≤ k → k < a + n → OneOf k (range_with_len a n)
member-range a zero k low high = absurd (omega arith)
member-range a (suc n) k low high = elim (eqb_tells k a) [
  | inl same ↦ first k a (range_with_len (a + 1) n) same.1
  | inr other ↦ (let ne = other.1 in Later (member-range (a + 1) n k (omega arith) (omega arith)))
]
