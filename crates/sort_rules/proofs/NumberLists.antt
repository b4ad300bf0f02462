-- The numbers of merged lists.
use Rattle.std.proofs.Common.{Bool, List, [], ap, arith, false, get_or, inl, inr, length, nat_eq, nat_lt, refl, replicate, set, subst, sym, true, ℕ, ◌<◌, ◌||◌, ◌++◌, ◌∙◌, ◌∷◌, ◌≡◌, ◌⊎◌}
use Rattle.std.proofs.Math.Bool.{or_assoc}
use Rattle.std.proofs.lemmas.Bool.{cases_lt, or_right}
use Rattle.std.proofs.lemmas.Bool.Decides.{nat_tests}
use Rattle.std.proofs.lemmas.List.{get_or-replicate, get_or-set_other, get_or-set_same, get_or_past, length-replicate}
use Rattle.action_terms.specs.Performances.{Here, Later, OneOf}
use Rattle.sort_rules.specs.Numbers.{AreFlagged, inserted, is_listed, merged}
use Rattle.sort_rules.proofs.Choices.{either, either_each, eq_of_test, member_cases, of_choice}

pub neither_less : (n m : ℕ) → nat_lt n m ≡ false → nat_lt m n ≡ false → m ≡ n
neither_less n m e f = grind (arith, nat_tests)

pub inserted_here : (n : ℕ) (ms : List ℕ) → OneOf n (inserted n ms)
inserted_here n [] = Here
inserted_here n (m ∷ ms) = of_choice (nat_lt n m) _ _ (OneOf n) (λ e. Here) (λ e. of_choice (nat_lt m n) _ _ (OneOf n) (λ f. Later (inserted_here n ms)) (λ f. subst (λ (x : ℕ). OneOf n (x ∷ ms)) (sym (neither_less n m e f)) Here))

pub one_under : {k m : ℕ} {xs ys : List ℕ} → (OneOf k xs → OneOf k ys) → OneOf k (m ∷ xs) → OneOf k (m ∷ ys)
one_under f Here = Here
one_under f (Later h) = Later (f h)

pub inserted_there : (n k : ℕ) (ms : List ℕ) → OneOf k ms → OneOf k (inserted n ms)
inserted_there n k [] h = Later h
inserted_there n k (m ∷ ms) h = of_choice (nat_lt n m) _ _ (OneOf k) (λ e. Later h) (λ e. of_choice (nat_lt m n) _ _ (OneOf k) (λ f. one_under (inserted_there n k ms) h) (λ f. h))

pub inserted_from : (n k : ℕ) (ms : List ℕ) → OneOf k (inserted n ms) → (k ≡ n) ⊎ OneOf k ms
inserted_from n k [] h = member_cases h
inserted_from n k (m ∷ ms) h = of_choice (nat_lt n m) _ _ (λ l. OneOf k l → (k ≡ n) ⊎ OneOf k (m ∷ ms)) (λ e h. member_cases h)
    (λ e h. of_choice (nat_lt m n) _ _ (λ l. OneOf k l → (k ≡ n) ⊎ OneOf k (m ∷ ms)) (λ f h. either (λ q. inr (subst (λ (x : ℕ). OneOf k (x ∷ ms)) q Here)) (λ h. either_each (λ q. q) Later (inserted_from n k ms h)) (member_cases h)) (λ f h. inr h) h) h

pub merged_right : (xs ys : List ℕ) (k : ℕ) → OneOf k ys → OneOf k (merged xs ys)
merged_right [] ys k h = h
merged_right (x ∷ xs) ys k h = merged_right xs (inserted x ys) k (inserted_there x k ys h)

pub merged_left : (xs ys : List ℕ) (k : ℕ) → OneOf k xs → OneOf k (merged xs ys)
merged_left (x ∷ xs) ys k h = either (λ q. merged_right xs (inserted x ys) k (subst (λ (i : ℕ). OneOf i (inserted x ys)) (sym q) (inserted_here x ys))) (λ h. merged_left xs (inserted x ys) k h) (member_cases h)
merged_left [] ys k h = elim h [ ]

pub merged_from : (xs ys : List ℕ) (k : ℕ) → OneOf k (merged xs ys) → OneOf k xs ⊎ OneOf k ys
merged_from [] ys k h = inr h
merged_from (x ∷ xs) ys k h = either (λ h. inl (Later h)) (λ h. either_each (λ q. subst (λ (i : ℕ). OneOf i (x ∷ xs)) (sym q) Here) (λ h. h) (inserted_from x k ys h)) (merged_from xs (inserted x ys) k h)

pub is_listed_of : (k : ℕ) (xs : List ℕ) → is_listed k xs ≡ true → OneOf k xs
is_listed_of k [] e = absurd {0} (cc)
is_listed_of k (x ∷ xs) e = go (nat_eq k x) refl e (is_listed_of k xs)
  where
    go : (b : Bool) → nat_eq k x ≡ b → (b || is_listed k xs) ≡ true → (is_listed k xs ≡ true → OneOf k xs) → OneOf k (x ∷ xs)
    go true f e h = rw (eq_of_test k x f) Here
    go false f e h = Later (h e)

pub listed_of : (k : ℕ) (xs : List ℕ) → OneOf k xs → is_listed k xs ≡ true
listed_of k _ (Here {xs}) = grind (arith, nat_tests)
listed_of k _ (Later {y} {xs} h) = or_right (nat_eq k y) (is_listed k xs) (listed_of k xs h)

-- one number more
pub listed_behind : (k n : ℕ) (xs : List ℕ) → is_listed k (xs ++ n ∷ []) ≡ (is_listed k xs || nat_eq k n)
listed_behind k n [] = grind (arith, nat_tests)
listed_behind k n (x ∷ xs) = ap (λ (b : Bool). nat_eq k x || b) (listed_behind k n xs) ∙ sym (or_assoc (nat_eq k x) (is_listed k xs) (nat_eq k n))

-- ---- flags of numbers

false_right : (b : Bool) → (b || false) ≡ b
false_right true = refl
false_right false = refl

true_right : (b : Bool) → (b || true) ≡ true
true_right true = refl
true_right false = refl

-- none is in the list
pub flagged_none : (count : ℕ) (flags : List Bool) → flags ≡ replicate count false → AreFlagged flags []
flagged_none count flags e n = ap (λ (fs : List Bool). get_or fs n false) e ∙ elim (cases_lt n count) [
  | inl less ↦ get_or-replicate count n false false less
  | inr past ↦ get_or_past (replicate count false) n false (omega (arith, past, length-replicate count false))
]

-- one flag more
pub flagged_more : (flags : List Bool) (ns : List ℕ) (n : ℕ) → n < length flags → AreFlagged flags ns → AreFlagged (set flags n true) (ns ++ n ∷ [])
flagged_more flags ns n less h k = go (nat_eq k n) refl
  where
    go : (b : Bool) → nat_eq k n ≡ b → get_or (set flags n true) k false ≡ is_listed k (ns ++ n ∷ [])
    go true e =
        ap (λ (i : ℕ). get_or (set flags n true) i false) (eq_of_test k n e) ∙ get_or-set_same flags n true false less
        ∙ sym (listed_behind k n ns ∙ ap (λ (b : Bool). is_listed k ns || b) e ∙ true_right (is_listed k ns))
    go false e =
        get_or-set_other flags n k true false (λ same. absurd {0} (grind (arith, nat_tests))) ∙ h k
        ∙ sym (listed_behind k n ns ∙ ap (λ (b : Bool). is_listed k ns || b) e ∙ false_right (is_listed k ns))
