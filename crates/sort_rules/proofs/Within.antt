-- Ascending numbers are sought from the front.
use Rattle.std.proofs.Common.{Bool, IsTrue, List, [], ap, arith, drop, false, get_or, inl, inr, length, nat_eq, nat_lt, refl, subst, sym, true, ℕ, ◌&&◌, ◌+◌, ◌<◌, ◌||◌, ◌∙◌, ◌∷◌, ◌≡◌, ◌≤◌, ◌⊎◌}
use Rattle.std.proofs.lemmas.Bool.Decides.{nat_tests}
use Rattle.std.proofs.lemmas.List.{drop_all, drop_more}
use Rattle.sort_rules.specs.Numbers.{are_listed, is_listed}
use Rattle.sort_rules.specs.Wellformed.{Ascending, MoreNumbers}
use Rattle.sort_rules.proofs.Merging.{ascend-behind, ascend-less, ascend-skip, lt_true}

-- a number below another isn't it
differs : (x y : ℕ) → IsTrue (nat_lt x y) → nat_eq x y ≡ false
differs x y h = grind (arith, nat_tests)

differs_above : (x y : ℕ) → IsTrue (nat_lt y x) → nat_eq x y ≡ false
differs_above x y h = grind (arith, nat_tests)

below-below : (x y z : ℕ) → IsTrue (nat_lt x y) → IsTrue (nat_lt y z) → IsTrue (nat_lt x z)
below-below x y z e f = grind (arith, nat_tests)

or-not : (a b : Bool) → a ≡ false → (a || b) ≡ b
or-not true b e = absurd {0} (cc)
or-not false b e = refl

and-not : (a b : Bool) → a ≡ false → (a && b) ≡ false
and-not true b e = absurd {0} (cc)
and-not false b e = refl

-- numbers above y aren't found at y
skip : (y : ℕ) (xs ys : List ℕ) → Ascending (y ∷ xs) → are_listed xs (y ∷ ys) ≡ are_listed xs ys
skip y [] ys h = refl
skip y (x ∷ xs) ys h =
    ap (λ (b : Bool). b && are_listed xs (y ∷ ys)) (or-not (nat_eq x y) (is_listed x ys) (differs_above x y (ascend-less h)))
    ∙ ap (λ (b : Bool). is_listed x ys && b) (skip y xs ys (ascend-skip h))

-- a number below the first of ascending ones isn't there
absent_below : (x y : ℕ) (ys : List ℕ) → IsTrue (nat_lt x y) → Ascending (y ∷ ys) → is_listed x (y ∷ ys) ≡ false
absent_below x y [] e h = or-not (nat_eq x y) false (differs x y e)
absent_below x y (z ∷ ys) e h = or-not (nat_eq x y) (is_listed x (z ∷ ys)) (differs x y e) ∙ absent_below x z ys (below-below x y z e (ascend-less h)) (ascend-behind h)

same_first : (x : ℕ) (xs ys : List ℕ) → Ascending (x ∷ xs) → are_listed (x ∷ xs) (x ∷ ys) ≡ are_listed xs ys
same_first x xs ys h = ap (λ (b : Bool). (b || is_listed x ys) && are_listed xs (x ∷ ys)) (self x) ∙ skip x xs ys h
  where
    self : (x : ℕ) → nat_eq x x ≡ true
    self x = grind (arith, nat_tests)

module _ (xs ys : List ℕ) (i j d : ℕ) (less : i < length xs) (less2 : j < length ys) (ascending : Ascending (drop i xs)) (ascending2 : Ascending (drop j ys)) where
  front : drop i xs ≡ get_or xs i d ∷ drop (i + 1) xs
  front = drop_more xs i d less

  front2 : drop j ys ≡ get_or ys j d ∷ drop (j + 1) ys
  front2 = drop_more ys j d less2

  fronts : are_listed (drop i xs) (drop j ys) ≡ are_listed (get_or xs i d ∷ drop (i + 1) xs) (get_or ys j d ∷ drop (j + 1) ys)
  fronts = ap (λ (zs : List ℕ). are_listed zs (drop j ys)) front ∙ ap (are_listed (get_or xs i d ∷ drop (i + 1) xs)) front2

  front_ascends : Ascending (get_or xs i d ∷ drop (i + 1) xs)
  front_ascends = subst Ascending front ascending

  front_ascends2 : Ascending (get_or ys j d ∷ drop (j + 1) ys)
  front_ascends2 = subst Ascending front2 ascending2

  pub behind : Ascending (drop (i + 1) xs)
  behind = ascend-behind front_ascends

  pub behind2 : Ascending (drop (j + 1) ys)
  behind2 = ascend-behind front_ascends2

  -- the first of the first list isn't in the second
  pub step-missing : get_or xs i d < get_or ys j d → are_listed (drop i xs) (drop j ys) ≡ false
  step-missing h =
      fronts ∙ and-not _ (are_listed (drop (i + 1) xs) (get_or ys j d ∷ drop (j + 1) ys)) (absent_below (get_or xs i d) (get_or ys j d) (drop (j + 1) ys) (lt_true (get_or xs i d) (get_or ys j d) h) front_ascends2)

  -- it is the first of the second
  pub step-found : get_or xs i d ≡ get_or ys j d → are_listed (drop (i + 1) xs) (drop (j + 1) ys) ≡ are_listed (drop i xs) (drop j ys)
  step-found e = sym (fronts ∙ subst (λ (y : ℕ). are_listed (get_or xs i d ∷ drop (i + 1) xs) (y ∷ drop (j + 1) ys) ≡ are_listed (drop (i + 1) xs) (drop (j + 1) ys)) e (same_first (get_or xs i d) (drop (i + 1) xs) (drop (j + 1) ys) front_ascends))

  -- the first of the second is passed
  pub step-passed : get_or ys j d < get_or xs i d → are_listed (drop i xs) (drop (j + 1) ys) ≡ are_listed (drop i xs) (drop j ys)
  step-passed h =
      ap (λ (zs : List ℕ). are_listed zs (drop (j + 1) ys)) front
      ∙ sym (fronts ∙ skip (get_or ys j d) (get_or xs i d ∷ drop (i + 1) xs) (drop (j + 1) ys) (MoreNumbers (lt_true (get_or ys j d) (get_or xs i d) h) front_ascends))

-- what is left at the end is there only where it is nothing
pub within-end : (xs ys : List ℕ) (i j : ℕ) → i ≤ length xs → length xs ≤ i ⊎ length ys ≤ j → are_listed (drop i xs) (drop j ys) ≡ nat_eq i (length xs)
within-end xs ys i j le (inl h) =
    ap (λ (zs : List ℕ). are_listed zs (drop j ys)) (drop_all i xs h) ∙ sym (equal i (length xs) le h)
  where
    equal : (i n : ℕ) → i ≤ n → n ≤ i → nat_eq i n ≡ true
    equal i n a b = grind (arith, nat_tests)
within-end xs ys i j le (inr h) = ap (are_listed (drop i xs)) (drop_all j ys h) ∙ go (nat_lt i (length xs)) refl
  where
    less_of : (i n : ℕ) → nat_lt i n ≡ true → i < n
    less_of i n e = grind (arith, nat_tests)

    differs_of : (i n : ℕ) → nat_lt i n ≡ true → nat_eq i n ≡ false
    differs_of i n e = grind (arith, nat_tests)

    equal_of : (i n : ℕ) → i ≤ n → nat_lt i n ≡ false → nat_eq i n ≡ true
    equal_of i n a e = grind (arith, nat_tests)

    most_of : (i n : ℕ) → nat_lt i n ≡ false → n ≤ i
    most_of i n e = grind (arith, nat_tests)

    go : (b : Bool) → nat_lt i (length xs) ≡ b → are_listed (drop i xs) [] ≡ nat_eq i (length xs)
    go true e = ap (λ (zs : List ℕ). are_listed zs []) (drop_more xs i 0 (less_of i (length xs) e)) ∙ sym (differs_of i (length xs) e)
    go false e = ap (λ (zs : List ℕ). are_listed zs []) (drop_all i xs (most_of i (length xs) e)) ∙ sym (equal_of i (length xs) le e)
