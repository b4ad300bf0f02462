-- Lists of numbers, ascending, each once.
use Rattle.std.specs.Prelude.{ℕ, Bool, true, false, ◌≡◌, ◌&&◌, ◌||◌, List, [], ◌∷◌, slice_index_or, nat_lt, nat_eq, if◌then◌else◌}

-- whether numbers ascend from one on
abbrev pub ascends_from : ℕ → List ℕ → Bool
ascends_from n [] = true
ascends_from n (m ∷ ms) = nat_lt n m && ascends_from m ms

-- whether numbers ascend strictly
abbrev pub ascends : List ℕ → Bool
ascends [] = true
ascends (n ∷ ns) = ascends_from n ns

-- with one number more
abbrev pub inserted : ℕ → List ℕ → List ℕ
inserted n [] = n ∷ []
inserted n (m ∷ ms) = if nat_lt n m then n ∷ m ∷ ms else if nat_lt m n then m ∷ inserted n ms else m ∷ ms

-- the numbers of both
abbrev pub merged : List ℕ → List ℕ → List ℕ
merged [] ys = ys
merged (x ∷ xs) ys = merged xs (inserted x ys)

-- whether the number stands in the list
abbrev pub is_listed : ℕ → List ℕ → Bool
is_listed n [] = false
is_listed n (m ∷ ms) = nat_eq n m || is_listed n ms

-- whether the list is empty
abbrev pub is_none : List ℕ → Bool
is_none [] = true
is_none (x ∷ xs) = false

-- whether each of the first list is in the second
abbrev pub are_listed : List ℕ → List ℕ → Bool
are_listed [] ys = true
are_listed (x ∷ xs) ys = is_listed x ys && are_listed xs ys

-- of each number, whether it is in the list; one past the flags isn't
abbrev pub AreFlagged : List Bool → List ℕ → Type 0
AreFlagged flags ns = (n : ℕ) → slice_index_or flags n false ≡ is_listed n ns
