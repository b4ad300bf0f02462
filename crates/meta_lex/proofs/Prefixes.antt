-- The longest front of a list that passes a test.
use Rattle.std.proofs.Common.{◌≡◌, ℕ, zero, suc, ◌+◌, ◌≤◌, Bool, true, false, cond, ◌&&◌, List, [], ◌∷◌, length, take, refl, arith}
use Rattle.std.specs.List.{list_all, prefix_len}

suc_of : (n : ℕ) → 1 + n ≡ suc n
suc_of n = omega arith

pub both : (a b : Bool) → a ≡ true → b ≡ true → (a && b) ≡ true
both a b x y = rw (x, y) refl

pub left : (a b : Bool) → (a && b) ≡ true → a ≡ true
left true b h = refl
left false b h = h

pub right : (a b : Bool) → (a && b) ≡ true → b ≡ true
right true b h = h
right false b h = cc

front_step : (p : ℕ → Bool) (x : ℕ) (xs : List ℕ) (b : Bool) → p x ≡ b → list_all p (take (prefix_len p xs) xs) ≡ true
    → list_all p (take (cond b (1 + prefix_len p xs) 0) (x ∷ xs)) ≡ true
front_step p x xs true e passes = rw suc_of (both (p x) (list_all p (take (prefix_len p xs) xs)) e passes)
front_step p x xs false e passes = refl

-- the first bytes that pass all pass
pub list_all-prefix_len : (p : ℕ → Bool) (xs : List ℕ) → list_all p (take (prefix_len p xs) xs) ≡ true
list_all-prefix_len p [] = refl
list_all-prefix_len p (x ∷ xs) = front_step p x xs (p x) refl (list_all-prefix_len p xs)

above_step : (p : ℕ → Bool) (x : ℕ) (xs : List ℕ) (m : ℕ) (b : Bool) → p x ≡ b → (b && list_all p (take m xs)) ≡ true → m ≤ prefix_len p xs → suc m ≤ cond b (1 + prefix_len p xs) 0
above_step p x xs m true e passes h = omega arith
above_step p x xs m false e passes h = cc

-- where so many bytes pass, the longest front that passes is no shorter
pub prefix_len-above : (p : ℕ → Bool) (xs : List ℕ) (m : ℕ) → m ≤ length xs → list_all p (take m xs) ≡ true → m ≤ prefix_len p xs
prefix_len-above p [] m short passes = omega arith
prefix_len-above p (x ∷ xs) zero short passes = omega arith
prefix_len-above p (x ∷ xs) (suc m) short passes =
    above_step p x xs m (p x) refl passes (prefix_len-above p xs m (omega arith) (right (p x) (list_all p (take m xs)) passes))
