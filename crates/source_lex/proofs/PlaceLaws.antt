-- The place of a text, from a search among keys.
use Rattle.std.proofs.Common.{◌≡◌, ℕ, ◌+◌, ◌≤◌, Bool, true, false, not, cond, List, [], ◌∷◌, length, refl, sym, ap, ◌∙◌, arith, Some, None}
use Rattle.std.specs.Prelude.{nat_lt, position}
use Rattle.std.specs.Borrow.{Bor}
use Rattle.std.specs.List.{position_or_len}
use Rattle.std.specs.Str.{bytes_eq}
use Rattle.std.proofs.lemmas.Bool.Decides.{nat_tests}
use Rattle.std.proofs.lemmas.List.Sums.{prefix_len-le-length}
use Rattle.gram_form.specs.Plain.{texts}
use Rattle.source_lex.specs.Numbered.{place_of}

place-texts : (text : List ℕ) (keys : List (Bor (List ℕ))) → position_or_len (λ (k : Bor (List ℕ)). bytes_eq text k.now) keys ≡ place_of (texts keys) text
place-texts text [] = refl
place-texts text (k ∷ keys) = ap (λ n. cond (not (bytes_eq text k.now)) (1 + n) 0) (place-texts text keys)

first_place : {X : Type 0} (test : X → Bool) (xs : List X) (k : ℕ) → position test xs ≡ Some k → position_or_len test xs ≡ k
first_place test xs k found = pick (nat_lt (position_or_len test xs) (length xs)) found
  where
    pick : (b : Bool) → cond b (Some (position_or_len test xs)) None ≡ Some k → position_or_len test xs ≡ k
    pick true e = cc
    pick false e = cc

no_place : {X : Type 0} (test : X → Bool) (xs : List X) → position test xs ≡ None → position_or_len test xs ≡ length xs
no_place test xs found = pick (nat_lt (position_or_len test xs) (length xs)) refl found
  where
    past : (a b : ℕ) → nat_lt a b ≡ false → a ≤ b → a ≡ b
    past a b over within = grind (arith, nat_tests)

    pick : (b : Bool) → nat_lt (position_or_len test xs) (length xs) ≡ b → cond b (Some (position_or_len test xs)) None ≡ None → position_or_len test xs ≡ length xs
    pick true e none = cc
    pick false e none = past (position_or_len test xs) (length xs) e (prefix_len-le-length (λ x. not (test x)) xs)

-- a text that is found has the place
pub place_found : (keys : List (Bor (List ℕ))) (text : List ℕ) (k : ℕ) → position (λ (x : Bor (List ℕ)). bytes_eq text x.now) keys ≡ Some k → k ≡ place_of (texts keys) text
place_found keys text k found = sym (first_place (λ (x : Bor (List ℕ)). bytes_eq text x.now) keys k found) ∙ place-texts text keys

-- a text that isn't found has the count of all
pub place_none : (keys : List (Bor (List ℕ))) (text : List ℕ) → position (λ (x : Bor (List ℕ)). bytes_eq text x.now) keys ≡ None → length keys ≡ place_of (texts keys) text
place_none keys text found = sym (no_place (λ (x : Bor (List ℕ)). bytes_eq text x.now) keys found) ∙ place-texts text keys
