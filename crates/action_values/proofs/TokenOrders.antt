-- Tokens are ordered as slices of bytes are.
use Rattle.std.proofs.Common.{◌≡◌, ℕ, Bool, true, false, cond, [], ◌∷◌, Ordering, refl, arith}
use Rattle.std.specs.Prelude.{nat_lt}
use Rattle.std.specs.Ordering.{nat_cmp, ordering_then}
use Rattle.std.specs.Cmp.Lexicographic.{slice_cmp}
use Rattle.std.specs.declared.cmp.Ordering.TheVariants.{Less, Equal, Greater}
use Rattle.std.proofs.lemmas.Bool.Decides.{nat_tests}
use Rattle.action_terms.specs.Information.{Token}
use Rattle.action_terms.specs.Bindings.{token_lt}
use Rattle.action_values.specs.TokenOrder.{token_order}

first_byte : (x y : ℕ) (p q : Bool) (o : Ordering) → o ≡ cond p Less (cond q Greater Equal) →
    ordering_then (nat_cmp x y) o ≡ cond (cond (nat_lt x y) true (cond (nat_lt y x) false p)) Less (cond (cond (nat_lt y x) true (cond (nat_lt x y) false q)) Greater Equal)
first_byte x y p q o h = grind (arith, nat_tests)

pub slice_cmp-tokens : (t u : Token) → slice_cmp nat_cmp t u ≡ token_order t u
slice_cmp-tokens [] [] = refl
slice_cmp-tokens [] (y ∷ ys) = refl
slice_cmp-tokens (x ∷ xs) [] = refl
slice_cmp-tokens (x ∷ xs) (y ∷ ys) = first_byte x y (token_lt xs ys) (token_lt ys xs) (slice_cmp nat_cmp xs ys) (slice_cmp-tokens xs ys)

pub ruleset tokens = (slice_cmp-tokens)
