-- The order of tokens, and of the tokens of bindings.
use Rattle.std.proofs.Common.{◌≡◌, ℕ, Bool, true, false, if◌then◌else◌, nat_lt, [], ◌∷◌, refl, sym, subst, arith}
use Rattle.std.proofs.lemmas.Bool.Decides.{nat_tests}
use Rattle.action_terms.specs.Information.{Token, Datum, Binds, NoBinds, Bound}
use Rattle.action_terms.specs.Bindings.{token_lt, bind}
use Rattle.action_terms.specs.Sound.{Precedes}

first_less : (x y : ℕ) (p : Bool) → (if nat_lt x y then true else if nat_lt y x then false else p) ≡ false → nat_lt x y ≡ false
first_less x y p e = grind (arith, nat_tests)

rest_less : (x y : ℕ) (p : Bool) → (if nat_lt x y then true else if nat_lt y x then false else p) ≡ false → nat_lt y x ≡ false → p ≡ false
rest_less x y p e f = grind (arith, nat_tests)

neither_less : (x y : ℕ) → nat_lt x y ≡ false → nat_lt y x ≡ false → y ≡ x
neither_less x y p q = grind (arith, nat_tests)

-- tokens of which neither is less are the same
pub token_lt-neither : (t u : Token) → token_lt t u ≡ false → token_lt u t ≡ false → t ≡ u
token_lt-neither [] [] e f = refl
token_lt-neither [] (y ∷ ys) e f = absurd {0} (cc)
token_lt-neither (x ∷ xs) [] e f = absurd {0} (cc)
token_lt-neither (x ∷ xs) (y ∷ ys) e f =
    let p = first_less x y (token_lt xs ys) e in
    let q = first_less y x (token_lt ys xs) f in
    let same : y ≡ x = neither_less x y p q in
    let rest : xs ≡ ys = token_lt-neither xs ys (rest_less x y (token_lt xs ys) e q) (rest_less y x (token_lt ys xs) f p) in cc

-- what holds of a choice, with what was tested
pub of_test : {X : Type 0} (P : X → Type 0) (q : Bool) (x y : X) → (q ≡ true → P x) → (q ≡ false → P y) → P (if q then x else y)
of_test P true x y first second = first refl
of_test P false x y first second = second refl

-- the bindings of a later token still come after t
pub precedes-bind : (t u : Token) (x : Datum) (b : Binds) → token_lt t u ≡ true → Precedes t b → Precedes t (bind u x b)
precedes-bind t u x NoBinds less here = less
precedes-bind t u x (Bound v y rest) less here =
    of_test (Precedes t) (token_lt u v) _ _ (λ e. less) (λ e. of_test (Precedes t) (token_lt v u) _ _ (λ f. here) (λ f. less))

-- the same token is in the place of another
pub precedes-same : (t u : Token) (b : Binds) → token_lt t u ≡ false → token_lt u t ≡ false → Precedes u b → Precedes t b
precedes-same t u b e f here = let P : Token → Type 0 = λ v. Precedes v b in subst P (sym (token_lt-neither t u e f)) here
