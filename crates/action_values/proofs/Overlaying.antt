-- Bindings overlaid by others that ascend, one token after the other.
use Rattle.std.proofs.Common.{◌≡◌, ℕ, Bool, true, false, cond, [], ◌∷◌, Some, None, refl, sym, ap, ◌∙◌, arith, subst}
use Rattle.std.specs.Prelude.{nat_lt, is_some}
use Rattle.std.proofs.lemmas.Bool.Decides.{nat_tests}
use Rattle.action_terms.specs.Information.{Token, Datum, Binds, NoBinds, Bound}
use Rattle.action_terms.specs.Bindings.{token_lt, bind, overlaid, lookup, meets}
use Rattle.action_values.specs.Ascending.{IsBelow, AreAscending}

-- ---- the order of tokens

later_less : (x y z : ℕ) (p q r : Bool) → (p ≡ true → q ≡ true → r ≡ true) →
    cond (nat_lt x y) true (cond (nat_lt y x) false p) ≡ true → cond (nat_lt y z) true (cond (nat_lt z y) false q) ≡ true →
    cond (nat_lt x z) true (cond (nat_lt z x) false r) ≡ true
later_less x y z p q r h first second = grind (arith, nat_tests)

pub token_lt-trans : (t u v : Token) → token_lt t u ≡ true → token_lt u v ≡ true → token_lt t v ≡ true
token_lt-trans [] [] v h k = cc
token_lt-trans [] (y ∷ ys) [] h k = cc
token_lt-trans [] (y ∷ ys) (z ∷ zs) h k = refl
token_lt-trans (x ∷ xs) [] v h k = cc
token_lt-trans (x ∷ xs) (y ∷ ys) [] h k = cc
token_lt-trans (x ∷ xs) (y ∷ ys) (z ∷ zs) h k = later_less x y z (token_lt xs ys) (token_lt ys zs) (token_lt xs zs) (token_lt-trans xs ys zs) h k

not_back : (x y : ℕ) (p q : Bool) → (p ≡ true → q ≡ false) →
    cond (nat_lt x y) true (cond (nat_lt y x) false p) ≡ true → cond (nat_lt y x) true (cond (nat_lt x y) false q) ≡ false
not_back x y p q h less = grind (arith, nat_tests)

pub token_lt-asym : (t u : Token) → token_lt t u ≡ true → token_lt u t ≡ false
token_lt-asym [] [] h = cc
token_lt-asym [] (y ∷ ys) h = refl
token_lt-asym (x ∷ xs) [] h = cc
token_lt-asym (x ∷ xs) (y ∷ ys) h = not_back x y (token_lt xs ys) (token_lt ys xs) (token_lt-asym xs ys) h

same_first : (x y : ℕ) (p q : Bool) →
    cond (nat_lt x y) true (cond (nat_lt y x) false p) ≡ false → cond (nat_lt y x) true (cond (nat_lt x y) false q) ≡ false →
    (x ≡ y) × (p ≡ false) × (q ≡ false)
same_first x y p q h k = (grind (arith, nat_tests), grind (arith, nat_tests), grind (arith, nat_tests))

pub token_lt-same : (t u : Token) → token_lt t u ≡ false → token_lt u t ≡ false → t ≡ u
token_lt-same [] [] h k = refl
token_lt-same [] (y ∷ ys) h k = cc
token_lt-same (x ∷ xs) [] h k = cc
token_lt-same (x ∷ xs) (y ∷ ys) h k =
    let s : (x ≡ y) × (token_lt xs ys ≡ false) × (token_lt ys xs ≡ false) = same_first x y (token_lt xs ys) (token_lt ys xs) h k in
    let e : xs ≡ ys = token_lt-same xs ys s.1 s.2 in
    λ i. s.0 i ∷ e i

-- a token below another is below what that one is below
pub below-trans : (t u : Token) (b : Binds) → token_lt t u ≡ true → IsBelow u b → IsBelow t b
below-trans t u NoBinds h k = tt
below-trans t u (Bound v x rest) h k = token_lt-trans t u v h k

-- ---- one token bound

pub bind-below : (t : Token) (x : Datum) (b : Binds) → IsBelow t b → bind t x b ≡ Bound t x b
bind-below t x NoBinds h = refl
bind-below t x (Bound u y rest) h = ap (λ q. cond q (Bound t x (Bound u y rest)) (cond (token_lt u t) (Bound u y (bind t x rest)) (Bound t x rest))) h

bind-above : (t u : Token) (x y : Datum) (rest : Binds) → token_lt u t ≡ true → bind t x (Bound u y rest) ≡ Bound u y (bind t x rest)
bind-above t u x y rest h =
    ap (λ q. cond q (Bound t x (Bound u y rest)) (cond (token_lt u t) (Bound u y (bind t x rest)) (Bound t x rest))) (token_lt-asym u t h)
    ∙ ap (λ q. cond q (Bound u y (bind t x rest)) (Bound t x rest)) h

bind-same : (t u : Token) (x y : Datum) (rest : Binds) → token_lt t u ≡ false → token_lt u t ≡ false → bind t x (Bound u y rest) ≡ Bound t x rest
bind-same t u x y rest h k =
    ap (λ q. cond q (Bound t x (Bound u y rest)) (cond (token_lt u t) (Bound u y (bind t x rest)) (Bound t x rest))) h
    ∙ ap (λ q. cond q (Bound u y (bind t x rest)) (Bound t x rest)) k

below-either : (t u v : Token) (x y : Datum) (rest : Binds) (p q : Bool) → token_lt t u ≡ true → token_lt t v ≡ true →
    IsBelow t (cond p (Bound u x (Bound v y rest)) (cond q (Bound v y (bind u x rest)) (Bound u x rest)))
below-either t u v x y rest true q h k = h
below-either t u v x y rest false true h k = k
below-either t u v x y rest false false h k = h

below-bind : (t u : Token) (x : Datum) (b : Binds) → token_lt t u ≡ true → IsBelow t b → IsBelow t (bind u x b)
below-bind t u x NoBinds h k = h
below-bind t u x (Bound v y rest) h k = below-either t u v x y rest (token_lt u v) (token_lt v u) h k

-- ---- overlaid by nothing, and by one token more

pub overlaid-none : (b : Binds) → overlaid b NoBinds ≡ b
overlaid-none NoBinds = refl
overlaid-none (Bound t x rest) = refl

pub overlaid-more : (b : Binds) (t : Token) (x : Datum) (over : Binds) → IsBelow t over → overlaid b (Bound t x over) ≡ bind t x (overlaid b over)
overlaid-more NoBinds t x over h = sym (bind-below t x over h)
overlaid-more (Bound u y rest) t x over h = refl

below-overlaid : (t u : Token) (y : Datum) (rest over : Binds) → token_lt t u ≡ true → IsBelow t over → AreAscending over → IsBelow t (overlaid (Bound u y rest) over)
below-overlaid t u y rest NoBinds h k s = h
below-overlaid t u y rest (Bound v z more) h k s =
    below-bind t v z (overlaid (Bound u y rest) more) k (below-overlaid t u y rest more h (below-trans t v more k s.0) s.1)

-- a binding below all that is laid over stays in front
pub overlaid-front : (u : Token) (y : Datum) (rest over : Binds) → IsBelow u over → AreAscending over →
    overlaid (Bound u y rest) over ≡ Bound u y (overlaid rest over)
overlaid-front u y rest NoBinds h s = ap (Bound u y) (sym (overlaid-none rest))
overlaid-front u y rest (Bound t x more) h s =
    ap (bind t x) (overlaid-front u y rest more (below-trans u t more h s.0) s.1)
    ∙ bind-above t u x y (overlaid rest more) h
    ∙ ap (Bound u y) (sym (overlaid-more rest t x more s.0))

module _ (t u : Token) (x y : Datum) (rest over : Binds) (below : IsBelow t over) (ascending : AreAscending over) where
  -- the token laid over comes first
  pub overlaid-less : token_lt t u ≡ true → overlaid (Bound u y rest) (Bound t x over) ≡ Bound t x (overlaid (Bound u y rest) over)
  overlaid-less h = bind-below t x (overlaid (Bound u y rest) over) (below-overlaid t u y rest over h below ascending)

  -- it replaces the first one
  pub overlaid-same : token_lt t u ≡ false → token_lt u t ≡ false → overlaid (Bound u y rest) (Bound t x over) ≡ Bound t x (overlaid rest over)
  overlaid-same h k =
      let u_below : IsBelow u over = subst (λ v. IsBelow v over) (token_lt-same t u h k) below in
      ap (bind t x) (overlaid-front u y rest over u_below ascending) ∙ bind-same t u x y (overlaid rest over) h k

  -- it comes later
  pub overlaid-greater : token_lt u t ≡ true → overlaid (Bound u y rest) (Bound t x over) ≡ Bound u y (overlaid rest (Bound t x over))
  overlaid-greater h = overlaid-front u y rest (Bound t x over) h (below, ascending)

-- ---- what is bound in both

lookup-past : (t u : Token) (y : Datum) (rest : Binds) → token_lt u t ≡ true → lookup t (Bound u y rest) ≡ lookup t rest
lookup-past t u y rest h =
    ap (λ q. cond q None (cond (token_lt u t) (lookup t rest) (Some y))) (token_lt-asym u t h) ∙ ap (λ q. cond q (lookup t rest) (Some y)) h

-- a binding below all tokens that are looked for isn't found
pub meets-past : (u : Token) (y : Datum) (rest more : Binds) → IsBelow u more → AreAscending more → meets more (Bound u y rest) ≡ meets more rest
meets-past u y rest NoBinds h s = refl
meets-past u y rest (Bound t x more) h s =
    ap (λ q. cond (is_some q) true (meets more (Bound u y rest))) (lookup-past t u y rest h)
    ∙ ap (λ q. cond (is_some (lookup t rest)) true q) (meets-past u y rest more (below-trans u t more h s.0) s.1)
