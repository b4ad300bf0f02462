-- The order of tokens, and what is found in bindings.
use Rattle.std.proofs.Common.{◌≡◌, ◌≢◌, ◌⊎◌, ℕ, ◌<◌, [], ◌∷◌, Some, None, refl, sym, ap, ap₂, ◌∙◌, subst, arith, inl, inr, ⊎_elim, Bool, true, false, ltb, lt-ltb}
use Rattle.std.specs.Prelude.{if◌then◌else◌}
use Rattle.std.proofs.lemmas.Bool.{le-ltb, ltb-true, ltb-false}
use Rattle.rv_code.proofs.Bools.{true-or-false}
use Rattle.action_terms.specs.Information.{Token, Datum, Binds, NoBinds, Bound}
use Rattle.action_terms.specs.Bindings.{token_lt, bind, lookup}

if_true : {X : Type 0} (b : Bool) (x y : X) → b ≡ true → (if b then x else y) ≡ x
if_true true x y e = refl
if_true false x y e = absurd (cc)

if_false : {X : Type 0} (b : Bool) (x y : X) → b ≡ false → (if b then x else y) ≡ y
if_false false x y e = refl
if_false true x y e = absurd (cc)

pub lt_irrefl : (t : Token) → token_lt t t ≡ false
lt_irrefl [] = refl
lt_irrefl (x ∷ t) = let e : ltb x x ≡ false = le-ltb x x (omega arith) in if_false (ltb x x) true (if ltb x x then false else token_lt t t) e ∙ if_false (ltb x x) false (token_lt t t) e ∙ lt_irrefl t

pub lt_asym : (s t : Token) → token_lt s t ≡ true → token_lt t s ≡ false
lt_asym [] [] h = refl
lt_asym [] (y ∷ t) h = refl
lt_asym (x ∷ s) [] h = absurd (cc)
lt_asym (x ∷ s) (y ∷ t) h = ⊎_elim
    (λ p. ⊎_elim
    (λ q. absurd (let a = ltb-true x y p in let b = ltb-true y x q in omega arith))
    (λ q. if_false (ltb y x) true (if ltb x y then false else token_lt t s) q ∙ if_true (ltb x y) false (token_lt t s) p)
    (true-or-false (ltb y x)))
    (λ p. ⊎_elim
    (λ q. absurd (let e = sym (if_false (ltb x y) true (if ltb y x then false else token_lt s t) p ∙ if_true (ltb y x) false (token_lt s t) q) ∙ h in cc))
    (λ q. if_false (ltb y x) true (if ltb x y then false else token_lt t s) q ∙ if_false (ltb x y) false (token_lt t s) p ∙ lt_asym s t (sym (if_false (ltb x y) true (if ltb y x then false else token_lt s t) p ∙ if_false (ltb y x) false (token_lt s t) q) ∙ h))
    (true-or-false (ltb y x)))
    (true-or-false (ltb x y))

pub lt_same : (s t : Token) → token_lt s t ≡ false → token_lt t s ≡ false → s ≡ t
lt_same [] [] h k = refl
lt_same [] (y ∷ t) h k = absurd (cc)
lt_same (x ∷ s) [] h k = absurd (cc)
lt_same (x ∷ s) (y ∷ t) h k = ⊎_elim
    (λ p. absurd (let e = sym (if_true (ltb x y) true (if ltb y x then false else token_lt s t) p) ∙ h in cc))
    (λ p. ⊎_elim
    (λ q. absurd (let e = sym (if_true (ltb y x) true (if ltb x y then false else token_lt t s) q) ∙ k in cc))
    (λ q. let a = ltb-false x y p in let b = ltb-false y x q in let e : x ≡ y = omega arith in
    ap₂ (λ u v. u ∷ v) e (lt_same s t (sym (if_false (ltb x y) true (if ltb y x then false else token_lt s t) p ∙ if_false (ltb y x) false (token_lt s t) q) ∙ h) (sym (if_false (ltb y x) true (if ltb x y then false else token_lt t s) q ∙ if_false (ltb x y) false (token_lt t s) p) ∙ k)))
    (true-or-false (ltb y x)))
    (true-or-false (ltb x y))

-- the three cases of a token's first byte
pub lt_trans : (r s t : Token) → token_lt r s ≡ true → token_lt s t ≡ true → token_lt r t ≡ true
lt_trans [] [] t h k = absurd (cc)
lt_trans [] (y ∷ s) [] h k = absurd (cc)
lt_trans [] (y ∷ s) (z ∷ t) h k = refl
lt_trans (x ∷ r) [] t h k = absurd (cc)
lt_trans (x ∷ r) (y ∷ s) [] h k = absurd (cc)
lt_trans (x ∷ r) (y ∷ s) (z ∷ t) h k =
    let a = first x y r s h in let b = first y z s t k in
    ⊎_elim
    (λ p. if_true (ltb x z) true (if ltb z x then false else token_lt r t) (lt-ltb x z (⊎_elim (λ q. omega arith) (λ q. omega arith) b)))
    (λ p. ⊎_elim
    (λ q. if_true (ltb x z) true (if ltb z x then false else token_lt r t) (lt-ltb x z (omega arith)))
    (λ q. if_false (ltb x z) true (if ltb z x then false else token_lt r t) (le-ltb x z (omega arith)) ∙ if_false (ltb z x) false (token_lt r t) (le-ltb z x (omega arith)) ∙ lt_trans r s t p.1 q.1)
    b)
    a
  where
    first : (x y : ℕ) (r s : Token) → token_lt (x ∷ r) (y ∷ s) ≡ true → (x < y) ⊎ ((x ≡ y) × (token_lt r s ≡ true))
    first x y r s h = ⊎_elim
        (λ p. inl (ltb-true x y p))
        (λ p. ⊎_elim
        (λ q. absurd (let e = sym (if_false (ltb x y) true (if ltb y x then false else token_lt r s) p ∙ if_true (ltb y x) false (token_lt r s) q) ∙ h in cc))
        (λ q. let a = ltb-false x y p in let b = ltb-false y x q in inr (omega arith, sym (if_false (ltb x y) true (if ltb y x then false else token_lt r s) p ∙ if_false (ltb y x) false (token_lt r s) q) ∙ h))
        (true-or-false (ltb y x)))
        (true-or-false (ltb x y))

-- ---- what is found
pub found_before : (t u : Token) (y : Datum) (b : Binds) → token_lt t u ≡ true → lookup t (Bound u y b) ≡ None
found_before t u y b e = if_true (token_lt t u) None (if token_lt u t then lookup t b else Some y) e

pub found_behind : (t u : Token) (y : Datum) (b : Binds) → token_lt u t ≡ true → lookup t (Bound u y b) ≡ lookup t b
found_behind t u y b e = if_false (token_lt t u) None (if token_lt u t then lookup t b else Some y) (lt_asym u t e) ∙ if_true (token_lt u t) (lookup t b) (Some y) e

pub found_here : (t : Token) (y : Datum) (b : Binds) → lookup t (Bound t y b) ≡ Some y
found_here t y b = if_false (token_lt t t) None (if token_lt t t then lookup t b else Some y) (lt_irrefl t) ∙ if_false (token_lt t t) (lookup t b) (Some y) (lt_irrefl t)

-- the three orders of two tokens
pub data Order (s t : Token) : Type 0 where
  Less : token_lt s t ≡ true → Order s t
  More : token_lt t s ≡ true → Order s t
  Same : s ≡ t → Order s t

pub order : (s t : Token) → Order s t
order s t = ⊎_elim Less (λ p. ⊎_elim More (λ q. Same (lt_same s t p q)) (true-or-false (token_lt t s))) (true-or-false (token_lt s t))

pub bind_less : (u v : Token) (x y : Datum) (b : Binds) → token_lt u v ≡ true → bind u x (Bound v y b) ≡ Bound u x (Bound v y b)
bind_less u v x y b e = if_true (token_lt u v) (Bound u x (Bound v y b)) (if token_lt v u then Bound v y (bind u x b) else Bound u x b) e

pub bind_more : (u v : Token) (x y : Datum) (b : Binds) → token_lt v u ≡ true → bind u x (Bound v y b) ≡ Bound v y (bind u x b)
bind_more u v x y b e = if_false (token_lt u v) (Bound u x (Bound v y b)) (if token_lt v u then Bound v y (bind u x b) else Bound u x b) (lt_asym v u e) ∙ if_true (token_lt v u) (Bound v y (bind u x b)) (Bound u x b) e

pub bind_same : (u : Token) (x y : Datum) (b : Binds) → bind u x (Bound u y b) ≡ Bound u x b
bind_same u x y b = if_false (token_lt u u) (Bound u x (Bound u y b)) (if token_lt u u then Bound u y (bind u x b) else Bound u x b) (lt_irrefl u) ∙ if_false (token_lt u u) (Bound u y (bind u x b)) (Bound u x b) (lt_irrefl u)

pub found_bound : (u : Token) (x : Datum) (b : Binds) → lookup u (bind u x b) ≡ Some x
found_bound u x NoBinds = found_here u x NoBinds
found_bound u x (Bound v y b) = at (found_bound u x b) (order u v)
  where
    at : lookup u (bind u x b) ≡ Some x → Order u v → lookup u (bind u x (Bound v y b)) ≡ Some x
    at ih (Less e) = ap (lookup u) (bind_less u v x y b e) ∙ found_here u x (Bound v y b)
    at ih (More e) = ap (lookup u) (bind_more u v x y b e) ∙ found_behind u v y (bind u x b) e ∙ ih
    at ih (Same e) = subst (λ v. lookup u (bind u x (Bound v y b)) ≡ Some x) e (ap (lookup u) (bind_same u x y b) ∙ found_here u x b)

pub found_other : (t u : Token) (x : Datum) (b : Binds) → t ≢ u → lookup t (bind u x b) ≡ lookup t b
found_other t u x NoBinds n = at (order t u)
  where
    at : Order t u → lookup t (Bound u x NoBinds) ≡ None
    at (Less e) = found_before t u x NoBinds e
    at (More e) = found_behind t u x NoBinds e
    at (Same e) = absurd (n e)
found_other t u x (Bound v y b) n = at (found_other t u x b n) (order u v) (order t u) (order t v)
  where
    at : lookup t (bind u x b) ≡ lookup t b → Order u v → Order t u → Order t v → lookup t (bind u x (Bound v y b)) ≡ lookup t (Bound v y b)
    at ih (Less e) (Less f) o = ap (lookup t) (bind_less u v x y b e) ∙ found_before t u x (Bound v y b) f ∙ sym (found_before t v y b (lt_trans t u v f e))
    at ih (Less e) (More f) o = ap (lookup t) (bind_less u v x y b e) ∙ found_behind t u x (Bound v y b) f
    at ih (More e) f (Less o) = ap (lookup t) (bind_more u v x y b e) ∙ found_before t v y (bind u x b) o ∙ sym (found_before t v y b o)
    at ih (More e) f (More o) = ap (lookup t) (bind_more u v x y b e) ∙ found_behind t v y (bind u x b) o ∙ ih ∙ sym (found_behind t v y b o)
    at ih (More e) f (Same o) = ap (lookup t) (bind_more u v x y b e) ∙ subst (λ v. lookup t (Bound v y (bind u x b)) ≡ lookup t (Bound v y b)) o (found_here t y (bind u x b) ∙ sym (found_here t y b))
    at ih (Same e) (Less f) o = subst (λ v. lookup t (bind u x (Bound v y b)) ≡ lookup t (Bound v y b)) e (ap (lookup t) (bind_same u x y b) ∙ found_before t u x b f ∙ sym (found_before t u y b f))
    at ih (Same e) (More f) o = subst (λ v. lookup t (bind u x (Bound v y b)) ≡ lookup t (Bound v y b)) e (ap (lookup t) (bind_same u x y b) ∙ found_behind t u x b f ∙ sym (found_behind t u y b f))
    at ih e (Same f) o = absurd (n f)

-- tokens ascend
abbrev pub Ascending : Binds → Type 0
Ascending NoBinds = Unit {0}
Ascending (Bound u y b) = ((t : Token) (x : Datum) → lookup t b ≡ Some x → token_lt u t ≡ true) × Ascending b
