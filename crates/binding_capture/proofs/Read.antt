-- Of the bindings that a closure holds, its captured tokens alone are read.
use Rattle.std.proofs.Common.{Bool, List, [], Option, Some, None, ap, arith, false, if◌then◌else◌, length, refl, subst, suc, sym, true, zero, ℕ, ◌<◌, ◌||◌, ◌&&◌, ◌∙◌, ◌∷◌, ◌≡◌}
use Rattle.std.specs.Prelude.{nat_eq}
use Rattle.action_terms.specs.Actions.{Two, Sum, Difference, Product, Quotient, Remainder, Is, Less, BothOf, EitherOf, One, Negation, Not, Yielder, NumberLiteral, TruthLiteral, Given, GivenAt, BoundTo, StoredIn, OnTwo, OnOne, ClosureOf, Action, node_at}
use Rattle.action_terms.specs.Bindings.{lookup}
use Rattle.action_terms.specs.Information.{Binds, CellOf, Closure, Data, Datum, Number, Storage, Token, Truth}
use Rattle.action_terms.specs.Yielding.{and_then, of_sort, on_one, on_two, stored, yields}
use Rattle.sort_rules.specs.Demands.{closure_bodies}
use Rattle.sort_rules.specs.Measures.{asked_at, asked_beneath, captured, has_token, kept_tokens, named_at, named_in, node_numbers, numbers_before}
use Rattle.sort_rules.specs.Numbers.{is_listed}
use Rattle.sort_rules.specs.Parts.{same_token}
use Rattle.sort_rules.specs.Procedures.{is_beneath}
use Rattle.sort_rules.specs.Shapes.{domain}
use Rattle.sort_rules.specs.Tables.{BindsIn, BindsOut, MarkedTable}
use Rattle.sort_rules.proofs.Choices.{eq_of_test, of_choice}
use Rattle.sort_rules.proofs.ProcedureWalks.{other_of_test}
use Rattle.binding_capture.specs.Captures.{AreCaptured}
use Rattle.binding_capture.specs.Reading.{IsAlike, ReadOnlyCaptured, ReadsOnly, Same, SameBody}
use Rattle.binding_capture.proofs.Found.{has_token-append}

-- ---- what a yielder yields depends on the tokens that it names

on_two-first : (f : Two) (k : ℕ) (b : Binds) (o : Option Token) (z : Datum) → on_two f (Closure k b o) z ≡ None
on_two-first Sum k b o (Number n) = refl
on_two-first Sum k b o (Truth t) = refl
on_two-first Sum k b o (CellOf c) = refl
on_two-first Sum k b o (Closure j e p) = refl
on_two-first Difference k b o (Number n) = refl
on_two-first Difference k b o (Truth t) = refl
on_two-first Difference k b o (CellOf c) = refl
on_two-first Difference k b o (Closure j e p) = refl
on_two-first Product k b o (Number n) = refl
on_two-first Product k b o (Truth t) = refl
on_two-first Product k b o (CellOf c) = refl
on_two-first Product k b o (Closure j e p) = refl
on_two-first Quotient k b o (Number n) = refl
on_two-first Quotient k b o (Truth t) = refl
on_two-first Quotient k b o (CellOf c) = refl
on_two-first Quotient k b o (Closure j e p) = refl
on_two-first Remainder k b o (Number n) = refl
on_two-first Remainder k b o (Truth t) = refl
on_two-first Remainder k b o (CellOf c) = refl
on_two-first Remainder k b o (Closure j e p) = refl
on_two-first Is k b o (Number n) = refl
on_two-first Is k b o (Truth t) = refl
on_two-first Is k b o (CellOf c) = refl
on_two-first Is k b o (Closure j e p) = refl
on_two-first Less k b o (Number n) = refl
on_two-first Less k b o (Truth t) = refl
on_two-first Less k b o (CellOf c) = refl
on_two-first Less k b o (Closure j e p) = refl
on_two-first BothOf k b o (Number n) = refl
on_two-first BothOf k b o (Truth t) = refl
on_two-first BothOf k b o (CellOf c) = refl
on_two-first BothOf k b o (Closure j e p) = refl
on_two-first EitherOf k b o (Number n) = refl
on_two-first EitherOf k b o (Truth t) = refl
on_two-first EitherOf k b o (CellOf c) = refl
on_two-first EitherOf k b o (Closure j e p) = refl

on_two-second : (f : Two) (x : Datum) (k : ℕ) (b : Binds) (o : Option Token) → on_two f x (Closure k b o) ≡ None
on_two-second Sum (Number n) k b o = refl
on_two-second Sum (Truth t) k b o = refl
on_two-second Sum (CellOf c) k b o = refl
on_two-second Sum (Closure j e p) k b o = refl
on_two-second Difference (Number n) k b o = refl
on_two-second Difference (Truth t) k b o = refl
on_two-second Difference (CellOf c) k b o = refl
on_two-second Difference (Closure j e p) k b o = refl
on_two-second Product (Number n) k b o = refl
on_two-second Product (Truth t) k b o = refl
on_two-second Product (CellOf c) k b o = refl
on_two-second Product (Closure j e p) k b o = refl
on_two-second Quotient (Number n) k b o = refl
on_two-second Quotient (Truth t) k b o = refl
on_two-second Quotient (CellOf c) k b o = refl
on_two-second Quotient (Closure j e p) k b o = refl
on_two-second Remainder (Number n) k b o = refl
on_two-second Remainder (Truth t) k b o = refl
on_two-second Remainder (CellOf c) k b o = refl
on_two-second Remainder (Closure j e p) k b o = refl
on_two-second Is (Number n) k b o = refl
on_two-second Is (Truth t) k b o = refl
on_two-second Is (CellOf c) k b o = refl
on_two-second Is (Closure j e p) k b o = refl
on_two-second Less (Number n) k b o = refl
on_two-second Less (Truth t) k b o = refl
on_two-second Less (CellOf c) k b o = refl
on_two-second Less (Closure j e p) k b o = refl
on_two-second BothOf (Number n) k b o = refl
on_two-second BothOf (Truth t) k b o = refl
on_two-second BothOf (CellOf c) k b o = refl
on_two-second BothOf (Closure j e p) k b o = refl
on_two-second EitherOf (Number n) k b o = refl
on_two-second EitherOf (Truth t) k b o = refl
on_two-second EitherOf (CellOf c) k b o = refl
on_two-second EitherOf (Closure j e p) k b o = refl

on_one-none : (f : One) (k : ℕ) (b : Binds) (o : Option Token) → on_one f (Closure k b o) ≡ None
on_one-none Negation k b o = refl
on_one-none Not k b o = refl

nothing-follows : (x : Option Datum) (g : Datum → Option Datum) → ((z : Datum) → g z ≡ None) → and_then x g ≡ None
nothing-follows None g h = refl
nothing-follows (Some z) g h = h z

module _ (b b2 : Binds) where
  -- the same follows from alike data, where nothing follows from a closure
  alike-then : (x x2 : Option Datum) (g g2 : Datum → Option Datum) → IsAlike b b2 x x2 → ((z : Datum) → g z ≡ g2 z) → ((k : ℕ) (e : Binds) → g (Closure k e None) ≡ None)
      → and_then x g ≡ and_then x2 g2
  alike-then _ _ g g2 (Same {x}) same none = go x
    where
      go : (x : Option Datum) → and_then x g ≡ and_then x g2
      go None = refl
      go (Some z) = same z
  alike-then _ _ g g2 (SameBody {k}) same none = none k b ∙ sym (sym (same (Closure k b2 None)) ∙ none k b2)

  alike-from : (x x2 : Option Datum) → x ≡ x2 → IsAlike b b2 x x2
  alike-from x x2 e = subst (λ (z : Option Datum). IsAlike b b2 x z) e Same

  -- the tokens that it names are bound alike
  pub yields-alike : (y : Yielder) (d : Data) (cells : Storage) → ((u : Token) → has_token u (named_in y) ≡ true → lookup u b ≡ lookup u b2) → IsAlike b b2 (yields y d b cells) (yields y d b2 cells)
  yields-alike (NumberLiteral n) d cells h = Same
  yields-alike (TruthLiteral t) d cells h = Same
  yields-alike (Given s) d cells h = Same
  yields-alike (GivenAt s n) d cells h = Same
  yields-alike (BoundTo s t) d cells h = alike-from _ _ (ap (λ (x : Option Datum). and_then x (of_sort s)) (h t (has_own t)))
    where
      same-self : (t : Token) → same_token t t ≡ true
      same-self [] = refl
      same-self (x ∷ xs) = grind (arith, same-self xs)

      has_own : (t : Token) → has_token t (t ∷ []) ≡ true
      has_own t = ap (λ (c : Bool). c || false) (same-self t)
  yields-alike (StoredIn s y) d cells h =
      alike-from _ _ (ap (λ (x : Option Datum). and_then x (of_sort s)) (alike-then _ _ (stored cells) (stored cells) (yields-alike y d cells h) (λ z. refl) (λ k e. refl)))
  yields-alike (OnTwo f y1 y2) d cells h =
      let first = yields-alike y1 d cells (λ u e. h u (has_token-append u (named_in y1) (named_in y2) ∙ ap (λ (c : Bool). c || has_token u (named_in y2)) e)) in
      let second = yields-alike y2 d cells (λ u e. h u (has_token-append u (named_in y1) (named_in y2) ∙ ap (λ (c : Bool). has_token u (named_in y1) || c) e ∙ or-true (has_token u (named_in y1)))) in
      alike-from _ _ (alike-then _ _ (λ x. and_then (yields y2 d b cells) (on_two f x)) (λ x. and_then (yields y2 d b2 cells) (on_two f x)) first
      (λ z. alike-then _ _ (on_two f z) (on_two f z) second (λ w. refl) (λ k e. on_two-second f z k e None))
      (λ k e. nothing-follows (yields y2 d b cells) (on_two f (Closure k e None)) (λ z. on_two-first f k e None z)))
    where
      or-true : (c : Bool) → (c || true) ≡ true
      or-true true = refl
      or-true false = refl
  yields-alike (OnOne f y) d cells h = alike-from _ _ (alike-then _ _ (on_one f) (on_one f) (yields-alike y d cells h) (λ z. refl) (λ k e. on_one-none f k e None))
  yields-alike (ClosureOf k) d cells h = SameBody

-- ---- what a node beneath a body asks for is captured

same-is : (t u : Token) → same_token t u ≡ true → t ≡ u
same-is [] [] e = refl
same-is [] (y ∷ ys) e = absurd (cc)
same-is (x ∷ xs) [] e = absurd (cc)
same-is (x ∷ xs) (y ∷ ys) e =
    of_choice (nat_eq x y) (same_token xs ys) false (λ (c : Bool). c ≡ true → x ∷ xs ≡ y ∷ ys)
    (λ q f. let rest : xs ≡ ys = same-is xs ys f in let first : x ≡ y = eq_of_test x y q in cc)
    (λ q f. absurd (cc))
    (and-choice (nat_eq x y) (same_token xs ys) ∙ e)
  where
    and-choice : (c e : Bool) → (if c then e else false) ≡ (c && e)
    and-choice true e = refl
    and-choice false e = refl

or-cases : {A : Type 0} (c e : Bool) → (c || e) ≡ true → (c ≡ true → A) → (e ≡ true → A) → A
or-cases true e h f g = f refl
or-cases false e h f g = g h

or-first : (c e : Bool) → c ≡ true → (c || e) ≡ true
or-first true e h = refl
or-first false e h = absurd (cc)

or-second : (c e : Bool) → e ≡ true → (c || e) ≡ true
or-second true e h = refl
or-second false e h = h

-- a token that is there and asked for is kept
kept-has : (u : Token) (ts asked : List Token) → has_token u ts ≡ true → has_token u asked ≡ true → has_token u (kept_tokens ts asked) ≡ true
kept-has u [] asked h e = absurd (cc)
kept-has u (t ∷ ts) asked h e =
    of_choice (has_token t asked) (t ∷ kept_tokens ts asked) (kept_tokens ts asked) (λ (zs : List Token). has_token u zs ≡ true)
    (λ q. or-cases (same_token u t) (has_token u ts) h (λ s. or-first (same_token u t) (has_token u (kept_tokens ts asked)) s) (λ r. or-second (same_token u t) (has_token u (kept_tokens ts asked)) (kept-has u ts asked r e)))
    (λ q. or-cases (same_token u t) (has_token u ts) h
    (λ s. absurd (let same : has_token t asked ≡ true = subst (λ (v : Token). has_token v asked ≡ true) (same-is u t s) e in let wrong : false ≡ true = sym q ∙ same in cc))
    (λ r. kept-has u ts asked r e))

-- what one of the nodes asks for
beneath-has : (a : Action) (t : MarkedTable) (c k : ℕ) (u : Token) (ks : List ℕ) → is_listed k ks ≡ true → is_beneath a c k ≡ true → has_token u (asked_at a t k) ≡ true → has_token u (asked_beneath a t c ks) ≡ true
beneath-has a t c k u [] h under e = absurd (cc)
beneath-has a t c k u (j ∷ ks) h under e =
    has_token-append u (if is_beneath a c j then asked_at a t j else []) (asked_beneath a t c ks)
    ∙ or-cases (nat_eq k j) (is_listed k ks) h
    (λ q. or-first (has_token u (if is_beneath a c j then asked_at a t j else [])) (has_token u (asked_beneath a t c ks))
    (subst (λ (i : ℕ). has_token u (if is_beneath a c i then asked_at a t i else []) ≡ true) (eq_of_test k j q) (ap (λ (x : Bool). has_token u (if x then asked_at a t k else [])) under ∙ e)))
    (λ r. or-second (has_token u (if is_beneath a c j then asked_at a t j else [])) (has_token u (asked_beneath a t c ks)) (beneath-has a t c k u ks r under e))

listed-behind : (n k : ℕ) (ks : List ℕ) → is_listed k ks ≡ true → is_listed k (numbers_before n ks) ≡ true
listed-behind zero k ks h = h
listed-behind (suc n) k ks h = listed-behind n k (n ∷ ks) (or-second (nat_eq k n) (is_listed k ks) h)

listed-below : (n k : ℕ) (ks : List ℕ) → k < n → is_listed k (numbers_before n ks) ≡ true
listed-below zero k ks less = absurd (omega arith)
listed-below (suc n) k ks less =
    of_choice (nat_eq k n) 0 0 (λ (z : ℕ). is_listed k (numbers_before n (n ∷ ks)) ≡ true)
    (λ q. listed-behind n k (n ∷ ks) (or-first (nat_eq k n) (is_listed k ks) q))
    (λ q. listed-below n k (n ∷ ks) (let other = other_of_test k n q in omega (arith, other)))

-- a received token for which a node beneath the body asks is captured
asked-captured : (a : Action) (t : MarkedTable) (c k : ℕ) (u : Token) → k < length a → is_beneath a c k ≡ true → has_token u (asked_at a t k) ≡ true → has_token u (domain (t (BindsIn c))) ≡ true
    → has_token u (captured a t c) ≡ true
asked-captured a t c k u less under e received =
    kept-has u (domain (t (BindsIn c))) (asked_beneath a t c (node_numbers a)) received (beneath-has a t c k u (node_numbers a) (listed-below (length a) k [] less) under e)

named-asked : (a : Action) (t : MarkedTable) (k : ℕ) (u : Token) → has_token u (named_at (node_at a k)) ≡ true → has_token u (asked_at a t k) ≡ true
named-asked a t k u e =
    has_token-append u (named_at (node_at a k)) (if is_listed k (closure_bodies a) then domain (t (BindsOut k)) else [])
    ∙ or-first (has_token u (named_at (node_at a k))) (has_token u (if is_listed k (closure_bodies a) then domain (t (BindsOut k)) else [])) e

completed-asked : (a : Action) (t : MarkedTable) (k : ℕ) (u : Token) → is_listed k (closure_bodies a) ≡ true → has_token u (domain (t (BindsOut k))) ≡ true → has_token u (asked_at a t k) ≡ true
completed-asked a t k u body e =
    has_token-append u (named_at (node_at a k)) (if is_listed k (closure_bodies a) then domain (t (BindsOut k)) else [])
    ∙ or-second (has_token u (named_at (node_at a k))) (has_token u (if is_listed k (closure_bodies a) then domain (t (BindsOut k)) else []))
    (ap (λ (x : Bool). has_token u (if x then domain (t (BindsOut k)) else [])) body ∙ e)

captured-reads : (a : Action) (t : MarkedTable) (c : ℕ) → ReadsOnly a t c (captured a t c)
captured-reads a t c = record {
  yields = λ k y d b b2 cells less under named agree. yields-alike b b2 y d cells (λ u e. agree u (λ received. asked-captured a t c k u less under (named-asked a t k u (named u e)) received));
  completes = λ k u less under body e received. asked-captured a t c k u less under (completed-asked a t k u body e) received;
}

pub captures-read : (a : Action) (t : MarkedTable) (found : List (List Token)) → AreCaptured a t found → ReadOnlyCaptured a t found
captures-read a t found are = λ c ts body e.
    let same : captured a t c ≡ ts = some-same (sym (are.each c body) ∙ e) in
    subst (ReadsOnly a t c) same (captured-reads a t c)
  where
    some-same : {x y : List Token} → Some x ≡ Some y → x ≡ y
    some-same e = cc
