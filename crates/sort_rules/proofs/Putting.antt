-- A token is bound at its place among pairs in memory.
use Rattle.std.proofs.Common.{◌≡◌, ℕ, suc, ◌+◌, ◌<◌, Bool, true, false, cond, List, [], ◌∷◌, ◌++◌, length, take, drop, get_or, refl, sym, ap, ◌∙◌, add-one, set, subst, map, Bor}
use Rattle.std.proofs.Math.Seq.{drop-length}
use Rattle.std.proofs.lemmas.List.{drop_more, map-append, set_split, take_more}
use Rattle.std.specs.declared.cmp.Ordering.TheVariants.{Less, Equal, Greater}
use Rattle.action_terms.specs.Information.{Token}
use Rattle.action_terms.specs.Bindings.{token_lt}
use Rattle.sort_rules.specs.Parts.{Component, bind_component}
use Rattle.sort_rules.specs.TokenOrder.{token_order}
use Rattle.sort_rules.specs.Puts.{Puts}
use Rattle.sort_rules.specs.Views.{pair_of}
use Rattle.sort_rules.specs.declared.set.Set.{Set}

-- a token with its set in memory
abbrev pub Pair : Type 0
Pair = Bor (List ℕ) × Set

-- what is chosen by the tests of an order
if_less : {A : Type 0} (p q : Bool) (a b c : A) → cond p Less (cond q Greater Equal) ≡ Less → cond p a (cond q b c) ≡ a
if_less true q a b c e = refl
if_less false true a b c e = absurd {0} (cc)
if_less false false a b c e = absurd {0} (cc)

if_greater : {A : Type 0} (p q : Bool) (a b c : A) → cond p Less (cond q Greater Equal) ≡ Greater → cond p a (cond q b c) ≡ b
if_greater true q a b c e = absurd {0} (cc)
if_greater false true a b c e = refl
if_greater false false a b c e = absurd {0} (cc)

if_equal : {A : Type 0} (p q : Bool) (a b c : A) → cond p Less (cond q Greater Equal) ≡ Equal → cond p a (cond q b c) ≡ c
if_equal true q a b c e = absurd {0} (cc)
if_equal false true a b c e = absurd {0} (cc)
if_equal false false a b c e = refl

append_one : (xs : List Component) (x : Component) (zs : List Component) → (xs ++ x ∷ []) ++ zs ≡ xs ++ x ∷ zs
append_one [] x zs = refl
append_one (y ∷ xs) x zs = ap (λ (ys : List Component). y ∷ ys) (append_one xs x zs)

-- so far no token has been found that isn't less
pub record IsPassed (ps : List Pair) (t : Token) (i : ℕ) : Type 0 where
  pub passed : (c : Component) → c.token ≡ t → bind_component c (map pair_of ps) ≡ map pair_of (take i ps) ++ bind_component c (map pair_of (drop i ps))

pub passed_none : (ps : List Pair) (t : Token) → IsPassed ps t 0
passed_none ps t = record { passed = λ c e. refl }

-- a pair of the token stands before what is bound last
put_so : (ps : List Pair) (t : Token) (i : ℕ) → IsPassed ps t i → (p : Pair) (back : List Pair) → p.0.now ≡ t →
    pair_of p ∷ map pair_of back ≡ bind_component (pair_of p) (map pair_of (drop i ps)) →
    map pair_of (take i ps ++ p ∷ back) ≡ bind_component (pair_of p) (map pair_of ps)
put_so ps t i h p back e q =
    map-append pair_of (take i ps) (p ∷ back) ∙ ap (λ (zs : List Component). map pair_of (take i ps) ++ zs) q ∙ sym (h.passed (pair_of p) e)

pub put_last : (ps : List Pair) (t : Token) → IsPassed ps t (length ps) → Puts ps t (take (length ps) ps) (drop (length ps) ps)
put_last ps t h p e = put_so ps t (length ps) h p (drop (length ps) ps) e (last (drop (length ps) ps) (drop-length ps))
  where
    last : (back : List Pair) → back ≡ [] → pair_of p ∷ map pair_of back ≡ bind_component (pair_of p) (map pair_of back)
    last back e = ap (λ (k : List Pair). pair_of p ∷ map pair_of k) e ∙ sym (ap (λ (k : List Pair). bind_component (pair_of p) (map pair_of k)) e)

module _ (ps : List Pair) (t : Token) (i : ℕ) (d : Pair) (within : i < length ps) (h : IsPassed ps t i) where
  here : (c : Component) → bind_component c (map pair_of (drop i ps)) ≡ bind_component c (pair_of (get_or ps i d) ∷ map pair_of (drop (i + 1) ps))
  here c = ap (λ (zs : List Component). bind_component c zs) (ap (map pair_of) (drop_more ps i d within))

  pub put_before : token_order t (get_or ps i d).0.now ≡ Less → Puts ps t (take i ps) (drop i ps)
  put_before o p e = put_so ps t i h p (drop i ps) e (
      ap (λ (zs : List Component). pair_of p ∷ zs) (ap (map pair_of) (drop_more ps i d within))
      ∙ sym (here (pair_of p) ∙ if_less (token_lt p.0.now (get_or ps i d).0.now) (token_lt (get_or ps i d).0.now p.0.now) _ _ _ (ap (λ (v : Token). token_order v (get_or ps i d).0.now) e ∙ o)))

  pub put_at : token_order t (get_or ps i d).0.now ≡ Equal → Puts ps t (take i ps) (drop (suc i) ps)
  put_at o p e = put_so ps t i h p (drop (suc i) ps) e (
      sym (here (pair_of p) ∙ if_equal (token_lt p.0.now (get_or ps i d).0.now) (token_lt (get_or ps i d).0.now p.0.now) _ _ _ (ap (λ (v : Token). token_order v (get_or ps i d).0.now) e ∙ o) ∙ rw add-one refl))

  pub passed_more : token_order t (get_or ps i d).0.now ≡ Greater → IsPassed ps t (i + 1)
  passed_more o = record {
    passed = λ c e.
        h.passed c e
        ∙ ap (λ (zs : List Component). map pair_of (take i ps) ++ zs) (here c ∙ if_greater (token_lt c.token (get_or ps i d).0.now) (token_lt (get_or ps i d).0.now c.token) _ _ _ (ap (λ (v : Token). token_order v (get_or ps i d).0.now) e ∙ o))
        ∙ sym (more (bind_component c (map pair_of (drop (i + 1) ps))));
  }
    where
      more : (zs : List Component) → map pair_of (take (i + 1) ps) ++ zs ≡ map pair_of (take i ps) ++ pair_of (get_or ps i d) ∷ zs
      more zs = ap (λ (ys : List Pair). map pair_of ys ++ zs) (take_more ps i d within) ∙ ap (λ (ys : List Component). ys ++ zs) (map-append pair_of (take i ps) (get_or ps i d ∷ [])) ∙ append_one (map pair_of (take i ps)) (pair_of (get_or ps i d)) zs

-- a pair written over that of its token
pub set-put : (ps xs : List Pair) (i : ℕ) (p : Pair) → ps ≡ xs → i < length ps → Puts ps p.0.now (take i ps) (drop (suc i) ps) →
    map pair_of (set xs i p) ≡ bind_component (pair_of p) (map pair_of xs)
set-put ps xs i p e h q =
    subst (λ (ys : List Pair). map pair_of (set ys i p) ≡ bind_component (pair_of p) (map pair_of ys)) e
    (ap (map pair_of) (set_split ps i p h) ∙ q p refl)
