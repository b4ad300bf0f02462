-- Slots of bindings that are overlaid or united: no word moves.
use Rattle.std.proofs.Common.{◌≡◌, ◌≢◌, ◌⊎◌, ℕ, List, [], ◌∷◌, Option, Some, None, refl, sym, ap, ◌∙◌, subst, ⊎_elim, true, false}
use Rattle.action_terms.specs.Information.{Token, Datum, Binds, NoBinds, Bound}
use Rattle.action_terms.specs.Bindings.{token_lt, bind, overlaid, lookup}
use Rattle.action_terms.specs.Performances.{OneOf, Here, Later}
use Rattle.rv_asm.specs.DataWords.{Heap}
use Rattle.rv_codegen.proofs.Holding.{Slot, HoldsSlot, HoldsBinds}
use Rattle.rv_codegen.proofs.Tokens.{Order, Less, More, Same, order, found_before, found_behind, found_here, found_bound, found_other, lt_irrefl, lt_asym, Ascending}

lt-differs : (t u : Token) → token_lt t u ≡ true → t ≢ u
lt-differs t u f z = let r : true ≡ false = sym f ∙ ap (λ w. token_lt t w) (sym z) ∙ lt_irrefl t in cc

-- what the second bindings bind counts
pub overlaid-second : (t : Token) (b1 b2 : Binds) (x : Datum) → Ascending b2 → lookup t b2 ≡ Some x → lookup t (overlaid b1 b2) ≡ Some x
overlaid-second t NoBinds b2 x asc e = e
overlaid-second t (Bound v z more) NoBinds x asc e = absurd (let r : None ≡ Some x = e in cc)
overlaid-second t (Bound v z more) (Bound u y rest) x asc e = by (overlaid-second t (Bound v z more) rest x asc.1) (order t u)
  where
    b1 : Binds
    b1 = Bound v z more

    by : (lookup t rest ≡ Some x → lookup t (overlaid (Bound v z more) rest) ≡ Some x) → Order t u → lookup t (bind u y (overlaid (Bound v z more) rest)) ≡ Some x
    by ih (Less f) = absurd (let r : None ≡ Some x = sym (found_before t u y rest f) ∙ e in cc)
    by ih (More f) = found_other t u y (overlaid (Bound v z more) rest) (λ q. lt-differs u t f (sym q)) ∙ ih (sym (found_behind t u y rest f) ∙ e)
    by ih (Same f) = subst (λ u'. lookup t (bind u' y (overlaid (Bound v z more) rest)) ≡ Some x) f (found_bound t y (overlaid (Bound v z more) rest) ∙ sym (found_here t y rest) ∙ subst (λ u'. lookup t (Bound u' y rest) ≡ Some x) (sym f) e)

not-behind : (t u : Token) (rest : Binds) (o : Option Datum) → ((v : Token) (x : Datum) → lookup v rest ≡ Some x → token_lt u v ≡ true) → token_lt t u ≡ true → lookup t rest ≡ o → lookup t rest ≡ None
not-behind t u rest None asc f q = q
not-behind t u rest (Some x) asc f q = absurd (let r : true ≡ false = sym (asc t x q) ∙ lt_asym t u f in cc)

-- elsewhere the first count
pub overlaid-first : (t : Token) (b1 b2 : Binds) → Ascending b2 → lookup t b2 ≡ None → lookup t (overlaid b1 b2) ≡ lookup t b1
overlaid-first t NoBinds b2 asc e = e
overlaid-first t (Bound v z more) NoBinds asc e = refl
overlaid-first t (Bound v z more) (Bound u y rest) asc e = by (overlaid-first t (Bound v z more) rest asc.1) (order t u)
  where
    by : (lookup t rest ≡ None → lookup t (overlaid (Bound v z more) rest) ≡ lookup t (Bound v z more)) → Order t u → lookup t (bind u y (overlaid (Bound v z more) rest)) ≡ lookup t (Bound v z more)
    by ih (Less f) = found_other t u y (overlaid (Bound v z more) rest) (lt-differs t u f) ∙ ih (not-behind t u rest (lookup t rest) asc.0 f refl)
    by ih (More f) = found_other t u y (overlaid (Bound v z more) rest) (λ q. lt-differs u t f (sym q)) ∙ ih (sym (found_behind t u y rest f) ∙ e)
    by ih (Same f) = absurd (let r : Some y ≡ None = sym (found_here t y rest) ∙ subst (λ u'. lookup t (Bound u' y rest) ≡ None) (sym f) e in cc)

module _ (base : ℕ) (heap : Heap) (words : List ℕ) (f : ℕ) where
  pub slot-of : (b : Binds) (s : Slot) (ss : List Slot) → OneOf s ss → HoldsBinds base heap words f ss b → HoldsSlot base heap words f s b
  slot-of b s _ Here h = h.0
  slot-of b s _ (Later m) h = slot-of b s _ m h.1

  -- each slot is one of the second's, or one of the first's for a token that the second doesn't bind
  abbrev pub AreOver : (s1 s2 : List Slot) → Binds → List Slot → Type 0
  AreOver s1 s2 b2 [] = Unit {0}
  AreOver s1 s2 b2 (s ∷ ss) = (OneOf s s2 ⊎ (OneOf s s1 × (lookup s.token b2 ≡ None))) × AreOver s1 s2 b2 ss

  pub holds-overlaid : (s1 s2 ss : List Slot) (b1 b2 : Binds) → Ascending b2 → HoldsBinds base heap words f s1 b1 → HoldsBinds base heap words f s2 b2 → AreOver s1 s2 b2 ss → HoldsBinds base heap words f ss (overlaid b1 b2)
  holds-overlaid s1 s2 [] b1 b2 asc h1 h2 o = tt
  holds-overlaid s1 s2 (s ∷ ss) b1 b2 asc h1 h2 o = (
    ⊎_elim
        (λ m. let x = slot-of b2 s s2 m h2 in record { datum = x.datum; is = overlaid-second s.token b1 b2 x.datum asc x.is; stands = x.stands })
        (λ m. let x = slot-of b1 s s1 m.0 h1 in record { datum = x.datum; is = overlaid-first s.token b1 b2 asc m.1 ∙ x.is; stands = x.stands })
        o.0,
    holds-overlaid s1 s2 ss b1 b2 asc h1 h2 o.1,
  )
