-- The place of a token among bindings in memory.
use Rattle.std.proofs.Common.{◌≡◌, ℕ, suc, ◌+◌, ◌<◌, Bool, true, false, cond, List, [], Some, None, length, take, drop, get_or, refl, sym, ap, ◌∙◌, add-one}
use Rattle.std.specs.Prelude.{is_some}
use Rattle.std.proofs.Math.Seq.{drop-length}
use Rattle.std.specs.declared.cmp.Ordering.TheVariants.{Less, Equal, Greater}
use Rattle.action_terms.specs.Information.{Token, Datum as Meant, Binds, NoBinds, Bound}
use Rattle.action_terms.specs.Bindings.{token_lt, bind, overlaid, lookup, meets}
use Rattle.action_values.specs.Ascending.{IsBelow, AreAscending}
use Rattle.action_values.specs.TokenOrder.{token_order}
use Rattle.action_values.specs.Puts.{Puts, Lacks, before}
use Rattle.action_values.specs.Values.{meant, bindings_of}
use Rattle.action_values.proofs.BindingLists.{bindings_of-drop, before-take}
use Rattle.action_values.proofs.Overlaying.{token_lt-asym, below-trans, overlaid-less, overlaid-same, overlaid-greater, overlaid-none, overlaid-more, meets-past}
use Rattle.action_values.specs.declared.datum.Binding.{Binding}

-- what the tests of an order say
less_by : (p q : Bool) → cond p Less (cond q Greater Equal) ≡ Less → p ≡ true
less_by true q e = refl
less_by false true e = cc
less_by false false e = cc

greater_by : (p q : Bool) → cond p Less (cond q Greater Equal) ≡ Greater → q ≡ true
greater_by true q e = cc
greater_by false true e = refl
greater_by false false e = cc

equal_by : (p q : Bool) → cond p Less (cond q Greater Equal) ≡ Equal → (p ≡ false) × (q ≡ false)
equal_by true q e = cc
equal_by false true e = cc
equal_by false false e = (refl, refl)

-- the first i bindings are those of lesser tokens
pub record IsPassed (bs : List Binding) (t : Token) (i : ℕ) : Type 0 where
  pub over : (x : Meant) (over : Binds) → IsBelow t over → AreAscending over →
      overlaid (bindings_of bs) (Bound t x over) ≡ before (take i bs) (overlaid (bindings_of (drop i bs)) (Bound t x over))
  pub found : lookup t (bindings_of bs) ≡ lookup t (bindings_of (drop i bs))
  pub met : (more : Binds) → IsBelow t more → AreAscending more → meets more (bindings_of bs) ≡ meets more (bindings_of (drop i bs))

pub passed_none : (bs : List Binding) (t : Token) → IsPassed bs t 0
passed_none bs t = record { over = λ x over h s. refl; found = refl; met = λ more h s. refl }

over_none : (t : Token) (x : Meant) (over : Binds) (back : List Binding) → back ≡ [] →
    overlaid (bindings_of back) (Bound t x over) ≡ Bound t x (overlaid (bindings_of back) over)
over_none t x over back e = ap (λ k. overlaid (bindings_of k) (Bound t x over)) e ∙ sym (ap (λ k. Bound t x (overlaid (bindings_of k) over)) e)

module _ (bs : List Binding) (t : Token) (p : IsPassed bs t (length bs)) where
  pub put_last : Puts bs t (take (length bs) bs) (drop (length bs) bs)
  put_last = record {
    over = λ x over h s. p.over x over h s ∙ ap (before (take (length bs) bs)) (over_none t x over (drop (length bs) bs) (drop-length bs));
  }

  pub lacks_last : Lacks bs t (drop (length bs) bs)
  lacks_last = record { unbound = p.found ∙ ap (λ k. lookup t (bindings_of k)) (drop-length bs); met = p.met }

module _ (bs : List Binding) (t : Token) (i : ℕ) (d : Binding) (within : i < length bs) (p : IsPassed bs t i) where
  -- the binding at i, and those behind it
  u : Token
  u = (get_or bs i d).token.now

  y : Meant
  y = meant (get_or bs i d).datum

  rest : Binds
  rest = bindings_of (drop (i + 1) bs)

  here : bindings_of (drop i bs) ≡ Bound u y rest
  unfolding u y rest
  here = bindings_of-drop bs i d within

  pub put_before : token_order t (get_or bs i d).token.now ≡ Less → Puts bs t (take i bs) (drop i bs)
  unfolding u y rest
  put_before o = record {
    over = λ x over h s.
        p.over x over h s
        ∙ ap (before (take i bs)) (
        ap (λ b. overlaid b (Bound t x over)) here
        ∙ overlaid-less t u x y rest over h s (less_by (token_lt t u) (token_lt u t) o)
        ∙ sym (ap (λ b. Bound t x (overlaid b over)) here));
  }

  pub lacks : token_order t (get_or bs i d).token.now ≡ Less → Lacks bs t (drop i bs)
  unfolding u y rest
  lacks o = record {
    unbound =
        p.found ∙ ap (lookup t) here
        ∙ ap (λ q. cond q None (cond (token_lt u t) (lookup t rest) (Some y))) (less_by (token_lt t u) (token_lt u t) o);
    met = p.met;
  }

  pub put_at : token_order t (get_or bs i d).token.now ≡ Equal → Puts bs t (take i bs) (drop (suc i) bs)
  unfolding u y rest
  put_at o = record {
    over = λ x over h s.
        let e : (token_lt t u ≡ false) × (token_lt u t ≡ false) = equal_by (token_lt t u) (token_lt u t) o in
        p.over x over h s
        ∙ ap (before (take i bs)) (
        ap (λ b. overlaid b (Bound t x over)) here
        ∙ overlaid-same t u x y rest over h s e.0 e.1
        ∙ ap (λ k. Bound t x (overlaid (bindings_of (drop k bs)) over)) (add-one i));
  }

  pub found_at : token_order t (get_or bs i d).token.now ≡ Equal → is_some (lookup t (bindings_of bs)) ≡ true
  unfolding u y rest
  found_at o =
      let e : (token_lt t u ≡ false) × (token_lt u t ≡ false) = equal_by (token_lt t u) (token_lt u t) o in
      ap is_some (p.found ∙ ap (lookup t) here)
      ∙ ap (λ q. is_some (cond q None (cond (token_lt u t) (lookup t rest) (Some y)))) e.0
      ∙ ap (λ q. is_some (cond q (lookup t rest) (Some y))) e.1

  pub passed_more : token_order t (get_or bs i d).token.now ≡ Greater → IsPassed bs t (i + 1)
  unfolding u y rest
  passed_more o =
      let less : token_lt u t ≡ true = greater_by (token_lt t u) (token_lt u t) o in
      record {
        over = λ x over h s.
            p.over x over h s
            ∙ ap (before (take i bs)) (ap (λ b. overlaid b (Bound t x over)) here ∙ overlaid-greater t u x y rest over h s less)
            ∙ sym (before-take bs i d (overlaid rest (Bound t x over)) within);
        found =
            p.found ∙ ap (lookup t) here
            ∙ ap (λ q. cond q None (cond (token_lt u t) (lookup t rest) (Some y))) (token_lt-asym u t less)
            ∙ ap (λ q. cond q (lookup t rest) (Some y)) less;
        met = λ more h s. p.met more h s ∙ ap (meets more) here ∙ meets-past u y rest more (below-trans u t more less h) s;
      }

-- a token put among bindings is bound
pub bound-put : (bs : List Binding) (t : Token) (front back : List Binding) (x : Meant) → Puts bs t front back →
    before front (Bound t x (bindings_of back)) ≡ bind t x (bindings_of bs)
bound-put bs t front back x p =
    ap (λ b. before front (Bound t x b)) (sym (overlaid-none (bindings_of back)))
    ∙ sym (p.over x NoBinds tt tt)
    ∙ overlaid-more (bindings_of bs) t x NoBinds tt
    ∙ ap (bind t x) (overlaid-none (bindings_of bs))
