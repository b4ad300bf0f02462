-- Bindings that are made of sound ones are sound, with their tokens in order.
use Rattle.std.proofs.Common.{ℕ, Bool, true, false}
use Rattle.std.specs.Prelude.{Option, Some, None, IfSome, if◌then◌else◌}
use Rattle.action_terms.specs.Information.{Token, Datum, Closure, Binds, NoBinds, Bound}
use Rattle.action_terms.specs.Bindings.{token_lt, bind, overlaid, lookup}
use Rattle.action_terms.specs.Steps.{own_binds}
use Rattle.action_terms.specs.Sound.{Known, IsSoundDatum, AreSoundBinds}
use Rattle.action_terms.proofs.TokenLaws.{of_test, precedes-bind, precedes-same}

-- what holds of both choices holds of the one that is taken
pub of_choice : {X : Type 0} (P : X → Type 0) (q : Bool) (x y : X) → P x → P y → P (if q then x else y)
of_choice P true x y first second = first
of_choice P false x y first second = second

module _ (known : Known) where
  pub sound-bind : (t : Token) (x : Datum) (b : Binds) → IsSoundDatum known x → AreSoundBinds known b → AreSoundBinds known (bind t x b)
  sound-bind t x NoBinds here all = (here, all, tt)
  sound-bind t x (Bound u y rest) here all =
      of_test (AreSoundBinds known) (token_lt t u) _ _ (λ less. (here, all, less))
      (λ not_less. of_test (AreSoundBinds known) (token_lt u t) _ _ (λ more. (all.0, sound-bind t x rest here all.1, precedes-bind u t x rest more all.2))
      (λ not_more. (here, all.1, precedes-same t u rest not_less not_more all.2)))

  pub sound-overlaid : (b1 b2 : Binds) → AreSoundBinds known b1 → AreSoundBinds known b2 → AreSoundBinds known (overlaid b1 b2)
  sound-overlaid NoBinds b2 first second = second
  sound-overlaid (Bound u y more) NoBinds first second = first
  sound-overlaid (Bound u y more) (Bound t x rest) first second =
      sound-bind t x (overlaid (Bound u y more) rest) second.0 (sound-overlaid (Bound u y more) rest first second.1)

  pub sound-lookup : (t : Token) (b : Binds) → AreSoundBinds known b → IfSome (lookup t b) (IsSoundDatum known)
  sound-lookup t NoBinds all = tt
  sound-lookup t (Bound u x rest) all =
      let P : Option Datum → Type 0 = λ o. IfSome o (IsSoundDatum known) in
      of_choice P (token_lt t u) None _ tt (of_choice P (token_lt u t) _ (Some x) (sound-lookup t rest all.1) all.0)

  -- the body's bindings of a sound closure
  pub sound-own_binds : (c : ℕ) (b : Binds) (own : Option Token) → known.body c → AreSoundBinds known b → AreSoundBinds known (own_binds c b own)
  sound-own_binds c b None less all = all
  sound-own_binds c b (Some t) less all = sound-bind t (Closure c b (Some t)) b (less, all) all
