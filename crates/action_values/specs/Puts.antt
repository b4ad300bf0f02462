-- Where the bindings of a token are put among others.
use Rattle.std.specs.Prelude.{◌≡◌, List, [], ◌∷◌, None}
use Rattle.action_terms.specs.Information.{Token, Datum, Binds, Bound}
use Rattle.action_terms.specs.Bindings.{overlaid, lookup, meets}
use Rattle.action_values.specs.Ascending.{IsBelow, AreAscending}
use Rattle.action_values.specs.Values.{meant, bindings_of}
use Rattle.action_values.specs.declared.datum.Binding.{Binding}

-- these bindings before others
abbrev pub before : List Binding → Binds → Binds
before [] rest = rest
before (b ∷ bs) rest = Bound b.token.now (meant b.datum) (before bs rest)

-- where the bindings bs are overlaid by one of the token and then others, it comes between front and back, and only back is left to be overlaid
pub record Puts (bs : List Binding) (t : Token) (front back : List Binding) : Type 0 where
  pub over : (x : Datum) (over : Binds) → IsBelow t over → AreAscending over →
      overlaid (bindings_of bs) (Bound t x over) ≡ before front (Bound t x (overlaid (bindings_of back) over))

-- the bindings bs don't bind the token; greater tokens are bound in them where they are bound in back
pub record Lacks (bs : List Binding) (t : Token) (back : List Binding) : Type 0 where
  pub unbound : lookup t (bindings_of bs) ≡ None
  pub met : (more : Binds) → IsBelow t more → AreAscending more → meets more (bindings_of bs) ≡ meets more (bindings_of back)
