-- Bindings with their tokens ascending.
use Rattle.std.specs.Prelude.{◌≡◌, true}
use Rattle.action_terms.specs.Information.{Token, Binds, NoBinds, Bound}
use Rattle.action_terms.specs.Bindings.{token_lt}

-- the token is less than that of the first binding
abbrev pub IsBelow : Token → Binds → Type 0
IsBelow t NoBinds = Unit {0}
IsBelow t (Bound u x rest) = token_lt t u ≡ true

-- each token is less than the next one
abbrev pub AreAscending : Binds → Type 0
AreAscending NoBinds = Unit {0}
AreAscending (Bound t x rest) = IsBelow t rest × AreAscending rest
