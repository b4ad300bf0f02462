-- Bindings as finite maps from tokens to data.
use Rattle.std.specs.Prelude.{Bool, true, false, [], ◌∷◌, Option, Some, None, is_some, nat_lt, if◌then◌else◌}
use Rattle.action_terms.specs.Information.{Token, Datum, Binds, NoBinds, Bound}

-- the order of tokens, by their bytes: a prefix comes first
abbrev pub token_lt : Token → Token → Bool
token_lt [] [] = false
token_lt [] (y ∷ ys) = true
token_lt (x ∷ xs) [] = false
token_lt (x ∷ xs) (y ∷ ys) = if nat_lt x y then true else if nat_lt y x then false else token_lt xs ys

-- the bindings with the token bound to x, in place of what it was bound to
abbrev pub bind : Token → Datum → Binds → Binds
bind t x NoBinds = Bound t x NoBinds
bind t x (Bound u y rest) =
    if token_lt t u then Bound t x (Bound u y rest) else if token_lt u t then Bound u y (bind t x rest) else Bound t x rest

-- b1 overlaid by b2: where both bind a token, b2 counts
abbrev pub overlaid : Binds → Binds → Binds
overlaid NoBinds b2 = b2
overlaid b1 NoBinds = b1
overlaid b1 (Bound t x rest) = bind t x (overlaid b1 rest)

-- what the token is bound to
abbrev pub lookup : Token → Binds → Option Datum
lookup t NoBinds = None
lookup t (Bound u x rest) = if token_lt t u then None else if token_lt u t then lookup t rest else Some x

-- some token is bound in both
abbrev pub meets : Binds → Binds → Bool
meets NoBinds b2 = false
meets (Bound t x rest) b2 = if is_some (lookup t b2) then true else meets rest b2
