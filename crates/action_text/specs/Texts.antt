-- The bytes of tokens.
use Rattle.std.specs.Prelude.{ℕ, List, map}
use Rattle.meta_lex.specs.declared.token.Token.{Token}

abbrev pub texts : List Token → List (List ℕ)
texts tokens = map (λ (t : Token). t.bytes.now) tokens
