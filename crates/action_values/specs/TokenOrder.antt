-- The order of tokens, as an ordering.
use Rattle.std.specs.Prelude.{if◌then◌else◌}
use Rattle.std.specs.declared.cmp.Ordering.{Ordering}
use Rattle.std.specs.declared.cmp.Ordering.TheVariants.{Less, Equal, Greater}
use Rattle.action_terms.specs.Information.{Token}
use Rattle.action_terms.specs.Bindings.{token_lt}

abbrev pub token_order : Token → Token → Ordering
token_order t u = if token_lt t u then Less else if token_lt u t then Greater else Equal
