-- What checking items answers, and when each error comes.
use Rattle.std.specs.Prelude.{ℕ, List, Option, Some, None}
use Rattle.meta_terms.specs.PlainItems.{PlainItem}
use Rattle.meta_check.specs.declared.errors.MetaError.{MetaError}
use Rattle.meta_check.specs.declared.errors.MetaError.TheVariants as error
use Rattle.meta_check.specs.Rules.{Rule, Holds, IsFirstBreach, IsFirstBroken}

-- the first item that breaks a rule, or none where no item does
abbrev pub FindsBreach : Rule → List PlainItem → Option ℕ → Type 0
FindsBreach rule items None = Holds rule items
FindsBreach rule items (Some k) = IsFirstBreach rule items k

-- want of memory is free to come; a rule is the first that is broken, with the first item that
-- breaks it
abbrev pub IsMetaError : List PlainItem → MetaError → Type 0
IsMetaError items error.Memory = Unit {0}
IsMetaError items (error.Rule number item) = IsFirstBroken items number item
