-- The input of a command: a file, or nothing.
use Rattle.std.specs.Prelude.{◌≡◌, ℕ, ◌<◌, ◌≤◌, List, [], ◌∷◌, length, Option, Some, None}
use Rattle.acg_base.specs.declared.limits.TheConstants.{LIMIT_INPUT}
use Rattle.acg_words.specs.declared.line.Line.{Line}
use Rattle.acg_words.specs.declared.line.Line.TheVariants.{LimitInput, Memory}
use Rattle.acg_driver.specs.Texts.{IsUnread}

-- the bytes of an input, from what its file gave, which are at most so many; without a file there are none
abbrev pub IsBytesOf : (input : Option (List ℕ)) → (givens : List (List ℕ)) → (bytes : List ℕ) → Type 0
IsBytesOf None [] bytes = bytes ≡ []
IsBytesOf (Some input) (given ∷ []) bytes = (length given ≤ LIMIT_INPUT) × (bytes ≡ given)
IsBytesOf _ _ bytes = ⊥

-- the line with which bytes are refused as an input: they are too many, or memory runs out
abbrev pub RefusesBytes : (bytes : List ℕ) → Line → Type 0
RefusesBytes bytes LimitInput = LIMIT_INPUT < length bytes
RefusesBytes bytes Memory = Unit {0}
RefusesBytes bytes _ = ⊥

-- the line with which an input is refused, from what its file gave: the file isn't read, or is too long
abbrev pub RefusesInput : (input : Option (List ℕ)) → (givens : List (List ℕ)) → Line → Type 0
RefusesInput (Some input) [] line = IsUnread input line
RefusesInput (Some input) (bytes ∷ []) line = RefusesBytes bytes line
RefusesInput _ _ line = ⊥
