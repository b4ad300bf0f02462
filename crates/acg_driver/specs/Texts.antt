-- What the bytes of a file are: an action's text, or no such text.
use Rattle.std.specs.Prelude.{◌≡◌, ◌<◌, ◌≤◌, ℕ, List, length}
use Rattle.acg_base.specs.declared.limits.TheConstants.{LIMIT_ACTION}
use Rattle.action_terms.specs.Numbering.{Listed}
use Rattle.action_text.specs.Answers.{IsTextError, IsReadAs}
use Rattle.action_text.specs.declared.errors.TextError.{TextError}
use Rattle.action_text.specs.declared.errors.TextError.TheVariants as error
use Rattle.acg_words.specs.declared.line.Line.{Line}
use Rattle.acg_words.specs.declared.line.Line.TheVariants.{Memory, ReadFault, LimitAction, LimitNodes, ActionByte, ActionText, StrayUnfold}

-- the reading of bytes that aren't too many ends with an error
abbrev pub Errs : List ℕ → TextError → Type 0
Errs bytes e = (length bytes ≤ LIMIT_ACTION) × IsTextError bytes e

-- bytes that aren't too many are the text of the graph
abbrev pub Reads : List ℕ → Listed → Type 0
Reads bytes g = (length bytes ≤ LIMIT_ACTION) × IsReadAs bytes g

-- the line with which bytes are refused as an action: they are too many, are no text, or have too many nodes or a stray
-- `unfold`. Memory may run out
abbrev pub RefusesText : (bytes : List ℕ) → Line → Type 0
RefusesText bytes LimitAction = LIMIT_ACTION < length bytes
RefusesText bytes LimitNodes = Errs bytes error.Nodes
RefusesText bytes (ActionByte offset) = Errs bytes (error.BadByte offset)
RefusesText bytes (ActionText offset) = Errs bytes (error.NotAction offset)
RefusesText bytes (StrayUnfold node) = Errs bytes (error.StrayUnfold node)
RefusesText bytes Memory = Unit {0}
RefusesText bytes _ = ⊥

-- the line of a file that isn't read: its read failed, or memory ran out
abbrev pub IsUnread : (name : List ℕ) → Line → Type 0
IsUnread name (ReadFault other) = other ≡ name
IsUnread name Memory = Unit {0}
IsUnread name _ = ⊥
