-- What private functions of the reader find.
use Rattle.std.specs.Prelude.{Option, Some, option_map}
use Rattle.meta_terms.specs.PlainItems.{PlainItem, plain_item}
use Rattle.meta_reader.specs.declared.phase.Phase.{Phase}
use Rattle.meta_reader.specs.declared.runs.Step.{Step}
use Rattle.meta_reader.specs.Descriptions.{Steps}
use Rattle.meta_reader.specs.Parsing.{Finds}
use Rattle.meta_reader.specs.ItemForms.{Tokens}

-- the item of a run, where it has one, and the phase behind it
pub record PlainStep : Type 0 where
  pub item : Option PlainItem
  pub next : Phase

-- a step outside an arena
abbrev pub plain_step : Step → PlainStep
plain_step s = record { item = option_map plain_item s.item; next = s.next }

-- by an item to a phase
abbrev pub step_by : Phase → PlainItem → PlainStep
step_by next item = record { item = Some item; next = next }

-- the step of a run in its phase; where there is none, the run is none there
abbrev pub FindsStep : Phase → Tokens → Option PlainStep → Type 0
FindsStep phase run o = Finds (λ (s : PlainStep). Steps phase run s.item s.next) o
