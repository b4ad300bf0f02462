-- The command `act [stack=N] [units=N] [budget=N] ACTION [INPUT]`.
use Rattle.std.specs.Prelude.{◌≡◌, ◌⊎◌, ℕ, List, [], ◌∷◌, Option}
use Rattle.acg_base.specs.declared.capacity.Capacity.{Capacity}
use Rattle.acg_base.specs.declared.status.Status.{Status}
use Rattle.action_terms.specs.Numbering.{Listed}
use Rattle.action_terms.specs.Actions.{Action}
use Rattle.action_terms.specs.Meaning.{action_of}
use Rattle.rv_codegen.specs.Built.{unbuilt}
use Rattle.sort_rules.specs.Admissible.{IsWellSorted}
use Rattle.sort_rules.specs.Tables.{MarkedTable}
use Rattle.acg_words.specs.declared.line.Line.{Line}
use Rattle.acg_words.specs.declared.line.Line.TheVariants.{IllSorted, Memory, Unbuilt}
use Rattle.acg_driver.specs.Texts.{Reads, RefusesText, IsUnread}
use Rattle.acg_driver.specs.Inputs.{IsBytesOf, RefusesInput}
use Rattle.acg_driver.specs.Compiling.{IsCompiled, IsUncompiledFor}
use Rattle.acg_driver.specs.declared.compiling.Built.{Built}
use Rattle.acg_driver.specs.declared.compiling.CompileError.TheVariants as error
use Rattle.acg_driver.specs.Runs.{IsRun, IsLoaded}
use Rattle.acg_driver.specs.declared.running.Ready.{Ready}

-- the line with which an action isn't compiled, from why it isn't
abbrev pub IsCompileLine : Action → Line → Type 0
IsCompileLine a (IllSorted node) = IsUncompiledFor a (error.IllSorted node)
IsCompileLine a (Unbuilt node) = IsUncompiledFor a (error.Unbuilt node)
IsCompileLine a Memory = IsUncompiledFor a error.Memory
IsCompileLine a _ = ⊥

-- the line with which bytes that are an action's text aren't compiled; want of memory isn't among them
abbrev pub IsUncompiled : (bytes : List ℕ) → Line → Type 0
IsUncompiled bytes (IllSorted node) = (g : Listed) × Reads bytes g × IsUncompiledFor (action_of g) (error.IllSorted node)
IsUncompiled bytes (Unbuilt node) = (g : Listed) × Reads bytes g × IsUncompiledFor (action_of g) (error.Unbuilt node)
IsUncompiled bytes _ = ⊥

-- the bytes are the text of the graph, and all nodes of its action have code
abbrev pub IsBuilt : (bytes : List ℕ) → Listed → Type 0
IsBuilt bytes g = Reads bytes g × (unbuilt (action_of g) ≡ [])

-- they are the text of an action that is compiled
abbrev pub IsCompilable : (bytes : List ℕ) → Type 0
IsCompilable bytes = (g : Listed) × IsBuilt bytes g × IsWellSorted (action_of g)

-- the input is read where the action is compiled
abbrev pub GoesOnAct : (givens : List (List ℕ)) → Type 0
GoesOnAct (bytes ∷ []) = IsCompilable bytes
GoesOnAct _ = ⊥

-- the line with which it is refused, from what its files gave: the action's file isn't read, is no action, or one that
-- isn't compiled, and then the input's file isn't read or is too long
abbrev pub RefusesAct : (action : List ℕ) → (input : Option (List ℕ)) → (givens : List (List ℕ)) → Line → Type 0
RefusesAct action input [] line = IsUnread action line
RefusesAct action input (bytes ∷ givens) line =
    ((givens ≡ []) × (RefusesText bytes line ⊎ IsUncompiled bytes line)) ⊎ (IsCompilable bytes × RefusesInput input givens line)

-- what is said where it isn't refused: the run of the action on the input
abbrev pub RunsAct : Capacity → (budget : ℕ) → (input : Option (List ℕ)) → (givens : List (List ℕ)) → (text : List ℕ) → Status → Type 0
RunsAct capacity budget input [] text status = ⊥
RunsAct capacity budget input (bytes ∷ givens) text status =
    (g : Listed) × IsBuilt bytes g × ((left : List ℕ) × IsBytesOf input givens left × IsRun g capacity budget left text status)

-- the action that the bytes spell is compiled for the capacity
abbrev pub BuildsAct : (bytes : List ℕ) → Capacity → Built → Type 0
BuildsAct bytes capacity built = (g : Listed) × Reads bytes g × ((t : MarkedTable) × IsCompiled g t capacity built)

-- that run is loaded, beside its input
abbrev pub StartsAct : Capacity → (input : Option (List ℕ)) → (givens : List (List ℕ)) → Ready → Type 0
StartsAct capacity input [] ready = ⊥
StartsAct capacity input (bytes ∷ givens) ready =
    (g : Listed) × IsBuilt bytes g × (IsBytesOf input givens ready.input.items × IsLoaded g capacity ready.loaded)
