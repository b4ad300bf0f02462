-- The command `perform N ACTION [INPUT]`.
use Rattle.std.specs.Prelude.{◌≡◌, ◌⊎◌, ℕ, ◌<◌, ◌≤◌, ℤ, List, [], ◌∷◌, length, Option, Some, None}
use Rattle.acg_base.specs.declared.status.Status.{Status}
use Rattle.action_terms.specs.Acting.{End, Done, Esc, Fail, Tree, Ended}
use Rattle.action_terms.specs.Steps.{Step}
use Rattle.action_terms.specs.Performances.{State, start, records}
use Rattle.action_terms.specs.Numbering.{Listed}
use Rattle.action_terms.specs.Meaning.{action_of}
use Rattle.action_sos.specs.Performers.{Performing}
use Rattle.action_sos.specs.Schedules.{IsScheduled}
use Rattle.acg_words.specs.Lines.{message_lines}
use Rattle.acg_words.specs.declared.line.Line.{Line}
use Rattle.acg_words.specs.declared.line.Line.TheVariants.{Memory, Completed, Failed, Escaped, Running}
use Rattle.acg_driver.specs.Texts.{Reads, RefusesText, IsUnread}
use Rattle.acg_driver.specs.Inputs.{IsBytesOf, RefusesInput}
use Rattle.acg_driver.specs.Says.{SaysBehind}

-- the most steps of a performance
abbrev pub step_limit : ℕ
step_limit = 1000000

-- the line of an end
abbrev pub end_line : End → Line
end_line (Done d b) = Completed
end_line (Esc d) = Escaped
end_line Fail = Failed

-- there is no end yet
abbrev pub IsGoing : Tree → Type 0
IsGoing tree = (z : End) → tree ≡ Ended z → ⊥

-- the line behind the messages of so many steps that lead to a tree: that of its end; or `running` where there is none
-- within the limit; or memory ran out before the limit, where there is none yet
abbrev pub IsOutcome : (count : ℕ) → Tree → Line → Type 0
IsOutcome count tree Running = (count ≡ step_limit) × IsGoing tree
IsOutcome count tree Memory = (count < step_limit) × IsGoing tree
IsOutcome count tree line = (z : End) × (count ≤ step_limit) × (tree ≡ Ended z) × (line ≡ end_line z)

-- what a performance says: the messages of the steps that n chooses, and then how far they lead
abbrev pub IsPerformed : ℕ → Listed → (input : List ℤ) (text : List ℕ) → Status → Type 0
IsPerformed n g input text status =
    (steps : List Step) × (s : State) × (line : Line)
    × IsScheduled n (action_of g) input steps s × IsOutcome (length steps) s.tree line
    × SaysBehind (message_lines s.world.output) line text status

-- the integers of an input, from what its file gave
abbrev pub IsInputOf : (input : Option (List ℕ)) → (givens : List (List ℕ)) → (integers : List ℤ) → Type 0
IsInputOf input givens integers = (bytes : List ℕ) × IsBytesOf input givens bytes × (integers ≡ records bytes)

-- the bytes are an action's text
abbrev pub IsAction : (bytes : List ℕ) → Type 0
IsAction bytes = (g : Listed) × Reads bytes g

-- the input is read where the action is one
abbrev pub GoesOnPerform : (givens : List (List ℕ)) → Type 0
GoesOnPerform (bytes ∷ []) = IsAction bytes
GoesOnPerform _ = ⊥

-- the line with which it is refused, from what its files gave: the action's file isn't read or is no action, and then
-- the input's file isn't read or is too long
abbrev pub RefusesPerform : (action : List ℕ) → (input : Option (List ℕ)) → (givens : List (List ℕ)) → Line → Type 0
RefusesPerform action input [] line = IsUnread action line
RefusesPerform action input (bytes ∷ givens) line =
    ((givens ≡ []) × RefusesText bytes line) ⊎ (IsAction bytes × RefusesInput input givens line)

-- what is said where it isn't refused: the performance of the action that n chooses, over the integers of the input
abbrev pub SaysPerform : ℕ → (input : Option (List ℕ)) → (givens : List (List ℕ)) → (text : List ℕ) → Status → Type 0
SaysPerform n input [] text status = ⊥
SaysPerform n input (bytes ∷ givens) text status =
    (g : Listed) × (integers : List ℤ) × Reads bytes g × IsInputOf input givens integers × IsPerformed n g integers text status

-- the performer stands before the first step of that performance
abbrev pub StartsPerform : (input : Option (List ℕ)) → (givens : List (List ℕ)) → Performing → Type 0
StartsPerform input [] p = ⊥
StartsPerform input (bytes ∷ givens) p =
    (integers : List ℤ) × Reads bytes p.graph × IsInputOf input givens integers × (p.state ≡ start integers)
