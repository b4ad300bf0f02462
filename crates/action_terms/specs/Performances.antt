-- Performances of an action over the integers of an input.
use Rattle.std.specs.Prelude.{◌≡◌, ℕ, ℤ, List, [], ◌∷◌, ◌++◌}
use Rattle.std.specs.Int.{w64, cast_signed, cast_unsigned, to_le_bytes, from_le_bytes}
use Rattle.action_terms.specs.Information.{NoBinds, World}
use Rattle.action_terms.specs.Actions.{Action}
use Rattle.action_terms.specs.Acting.{End, Tree, Run, Ended}
use Rattle.action_terms.specs.Steps.{Step, open_steps, world_after}

-- an acting tree and the world around it
pub record State : Type 0 where
  pub tree : Tree
  pub world : World

-- the root is to be performed with nothing given and nothing bound; there are no cells and no messages
abbrev pub start : List ℤ → State
start input = record { tree = Run 0 [] NoBinds; world = record { cells = []; output = []; input = input } }

-- x is in the list
pub data OneOf {X : Type 0} (x : X) : List X → Type 0 where
  Here : {xs : List X} → OneOf x (x ∷ xs)
  Later : {y : X} {xs : List X} → OneOf x xs → OneOf x (y ∷ xs)

-- the step stands open in the state
abbrev pub IsOpen : Action → State → Step → Type 0
IsOpen a s n = OneOf n (open_steps a s.world s.tree)

-- the state after a step
abbrev pub after : Step → State → State
after n s = record { tree = n.tree; world = world_after n.effect s.world }

-- these steps, the last of them first, are a part of a performance over the input that leads to the state
abbrev pub IsPart : Action → List ℤ → List Step → State → Type 0
IsPart a input [] s = s ≡ start input
IsPart a input (n ∷ earlier) s = (before : State) × IsPart a input earlier before × IsOpen a before n × (s ≡ after n before)

-- these steps are a performance over the input that has ended so, with these messages
abbrev pub HasEnded : Action → List ℤ → List Step → End → List ℤ → Type 0
HasEnded a input steps z output = (w : World) × IsPart a input steps (record { tree = Ended z; world = w }) × (w.output ≡ output)

-- a message as its 8 bytes, the lowest first
abbrev pub message_bytes : ℤ → List ℕ
message_bytes n = to_le_bytes w64 (cast_unsigned w64 n)

abbrev pub messages_bytes : List ℤ → List ℕ
messages_bytes [] = []
messages_bytes (n ∷ ns) = message_bytes n ++ messages_bytes ns

-- the whole integers of 8 bytes at the front of an input, the lowest byte first
abbrev pub records : List ℕ → List ℤ
records (b0 ∷ b1 ∷ b2 ∷ b3 ∷ b4 ∷ b5 ∷ b6 ∷ b7 ∷ bytes) =
    cast_signed w64 (from_le_bytes w64 (b0 ∷ b1 ∷ b2 ∷ b3 ∷ b4 ∷ b5 ∷ b6 ∷ b7 ∷ [])) ∷ records bytes
records _ = []
