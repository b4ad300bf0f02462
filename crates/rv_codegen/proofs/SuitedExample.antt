-- A small action with an admissible table and a part of a performance, so that no premise of what a table tells is one that nothing meets: `(give 1) then (send the given integer)`.
use Rattle.std.proofs.Common.{◌≡◌, ℕ, zero, suc, ◌<◌, pos, List, [], ◌∷◌, length, refl, arith}
use Rattle.action_terms.specs.Information.{Data, NoBinds, Number, World}
use Rattle.action_terms.specs.Actions.{Action, Give, Given, NumberLiteral, Phases, Send, Simple, Single, Then}
use Rattle.action_terms.specs.Acting.{Done, Ended, First, Run, Second, Tree}
use Rattle.action_terms.specs.Frames.{Frame, InFirst, InSecond, plug}
use Rattle.action_terms.specs.Performances.{Here, State, start}
use Rattle.action_terms.specs.Steps.{Step, silent}
use Rattle.action_terms.specs.Suited.{IsOfSort, IsSuited}
use Rattle.action_terms.specs.Yielding.{yields}
use Rattle.action_terms.specs.declared.kinds.Sort.TheVariants as sort
use Rattle.action_terms.proofs.Parts.{Reaches}
use Rattle.sort_rules.specs.Admissible.{Holds, IsAdmissible, IsClear}
use Rattle.sort_rules.specs.Parts.{Lists, NoneBelow, Unreached}
use Rattle.sort_rules.specs.Sets.{integers}
use Rattle.sort_rules.specs.Shapes.{part_length}
use Rattle.sort_rules.specs.Tables.{BindsIn, BindsOut, DataIn, DataOut, MarkedTable}
use Rattle.sort_rules.specs.Values.{nothing, one}
use Rattle.sort_rules.proofs.TestsTell.{holds-sound}
use Rattle.rv_codegen.proofs.Suited.{runs-in_shape, send-suited, step-completes}

abbrev pub giving : Action
giving = Phases Then 1 2 ∷ Simple (Give (Single (NumberLiteral (pos 1)) ∷ [])) ∷ Simple (Send (Given sort.Integer)) ∷ []

abbrev pub table : MarkedTable
table (DataIn zero) = nothing
table (DataIn (suc zero)) = nothing
table (DataIn (suc (suc zero))) = one integers
table (BindsIn zero) = nothing
table (BindsIn (suc zero)) = nothing
table (BindsIn (suc (suc zero))) = nothing
table (DataOut zero) = nothing
table (DataOut (suc zero)) = one integers
table (DataOut (suc (suc zero))) = nothing
table (BindsOut zero) = nothing
table (BindsOut (suc zero)) = nothing
table (BindsOut (suc (suc zero))) = nothing
table _ = Unreached

each-holds : (k : ℕ) → k < length giving → Holds giving table k
each-holds zero less = holds-sound giving table 0 refl
each-holds (suc zero) less = holds-sound giving table 1 refl
each-holds (suc (suc zero)) less = holds-sound giving table 2 refl
each-holds (suc (suc (suc k))) less = absurd (omega arith)

each-clear : (k : ℕ) → IsClear table k
each-clear zero = record { data_in = refl; binds_in = refl; data_out = refl; binds_out = refl; escaped = refl; contents = refl; mark = refl }
each-clear (suc zero) = record { data_in = refl; binds_in = refl; data_out = refl; binds_out = refl; escaped = refl; contents = refl; mark = refl }
each-clear (suc (suc zero)) = record { data_in = refl; binds_in = refl; data_out = refl; binds_out = refl; escaped = refl; contents = refl; mark = refl }
each-clear (suc (suc (suc k))) = record { data_in = refl; binds_in = refl; data_out = refl; binds_out = refl; escaped = refl; contents = refl; mark = refl }

pub admissible : IsAdmissible giving table
admissible = record { meets = record { root_data = Lists NoneBelow; root_binds = Lists NoneBelow; each = each-holds }; clear = each-clear }

-- the second part is to be performed, with what the first has completed with
abbrev pub world : World
world = record { cells = []; output = []; input = [] }

abbrev at : Tree → State
at t = record { tree = t; world = world }

abbrev pub given : Data
given = Number (pos 1) ∷ []

abbrev first_done : Tree
first_done = First 0 (Ended (Done given NoBinds)) [] NoBinds

abbrev second_runs : Tree
second_runs = Second 0 given NoBinds (Run 2 given NoBinds)

abbrev first_runs : Tree
first_runs = First 0 (Run 1 [] NoBinds) [] NoBinds

abbrev pub frames : List Frame
frames = InSecond 0 given NoBinds ∷ []

abbrev pub steps : List Step
steps = silent second_runs ∷ silent first_done ∷ silent first_runs ∷ []

first-reached : Reaches giving [] (silent first_runs ∷ []) (plug (InFirst 0 [] NoBinds ∷ []) (Run 1 [] NoBinds)) world
first-reached = (start [], refl, Here, refl)

pub second-reached : Reaches giving [] steps (plug frames (Run 2 given NoBinds)) world
second-reached = (at first_done, (at first_runs, first-reached, Here, refl), Here, refl)

-- `send` sends an integer
sent-suited : IsSuited (Given sort.Integer) given NoBinds [] × IsOfSort sort.Integer (yields (Given sort.Integer) given NoBinds [])
sent-suited = send-suited giving table admissible [] steps frames 2 given NoBinds world second-reached (Given sort.Integer) refl

given-length : length given ≡ part_length (table (DataIn 2))
given-length = (runs-in_shape giving table admissible [] steps frames 2 given NoBinds world second-reached).given

-- and `give` completes with as many data as its row says
left-length : length given ≡ part_length (table (DataOut 1))
left-length = (step-completes giving table admissible [] (silent first_runs ∷ []) (InFirst 0 [] NoBinds ∷ []) 1 [] NoBinds world first-reached (silent (Ended (Done given NoBinds))) given NoBinds Here refl).given
