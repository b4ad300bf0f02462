-- Which nodes have code.
use Rattle.std.specs.Prelude.{ℕ, suc, Bool, true, false, ◌&&◌, if◌then◌else◌, List, [], ◌∷◌}
use Rattle.action_terms.specs.Actions.{Item, Single, Them, Complete, Failing, Escape, EscapeWith, Commit, Regive, Give, Check, Store, Allocate, Receive, Send, Node, Simple, Unfolding, Unfold, Both, Phases, Either, Trapping, Action}
use Rattle.rv_yield.specs.Registers.{is_built}

-- whether the code of data can be generated: that of each yielder of a datum. `them` is moved
abbrev pub are_built : List Item → Bool
are_built [] = true
are_built (Single y ∷ is) = is_built y && are_built is
are_built (Them ∷ is) = are_built is

-- whether the code of a node can be generated: its kind, and each yielder of it, is built
abbrev pub is_built_node : Node → Bool
is_built_node (Simple Complete) = true
is_built_node (Simple Commit) = true
is_built_node (Simple Regive) = true
is_built_node (Simple Failing) = true
is_built_node (Simple Escape) = true
is_built_node (Simple (Give is)) = are_built is
is_built_node (Simple (EscapeWith is)) = are_built is
is_built_node (Simple (Check y)) = is_built y
is_built_node (Simple (Store y1 y2)) = is_built y1 && is_built y2
is_built_node (Simple Allocate) = true
is_built_node (Simple Receive) = true
is_built_node (Simple (Send y)) = is_built y
is_built_node (Unfolding c) = true
is_built_node (Unfold c) = true
is_built_node (Both j l r) = true
is_built_node (Phases q l r) = true
is_built_node (Either l r) = true
is_built_node (Trapping l r) = true
is_built_node _ = false

-- the numbers, from k on, of the nodes whose code can't be generated
abbrev pub unbuilt_from : ℕ → Action → List ℕ
unbuilt_from k [] = []
unbuilt_from k (n ∷ a) = if is_built_node n then unbuilt_from (suc k) a else k ∷ unbuilt_from (suc k) a

-- of all nodes
abbrev pub unbuilt : Action → List ℕ
unbuilt a = unbuilt_from 0 a
