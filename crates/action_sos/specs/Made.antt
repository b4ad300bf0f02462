-- How the parts of a node of a graph are joined, and which is the second one.
use Rattle.std.specs.Prelude.{◌≡◌, ℕ}
use Rattle.action_terms.specs.Actions.{Node, Join, Chain, Both, Phases, Trapping}

-- the two parts of the node are joined so
abbrev pub IsJoinedBy : Node → Join → Type 0
IsJoinedBy (Both j l r) j' = j ≡ j'
IsJoinedBy _ j' = ⊥

-- the second part of the node, which is r', comes after the first one so
abbrev pub IsChainedBy : Node → Chain → ℕ → Type 0
IsChainedBy (Phases q l r) q' r' = (q ≡ q') × (r ≡ r')
IsChainedBy _ q' r' = ⊥

-- the node is a `trap` with this handler
abbrev pub HasHandler : Node → ℕ → Type 0
HasHandler (Trapping l r) r' = r ≡ r'
HasHandler _ r' = ⊥
