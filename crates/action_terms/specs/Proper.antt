-- Actions whose nodes name nodes of them, as the action of each graph does.
use Rattle.std.specs.Prelude.{◌≡◌, ◌≢◌, ℕ, ◌<◌, List, [], ◌∷◌, ◌++◌, length, All}
use Rattle.action_terms.specs.Actions.{Node, Simple, Enact, Apply, Unfolding, Unfold, Furthermore, Both, Phases, Either, Trapping, Branch, Stray, Action, node_at}
use Rattle.action_terms.specs.Steps.{closures_in, closures_in_items, closures_of}
use Rattle.action_terms.specs.Performances.{OneOf}

-- the parts and the bodies that a node names
abbrev pub named : Node → List ℕ
named (Simple p) = closures_of p
named (Enact y) = closures_in y
named (Apply y is) = closures_in y ++ closures_in_items is
named (Unfolding c) = c ∷ []
named (Unfold c) = c ∷ []
named (Furthermore l) = l ∷ []
named (Both j l r) = l ∷ r ∷ []
named (Phases q l r) = l ∷ r ∷ []
named (Either l r) = l ∷ r ∷ []
named (Trapping l r) = l ∷ r ∷ []
named (Branch y l r) = closures_in y ++ l ∷ r ∷ []
named Stray = []

-- the node is one of a text, and names nodes below this count
pub record IsProperNode (count : ℕ) (n : Node) : Type 0 where
  pub there : n ≢ Stray
  pub within : All (λ k. k < count) (named n)

-- the bodies that begin under a node: those of its closures, and that of an `unfolding`; an `unfold` only names one
abbrev pub bodies_under : Node → List ℕ
bodies_under (Simple p) = closures_of p
bodies_under (Enact y) = closures_in y
bodies_under (Apply y is) = closures_in y ++ closures_in_items is
bodies_under (Unfolding c) = c ∷ []
bodies_under (Branch y l r) = closures_in y
bodies_under _ = []

-- c is the root of a body of the action
abbrev pub IsBody : Action → ℕ → Type 0
IsBody a c = (k : ℕ) × OneOf c (bodies_under (node_at a k))

-- there is a root, every node is proper, and an `unfold` names a body
pub record IsProper (a : Action) : Type 0 where
  pub root : 0 < length a
  pub nodes : All (IsProperNode (length a)) a
  pub repeated : (k c : ℕ) → node_at a k ≡ Unfold c → IsBody a c
