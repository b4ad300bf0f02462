-- The procedures of an action: the main one, and the bodies of closures and of `unfolding`. They are told by numbers: what a node holds has a greater number than the node.
use Rattle.std.specs.Prelude.{ℕ, zero, suc, Bool, false, ◌||◌, List, [], ◌∷◌, ◌++◌, Option, Some, None, nat_eq, if◌then◌else◌}
use Rattle.action_terms.specs.Actions.{Node, Unfolding, Furthermore, Both, Phases, Either, Trapping, Branch, Action}
use Rattle.sort_rules.specs.Numbers.{is_listed}
use Rattle.sort_rules.specs.Demands.{closures_at}

-- the action parts of a node
abbrev pub parts_at : Node → List ℕ
parts_at (Furthermore l) = l ∷ []
parts_at (Both j l r) = l ∷ r ∷ []
parts_at (Phases q l r) = l ∷ r ∷ []
parts_at (Either l r) = l ∷ r ∷ []
parts_at (Trapping l r) = l ∷ r ∷ []
parts_at (Branch y l r) = l ∷ r ∷ []
parts_at _ = []

-- the bodies that stand under a node; an `unfold` only names its body
abbrev pub bodies_at : Node → List ℕ
bodies_at (Unfolding c) = c ∷ []
bodies_at n = closures_at n

-- the number of the first node of which the list has k; the first node of the action has number j
abbrev pub holder_from : (Node → List ℕ) → (j : ℕ) → Action → ℕ → Option ℕ
holder_from under j [] k = None
holder_from under j (n ∷ a) k = if is_listed k (under n) then Some j else holder_from under (suc j) a k

-- the node of which k is a part, and the node under which k stands, as a part or as a body
abbrev pub whole_of : Action → ℕ → Option ℕ
whole_of a k = holder_from parts_at 0 a k

-- the node under which k stands, as a part or as a body
abbrev pub above : Action → ℕ → Option ℕ
above a k = holder_from (λ n. parts_at n ++ bodies_at n) 0 a k

-- upward from k, by at most so many steps
abbrev pub or_else : (ℕ → ℕ) → ℕ → Option ℕ → ℕ
or_else go k (Some j) = go j
or_else go k None = k

-- upward from part to whole, by at most so many steps
abbrev pub topmost : (steps : ℕ) → Action → ℕ → ℕ
topmost zero a k = k
topmost (suc m) a k = or_else (topmost m a) k (whole_of a k)

-- the root of the procedure that has node k
abbrev pub procedure_of : Action → ℕ → ℕ
procedure_of a k = topmost k a k

-- whether there is a number that passes the test
abbrev pub if_some : (ℕ → Bool) → Option ℕ → Bool
if_some test (Some j) = test j
if_some test None = false

-- whether c is met on the way upward from k, within so many steps
abbrev pub reaches : (steps : ℕ) → Action → (c k : ℕ) → Bool
reaches zero a c k = nat_eq c k
reaches (suc m) a c k = nat_eq c k || if_some (reaches m a c) (above a k)

-- node k is c or stands beneath it, in inner bodies too
abbrev pub is_beneath : Action → (c k : ℕ) → Bool
is_beneath a c k = reaches k a c k
