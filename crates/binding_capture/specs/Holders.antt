-- The nodes under which nodes stand, written down from the last one to the first.
use Rattle.std.specs.Prelude.{ℕ, List, [], ◌∷◌, Option, Some, slice_set}
use Rattle.action_terms.specs.Actions.{Node, Unfolding}

-- the body of an `unfolding`
abbrev pub own_body : Node → List ℕ
own_body (Unfolding c) = c ∷ []
own_body _ = []

-- the holder is written down for these nodes
abbrev pub with_holder : (holder : ℕ) → (nodes : List ℕ) → List (Option ℕ) → List (Option ℕ)
with_holder j [] holders = holders
with_holder j (k ∷ ks) holders = with_holder j ks (slice_set holders k (Some j))
