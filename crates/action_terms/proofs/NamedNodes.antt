-- The nodes of a proper action are there, and so is what they name.
use Rattle.std.proofs.Common.{ℕ, zero, suc, ◌<◌, [], ◌∷◌, length, All, arith}
use Rattle.std.proofs.lemmas.List.Elements.{All-nil, All-head, All-tail, All-weaker}
use Rattle.std.specs.Prelude.{◌≢◌}
use Rattle.action_terms.specs.Actions.{Node, Stray, Action, node_at}
use Rattle.action_terms.specs.Proper.{named, IsProperNode, IsProper}

-- what holds of each node holds of the node of every number: of those that are there, and of all where it holds of `Stray`
at_number-within : (P : Node → Type 0) (a : Action) (k : ℕ) → All P a → k < length a → P (node_at a k)
at_number-within P [] k all less = absurd (omega arith)
at_number-within P (n ∷ a) zero all less = All-head P n a all
at_number-within P (n ∷ a) (suc k) all less = at_number-within P a k (All-tail P n a all) (omega arith)

at_number : (P : Node → Type 0) (a : Action) (k : ℕ) → P Stray → All P a → P (node_at a k)
at_number P [] k stray all = stray
at_number P (n ∷ a) zero stray all = All-head P n a all
at_number P (n ∷ a) (suc k) stray all = at_number P a k stray (All-tail P n a all)

pub there-at : (a : Action) (k : ℕ) → IsProper a → k < length a → node_at a k ≢ Stray
there-at a k proper less = (at_number-within (IsProperNode (length a)) a k proper.nodes less).there

-- also of a number past the end, where nothing is named
pub named-within : (a : Action) (k : ℕ) → IsProper a → All (λ j. j < length a) (named (node_at a k))
named-within a k proper =
    let P : Node → Type 0 = λ n. All (λ j. j < length a) (named n) in
    at_number P a k (All-nil (λ j. j < length a)) (All-weaker (IsProperNode (length a)) P (λ n h. h.within) a proper.nodes)
