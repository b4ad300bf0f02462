-- The numbers of an action fit words.
use Rattle.std.proofs.Common.{ℕ, zero, suc, [], ◌∷◌}
use Rattle.std.proofs.lemmas.List.Elements.{All-head, All-tail}
use Rattle.action_terms.specs.Actions.{Action, node_at}
use Rattle.action_terms.specs.Literals.{NodeFits, NumbersFit}

-- those of one node
pub node-fits : (a : Action) (k : ℕ) → NumbersFit a → NodeFits (node_at a k)
node-fits [] k numbers = tt
node-fits (n ∷ a) zero numbers = All-head NodeFits n a numbers
node-fits (n ∷ a) (suc k) numbers = node-fits a k (All-tail NodeFits n a numbers)
