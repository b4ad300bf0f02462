-- How many yielders the first nodes have, one node on.
use Rattle.std.proofs.Common.{◌≡◌, ℕ, ◌+◌, ◌<◌, length, get_or, take, sum_by, sym, ap, ◌∙◌}
use Rattle.std.proofs.lemmas.List.Sums.{sum_by_more}
use Rattle.std.proofs.lemmas.Option.{slice_get-get_or}
use Rattle.action_terms.specs.Actions.{Stray, Action, node_or_stray, node_at}
use Rattle.action_terms.specs.Need.{node_yielder_count}

module _ (a : Action) (k : ℕ) (lt : k < length a) where
  node-here : get_or a k Stray ≡ node_at a k
  node-here = sym (ap node_or_stray (slice_get-get_or a k Stray lt))

  pub yielders-next : sum_by node_yielder_count (take (k + 1) a) ≡ sum_by node_yielder_count (take k a) + node_yielder_count (node_at a k)
  yielders-next = sum_by_more node_yielder_count a k Stray lt ∙ ap (λ n. sum_by node_yielder_count (take k a) + node_yielder_count n) node-here
