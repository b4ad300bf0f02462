-- The nodes that aren't built, one node on.
use Rattle.std.proofs.Common.{◌≡◌, ℕ, suc, ◌+◌, ◌<◌, Bool, true, false, List, [], ◌∷◌, length, get_or, drop, sym, ap, ◌∙◌, add-one}
use Rattle.std.specs.Prelude.{Some, slice_get, if◌then◌else◌}
use Rattle.std.proofs.lemmas.Option.{slice_get-get_or}
use Rattle.std.proofs.lemmas.List.{at_drop_more}
use Rattle.action_terms.specs.Actions.{Stray, Action, node_or_stray, node_at}
use Rattle.rv_codegen.specs.Built.{is_built_node, unbuilt_from, unbuilt}
use Rattle.rv_codegen.proofs.GraphNodes.{built-of-graph}

-- the node of a number below the length
node-there : (a : Action) (k : ℕ) → k < length a → node_at a k ≡ get_or a k Stray
node-there a k lt = ap node_or_stray (slice_get-get_or a k Stray lt)

module _ (a : Action) (k : ℕ) (lt : k < length a) where
  -- the nodes that aren't built, from node number k on
  abbrev from_here : Bool → List ℕ
  from_here b = if b then unbuilt_from (k + 1) (drop (k + 1) a) else k ∷ unbuilt_from (k + 1) (drop (k + 1) a)

  unbuilt_from-next : unbuilt_from k (drop k a) ≡ from_here (is_built_node (node_at a k))
  unbuilt_from-next =
      rw (node-there a k lt, add-one) (at_drop_more (unbuilt_from k) a k Stray lt ∙ ap (λ m. if is_built_node (get_or a k Stray) then unbuilt_from (suc k) (drop m a) else k ∷ unbuilt_from (suc k) (drop m a)) (add-one k))

  -- where this one is built they are those behind it, and where it isn't, it is the first
  pub unbuilt_from-built : is_built_node (node_at a k) ≡ true → unbuilt_from k (drop k a) ≡ unbuilt a → unbuilt_from (k + 1) (drop (k + 1) a) ≡ unbuilt a
  unbuilt_from-built built so_far = sym (unbuilt_from-next ∙ ap from_here built) ∙ so_far

  pub unbuilt-first : is_built_node (node_at a k) ≡ false → unbuilt_from k (drop k a) ≡ unbuilt a → Some k ≡ slice_get (unbuilt a) 0
  unbuilt-first other so_far = ap (λ l. slice_get l 0) (sym (unbuilt_from-next ∙ ap from_here other) ∙ so_far)

  -- where none is unbuilt, this one is built
  pub never_unbuilt : unbuilt a ≡ [] → is_built_node (node_at a k) ≡ true
  never_unbuilt none = ap is_built_node (node-there a k lt) ∙ built-of-graph a none k (get_or a k Stray) (slice_get-get_or a k Stray lt)
