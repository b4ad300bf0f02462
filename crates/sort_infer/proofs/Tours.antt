-- The nodes that stand under a node are nodes of the action.
use Rattle.std.proofs.Common.{All, List, [], arith, inl, inr, length, subst, sym, ℕ, ◌++◌, ◌+◌, ◌<◌, ◌∷◌, ◌≡◌}
use Rattle.std.specs.Prelude.{reverse}
use Rattle.std.proofs.lemmas.Bool.{cases_lt}
use Rattle.std.proofs.lemmas.List.{length-map}
use Rattle.std.proofs.lemmas.List.Elements.{All-append, All-cons, All-nil}
use Rattle.std.proofs.lemmas.List.Sorted.{All-permutation, IsPermutation-reverse}
use Rattle.action_terms.specs.Actions.{Action, Node, node_at}
use Rattle.action_terms.specs.Forms.{AreParts, IsNodeView, NamesNodes, node_viewed}
use Rattle.action_terms.specs.Meaning.{action_of, items_from, node_with}
use Rattle.action_terms.specs.Numbering.{Listed}
use Rattle.action_terms.specs.Performances.{Here, OneOf}
use Rattle.action_terms.specs.Proper.{IsProper}
use Rattle.action_terms.specs.declared.view.NodeView.{NodeView}
use Rattle.action_terms.specs.declared.view.NodeView.TheVariants as node
use Rattle.action_terms.proofs.AllLaws.{All-one, All-two}
use Rattle.sort_rules.specs.Demands.{Each, MoreOf, NoneOf, closures_at}
use Rattle.sort_rules.proofs.ActionNumbers.{closure_bodies-below, closure_bodies-has, one_of-first, one_of-second}
use Rattle.sort_infer.specs.Tours.{parts_of}

-- a graph has as many nodes as its action
pub nodes-count : (g : Listed) → length (action_of g) ≡ length g.nodes
nodes-count g = length-map g.nodes (node_with (items_from 0 g.yielders))

each-all : {Q P : ℕ → Type 0} {xs : List ℕ} → ((x : ℕ) → Q x → P x) → Each Q xs → All P xs
each-all {P = P} f NoneOf = All-nil P
each-all {P = P} f (MoreOf {x} {xs} q qs) = All-cons P x xs (f x q) (each-all f qs)

closures-within : (a : Action) (k : ℕ) → IsProper a → All (λ i. i < length a) (closures_at (node_at a k))
closures-within a k proper = each-all (λ c m. closure_bodies-below (length a) a c proper.nodes m) (closure_bodies-has a k)

two-within : (k n l r : ℕ) → AreParts k n l r → All (λ i. i < n) (r ∷ l ∷ [])
two-within k n l r h = let (first, second, last) = h in All-two (λ i. i < n) r l last (omega (arith, second, last))

parts-within : (k n : ℕ) (v : NodeView) → NamesNodes k n v → All (λ i. i < n) (parts_of v)
parts-within k n (node.Unfolding c) h = All-one (λ i. i < n) c h
parts-within k n (node.Furthermore l) h = All-one (λ i. i < n) l (h.1)
parts-within k n (node.Both j l r) h = two-within k n l r h
parts-within k n (node.Phases q l r) h = two-within k n l r h
parts-within k n (node.Either l r) h = two-within k n l r h
parts-within k n (node.Trapping l r) h = two-within k n l r h
parts-within k n (node.Branch y l r) h = two-within k n l r h
parts-within k n _ h = All-nil (λ i. i < n)

-- the parts, and the bodies behind them
pub under-within : (g : Listed) (k : ℕ) (v : NodeView) (nodes : List ℕ) → IsProper (action_of g) → IsNodeView g k v → nodes ≡ parts_of v ++ reverse (closures_at (node_viewed g.yielders v)) → All (λ i. i < length g.nodes) nodes
under-within g k v nodes proper view e =
    let P : ℕ → Type 0 = λ i. i < length g.nodes in
    let bodies : All (λ i. i < length g.nodes) (closures_at (node_at (action_of g) k)) = subst (λ (n : ℕ). All (λ i. i < n) (closures_at (node_at (action_of g) k))) (nodes-count g) (closures-within (action_of g) k proper) in
    let seen : All (λ i. i < length g.nodes) (closures_at (node_viewed g.yielders v)) = subst (λ (n : Node). All (λ i. i < length g.nodes) (closures_at n)) view.node bodies in
    let behind : All (λ i. i < length g.nodes) (reverse (closures_at (node_viewed g.yielders v))) = All-permutation P _ _ (IsPermutation-reverse (closures_at (node_viewed g.yielders v))) seen in
    subst (λ (zs : List ℕ). All (λ i. i < length g.nodes) zs) (sym e) (All-append P (parts_of v) (reverse (closures_at (node_viewed g.yielders v))) (parts-within k (length g.nodes) v view.names) behind)

-- one node more stands in the order
pub listed-more : (order : List ℕ) (n : ℕ) → ((k : ℕ) → k < n → OneOf k order) → (k : ℕ) → k < n + 1 → OneOf k (order ++ n ∷ [])
listed-more order n h k less = elim (cases_lt k n) [ inl lt ↦ one_of-first order (n ∷ []) k (h k lt) | inr past ↦ last (omega (arith, past, less)) ]
  where
    last : k ≡ n → OneOf k (order ++ n ∷ [])
    last same = one_of-second order (n ∷ []) k (subst (λ (i : ℕ). OneOf k (i ∷ [])) same Here)
