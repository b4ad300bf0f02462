-- Of the action of a graph: its nodes make a tree, and which of them are built.
use Rattle.std.proofs.Common.{◌≡◌, ◌≢◌, ◌⊎◌, ℕ, zero, suc, ◌<◌, Bool, true, false, List, [], ◌∷◌, length, map, inl, inr, refl, sym, ap, subst, ◌∙◌, arith}
use Rattle.std.specs.Prelude.{Some, slice_get, if◌then◌else◌}
use Rattle.std.proofs.lemmas.List.{length-map}
use Rattle.std.proofs.lemmas.Option.{slice_get-get_or}
use Rattle.action_terms.specs.Actions.{Node, Action, node_or_stray}
use Rattle.action_terms.specs.ByKind.{part_at, HasRead, node_read, NamesRead, IsRead}
use Rattle.action_terms.specs.Meaning.{items_from, node_with, action_of}
use Rattle.action_terms.specs.Numbering.{ListedNode, ListedYielder, Listed, IsGraph}
use Rattle.action_terms.specs.declared.kinds.Kind.{Kind}
use Rattle.action_terms.specs.declared.kinds.Kind.TheVariants as kind
use Rattle.action_terms.proofs.GraphLaws.{child_after, child_within, one_parent}
use Rattle.action_terms.proofs.ReadGraphs.{is-read}
use Rattle.rv_codegen.specs.Built.{is_built_node, unbuilt_from, unbuilt}
use Rattle.rv_codegen.proofs.NodeParts.{IsPartOf}
use Rattle.rv_codegen.proofs.ExitLaws.{PartsApart, HasTree}

pub length-action_of : (g : Listed) → length (action_of g) ≡ length g.nodes
length-action_of g = length-map g.nodes (node_with (items_from 0 g.yielders))

-- a node of an action is made of a listed node
mapped_at : {A B : Type 0} (f : A → B) (xs : List A) (k : ℕ) (y : B) → slice_get (map f xs) k ≡ Some y → (x : A) × (slice_get xs k ≡ Some x)
mapped_at f [] k y e = absurd (cc)
mapped_at f (x ∷ xs) zero y e = (x, refl)
mapped_at f (x ∷ xs) (suc k) y e = mapped_at f xs k y e

-- the listed node of a node, and what is read there by its kind
pub record HasListed (g : Listed) (k : ℕ) (n : Node) : Type 0 where
  pub listed : ListedNode
  pub at : slice_get g.nodes k ≡ Some listed
  pub read : IsRead g k listed.kind listed
  pub is : node_read g.yielders listed.kind listed ≡ n

pub has_listed : (g : Listed) → IsGraph g → (k : ℕ) (n : Node) → slice_get (action_of g) k ≡ Some n → HasListed g k n
has_listed g w k n e =
    let found = mapped_at (node_with (items_from 0 g.yielders)) g.nodes k n e in
    let m = found.0 in
    let read = is-read g w k m found.1 m.kind refl in
    record { listed = m; at = found.1; read = read; is = sym read.node ∙ ap node_or_stray e }

-- a part of the node that is read is one of the listed children
one_listed : (n : ListedNode) (c i : ℕ) → i < length n.children → part_at n i ≡ c → (j : ℕ) × (slice_get n.children j ≡ Some c)
one_listed n c i less e = (i, slice_get-get_or n.children i 0 less ∙ ap Some e)

two_listed : (n : ListedNode) (c : ℕ) → 1 < length n.children → (part_at n 0 ≡ c) ⊎ (part_at n 1 ≡ c) → (j : ℕ) × (slice_get n.children j ≡ Some c)
two_listed n c less (inl e) = one_listed n c 0 (omega (arith, less)) e
two_listed n c less (inr e) = one_listed n c 1 less e

part-listed : (ls : List ListedYielder) (kd : Kind) (n : ListedNode) (c : ℕ) → HasRead kd n → IsPartOf (node_read ls kd n) c → (j : ℕ) × (slice_get n.children j ≡ Some c)
part-listed ls kind.Furthermore n c h part = one_listed n c 0 h part
part-listed ls kind.Or n c h part = two_listed n c h part
part-listed ls kind.And n c h part = two_listed n c h part
part-listed ls kind.AndThen n c h part = two_listed n c h part
part-listed ls kind.Then n c h part = two_listed n c h part
part-listed ls kind.Trap n c h part = two_listed n c h part
part-listed ls kind.Hence n c h part = two_listed n c h part
part-listed ls kind.Moreover n c h part = two_listed n c h part
part-listed ls kind.Before n c h part = two_listed n c h part
part-listed ls kind.Branch n c h part = two_listed n c h.0 part
part-listed ls _ n c h part = absurd part

pub part_of : (g : Listed) (k c : ℕ) (n : Node) (h : HasListed g k n) → IsPartOf n c → (j : ℕ) × (slice_get h.listed.children j ≡ Some c)
part_of g k c n h part = part-listed g.yielders h.listed.kind h.listed c h.read.has (subst (λ x. IsPartOf x c) (sym h.is) part)

-- its second part stands behind the first
second-behind : (l r : ℕ) → l < r → l ≢ r
second-behind l r less e = omega arith

read-apart : (g : Listed) (k : ℕ) (kd : Kind) (n : ListedNode) → NamesRead k g kd n → PartsApart (node_read g.yielders kd n)
read-apart g k kind.And n names = second-behind (part_at n 0) (part_at n 1) names.1
read-apart g k kind.AndThen n names = second-behind (part_at n 0) (part_at n 1) names.1
read-apart g k kind.Then n names = second-behind (part_at n 0) (part_at n 1) names.1
read-apart g k kind.Hence n names = second-behind (part_at n 0) (part_at n 1) names.1
read-apart g k kind.Moreover n names = second-behind (part_at n 0) (part_at n 1) names.1
read-apart g k kind.Before n names = second-behind (part_at n 0) (part_at n 1) names.1
read-apart g k kind.Or n names = second-behind (part_at n 0) (part_at n 1) names.1
read-apart g k kind.Trap n names = second-behind (part_at n 0) (part_at n 1) names.1
read-apart g k _ n names = tt

-- the nodes of a graph's action make a tree
pub tree-of-graph : (g : Listed) → IsGraph g → HasTree (action_of g)
tree-of-graph g w = record {
  within = λ k c n e part.
      let h = has_listed g w k n e in
      let p = part_of g k c n h part in
      omega (arith, length-action_of g, child_within g w k p.0 c h.listed h.at p.1);
  after = λ k c n e part.
      let h = has_listed g w k n e in
      let p = part_of g k c n h part in
      child_after g w k p.0 c h.listed h.at p.1;
  one_parent = λ j k c m n e f part part2.
      let h = has_listed g w j m e in
      let i = has_listed g w k n f in
      let p = part_of g j c m h part in
      let q = part_of g k c n i part2 in
      one_parent g w j k p.0 q.0 c h.listed i.listed h.at i.at p.1 q.1;
  apart = λ k n e.
      let h = has_listed g w k n e in
      subst PartsApart h.is (read-apart g k h.listed.kind h.listed h.read.names);
}

empty_test : (b : Bool) (j : ℕ) (js : List ℕ) → (if b then js else j ∷ js) ≡ [] → (b ≡ true) × (js ≡ [])
empty_test true j js none = (refl, none)
empty_test false j js none = absurd (cc)

-- where none is unbuilt, each node is built
built_from : (j : ℕ) (a : Action) → unbuilt_from j a ≡ [] → (k : ℕ) (n : Node) → slice_get a k ≡ Some n → is_built_node n ≡ true
built_from j [] none k n at = cc
built_from j (m ∷ a) none zero n at =
    let same : m ≡ n = cc in
    ap is_built_node (sym same) ∙ (empty_test (is_built_node m) j (unbuilt_from (suc j) a) none).0
built_from j (m ∷ a) none (suc k) n at = built_from (suc j) a (empty_test (is_built_node m) j (unbuilt_from (suc j) a) none).1 k n at

pub built-of-graph : (a : Action) → unbuilt a ≡ [] → (k : ℕ) (n : Node) → slice_get a k ≡ Some n → is_built_node n ≡ true
built-of-graph a none k n at = built_from 0 a none k n at
