-- The bodies that nodes call by their numbers: each is a node of the action behind the first, and no part of a node, so it is the root of a procedure.
use Rattle.std.proofs.Common.{◌≡◌, ◌⊎◌, ⊎_elim, ℕ, suc, ◌+◌, ◌<◌, List, [], ◌∷◌, length, get_or, refl, sym, ap, subst, ◌∙◌, inl, inr, arith}
use Rattle.std.specs.Prelude.{Option, Some, None, slice_get}
use Rattle.std.proofs.lemmas.List.Elements.{All-get_or}
use Rattle.std.proofs.lemmas.Option.{get_or_from_slice_get, slice_get_within}
use Rattle.action_terms.specs.Actions.{Node, Unfolding, Unfold, Furthermore, Both, Phases, Either, Trapping, Branch, Action, node_at, node_or_stray}
use Rattle.action_terms.specs.ByKind.{node_read}
use Rattle.action_terms.specs.Labels.{AnAction}
use Rattle.action_terms.specs.Meaning.{action_of}
use Rattle.action_terms.specs.Numbering.{IsGraph, Listed, ListedNode, ListedYielder, action_count, nodes_of}
use Rattle.action_terms.specs.Performances.{OneOf}
use Rattle.action_terms.specs.declared.kinds.Kind.{Kind}
use Rattle.action_terms.specs.declared.kinds.Kind.TheVariants as kind
use Rattle.action_terms.proofs.Each.{Each-at_first}
use Rattle.action_terms.proofs.ProperGraphs.{node_bodies}
use Rattle.action_terms.proofs.UnfoldLaws.{HasUnfolding, Repeats, repeats}
use Rattle.sort_rules.specs.Procedures.{parts_at, procedure_of, whole_of}
use Rattle.sort_rules.proofs.Choices.{either, member_cases}
use Rattle.frame_layout.proofs.GraphParts.{HasTrees}
use Rattle.frame_layout.proofs.ProcedureRoots.{procedure-own, whole-part}
use Rattle.rv_codegen.proofs.Framed.{NamesWithin}
use Rattle.rv_codegen.proofs.GraphNodes.{has_listed, length-action_of, part_of, tree-of-graph}
use Rattle.rv_codegen.proofs.NodeParts.{CallsByNumber, IsPartOf}
use Rattle.rv_codegen.proofs.UnfoldedBodies.{HasBody, NoChildren, bodies-tree, no_children-tree}

-- the bodies of an action
pub record HasBodies (a : Action) : Type 0 where
  pub within : (k c : ℕ) → CallsByNumber (node_at a k) c → c < length a
  pub later : (k c : ℕ) → CallsByNumber (node_at a k) c → 0 < c
  pub no_part : (k c j : ℕ) (n : Node) → CallsByNumber (node_at a k) c → slice_get a j ≡ Some n → IsPartOf n c → ⊥

-- ---- they are roots of procedures

one-listed : (l c : ℕ) → OneOf c (l ∷ []) → l ≡ c
one-listed l c m = either (λ e. sym e) (λ none. elim none [ ]) (member_cases m)

two-listed : (l r c : ℕ) → OneOf c (l ∷ r ∷ []) → (l ≡ c) ⊎ (r ≡ c)
two-listed l r c m = either (λ e. inl (sym e)) (λ later. inr (one-listed r c later)) (member_cases m)

listed-part : (n : Node) (c : ℕ) → OneOf c (parts_at n) → IsPartOf n c
listed-part (Furthermore l) c m = one-listed l c m
listed-part (Both j l r) c m = two-listed l r c m
listed-part (Phases q l r) c m = two-listed l r c m
listed-part (Either l r) c m = two-listed l r c m
listed-part (Trapping l r) c m = two-listed l r c m
listed-part (Branch y l r) c m = two-listed l r c m
listed-part _ c m = elim m [ ]

-- a node with parts is there
there-with : (o : Option Node) (c : ℕ) → OneOf c (parts_at (node_or_stray o)) → o ≡ Some (node_or_stray o)
there-with (Some n) c m = refl
there-with None c m = elim m [ ]

pub body-whole : (a : Action) → HasBodies a → (k c : ℕ) → CallsByNumber (node_at a k) c → whole_of a c ≡ None
body-whole a bodies k c calls = go (whole_of a c) refl
  where
    go : (o : Option ℕ) → whole_of a c ≡ o → whole_of a c ≡ None
    go None e = e
    go (Some j) e =
        let part = whole-part a c j e in
        absurd (bodies.no_part k c j (node_at a j) calls (there-with (slice_get a j) c part) (listed-part (node_at a j) c part))

pub body-root : (a : Action) → HasTrees a → HasBodies a → (k c : ℕ) → CallsByNumber (node_at a k) c → procedure_of a c ≡ c
body-root a trees bodies k c calls = procedure-own a trees c (body-whole a bodies k c calls)

-- ---- the action of a graph

read-unfolding : (ls : List ListedYielder) (kd : Kind) (n : ListedNode) (c : ℕ) → node_read ls kd n ≡ Unfolding c → (kd ≡ kind.Unfolding) × (n.body ≡ c)
read-unfolding ls kind.Unfolding n c e = (refl, cc)
read-unfolding ls _ n c e = cc

read-unfold : (ls : List ListedYielder) (kd : Kind) (n : ListedNode) (c : ℕ) → node_read ls kd n ≡ Unfold c → (kd ≡ kind.Unfold) × (n.body ≡ c)
read-unfold ls kind.Unfold n c e = (refl, cc)
read-unfold ls _ n c e = cc

is-there : (o : Option Node) (n : Node) → node_or_stray o ≡ n → ((node_or_stray None ≡ n) → ⊥) → o ≡ Some n
is-there (Some m) n e other = ap Some e
is-there None n e other = absurd (other e)

module _ (g : Listed) (w : IsGraph g) where
  -- what is called is the body of an `unfolding`
  called-unfolding : (k c : ℕ) → CallsByNumber (node_at (action_of g) k) c → HasUnfolding g.nodes c
  called-unfolding k c calls = ⊎_elim
      (λ e.
      let h = has_listed g w k (Unfolding c) (is-there (slice_get (action_of g) k) (Unfolding c) e (λ q. cc)) in
      let r = read-unfolding g.yielders h.listed.kind h.listed c h.is in
      record { number = k; node = h.listed; listed = h.at; kind = r.0; body = r.1 })
      (λ e.
      let h = has_listed g w k (Unfold c) (is-there (slice_get (action_of g) k) (Unfold c) e (λ q. cc)) in
      let r = read-unfold g.yielders h.listed.kind h.listed c h.is in
      let nodes = ap (λ l. l.nodes) w.1.numbered in
      let found : HasUnfolding (nodes_of None 0 0 w.0) h.listed.body = Each-at_first (Repeats (nodes_of None 0 0 w.0)) (nodes_of None 0 0 w.0) k h.listed (repeats w.0 w.1.none_stray) (ap (λ l. slice_get l k) (sym nodes) ∙ h.at) r.0 in
      subst (HasUnfolding g.nodes) r.1 (subst (λ ns. HasUnfolding ns h.listed.body) (sym nodes) found))
      calls

  -- which is the node behind it
  body-behind : (c : ℕ) (h : HasUnfolding g.nodes c) → c ≡ suc h.number
  body-behind c h =
      let nodes = ap (λ l. l.nodes) w.1.numbered in
      let all = bodies-tree w.0 AnAction None 0 0 (0 + action_count w.0) w.1.action (omega arith) in
      sym h.body ∙ (Each-at_first (HasBody (0 + action_count w.0)) (nodes_of None 0 0 w.0) h.number h.node all (ap (λ l. slice_get l h.number) (sym nodes) ∙ h.listed) h.kind).0

  body-no_child : (c : ℕ) (h : HasUnfolding g.nodes c) (j i : ℕ) (n : ListedNode) → slice_get g.nodes j ≡ Some n → slice_get n.children i ≡ Some c → ⊥
  body-no_child c h j i n at child =
      let none : NoChildren 0 g.nodes = subst (NoChildren 0) (sym (ap (λ l. l.nodes) w.1.numbered)) (no_children-tree w.0 AnAction None 0 0 w.1.action) in
      let place : c ≡ suc (0 + h.number) = omega (arith, body-behind c h) in
      none h.number j i h.node n h.listed h.kind at (subst (λ d. slice_get n.children i ≡ Some d) place child)

  body-within : (c : ℕ) → HasUnfolding g.nodes c → c < length g.nodes
  body-within c h =
      let lt = slice_get_within g.nodes h.number h.node h.listed in
      let small : (get_or g.nodes h.number h.node).body < length g.nodes = All-get_or (λ n. n.body < length g.nodes) g.nodes h.number h.node lt (node_bodies g w) in
      omega (arith, small, ap (λ n. n.body) (get_or_from_slice_get g.nodes h.number h.node h.node h.listed), h.body)

  pub bodies-of-graph : HasBodies (action_of g)
  bodies-of-graph = record {
    within = λ k c calls. omega (arith, length-action_of g, body-within c (called-unfolding k c calls));
    later = λ k c calls. let h = called-unfolding k c calls in omega (arith, body-behind c h);
    no_part = λ k c j n calls at part.
        let h = has_listed g w j n at in
        let p = part_of g j c n h part in
        body-no_child c (called-unfolding k c calls) j p.0 h.listed h.at p.1;
  }

  -- what nodes name are nodes of the action
  pub names-of-graph : NamesWithin (action_of g)
  names-of-graph j r n at name = ⊎_elim
      (λ part. (tree-of-graph g w).within j r n at part)
      (λ calls. bodies-of-graph.within j r (subst (λ m. CallsByNumber m r) (sym (ap node_or_stray at)) calls))
      name
