-- What code finds that reads a node of a graph by its kind.
use Rattle.std.proofs.Common.{◌≡◌, ℕ, ◌<◌, false, List, length, get_or, map, refl, sym, ap, subst, ◌∙◌, arith}
use Rattle.std.specs.Prelude.{Option, Some, None, IfSome, slice_get, option_map}
use Rattle.std.proofs.lemmas.List.{length-map}
use Rattle.std.proofs.lemmas.Option.{slice_get-map, slice_get-get_or}
use Rattle.action_terms.specs.Numbering.{ListedNode, ListedYielder, Listed, IsGraph}
use Rattle.action_terms.specs.Forms.{AreParts}
use Rattle.action_terms.specs.ByKind.{or_no_body, part_at, body_at, HasRead, NamesRead, IsRead, IsYielderRead, is_primitive}
use Rattle.action_terms.specs.Nodes.{listed_node, listed_yielder}
use Rattle.action_terms.specs.declared.graph.Node.{Node}
use Rattle.action_terms.specs.declared.graph.YNode.{YNode}
use Rattle.action_terms.specs.declared.kinds.Kind.{Kind}
use Rattle.action_terms.specs.declared.kinds.Kind.TheVariants as kind
use Rattle.action_terms.proofs.AllLaws.{All-at}
use Rattle.action_terms.proofs.GraphLaws.{length-nodes_some, child_after, child_within, children_ascend, operand_within, wanted_at, node_at-kind}
use Rattle.action_terms.proofs.ProperGraphs.{node_bodies, yielder_bodies}
use Rattle.action_terms.proofs.ReadYielders.{yielder-read}
use Rattle.action_terms.proofs.ReadNodes.{node_of-read, has-read, operands-read}

part_some : (n : ListedNode) (i : ℕ) → i < length n.children → slice_get n.children i ≡ Some (part_at n i)
part_some n i less = slice_get-get_or n.children i 0 less

body_found : (count : ℕ) (o : Option ListedYielder) → 0 < count → IfSome o (λ l. l.body < count) → or_no_body o < count
body_found count (Some l) some h = h
body_found count None some h = some

body_at-below : (g : Listed) → IsGraph g → (y : ℕ) → body_at g.yielders y < length g.nodes
body_at-below g w y = body_found (length g.nodes) (slice_get g.yielders y) (length-nodes_some g w) (All-at (λ l. l.body < length g.nodes) g.yielders y (yielder_bodies g w))

module _ (g : Listed) (w : IsGraph g) (k : ℕ) (n : ListedNode) (at : slice_get g.nodes k ≡ Some n) where
  one_part : 0 < length n.children → (k < part_at n 0) × (part_at n 0 < length g.nodes)
  one_part less =
      (child_after g w k 0 (part_at n 0) n at (part_some n 0 less), child_within g w k 0 (part_at n 0) n at (part_some n 0 less))

  two_parts : 1 < length n.children → AreParts k (length g.nodes) (part_at n 0) (part_at n 1)
  two_parts less =
      let some : 0 < length n.children = omega arith in
      let ascend : 0 < 1 = omega arith in (
        (one_part some).0,
        children_ascend g w k 0 1 (part_at n 0) (part_at n 1) n at (part_some n 0 some) (part_some n 1 less) ascend,
        child_within g w k 1 (part_at n 1) n at (part_some n 1 less),
      )

  body-below : n.body < length g.nodes
  body-below =
      let P : Option ListedNode → Type 0 = λ o. IfSome o (λ m. m.body < length g.nodes) in
      subst P at (All-at (λ m. m.body < length g.nodes) g.nodes k (node_bodies g w))

  names-read : (kd : Kind) → HasRead kd n → NamesRead k g kd n
  names-read kind.BindRec h = body_at-below g w _
  names-read kind.Unfold h = body-below
  names-read kind.Unfolding h = body-below
  names-read kind.Furthermore h = one_part h
  names-read kind.Or h = two_parts h
  names-read kind.And h = two_parts h
  names-read kind.AndThen h = two_parts h
  names-read kind.Then h = two_parts h
  names-read kind.Trap h = two_parts h
  names-read kind.Hence h = two_parts h
  names-read kind.Moreover h = two_parts h
  names-read kind.Before h = two_parts h
  names-read kind.Branch h = two_parts h.0
  names-read _ h = tt

  pub is-read : (kd : Kind) → n.kind ≡ kd → IsRead g k kd n
  is-read kd is =
      let h = wanted_at g w k n kd at is in
      let has = has-read g.yielders kd n h in
      record {
        has = has;
        node = node_at-kind g k n kd at is ∙ node_of-read g.yielders kd n h;
        operands = operands-read g.yielders kd n (λ i j y o operand item. operand_within g w k i j y n o at operand item) has h;
        names = names-read kd has;
      }

-- what is listed at the place of an element
pub listed_at : {A B : Type 0} (f : A → B) (xs : List A) (ys : List B) (k : ℕ) (d : A) → map f xs ≡ ys → k < length ys → slice_get ys k ≡ Some (f (get_or xs k d))
listed_at f xs ys k d e lt =
    let within : k < length xs = omega (arith, ap length e, length-map xs f) in
    ap (λ l. slice_get l k) (sym e) ∙ slice_get-map f xs k ∙ ap (option_map f) (slice_get-get_or xs k d within)

-- the same for a node in memory, and for a yielder
pub read-node : (g : Listed) → IsGraph g → (nodes : List Node) (k : ℕ) (d : Node) → map listed_node nodes ≡ g.nodes → k < length g.nodes → IsRead g k (get_or nodes k d).kind (listed_node (get_or nodes k d))
read-node g w nodes k d same within = is-read g w k (listed_node (get_or nodes k d)) (listed_at listed_node nodes g.nodes k d same within) (get_or nodes k d).kind refl

pub read-yielder : (g : Listed) → IsGraph g → (yielders : List YNode) (y : ℕ) (d : YNode) → map listed_yielder yielders ≡ g.yielders → y < length g.yielders
    → IsYielderRead g y (get_or yielders y d).kind (listed_yielder (get_or yielders y d))
read-yielder g w yielders y d same within =
    yielder-read g w y (listed_yielder (get_or yielders y d)) (get_or yielders y d).kind (listed_at listed_yielder yielders g.yielders y d same within) refl

-- a kind of node that isn't done in one step is one of these
pub compound_kind : (k : Kind) → is_primitive k ≡ false
    → (k ≡ kind.Enact → ⊥) → (k ≡ kind.Apply → ⊥) → (k ≡ kind.Unfold → ⊥) → (k ≡ kind.Unfolding → ⊥) → (k ≡ kind.Furthermore → ⊥) → (k ≡ kind.Or → ⊥) → (k ≡ kind.And → ⊥)
    → (k ≡ kind.AndThen → ⊥) → (k ≡ kind.Then → ⊥) → (k ≡ kind.Trap → ⊥) → (k ≡ kind.Hence → ⊥) → (k ≡ kind.Moreover → ⊥) → (k ≡ kind.Before → ⊥) → (k ≡ kind.Branch → ⊥) → ⊥
compound_kind kind.Enact p n1 n2 n3 n4 n5 n6 n7 n8 n9 n10 n11 n12 n13 n14 = n1 refl
compound_kind kind.Apply p n1 n2 n3 n4 n5 n6 n7 n8 n9 n10 n11 n12 n13 n14 = n2 refl
compound_kind kind.Unfold p n1 n2 n3 n4 n5 n6 n7 n8 n9 n10 n11 n12 n13 n14 = n3 refl
compound_kind kind.Unfolding p n1 n2 n3 n4 n5 n6 n7 n8 n9 n10 n11 n12 n13 n14 = n4 refl
compound_kind kind.Furthermore p n1 n2 n3 n4 n5 n6 n7 n8 n9 n10 n11 n12 n13 n14 = n5 refl
compound_kind kind.Or p n1 n2 n3 n4 n5 n6 n7 n8 n9 n10 n11 n12 n13 n14 = n6 refl
compound_kind kind.And p n1 n2 n3 n4 n5 n6 n7 n8 n9 n10 n11 n12 n13 n14 = n7 refl
compound_kind kind.AndThen p n1 n2 n3 n4 n5 n6 n7 n8 n9 n10 n11 n12 n13 n14 = n8 refl
compound_kind kind.Then p n1 n2 n3 n4 n5 n6 n7 n8 n9 n10 n11 n12 n13 n14 = n9 refl
compound_kind kind.Trap p n1 n2 n3 n4 n5 n6 n7 n8 n9 n10 n11 n12 n13 n14 = n10 refl
compound_kind kind.Hence p n1 n2 n3 n4 n5 n6 n7 n8 n9 n10 n11 n12 n13 n14 = n11 refl
compound_kind kind.Moreover p n1 n2 n3 n4 n5 n6 n7 n8 n9 n10 n11 n12 n13 n14 = n12 refl
compound_kind kind.Before p n1 n2 n3 n4 n5 n6 n7 n8 n9 n10 n11 n12 n13 n14 = n13 refl
compound_kind kind.Branch p n1 n2 n3 n4 n5 n6 n7 n8 n9 n10 n11 n12 n13 n14 = n14 refl
compound_kind _ p n1 n2 n3 n4 n5 n6 n7 n8 n9 n10 n11 n12 n13 n14 = cc
