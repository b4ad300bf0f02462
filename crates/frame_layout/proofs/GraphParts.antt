-- The parts of the nodes of a graph make trees.
use Rattle.std.proofs.Common.{◌≡◌, ℕ, zero, suc, ◌<◌, List, [], ◌∷◌, length, refl, sym, ap, subst, ◌∙◌, arith}
use Rattle.std.specs.Prelude.{Option, Some, None, map, slice_get}
use Rattle.std.proofs.lemmas.List.{length-map}
use Rattle.std.proofs.lemmas.Option.{slice_get-get_or}
use Rattle.action_terms.specs.Actions.{Action, Node, node_at, node_or_stray}
use Rattle.action_terms.specs.ByKind.{HasRead, IsRead, NamesRead, node_read, part_at}
use Rattle.action_terms.specs.Meaning.{action_of, items_from, node_with}
use Rattle.action_terms.specs.Numbering.{IsGraph, Listed, ListedNode, ListedYielder}
use Rattle.action_terms.specs.Performances.{OneOf}
use Rattle.action_terms.specs.declared.kinds.Kind.{Kind}
use Rattle.action_terms.specs.declared.kinds.Kind.TheVariants as kind
use Rattle.action_terms.proofs.GraphLaws.{child_after, child_within, one_parent}
use Rattle.action_terms.proofs.ReadGraphs.{is-read}
use Rattle.sort_rules.specs.Procedures.{parts_at}
use Rattle.sort_rules.proofs.Choices.{either, member_cases}
use Rattle.frame_layout.specs.Layouts.{IsInTurn, OfBoth, OfEither, OfPhases, OfTrapping}

-- each part is a node behind its own, and of one node alone; a second part stands behind the first
pub record HasTrees (a : Action) : Type 0 where
  pub within : (k c : ℕ) → OneOf c (parts_at (node_at a k)) → c < length a
  pub behind : (k c : ℕ) → OneOf c (parts_at (node_at a k)) → k < c
  pub one : (j k c : ℕ) → OneOf c (parts_at (node_at a j)) → OneOf c (parts_at (node_at a k)) → j ≡ k
  pub in_turn : (k l r : ℕ) → IsInTurn (node_at a k) l r → l < r

-- a node of an action is made of a listed node
mapped_at : {A B : Type 0} (f : A → B) (xs : List A) (k : ℕ) (y : B) → slice_get (map f xs) k ≡ Some y → (x : A) × (slice_get xs k ≡ Some x)
mapped_at f [] k y e = absurd {0} (cc)
mapped_at f (x ∷ xs) zero y e = (x, refl)
mapped_at f (x ∷ xs) (suc k) y e = mapped_at f xs k y e

record HasListed (g : Listed) (k : ℕ) : Type 0 where
  listed : ListedNode
  at : slice_get g.nodes k ≡ Some listed
  read : IsRead g k listed.kind listed

has_listed : (g : Listed) → IsGraph g → (k : ℕ) (n : Node) → slice_get (action_of g) k ≡ Some n → HasListed g k
has_listed g w k n e =
    let found = mapped_at (node_with (items_from 0 g.yielders)) g.nodes k n e in
    record { listed = found.0; at = found.1; read = is-read g w k found.0 found.1 found.0.kind refl }

-- a node that has parts is there
with_parts : (o : Option Node) (c : ℕ) → OneOf c (parts_at (node_or_stray o)) → (n : Node) × (o ≡ Some n)
with_parts (Some n) c m = (n, refl)
with_parts None c m = elim m [ ]

in_turn-there : (o : Option Node) (l r : ℕ) → IsInTurn (node_or_stray o) l r → (n : Node) × (o ≡ Some n)
in_turn-there (Some n) l r h = (n, refl)
in_turn-there None l r h = elim h [ ]

-- a part of the node that is read is one of the listed children
child-listed : (n : ListedNode) (i c : ℕ) → i < length n.children → c ≡ part_at n i → (j : ℕ) × (slice_get n.children j ≡ Some c)
child-listed n i c less e = (i, slice_get-get_or n.children i 0 less ∙ ap Some (sym e))

one-listed : (n : ListedNode) (c : ℕ) → 0 < length n.children → OneOf c (part_at n 0 ∷ []) → (j : ℕ) × (slice_get n.children j ≡ Some c)
one-listed n c less m = either (child-listed n 0 c less) (λ none. elim none [ ]) (member_cases m)

two-listed : (n : ListedNode) (c : ℕ) → 1 < length n.children → OneOf c (part_at n 0 ∷ part_at n 1 ∷ []) → (j : ℕ) × (slice_get n.children j ≡ Some c)
two-listed n c less m = either (child-listed n 0 c (omega arith)) (λ m. either (child-listed n 1 c less) (λ none. elim none [ ]) (member_cases m)) (member_cases m)

part-listed : (ls : List ListedYielder) (kd : Kind) (n : ListedNode) (c : ℕ) → HasRead kd n → OneOf c (parts_at (node_read ls kd n)) → (j : ℕ) × (slice_get n.children j ≡ Some c)
part-listed ls kind.Furthermore n c h m = one-listed n c h m
part-listed ls kind.Or n c h m = two-listed n c h m
part-listed ls kind.And n c h m = two-listed n c h m
part-listed ls kind.AndThen n c h m = two-listed n c h m
part-listed ls kind.Then n c h m = two-listed n c h m
part-listed ls kind.Trap n c h m = two-listed n c h m
part-listed ls kind.Hence n c h m = two-listed n c h m
part-listed ls kind.Moreover n c h m = two-listed n c h m
part-listed ls kind.Before n c h m = two-listed n c h m
part-listed ls kind.Branch n c h m = two-listed n c h.0 m
part-listed ls _ n c h m = elim m [ ]

-- a second part is listed behind the first
turn-ascends : (g : Listed) (k : ℕ) (ls : List ListedYielder) (kd : Kind) (n : ListedNode) (l r : ℕ) → NamesRead k g kd n → IsInTurn (node_read ls kd n) l r → l < r
turn-ascends g k ls kind.Or n _ _ names OfEither = names.1
turn-ascends g k ls kind.And n _ _ names OfBoth = names.1
turn-ascends g k ls kind.AndThen n _ _ names OfPhases = names.1
turn-ascends g k ls kind.Then n _ _ names OfPhases = names.1
turn-ascends g k ls kind.Trap n _ _ names OfTrapping = names.1
turn-ascends g k ls kind.Hence n _ _ names OfPhases = names.1
turn-ascends g k ls kind.Moreover n _ _ names OfBoth = names.1
turn-ascends g k ls kind.Before n _ _ names OfPhases = names.1
turn-ascends g k ls _ n l r names h = elim h [ ]

-- the parts of a graph's nodes
record HasChild (g : Listed) (k c : ℕ) : Type 0 where
  listed : ListedNode
  at : slice_get g.nodes k ≡ Some listed
  place : ℕ
  child : slice_get listed.children place ≡ Some c

part-child : (g : Listed) → IsGraph g → (k c : ℕ) → OneOf c (parts_at (node_at (action_of g) k)) → HasChild g k c
part-child g w k c m =
    let there = with_parts (slice_get (action_of g) k) c m in
    let h = has_listed g w k there.0 there.1 in
    let found = part-listed g.yielders h.listed.kind h.listed c h.read.has (subst (λ x. OneOf c (parts_at x)) h.read.node m) in
    record { listed = h.listed; at = h.at; place = found.0; child = found.1 }

pub trees-of_graph : (g : Listed) → IsGraph g → HasTrees (action_of g)
trees-of_graph g w = record {
  within = λ k c m.
      let p = part-child g w k c m in
      omega (arith, child_within g w k p.place c p.listed p.at p.child, length-map g.nodes (node_with (items_from 0 g.yielders)));
  behind = λ k c m.
      let p = part-child g w k c m in
      child_after g w k p.place c p.listed p.at p.child;
  one = λ j k c m n.
      let p = part-child g w j c m in
      let q = part-child g w k c n in
      one_parent g w j k p.place q.place c p.listed q.listed p.at q.at p.child q.child;
  in_turn = λ k l r h.
      let there = in_turn-there (slice_get (action_of g) k) l r h in
      let i = has_listed g w k there.0 there.1 in
      turn-ascends g k g.yielders i.listed.kind i.listed l r i.read.names (subst (λ x. IsInTurn x l r) i.read.node h);
}
