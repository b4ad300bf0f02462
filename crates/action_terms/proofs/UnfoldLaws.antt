-- Each `unfold` of an action names the body of an `unfolding` around it.
use Rattle.std.proofs.Common.{◌≡◌, ℕ, suc, ◌+◌, List, [], ◌∷◌, ◌++◌, length, refl, sym, ap, subst, ◌∙◌, append_assoc, append-nil, length-append, arith}
use Rattle.std.specs.Prelude.{Option, Some, None, IfSome, slice_get}
use Rattle.action_terms.specs.Labels.{ActionNode, YielderNode, operand_lengths}
use Rattle.action_terms.specs.Trees.{Tree, tree, Trees, none, more}
use Rattle.action_terms.specs.Numbering.{ListedNode, pieces, children_of, body_of, around_parts, around_arguments, action_count, yielder_count, action_roots, yielder_roots, nodes_of, nodes_of_all, stray, strays_of, strays_of_all}
use Rattle.action_terms.specs.declared.kinds.Kind.{Kind}
use Rattle.action_terms.specs.declared.kinds.Kind.TheVariants as kind
use Rattle.action_terms.specs.declared.kinds.YKind.{YKind}
use Rattle.action_terms.specs.declared.kinds.YKind.TheVariants as ykind
use Rattle.action_terms.proofs.Each.{Each, Each-append}
use Rattle.action_terms.proofs.NodeCounts.{length-nodes_of}

-- c is the root of the body of an `unfolding` among these nodes
pub record HasUnfolding (all : List ListedNode) (c : ℕ) : Type 0 where
  pub number : ℕ
  pub node : ListedNode
  pub listed : slice_get all number ≡ Some node
  pub kind : node.kind ≡ kind.Unfolding
  pub body : node.body ≡ c

-- an `unfold` names such a body
abbrev pub Repeats : List ListedNode → ℕ → ListedNode → Type 0
Repeats all k n = n.kind ≡ kind.Unfold → HasUnfolding all n.body

-- the innermost `unfolding` around is among the nodes
abbrev Around : List ListedNode → Option ℕ → Type 0
Around all c = IfSome c (HasUnfolding all)

none_first : (xs ys : List ℕ) → xs ++ ys ≡ [] → xs ≡ []
none_first [] ys e = refl
none_first (x ∷ xs) ys e = cc

none_second : (xs ys : List ℕ) → xs ++ ys ≡ [] → ys ≡ []
none_second [] ys e = e
none_second (x ∷ xs) ys e = cc

-- the element behind the front of a list
at_front : (front xs : List ListedNode) (n : ListedNode) → slice_get (front ++ n ∷ xs) (length front) ≡ Some n
at_front [] xs n = refl
at_front (m ∷ front) xs n = at_front front xs n

repeats-here : (all : List ListedNode) (k : Kind) (a : ℕ) (c : Option ℕ) → stray k a c ≡ [] → Around all c → k ≡ kind.Unfold → HasUnfolding all (body_of k a c)
repeats-here all kind.Unfold a (Some b) unstray around is = around
repeats-here all kind.Unfold a None unstray around is = cc
repeats-here all _ a c unstray around is = cc

around-parts : (all : List ListedNode) (k : Kind) (a : ℕ) (c : Option ℕ) → Around all c → (k ≡ kind.Unfolding → HasUnfolding all (suc a)) → Around all (around_parts k a c)
around-parts all kind.Unfolding a c around here = here refl
around-parts all _ a c around here = around

around-arguments : (all : List ListedNode) (k : YKind) (c : Option ℕ) → Around all c → Around all (around_arguments k c)
around-arguments all ykind.Closure c around = tt
around-arguments all _ c around = around

mutual
  repeats-tree : (t : Tree) (c : Option ℕ) (a y : ℕ) (front rest all : List ListedNode) → strays_of c a t ≡ [] → Around all c → length front ≡ a → all ≡ front ++ (nodes_of c a y t ++ rest) → Each (Repeats all) a (nodes_of c a y t)
  repeats-tree (tree (ActionNode k n tk) ts) c a y front rest all unstray around is split =
      let node : ListedNode = record { kind = k; token = tk; children = children_of k (action_roots (suc a) ts); operands = pieces (operand_lengths k n) (yielder_roots y ts); body = body_of k a c } in
      let behind = nodes_of_all (around_parts k a c) (suc a) y ts ++ rest in
      let at : slice_get all a ≡ Some node = ap (λ l. slice_get l a) split ∙ ap (slice_get (front ++ node ∷ behind)) (sym is) ∙ at_front front behind node in
      let here : k ≡ kind.Unfolding → HasUnfolding all (suc a) = λ e. record { number = a; node = node; listed = at; kind = e; body = ap (λ m. body_of m a c) e } in
      let longer : length (front ++ node ∷ []) ≡ suc a = omega (arith, length-append front (node ∷ [])) in (
        repeats-here all k a c (none_first (stray k a c) (strays_of_all (around_parts k a c) (suc a) ts) unstray) around,
        repeats-trees ts (around_parts k a c) (suc a) y (front ++ node ∷ []) rest all (none_second (stray k a c) (strays_of_all (around_parts k a c) (suc a) ts) unstray) (around-parts all k a c around here) longer
            (split ∙ sym (append_assoc front (node ∷ []) behind)),
      )
  repeats-tree (tree (YielderNode k tk) ts) c a y front rest all unstray around is split =
      repeats-trees ts (around_arguments k c) a (suc y) front rest all unstray (around-arguments all k c around) is split

  repeats-trees : (ts : Trees) (c : Option ℕ) (a y : ℕ) (front rest all : List ListedNode) → strays_of_all c a ts ≡ [] → Around all c → length front ≡ a → all ≡ front ++ (nodes_of_all c a y ts ++ rest) → Each (Repeats all) a (nodes_of_all c a y ts)
  repeats-trees none c a y front rest all unstray around is split = tt
  repeats-trees (more t ts) c a y front rest all unstray around is split =
      let a1 = a + action_count t in
      let y1 = y + yielder_count t in
      let these = nodes_of c a y t in
      let those = nodes_of_all c a1 y1 ts in
      let inner : (these ++ those) ++ rest ≡ these ++ (those ++ rest) = append_assoc these those rest in
      let here = split ∙ ap (λ l. front ++ l) inner in
      let longer : length (front ++ these) ≡ a1 = omega (arith, length-append front these, length-nodes_of c a y t) in
      let P : ℕ → Type 0 = λ m. Each (Repeats all) (a + m) those in
      Each-append (Repeats all) a these those (repeats-tree t c a y front (those ++ rest) all (none_first (strays_of c a t) (strays_of_all c a1 ts) unstray) around is here)
      (subst P (sym (length-nodes_of c a y t)) (repeats-trees ts c a1 y1 (front ++ these) rest all (none_second (strays_of c a t) (strays_of_all c a1 ts) unstray) around longer (here ∙ sym (append_assoc front these (those ++ rest)))))

pub repeats : (t : Tree) → strays_of None 0 t ≡ [] → Each (Repeats (nodes_of None 0 0 t)) 0 (nodes_of None 0 0 t)
repeats t unstray = repeats-tree t None 0 0 [] [] (nodes_of None 0 0 t) unstray tt refl (sym (append-nil (nodes_of None 0 0 t)))
