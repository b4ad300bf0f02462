-- No node of an action is stray: its parts and its operands are those that its kind wants.
use Rattle.std.proofs.Common.{◌≡◌, ℕ, zero, suc, ◌+◌, true, List, [], ◌∷◌, ◌++◌, length, map, take, drop, refl, sym, ap, subst, ◌∙◌, append_assoc, append-nil, length-append, arith}
use Rattle.std.specs.Prelude.{◌≢◌, Option, None}
use Rattle.action_terms.specs.Labels.{ActionNode, YielderNode, Wanted, AnAction, AYielder, AnItem, AClosure, copies, is_datum, is_closure, yielder_fits, operand_lengths, under_action, under_yielder}
use Rattle.action_terms.specs.Trees.{Tree, tree, Trees, none, more, Is, Are}
use Rattle.action_terms.specs.Numbering.{ListedNode, ListedYielder, pieces, children_of, body_of, around_parts, around_arguments, closure_body, action_count, yielder_count, action_roots, yielder_roots, nodes_of, nodes_of_all, yielders_of, yielders_of_all}
use Rattle.action_terms.specs.Entries.{part_count}
use Rattle.action_terms.specs.Actions.{Yielder, ClosureOf, Item, Single, Them, Stray}
use Rattle.action_terms.specs.Meaning.{item_of, picked, items_from, node_of, node_with}
use Rattle.action_terms.specs.declared.kinds.Kind.{Kind}
use Rattle.action_terms.specs.declared.kinds.Kind.TheVariants as kind
use Rattle.action_terms.specs.declared.kinds.YKind.{YKind}
use Rattle.action_terms.specs.declared.kinds.YKind.TheVariants as ykind
use Rattle.action_terms.proofs.Whole.{both}
use Rattle.action_terms.proofs.Each.{Each, Each-append}
use Rattle.action_terms.proofs.NodeCounts.{length-nodes_of, length-yielders_of}
use Rattle.action_terms.proofs.RootCounts.{length-action_roots_under}
use Rattle.action_terms.proofs.ItemLaws.{items_in, at_least-from, yielder_roots-at_least, picked-behind, picked-trees}

abbrev pub IsSingle : Item → Type 0
IsSingle (Single e) = Unit {0}
IsSingle Them = ⊥

abbrev IsClosureItem : Item → Type 0
IsClosureItem (Single (ClosureOf c)) = Unit {0}
IsClosureItem _ = ⊥

-- the items are those that the places want, which no action gives
abbrev pub ItemsFit : List Wanted → List Item → Type 0
ItemsFit [] [] = Unit {0}
ItemsFit [] (i ∷ is) = ⊥
ItemsFit (AnAction ∷ xs) is = ItemsFit xs is
ItemsFit (AYielder ∷ xs) [] = ⊥
ItemsFit (AYielder ∷ xs) (i ∷ is) = IsSingle i × ItemsFit xs is
ItemsFit (AnItem ∷ xs) [] = ⊥
ItemsFit (AnItem ∷ xs) (i ∷ is) = ItemsFit xs is
ItemsFit (AClosure ∷ xs) [] = ⊥
ItemsFit (AClosure ∷ xs) (i ∷ is) = IsClosureItem i × ItemsFit xs is

-- the forms of the items that some places want
pub one_single : (is : List Item) → ItemsFit (AYielder ∷ []) is → (e : Yielder) × (is ≡ Single e ∷ [])
one_single [] h = elim h [ ]
one_single (Single e ∷ []) h = (e, refl)
one_single (Them ∷ is) h = elim h.0 [ ]
one_single (Single e ∷ i ∷ is) h = elim h.1 [ ]

pub two_singles : (is : List Item) → ItemsFit (AYielder ∷ AYielder ∷ []) is → (e : Yielder) × (f : Yielder) × (is ≡ Single e ∷ Single f ∷ [])
two_singles [] h = elim h [ ]
two_singles (Them ∷ is) h = elim h.0 [ ]
two_singles (Single e ∷ is) h = let r = one_single is h.1 in (e, r.0, ap (λ l. Single e ∷ l) r.1)

single_first : (xs : List Wanted) (is : List Item) → ItemsFit (AYielder ∷ xs) is → (e : Yielder) × (rest : List Item) × (is ≡ Single e ∷ rest)
single_first xs [] h = elim h [ ]
single_first xs (Single e ∷ is) h = (e, is, refl)
single_first xs (Them ∷ is) h = elim h.0 [ ]

closure_form : (i : Item) → IsClosureItem i → (c : ℕ) × (i ≡ Single (ClosureOf c))
closure_form (Single (ClosureOf c)) h = (c, refl)
closure_form _ h = elim h [ ]

one_closure : (is : List Item) → ItemsFit (AClosure ∷ []) is → (c : ℕ) × (is ≡ Single (ClosureOf c) ∷ [])
one_closure [] h = elim h [ ]
one_closure (i ∷ []) h = let r = closure_form i h.0 in (r.0, ap (λ j. j ∷ []) r.1)
one_closure (i ∷ j ∷ is) h = elim h.1 [ ]

-- a yielder that is a datum has one item, and a closure is one
single-datum : (k : YKind) (tk : List ℕ) (c : ℕ) (is : List Item) → is_datum k ≡ true → ItemsFit (under_yielder k) is → IsSingle (item_of k tk c is)
single-datum (ykind.Number z) tk c is d h = tt
single-datum (ykind.Truth b) tk c is d h = tt
single-datum ykind.Them tk c is d h = cc
single-datum (ykind.Given s zero) tk c is d h = tt
single-datum (ykind.Given s (suc p)) tk c is d h = tt
single-datum (ykind.Bound s) tk c is d h = tt
single-datum ykind.Closure tk c is d h = tt
single-datum (ykind.Stored s) tk c is d h = let r = one_single is h in let P : List Item → Type 0 = λ l. IsSingle (item_of (ykind.Stored s) tk c l) in subst P (sym r.1) tt
single-datum ykind.Negation tk c is d h = let r = one_single is h in let P : List Item → Type 0 = λ l. IsSingle (item_of ykind.Negation tk c l) in subst P (sym r.1) tt
single-datum ykind.Not tk c is d h = let r = one_single is h in let P : List Item → Type 0 = λ l. IsSingle (item_of ykind.Not tk c l) in subst P (sym r.1) tt
single-datum ykind.Sum tk c is d h = let r = two_singles is h in let P : List Item → Type 0 = λ l. IsSingle (item_of ykind.Sum tk c l) in subst P (sym r.2) tt
single-datum ykind.Difference tk c is d h = let r = two_singles is h in let P : List Item → Type 0 = λ l. IsSingle (item_of ykind.Difference tk c l) in subst P (sym r.2) tt
single-datum ykind.Product tk c is d h = let r = two_singles is h in let P : List Item → Type 0 = λ l. IsSingle (item_of ykind.Product tk c l) in subst P (sym r.2) tt
single-datum ykind.Quotient tk c is d h = let r = two_singles is h in let P : List Item → Type 0 = λ l. IsSingle (item_of ykind.Quotient tk c l) in subst P (sym r.2) tt
single-datum ykind.Remainder tk c is d h = let r = two_singles is h in let P : List Item → Type 0 = λ l. IsSingle (item_of ykind.Remainder tk c l) in subst P (sym r.2) tt
single-datum ykind.Is tk c is d h = let r = two_singles is h in let P : List Item → Type 0 = λ l. IsSingle (item_of ykind.Is tk c l) in subst P (sym r.2) tt
single-datum ykind.Less tk c is d h = let r = two_singles is h in let P : List Item → Type 0 = λ l. IsSingle (item_of ykind.Less tk c l) in subst P (sym r.2) tt
single-datum ykind.Both tk c is d h = let r = two_singles is h in let P : List Item → Type 0 = λ l. IsSingle (item_of ykind.Both tk c l) in subst P (sym r.2) tt
single-datum ykind.Either tk c is d h = let r = two_singles is h in let P : List Item → Type 0 = λ l. IsSingle (item_of ykind.Either tk c l) in subst P (sym r.2) tt

closure-item : (k : YKind) (tk : List ℕ) (c : ℕ) (is : List Item) → is_closure k ≡ true → IsClosureItem (item_of k tk c is)
closure-item ykind.Closure tk c is d = tt
closure-item _ tk c is d = cc

-- the items of trees are those that their places want
pub items-fit : (ts : Trees) (xs : List Wanted) (a : ℕ) → Are xs ts → ItemsFit xs (items_in a ts)
items-fit none [] a h = tt
items-fit none (x ∷ xs) a h = elim h [ ]
items-fit (more t ts) [] a h = elim h [ ]
items-fit (more (tree (ActionNode k n tk) us) ts) (AnAction ∷ xs) a h = items-fit ts xs (a + action_count (tree (ActionNode k n tk) us)) h.1
items-fit (more (tree (ActionNode k n tk) us) ts) (AYielder ∷ xs) a h = let e = h.0.0 in cc
items-fit (more (tree (ActionNode k n tk) us) ts) (AnItem ∷ xs) a h = let e = h.0.0 in cc
items-fit (more (tree (ActionNode k n tk) us) ts) (AClosure ∷ xs) a h = let e = h.0.0 in cc
items-fit (more (tree (YielderNode k tk) us) ts) (AnAction ∷ xs) a h = let e = h.0.0 in cc
items-fit (more (tree (YielderNode k tk) us) ts) (AYielder ∷ xs) a h =
    (single-datum k tk (closure_body k a) (items_in a us) (both (is_datum k) (yielder_fits k tk) h.0.0).0 (items-fit us (under_yielder k) a h.0.1), items-fit ts xs (a + action_count (tree (YielderNode k tk) us)) h.1)
items-fit (more (tree (YielderNode k tk) us) ts) (AnItem ∷ xs) a h = items-fit ts xs (a + action_count (tree (YielderNode k tk) us)) h.1
items-fit (more (tree (YielderNode k tk) us) ts) (AClosure ∷ xs) a h =
    (closure-item k tk (closure_body k a) (items_in a us) (both (is_closure k) (yielder_fits k tk) h.0.0).0, items-fit ts xs (a + action_count (tree (YielderNode k tk) us)) h.1)

-- items cut into operands
abbrev cut : List ℕ → List Item → List (List Item)
cut [] is = []
cut (n ∷ lengths) is = take n is ∷ cut lengths (drop n is)

picked-take : (items : List Item) (n : ℕ) (ns : List ℕ) → picked 0 items (take n ns) ≡ take n (picked 0 items ns)
picked-take items zero ns = refl
picked-take items (suc n) [] = refl
picked-take items (suc n) (m ∷ ns) = ap (λ l. picked 0 items (m ∷ []) ++ l) (picked-take items n ns)

picked-drop : (items : List Item) (n : ℕ) (ns : List ℕ) → picked 0 items (drop n ns) ≡ drop n (picked 0 items ns)
picked-drop items zero ns = refl
picked-drop items (suc n) [] = refl
picked-drop items (suc n) (m ∷ ns) = picked-drop items n ns

picked-pieces : (items : List Item) (lengths ns : List ℕ) → map (picked 0 items) (pieces lengths ns) ≡ cut lengths (picked 0 items ns)
picked-pieces items [] ns = refl
picked-pieces items (n ∷ lengths) ns =
    ap (λ l. l ∷ map (picked 0 items) (pieces lengths (drop n ns))) (picked-take items n ns)
    ∙ ap (λ l. take n (picked 0 items ns) ∷ l) (picked-pieces items lengths (drop n ns) ∙ ap (cut lengths) (picked-drop items n ns))

one_root : (roots : List ℕ) → length roots ≡ 1 → (l : ℕ) × (roots ≡ l ∷ [])
one_root [] is = absurd (omega arith)
one_root (l ∷ []) is = (l, refl)
one_root (l ∷ r ∷ roots) is = absurd (omega arith)

two_roots : (roots : List ℕ) → length roots ≡ 2 → (l : ℕ) × (r : ℕ) × (roots ≡ l ∷ r ∷ [])
two_roots [] is = absurd (omega arith)
two_roots (l ∷ []) is = absurd (omega arith)
two_roots (l ∷ r ∷ []) is = (l, r, refl)
two_roots (l ∷ r ∷ m ∷ roots) is = absurd (omega arith)

-- with such parts and operands the node isn't stray
sound : (k : Kind) (n : ℕ) (tk : List ℕ) (c : ℕ) (roots : List ℕ) (is : List Item) → length roots ≡ part_count k → ItemsFit (under_action k n) is → node_of k tk c (children_of k roots) (cut (operand_lengths k n) is) ≢ Stray
sound kind.Complete n tk c roots is count h = λ e. cc
sound kind.Fail n tk c roots is count h = λ e. cc
sound kind.Escape n tk c roots is count h = λ e. cc
sound kind.Commit n tk c roots is count h = λ e. cc
sound kind.Regive n tk c roots is count h = λ e. cc
sound kind.Rebind n tk c roots is count h = λ e. cc
sound kind.Allocate n tk c roots is count h = λ e. cc
sound kind.Receive n tk c roots is count h = λ e. cc
sound kind.Unfold n tk c roots is count h = λ e. cc
sound kind.Give n tk c roots is count h = λ e. cc
sound kind.EscapeWith n tk c roots is count h = λ e. cc
sound kind.Unfolding n tk c roots is count h = λ e. cc
sound kind.Check n tk c roots is count h = let r = one_single is h in let P : List Item → Type 0 = λ l. node_of kind.Check tk c roots (cut (1 ∷ []) l) ≢ Stray in subst P (sym r.1) (λ e. cc)
sound kind.Bind n tk c roots is count h = let r = one_single is h in let P : List Item → Type 0 = λ l. node_of kind.Bind tk c roots (cut (1 ∷ []) l) ≢ Stray in subst P (sym r.1) (λ e. cc)
sound kind.Send n tk c roots is count h = let r = one_single is h in let P : List Item → Type 0 = λ l. node_of kind.Send tk c roots (cut (1 ∷ []) l) ≢ Stray in subst P (sym r.1) (λ e. cc)
sound kind.Enact n tk c roots is count h = let r = one_single is h in let P : List Item → Type 0 = λ l. node_of kind.Enact tk c roots (cut (1 ∷ []) l) ≢ Stray in subst P (sym r.1) (λ e. cc)
sound kind.BindRec n tk c roots is count h = let r = one_closure is h in let P : List Item → Type 0 = λ l. node_of kind.BindRec tk c roots (cut (1 ∷ []) l) ≢ Stray in subst P (sym r.1) (λ e. cc)
sound kind.Store n tk c roots is count h = let r = two_singles is h in let P : List Item → Type 0 = λ l. node_of kind.Store tk c roots (cut (1 ∷ 1 ∷ []) l) ≢ Stray in subst P (sym r.2) (λ e. cc)
sound kind.Apply n tk c roots is count h = let r = single_first (copies n AnItem) is h in let P : List Item → Type 0 = λ l. node_of kind.Apply tk c roots (cut (1 ∷ n ∷ []) l) ≢ Stray in subst P (sym r.2) (λ e. cc)
sound kind.Furthermore n tk c roots is count h = let r = one_root roots count in let P : List ℕ → Type 0 = λ l. node_of kind.Furthermore tk c l [] ≢ Stray in subst P (sym r.1) (λ e. cc)
sound kind.Or n tk c roots is count h = let r = two_roots roots count in let P : List ℕ → Type 0 = λ l. node_of kind.Or tk c l [] ≢ Stray in subst P (sym r.2) (λ e. cc)
sound kind.And n tk c roots is count h = let r = two_roots roots count in let P : List ℕ → Type 0 = λ l. node_of kind.And tk c l [] ≢ Stray in subst P (sym r.2) (λ e. cc)
sound kind.AndThen n tk c roots is count h = let r = two_roots roots count in let P : List ℕ → Type 0 = λ l. node_of kind.AndThen tk c l [] ≢ Stray in subst P (sym r.2) (λ e. cc)
sound kind.Then n tk c roots is count h = let r = two_roots roots count in let P : List ℕ → Type 0 = λ l. node_of kind.Then tk c l [] ≢ Stray in subst P (sym r.2) (λ e. cc)
sound kind.Trap n tk c roots is count h = let r = two_roots roots count in let P : List ℕ → Type 0 = λ l. node_of kind.Trap tk c l [] ≢ Stray in subst P (sym r.2) (λ e. cc)
sound kind.Hence n tk c roots is count h = let r = two_roots roots count in let P : List ℕ → Type 0 = λ l. node_of kind.Hence tk c l [] ≢ Stray in subst P (sym r.2) (λ e. cc)
sound kind.Moreover n tk c roots is count h = let r = two_roots roots count in let P : List ℕ → Type 0 = λ l. node_of kind.Moreover tk c l [] ≢ Stray in subst P (sym r.2) (λ e. cc)
sound kind.Before n tk c roots is count h = let r = two_roots roots count in let P : List ℕ → Type 0 = λ l. node_of kind.Before tk c l [] ≢ Stray in subst P (sym r.2) (λ e. cc)
sound kind.Branch n tk c roots is count h =
    let r = two_roots roots count in
    let q = one_single is h in
    let P : List ℕ → Type 0 = λ l. node_of kind.Branch tk c l (cut (1 ∷ []) is) ≢ Stray in
    let Q : List Item → Type 0 = λ l. node_of kind.Branch tk c (r.0 ∷ r.1 ∷ []) (cut (1 ∷ []) l) ≢ Stray in
    subst P (sym r.2) (subst Q (sym q.1) (λ e. cc))

-- the yielders of a node, as items, among all that a graph has
pub picked-among : (front ls all : List ListedYielder) (ts : Trees) (a y : ℕ) → length front ≡ y → all ≡ front ++ (yielders_of_all a y ts ++ ls) → picked 0 (items_from 0 all) (yielder_roots y ts) ≡ items_in a ts
picked-among front ls all ts a y is split =
    let zero-first : 0 + y ≡ y = omega arith in
    let P : ℕ → Type 0 = λ m. picked 0 (items_from 0 (front ++ (yielders_of_all a y ts ++ ls))) (yielder_roots y ts) ≡ picked m (items_from m (yielders_of_all a y ts ++ ls)) (yielder_roots y ts) in
    ap (λ l. picked 0 (items_from 0 l) (yielder_roots y ts)) split
    ∙ subst P zero-first (picked-behind 0 y front (yielders_of_all a y ts ++ ls) (yielder_roots y ts) is (at_least-from y (yielder_roots y ts) (yielder_roots-at_least y ts)))
    ∙ picked-trees ts a y ls

abbrev NotStray : List ListedYielder → ℕ → ListedNode → Type 0
NotStray all k n = node_with (items_from 0 all) n ≢ Stray

mutual
  sound-tree : (t : Tree) (x : Wanted) (c : Option ℕ) (a y : ℕ) (front ls all : List ListedYielder) → Is x t → length front ≡ y → all ≡ front ++ (yielders_of a y t ++ ls) → Each (NotStray all) a (nodes_of c a y t)
  sound-tree (tree (ActionNode k n tk) ts) x c a y front ls all h is split =
      let items = items_from 0 all in
      let P : List (List Item) → Type 0 = λ os. node_of k tk (body_of k a c) (children_of k (action_roots (suc a) ts)) os ≢ Stray in
      let operands = picked-pieces items (operand_lengths k n) (yielder_roots y ts) ∙ ap (cut (operand_lengths k n)) (picked-among front ls all ts (suc a) y is split) in (
        subst P (sym operands) (sound k n tk (body_of k a c) (action_roots (suc a) ts) (items_in (suc a) ts) (length-action_roots_under (suc a) (ActionNode k n tk) ts h.1) (items-fit ts (under_action k n) (suc a) h.1)),
        sound-trees ts (under_action k n) (around_parts k a c) (suc a) y front ls all h.1 is split,
      )
  sound-tree (tree (YielderNode k tk) ts) x c a y front ls all h is split =
      let first : ListedYielder = record { kind = k; token = tk; children = yielder_roots (suc y) ts; body = closure_body k a } in
      let longer : length (front ++ first ∷ []) ≡ suc y = omega (arith, length-append front (first ∷ [])) in
      sound-trees ts (under_yielder k) (around_arguments k c) a (suc y) (front ++ first ∷ []) ls all h.1 longer (split ∙ sym (append_assoc front (first ∷ []) (yielders_of_all a (suc y) ts ++ ls)))

  sound-trees : (ts : Trees) (xs : List Wanted) (c : Option ℕ) (a y : ℕ) (front ls all : List ListedYielder) → Are xs ts → length front ≡ y → all ≡ front ++ (yielders_of_all a y ts ++ ls) → Each (NotStray all) a (nodes_of_all c a y ts)
  sound-trees none xs c a y front ls all h is split = tt
  sound-trees (more t ts) [] c a y front ls all h is split = elim h [ ]
  sound-trees (more t ts) (x ∷ xs) c a y front ls all h is split =
      let a1 = a + action_count t in
      let y1 = y + yielder_count t in
      let these = yielders_of a y t in
      let rest = yielders_of_all a1 y1 ts in
      let inner : (these ++ rest) ++ ls ≡ these ++ (rest ++ ls) = append_assoc these rest ls in
      let here = split ∙ ap (λ l. front ++ l) inner in
      let longer : length (front ++ these) ≡ y1 = omega (arith, length-append front these, length-yielders_of a y t) in
      let P : ℕ → Type 0 = λ m. Each (NotStray all) (a + m) (nodes_of_all c a1 y1 ts) in
      Each-append (NotStray all) a (nodes_of c a y t) (nodes_of_all c a1 y1 ts) (sound-tree t x c a y front (rest ++ ls) all h.0 is here)
      (subst P (sym (length-nodes_of c a y t)) (sound-trees ts xs c a1 y1 (front ++ these) ls all h.1 longer (here ∙ sym (append_assoc front these (rest ++ ls)))))

-- no node of a tree is stray, with the yielders of the tree
pub never_stray-tree : (t : Tree) (x : Wanted) → Is x t → Each (λ k n. node_with (items_from 0 (yielders_of 0 0 t)) n ≢ Stray) 0 (nodes_of None 0 0 t)
never_stray-tree t x h = sound-tree t x None 0 0 [] [] (yielders_of 0 0 t) h refl (sym (append-nil (yielders_of 0 0 t)))
