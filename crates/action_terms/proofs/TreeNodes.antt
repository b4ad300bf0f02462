-- The walk backward over the entries of a tree gives its nodes, with the children and operands that they have in the tree.
use Rattle.std.proofs.Common.{◌≡◌, ℕ, suc, ◌+◌, List, [], ◌∷◌, ◌++◌, length, take, drop, ◌≤◌, length-drop, refl, sym, ap, ◌∙◌, append_assoc, append-nil, arith}
use Rattle.std.specs.Prelude.{Option, None, sum}
use Rattle.std.proofs.lemmas.List.{take-append-le, drop-append-le}
use Rattle.std.proofs.lemmas.List.Sums.{sum_by-cons}
use Rattle.std.proofs.Math.Seq.{take-append_seam}
use Rattle.action_terms.specs.Labels.{ActionNode, YielderNode, Wanted, AnAction, operand_lengths, under}
use Rattle.action_terms.specs.Trees.{Tree, tree, Trees, none, more, Is, Are, IsAction}
use Rattle.action_terms.specs.Numbering.{ListedNode, ListedYielder, pieces, children_of, body_of, closure_body, around_parts, around_arguments, action_count, yielder_count, action_roots, yielder_roots, nodes_of, nodes_of_all, yielders_of, yielders_of_all}
use Rattle.action_terms.specs.Entries.{Entry, part_count, closure_count, argument_count, action_roots_in, yielder_roots_in, nodes_in, yielders_in}
use Rattle.action_terms.proofs.TreeEntries.{entries_of, entries_of_all}
use Rattle.action_terms.proofs.RootCounts.{length-action_roots_under, length-yielder_roots_under}

drop-whole : (xs ys : List ℕ) (n : ℕ) → length xs ≡ n → drop n (xs ++ ys) ≡ ys
drop-whole [] ys n is = ap (λ m. drop m ys) (sym is)
drop-whole (x ∷ xs) ys n is = ap (λ m. drop m (x ∷ (xs ++ ys))) (sym is) ∙ drop-whole xs ys (length xs) refl

take-whole : (xs ys : List ℕ) (n : ℕ) → length xs ≡ n → take n (xs ++ ys) ≡ xs
take-whole xs ys n is = ap (λ m. take m (xs ++ ys)) (sym is) ∙ take-append_seam xs ys

-- the roots of trees that stand side by side, and then those of what follows
action_roots-more : (t : Tree) (ts : Trees) (a : ℕ) → action_roots a (more t none) ++ action_roots (a + action_count t) ts ≡ action_roots a (more t ts)
action_roots-more (tree (ActionNode k n tk) us) ts a = refl
action_roots-more (tree (YielderNode k tk) us) ts a = refl

mutual
  action_roots_in-tree : (t : Tree) (x : Wanted) (c : Option ℕ) (a y : ℕ) (es : List Entry) → Is x t
      → action_roots_in (entries_of c a y t ++ es) ≡ action_roots a (more t none) ++ action_roots_in es
  action_roots_in-tree (tree (ActionNode k n tk) ts) x c a y es h =
      ap (λ l. a ∷ drop (part_count k) l) (action_roots_in-trees ts (under (ActionNode k n tk)) (around_parts k a c) (suc a) y es h.1)
      ∙ ap (λ l. a ∷ l) (drop-whole (action_roots (suc a) ts) (action_roots_in es) (part_count k) (length-action_roots_under (suc a) (ActionNode k n tk) ts h.1))
  action_roots_in-tree (tree (YielderNode k tk) ts) x c a y es h =
      ap (drop (closure_count k)) (action_roots_in-trees ts (under (YielderNode k tk)) (around_arguments k c) a (suc y) es h.1)
      ∙ drop-whole (action_roots a ts) (action_roots_in es) (closure_count k) (length-action_roots_under a (YielderNode k tk) ts h.1)

  action_roots_in-trees : (ts : Trees) (xs : List Wanted) (c : Option ℕ) (a y : ℕ) (es : List Entry) → Are xs ts
      → action_roots_in (entries_of_all c a y ts ++ es) ≡ action_roots a ts ++ action_roots_in es
  action_roots_in-trees none xs c a y es h = refl
  action_roots_in-trees (more t ts) [] c a y es h = elim h [ ]
  action_roots_in-trees (more t ts) (x ∷ xs) c a y es h =
      let rest = entries_of_all c (a + action_count t) (y + yielder_count t) ts in
      ap action_roots_in (append_assoc (entries_of c a y t) rest es)
      ∙ action_roots_in-tree t x c a y (rest ++ es) h.0
      ∙ ap (λ l. action_roots a (more t none) ++ l) (action_roots_in-trees ts xs c (a + action_count t) (y + yielder_count t) es h.1)
      ∙ sym (append_assoc (action_roots a (more t none)) (action_roots (a + action_count t) ts) (action_roots_in es))
      ∙ ap (λ l. l ++ action_roots_in es) (action_roots-more t ts a)

yielder_roots-more : (t : Tree) (ts : Trees) (y : ℕ) → yielder_roots y (more t none) ++ yielder_roots (y + yielder_count t) ts ≡ yielder_roots y (more t ts)
yielder_roots-more (tree (ActionNode k n tk) us) ts y = refl
yielder_roots-more (tree (YielderNode k tk) us) ts y = refl

mutual
  yielder_roots_in-tree : (t : Tree) (x : Wanted) (c : Option ℕ) (a y : ℕ) (es : List Entry) → Is x t
      → yielder_roots_in (entries_of c a y t ++ es) ≡ yielder_roots y (more t none) ++ yielder_roots_in es
  yielder_roots_in-tree (tree (ActionNode k n tk) ts) x c a y es h =
      ap (drop (sum (operand_lengths k n))) (yielder_roots_in-trees ts (under (ActionNode k n tk)) (around_parts k a c) (suc a) y es h.1)
      ∙ drop-whole (yielder_roots y ts) (yielder_roots_in es) (sum (operand_lengths k n)) (length-yielder_roots_under y (ActionNode k n tk) ts h.1)
  yielder_roots_in-tree (tree (YielderNode k tk) ts) x c a y es h =
      ap (λ l. y ∷ drop (argument_count k) l) (yielder_roots_in-trees ts (under (YielderNode k tk)) (around_arguments k c) a (suc y) es h.1)
      ∙ ap (λ l. y ∷ l) (drop-whole (yielder_roots (suc y) ts) (yielder_roots_in es) (argument_count k) (length-yielder_roots_under (suc y) (YielderNode k tk) ts h.1))

  yielder_roots_in-trees : (ts : Trees) (xs : List Wanted) (c : Option ℕ) (a y : ℕ) (es : List Entry) → Are xs ts
      → yielder_roots_in (entries_of_all c a y ts ++ es) ≡ yielder_roots y ts ++ yielder_roots_in es
  yielder_roots_in-trees none xs c a y es h = refl
  yielder_roots_in-trees (more t ts) [] c a y es h = elim h [ ]
  yielder_roots_in-trees (more t ts) (x ∷ xs) c a y es h =
      let rest = entries_of_all c (a + action_count t) (y + yielder_count t) ts in
      ap yielder_roots_in (append_assoc (entries_of c a y t) rest es)
      ∙ yielder_roots_in-tree t x c a y (rest ++ es) h.0
      ∙ ap (λ l. yielder_roots y (more t none) ++ l) (yielder_roots_in-trees ts xs c (a + action_count t) (y + yielder_count t) es h.1)
      ∙ sym (append_assoc (yielder_roots y (more t none)) (yielder_roots (y + yielder_count t) ts) (yielder_roots_in es))
      ∙ ap (λ l. l ++ yielder_roots_in es) (yielder_roots-more t ts y)

-- the operands of a node take the yielders among its parts, and no more
pieces-whole : (lengths : List ℕ) (xs ys : List ℕ) → length xs ≡ sum lengths → pieces lengths (xs ++ ys) ≡ pieces lengths xs
pieces-whole [] xs ys is = refl
pieces-whole (n ∷ lengths) xs ys is =
    let total : sum (n ∷ lengths) ≡ n + sum lengths = sum_by-cons (λ m. m) n lengths in
    let within : n ≤ length xs = omega arith in
    let left : length (drop n xs) ≡ sum lengths = omega (arith, length-drop n xs) in
    ap (λ l. l ∷ pieces lengths (drop n (xs ++ ys))) (take-append-le n xs ys within)
    ∙ ap (λ l. take n xs ∷ pieces lengths l) (drop-append-le n xs ys within)
    ∙ ap (λ l. take n xs ∷ l) (pieces-whole lengths (drop n xs) ys left)

mutual
  nodes_in-tree : (t : Tree) (x : Wanted) (c : Option ℕ) (a y : ℕ) (es : List Entry) → Is x t → nodes_in (entries_of c a y t ++ es) ≡ nodes_of c a y t ++ nodes_in es
  nodes_in-tree (tree (ActionNode k n tk) ts) x c a y es h =
      let below = around_parts k a c in
      let node = λ (children : List ℕ) (operands : List (List ℕ)). let n : ListedNode = record { kind = k; token = tk; children = children_of k children; operands = operands; body = body_of k a c } in n in
      let behind = entries_of_all below (suc a) y ts ++ es in
      ap (λ l. node (take (part_count k) l) (pieces (operand_lengths k n) (yielder_roots_in behind)) ∷ nodes_in behind) (action_roots_in-trees ts (under (ActionNode k n tk)) below (suc a) y es h.1)
      ∙ ap (λ l. node l (pieces (operand_lengths k n) (yielder_roots_in behind)) ∷ nodes_in behind) (take-whole (action_roots (suc a) ts) (action_roots_in es) (part_count k) (length-action_roots_under (suc a) (ActionNode k n tk) ts h.1))
      ∙ ap (λ l. node (action_roots (suc a) ts) (pieces (operand_lengths k n) l) ∷ nodes_in behind) (yielder_roots_in-trees ts (under (ActionNode k n tk)) below (suc a) y es h.1)
      ∙ ap (λ l. node (action_roots (suc a) ts) l ∷ nodes_in behind) (pieces-whole (operand_lengths k n) (yielder_roots y ts) (yielder_roots_in es) (length-yielder_roots_under y (ActionNode k n tk) ts h.1))
      ∙ ap (λ l. node (action_roots (suc a) ts) (pieces (operand_lengths k n) (yielder_roots y ts)) ∷ l) (nodes_in-trees ts (under (ActionNode k n tk)) below (suc a) y es h.1)
  nodes_in-tree (tree (YielderNode k tk) ts) x c a y es h = nodes_in-trees ts (under (YielderNode k tk)) (around_arguments k c) a (suc y) es h.1

  nodes_in-trees : (ts : Trees) (xs : List Wanted) (c : Option ℕ) (a y : ℕ) (es : List Entry) → Are xs ts → nodes_in (entries_of_all c a y ts ++ es) ≡ nodes_of_all c a y ts ++ nodes_in es
  nodes_in-trees none xs c a y es h = refl
  nodes_in-trees (more t ts) [] c a y es h = elim h [ ]
  nodes_in-trees (more t ts) (x ∷ xs) c a y es h =
      let a1 = a + action_count t in
      let y1 = y + yielder_count t in
      let rest = entries_of_all c a1 y1 ts in
      ap nodes_in (append_assoc (entries_of c a y t) rest es)
      ∙ nodes_in-tree t x c a y (rest ++ es) h.0
      ∙ ap (λ l. nodes_of c a y t ++ l) (nodes_in-trees ts xs c a1 y1 es h.1)
      ∙ sym (append_assoc (nodes_of c a y t) (nodes_of_all c a1 y1 ts) (nodes_in es))

mutual
  yielders_in-tree : (t : Tree) (x : Wanted) (c : Option ℕ) (a y : ℕ) (es : List Entry) → Is x t → yielders_in (entries_of c a y t ++ es) ≡ yielders_of a y t ++ yielders_in es
  yielders_in-tree (tree (ActionNode k n tk) ts) x c a y es h = yielders_in-trees ts (under (ActionNode k n tk)) (around_parts k a c) (suc a) y es h.1
  yielders_in-tree (tree (YielderNode k tk) ts) x c a y es h =
      let below = around_arguments k c in
      let node = λ (children : List ℕ). let n : ListedYielder = record { kind = k; token = tk; children = children; body = closure_body k a } in n in
      let behind = entries_of_all below a (suc y) ts ++ es in
      ap (λ l. node (take (argument_count k) l) ∷ yielders_in behind) (yielder_roots_in-trees ts (under (YielderNode k tk)) below a (suc y) es h.1)
      ∙ ap (λ l. node l ∷ yielders_in behind) (take-whole (yielder_roots (suc y) ts) (yielder_roots_in es) (argument_count k) (length-yielder_roots_under (suc y) (YielderNode k tk) ts h.1))
      ∙ ap (λ l. node (yielder_roots (suc y) ts) ∷ l) (yielders_in-trees ts (under (YielderNode k tk)) below a (suc y) es h.1)

  yielders_in-trees : (ts : Trees) (xs : List Wanted) (c : Option ℕ) (a y : ℕ) (es : List Entry) → Are xs ts → yielders_in (entries_of_all c a y ts ++ es) ≡ yielders_of_all a y ts ++ yielders_in es
  yielders_in-trees none xs c a y es h = refl
  yielders_in-trees (more t ts) [] c a y es h = elim h [ ]
  yielders_in-trees (more t ts) (x ∷ xs) c a y es h =
      let a1 = a + action_count t in
      let y1 = y + yielder_count t in
      let rest = entries_of_all c a1 y1 ts in
      ap yielders_in (append_assoc (entries_of c a y t) rest es)
      ∙ yielders_in-tree t x c a y (rest ++ es) h.0
      ∙ ap (λ l. yielders_of a y t ++ l) (yielders_in-trees ts xs c a1 y1 es h.1)
      ∙ sym (append_assoc (yielders_of a y t) (yielders_of_all a1 y1 ts) (yielders_in es))

-- the nodes and the yielders of an action
pub nodes_in-action : (t : Tree) → IsAction t → nodes_in (entries_of None 0 0 t) ≡ nodes_of None 0 0 t
nodes_in-action t h = ap nodes_in (sym (append-nil (entries_of None 0 0 t))) ∙ nodes_in-tree t AnAction None 0 0 [] h ∙ append-nil (nodes_of None 0 0 t)

pub yielders_in-action : (t : Tree) → IsAction t → yielders_in (entries_of None 0 0 t) ≡ yielders_of 0 0 t
yielders_in-action t h = ap yielders_in (sym (append-nil (entries_of None 0 0 t))) ∙ yielders_in-tree t AnAction None 0 0 [] h ∙ append-nil (yielders_of 0 0 t)
