-- The nodes of a graph have the labels of its tree: those of the actions, and those of the yielders, each in preorder.
use Rattle.std.proofs.Common.{◌≡◌, ℕ, zero, suc, ◌+◌, Bool, true, false, ◌&&◌, List, [], ◌∷◌, ◌++◌, length, take, drop, map, Option, refl, sym, ap, ◌∙◌, eqb-true, nat_eq}
use Rattle.std.proofs.lemmas.List.{map-append}
use Rattle.std.proofs.Math.Seq.{take-length}
use Rattle.action_text.proofs.Tests.{and_left}
use Rattle.action_terms.specs.Labels.{Label, ActionNode, YielderNode, Wanted, AnAction, AYielder, AnItem, AClosure, under, copies, serves, token_fits, has_no_token, operand_lengths}
use Rattle.action_terms.specs.Trees.{Tree, tree, Trees, none, more, Is, Are}
use Rattle.action_terms.specs.Numbering.{nodes_of, nodes_of_all, yielders_of, yielders_of_all, pieces, yielder_counts, yielder_roots, around_parts, around_arguments, action_count, yielder_count}
use Rattle.action_terms.specs.declared.kinds.Kind.{Kind}
use Rattle.action_terms.specs.declared.kinds.Kind.TheVariants as kind
use Rattle.action_text.specs.Printing.{items_in, node_label, yielder_label}

-- the labels of the actions of a tree, in preorder, and those of its yielders
abbrev mutual
  pub action_labels : Tree → List Label
  action_labels (tree (ActionNode k n t) ts) = ActionNode k n t ∷ action_labels_all ts
  action_labels (tree (YielderNode k t) ts) = action_labels_all ts

  pub action_labels_all : Trees → List Label
  action_labels_all none = []
  action_labels_all (more t ts) = action_labels t ++ action_labels_all ts

abbrev mutual
  pub yielder_labels : Tree → List Label
  yielder_labels (tree (ActionNode k n t) ts) = yielder_labels_all ts
  yielder_labels (tree (YielderNode k t) ts) = YielderNode k t ∷ yielder_labels_all ts

  pub yielder_labels_all : Trees → List Label
  yielder_labels_all none = []
  yielder_labels_all (more t ts) = yielder_labels t ++ yielder_labels_all ts

item_roots : (n y : ℕ) (ts : Trees) → Are (copies n AnItem) ts → length (yielder_roots y ts) ≡ n
item_roots zero y none h = refl
item_roots zero y (more t ts) h = absurd h
item_roots (suc n) y none h = absurd h
item_roots (suc n) y (more (tree (ActionNode k m q) us) ts) h = absurd (let e : false ≡ true = h.0.0 in cc)
item_roots (suc n) y (more (tree (YielderNode k q) us) ts) h = ap suc (item_roots n (y + suc (yielder_counts us)) ts h.1)

taken : (n : ℕ) (xs : List ℕ) → length xs ≡ n → length (take n xs) ≡ n
taken n xs e = ap (λ m. length (take m xs)) (sym e) ∙ ap length (take-length xs) ∙ e

applied : (n y : ℕ) (ts : Trees) → Are (AYielder ∷ copies n AnItem) ts → length (take n (drop 1 (yielder_roots y ts))) ≡ n
applied n y none h = absurd h
applied n y (more (tree (ActionNode k m q) us) ts) h = absurd (let e : false ≡ true = h.0.0 in cc)
applied n y (more (tree (YielderNode k q) us) ts) h = taken n (yielder_roots (y + suc (yielder_counts us)) ts) (item_roots n (y + suc (yielder_counts us)) ts h.1)

no_items : (n : ℕ) (b : Bool) → (nat_eq n 0 && b) ≡ true → 0 ≡ n
no_items n b h = sym (eqb-true n 0 (and_left (nat_eq n 0) b h))

-- the number of items of an action is read off its operands
items_back : (x : Wanted) (k : Kind) (n : ℕ) (q : List ℕ) (y : ℕ) (ts : Trees) → serves x (ActionNode k n q) ≡ true → Are (under (ActionNode k n q)) ts → items_in k (pieces (operand_lengths k n) (yielder_roots y ts)) ≡ n
items_back AYielder k n q y ts s h = absurd (cc)
items_back AnItem k n q y ts s h = absurd (cc)
items_back AClosure k n q y ts s h = absurd (cc)
items_back AnAction kind.Give n q y ts s h = taken n (yielder_roots y ts) (item_roots n y ts h)
items_back AnAction kind.EscapeWith n q y ts s h = taken n (yielder_roots y ts) (item_roots n y ts h)
items_back AnAction kind.Apply n q y ts s h = applied n y ts h
items_back AnAction kind.Bind n q y ts s h = no_items n (token_fits kind.Bind q) s
items_back AnAction kind.BindRec n q y ts s h = no_items n (token_fits kind.BindRec q) s
items_back AnAction _ n q y ts s h = no_items n (has_no_token q) s

mutual
  pub node_labels : (t : Tree) (x : Wanted) → Is x t → (around : Option ℕ) (a y : ℕ) → map node_label (nodes_of around a y t) ≡ action_labels t
  node_labels (tree (ActionNode k n q) ts) x is around a y =
      ap (λ m. ActionNode k m q ∷ map node_label (nodes_of_all (around_parts k a around) (suc a) y ts)) (items_back x k n q y ts is.0 is.1)
      ∙ ap (λ ls. ActionNode k n q ∷ ls) (node_labels_all ts (under (ActionNode k n q)) is.1 (around_parts k a around) (suc a) y)
  node_labels (tree (YielderNode k q) ts) x is around a y = node_labels_all ts (under (YielderNode k q)) is.1 (around_arguments k around) a (suc y)

  pub node_labels_all : (ts : Trees) (xs : List Wanted) → Are xs ts → (around : Option ℕ) (a y : ℕ) → map node_label (nodes_of_all around a y ts) ≡ action_labels_all ts
  node_labels_all none xs are around a y = refl
  node_labels_all (more t ts) [] are around a y = absurd are
  node_labels_all (more t ts) (x ∷ xs) are around a y =
      map-append node_label (nodes_of around a y t) (nodes_of_all around (a + action_count t) (y + yielder_count t) ts)
      ∙ ap (λ ls. ls ++ map node_label (nodes_of_all around (a + action_count t) (y + yielder_count t) ts)) (node_labels t x are.0 around a y)
      ∙ ap (λ ls. action_labels t ++ ls) (node_labels_all ts xs are.1 around (a + action_count t) (y + yielder_count t))

mutual
  pub labels_of_yielders : (t : Tree) (a y : ℕ) → map yielder_label (yielders_of a y t) ≡ yielder_labels t
  labels_of_yielders (tree (ActionNode k n q) ts) a y = labels_of_all_yielders ts (suc a) y
  labels_of_yielders (tree (YielderNode k q) ts) a y = ap (λ ls. YielderNode k q ∷ ls) (labels_of_all_yielders ts a (suc y))

  labels_of_all_yielders : (ts : Trees) (a y : ℕ) → map yielder_label (yielders_of_all a y ts) ≡ yielder_labels_all ts
  labels_of_all_yielders none a y = refl
  labels_of_all_yielders (more t ts) a y =
      map-append yielder_label (yielders_of a y t) (yielders_of_all (a + action_count t) (y + yielder_count t) ts)
      ∙ ap (λ ls. ls ++ map yielder_label (yielders_of_all (a + action_count t) (y + yielder_count t) ts)) (labels_of_yielders t a y)
      ∙ ap (λ ls. yielder_labels t ++ ls) (labels_of_all_yielders ts (a + action_count t) (y + yielder_count t))
