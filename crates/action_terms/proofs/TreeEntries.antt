-- The walk forward over the preorder of a tree gives the tree's entries, and its stray nodes.
use Rattle.std.proofs.Common.{◌≡◌, ℕ, ◌+◌, List, [], ◌∷◌, ◌++◌, length, refl, sym, ap, ◌∙◌, append_assoc, append-nil, add-zero, arith}
use Rattle.std.specs.Prelude.{Option, None, replicate}
use Rattle.action_terms.specs.Labels.{Label, ActionNode, YielderNode, Wanted, under}
use Rattle.action_terms.specs.Trees.{Tree, tree, Trees, none, more, preorder, preorders, Is, Are, IsAction}
use Rattle.action_terms.specs.Numbering.{action_count, action_counts, yielder_count, yielder_counts}
use Rattle.action_terms.specs.Entries.{Entry, number_at, body_at, around_under, next_action, next_yielder, entries}

-- the entries of a tree whose first action node has number a and whose first yielder has number y
abbrev mutual
  pub entries_of : Option ℕ → (a y : ℕ) → Tree → List Entry
  entries_of c a y (tree l ts) = record { label = l; number = number_at l a y; body = body_at l a c } ∷ entries_of_all (around_under l a c) (next_action l a) (next_yielder l y) ts

  pub entries_of_all : Option ℕ → (a y : ℕ) → Trees → List Entry
  entries_of_all c a y none = []
  entries_of_all c a y (more t ts) = entries_of c a y t ++ entries_of_all c (a + action_count t) (y + yielder_count t) ts

-- what follows a tree has the numbers that follow those in it
next_action-counts : (l : Label) (a : ℕ) (ts : Trees) → next_action l a + action_counts ts ≡ a + action_count (tree l ts)
next_action-counts (ActionNode k n t) a ts = omega arith
next_action-counts (YielderNode k t) a ts = refl

next_yielder-counts : (l : Label) (y : ℕ) (ts : Trees) → next_yielder l y + yielder_counts ts ≡ y + yielder_count (tree l ts)
next_yielder-counts (ActionNode k n t) y ts = refl
next_yielder-counts (YielderNode k t) y ts = omega arith

mutual
  entries-preorder : (t : Tree) (x : Wanted) (c : Option ℕ) (around : List (Option ℕ)) (a y : ℕ) (ls : List Label) → Is x t
      → entries (c ∷ around) a y (preorder t ++ ls) ≡ entries_of c a y t ++ entries around (a + action_count t) (y + yielder_count t) ls
  entries-preorder (tree l ts) x c around a y ls h =
      let below = around_under l a c in
      let first : Entry = record { label = l; number = number_at l a y; body = body_at l a c } in
      ap (λ es. first ∷ es) (entries-preorders ts (under l) below around (next_action l a) (next_yielder l y) ls h.1)
      ∙ ap (λ n. first ∷ (entries_of_all below (next_action l a) (next_yielder l y) ts ++ entries around n (next_yielder l y + yielder_counts ts) ls)) (next_action-counts l a ts)
      ∙ ap (λ n. first ∷ (entries_of_all below (next_action l a) (next_yielder l y) ts ++ entries around (a + action_count (tree l ts)) n ls)) (next_yielder-counts l y ts)

  entries-preorders : (ts : Trees) (xs : List Wanted) (c : Option ℕ) (around : List (Option ℕ)) (a y : ℕ) (ls : List Label) → Are xs ts
      → entries (replicate (length xs) c ++ around) a y (preorders ts ++ ls) ≡ entries_of_all c a y ts ++ entries around (a + action_counts ts) (y + yielder_counts ts) ls
  entries-preorders none [] c around a y ls h = sym (ap (λ n. entries around n (y + 0) ls) (add-zero a) ∙ ap (λ n. entries around a n ls) (add-zero y))
  entries-preorders none (x ∷ xs) c around a y ls h = elim h [ ]
  entries-preorders (more t ts) [] c around a y ls h = elim h [ ]
  entries-preorders (more t ts) (x ∷ xs) c around a y ls h =
      let others = replicate (length xs) c ++ around in
      let a1 = a + action_count t in
      let y1 = y + yielder_count t in
      let a2 : a1 + action_counts ts ≡ a + action_counts (more t ts) = omega arith in
      let y2 : y1 + yielder_counts ts ≡ y + yielder_counts (more t ts) = omega arith in
      ap (entries (c ∷ others) a y) (append_assoc (preorder t) (preorders ts) ls)
      ∙ entries-preorder t x c others a y (preorders ts ++ ls) h.0
      ∙ ap (λ es. entries_of c a y t ++ es) (entries-preorders ts xs c around a1 y1 ls h.1)
      ∙ sym (append_assoc (entries_of c a y t) (entries_of_all c a1 y1 ts) (entries around (a1 + action_counts ts) (y1 + yielder_counts ts) ls))
      ∙ ap (λ n. entries_of_all c a y (more t ts) ++ entries around n (y1 + yielder_counts ts) ls) a2
      ∙ ap (λ n. entries_of_all c a y (more t ts) ++ entries around (a + action_counts (more t ts)) n ls) y2

-- the entries of the preorder of an action
pub entries-action : (t : Tree) → IsAction t → entries (None ∷ []) 0 0 (preorder t) ≡ entries_of None 0 0 t
entries-action t h = ap (entries (None ∷ []) 0 0) (sym (append-nil (preorder t))) ∙ entries-preorder t _ None [] 0 0 [] h ∙ append-nil (entries_of None 0 0 t)
