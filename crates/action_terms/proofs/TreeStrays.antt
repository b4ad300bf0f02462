-- The walk forward over the preorder of an action meets its stray nodes in their order.
use Rattle.std.proofs.Common.{◌≡◌, ℕ, suc, ◌+◌, List, [], ◌∷◌, ◌++◌, length, sym, ap, ◌∙◌, append_assoc, append-nil, add-zero, arith}
use Rattle.std.specs.Prelude.{Option, None, replicate}
use Rattle.action_terms.specs.Labels.{Label, ActionNode, YielderNode, Wanted, AnAction, under}
use Rattle.action_terms.specs.Trees.{Tree, tree, Trees, none, more, preorder, preorders, Is, Are, IsAction}
use Rattle.action_terms.specs.Numbering.{action_count, action_counts, stray, around_parts, around_arguments, strays_of, strays_of_all, strays}
use Rattle.action_terms.specs.Entries.{strays_in}

mutual
  strays_in-preorder : (t : Tree) (x : Wanted) (c : Option ℕ) (around : List (Option ℕ)) (a : ℕ) (ls : List Label) → Is x t
      → strays_in (c ∷ around) a (preorder t ++ ls) ≡ strays_of c a t ++ strays_in around (a + action_count t) ls
  strays_in-preorder (tree (ActionNode k n tk) ts) x c around a ls h =
      let below = around_parts k a c in
      let counts : suc a + action_counts ts ≡ a + suc (action_counts ts) = omega arith in
      ap (λ es. stray k a c ++ es) (strays_in-preorders ts (under (ActionNode k n tk)) below around (suc a) ls h.1)
      ∙ sym (append_assoc (stray k a c) (strays_of_all below (suc a) ts) (strays_in around (suc a + action_counts ts) ls))
      ∙ ap (λ m. (stray k a c ++ strays_of_all below (suc a) ts) ++ strays_in around m ls) counts
  strays_in-preorder (tree (YielderNode k tk) ts) x c around a ls h =
      strays_in-preorders ts (under (YielderNode k tk)) (around_arguments k c) around a ls h.1

  strays_in-preorders : (ts : Trees) (xs : List Wanted) (c : Option ℕ) (around : List (Option ℕ)) (a : ℕ) (ls : List Label) → Are xs ts
      → strays_in (replicate (length xs) c ++ around) a (preorders ts ++ ls) ≡ strays_of_all c a ts ++ strays_in around (a + action_counts ts) ls
  strays_in-preorders none [] c around a ls h = sym (ap (λ n. strays_in around n ls) (add-zero a))
  strays_in-preorders none (x ∷ xs) c around a ls h = elim h [ ]
  strays_in-preorders (more t ts) [] c around a ls h = elim h [ ]
  strays_in-preorders (more t ts) (x ∷ xs) c around a ls h =
      let others = replicate (length xs) c ++ around in
      let a1 = a + action_count t in
      let a2 : a1 + action_counts ts ≡ a + action_counts (more t ts) = omega arith in
      ap (strays_in (c ∷ others) a) (append_assoc (preorder t) (preorders ts) ls)
      ∙ strays_in-preorder t x c others a (preorders ts ++ ls) h.0
      ∙ ap (λ es. strays_of c a t ++ es) (strays_in-preorders ts xs c around a1 ls h.1)
      ∙ sym (append_assoc (strays_of c a t) (strays_of_all c a1 ts) (strays_in around (a1 + action_counts ts) ls))
      ∙ ap (λ n. strays_of_all c a (more t ts) ++ strays_in around n ls) a2

pub strays_in-action : (t : Tree) → IsAction t → strays_in (None ∷ []) 0 (preorder t) ≡ strays t
strays_in-action t h = ap (strays_in (None ∷ []) 0) (sym (append-nil (preorder t))) ∙ strays_in-preorder t AnAction None [] 0 [] h ∙ append-nil (strays t)
