-- What is linked of the preorder of an action is its graph.
use Rattle.std.proofs.Common.{◌≡◌, ℕ, ◌+◌, ◌<◌, ◌≤◌, List, [], ◌∷◌, length, get_or, drop, map, refl, sym, ap, subst, ◌∙◌, length-append, arith}
use Rattle.std.specs.Prelude.{None}
use Rattle.std.proofs.lemmas.List.{drop_more}
use Rattle.action_terms.specs.Labels.{Label, ActionNode, YielderNode}
use Rattle.action_terms.specs.Trees.{Tree, tree, Trees, none, more, preorder, preorders, IsAction, IsWhole}
use Rattle.action_terms.specs.Numbering.{ListedNode, ListedYielder, action_count, action_counts, yielder_count, yielder_counts, IsGraph, IsGraphOf}
use Rattle.action_terms.specs.Entries.{entry_of, entries, strays_in, nodes_in, yielders_in, Links}
use Rattle.action_terms.specs.declared.bodies.Entered.{Entered}
use Rattle.action_terms.specs.declared.linking.Linker.{Linker}
use Rattle.action_terms.proofs.TreeEntries.{entries-action}
use Rattle.action_terms.proofs.TreeStrays.{strays_in-action}
use Rattle.action_terms.proofs.TreeNodes.{nodes_in-action, yielders_in-action}

-- a tree has as many nodes as its preorder has labels
mutual
  pub length-preorder : (t : Tree) → length (preorder t) ≡ action_count t + yielder_count t
  length-preorder (tree (ActionNode k n tk) ts) = let h = length-preorders ts in omega arith
  length-preorder (tree (YielderNode k tk) ts) = let h = length-preorders ts in omega arith

  length-preorders : (ts : Trees) → length (preorders ts) ≡ action_counts ts + yielder_counts ts
  length-preorders none = refl
  length-preorders (more t ts) = let h = length-preorder t in let g = length-preorders ts in omega (arith, length-append (preorder t) (preorders ts))

pub graph-linked : (labels : List Label) (nodes : List ListedNode) (yielders : List ListedYielder) → length labels ≤ 65536 → strays_in (None ∷ []) 0 labels ≡ []
    → nodes ≡ nodes_in (entries (None ∷ []) 0 0 labels) → yielders ≡ yielders_in (entries (None ∷ []) 0 0 labels)
    → (t : Tree) → IsAction t → preorder t ≡ labels → IsGraphOf (record { nodes = nodes; yielders = yielders }) t
graph-linked labels nodes yielders few no_strays linked_nodes linked_yielders t action pushed =
    let P : ℕ → Type 0 = λ n. n ≤ 65536 in
    let same_nodes = linked_nodes ∙ ap nodes_in (ap (entries (None ∷ []) 0 0) (sym pushed) ∙ entries-action t action) ∙ nodes_in-action t action in
    let same_yielders = linked_yielders ∙ ap yielders_in (ap (entries (None ∷ []) 0 0) (sym pushed) ∙ entries-action t action) ∙ yielders_in-action t action in
    record {
      action = action;
      few = subst P (ap length (sym pushed) ∙ length-preorder t) few;
      none_stray = sym (strays_in-action t action) ∙ ap (strays_in (None ∷ []) 0) pushed ∙ no_strays;
      numbered = cc;
    }

pub is_graph-linked : (labels : List Label) (nodes : List ListedNode) (yielders : List ListedYielder) → length labels ≤ 65536 → strays_in (None ∷ []) 0 labels ≡ []
    → nodes ≡ nodes_in (entries (None ∷ []) 0 0 labels) → yielders ≡ yielders_in (entries (None ∷ []) 0 0 labels)
    → IsWhole labels → IsGraph (record { nodes = nodes; yielders = yielders })
is_graph-linked labels nodes yielders few no_strays linked_nodes linked_yielders w = (w.0, graph-linked labels nodes yielders few no_strays linked_nodes linked_yielders w.0 w.1 w.2)

-- the entries from a place on are the one there and those behind it
pub links_more : (xs : List Entered) (i j : ℕ) (d : Entered) (linker : Linker) → i < length xs → i + 1 ≡ j → Links (entry_of (get_or xs i d) ∷ map entry_of (drop j xs)) linker → Links (map entry_of (drop i xs)) linker
links_more xs i j d linker within next linked =
    subst (λ es. Links (map entry_of es) linker) (sym (drop_more xs i d within ∙ ap (λ n. get_or xs i d ∷ drop n xs) next)) linked
