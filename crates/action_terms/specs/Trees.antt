-- Actions as trees of nodes, and the nodes of a tree in the order of the text: preorder.
use Rattle.std.specs.Prelude.{◌≡◌, true, List, [], ◌∷◌, ◌++◌}
use Rattle.action_terms.specs.Labels.{Label, Wanted, AnAction, serves, under}

mutual
  -- a label, and the trees under it in the order of the text
  pub data TreeOf (L : Type 0) : Type 0 where
    tree : L → TreesOf L → TreeOf L

  pub data TreesOf (L : Type 0) : Type 0 where
    none : TreesOf L
    more : TreeOf L → TreesOf L → TreesOf L

-- a tree of nodes
abbrev pub Tree : Type 0
Tree = TreeOf Label

abbrev pub Trees : Type 0
Trees = TreesOf Label

abbrev mutual
  pub preorder : {L : Type 0} → TreeOf L → List L
  preorder (tree l ts) = l ∷ preorders ts

  pub preorders : {L : Type 0} → TreesOf L → List L
  preorders none = []
  preorders (more t ts) = preorder t ++ preorders ts

-- a text, or a text with branches besides, can give the tree in such a place
abbrev mutual
  pub Is : Wanted → Tree → Type 0
  Is x (tree l ts) = (serves x l ≡ true) × Are (under l) ts

  pub Are : List Wanted → Trees → Type 0
  Are [] none = Unit {0}
  Are [] (more t ts) = ⊥
  Are (x ∷ xs) none = ⊥
  Are (x ∷ xs) (more t ts) = Is x t × Are xs ts

-- the tree is an action
abbrev pub IsAction : Tree → Type 0
IsAction t = Is AnAction t

-- the nodes are the preorder of exactly one action
abbrev pub IsWhole : List Label → Type 0
IsWhole labels = (t : Tree) × IsAction t × (preorder t ≡ labels)
