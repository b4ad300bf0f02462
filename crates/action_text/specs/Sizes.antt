-- How labels in postorder are cut into trees: the size of the tree that ends with each label.
use Rattle.std.specs.Prelude.{◌≡◌, ℕ, zero, suc, ◌+◌, ◌-◌, ◌<◌, List, [], ◌∷◌, length, slice_index, slice_index_or}
use Rattle.meta_terms.specs.Templates.{Label, under, Tree, IsAction}
use Rattle.action_terms.specs.Trees.{preorder}
use Rattle.action_text.specs.Posts.{postorder}

-- where the tree begins that ends before the place
abbrev pub step_back : List ℕ → ℕ → ℕ
step_back sizes end = end - slice_index sizes (end - 1)

-- where the first of so many trees begins, of which the last ends before the place
abbrev pub start_back : List ℕ → ℕ → ℕ → ℕ
start_back sizes zero end = end
start_back sizes (suc n) end = start_back sizes n (step_back sizes end)

-- where so many trees end, the last one first
abbrev pub tree_ends : List ℕ → ℕ → ℕ → List ℕ
tree_ends sizes zero end = []
tree_ends sizes (suc n) end = end ∷ tree_ends sizes n (step_back sizes end)

-- each size is that of a label and of the trees before it that stand under it
pub record AreSizes (labels : List Label) (sizes : List ℕ) : Type 0 where
  pub lengths : length sizes ≡ length labels
  pub each : (i : ℕ) (l : Label) → i < length labels → slice_index sizes i ≡ (i + 1) - start_back sizes (length (under (slice_index_or labels i l))) i

-- the labels are those of an action in postorder
abbrev pub IsPostorder : List Label → Type 0
IsPostorder labels = (t : Tree) × IsAction t × (labels ≡ postorder t)

-- the first labels are those of an action in postorder, and the others the same in preorder
abbrev pub IsReordered : List Label → List Label → Type 0
IsReordered labels others = (t : Tree) → IsAction t → labels ≡ postorder t → others ≡ preorder t
