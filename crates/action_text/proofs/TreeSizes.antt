-- The sizes of the trees that end with each label.
use Rattle.std.proofs.Common.{◌≡◌, ℕ, zero, suc, ◌+◌, ◌-◌, ◌<◌, ◌≤◌, List, [], ◌∷◌, ◌++◌, length, get_or, refl, sym, ap, ◌∙◌, arith, append_assoc, length-append}
use Rattle.std.proofs.lemmas.List.{get_or_append_left}
use Rattle.action_terms.specs.Labels.{Wanted}
use Rattle.meta_terms.specs.Templates.{Label, under, Tree, Trees, Is, Are}
use Rattle.action_terms.specs.Trees.{tree, none, more}
use Rattle.action_text.specs.Posts.{postorder, postorders}
use Rattle.action_text.specs.Sizes.{step_back, start_back, tree_ends, AreSizes}
use Rattle.action_text.proofs.OneTree.{count_of, count_is}

pub start_back_last : (sizes : List ℕ) (n e : ℕ) → start_back sizes (suc n) e ≡ step_back sizes (start_back sizes n e)
start_back_last sizes zero e = refl
start_back_last sizes (suc n) e = start_back_last sizes n (step_back sizes e)

pub tree_ends_last : (sizes : List ℕ) (n e : ℕ) → tree_ends sizes (suc n) e ≡ tree_ends sizes n e ++ start_back sizes n e ∷ []
tree_ends_last sizes zero e = refl
tree_ends_last sizes (suc n) e = ap (λ y. e ∷ y) (tree_ends_last sizes n (step_back sizes e))

step_front : (xs ys : List ℕ) (e : ℕ) → e ≤ length xs → step_back (xs ++ ys) e ≡ step_back xs e
step_front xs ys zero h = omega arith
step_front xs ys (suc e) h = let i : suc e - 1 < length xs = omega arith in ap (λ n. suc e - n) (get_or_append_left xs ys 0 (suc e - 1) i)

-- later sizes don't count
pub start_front : (xs ys : List ℕ) (n e : ℕ) → e ≤ length xs → start_back (xs ++ ys) n e ≡ start_back xs n e
start_front xs ys zero e h = refl
start_front xs ys (suc n) e h =
    ap (start_back (xs ++ ys) n) (step_front xs ys e h) ∙ start_front xs ys n (step_back xs e) (omega arith)

get_or_behind : (xs ys : List Label) (y d : Label) → get_or (xs ++ y ∷ ys) (length xs) d ≡ y
get_or_behind [] ys y d = refl
get_or_behind (x ∷ xs) ys y d = get_or_behind xs ys y d

pub under_count : (l : Label) (kids : Trees) → Are (under l) kids → length (under l) ≡ count_of kids
under_count l kids are = let e = count_is (under l) kids are in omega (arith, e)

-- the label behind trees
pub label_at : (L before after : List Label) (ts : Trees) (l d : Label) → L ≡ before ++ ((postorders ts ++ l ∷ []) ++ after) → get_or L (length before + length (postorders ts)) d ≡ l
label_at L before after ts l d e =
    let whole : L ≡ (before ++ postorders ts) ++ l ∷ after =
    e ∙ ap (λ y. before ++ y) (append_assoc (postorders ts) (l ∷ []) after) ∙ sym (append_assoc before (postorders ts) (l ∷ after)) in
    let place : length before + length (postorders ts) ≡ length (before ++ postorders ts) = sym (length-append before (postorders ts)) in
    ap (λ y. get_or y (length before + length (postorders ts)) d) whole
    ∙ ap (λ n. get_or ((before ++ postorders ts) ++ l ∷ after) n d) place
    ∙ get_or_behind (before ++ postorders ts) after l d

pub inside : (L before middle after : List Label) → L ≡ before ++ (middle ++ after) → length before + length middle ≤ length L
inside L before middle after e =
    let n : length L ≡ length before + (length middle + length after) = ap length e ∙ length-append before (middle ++ after) ∙ ap (λ k. length before + k) (length-append middle after) in
    omega arith

pub regroup : (a b c d : List Label) → a ++ ((b ++ c) ++ d) ≡ (a ++ b) ++ (c ++ d)
regroup a b c d = simp append_assoc

left : (a b : ℕ) → (a + b + 1) - a ≡ b + 1
left a b = omega arith

one_less : (n : ℕ) → suc n - 1 ≡ n
one_less n = omega arith

back : (a b size : ℕ) → size ≡ b + 1 → suc (a + b) - size ≡ a
back a b size e = omega arith

mutual
  -- one step back from the end of a tree leads to its begin
  pub tree_begins : (L : List Label) (sizes : List ℕ) → AreSizes L sizes → (t : Tree) (x : Wanted) → Is x t → (before after : List Label) → L ≡ before ++ (postorder t ++ after)
      → step_back sizes (length before + length (postorder t)) ≡ length before
  tree_begins L sizes ok (tree l ts) x is before after e =
      let n : length (postorders ts ++ l ∷ []) ≡ length (postorders ts) + 1 = length-append (postorders ts) (l ∷ []) in
      let place : ℕ = length before + length (postorders ts) in
      let fits : length before + length (postorders ts ++ l ∷ []) ≤ length L = inside L before (postorders ts ++ l ∷ []) after e in
      let kids : start_back sizes (count_of ts) (length before + length (postorders ts)) ≡ length before =
      trees_begin L sizes ok ts (under l) is.1 before (l ∷ after) (e ∙ ap (λ y. before ++ y) (append_assoc (postorders ts) (l ∷ []) after)) in
      let there : get_or L (length before + length (postorders ts)) l ≡ l = label_at L before after ts l l e in
      let size : get_or sizes (length before + length (postorders ts)) 0 ≡ (length before + length (postorders ts) + 1) - start_back sizes (length (under (get_or L (length before + length (postorders ts)) l))) (length before + length (postorders ts)) =
      ok.each (length before + length (postorders ts)) l (omega arith) in
      let size_is : get_or sizes (length before + length (postorders ts)) 0 ≡ length (postorders ts) + 1 =
      size ∙ ap (λ k. (length before + length (postorders ts) + 1) - start_back sizes (length (under k)) (length before + length (postorders ts))) there
      ∙ ap (λ k. (length before + length (postorders ts) + 1) - start_back sizes k (length before + length (postorders ts))) (under_count l ts is.1)
      ∙ ap (λ k. (length before + length (postorders ts) + 1) - k) kids ∙ left (length before) (length (postorders ts)) in
      let end : length before + length (postorders ts ++ l ∷ []) ≡ suc (length before + length (postorders ts)) = omega arith in
      ap (step_back sizes) end ∙ ap (λ k. suc (length before + length (postorders ts)) - get_or sizes k 0) (one_less (length before + length (postorders ts)))
      ∙ back (length before) (length (postorders ts)) (get_or sizes (length before + length (postorders ts)) 0) size_is

  pub trees_begin : (L : List Label) (sizes : List ℕ) → AreSizes L sizes → (ts : Trees) (xs : List Wanted) → Are xs ts → (before after : List Label) → L ≡ before ++ (postorders ts ++ after)
      → start_back sizes (count_of ts) (length before + length (postorders ts)) ≡ length before
  trees_begin L sizes ok none xs are before after e = omega arith
  trees_begin L sizes ok (more t ts) [] are before after e = absurd are
  trees_begin L sizes ok (more t ts) (x ∷ xs) are before after e =
      let n : length (postorder t ++ postorders ts) ≡ length (postorder t) + length (postorders ts) = length-append (postorder t) (postorders ts) in
      let m : length (before ++ postorder t) ≡ length before + length (postorder t) = length-append before (postorder t) in
      let end : length before + length (postorder t ++ postorders ts) ≡ length (before ++ postorder t) + length (postorders ts) = omega arith in
      let others : start_back sizes (count_of ts) (length (before ++ postorder t) + length (postorders ts)) ≡ length (before ++ postorder t) =
      trees_begin L sizes ok ts xs are.1 (before ++ postorder t) after (e ∙ regroup before (postorder t) (postorders ts) after) in
      start_back_last sizes (count_of ts) (length before + length (postorder t ++ postorders ts))
      ∙ ap (λ k. step_back sizes (start_back sizes (count_of ts) k)) end
      ∙ ap (step_back sizes) (others ∙ m)
      ∙ tree_begins L sizes ok t x are.0 before (postorders ts ++ after) (e ∙ ap (λ y. before ++ y) (append_assoc (postorder t) (postorders ts) after))
