-- The walk from labels in postorder to labels in preorder: a stack of the ends of trees, the first tree on top.
use Rattle.std.proofs.Common.{◌≡◌, ℕ, zero, suc, ◌+◌, ◌-◌, ◌<◌, ◌≤◌, List, [], ◌∷◌, ◌++◌, length, get_or, reverse, refl, sym, ap, subst, ◌∙◌, arith, append_assoc, append-nil, length-append}
use Rattle.std.proofs.Common.{◌≢◌, ◌⊎◌, inl, inr, true, false, nat_eq, map}
use Rattle.meta_terms.specs.Nodes.{label_of}
use Rattle.meta_terms.specs.declared.template.TemplateNode.{TemplateNode}
use Rattle.std.proofs.lemmas.Bool.Decides.{eqb_tells}
use Rattle.std.proofs.lemmas.List.{reverse-append, map-append, get_or_append_left}
use Rattle.action_terms.specs.Labels.{Wanted, AnAction}
use Rattle.meta_terms.specs.Templates.{Label, under, Tree, Trees, Is, Are, IsAction}
use Rattle.action_terms.specs.Trees.{TreeOf, TreesOf, tree, none, more, preorder, preorders}
use Rattle.action_text.specs.Posts.{postorder, postorders}
use Rattle.action_text.specs.Sizes.{step_back, start_back, tree_ends, AreSizes}
use Rattle.action_text.proofs.OneTree.{count_of}
use Rattle.action_text.proofs.TreeSizes.{tree_ends_last, start_front, trees_begin, under_count, label_at, inside, regroup}

-- the tree ends before the place
pub record EndsAt (L : List Label) (end : ℕ) (t : Tree) : Type 0 where
  pub wanted : Wanted
  pub is : Is wanted t
  pub before : List Label
  pub after : List Label
  pub whole : L ≡ before ++ (postorder t ++ after)
  pub end_is : end ≡ length before + length (postorder t)

abbrev pub AllEnd : List Label → List ℕ → List Tree → Type 0
AllEnd L [] [] = Unit {0}
AllEnd L [] (t ∷ ts) = ⊥
AllEnd L (e ∷ es) [] = ⊥
AllEnd L (e ∷ es) (t ∷ ts) = EndsAt L e t × AllEnd L es ts

-- the labels of trees one behind the other
abbrev pub to_come : List Tree → List Label
to_come [] = []
to_come (t ∷ ts) = preorder t ++ to_come ts

abbrev pub listed : {L : Type 0} → TreesOf L → List (TreeOf L)
listed none = []
listed (more t ts) = t ∷ listed ts

-- what the walk keeps
abbrev pub Walks : List Label → List ℕ → List Label → Tree → Type 0
Walks L stack ordered t = (ts : List Tree) × AllEnd L (reverse stack) ts × (ordered ++ to_come ts ≡ preorder t)

pub walk_begins : (L : List Label) (stack : List ℕ) (ordered : List Label) (t : Tree) → IsAction t → L ≡ postorder t → stack ≡ length L ∷ [] → ordered ≡ [] → Walks L stack ordered t
walk_begins L stack ordered t is e f g =
    rw f (rw g (t ∷ [], (record { wanted = AnAction; is = is; before = []; after = []; whole = e ∙ sym (append-nil (postorder t)); end_is = end_of (length L) (length (postorder t)) (ap length e) }, tt), append-nil (preorder t)))
  where
    end_of : (a b : ℕ) → a ≡ b → a ≡ 0 + b
    end_of a b e = omega arith

-- the tree on top of the stack
pub record HasTop (L : List Label) (end : ℕ) (new : List ℕ) (ordered : List Label) (t : Tree) : Type 0 where
  pub label : Label
  pub kids : Trees
  pub others : List Tree
  pub ends : EndsAt L end (tree label kids)
  pub rest : AllEnd L (reverse new) others
  pub labels : ordered ++ (preorder (tree label kids) ++ to_come others) ≡ preorder t

pub has_top : (L : List Label) (old new : List ℕ) (end : ℕ) (ordered : List Label) (t : Tree) → old ≡ new ++ end ∷ [] → Walks L old ordered t → HasTop L end new ordered t
has_top L old new end ordered t e (ts, all, labels) = cut ts (subst (λ y. AllEnd L y ts) (ap reverse e ∙ reverse-append new (end ∷ [])) all) labels
  where
    cut : (ts : List Tree) → AllEnd L (end ∷ reverse new) ts → ordered ++ to_come ts ≡ preorder t → HasTop L end new ordered t
    cut [] a b = absurd a
    cut (tree l kids ∷ ts) a b = record { label = l; kids = kids; others = ts; ends = a.0; rest = a.1; labels = b }

-- the place of the label of a tree
pub top_place : (L : List Label) (end : ℕ) (l : Label) (kids : Trees) → (h : EndsAt L end (tree l kids)) → (end - 1 ≡ length h.before + length (postorders kids)) × (0 < end) × (end ≤ length L)
top_place L end l kids h =
    let n : length (postorders kids ++ l ∷ []) ≡ length (postorders kids) + 1 = length-append (postorders kids) (l ∷ []) in
    let e : end ≡ length h.before + length (postorders kids ++ l ∷ []) = h.end_is in
    let within : length h.before + length (postorders kids ++ l ∷ []) ≤ length L = inside L h.before (postorders kids ++ l ∷ []) h.after h.whole in
    (omega arith, omega arith, omega arith)

pub top_label : (L : List Label) (end : ℕ) (l d : Label) (kids : Trees) → EndsAt L end (tree l kids) → get_or L (end - 1) d ≡ l
top_label L end l d kids h = ap (λ n. get_or L n d) (top_place L end l kids h).0 ∙ label_at L h.before h.after kids l d h.whole

-- the ends of trees one behind the other
kids_end : (L : List Label) (sizes : List ℕ) → AreSizes L sizes → (kids : Trees) (xs : List Wanted) → Are xs kids → (before after : List Label) → L ≡ before ++ (postorders kids ++ after)
    → (es : List ℕ) (ts : List Tree) → AllEnd L es ts → AllEnd L (reverse (tree_ends sizes (count_of kids) (length before + length (postorders kids))) ++ es) (listed kids ++ ts)
kids_end L sizes ok none xs are before after e es ts all = all
kids_end L sizes ok (more k kids) [] are before after e es ts all = absurd are
kids_end L sizes ok (more k kids) (x ∷ xs) are before after e es ts all =
    let n : length (postorder k ++ postorders kids) ≡ length (postorder k) + length (postorders kids) = length-append (postorder k) (postorders kids) in
    let m : length (before ++ postorder k) ≡ length before + length (postorder k) = length-append before (postorder k) in
    let end : length before + length (postorder k ++ postorders kids) ≡ length (before ++ postorder k) + length (postorders kids) = omega arith in
    let whole : L ≡ (before ++ postorder k) ++ (postorders kids ++ after) = e ∙ regroup before (postorder k) (postorders kids) after in
    let first : EndsAt L (start_back sizes (count_of kids) (length (before ++ postorder k) + length (postorders kids))) k = record {
      wanted = x;
      is = are.0;
      before = before;
      after = postorders kids ++ after;
      whole = e ∙ ap (λ y. before ++ y) (append_assoc (postorder k) (postorders kids) after);
      end_is = trees_begin L sizes ok kids xs are.1 (before ++ postorder k) after whole ∙ m;
    } in
    let others = kids_end L sizes ok kids xs are.1 (before ++ postorder k) after whole es ts all in
    let list : reverse (tree_ends sizes (suc (count_of kids)) (length before + length (postorder k ++ postorders kids)))
    ≡ start_back sizes (count_of kids) (length (before ++ postorder k) + length (postorders kids)) ∷ reverse (tree_ends sizes (count_of kids) (length (before ++ postorder k) + length (postorders kids))) =
    ap (λ p. reverse (tree_ends sizes (suc (count_of kids)) p)) end
    ∙ ap reverse (tree_ends_last sizes (count_of kids) (length (before ++ postorder k) + length (postorders kids)))
    ∙ reverse-append (tree_ends sizes (count_of kids) (length (before ++ postorder k) + length (postorders kids))) (start_back sizes (count_of kids) (length (before ++ postorder k) + length (postorders kids)) ∷ []) in
    subst (λ y. AllEnd L (y ++ es) (k ∷ (listed kids ++ ts))) (sym list) (first, others)

to_come_listed : (kids : Trees) (ts : List Tree) → to_come (listed kids ++ ts) ≡ preorders kids ++ to_come ts
to_come_listed none ts = refl
to_come_listed (more k kids) ts = ap (λ y. preorder k ++ y) (to_come_listed kids ts) ∙ sym (append_assoc (preorder k) (preorders kids) (to_come ts))

-- one label more in preorder, and the trees under it on the stack
pub walk_goes_on : (L : List Label) (sizes old new newer : List ℕ) (end : ℕ) (ordered others : List Label) (d : Label) (t : Tree) → AreSizes L sizes → old ≡ new ++ end ∷ [] → Walks L old ordered t
    → newer ≡ new ++ tree_ends sizes (length (under (get_or L (end - 1) d))) (end - 1) → others ≡ ordered ++ get_or L (end - 1) d ∷ [] → Walks L newer others t
walk_goes_on L sizes old new newer end ordered others d t ok e h f g =
    let top = has_top L old new end ordered t e h in
    let label : get_or L (end - 1) d ≡ top.label = top_label L end top.label d top.kids top.ends in
    let place : end - 1 ≡ length top.ends.before + length (postorders top.kids) = (top_place L end top.label top.kids top.ends).0 in
    let whole : L ≡ top.ends.before ++ (postorders top.kids ++ (top.label ∷ top.ends.after)) =
    top.ends.whole ∙ ap (λ y. top.ends.before ++ y) (append_assoc (postorders top.kids) (top.label ∷ []) top.ends.after) in
    let ends = kids_end L sizes ok top.kids (under top.label) top.ends.is.1 top.ends.before (top.label ∷ top.ends.after) whole (reverse new) top.others top.rest in
    let stacked : reverse newer ≡ reverse (tree_ends sizes (count_of top.kids) (length top.ends.before + length (postorders top.kids))) ++ reverse new =
    ap reverse f ∙ reverse-append new (tree_ends sizes (length (under (get_or L (end - 1) d))) (end - 1))
    ∙ ap (λ n. reverse (tree_ends sizes n (end - 1)) ++ reverse new) (ap (λ k. length (under k)) label ∙ under_count top.label top.kids top.ends.is.1)
    ∙ ap (λ p. reverse (tree_ends sizes (count_of top.kids) p) ++ reverse new) place in (
      listed top.kids ++ top.others,
      subst (λ y. AllEnd L y (listed top.kids ++ top.others)) (sym stacked) ends,
      ap (λ y. y ++ to_come (listed top.kids ++ top.others)) (g ∙ ap (λ k. ordered ++ k ∷ []) label)
          ∙ append_assoc ordered (top.label ∷ []) (to_come (listed top.kids ++ top.others))
          ∙ ap (λ y. ordered ++ (top.label ∷ y)) (to_come_listed top.kids top.others)
          ∙ top.labels,
    )

-- the walk is over
pub walk_ends : (L : List Label) (stack : List ℕ) (ordered : List Label) (t : Tree) → length stack ≡ 0 → Walks L stack ordered t → ordered ≡ preorder t
walk_ends L [] ordered t e ([], all, labels) = sym (append-nil ordered) ∙ labels
walk_ends L [] ordered t e (u ∷ ts, all, labels) = absurd all
walk_ends L (x ∷ stack) ordered t e h = absurd (omega arith)

mutual
  pub same_size : (t : Tree) → length (preorder t) ≡ length (postorder t)
  same_size (tree l ts) =
      let n : length (postorders ts ++ l ∷ []) ≡ length (postorders ts) + 1 = length-append (postorders ts) (l ∷ []) in
      let m = same_sizes ts in
      omega (arith, m)

  pub same_sizes : (ts : Trees) → length (preorders ts) ≡ length (postorders ts)
  same_sizes none = refl
  same_sizes (more t ts) =
      let a = same_size t in
      let b = same_sizes ts in
      length-append (preorder t) (preorders ts) ∙ ap (λ n. n + length (preorders ts)) a ∙ ap (λ n. length (postorder t) + n) b ∙ sym (length-append (postorder t) (postorders ts))

-- a label is still to come
pub walk_short : (L : List Label) (old new : List ℕ) (end : ℕ) (ordered : List Label) (t : Tree) → L ≡ postorder t → old ≡ new ++ end ∷ [] → Walks L old ordered t → length ordered < length L
walk_short L old new end ordered t is e h =
    let top = has_top L old new end ordered t e h in
    let n : length (ordered ++ (preorder (tree top.label top.kids) ++ to_come top.others)) ≡ length (preorder t) = ap length top.labels in
    let m : length (ordered ++ (preorder (tree top.label top.kids) ++ to_come top.others)) ≡ length ordered + length (preorder (tree top.label top.kids) ++ to_come top.others) = length-append ordered (preorder (tree top.label top.kids) ++ to_come top.others) in
    let k : length (preorder (tree top.label top.kids) ++ to_come top.others) ≡ length (preorder (tree top.label top.kids)) + length (to_come top.others) = length-append (preorder (tree top.label top.kids)) (to_come top.others) in
    let size : length (preorder t) ≡ length L = same_size t ∙ sym (ap length is) in
    omega arith

-- the sizes of the first n labels
pub record SizesTo (L : List Label) (sizes : List ℕ) (n : ℕ) : Type 0 where
  pub lengths : length sizes ≡ n
  pub each : (i : ℕ) (l : Label) → i < n → get_or sizes i 0 ≡ (i + 1) - start_back sizes (length (under (get_or L i l))) i

get_or_last : (xs : List ℕ) (x i : ℕ) → i ≡ length xs → get_or (xs ++ x ∷ []) i 0 ≡ x
get_or_last [] x zero h = refl
get_or_last [] x (suc i) h = absurd (omega arith)
get_or_last (y ∷ xs) x zero h = absurd (omega arith)
get_or_last (y ∷ xs) x (suc i) h = get_or_last xs x i (omega arith)

pub sizes_more : (L : List Label) (sizes : List ℕ) (n x : ℕ) → SizesTo L sizes n → ((l : Label) → x ≡ (n + 1) - start_back sizes (length (under (get_or L n l))) n) → SizesTo L (sizes ++ x ∷ []) (n + 1)
sizes_more L sizes n x h new = record {
  lengths = omega (arith, length-append sizes (x ∷ []), h.lengths);
  each = λ i l below. by_place i l below (eqb_tells i n);
}
  where
    by_place : (i : ℕ) (l : Label) → i < n + 1 → ((nat_eq i n ≡ true) × (i ≡ n)) ⊎ ((nat_eq i n ≡ false) × (i ≢ n))
        → get_or (sizes ++ x ∷ []) i 0 ≡ (i + 1) - start_back (sizes ++ x ∷ []) (length (under (get_or L i l))) i
    by_place i l below (inl e) =
        let size = h.lengths in
        let at : i ≤ length sizes = let p = e.1 in omega (arith, p, size) in
        get_or_last sizes x i (let p = e.1 in omega (arith, p, size)) ∙ new l
        ∙ ap (λ k. (k + 1) - start_back sizes (length (under (get_or L k l))) k) (sym e.1)
        ∙ ap (λ k. (i + 1) - k) (sym (start_front sizes (x ∷ []) (length (under (get_or L i l))) i at))
    by_place i l below (inr e) =
        let size = h.lengths in
        let ne : i ≢ n = e.1 in
        let lt : i < n = omega arith in
        let at : i ≤ length sizes = omega (arith, size) in
        let in_front : i < length sizes = omega (arith, size) in
        get_or_append_left sizes (x ∷ []) 0 i in_front ∙ h.each i l lt ∙ ap (λ k. (i + 1) - k) (sym (start_front sizes (x ∷ []) (length (under (get_or L i l))) i at))

-- one step of the way back, with the others still to go
pub back_one : (sizes : List ℕ) (n k s : ℕ) → k < n → start_back sizes (n - k) s ≡ start_back sizes (n - (k + 1)) (step_back sizes s)
back_one sizes n k s h = let e : n - k ≡ suc (n - (k + 1)) = omega arith in ap (λ m. start_back sizes m s) e

pub ends_one : (sizes : List ℕ) (n k s : ℕ) → k < n → tree_ends sizes (n - k) s ≡ s ∷ tree_ends sizes (n - (k + 1)) (step_back sizes s)
ends_one sizes n k s h = let e : n - k ≡ suc (n - (k + 1)) = omega arith in ap (λ m. tree_ends sizes m s) e

pub length_mapped : {A B : Type 0} (f : A → B) (xs : List A) → length (map f xs) ≡ length xs
length_mapped f [] = refl
length_mapped f (x ∷ xs) = ap suc (length_mapped f xs)

pub length_labels : (labels : List TemplateNode) → length (map label_of labels) ≡ length labels
length_labels [] = refl
length_labels (l ∷ labels) = ap suc (length_labels labels)

-- the label at a place
pub label_there : (labels : List TemplateNode) (i : ℕ) (d : TemplateNode) (l : Label) → i < length labels → get_or (map label_of labels) i l ≡ label_of (get_or labels i d)
label_there [] i d l h = absurd (omega arith)
label_there (x ∷ labels) zero d l h = refl
label_there (x ∷ labels) (suc i) d l h = label_there labels i d l (omega arith)

-- a step of the walk over nodes as they are pushed
pub walk_step : (labels : List TemplateNode) (sizes list old new newer : List ℕ) (end count : ℕ) (ordered others : List TemplateNode) (d : TemplateNode) (t : Tree) → AreSizes (map label_of labels) list → sizes ≡ list
    → old ≡ new ++ end ∷ [] → Walks (map label_of labels) old (map label_of ordered) t → 0 < end → end ≤ length labels → count ≡ length (under (label_of (get_or labels (end - 1) d)))
    → newer ≡ new ++ tree_ends sizes count (end - 1) → others ≡ ordered ++ get_or labels (end - 1) d ∷ [] → Walks (map label_of labels) newer (map label_of others) t
walk_step labels sizes list old new newer end count ordered others d t ok same e h some within parts f g =
    let l : Label = label_of d in
    let there : get_or (map label_of labels) (end - 1) l ≡ label_of (get_or labels (end - 1) d) = label_there labels (end - 1) d l (omega arith) in
    let ends : newer ≡ new ++ tree_ends list (length (under (get_or (map label_of labels) (end - 1) l))) (end - 1) =
    f ∙ ap (λ z. new ++ tree_ends z count (end - 1)) same ∙ ap (λ n. new ++ tree_ends list n (end - 1)) (parts ∙ ap (λ k. length (under k)) (sym there)) in
    let written : map label_of others ≡ map label_of ordered ++ get_or (map label_of labels) (end - 1) l ∷ [] =
    ap (map label_of) g ∙ map-append label_of ordered (get_or labels (end - 1) d ∷ []) ∙ ap (λ k. map label_of ordered ++ k ∷ []) (sym there) in
    walk_goes_on (map label_of labels) list old new newer end (map label_of ordered) (map label_of others) l t ok e h ends written
