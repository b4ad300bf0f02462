-- Nodes fill the place of a template exactly where they are the preorder of a template, and then of this one only.
use Rattle.std.proofs.Common.{◌≡◌, true, List, [], ◌∷◌, ◌++◌, refl, sym, ap, subst, ◌∙◌, append_assoc, append-nil}
use Rattle.std.proofs.lemmas.Bool.{and_parts}
use Rattle.action_terms.specs.Labels.{Wanted, AnAction}
use Rattle.action_terms.specs.Trees.{tree, none, more, preorder, preorders}
use Rattle.meta_terms.specs.Templates.{Label, Tree, Trees, Is, Are, IsAction, serves, under, fills}

mutual
  fills-preorder : (t : Tree) (x : Wanted) (xs : List Wanted) (ls : List Label) → Is x t → fills xs ls ≡ true → fills (x ∷ xs) (preorder t ++ ls) ≡ true
  fills-preorder (tree l ts) x xs ls h k = rw h.0 (fills-preorders ts (under l) xs ls h.1 k)

  fills-preorders : (ts : Trees) (ys xs : List Wanted) (ls : List Label) → Are ys ts → fills xs ls ≡ true → fills (ys ++ xs) (preorders ts ++ ls) ≡ true
  fills-preorders none [] xs ls h k = k
  fills-preorders none (y ∷ ys) xs ls h k = elim h [ ]
  fills-preorders (more t ts) [] xs ls h k = elim h [ ]
  fills-preorders (more t ts) (y ∷ ys) xs ls h k = rw (append_assoc (preorder t) (preorders ts) ls) (fills-preorder t y (ys ++ xs) (preorders ts ++ ls) h.0 (fills-preorders ts ys xs ls h.1 k))

-- the nodes of a template are whole
pub fills-template : (t : Tree) (labels : List Label) → IsAction t → labels ≡ preorder t → fills (AnAction ∷ []) labels ≡ true
fills-template t labels is e = ap (fills (AnAction ∷ [])) (e ∙ sym (append-nil (preorder t))) ∙ fills-preorder t AnAction [] [] is refl

split : (ys xs : List Wanted) (ts : Trees) → Are (ys ++ xs) ts → (a : Trees) × (b : Trees) × Are ys a × Are xs b × (preorders ts ≡ preorders a ++ preorders b)
split [] xs ts h = (none, ts, tt, h, refl)
split (y ∷ ys) xs none h = elim h [ ]
split (y ∷ ys) xs (more t ts) h =
    let s = split ys xs ts h.1 in
    (more t s.0, s.1, (h.0, s.2), s.3, ap (λ l. preorder t ++ l) s.4 ∙ sym (append_assoc (preorder t) (preorders s.0) (preorders s.1)))

trees-of : (ls : List Label) (xs : List Wanted) → fills xs ls ≡ true → (ts : Trees) × Are xs ts × (preorders ts ≡ ls)
trees-of [] [] h = (none, tt, refl)
trees-of [] (x ∷ xs) h = cc
trees-of (l ∷ ls) [] h = cc
trees-of (l ∷ ls) (x ∷ xs) h =
    let b = and_parts (serves x l) (fills (under l ++ xs) ls) h in
    let r = trees-of ls (under l ++ xs) b.1 in
    let s = split (under l) xs r.0 r.1 in
    (more (tree l s.0) s.1, ((b.0, s.2), s.3), ap (λ k. l ∷ k) (sym s.4 ∙ r.2))

only : (ts : Trees) → Are (AnAction ∷ []) ts → (t : Tree) × IsAction t × (preorders ts ≡ preorder t)
only none h = elim h [ ]
only (more t none) h = (t, h.0, append-nil (preorder t))
only (more t (more u us)) h = elim h.1 [ ]

-- whole nodes are the preorder of a template
pub template-of : (labels : List Label) → fills (AnAction ∷ []) labels ≡ true → (t : Tree) × IsAction t × (preorder t ≡ labels)
template-of labels h =
    let r = trees-of labels (AnAction ∷ []) h in
    let t = only r.0 r.1 in
    (t.0, t.1, sym t.2 ∙ r.2)

mutual
  same-tree : (t u : Tree) (x y : Wanted) (ls ks : List Label) → Is x t → Is y u → preorder t ++ ls ≡ preorder u ++ ks → (t ≡ u) × (ls ≡ ks)
  same-tree (tree l ts) (tree k us) x y ls ks h g e =
      let first : l ≡ k = cc in
      let rest : preorders ts ++ ls ≡ preorders us ++ ks = cc in
      let P : Label → Type 0 = λ m. Are (under m) us in
      let r = same-trees ts us (under l) ls ks h.1 (subst P (sym first) g.1) rest in
      (let below = r.0 in cc, r.1)

  same-trees : (ts us : Trees) (xs : List Wanted) (ls ks : List Label) → Are xs ts → Are xs us → preorders ts ++ ls ≡ preorders us ++ ks → (ts ≡ us) × (ls ≡ ks)
  same-trees none none [] ls ks h g e = (refl, e)
  same-trees none none (x ∷ xs) ls ks h g e = elim h [ ]
  same-trees none (more u us) [] ls ks h g e = elim g [ ]
  same-trees none (more u us) (x ∷ xs) ls ks h g e = elim h [ ]
  same-trees (more t ts) none [] ls ks h g e = elim h [ ]
  same-trees (more t ts) none (x ∷ xs) ls ks h g e = elim g [ ]
  same-trees (more t ts) (more u us) [] ls ks h g e = elim h [ ]
  same-trees (more t ts) (more u us) (x ∷ xs) ls ks h g e =
      let first = same-tree t u x x (preorders ts ++ ls) (preorders us ++ ks) h.0 g.0 (sym (append_assoc (preorder t) (preorders ts) ls) ∙ e ∙ append_assoc (preorder u) (preorders us) ks) in
      let rest = same-trees ts us xs ls ks h.1 g.1 first.1 in
      (let head = first.0 in let tail = rest.0 in cc, rest.1)

-- nodes are the preorder of one template only
pub one_template : (t u : Tree) → IsAction t → IsAction u → preorder t ≡ preorder u → t ≡ u
one_template t u h g e = (same-tree t u AnAction AnAction [] [] h g (append-nil (preorder t) ∙ e ∙ sym (append-nil (preorder u)))).0
