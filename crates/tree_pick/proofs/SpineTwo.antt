-- Two choices at a spot that is reached: two different trees of the root.
use Rattle.std.proofs.Common.{◌≡◌, inl, inr, ℕ, List, [], ◌∷◌, refl, sym, ap, subst, ◌∙◌}
use Rattle.gram_form.specs.Trees.{PlainTree, Node, Pieces, End, Lexeme, Under}
use Rattle.source_lex.specs.Numbered.{Numbered}
use Rattle.source_lex.specs.Trees.{IsTree, HasTwoTrees}
use Rattle.source_lex.specs.declared.numbered.Symbol.TheVariants.{Word, Phrase}
use Rattle.source_lex.specs.declared.lexeme.LexKind.{LexKind}
use Rattle.chart_parse.specs.Growths.{Grows, Stays, Steps}
use Rattle.tree_pick.specs.Spines.{Growth, Stay, Step, IsGrowth, CanGrow, plug, Spot, Spanning, Growing, Parts, FitsLeaf, Reached, Here, Leafed, Begun, Grown, Followed, Read, First, Rest, HasTwoChoices, HasTwo}
use Rattle.tree_pick.specs.Walk.{root_of}
use Rattle.tree_pick.proofs.Sizes.{tree_end}
use Rattle.tree_pick.proofs.SpinePick.{leaf_of, growth_of, leaf_back, growth_back}

-- a phrase with what it grows into
pub plugged : (g : Numbered) (w : List LexKind) (n j c i k : ℕ) (t : PlainTree) (gr : Growth) → IsTree g w c i k t → IsGrowth g w n j c k gr → IsTree g w n i j (plug i t gr)
plugged g w n j c i k t Stay x h = subst (λ q. IsTree g w q i j t) h.0 (subst (λ q. IsTree g w c i q t) h.1 x)
plugged g w n j c i k t (Step m a ps l more) x h =
    plugged g w n j m i l (Node m a (Under t ps) i l) more (refl, refl, refl, Phrase c ∷ h.0, h.1, (c, h.0, k, refl, x, h.2)) h.3

-- a leaf: nothing is before it in its spine
abbrev IsLeaf : PlainTree → Type 0
IsLeaf t = (gr : Growth) → (leaf_of t gr ≡ t) × (growth_of t gr ≡ gr)

pub record LeafTree (g : Numbered) (w : List LexKind) (i b a k : ℕ) : Type 0 where
  pub pieces : Pieces
  pub is_tree : IsTree g w b i k (Node b a pieces i k)
  pub is_leaf : IsLeaf (Node b a pieces i k)

pub leaf_tree : (g : Numbered) (w : List LexKind) (i b a k : ℕ) → FitsLeaf g w i b a k → LeafTree g w i b a k
leaf_tree g w i b a k (inl x) = record {
  pieces = End;
  is_tree = (refl, refl, refl, [], x.0, (refl, sym x.1));
  is_leaf = λ gr. (refl, refl);
}
leaf_tree g w i b a k (inr (c, rest, e, f, ps)) = record {
  pieces = Lexeme i ps.0;
  is_tree = (refl, refl, refl, Word c ∷ rest, e, (refl, c, rest, refl, f, ps.1));
  is_leaf = λ gr. (refl, refl);
}

same_spine : (i : ℕ) (t u : PlainTree) (gr hr : Growth) → IsLeaf t → IsLeaf u → plug i t gr ≡ plug i u hr → (t ≡ u) × (gr ≡ hr)
same_spine i t u gr hr lt lu e = (
  sym (lt gr).0 ∙ sym (leaf_back i gr t) ∙ ap (λ x. leaf_of x Stay) e ∙ leaf_back i hr u ∙ (lu hr).0,
  sym (lt gr).1 ∙ sym (growth_back i gr t) ∙ ap (λ x. growth_of x Stay) e ∙ growth_back i hr u ∙ (lu hr).1,
)

-- two at a spot that is reached make two at the root
pub two_above : (g : Numbered) (w : List LexKind) (root p : Spot) → Reached g w root p → HasTwo g w p → HasTwo g w root
two_above g w root p Here two = two
two_above g w root p (Leafed {n = n} {i = i} {j = j} b a k at fits) two =
    let l = leaf_tree g w i b a k fits in
    let t : PlainTree = Node b a l.pieces i k in
    two_above g w root (Spanning n i j) at (
      plug i t two.0,
      plug i t two.1,
      plugged g w n j b i k t two.0 l.is_tree two.2,
      plugged g w n j b i k t two.1 l.is_tree two.3,
      λ e. two.4 (same_spine i t t two.0 two.1 l.is_leaf l.is_leaf e).1,
    )
two_above g w root p (Begun {n = n} {i = i} {j = j} b a k c rest at e f can) two =
    let t : PlainTree = Node b a (Lexeme i two.0) i k in
    let u : PlainTree = Node b a (Lexeme i two.1) i k in
    two_above g w root (Spanning n i j) at (
      plug i t can.0,
      plug i u can.0,
      plugged g w n j b i k t can.0 (refl, refl, refl, Word c ∷ rest, e, (refl, c, rest, refl, f, two.2)) can.1,
      plugged g w n j b i k u can.0 (refl, refl, refl, Word c ∷ rest, e, (refl, c, rest, refl, f, two.3)) can.1,
      λ h. let s : t ≡ u = (same_spine i t u can.0 can.0 (λ gr. (refl, refl)) (λ gr. (refl, refl)) h).0 in two.4 (cc),
    )
two_above g w root p (Grown {c = c} {k = k} {n = n} {j = j} m a l at (rest, e, ps)) two =
    two_above g w root (Growing c k n j) at (Step m a ps.0 l two.0, Step m a ps.0 l two.1, (rest, e, ps.1, two.2), (rest, e, ps.1, two.3), λ h. two.4 (cc))
two_above g w root p (Followed {c = c} {k = k} {n = n} {j = j} m a l rest at e can) two =
    two_above g w root (Growing c k n j) at (Step m a two.0 l can.0, Step m a two.1 l can.0, (rest, e, two.2, can.1), (rest, e, two.3, can.1), λ h. two.4 (cc))
two_above g w root p (Read {k = k} {l = l} c rest at e) two =
    two_above g w root (Parts (Word c ∷ rest) k l) at (Lexeme k two.0, Lexeme k two.1, (refl, c, rest, refl, e, two.2), (refl, c, rest, refl, e, two.3), λ h. two.4 (cc))
two_above g w root p (First {k = k} {l = l} m rest h at others) two =
    two_above g w root (Parts (Phrase m ∷ rest) k l) at (Under two.0 others.0, Under two.1 others.0, (m, rest, h, refl, two.2, others.1), (m, rest, h, refl, two.3, others.1), λ x. two.4 (cc))
two_above g w root p (Rest {k = k} {l = l} m rest h at first) two =
    two_above g w root (Parts (Phrase m ∷ rest) k l) at (Under first.0 two.0, Under first.0 two.1, (m, rest, h, refl, first.1, two.2), (m, rest, h, refl, first.1, two.3), λ x. two.4 (cc))

-- two choices at a spot make two there
pub two_chosen : (g : Numbered) (w : List LexKind) (p : Spot) → HasTwoChoices g w p → HasTwo g w p
two_chosen g w (Spanning n i j) (b, a, k, d, e, l, fits, can, gits, dan, apart) =
    let x = leaf_tree g w i b a k fits in
    let y = leaf_tree g w i d e l gits in
    let t : PlainTree = Node b a x.pieces i k in
    let u : PlainTree = Node d e y.pieces i l in (
      plug i t can.0,
      plug i u dan.0,
      plugged g w n j b i k t can.0 x.is_tree can.1,
      plugged g w n j d i l u dan.0 y.is_tree dan.1,
      λ h. differs x.pieces y.pieces (same_spine i t u can.0 dan.0 x.is_leaf y.is_leaf h).0,
    )
  where
    differs : (ps qs : Pieces) → Node b a ps i k ≡ Node d e qs i l → ⊥
    differs ps qs both =
        let same_b : b ≡ d = cc in
        let same_a : a ≡ e = cc in
        let same_k : k ≡ l = cc in
        apart (same_b, same_a, same_k)
two_chosen g w (Growing c k n j) (inl (m, a, l, p, b, h, (r, e, ps), can, (s, f, qs), dan, apart)) = (
  Step m a ps.0 l can.0,
  Step p b qs.0 h dan.0,
  (r, e, ps.1, can.1),
  (s, f, qs.1, dan.1),
  λ q. let x : m ≡ p = cc in let y : a ≡ b = cc in let z : l ≡ h = cc in apart (x, y, z),
)
two_chosen g w (Growing c k n j) (inr (m, a, l, x, y, (r, e, ps), can)) =
    (Stay, Step m a ps.0 l can.0, (x, y), (r, e, ps.1, can.1), λ q. absurd (cc))
two_chosen g w (Parts [] k l) c = absurd c
two_chosen g w (Parts (Word q ∷ rest) k l) c = absurd c
two_chosen g w (Parts (Phrase m ∷ rest) k l) c =
    let h : ℕ = c.0 in
    let o : ℕ = c.1 in
    let t : PlainTree = c.3.0.0 in
    let u : PlainTree = c.4.0.0 in
    let xt : IsTree g w m k h t = c.3.0.1 in
    let yu : IsTree g w m k o u = c.4.0.1 in (
      Under t c.3.1.0,
      Under u c.4.1.0,
      (m, rest, h, refl, xt, c.3.1.1),
      (m, rest, o, refl, yu, c.4.1.1),
      λ q. let e : t ≡ u = cc in c.2 (tree_end g w m m k k h o u (rw e at xt) yu),
    )

-- a growth, as a list of steps and as an inductive relation
pub can_grow : (g : Numbered) (w : List LexKind) (n j c k : ℕ) → Grows g w n j c k → CanGrow g w n j c k
can_grow g w n j c k Stays = (Stay, (refl, refl))
can_grow g w n j c k (Steps m a rest l e ps more) =
    let r = can_grow g w n j m l more in
    (Step m a ps.0 l r.0, (rest, e, ps.1, r.1))

pub grows_so : (g : Numbered) (w : List LexKind) (n j c k : ℕ) (gr : Growth) → IsGrowth g w n j c k gr → Grows g w n j c k
grows_so g w n j c k Stay h = rw h.0 (rw h.1 Stays)
grows_so g w n j c k (Step m a ps l more) h = Steps m a h.0 l h.1 (ps, h.2) (grows_so g w n j m l more h.3)
