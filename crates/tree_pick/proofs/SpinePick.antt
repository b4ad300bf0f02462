-- One choice at each spot that is reached: one tree. Trees with different spines are different.
use Rattle.std.proofs.Common.{◌≡◌, ◌⊎◌, inl, inr, ℕ, zero, suc, ◌+◌, ◌≤◌, List, [], ◌∷◌, slice_get, Some, refl, sym, ap, subst, ◌∙◌, arith}
use Rattle.gram_form.specs.Trees.{PlainTree, Node, Pieces, End, Lexeme, Under}
use Rattle.source_lex.specs.Numbered.{Alternative, Numbered, alternative_of}
use Rattle.source_lex.specs.Trees.{IsTree, ArePieces}
use Rattle.source_lex.specs.declared.numbered.Symbol.TheVariants.{Word, Phrase}
use Rattle.source_lex.specs.declared.lexeme.LexKind.{LexKind}
use Rattle.tree_pick.specs.Spines.{Growth, Stay, Step, IsGrowth, CanGrow, plug, Spot, Spanning, Growing, Parts, FitsLeaf, Reached, Leafed, Begun, Grown, Followed, Read, First, Rest, HasOneChoice}
use Rattle.tree_pick.proofs.Sizes.{tree_size, pieces_size}

-- the first leaf of a tree, and what it grows into
abbrev pub leaf_of : PlainTree → Growth → PlainTree
leaf_of (Node b a End s e) acc = Node b a End s e
leaf_of (Node b a (Lexeme p ps) s e) acc = Node b a (Lexeme p ps) s e
leaf_of (Node b a (Under t ps) s e) acc = leaf_of t (Step b a ps e acc)

abbrev pub growth_of : PlainTree → Growth → Growth
growth_of (Node b a End s e) acc = acc
growth_of (Node b a (Lexeme p ps) s e) acc = acc
growth_of (Node b a (Under t ps) s e) acc = growth_of t (Step b a ps e acc)

pub spine_plug : (g : Numbered) (w : List LexKind) (n i j : ℕ) (t : PlainTree) (acc : Growth) → IsTree g w n i j t → plug i (leaf_of t acc) (growth_of t acc) ≡ plug i t acc
spine_plug g w n i j (Node b a End s e) acc x = refl
spine_plug g w n i j (Node b a (Lexeme p ps) s e) acc x = refl
spine_plug g w n i j (Node b a (Under t ps) s e) acc x =
    let y = x.5 in
    spine_plug g w y.0 i y.2 t (Step b a ps e acc) y.4 ∙ ap (λ q. plug i (Node b a (Under t ps) q e) acc) (sym x.1)

-- the spine of what was put together
pub leaf_back : (i : ℕ) (gr : Growth) (t : PlainTree) → leaf_of (plug i t gr) Stay ≡ leaf_of t gr
leaf_back i Stay t = refl
leaf_back i (Step m a ps l more) t = leaf_back i more (Node m a (Under t ps) i l)

pub growth_back : (i : ℕ) (gr : Growth) (t : PlainTree) → growth_of (plug i t gr) Stay ≡ growth_of t gr
growth_back i Stay t = refl
growth_back i (Step m a ps l more) t = growth_back i more (Node m a (Under t ps) i l)

abbrev pub growth_size : Growth → ℕ
growth_size Stay = 0
growth_size (Step m a ps l more) = 1 + pieces_size ps + growth_size more

spine_size : (t : PlainTree) (acc : Growth) → tree_size (leaf_of t acc) + growth_size (growth_of t acc) ≤ tree_size t + growth_size acc
spine_size (Node b a End s e) acc = omega arith
spine_size (Node b a (Lexeme p ps) s e) acc = omega arith
spine_size (Node b a (Under t ps) s e) acc = let h = spine_size t (Step b a ps e acc) in omega (arith, h)

-- the leaf and the growth of a tree
pub record IsSpine (g : Numbered) (w : List LexKind) (n i j : ℕ) (leaf : PlainTree) (gr : Growth) : Type 0 where
  pub production : ℕ
  pub alternative : ℕ
  pub ends : ℕ
  pub pieces : Pieces
  pub leaf_is : leaf ≡ Node production alternative pieces i ends
  pub fits : ((pieces ≡ End) × (alternative_of g production alternative ≡ Some []) × (ends ≡ i))
      ⊎ ((c : LexKind) × (rest : Alternative) × (ps : Pieces) × (pieces ≡ Lexeme i ps) × (alternative_of g production alternative ≡ Some (Word c ∷ rest)) × (slice_get w i ≡ Some c) × ArePieces g w rest (i + 1) ends ps)
  pub grows : IsGrowth g w n j production ends gr

pub has_spine : (g : Numbered) (w : List LexKind) (n j c i k : ℕ) (t : PlainTree) (acc : Growth) → IsTree g w c i k t → IsGrowth g w n j c k acc → IsSpine g w n i j (leaf_of t acc) (growth_of t acc)
has_spine g w n j c i k (Node b a End s e) acc x gr = record {
  production = b;
  alternative = a;
  ends = k;
  pieces = End;
  leaf_is = ap (λ q. Node b a End q e) x.1 ∙ ap (λ q. Node b a End i q) x.2;
  fits = inl (refl, rw (sym x.0) at (rw x.5.0 at x.4), sym x.5.1);
  grows = subst (λ q. IsGrowth g w n j q k acc) (sym x.0) gr;
}
has_spine g w n j c i k (Node b a (Lexeme p ps) s e) acc x gr =
    let y = x.5 in
    record {
      production = b;
      alternative = a;
      ends = k;
      pieces = Lexeme p ps;
      leaf_is = ap (λ q. Node b a (Lexeme p ps) q e) x.1 ∙ ap (λ q. Node b a (Lexeme p ps) i q) x.2;
      fits = inr (y.1, y.2, ps, ap (λ q. Lexeme q ps) y.0, rw (sym x.0) at (rw y.3 at x.4), y.4, y.5);
      grows = subst (λ q. IsGrowth g w n j q k acc) (sym x.0) gr;
    }
has_spine g w n j c i k (Node b a (Under t ps) s e) acc x gr =
    let y = x.5 in
    has_spine g w n j y.0 i y.2 t (Step b a ps e acc) y.4 (
      y.1,
      rw (sym x.0) at (rw y.3 at x.4),
      subst (λ q. ArePieces g w y.1 y.2 q ps) (sym x.2) y.5,
      subst (λ q. IsGrowth g w n j b q acc) (sym x.2) (subst (λ q. IsGrowth g w n j q k acc) (sym x.0) gr),
    )

pub leaf_fits : (g : Numbered) (w : List LexKind) (n i j : ℕ) (leaf : PlainTree) (gr : Growth) (s : IsSpine g w n i j leaf gr) → FitsLeaf g w i s.production s.alternative s.ends
leaf_fits g w n i j leaf gr s = elim s.fits [ inl x ↦ inl (x.1, x.2) | inr x ↦ inr (x.0, x.1, x.4, x.5, (x.2, x.6)) ]

module _ (g : Numbered) (w : List LexKind) (root : Spot) (one : (p : Spot) → Reached g w root p → HasOneChoice g w p) where
  mutual
    pub one_tree : (z n i j : ℕ) → Reached g w root (Spanning n i j) → (t u : PlainTree) → tree_size t ≤ z → IsTree g w n i j t → IsTree g w n i j u → t ≡ u
    one_tree zero n i j at (Node p a ps _ _) u le x y = absurd (omega (arith, le))
    one_tree (suc z) n i j at t u le x y =
        let s = has_spine g w n j n i j t Stay x (refl, refl) in
        let r = has_spine g w n j n i j u Stay y (refl, refl) in
        let size = spine_size t Stay in
        let a : PlainTree = leaf_of t Stay in
        let b : PlainTree = leaf_of u Stay in
        let gr : Growth = growth_of t Stay in
        let hr : Growth = growth_of u Stay in
        let c = one (Spanning n i j) at s.production s.alternative s.ends r.production r.alternative r.ends (leaf_fits g w n i j a gr s) (gr, s.grows) (leaf_fits g w n i j b hr r) (hr, r.grows) in
        let whole : tree_size a ≡ 1 + pieces_size s.pieces = ap tree_size s.leaf_is in
        let hg : IsGrowth g w n j s.production s.ends hr = rw c.0 (rw c.2 r.grows) in
        let grown : gr ≡ hr = one_growth z s.production s.ends n j (Leafed s.production s.alternative s.ends at (leaf_fits g w n i j a gr s)) gr hr (omega (arith, le, size, whole)) s.grows hg in
        let leaves : s.pieces ≡ r.pieces = one_leaf z n i j at s.production s.alternative s.ends (gr, s.grows) s.pieces r.pieces (omega (arith, le, size, whole)) s.fits (rw c.0 (rw c.1 (rw c.2 r.fits))) in
        let same : a ≡ b = s.leaf_is ∙ ap (λ p. Node p s.alternative s.pieces i s.ends) c.0 ∙ ap (λ q. Node r.production q s.pieces i s.ends) c.1 ∙ ap (λ q. Node r.production r.alternative q i s.ends) leaves ∙ ap (λ q. Node r.production r.alternative r.pieces i q) c.2 ∙ sym r.leaf_is in
        sym (spine_plug g w n i j t Stay x) ∙ ap (λ q. plug i q gr) same ∙ ap (plug i b) grown ∙ spine_plug g w n i j u Stay y

    pub one_leaf : (z n i j : ℕ) → Reached g w root (Spanning n i j) → (b a k : ℕ) → CanGrow g w n j b k → (ps qs : Pieces) → pieces_size ps ≤ z
        → ((ps ≡ End) × (alternative_of g b a ≡ Some []) × (k ≡ i)) ⊎ ((c : LexKind) × (rest : Alternative) × (us : Pieces) × (ps ≡ Lexeme i us) × (alternative_of g b a ≡ Some (Word c ∷ rest)) × (slice_get w i ≡ Some c) × ArePieces g w rest (i + 1) k us)
        → ((qs ≡ End) × (alternative_of g b a ≡ Some []) × (k ≡ i)) ⊎ ((c : LexKind) × (rest : Alternative) × (us : Pieces) × (qs ≡ Lexeme i us) × (alternative_of g b a ≡ Some (Word c ∷ rest)) × (slice_get w i ≡ Some c) × ArePieces g w rest (i + 1) k us)
        → ps ≡ qs
    one_leaf z n i j at b a k can ps qs le (inl x) (inl y) = x.0 ∙ sym y.0
    one_leaf z n i j at b a k can ps qs le (inl x) (inr y) = let e : Some [] ≡ Some (Word y.0 ∷ y.1) = sym x.1 ∙ y.4 in absurd (cc)
    one_leaf z n i j at b a k can ps qs le (inr x) (inl y) = let e : Some [] ≡ Some (Word x.0 ∷ x.1) = sym y.1 ∙ x.4 in absurd (cc)
    one_leaf zero n i j at b a k can ps qs le (inr x) (inr y) = let size : pieces_size ps ≡ 1 + pieces_size x.2 = ap pieces_size x.3 in absurd (omega (arith, le, size))
    one_leaf (suc z) n i j at b a k can ps qs le (inr x) (inr y) =
        let e : Some (Word x.0 ∷ x.1) ≡ Some (Word y.0 ∷ y.1) = sym x.4 ∙ y.4 in
        let f : x.1 ≡ y.1 = cc in
        let size : pieces_size ps ≡ 1 + pieces_size x.2 = ap pieces_size x.3 in
        let d : x.2 ≡ y.2 = one_pieces z x.1 (i + 1) k (Begun b a k x.0 x.1 at x.4 x.5 can) x.2 y.2 (omega (arith, le, size)) x.6 (rw f y.6) in
        x.3 ∙ ap (λ us. Lexeme i us) d ∙ sym y.3

    pub one_growth : (z c k n j : ℕ) → Reached g w root (Growing c k n j) → (gr hr : Growth) → growth_size gr ≤ z → IsGrowth g w n j c k gr → IsGrowth g w n j c k hr → gr ≡ hr
    one_growth z c k n j at Stay Stay le x y = refl
    one_growth z c k n j at Stay (Step m a ps l more) le x y = absurd ((one (Growing c k n j) at).1 m a l x.0 x.1 (y.0, y.1, (ps, y.2)) (more, y.3))
    one_growth z c k n j at (Step m a ps l more) Stay le x y = absurd ((one (Growing c k n j) at).1 m a l y.0 y.1 (x.0, x.1, (ps, x.2)) (more, x.3))
    one_growth zero c k n j at (Step m a ps l more) (Step p b qs h rest) le x y = absurd (omega (arith, le))
    one_growth (suc z) c k n j at (Step m a ps l more) (Step p b qs h rest) le x y =
        let d = (one (Growing c k n j) at).0 m a l p b h (x.0, x.1, (ps, x.2)) (more, x.3) (y.0, y.1, (qs, y.2)) (rest, y.3) in
        let e : Some (Phrase c ∷ x.0) ≡ Some (Phrase c ∷ y.0) = sym x.1 ∙ ap (λ q. alternative_of g q a) d.0 ∙ ap (alternative_of g p) d.1 ∙ y.1 in
        let f : x.0 ≡ y.0 = cc in
        let yp : ArePieces g w x.0 k l qs = rw f (rw d.2 y.2) in
        let yg : IsGrowth g w n j m l rest = rw d.0 (rw d.2 y.3) in
        let pieces : ps ≡ qs = one_pieces z x.0 k l (Followed m a l x.0 at x.1 (more, x.3)) ps qs (omega (arith, le)) x.2 yp in
        let grown : more ≡ rest = one_growth z m l n j (Grown m a l at (x.0, x.1, (ps, x.2))) more rest (omega (arith, le)) x.3 yg in
        ap (λ q. Step q a ps l more) d.0 ∙ ap (λ q. Step p q ps l more) d.1 ∙ ap (λ q. Step p b q l more) pieces ∙ ap (λ q. Step p b qs q more) d.2 ∙ ap (Step p b qs h) grown

    pub one_pieces : (z : ℕ) (qs : Alternative) (k l : ℕ) → Reached g w root (Parts qs k l) → (t u : Pieces) → pieces_size t ≤ z → ArePieces g w qs k l t → ArePieces g w qs k l u → t ≡ u
    one_pieces z qs k l at End End le x y = refl
    one_pieces z qs k l at End (Lexeme _ _) le x y = cc
    one_pieces z qs k l at End (Under _ _) le x y = cc
    one_pieces z qs k l at (Lexeme _ _) End le x y = cc
    one_pieces zero qs k l at (Lexeme p ps) (Lexeme q rs) le x y = absurd (omega (arith, le))
    one_pieces (suc z) qs k l at (Lexeme p ps) (Lexeme q rs) le x y =
        let e : x.2 ≡ y.2 = cc in
        let here : Reached g w root (Parts (Word y.1 ∷ y.2) k l) = rw y.3 at at in
        let d : ps ≡ rs = one_pieces z y.2 (k + 1) l (Read y.1 y.2 here y.4) ps rs (omega (arith, le)) (rw e at x.5) y.5 in
        let c : p ≡ q = x.0 ∙ sym y.0 in
        cc
    one_pieces z qs k l at (Lexeme _ _) (Under _ _) le x y = cc
    one_pieces z qs k l at (Under _ _) End le x y = cc
    one_pieces z qs k l at (Under _ _) (Lexeme _ _) le x y = cc
    one_pieces zero qs k l at (Under t ps) (Under u rs) le x y = absurd (omega (arith, le))
    one_pieces (suc z) qs k l at (Under t ps) (Under u rs) le x y =
        let m : x.0 ≡ y.0 = cc in
        let e : x.1 ≡ y.1 = cc in
        let here : Reached g w root (Parts (Phrase y.0 ∷ y.1) k l) = rw y.3 at at in
        let xt : IsTree g w y.0 k x.2 t = rw m at x.4 in
        let xs : ArePieces g w y.1 x.2 l ps = rw e at x.5 in
        let h : x.2 ≡ y.2 = one (Parts (Phrase y.0 ∷ y.1) k l) here x.2 y.2 ((t, xt), (ps, xs)) ((u, y.4), (rs, y.5)) in
        let d : t ≡ u = one_tree z y.0 k y.2 (First y.0 y.1 y.2 here (rs, y.5)) t u (omega (arith, le)) (rw h at xt) y.4 in
        let c : ps ≡ rs = one_pieces z y.1 y.2 l (Rest y.0 y.1 y.2 here (u, y.4)) ps rs (omega (arith, le)) (rw h at xs) y.5 in
        cc
