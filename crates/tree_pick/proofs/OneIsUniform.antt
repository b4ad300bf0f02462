-- The only tree is uniform: else the one subtree in the place of the other would make another tree.
use Rattle.std.proofs.Common.{◌≡◌, inl, inr, ℕ, ◌+◌, List, length, sym, subst, ◌∙◌}
use Rattle.gram_form.specs.Trees.{PlainTree, Node, Pieces, End, Lexeme, Under}
use Rattle.source_lex.specs.Numbered.{Alternative, Numbered}
use Rattle.source_lex.specs.Trees.{IsTree, ArePieces, IsOneTree}
use Rattle.source_lex.specs.declared.lexeme.LexKind.{LexKind}
use Rattle.tree_pick.specs.Uniform.{Holds, HoldPieces, HaveSameSpan, IsUniform}

-- the tree is one of what it says of itself
abbrev IsOwnTree : Numbered → List LexKind → PlainTree → Type 0
IsOwnTree g w (Node n a ps i j) = IsTree g w n i j (Node n a ps i j)

own_tree : (g : Numbered) (w : List LexKind) (n i j : ℕ) (t : PlainTree) → IsTree g w n i j t → IsOwnTree g w t
own_tree g w n i j (Node p a ps s e) x =
    subst (λ q. IsTree g w q s e (Node p a ps s e)) (sym x.0) (subst (λ q. IsTree g w n q e (Node p a ps s e)) (sym x.1) (subst (λ q. IsTree g w n i q (Node p a ps s e)) (sym x.2) x))

mutual
  held_tree : (g : Numbered) (w : List LexKind) (n i j : ℕ) (t s : PlainTree) → IsTree g w n i j t → Holds t s → IsOwnTree g w s
  held_tree g w n i j (Node p a ps b e) s x (inl h) = subst (IsOwnTree g w) h (own_tree g w n i j (Node p a ps b e) x)
  held_tree g w n i j (Node p a ps b e) s x (inr h) = held_pieces g w x.3 i j ps s x.5 h

  held_pieces : (g : Numbered) (w : List LexKind) (parts : Alternative) (i j : ℕ) (ps : Pieces) (s : PlainTree) → ArePieces g w parts i j ps → HoldPieces ps s → IsOwnTree g w s
  held_pieces g w parts i j End s x h = absurd h
  held_pieces g w parts i j (Lexeme p ps) s x h = held_pieces g w x.2 (i + 1) j ps s x.5 h
  held_pieces g w parts i j (Under t ps) s x (inl h) = held_tree g w x.0 i x.2 t s x.4 h
  held_pieces g w parts i j (Under t ps) s x (inr h) = held_pieces g w x.1 x.2 j ps s x.5 h

-- a tree of the same span can stand in the place of the first
placed : (g : Numbered) (w : List LexKind) (n i j : ℕ) (s u : PlainTree) → IsTree g w n i j s → IsOwnTree g w u → HaveSameSpan s u → IsTree g w n i j u
placed g w n i j (Node p a ps b e) (Node q c rs d f) x y same =
    let first : q ≡ n = sym same.0 ∙ x.0 in
    let start : d ≡ i = sym same.1 ∙ x.1 in
    let end : f ≡ j = sym same.2 ∙ x.2 in
    let t : PlainTree = Node q c rs d f in
    subst (λ m. IsTree g w m i j t) first (subst (λ m. IsTree g w q m j t) start (subst (λ m. IsTree g w q d m t) end y))

mutual
  swapped : (g : Numbered) (w : List LexKind) (s u : PlainTree) → IsOwnTree g w u → HaveSameSpan s u → (n i j : ℕ) (t : PlainTree) → IsTree g w n i j t → Holds t s
      → (v : PlainTree) × IsTree g w n i j v × (t ≡ v → s ≡ u)
  swapped g w s u y same n i j (Node p a ps b e) x (inl h) =
      (u, placed g w n i j (Node p a ps b e) u x y (subst (λ v. HaveSameSpan v u) (sym h) same), λ z. sym h ∙ z)
  swapped g w s u y same n i j (Node p a ps b e) x (inr h) =
      let r = swapped_pieces g w s u y same x.3 i j ps x.5 h in
      (Node p a r.0 b e, (x.0, x.1, x.2, x.3, x.4, r.1), λ z. r.2 (cc))

  swapped_pieces : (g : Numbered) (w : List LexKind) (s u : PlainTree) → IsOwnTree g w u → HaveSameSpan s u → (parts : Alternative) (i j : ℕ) (ps : Pieces) → ArePieces g w parts i j ps → HoldPieces ps s
      → (vs : Pieces) × ArePieces g w parts i j vs × (ps ≡ vs → s ≡ u)
  swapped_pieces g w s u y same parts i j End x h = absurd h
  swapped_pieces g w s u y same parts i j (Lexeme p ps) x h =
      let r = swapped_pieces g w s u y same x.2 (i + 1) j ps x.5 h in
      (Lexeme p r.0, (x.0, x.1, x.2, x.3, x.4, r.1), λ z. r.2 (cc))
  swapped_pieces g w s u y same parts i j (Under t ps) x (inl h) =
      let r = swapped g w s u y same x.0 i x.2 t x.4 h in
      (Under r.0 ps, (x.0, x.1, x.2, x.3, r.1, x.5), λ z. r.2 (cc))
  swapped_pieces g w s u y same parts i j (Under t ps) x (inr h) =
      let r = swapped_pieces g w s u y same x.1 x.2 j ps x.5 h in
      (Under t r.0, (x.0, x.1, x.2, x.3, x.4, r.1), λ z. r.2 (cc))

-- the only tree is uniform
pub one_is_uniform : (g : Numbered) (w : List LexKind) (t : PlainTree) → IsOneTree g w t → IsUniform t
one_is_uniform g w t one s u hs hu same =
    let r = swapped g w s u (held_tree g w 0 0 (length w) t u one.whole hu) same 0 0 (length w) t one.whole hs in
    r.2 (sym (one.only r.0 r.1))
