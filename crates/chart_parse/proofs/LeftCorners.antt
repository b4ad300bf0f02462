-- A tree is its first leaf and what that grows into: what follows the rules is there, and what is closed under them has each tree.
use Rattle.std.proofs.Common.{◌≡◌, ℕ, ◌+◌, ◌≤◌, List, [], ◌∷◌, length, slice_get, Some, refl, sym, arith}
use Rattle.std.proofs.lemmas.Option.{slice_get_within}
use Rattle.gram_form.specs.Trees.{PlainTree, Node, Pieces, End, Lexeme, Under}
use Rattle.source_lex.specs.Numbered.{Alternative, Numbered, alternative_of}
use Rattle.source_lex.specs.Trees.{IsTree, ArePieces, Has}
use Rattle.source_lex.specs.declared.numbered.Symbol.TheVariants.{Word, Phrase}
use Rattle.source_lex.specs.declared.lexeme.LexKind.{LexKind}
use Rattle.chart_parse.specs.Growths.{HasPieces, Grows, Stays, Steps}

-- a phrase and what it grows into
pub grown : (g : Numbered) (w : List LexKind) (n j c k i : ℕ) → Grows g w n j c k → Has g w c i k → Has g w n i j
grown g w n j c k i Stays h = h
grown g w n j c k i (Steps m a rest l e ps more) h =
    grown g w n j m l i more (Node m a (Under h.0 ps.0) i l, (refl, refl, refl, Phrase c ∷ rest, e, (c, rest, k, refl, h.1, ps.1)))

pub word_pieces : (g : Numbered) (w : List LexKind) (c : LexKind) (rest : Alternative) (k l : ℕ) → slice_get w k ≡ Some c → HasPieces g w rest (k + 1) l → HasPieces g w (Word c ∷ rest) k l
word_pieces g w c rest k l e h = (Lexeme k h.0, (refl, c, rest, refl, e, h.1))

pub phrase_pieces : (g : Numbered) (w : List LexKind) (m : ℕ) (rest : Alternative) (k h l : ℕ) → Has g w m k h → HasPieces g w rest h l → HasPieces g w (Phrase m ∷ rest) k l
phrase_pieces g w m rest k h l t ps = (Under t.0 ps.0, (m, rest, h, refl, t.1, ps.1))

-- the pieces of an alternative of b make a tree of b, and what that grows into
pub leaf_there : (g : Numbered) (w : List LexKind) (b a i : ℕ) (parts : Alternative) (l n j : ℕ) → alternative_of g b a ≡ Some parts → HasPieces g w parts i l → Grows g w n j b l → Has g w n i j
leaf_there g w b a i parts l n j e ps more = grown g w n j b l i more (Node b a ps.0 i l, (refl, refl, refl, parts, e, ps.1))

mutual
  -- a tree ends where it begins, or behind
  pub tree_order : (g : Numbered) (w : List LexKind) (n i j : ℕ) (t : PlainTree) → IsTree g w n i j t → i ≤ j
  tree_order g w n i j (Node m a ps s e) x = pieces_order g w x.3 i j ps x.5

  pub pieces_order : (g : Numbered) (w : List LexKind) (parts : Alternative) (i j : ℕ) (ps : Pieces) → ArePieces g w parts i j ps → i ≤ j
  pieces_order g w parts i j End x = omega (arith, x.1)
  pieces_order g w parts i j (Lexeme p ps) x = omega (arith, pieces_order g w x.2 (i + 1) j ps x.5)
  pieces_order g w parts i j (Under t ps) x = omega (arith, tree_order g w x.0 i x.2 t x.4, pieces_order g w x.1 x.2 j ps x.5)

mutual
  -- a tree ends within the lexemes
  pub tree_within : (g : Numbered) (w : List LexKind) (n i j : ℕ) (t : PlainTree) → i ≤ length w → IsTree g w n i j t → j ≤ length w
  tree_within g w n i j (Node m a ps s e) le x = pieces_within g w x.3 i j ps le x.5

  pub pieces_within : (g : Numbered) (w : List LexKind) (parts : Alternative) (i j : ℕ) (ps : Pieces) → i ≤ length w → ArePieces g w parts i j ps → j ≤ length w
  pieces_within g w parts i j End le x = omega (arith, x.1)
  pieces_within g w parts i j (Lexeme p ps) le x = pieces_within g w x.2 (i + 1) j ps (omega (arith, slice_get_within w i x.1 x.4)) x.5
  pieces_within g w parts i j (Under t ps) le x = pieces_within g w x.1 x.2 j ps (tree_within g w x.0 i x.2 t le x.4) x.5

-- what is marked is closed: nonterminals over spans (E n i j), growths (G c k n j), and parts over spans (P qs k l)
pub record Closed (g : Numbered) (w : List LexKind) (E : ℕ → ℕ → ℕ → Type 0) (G : ℕ → ℕ → ℕ → ℕ → Type 0) (P : Alternative → ℕ → ℕ → Type 0) : Type 0 where
  pub no_parts : (k : ℕ) → P [] k k
  pub word : (c : LexKind) (rest : Alternative) (k l : ℕ) → slice_get w k ≡ Some c → P rest (k + 1) l → P (Word c ∷ rest) k l
  pub phrase : (m : ℕ) (rest : Alternative) (k h l : ℕ) → E m k h → P rest h l → P (Phrase m ∷ rest) k l
  pub stays : (n j : ℕ) → G n j n j
  pub steps : (c k m a : ℕ) (rest : Alternative) (l n j : ℕ) → alternative_of g m a ≡ Some (Phrase c ∷ rest) → P rest k l → G m l n j → G c k n j
  pub from_nothing : (b a i n j : ℕ) → alternative_of g b a ≡ Some [] → G b i n j → E n i j
  pub from_word : (b a i : ℕ) (c : LexKind) (rest : Alternative) (l n j : ℕ) → alternative_of g b a ≡ Some (Word c ∷ rest) → slice_get w i ≡ Some c → P rest (i + 1) l → G b l n j → E n i j

-- what a tree grows into is marked over its start
module _ (g : Numbered) (w : List LexKind) (E : ℕ → ℕ → ℕ → Type 0) (G : ℕ → ℕ → ℕ → ℕ → Type 0) (P : Alternative → ℕ → ℕ → Type 0) (closed : Closed g w E G P) where
  mutual
    grows_marked : (c i k : ℕ) (t : PlainTree) → IsTree g w c i k t → (n j : ℕ) → G c k n j → E n i j
    grows_marked c i k (Node m a End s f) x n j more =
        let e : alternative_of g c a ≡ Some [] = rw x.5.0 at x.4 in
        let here : G c i n j = rw (sym x.5.1) at more in
        closed.from_nothing c a i n j e here
    grows_marked c i k (Node m a (Lexeme p ps) s f) x n j more =
        let y = x.5 in
        let e : alternative_of g c a ≡ Some (Word y.1 ∷ y.2) = rw y.3 at x.4 in
        closed.from_word c a i y.1 y.2 k n j e y.4 (run_marked y.2 (i + 1) k ps y.5) more
    grows_marked c i k (Node m a (Under t ps) s f) x n j more =
        let y = x.5 in
        let e : alternative_of g c a ≡ Some (Phrase y.0 ∷ y.1) = rw y.3 at x.4 in
        grows_marked y.0 i y.2 t y.4 n j (closed.steps y.0 y.2 c a y.1 k n j e (run_marked y.1 y.2 k ps y.5) more)

    run_marked : (qs : Alternative) (k l : ℕ) (ps : Pieces) → ArePieces g w qs k l ps → P qs k l
    run_marked qs k l End x = rw x.0 (rw (sym x.1) (closed.no_parts k))
    run_marked qs k l (Lexeme p ps) x = rw x.3 (closed.word x.1 x.2 k l x.4 (run_marked x.2 (k + 1) l ps x.5))
    run_marked qs k l (Under t ps) x = rw x.3 (closed.phrase x.0 x.1 k x.2 l (grows_marked x.0 k x.2 t x.4 x.0 x.2 (closed.stays x.0 x.2)) (run_marked x.1 x.2 l ps x.5))

  -- each growth is marked
  pub growth_marked : (n j c k : ℕ) → Grows g w n j c k → G c k n j
  growth_marked n j c k Stays = closed.stays n j
  growth_marked n j c k (Steps m a rest l e ps more) = closed.steps c k m a rest l n j e (run_marked rest k l ps.0 ps.1) (growth_marked n j m l more)

  -- each tree is marked
  pub tree_marked : (n i j : ℕ) (t : PlainTree) → IsTree g w n i j t → E n i j
  tree_marked n i j t x = grows_marked n i j t x n j (closed.stays n j)
