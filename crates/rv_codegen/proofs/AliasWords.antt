-- The words of nodes, and where a part finds and leaves its data: among the words of its node, or in its own.
use Rattle.std.proofs.Common.{◌≡◌, ◌≢◌, ◌⊎◌, ℕ, zero, suc, ◌+◌, ◌<◌, false, List, [], ◌∷◌, ◌++◌, length, take, drop, refl, sym, ap, subst, ◌∙◌, arith, inl, inr, append_assoc}
use Rattle.std.specs.Prelude.{nat_eq}
use Rattle.std.specs.List.{AllPairs, range_with_len}
use Rattle.std.proofs.lemmas.Bool.{eq-eqb}
use Rattle.std.proofs.lemmas.List.{append-nil, take-append-drop}
use Rattle.action_terms.specs.Actions.{AndThen, Before, Both, Branch, Either, Furthermore, Hence, Node, Phases, Then, Trapping}
use Rattle.action_terms.specs.Performances.{OneOf, Here}
use Rattle.sort_rules.specs.Procedures.{parts_at}
use Rattle.sort_rules.proofs.ActionNumbers.{one_of-first, one_of-second}
use Rattle.sort_rules.proofs.Choices.{either, eq_of_test, member_cases, of_choice}
use Rattle.frame_layout.specs.Places.{PlacedNode, blocks, record_words, words_of}
use Rattle.frame_layout.specs.Layouts.{AreApart, AreConsecutive}
use Rattle.frame_layout.proofs.Words.{range-member}
use Rattle.rv_codegen.specs.Aliases.{IsOwn, back_places, front_places, given_in, of_part, out_in, whole_places}

-- ---- the words of a node

pub own-word : (n : PlacedNode) (x : ℕ) → IsOwn n x → OneOf x (words_of n)
own-word n x m = one_of-second n.data_in _ x (one_of-second n.binds_in _ x (either
    (one_of-first n.data_out _ x)
    (λ m. one_of-second n.data_out _ x (either
    (one_of-first n.binds_out _ x)
    (λ m. one_of-second n.binds_out _ x (either
    (one_of-first n.escaped _ x)
    (λ m. one_of-second n.escaped _ x (one_of-first (record_words n.keep) [] x m)) m)) m)) m))

pub in-word : (n : PlacedNode) (x : ℕ) → OneOf x n.data_in → OneOf x (words_of n)
in-word n x m = one_of-first n.data_in _ x m

pub in-not_own : (n : PlacedNode) → AllPairs AreApart (blocks n) → (x : ℕ) → OneOf x n.data_in → IsOwn n x → ⊥
in-not_own n h x m own = either (h 0 2 [] (omega arith) (omega arith) x m)
    (λ own. either (h 0 3 [] (omega arith) (omega arith) x m)
    (λ own. either (h 0 4 [] (omega arith) (omega arith) x m) (h 0 5 [] (omega arith) (omega arith) x m) own) own) own

pub out-not_record : (n : PlacedNode) → AllPairs AreApart (blocks n) → (x : ℕ) → OneOf x n.data_out → OneOf x (record_words n.keep) → ⊥
out-not_record n h x m = h 2 5 [] (omega arith) (omega arith) x m

-- what stands in front in a row is before what stands behind
row-parted : (a n : ℕ) (us vs : List ℕ) (y z : ℕ) → range_with_len a n ≡ us ++ vs → OneOf y us → OneOf z vs → y < z
row-parted a n [] vs y z e m k = elim m [ ]
row-parted a zero (u ∷ us) vs y z e m k = absurd {0} (cc)
row-parted a (suc n) (u ∷ us) vs y z e m k =
    let rest : range_with_len (a + 1) n ≡ us ++ vs = cc in
    let first : a ≡ u = cc in
    let later : OneOf z (range_with_len (a + 1) n) = subst (OneOf z) (sym rest) (one_of-second us vs z k) in
    either (λ same. omega (arith, same, first, (range-member (a + 1) n z later).0)) (λ m. row-parted (a + 1) n us vs y z rest m k) (member_cases m)

-- each word once
abbrev pub IsOnce : List ℕ → Type 0
IsOnce xs = (us vs : List ℕ) (x : ℕ) → xs ≡ us ++ vs → OneOf x us → OneOf x vs → ⊥

pub run-once : (xs : List ℕ) → AreConsecutive xs → IsOnce xs
run-once xs h us vs x e m k = omega (arith, row-parted h.0 (length xs) us vs x x (sym h.1 ∙ e) m k)

-- ---- places from the node

-- some of the words, in a row
pub record IsPiece (whole piece : List ℕ) : Type 0 where
  pub front : List ℕ
  pub back : List ℕ
  pub is : whole ≡ front ++ (piece ++ back)

all-piece : (xs : List ℕ) → IsPiece xs xs
all-piece xs = record { front = []; back = []; is = sym (append-nil xs) }

front-piece : (n : ℕ) (xs : List ℕ) → IsPiece xs (take n xs)
front-piece n xs = record { front = []; back = drop n xs; is = sym (take-append-drop n xs) }

back-piece : (n : ℕ) (xs : List ℕ) → IsPiece xs (drop n xs)
back-piece n xs = record { front = take n xs; back = []; is = sym (take-append-drop n xs) ∙ ap (λ (ys : List ℕ). take n xs ++ ys) (sym (append-nil (drop n xs))) }

pub piece-member : (whole piece : List ℕ) (x : ℕ) → IsPiece whole piece → OneOf x piece → OneOf x whole
piece-member whole piece x p m = subst (OneOf x) (sym p.is) (one_of-second p.front (piece ++ p.back) x (one_of-first piece p.back x m))

pub piece-once : (whole piece : List ℕ) → IsPiece whole piece → IsOnce whole → IsOnce piece
piece-once whole piece p once us vs x e m k =
    once (p.front ++ us) (vs ++ p.back) x
    (p.is ∙ ap (λ (ys : List ℕ). p.front ++ (ys ++ p.back)) e ∙ ap (λ (ys : List ℕ). p.front ++ ys) (append_assoc us vs p.back) ∙ sym (append_assoc p.front us (vs ++ p.back)))
    (one_of-second p.front us x m) (one_of-first vs p.back x k)

-- either its own words, or a piece of those of its node
abbrev pub IsOwnOrPiece : (own whole piece : List ℕ) → Type 0
IsOwnOrPiece own whole piece = (piece ≡ own) ⊎ IsPiece whole piece

pub whole-places : (own os : List ℕ) → IsOwnOrPiece own os (whole_places own os)
whole-places own os = of_choice (nat_eq (length own) (length os)) os own (IsOwnOrPiece own os) (λ e. inr (all-piece os)) (λ e. inl refl)

front-places : (first second os : List ℕ) → IsOwnOrPiece first os (front_places first second os)
front-places first second os = of_choice (nat_eq (length first + length second) (length os)) (take (length first) os) first (IsOwnOrPiece first os) (λ e. inr (front-piece (length first) os)) (λ e. inl refl)

back-places : (first second os : List ℕ) → IsOwnOrPiece second os (back_places first second os)
back-places first second os = of_choice (nat_eq (length first + length second) (length os)) (drop (length first) os) second (IsOwnOrPiece second os) (λ e. inr (back-piece (length first) os)) (λ e. inl refl)

-- of two parts
second-part : (l r k : ℕ) → OneOf k (l ∷ r ∷ []) → nat_eq k l ≡ false → k ≡ r
second-part l r k m e = either (λ same. absurd {0} (let found = eq-eqb k l same in cc)) (λ m. either (λ same. same) (λ none. elim none [ ]) (member_cases m)) (member_cases m)

pub of-part : (l r k : ℕ) (P : List ℕ → Type 0) (x y : List ℕ) → OneOf k (l ∷ r ∷ []) → (k ≡ l → P x) → (k ≡ r → P y) → P (of_part l k x y)
of-part l r k P x y m f g = of_choice (nat_eq k l) x y P (λ e. f (eq_of_test k l e)) (λ e. g (second-part l r k m e))

module _ (p : ℕ → PlacedNode) where
  abbrev IsOf : (k : ℕ) (os piece : List ℕ) → Type 0
  IsOf k os piece = IsOwnOrPiece (p k).data_out os piece

  both-out : (l r k : ℕ) (os : List ℕ) → OneOf k (l ∷ r ∷ []) → IsOf k os (of_part l k (front_places (p l).data_out (p r).data_out os) (back_places (p l).data_out (p r).data_out os))
  both-out l r k os m = of-part l r k (IsOf k os) _ _ m
      (λ e. subst (λ i. IsOf i os (front_places (p l).data_out (p r).data_out os)) (sym e) (front-places (p l).data_out (p r).data_out os))
      (λ e. subst (λ i. IsOf i os (back_places (p l).data_out (p r).data_out os)) (sym e) (back-places (p l).data_out (p r).data_out os))

  pub part-out : (n : Node) (os : List ℕ) (k : ℕ) → OneOf k (parts_at n) → IsOf k os (out_in p n os k)
  part-out (Both j l r) os k m = both-out l r k os m
  part-out (Phases Then l r) os k m = of-part l r k (IsOf k os) _ _ m
      (λ e. inl (ap (λ i. (p i).data_out) (sym e)))
      (λ e. subst (λ i. IsOf i os (whole_places (p r).data_out os)) (sym e) (whole-places (p r).data_out os))
  part-out (Phases AndThen l r) os k m = both-out l r k os m
  part-out (Phases Hence l r) os k m = both-out l r k os m
  part-out (Phases Before l r) os k m = both-out l r k os m
  part-out (Either l r) os k m = whole-places (p k).data_out os
  part-out (Trapping l r) os k m = whole-places (p k).data_out os
  part-out (Branch y l r) os k m = whole-places (p k).data_out os
  part-out (Furthermore l) os k m = whole-places (p k).data_out os
  part-out _ os k m = elim m [ ]

  -- a part finds its data where its node does, or among the words of the part before it
  pub record FromSibling (n : Node) (k : ℕ) (gs : List ℕ) : Type 0 where
    pub sibling : ℕ
    pub part : OneOf sibling (parts_at n)
    pub other : sibling ≢ k
    pub words : (x : ℕ) → OneOf x gs → IsOwn (p sibling) x

  of_sibling : (n : Node) (l k : ℕ) (gs xs : List ℕ) → OneOf l (parts_at n) → ((x : ℕ) → OneOf x xs → IsOwn (p l) x) → (of_part l k gs xs ≡ gs) ⊎ FromSibling n k (of_part l k gs xs)
  of_sibling n l k gs xs part words = of_choice (nat_eq k l) gs xs (λ ys. (ys ≡ gs) ⊎ FromSibling n k ys)
      (λ e. inl refl) (λ e. inr (record { sibling = l; part = part; other = λ same. absurd {0} (let found = eq-eqb k l (sym same) in cc); words = words }))

  pub part-given : (n : Node) (gs : List ℕ) (k : ℕ) → (given_in p n gs k ≡ gs) ⊎ FromSibling n k (given_in p n gs k)
  part-given (Phases Then l r) gs k = of_sibling (Phases Then l r) l k gs (p l).data_out Here (λ x m. inl m)
  part-given (Trapping l r) gs k = of_sibling (Trapping l r) l k gs (p l).escaped Here (λ x m. inr (inr (inl m)))
  part-given (Phases AndThen l r) gs k = inl refl
  part-given (Phases Hence l r) gs k = inl refl
  part-given (Phases Before l r) gs k = inl refl
  part-given _ gs k = inl refl
