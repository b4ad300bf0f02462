-- A handler copies what an escape has left to its own words, and reads each word before it writes another over it: the data stand in other words than the handler's, or in the very same.
use Rattle.std.proofs.Common.{◌≡◌, ◌≢◌, ◌⊎◌, ⊎_elim, ℕ, zero, suc, ◌+◌, ◌<◌, ◌≤◌, List, [], ◌∷◌, length, get_or, refl, sym, subst, arith, inl, inr}
use Rattle.std.proofs.lemmas.Bool.{cases_lt}
use Rattle.std.proofs.lemmas.Bool.Decides.{eqb_tells}
use Rattle.action_terms.specs.Actions.{Action, Trapping, node_at}
use Rattle.action_terms.specs.Performances.{OneOf, Here, Later}
use Rattle.sort_rules.specs.Procedures.{parts_at, procedure_of}
use Rattle.sort_rules.proofs.Choices.{either}
use Rattle.frame_layout.specs.Places.{PlacedNode}
use Rattle.frame_layout.specs.Layouts.{AreConsecutive, Deeper, IsIn, Itself}
use Rattle.frame_layout.proofs.GraphParts.{HasTrees}
use Rattle.frame_layout.proofs.ProcedureRoots.{whole-is}
use Rattle.rv_codegen.specs.Aliases.{IsOwn, given_in, given_of}
use Rattle.rv_codegen.proofs.AliasPlaces.{HasOwnWords, given-apart, given-within}
use Rattle.rv_codegen.proofs.AliasRows.{row-of}
use Rattle.rv_codegen.proofs.AliasRules.{trapping-given_right}
use Rattle.rv_codegen.proofs.AliasSettings.{placed}
use Rattle.rv_codegen.proofs.AliasSteps.{handed-part}
use Rattle.rv_codegen.proofs.AliasWords.{FromSibling, own-word, part-given}
use Rattle.rv_codegen.proofs.Holding.{in_row}
use Rattle.rv_codegen.proofs.Pointing.{first_of}
use Rattle.rv_codegen.proofs.RestPoints.{MayBeCaught}
use Rattle.rv_codegen.proofs.Settings.{Setting}
use Rattle.rv_codegen.proofs.Subtrees.{in-procedure, not-up}

-- ---- rows

-- the words of a row, from the first on
pub in-row_member : (first n x : ℕ) → first ≤ x → x < first + n → OneOf x (in_row first n)
in-row_member first zero x low less = absurd (omega arith)
in-row_member first (suc n) x low less = ⊎_elim
    (λ (later : first < x). Later (in-row_member (first + 1) n x (omega arith) (omega arith)))
    (λ (here : x ≤ first). let same : first ≡ x = omega arith in subst (λ z. OneOf z (in_row first (suc n))) same Here)
    (cases_lt first x)

-- words that are read one after another before those of a row are written
abbrev pub AreReadFirst : (offset n : ℕ) → (targets : List ℕ) → Type 0
AreReadFirst offset n targets = (get_or targets 0 0 ≤ offset) ⊎ (offset + n ≤ get_or targets 0 0)

read-first : (xs ys : List ℕ) → xs ≡ in_row (get_or xs 0 0) (length xs) → ((z : ℕ) → OneOf z xs → OneOf z ys → ⊥) → AreReadFirst (get_or xs 0 0) (length xs) ys
read-first xs [] row apart = inl (omega arith)
read-first xs (y ∷ ys) row apart = ⊎_elim
    (λ (less : get_or xs 0 0 < y). ⊎_elim
    (λ (within : y < get_or xs 0 0 + length xs). absurd (apart y (subst (OneOf y) (sym row) (in-row_member (get_or xs 0 0) (length xs) y (omega arith) within)) Here))
    (λ (past : get_or xs 0 0 + length xs ≤ y). inr past)
    (cases_lt y (get_or xs 0 0 + length xs)))
    (λ (low : y ≤ get_or xs 0 0). inl low)
    (cases_lt (get_or xs 0 0) y)

-- words in a row that are all below a bound
pub row-inside : (os : List ℕ) (bound : ℕ) → os ≡ in_row (get_or os 0 0) (length os) → ((o : ℕ) → OneOf o os → o < bound) → get_or os 0 0 + length os ≤ bound
row-inside [] bound row low = omega arith
row-inside (o ∷ os) bound row low =
    let last = low (o + length os) (subst (OneOf (o + length os)) (sym row) (in-row_member o (suc (length os)) (o + length os) (omega arith) (omega arith))) in
    omega (arith, last)

first-first : (os : List ℕ) → get_or os 0 0 ≡ first_of os
first-first [] = refl
first-first (o ∷ os) = refl

module _ (a : Action) (trees : HasTrees a) (p : ℕ → PlacedNode) (words : ℕ → ℕ) (own : HasOwnWords a p words) where
  abbrev givens : ℕ → List ℕ
  givens k = given_of p a k

  -- the word belongs to another node in node l
  record Beneath (l x : ℕ) : Type 0 where
    owner : ℕ
    there : owner < length a
    inside : IsIn a l owner
    other : owner ≢ l
    word : IsOwn (p owner) x

  from-part : (l i : ℕ) → OneOf i (parts_at (node_at a l)) → (x : ℕ) → OneOf x (givens i) → OneOf x (givens l) ⊎ Beneath l x
  from-part l i part x m =
      let e : givens i ≡ given_in p (node_at a l) (givens l) i = handed-part a trees (given_in p) (λ j. (p j).data_in) i l (whole-is a trees i l part) in
      let from : (givens i ≡ givens l) ⊎ FromSibling p (node_at a l) i (givens i) = subst (λ gs. (gs ≡ givens l) ⊎ FromSibling p (node_at a l) i gs) (sym e) (part-given p (node_at a l) (givens l) i) in
      either
      (λ same. inl (subst (OneOf x) same m))
      (λ f. inr (record { owner = f.sibling; there = trees.within l f.sibling f.part; inside = Deeper f.part Itself; other = λ q. not-up a trees l f.sibling f.part (subst (IsIn a f.sibling) q Itself); word = f.words x m }))
      from

  -- what a node finds is what a node around it finds, or stands in words of another node in that one
  given-beneath : (l k : ℕ) → IsIn a l k → (x : ℕ) → OneOf x (givens k) → OneOf x (givens l) ⊎ Beneath l x
  given-beneath l _ Itself x m = inl m
  given-beneath l k (Deeper {i} part rest) x m = either
      (λ g. from-part l i part x g)
      (λ b. inr (record { owner = b.owner; there = b.there; inside = Deeper part b.inside; other = λ q. not-up a trees l i part (subst (IsIn a i) q b.inside); word = b.word }))
      (given-beneath i k rest x m)

  -- it isn't a word of what the outer one escapes with
  given-other : (l k x : ℕ) → l < length a → IsIn a l k → OneOf x (givens k) → OneOf x (p l).escaped → ⊥
  given-other l k x within inside g m = either
      (λ here. given-apart a trees p words own l x here (inl (l, within, Itself, inr (inr (inl m)))))
      (λ b. b.other (own.apart b.owner l x b.there within (in-procedure a trees l b.owner b.inside) (own-word (p b.owner) x b.word) (own-word (p l) x (inr (inr (inl m))))))
      (given-beneath l k inside x g)

  escaped-other : (l k x : ℕ) → l < length a → k < length a → k ≢ l → IsIn a l k → OneOf x (p k).escaped → OneOf x (p l).escaped → ⊥
  escaped-other l k x within there other inside g m =
      other (own.apart k l x there within (in-procedure a trees l k inside) (own-word (p k) x (inr (inr (inl g)))) (own-word (p l) x (inr (inr (inl m)))))

module _ (s : Setting) (trees : HasTrees s.action) (p : ℕ → PlacedNode) (words : ℕ → ℕ) (own : HasOwnWords s.action p words) where
  abbrev at : Setting
  at = placed s trees p words own

  -- what stands where a handler finds its data, by the words that the first part has for what it escapes with
  at-handler : (offset n m l r : ℕ) → node_at s.action m ≡ Trapping l r → AreReadFirst offset n (p l).escaped → AreReadFirst offset n (given_of p s.action r)
  at-handler offset n m l r e h = subst (AreReadFirst offset n) (sym (trapping-given_right s.action trees p m l r e)) h

  first-within : (m l r : ℕ) → node_at s.action m ≡ Trapping l r → l < length s.action
  first-within m l r e = trees.within m l (subst (λ n. OneOf l (parts_at n)) (sym e) Here)

  -- so it is where a node escapes with what it is given
  pub given-caught : ((j : ℕ) → given_of p s.action j ≡ in_row (get_or (given_of p s.action j) 0 0) (length (given_of p s.action j))) → (k : ℕ) → k < length s.action → MayBeCaught at k (get_or (given_of p s.action k) 0 0) (length (given_of p s.action k))
  given-caught row k there = record {
    inside = row-inside (given_of p s.action k) (words (procedure_of s.action k)) (row k) (λ o m. (given-within s.action trees p words own k o there m).1);
    read = λ m l r e inside.
        at-handler (get_or (given_of p s.action k) 0 0) (length (given_of p s.action k)) m l r e
        (read-first (given_of p s.action k) (p l).escaped (row k) (λ z g h. given-other s.action trees p words own l k z (first-within m l r e) inside g h));
  }

  -- and where it escapes with data in words of its own
  pub escaped-caught : ((j : ℕ) → j < length s.action → AreConsecutive (p j).escaped) → (k : ℕ) → k < length s.action → MayBeCaught at k (first_of (p k).escaped) (length (p k).escaped)
  escaped-caught row k there =
      let xs = (p k).escaped in
      let ordered = row-of xs (row k there) in
      record {
        inside = subst (λ o. o + length xs ≤ words (procedure_of s.action k)) (first-first xs) (row-inside xs (words (procedure_of s.action k)) ordered (λ o m. (own.within k o there (own-word (p k) o (inr (inr (inl m))))).1));
        read = λ m l r e inside.
            at-handler (first_of xs) (length xs) m l r e
            (elim (eqb_tells k l) [
              | inl same ↦ inl (subst (λ j. get_or (p j).escaped 0 0 ≤ first_of xs) same.1 (let q = first-first xs in omega (arith, q)))
              | inr other ↦ subst (λ o. AreReadFirst o (length xs) (p l).escaped) (first-first xs) (read-first xs (p l).escaped ordered (λ z g h. escaped-other s.action trees p words own l k z (first-within m l r e) there other.1 inside g h))
            ]);
      }
