-- Where parts share the places of their node, nothing that is still needed is written.
use Rattle.std.proofs.Common.{◌≡◌, ◌≢◌, ◌⊎◌, ℕ, zero, suc, ◌+◌, ◌<◌, ◌≤◌, List, [], ◌++◌, length, refl, sym, ap, subst, ◌∙◌, arith, inl, inr}
use Rattle.std.specs.Prelude.{Option, Some, None}
use Rattle.std.specs.List.{AllPairs}
use Rattle.action_terms.specs.Actions.{Action, node_at}
use Rattle.action_terms.specs.Performances.{OneOf}
use Rattle.sort_rules.specs.Procedures.{parts_at, procedure_of, whole_of}
use Rattle.sort_rules.proofs.ActionNumbers.{node_at-past, one_of-first}
use Rattle.sort_rules.proofs.Choices.{either}
use Rattle.frame_layout.specs.Places.{PlacedNode, blocks, record_words, words_of}
use Rattle.frame_layout.specs.Layouts.{AreApart, AreConsecutive, Deeper, IsIn, Itself, front_words}
use Rattle.frame_layout.proofs.GraphParts.{HasTrees}
use Rattle.frame_layout.proofs.NodeLists.{member-range}
use Rattle.frame_layout.proofs.ProcedureRoots.{procedure-part, whole-is, whole-part}
use Rattle.rv_codegen.specs.Aliases.{IsOwn, MayWrite, given_in, given_of, out_in, out_of}
use Rattle.rv_codegen.proofs.AliasSteps.{handed-part, handed-root}
use Rattle.rv_codegen.proofs.AliasWords.{FromSibling, IsOnce, IsOwnOrPiece, in-not_own, in-word, out-not_record, own-word, part-given, part-out, piece-member, piece-once, run-once}
use Rattle.rv_codegen.proofs.Subtrees.{in-procedure, in-whole, not-up, siblings-apart}

-- what a layout tells of the words of nodes: those of two nodes of a procedure are apart, and so are those of one; all are behind the front of a frame and in it. Past the nodes there are none
pub record HasOwnWords (a : Action) (p : ℕ → PlacedNode) (words : ℕ → ℕ) : Type 0 where
  pub apart : (j k x : ℕ) → j < length a → k < length a → procedure_of a j ≡ procedure_of a k → OneOf x (words_of (p j)) → OneOf x (words_of (p k)) → j ≡ k
  pub blocks_apart : (k : ℕ) → k < length a → AllPairs AreApart (blocks (p k))
  pub within : (k x : ℕ) → k < length a → OneOf x (words_of (p k)) → (front_words ≤ x) × (x < words (procedure_of a k))
  pub consecutive : (k : ℕ) → k < length a → AreConsecutive (p k).data_out
  pub none_in : (k : ℕ) → length a ≤ k → (p k).data_in ≡ []
  pub none_out : (k : ℕ) → length a ≤ k → (p k).data_out ≡ []

before-or-past : (n k : ℕ) → (n < k) ⊎ (k ≤ n)
before-or-past zero zero = inr (omega arith)
before-or-past zero (suc k) = inl (omega arith)
before-or-past (suc n) zero = inr (omega arith)
before-or-past (suc n) (suc k) = either (λ l. inl (omega (arith, l))) (λ r. inr (omega (arith, r))) (before-or-past n k)

-- a node with parts is there
with-part : (a : Action) (n c : ℕ) → OneOf c (parts_at (node_at a n)) → n < length a
with-part a n c m = go (before-or-past n (length a))
  where
    go : (n < length a) ⊎ (length a ≤ n) → n < length a
    go (inl less) = less
    go (inr past) = elim (subst (λ x. OneOf c (parts_at x)) (node_at-past a n past) m) [ ]

module _ (a : Action) (trees : HasTrees a) (p : ℕ → PlacedNode) (words : ℕ → ℕ) (h : HasOwnWords a p words) where
  abbrev givens : ℕ → List ℕ
  givens k = given_of p a k

  abbrev outs : ℕ → List ℕ
  outs k = out_of p a k

  -- the word is one where a node leaves data, that is node k or outside it
  record OutOwner (k x : ℕ) : Type 0 where
    owner : ℕ
    there : owner < length a
    same : procedure_of a owner ≡ procedure_of a k
    word : OneOf x (p owner).data_out
    outside : (owner ≡ k) ⊎ (IsIn a k owner → ⊥)

  -- the word is one of what a root is given
  record Entering (k x : ℕ) : Type 0 where
    owner : ℕ
    there : owner < length a
    same : procedure_of a owner ≡ procedure_of a k
    word : OneOf x (p owner).data_in

  -- or one that a node outside node k writes
  record Outside (k x : ℕ) : Type 0 where
    owner : ℕ
    there : owner < length a
    same : procedure_of a owner ≡ procedure_of a k
    word : IsOwn (p owner) x
    outside : IsIn a k owner → ⊥

  record Sound (k : ℕ) : Type 0 where
    given_owner : (x : ℕ) → OneOf x (givens k) → Entering k x ⊎ Outside k x
    given_other : (x : ℕ) → OneOf x (givens k) → OneOf x (outs k) → ⊥
    out_owner : (x : ℕ) → OneOf x (outs k) → OutOwner k x
    once : IsOnce (outs k)

  -- ---- what two owners tell

  same-owner : (j k x : ℕ) → j < length a → k < length a → procedure_of a j ≡ procedure_of a k → IsOwn (p j) x → IsOwn (p k) x → j ≡ k
  same-owner j k x lj lk same m n = h.apart j k x lj lk same (own-word (p j) x m) (own-word (p k) x n)

  entering-not_own : (k j x : ℕ) → j < length a → procedure_of a j ≡ procedure_of a k → Entering k x → IsOwn (p j) x → ⊥
  entering-not_own k j x lj same e own =
      let equal = h.apart e.owner j x e.there lj (e.same ∙ sym same) (in-word (p e.owner) x e.word) (own-word (p j) x own) in
      in-not_own (p j) (h.blocks_apart j lj) x (subst (λ i. OneOf x (p i).data_in) equal e.word) own

  -- ---- a root

  root-sound : (k : ℕ) → k < length a → whole_of a k ≡ None → Sound k
  root-sound k within e =
      let gs : givens k ≡ (p k).data_in = handed-root a trees (given_in p) (λ j. (p j).data_in) k e in
      let os : outs k ≡ (p k).data_out = handed-root a trees (out_in p) (λ j. (p j).data_out) k e in
      record {
        given_owner = λ x m. inl (record { owner = k; there = within; same = refl; word = subst (OneOf x) gs m });
        given_other = λ x m n. in-not_own (p k) (h.blocks_apart k within) x (subst (OneOf x) gs m) (inl (subst (OneOf x) os n));
        out_owner = λ x m. record { owner = k; there = within; same = refl; word = subst (OneOf x) os m; outside = inl refl };
        once = subst IsOnce (sym os) (run-once (p k).data_out (h.consecutive k within));
      }

  -- ---- a part

  module _ (n c : ℕ) (part : OneOf c (parts_at (node_at a n))) where
    c-within : c < length a
    c-within = trees.within n c part

    n-within : n < length a
    n-within = omega (arith, trees.behind n c part, trees.within n c part)

    same-procedure : procedure_of a c ≡ procedure_of a n
    same-procedure = procedure-part a trees c n (whole-is a trees c n part)

    out-from : IsOwnOrPiece (p c).data_out (outs n) (outs c)
    out-from =
        let e : outs c ≡ out_in p (node_at a n) (outs n) c = handed-part a trees (out_in p) (λ j. (p j).data_out) c n (whole-is a trees c n part) in
        subst (IsOwnOrPiece (p c).data_out (outs n)) (sym e) (part-out p (node_at a n) (outs n) c part)

    given-from : (givens c ≡ givens n) ⊎ FromSibling p (node_at a n) c (givens c)
    given-from =
        let e : givens c ≡ given_in p (node_at a n) (givens n) c = handed-part a trees (given_in p) (λ j. (p j).data_in) c n (whole-is a trees c n part) in
        subst (λ gs. (gs ≡ givens n) ⊎ FromSibling p (node_at a n) c gs) (sym e) (part-given p (node_at a n) (givens n) c)

    -- a word where the node leaves data belongs to no node in the part
    out-outside : (j x : ℕ) → OutOwner n x → j < length a → procedure_of a j ≡ procedure_of a n → IsOwn (p j) x → IsIn a c j → ⊥
    out-outside j x o lj same own inside =
        let equal = same-owner o.owner j x o.there lj (o.same ∙ sym same) (inl o.word) own in
        either (λ e. not-up a trees n c part (subst (IsIn a c) (sym equal ∙ e) inside))
        (λ out. out (in-whole a trees n c o.owner part (subst (IsIn a c) (sym equal) inside))) o.outside

    part-sound : Sound n → Sound c
    part-sound s = record {
      given_owner = λ x m. either
          (λ e. either
          (λ i. inl (record { owner = i.owner; there = i.there; same = i.same ∙ sym same-procedure; word = i.word }))
          (λ o. inr (record { owner = o.owner; there = o.there; same = o.same ∙ sym same-procedure; word = o.word; outside = λ inside. o.outside (in-whole a trees n c o.owner part inside) }))
          (s.given_owner x (subst (OneOf x) e m)))
          (λ f. inr (sibling-outside f x m)) given-from;
      given_other = λ x m k. either
          (λ e. either
          (λ own. given-not_own s x (subst (OneOf x) e m) (subst (OneOf x) own k))
          (λ piece. s.given_other x (subst (OneOf x) e m) (piece-member (outs n) (outs c) x piece k)) out-from)
          (λ f. either
          (λ own. f.other (same-owner f.sibling c x (trees.within n f.sibling f.part) c-within (sibling-procedure f ∙ sym same-procedure) (f.words x m) (inl (subst (OneOf x) own k))))
          (λ piece. sibling-not_out s f x m (piece-member (outs n) (outs c) x piece k)) out-from) given-from;
      out_owner = λ x m. either
          (λ own. record { owner = c; there = c-within; same = refl; word = subst (OneOf x) own m; outside = inl refl })
          (λ piece. let o = s.out_owner x (piece-member (outs n) (outs c) x piece m) in
          record { owner = o.owner; there = o.there; same = o.same ∙ sym same-procedure; word = o.word; outside = inr (out-outside o.owner x o o.there o.same (inl o.word)) }) out-from;
      once = either (λ own. subst IsOnce (sym own) (run-once (p c).data_out (h.consecutive c c-within))) (λ piece. piece-once (outs n) (outs c) piece s.once) out-from;
    }
      where
        sibling-procedure : (f : FromSibling p (node_at a n) c (givens c)) → procedure_of a f.sibling ≡ procedure_of a n
        sibling-procedure f = procedure-part a trees f.sibling n (whole-is a trees f.sibling n f.part)

        sibling-outside : (f : FromSibling p (node_at a n) c (givens c)) (x : ℕ) → OneOf x (givens c) → Outside c x
        sibling-outside f x m = record {
          owner = f.sibling;
          there = trees.within n f.sibling f.part;
          same = sibling-procedure f ∙ sym same-procedure;
          word = f.words x m;
          outside = λ inside. siblings-apart a trees n f.sibling c f.sibling f.part part f.other Itself inside;
        }

        sibling-not_out : Sound n → (f : FromSibling p (node_at a n) c (givens c)) (x : ℕ) → OneOf x (givens c) → OneOf x (outs n) → ⊥
        sibling-not_out s f x m k =
            let o = s.out_owner x k in
            let equal = same-owner o.owner f.sibling x o.there (trees.within n f.sibling f.part) (o.same ∙ sym (sibling-procedure f)) (inl o.word) (f.words x m) in
            either (λ e. omega (arith, trees.behind n f.sibling f.part, equal, e))
            (λ out. out (subst (IsIn a n) (sym equal) (Deeper f.part Itself))) o.outside

        given-not_own : Sound n → (x : ℕ) → OneOf x (givens n) → OneOf x (p c).data_out → ⊥
        given-not_own s x m k = either
            (λ i. entering-not_own n c x c-within same-procedure i (inl k))
            (λ o. o.outside (subst (IsIn a n) (same-owner c o.owner x c-within o.there (same-procedure ∙ sym o.same) (inl k) o.word) (Deeper part Itself)))
            (s.given_owner x m)

  -- ---- every node

  sound-below : (b k : ℕ) → k < b → k < length a → Sound k
  sound-below zero k less within = absurd (omega arith)
  sound-below (suc b) k less within = go (whole_of a k) refl (λ n before. sound-below b n (omega arith))
    where
      go : (o : Option ℕ) → whole_of a k ≡ o → ((n : ℕ) → n < k → n < length a → Sound n) → Sound k
      go None e earlier = root-sound k within e
      go (Some n) e earlier =
          let part = whole-part a k n e in
          let before = trees.behind n k part in
          part-sound n k part (earlier n before (omega arith))

  sound : (k : ℕ) → k < length a → Sound k
  sound k within = sound-below (suc k) k (omega arith) within

  -- ---- what the code asks

  -- past the nodes there is nothing
  past-none : (k : ℕ) → length a ≤ k → (j : ℕ) → IsIn a k j → j < length a → ⊥
  past-none k past _ Itself within = omega arith
  past-none k past j (Deeper {i} part deeper) within = let less = with-part a k i part in omega arith

  no_whole : (k : ℕ) → length a ≤ k → (o : Option ℕ) → whole_of a k ≡ o → whole_of a k ≡ None
  no_whole k past None e = e
  no_whole k past (Some n) e = absurd (let less = trees.within n k (whole-part a k n e) in omega arith)

  no-member : (xs : List ℕ) (x : ℕ) → xs ≡ [] → OneOf x xs → ⊥
  no-member xs x e m = elim (subst (OneOf x) e m) [ ]

  past-out : (k x : ℕ) → length a ≤ k → OneOf x (outs k) → ⊥
  past-out k x past m = no-member (outs k) x (handed-root a trees (out_in p) (λ j. (p j).data_out) k (no_whole k past (whole_of a k) refl) ∙ h.none_out k past) m

  past-given : (k x : ℕ) → length a ≤ k → OneOf x (givens k) → ⊥
  past-given k x past m = no-member (givens k) x (handed-root a trees (given_in p) (λ j. (p j).data_in) k (no_whole k past (whole_of a k) refl) ∙ h.none_in k past) m

  -- what a node is given isn't written while it is performed
  given-kept : (k x : ℕ) → k < length a → OneOf x (givens k) → MayWrite p a words k x → ⊥
  given-kept k x within m w = either
      (λ (v : (j : ℕ) × (j < length a) × IsIn a k j × IsOwn (p j) x).
      let same = in-procedure a trees k v.0 v.2 in
      either (λ e. entering-not_own k v.0 x v.1 same e v.3)
      (λ o. o.outside (subst (IsIn a k) (same-owner v.0 o.owner x v.1 o.there (same ∙ sym o.same) v.3 o.word) v.2)) (s.given_owner x m))
      (λ v. either (λ k. s.given_other x m k)
      (λ high. either
      (λ e. let r = h.within e.owner x e.there (in-word (p e.owner) x e.word) in omega (arith, r.1, high, ap words e.same))
      (λ o. let r = h.within o.owner x o.there (own-word (p o.owner) x o.word) in omega (arith, r.1, high, ap words o.same)) (s.given_owner x m)) v) w
    where
      s : Sound k
      s = sound k within

  pub given-apart : (k x : ℕ) → OneOf x (givens k) → MayWrite p a words k x → ⊥
  given-apart k x m w = either (λ within. given-kept k x within m w) (λ past. past-given k x past m) (before-or-past k (length a))

  -- a part writes no more than its node
  pub written-inside : (n c x : ℕ) → OneOf c (parts_at (node_at a n)) → MayWrite p a words c x → MayWrite p a words n x
  written-inside n c x part w = either
      (λ (v : (j : ℕ) × (j < length a) × IsIn a c j × IsOwn (p j) x). inl (v.0, v.1, in-whole a trees n c v.0 part v.2, v.3))
      (λ v. either
      (λ m. either
      (λ own. inl (c, trees.within n c part, Deeper part Itself, inl (subst (OneOf x) own m)))
      (λ piece. inr (inl (piece-member (outs n) (outs c) x piece m))) (out-from n c part))
      (λ high. inr (inr (subst (λ r. words r ≤ x) (same-procedure n c part) high))) v) w

  -- of the frame only what is behind its front is written
  pub written-low : (k x : ℕ) → MayWrite p a words k x → x < words (procedure_of a k) → front_words ≤ x
  written-low k x w less = either
      (λ (v : (j : ℕ) × (j < length a) × IsIn a k j × IsOwn (p j) x). (h.within v.0 x v.1 (own-word (p v.0) x v.3)).0)
      (λ v. either
      (λ m. either
      (λ within. let o = (sound k within).out_owner x m in (h.within o.owner x o.there (own-word (p o.owner) x (inl o.word))).0)
      (λ past. absurd (past-out k x past m)) (before-or-past k (length a)))
      (λ high. absurd (omega arith)) v) w

  -- the record of a node isn't written while a part of it is performed
  pub record-kept : (n k i : ℕ) → OneOf k (parts_at (node_at a n)) → i < 8 → MayWrite p a words k ((p n).keep + i) → ⊥
  record-kept n k i part less w =
      let x : ℕ = (p n).keep + i in
      let within = trees.within n k part in
      let there : n < length a = n-within n k part in
      let word : OneOf x (record_words (p n).keep) = member-range (p n).keep 8 x (omega arith) (omega arith) in
      let own : IsOwn (p n) x = inr (inr (inr word)) in
      either
      (λ (v : (j : ℕ) × (j < length a) × IsIn a k j × IsOwn (p j) x).
      let equal = same-owner v.0 n x v.1 there (in-procedure a trees k v.0 v.2 ∙ same-procedure n k part) v.3 own in
      not-up a trees n k part (subst (IsIn a k) equal v.2))
      (λ v. either
      (λ m.
      let o = (sound k within).out_owner x m in
      let equal = same-owner o.owner n x o.there there (o.same ∙ same-procedure n k part) (inl o.word) own in
      out-not_record (p n) (h.blocks_apart n there) x (subst (λ j. OneOf x (p j).data_out) equal o.word) word)
      (λ high. let r = h.within n x there (own-word (p n) x own) in omega (arith, r.1, high, ap words (same-procedure n k part))) v) w

  -- a node leaves its data in words of which each is one
  pub out-once : (k : ℕ) → k < length a → IsOnce (outs k)
  out-once k within = (sound k within).once

  -- they are words of its frame, behind the front
  pub out-within : (k x : ℕ) → k < length a → OneOf x (outs k) → (front_words ≤ x) × (x < words (procedure_of a k))
  out-within k x within m =
      let o = (sound k within).out_owner x m in
      let r = h.within o.owner x o.there (own-word (p o.owner) x (inl o.word)) in
      (r.0, omega (arith, r.1, ap words o.same))

  -- so are those where it finds its data
  pub given-within : (k x : ℕ) → k < length a → OneOf x (givens k) → (front_words ≤ x) × (x < words (procedure_of a k))
  given-within k x within m = either
      (λ o. let r = h.within o.owner x o.there (in-word (p o.owner) x o.word) in (r.0, omega (arith, r.1, ap words o.same)))
      (λ o. let r = h.within o.owner x o.there (own-word (p o.owner) x o.word) in (r.0, omega (arith, r.1, ap words o.same)))
      ((sound k within).given_owner x m)

  -- none of these is one of those
  pub given-not_out : (k x : ℕ) → k < length a → OneOf x (givens k) → OneOf x (outs k) → ⊥
  given-not_out k x within m n = (sound k within).given_other x m n

  -- what a part leaves isn't written while another part is performed after it: it stands in words of its own, or the node leaves both one behind the other
  pub left-kept : (n l r x : ℕ) → OneOf l (parts_at (node_at a n)) → OneOf r (parts_at (node_at a n)) → l ≢ r → (outs l ≡ (p l).data_out) ⊎ (outs n ≡ outs l ++ outs r) → OneOf x (outs l) → MayWrite p a words r x → ⊥
  left-kept n l r x pl pr other joined m w = either
      (λ (v : (j : ℕ) × (j < length a) × IsIn a r j × IsOwn (p j) x). not-in_second v.0 v.1 v.2 v.3)
      (λ v. either not-left (λ high. let o = (sound l (trees.within n l pl)).out_owner x m in
      let q = h.within o.owner x o.there (own-word (p o.owner) x (inl o.word)) in
      omega (arith, q.1, high, ap words (o.same ∙ same-procedure n l pl ∙ sym (same-procedure n r pr)))) v) w
    where
      s : Sound n
      s = sound n (n-within n l pl)

      own-left : outs l ≡ (p l).data_out → (j : ℕ) → j < length a → IsIn a r j → IsOwn (p j) x → ⊥
      own-left own j lj inside word =
          let equal = same-owner l j x (trees.within n l pl) lj (same-procedure n l pl ∙ sym (in-procedure a trees r j inside ∙ same-procedure n r pr)) (inl (subst (OneOf x) own m)) word in
          siblings-apart a trees n l r l pl pr other Itself (subst (IsIn a r) (sym equal) inside)

      not-in_second : (j : ℕ) → j < length a → IsIn a r j → IsOwn (p j) x → ⊥
      not-in_second j lj inside word = either
          (λ own. own-left own j lj inside word)
          (λ both. out-outside n r pr j x (s.out_owner x (subst (OneOf x) (sym both) (one_of-first (outs l) (outs r) x m))) lj (in-procedure a trees r j inside ∙ same-procedure n r pr) word inside) joined

      not-left : OneOf x (outs r) → ⊥
      not-left k = either
          (λ own. either
          (λ own2. own-left own r (trees.within n r pr) Itself (inl (subst (OneOf x) own2 k)))
          (λ piece. out-outside n l pl l x (s.out_owner x (piece-member (outs n) (outs r) x piece k)) (trees.within n l pl) (same-procedure n l pl) (inl (subst (OneOf x) own m)) Itself) (out-from n r pr))
          (λ both. s.once (outs l) (outs r) x both m k) joined
