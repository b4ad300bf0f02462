-- What the functions that append code leave, put together from what each of them ensures.
use Rattle.std.proofs.Common.{◌≡◌, ◌≢◌, ℕ, ◌+◌, ◌≤◌, List, [], ◌∷◌, ◌++◌, length, false, OnOk, Result, Ok, Err, map, refl, sym, ap, ◌∙◌, subst, arith, inl, inr, append_assoc}
use Rattle.std.proofs.lemmas.List.{map-append}
use Rattle.rv_asm.specs.Assembly.{Listing, is_placed, total}
use Rattle.rv_asm.specs.Pieces.{appended}
use Rattle.rv_code.specs.declared.instruction.Inst.{Inst}
use Rattle.rv_asm.specs.declared.item.Item.{Item}
use Rattle.rv_asm.specs.declared.item.Item.TheVariants.{Plain, Mark, Jump, Address}
use Rattle.rv_asm.proofs.Labels.{total-append}
use Rattle.rv_yield.proofs.ItemLaws.{IsShort, placed-unmarked}
use Rattle.rv_codegen.specs.Blocks.{end_label, front_of, start_of, stop_of, joint_of, opening, ending, address_items}
use Rattle.rv_codegen.specs.Marks.{extended, AreFresh, PlacesStop}
use Rattle.rv_codegen.specs.StorageItems.{kept_items}
use Rattle.rv_yield.proofs.Stored.{length-store}
use Rattle.rv_codegen.proofs.Fresh.{fresh-mark, fresh-plain, fresh-jump, fresh-opening, total-jump, total-plain}
use Rattle.rv_codegen.proofs.FrameAddresses.{length-address}

-- what an `Ok` tells tells what follows from it
pub OnOk-then : {T E A B : Type 0} (r : Result T E) → (A → B) → OnOk r A → OnOk r B
OnOk-then (Ok x) f a = f a
OnOk-then (Err e) f a = tt

abbrev marked : Listing → ℕ → Listing
marked s l = record s { items = s.items ++ Mark l ∷ [] }

module _ (s s1 : Listing) (k a b : ℕ) (fresh : AreFresh k s.items) (first : s1 ≡ marked s a) (a_is : a ≡ front_of k) (b_is : b ≡ start_of k) where
  -- the second mark of an opening
  pub start-fresh : is_placed s1.items b ≡ false
  start-fresh =
      let h : is_placed (s.items ++ Mark a ∷ []) b ≡ false = fresh-mark s.items a b (λ e. omega arith) (fresh b (inr (omega arith))) in
      subst (λ z. is_placed z.items b ≡ false) (sym first) h

  -- the two marks are the opening
  pub opened : (s2 : Listing) → s2 ≡ marked s1 b → s2 ≡ record s { items = s.items ++ opening k }
  opened s2 second =
      let all : s2 ≡ marked (marked s a) b = second ∙ ap (λ z. marked z b) first in
      let flat : (s.items ++ Mark a ∷ []) ++ Mark b ∷ [] ≡ s.items ++ (Mark a ∷ Mark b ∷ []) = append_assoc s.items (Mark a ∷ []) (Mark b ∷ []) in
      let named : Mark a ∷ Mark b ∷ [] ≡ opening k = cc in
      all ∙ ap (λ l. record s { items = l }) (flat ∙ ap (λ l. s.items ++ l) named)

-- behind an opening the node's stop and its joint are still to be placed, and there is as much code as before
pub stop-fresh : (s s1 : Listing) (k : ℕ) → AreFresh k s.items → s1 ≡ record s { items = s.items ++ opening k } → is_placed s1.items (stop_of k) ≡ false
stop-fresh s s1 k fresh e = subst (λ z. is_placed z.items (stop_of k) ≡ false) (sym e) (fresh-opening s.items k (stop_of k) fresh (inr (omega arith)))

pub joint-fresh : (s s1 : Listing) (k : ℕ) → AreFresh k s.items → s1 ≡ record s { items = s.items ++ opening k } → is_placed s1.items (joint_of k) ≡ false
joint-fresh s s1 k fresh e = subst (λ z. is_placed z.items (joint_of k) ≡ false) (sym e) (fresh-opening s.items k (joint_of k) fresh (inr (omega arith)))

pub total-opened : (s s1 : Listing) (k : ℕ) → s1 ≡ record s { items = s.items ++ opening k } → total s1.items ≡ total s.items
total-opened s s1 k e = ap (λ z. total z.items) e ∙ total-append s.items (opening k) ∙ omega arith

-- the ending is a jump, and the way back of bodies
pub total-ended : (s1 s2 s3 : Listing) (n more : ℕ) → total s2.items ≤ total s1.items + more → s3 ≡ record s2 { items = s2.items ++ ending n } → total s3.items ≤ total s1.items + 4 + more
total-ended s1 s2 s3 n more nodes last =
    let b : total s3.items ≡ total s2.items + 4 = ap (λ z. total z.items) last ∙ total-append s2.items (ending n) in
    omega (arith, b, nodes)

-- ---- labels that are still to be placed, and lengths, as pieces are appended

module _ (s s1 : Listing) where
  pub plain-keeps : (is : List Inst) (l : ℕ) → s1 ≡ appended s is → is_placed s.items l ≡ false → is_placed s1.items l ≡ false
  plain-keeps is l e h = subst (λ z. is_placed z.items l ≡ false) (sym e) (fresh-plain s.items is l h)

  pub mark-keeps : (m l : ℕ) → s1 ≡ marked s m → m ≢ l → is_placed s.items l ≡ false → is_placed s1.items l ≡ false
  mark-keeps m l e ne h = subst (λ z. is_placed z.items l ≡ false) (sym e) (fresh-mark s.items m l ne h)

  pub opening-keeps : (k l : ℕ) → AreFresh k s.items → s1 ≡ record s { items = s.items ++ opening k } → l ≡ end_label → is_placed s1.items l ≡ false
  opening-keeps k l fresh e is = subst (λ z. is_placed z.items l ≡ false) (sym e) (fresh-opening s.items k l fresh (inl is))

-- an address, a jump and a mark
pub call-short : (s s1 s2 s3 : Listing) (l m : ℕ) → s1 ≡ record s { items = s.items ++ Address 1 l ∷ [] } → s2 ≡ record s1 { items = s1.items ++ Jump m ∷ [] } → s3 ≡ marked s2 l → total s3.items ≡ total s.items + 4
call-short s s1 s2 s3 l m e1 e2 e3 =
    let a : total s1.items ≡ total s.items + 2 = ap (λ z. total z.items) e1 ∙ total-append s.items (Address 1 l ∷ []) in
    let b : total s2.items ≡ total s1.items + 2 = ap (λ z. total z.items) e2 ∙ total-append s1.items (Jump m ∷ []) in
    let c : total s3.items ≡ total s2.items + 0 = ap (λ z. total z.items) e3 ∙ total-append s2.items (Mark l ∷ []) in
    omega (arith, a, b, c)

-- a mark
pub mark-short : (s s1 : Listing) (l : ℕ) → s1 ≡ marked s l → total s1.items ≡ total s.items
mark-short s s1 l e = ap (λ z. total z.items) e ∙ total-append s.items (Mark l ∷ []) ∙ omega arith

-- instructions and a jump
module _ (s s1 s2 : Listing) (is : List Inst) (m : ℕ) (first : s1 ≡ appended s is) (second : s2 ≡ record s1 { items = s1.items ++ Jump m ∷ [] }) where
  pub jumping-keeps : (k : ℕ) → PlacesStop k s.items s2.items
  jumping-keeps k l ne nj h =
      subst (λ z. is_placed z.items l ≡ false) (sym second) (fresh-jump s1.items m l (subst (λ z. is_placed z.items l ≡ false) (sym first) (fresh-plain s.items is l h)))

  pub jumping-short : total s2.items ≡ total s.items + length is + 2
  jumping-short = omega (arith, ap (λ z. total z.items) first, total-append s.items (map Plain is), total-plain is, ap (λ z. total z.items) second, total-jump s1.items m)

-- one piece and then another
pub both-appended : (s s1 s2 : Listing) (a b b' : List Item) → s1 ≡ record s { items = s.items ++ a } → s2 ≡ record s1 { items = s1.items ++ b } → b ≡ b' → s2 ≡ record s { items = s.items ++ (a ++ b') }
both-appended s s1 s2 a b b' e1 e2 same =
    e2 ∙ ap (λ z. extended z b) e1 ∙ ap (λ l. record s { items = l }) (append_assoc s.items a b ∙ ap (λ l. s.items ++ (a ++ l)) same)

pub OnOk-always : {T E : Type 0} (A : Type 0) (r : Result T E) → A → OnOk r A
OnOk-always A (Ok x) a = a
OnOk-always A (Err e) a = tt

pub OnOk-both : {T E : Type 0} (A B : Type 0) (r : Result T E) → OnOk r A → OnOk r B → OnOk r (A × B)
OnOk-both A B (Ok x) a b = (a, b)
OnOk-both A B (Err e) a b = tt

-- instructions behind others
pub plain-both : (s s1 s2 : Listing) (a b : List Inst) → s1 ≡ appended s a → s2 ≡ appended s1 b → s2 ≡ appended s (a ++ b)
plain-both s s1 s2 a b e1 e2 = both-appended s s1 s2 (map Plain a) (map Plain b) (map Plain b) e1 e2 refl ∙ ap (λ l. record s { items = s.items ++ l }) (sym (map-append Plain a b))

-- a short piece and the stop of a node
module _ (s s1 s2 : Listing) (piece : List Item) (limit m : ℕ) (short : IsShort limit piece) (first : s1 ≡ record s { items = s.items ++ piece }) (second : s2 ≡ marked s1 m) where
  pub piece-short : total s2.items ≤ total s.items + limit
  piece-short = omega (arith, mark-short s1 s2 m second, ap (λ z. total z.items) first, total-append s.items piece, short.few)

  pub piece-keeps : (k : ℕ) → m ≡ stop_of k → PlacesStop k s.items s2.items
  piece-keeps k is l ne nj h =
      let kept : is_placed s1.items l ≡ false = ap (λ z. is_placed z.items l) first ∙ placed-unmarked s.items piece l short.unmarked ∙ h in
      mark-keeps s1 s2 m l second (λ e. ne (sym (sym is ∙ e))) kept

-- a piece and a mark behind it
pub whole-piece : (s s1 s2 : Listing) (piece : List Item) (m : ℕ) → s1 ≡ record s { items = s.items ++ piece } → s2 ≡ marked s1 m → s2 ≡ record s { items = s.items ++ (piece ++ Mark m ∷ []) }
whole-piece s s1 s2 piece m e1 e2 = both-appended s s1 s2 piece (Mark m ∷ []) (Mark m ∷ []) e1 e2 refl

-- where a short piece was appended, a label that wasn't placed still isn't
pub piece-unplaced : (s s1 : Listing) (piece : List Item) (limit m : ℕ) → IsShort limit piece → s1 ≡ record s { items = s.items ++ piece } → is_placed s.items m ≡ false → is_placed s1.items m ≡ false
piece-unplaced s s1 piece limit m short first h = ap (λ z. is_placed z.items m) first ∙ placed-unmarked s.items piece m short.unmarked ∙ h

-- the address of a word and a jump
pub address-short : (s s1 s2 : Listing) (o m : ℕ) → s1 ≡ appended s (address_items o) → s2 ≡ record s1 { items = s1.items ++ Jump m ∷ [] } → total s2.items ≤ total s.items + 11
address-short s s1 s2 o m first second = omega (arith, jumping-short s s1 s2 (address_items o) m first second, length-address o)

-- the code behind a piece and a mark
pub whole-code : (p : List Item) (s s1 s2 : Listing) (l : ℕ) (a b : List Item) → s.items ≡ p ++ (Mark l ∷ []) → s1.items ≡ s.items → s2 ≡ extended s1 a → a ≡ b → s2.items ≡ p ++ (Mark l ∷ b)
whole-code p s s1 s2 l a b e0 e1 e2 same =
    ap (λ z. z.items) e2 ∙ ap (λ xs. xs ++ a) (e1 ∙ e0) ∙ append_assoc p (Mark l ∷ []) a ∙ ap (λ x. p ++ (Mark l ∷ x)) same

-- a word that is kept
pub kept-short : (s s1 : Listing) (out : List ℕ) → s1 ≡ extended s (map Plain (kept_items out)) → total s1.items ≤ total s.items + 10
kept-short s s1 out e = omega (arith, ap (λ z. total z.items) e, total-append s.items (map Plain (kept_items out)), total-plain (kept_items out), few out)
  where
    few : (os : List ℕ) → length (kept_items os) ≤ 10
    few [] = omega arith
    few (o ∷ os) = length-store o
