-- Labels that are not placed yet, as items are appended.
use Rattle.std.proofs.Common.{◌≡◌, ℕ, ◌+◌, ◌≤◌, Bool, true, false, ◌||◌, List, [], ◌∷◌, ◌++◌, map, refl, sym, ap, ap₂, ◌∙◌, subst, arith, eqb, ne_eqb, OnOk, append_assoc}
use Rattle.std.proofs.lemmas.Result.{on_ok_weaker}
use Rattle.std.proofs.Common.{Result}
use Rattle.rv_code.specs.declared.instruction.Inst.{Inst}
use Rattle.rv_asm.specs.Assembly.{Listing, is_placed, total}
use Rattle.rv_asm.specs.declared.item.Item.{Item}
use Rattle.rv_asm.specs.declared.item.Item.TheVariants.{Plain, Mark, Jump, BranchTo, Address}
use Rattle.rv_asm.proofs.Labels.{total-append}
use Rattle.rv_prelude.specs.Items.{extended, AreFresh}

or-assoc : (x y z : Bool) → x || (y || z) ≡ (x || y) || z
or-assoc true y z = refl
or-assoc false y z = refl

or-false : (x : Bool) → x || false ≡ x
or-false true = refl
or-false false = refl

-- a label is placed in two lists where it is in one of them
is_placed-either : (a b : List Item) (l : ℕ) → is_placed (a ++ b) l ≡ is_placed a l || is_placed b l
is_placed-either [] b l = refl
is_placed-either (Mark k ∷ a) b l = ap (λ x. eqb k l || x) (is_placed-either a b l) ∙ or-assoc (eqb k l) (is_placed a l) (is_placed b l)
is_placed-either (Plain i ∷ a) b l = is_placed-either a b l
is_placed-either (Jump k ∷ a) b l = is_placed-either a b l
is_placed-either (BranchTo o x y k ∷ a) b l = is_placed-either a b l
is_placed-either (Address d k ∷ a) b l = is_placed-either a b l

is_placed-append : (a b : List Item) (l : ℕ) → is_placed a l ≡ false → is_placed b l ≡ false → is_placed (a ++ b) l ≡ false
is_placed-append a b l p q = is_placed-either a b l ∙ ap₂ ◌||◌ p q

-- items that place no label
abbrev pub PlaceNone : List Item → Type 0
PlaceNone items = (l : ℕ) → is_placed items l ≡ false

pub keeps-fresh : (first : ℕ) (old new : Listing) (piece : List Item) → PlaceNone piece → new ≡ extended old piece → AreFresh first old.items → AreFresh first new.items
keeps-fresh first old new piece none e h l le = subst (λ s. is_placed s.items l ≡ false) (sym e) (is_placed-append old.items piece l (h l le) (none l))

-- behind an entry the next label is to be placed
pub entry-fresh : (label : ℕ) (old new : Listing) (piece : List Item) → PlaceNone piece → AreFresh label old.items → new ≡ extended old (Mark label ∷ piece) → AreFresh (label + 1) new.items
entry-fresh label old new piece none h e l le =
    let ne : eqb label l ≡ false = ne_eqb _ _ (omega arith) in
    let own : is_placed (Mark label ∷ piece) l ≡ false = rw (ne, none l) refl in
    subst (λ s. is_placed s.items l ≡ false) (sym e) (is_placed-append old.items (Mark label ∷ piece) l (h l (omega arith)) own)

-- where it was appended
pub entry-fresh_ok : {E : Type 0} (r : Result (Unit {0}) E) (label : ℕ) (old new : Listing) (piece : List Item) → PlaceNone piece → AreFresh label old.items → OnOk r (new ≡ extended old (Mark label ∷ piece)) → OnOk r (AreFresh (label + 1) new.items)
entry-fresh_ok r label old new piece none h = on_ok_weaker r (λ e. entry-fresh label old new piece none h e)

-- ---- pieces without labels

pub plain-none : (is : List Inst) → PlaceNone (map Plain is)
plain-none [] l = refl
plain-none (i ∷ is) l = plain-none is l

pub both-none : (a b : List Item) → PlaceNone a → PlaceNone b → PlaceNone (a ++ b)
both-none a b p q l = is_placed-append a b l (p l) (q l)

module _ {E : Type 0} (r : Result (Unit {0}) E) (old new : Listing) (piece : List Item) where
  pub placed-ok : PlaceNone piece → OnOk r (new ≡ extended old piece) → OnOk r ((l : ℕ) → is_placed new.items l ≡ is_placed old.items l)
  placed-ok none = on_ok_weaker r (λ e l. ap (λ s. is_placed s.items l) e ∙ is_placed-either old.items piece l ∙ ap (λ x. is_placed old.items l || x) (none l) ∙ or-false (is_placed old.items l))

  pub short-ok : (n : ℕ) → total piece ≤ n → OnOk r (new ≡ extended old piece) → OnOk r (total new.items ≤ total old.items + n)
  short-ok n few = on_ok_weaker r (λ e. omega (arith, ap (λ s. total s.items) e, total-append old.items piece, few))

-- ---- an entry by its parts

map-plain : (a b : List Inst) → map Plain a ++ map Plain b ≡ map Plain (a ++ b)
map-plain [] b = refl
map-plain (i ∷ a) b = ap (λ k. Plain i ∷ k) (map-plain a b)

-- a mark, items, and instructions behind them
pub three-appended : (old s1 s2 s3 new : Listing) (l : ℕ) (a : List Item) (b c : List Inst) → s1 ≡ record old { items = old.items ++ Mark l ∷ [] } → s2 ≡ extended s1 a → s3 ≡ extended s2 (map Plain b) → new ≡ extended s3 (map Plain c) → new ≡ extended old (Mark l ∷ (a ++ map Plain (b ++ c)))
three-appended old s1 s2 s3 new l a b c e1 e2 e3 e4 =
    let all : new ≡ extended (extended (extended (extended old (Mark l ∷ [])) a) (map Plain b)) (map Plain c) =
    e4 ∙ ap (λ s. extended s (map Plain c)) (e3 ∙ ap (λ s. extended s (map Plain b)) (e2 ∙ ap (λ s. extended s a) e1)) in
    let flat : (((old.items ++ Mark l ∷ []) ++ a) ++ map Plain b) ++ map Plain c ≡ old.items ++ (Mark l ∷ (a ++ map Plain (b ++ c))) =
    append_assoc ((old.items ++ Mark l ∷ []) ++ a) (map Plain b) (map Plain c)
    ∙ append_assoc (old.items ++ Mark l ∷ []) a (map Plain b ++ map Plain c)
    ∙ append_assoc old.items (Mark l ∷ []) (a ++ (map Plain b ++ map Plain c))
    ∙ ap (λ x. old.items ++ (Mark l ∷ (a ++ x))) (map-plain b c) in
    all ∙ ap (λ is. record old { items = is }) flat
