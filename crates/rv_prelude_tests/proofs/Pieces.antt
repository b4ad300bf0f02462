-- How much a piece adds to a listing, and that it places no label.
use Rattle.std.proofs.Common.{◌≡◌, ◌≢◌, ℕ, ◌+◌, ◌≤◌, Bool, true, false, ◌||◌, Ok, List, [], ◌∷◌, ◌++◌, length, map, refl, sym, ap, ◌∙◌, subst, arith, eqb, ne_eqb}
use Rattle.rv_code.specs.declared.instruction.Inst.{Inst}
use Rattle.rv_asm.specs.Assembly.{Listing, total, is_placed}
use Rattle.rv_asm.specs.Pieces.{load_constant}
use Rattle.rv_asm.specs.declared.item.Item.{Item}
use Rattle.rv_asm.specs.declared.item.Item.TheVariants.{Plain, Mark, Jump, BranchTo, Address}
use Rattle.rv_asm.proofs.Constants.{length-load_constant}
use Rattle.rv_asm.proofs.Labels.{total-append}
use Rattle.rv_asm.proofs.Sending.{total-plain}
use Rattle.rv_prelude.specs.Items.{extended}
use Rattle.rv_prelude.proofs.Fresh.{PlaceNone, placed-ok}

pub total-more : (old new : Listing) (piece : List Item) → new ≡ extended old piece → total new.items ≡ total old.items + total piece
total-more old new piece e = ap (λ s. total s.items) e ∙ total-append old.items piece

pub placed-same : (old new : Listing) (piece : List Item) → PlaceNone piece → new ≡ extended old piece → (l : ℕ) → is_placed new.items l ≡ is_placed old.items l
placed-same old new piece none e = placed-ok {E = Unit {0}} (Ok tt) old new piece none e

-- a constant takes at most 8 instructions
pub constant-short : (rd value : ℕ) → total (map Plain (load_constant rd value)) ≤ 8
constant-short rd value = omega (arith, total-plain (load_constant rd value), length-load_constant rd value)

-- ---- labels that are not placed yet

from-or : (x y z : Bool) → x || y ≡ false → (y ≡ false → z ≡ false) → x || z ≡ false
from-or true y z e f = e
from-or false y z e f = f e

mark-other : (items : List Item) (l k : ℕ) → l ≢ k → is_placed items k ≡ false → is_placed (items ++ Mark l ∷ []) k ≡ false
mark-other [] l k ne e = let other : eqb l k ≡ false = ne_eqb _ _ ne in rw other refl
mark-other (Mark j ∷ items) l k ne e = from-or (eqb j k) (is_placed items k) (is_placed (items ++ Mark l ∷ []) k) e (mark-other items l k ne)
mark-other (Plain i ∷ items) l k ne e = mark-other items l k ne e
mark-other (Jump j ∷ items) l k ne e = mark-other items l k ne e
mark-other (BranchTo o x y j ∷ items) l k ne e = mark-other items l k ne e
mark-other (Address d j ∷ items) l k ne e = mark-other items l k ne e

-- another label is placed, and then steps stand, which place none
pub still-open : (old mid new : Listing) (l k : ℕ) → l ≢ k → is_placed old.items k ≡ false → mid ≡ extended old (Mark l ∷ []) → ((j : ℕ) → is_placed new.items j ≡ is_placed mid.items j) → is_placed new.items k ≡ false
still-open old mid new l k ne e is same = same k ∙ subst (λ (s : Listing). is_placed s.items k ≡ false) (sym is) (mark-other old.items l k ne e)

-- more labels are made
pub labels-made : (old mid new : Listing) (k : ℕ) → mid.items ≡ old.items → new.items ≡ mid.items → is_placed old.items k ≡ false → is_placed new.items k ≡ false
labels-made old mid new k first second e = subst (λ is. is_placed is k ≡ false) (sym (second ∙ first)) e
