-- A walk over items whose labels stand where they are placed: which instructions stand in the code.
use Rattle.std.proofs.Common.{◌≡◌, ℕ, ◌+◌, List, [], ◌∷◌, ◌++◌, length, map, refl, sym, ap, ◌∙◌, subst, arith, append_assoc}
use Rattle.rv_code.specs.declared.instruction.Inst.{Inst}
use Rattle.rv_asm.specs.Arrivals.{LabelsStand}
use Rattle.rv_asm.specs.Assembly.{address_of, total, spot, far_jump, far_address, code_from, code_of}
use Rattle.rv_asm.specs.WordMachine.{Has}
use Rattle.rv_asm.specs.declared.item.Item.{Item}
use Rattle.rv_asm.specs.declared.item.Item.TheVariants.{Plain, Mark, Jump, Address}
use Rattle.rv_asm.proofs.Labels.{total-append}
use Rattle.rv_asm.proofs.LabelsArrive.{piece-stands}
use Rattle.rv_asm.proofs.Sending.{code_from-plain, total-plain}

-- n instructions stand before the rest of the items
pub record Cursor (items : List Item) (n : ℕ) (rest : List Item) : Type 0 where
  pub before : List Item
  pub split : items ≡ before ++ rest
  pub count : total before ≡ n

pub cursor-start : (items : List Item) → Cursor items 0 items
cursor-start items = record { before = []; split = refl; count = refl }

module _ (items : List Item) where
  -- the cursor stands within the code
  pub cursor-within : (n : ℕ) (rest : List Item) → Cursor items n rest → n + total rest ≡ total items
  cursor-within n rest c = omega (arith, ap total c.split, total-append c.before rest, c.count)

  -- over some items
  pub over : (n : ℕ) (piece rest : List Item) → Cursor items n (piece ++ rest) → Cursor items (n + total piece) rest
  over n piece rest c = record {
    before = c.before ++ piece;
    split = c.split ∙ sym (append_assoc c.before piece rest);
    count = total-append c.before piece ∙ omega (arith, c.count);
  }

  -- what stands in the code for them
  pub stands : (n : ℕ) (piece rest : List Item) → Cursor items n (piece ++ rest) → Has (code_of items) (address_of n) (code_from (spot items) n piece)
  stands n piece rest c =
      subst (λ m. Has (code_of items) (address_of m) (code_from (spot items) m piece)) c.count (piece-stands items c.before piece rest c.split)

  pub jump-stands : (n l : ℕ) (rest : List Item) → Cursor items n (Jump l ∷ rest) → Has (code_of items) (address_of n) (far_jump n (spot items l))
  jump-stands n l rest c = stands n (Jump l ∷ []) rest c

  pub over-jump : (n l : ℕ) (rest : List Item) → Cursor items n (Jump l ∷ rest) → Cursor items (n + 2) rest
  over-jump n l rest c = over n (Jump l ∷ []) rest c

  pub address-stands : (n rd l : ℕ) (rest : List Item) → Cursor items n (Address rd l ∷ rest) → Has (code_of items) (address_of n) (far_address rd n (spot items l))
  address-stands n rd l rest c = stands n (Address rd l ∷ []) rest c

  pub over-address : (n rd l : ℕ) (rest : List Item) → Cursor items n (Address rd l ∷ rest) → Cursor items (n + 2) rest
  over-address n rd l rest c = over n (Address rd l ∷ []) rest c

  pub plain-stands : (n : ℕ) (is : List Inst) (rest : List Item) → Cursor items n (map Plain is ++ rest) → Has (code_of items) (address_of n) is
  plain-stands n is rest c = subst (λ x. Has (code_of items) (address_of n) x) (code_from-plain (spot items) n is) (stands n (map Plain is) rest c)

  pub over-plain : (n : ℕ) (is : List Inst) (rest : List Item) → Cursor items n (map Plain is ++ rest) → Cursor items (n + length is) rest
  over-plain n is rest c = subst (λ m. Cursor items (n + m) rest) (total-plain is) (over n (map Plain is) rest c)

  pub over-mark : (n l : ℕ) (rest : List Item) → Cursor items n (Mark l ∷ rest) → Cursor items n rest
  over-mark n l rest c = let same : n + 0 ≡ n = omega arith in subst (λ m. Cursor items m rest) same (over n (Mark l ∷ []) rest c)

  -- a mark is where its label stands
  pub mark-at : LabelsStand items → (n l : ℕ) (rest : List Item) → Cursor items n (Mark l ∷ rest) → spot items l ≡ n
  mark-at labels n l rest c = labels c.before rest l c.split ∙ c.count

  -- what was put together in another order
  pub regroup : (n : ℕ) (a b c : List Item) → Cursor items n ((a ++ b) ++ c) → Cursor items n (a ++ (b ++ c))
  regroup n a b c x = subst (Cursor items n) (append_assoc a b c) x
