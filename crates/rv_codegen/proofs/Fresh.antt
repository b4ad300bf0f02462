-- Labels that are not placed yet, and how much code there is, as items are appended.
use Rattle.std.proofs.Common.{◌≡◌, ◌≢◌, ◌⊎◌, ⊎_elim, ℕ, ◌+◌, ◌≤◌, Bool, true, false, ◌||◌, List, [], ◌∷◌, ◌++◌, length, map, refl, arith, eqb, ne_eqb, inl, inr}
use Rattle.rv_code.specs.declared.instruction.Inst.{Inst}
use Rattle.rv_asm.specs.Assembly.{is_placed, total}
use Rattle.rv_asm.specs.declared.item.Item.{Item}
use Rattle.rv_asm.specs.declared.item.Item.TheVariants.{Plain, Mark, Jump, BranchTo, Address}
use Rattle.rv_asm.proofs.Labels.{total-append}
use Rattle.rv_codegen.specs.Blocks.{end_label, front_of, start_of, stop_of, joint_of, opening}
use Rattle.rv_codegen.specs.Marks.{AreFresh, PlacesStop}

pub is_placed-append : (a b : List Item) (l : ℕ) → is_placed a l ≡ false → is_placed b l ≡ false → is_placed (a ++ b) l ≡ false
is_placed-append [] b l p q = q
is_placed-append (Mark k ∷ a) b l p q = either (eqb k l) (is_placed a l) p (λ p'. is_placed-append a b l p' q)
  where
    either : (x y : Bool) → x || y ≡ false → (y ≡ false → is_placed (a ++ b) l ≡ false) → x || is_placed (a ++ b) l ≡ false
    either true y h r = absurd (cc)
    either false y h r = r h
is_placed-append (Plain i ∷ a) b l p q = is_placed-append a b l p q
is_placed-append (Jump k ∷ a) b l p q = is_placed-append a b l p q
is_placed-append (BranchTo o x y k ∷ a) b l p q = is_placed-append a b l p q
is_placed-append (Address d k ∷ a) b l p q = is_placed-append a b l p q

pub is_placed-plain : (is : List Inst) (l : ℕ) → is_placed (map Plain is) l ≡ false
is_placed-plain [] l = refl
is_placed-plain (i ∷ is) l = is_placed-plain is l

pub total-plain : (is : List Inst) → total (map Plain is) ≡ length is
total-plain [] = refl
total-plain (i ∷ is) = omega (arith, total-plain is)

pub fresh-mark : (items : List Item) (m l : ℕ) → m ≢ l → is_placed items l ≡ false → is_placed (items ++ Mark m ∷ []) l ≡ false
fresh-mark items m l ne h =
    let f : eqb m l || false ≡ false = let e : eqb m l ≡ false = ne_eqb _ _ ne in rw e refl in
    is_placed-append items (Mark m ∷ []) l h f

pub fresh-jump : (items : List Item) (m l : ℕ) → is_placed items l ≡ false → is_placed (items ++ Jump m ∷ []) l ≡ false
fresh-jump items m l h = is_placed-append items (Jump m ∷ []) l h refl

pub fresh-address : (items : List Item) (d m l : ℕ) → is_placed items l ≡ false → is_placed (items ++ Address d m ∷ []) l ≡ false
fresh-address items d m l h = is_placed-append items (Address d m ∷ []) l h refl

pub fresh-plain : (items : List Item) (is : List Inst) (l : ℕ) → is_placed items l ≡ false → is_placed (items ++ map Plain is) l ≡ false
fresh-plain items is l h = is_placed-append items (map Plain is) l h (is_placed-plain is l)

-- behind the marks of node k its own stop and joint, the end of the code and the labels of later nodes are still to be placed
pub fresh-opening : (items : List Item) (k l : ℕ) → AreFresh k items → (l ≡ end_label) ⊎ (stop_of k ≤ l) → is_placed (items ++ opening k) l ≡ false
fresh-opening items k l fresh h =
    let below : (l ≡ end_label) ⊎ (front_of k ≤ l) = ⊎_elim (λ b. inl b) (λ b. inr (omega arith)) h in
    let b : front_of k ≢ l = ⊎_elim (λ b. omega arith) (λ b. omega arith) h in
    let c : start_of k ≢ l = ⊎_elim (λ b. omega arith) (λ b. omega arith) h in
    let e2 : eqb (front_of k) l ≡ false = ne_eqb _ _ b in
    let e3 : eqb (start_of k) l ≡ false = ne_eqb _ _ c in
    is_placed-append items (opening k) l (fresh l below) (rw (e2, e3) refl)

-- behind a node's code the end of the code and the labels of later nodes are still to be placed
pub fresh-behind : (items items' : List Item) (k : ℕ) → AreFresh k items → PlacesStop k (items ++ opening k) items' → AreFresh (k + 1) items'
fresh-behind items items' k fresh places l h =
    let other : l ≢ stop_of k = ⊎_elim (λ b. omega arith) (λ b. omega arith) h in
    let next : l ≢ joint_of k = ⊎_elim (λ b. omega arith) (λ b. omega arith) h in
    places l other next (fresh-opening items k l fresh (⊎_elim (λ b. inl b) (λ b. inr (omega arith)) h))

pub total-jump : (items : List Item) (m : ℕ) → total (items ++ Jump m ∷ []) ≡ total items + 2
total-jump items m = total-append items (Jump m ∷ [])

pub ruleset freshness = (fresh-mark, fresh-jump, fresh-address, fresh-plain, total-jump)
