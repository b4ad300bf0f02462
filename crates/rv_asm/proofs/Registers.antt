-- Registers that are read after others were written, and as a list.
use Rattle.std.proofs.Common.{◌≡◌, ◌≢◌, ℕ, zero, suc, ◌+◌, ◌<◌, ◌≤◌, ◌^◌, Bool, true, false, cond, ◌∷◌, get_or, set, refl, ap, ap₂, ◌∙◌, arith, eqb, eq-eqb, ne_eqb}
use mathlib.Core.Path.{fun_ext}
use Rattle.rv_code.specs.Machine.{register, with_register}
use Rattle.rv_code.proofs.Bounds.{if-below}
use Rattle.rv_asm.specs.WordMachine.{get, put, registers_from, register_list}

-- the register that was written
pub put-same : (r : ℕ → ℕ) (k v : ℕ) → put r (suc k) v (suc k) ≡ v
put-same r k v = let e : eqb (suc k) (suc k) ≡ true = eq-eqb _ _ refl in rw e refl

-- a register that wasn't written
pub put-other : (r : ℕ → ℕ) (j k v : ℕ) → j ≢ k → put r k v j ≡ r j
put-other r j zero v n = refl
put-other r j (suc k) v n = let e : eqb j (suc k) ≡ false = ne_eqb _ _ n in rw e refl

-- a register other than 0 reads as what it holds
pub get-above : (r : ℕ → ℕ) (k : ℕ) → 0 < k → get r k ≡ r k
get-above r zero h = absurd (omega arith)
get-above r (suc k) h = refl

pub get-put_same : (r : ℕ → ℕ) (k v : ℕ) → get (put r (suc k) v) (suc k) ≡ v
get-put_same r k v = put-same r k v

pub get-put_other : (r : ℕ → ℕ) (j k v : ℕ) → j ≢ k → get (put r k v) j ≡ get r j
get-put_other r zero k v n = refl
get-put_other r (suc j) k v n = put-other r (suc j) k v n

-- of two writes to one register the later one stays
pub put-put : (r : ℕ → ℕ) (k v w : ℕ) → put (put r k v) k w ≡ put r k w
put-put r zero v w = refl
put-put r (suc k) v w = fun_ext (λ j. later (eqb j (suc k)) (r j))
  where
    later : (b : Bool) (x : ℕ) → cond b w (cond b v x) ≡ cond b w x
    later true x = refl
    later false x = refl

pub put-below : (r : ℕ → ℕ) (k v : ℕ) → ((j : ℕ) → r j < 2 ^ 64) → v < 2 ^ 64 → (j : ℕ) → put r k v j < 2 ^ 64
put-below r zero v h p j = h j
put-below r (suc k) v h p j = if-below (eqb j (suc k)) v (r j) (2 ^ 64) p (h j)

pub get-below : (r : ℕ → ℕ) (k : ℕ) → ((j : ℕ) → r j < 2 ^ 64) → get r k < 2 ^ 64
get-below r zero h = omega arith
get-below r (suc k) h = h (suc k)

-- ---- as a list

get_or-registers_from : (n first j : ℕ) (r : ℕ → ℕ) → j < n → get_or (registers_from n first r) j 0 ≡ r (first + j)
get_or-registers_from zero first j r h = absurd (omega arith)
get_or-registers_from (suc n) first zero r h = ap r (omega arith)
get_or-registers_from (suc n) first (suc j) r h = get_or-registers_from n (suc first) j r (omega arith) ∙ ap r (omega arith)

registers_from-agree : (n first : ℕ) (f g : ℕ → ℕ) → ((j : ℕ) → first ≤ j → f j ≡ g j) → registers_from n first f ≡ registers_from n first g
registers_from-agree zero first f g h = refl
registers_from-agree (suc n) first f g h = ap₂ (λ x l. x ∷ l) (h first (omega arith)) (registers_from-agree n (suc first) f g (λ j le. h j (omega arith)))

set-registers_from :
    (n first j k v : ℕ) (r : ℕ → ℕ) → k ≡ first + j →
    set (registers_from n first r) j v ≡ registers_from n first (λ i. cond (eqb i k) v (r i))
set-registers_from zero first j k v r e = refl
set-registers_from (suc n) first zero k v r e =
    let x : eqb first k ≡ true = eq-eqb _ _ (omega arith) in
    rw x (ap (λ l. v ∷ l) (registers_from-agree n (suc first) r _ (λ j le. let y : eqb j k ≡ false = ne_eqb _ _ (omega arith) in rw y refl)))
set-registers_from (suc n) first (suc j) k v r e =
    let x : eqb first k ≡ false = ne_eqb _ _ (omega arith) in
    rw x (ap (λ l. r first ∷ l) (set-registers_from n (suc first) j k v r (omega arith)))

-- a register reads the same from the list
pub register-register_list : (r : ℕ → ℕ) (k : ℕ) → k < 32 → register (register_list r) k ≡ get r k
unfolding register_list
register-register_list r zero h = refl
register-register_list r (suc k) h = get_or-registers_from 32 0 (suc k) r h ∙ ap r (omega arith)

-- and is written the same to it
pub with_register-register_list : (r : ℕ → ℕ) (k v : ℕ) → with_register (register_list r) k v ≡ register_list (put r k v)
unfolding register_list
with_register-register_list r zero v = refl
with_register-register_list r (suc k) v = set-registers_from 32 0 (suc k) (suc k) v r (omega arith)
