-- Jumps and branches arrive at their labels, and addresses are those of their labels.
use Rattle.std.proofs.Common.{◌≡◌, ℕ, zero, suc, ◌+◌, ◌-◌, ◌*◌, ◌%◌, ◌^◌, ◌<◌, ◌≤◌, Bool, true, false, not, List, [], ◌∷◌, ◌++◌, length, Some, pos, refl, sym, ap, ap₂, ◌∙◌, subst, arith, eqb, eq-eqb, zero-add, append-nil}
use Rattle.std.specs.Prelude.{int_lt, nat_lt}
use Rattle.rv_code.specs.Arithmetic.{wrap, unsigned, signed, is_taken}
use Rattle.rv_code.specs.declared.instruction.BranchOp.{BranchOp}
use Rattle.rv_code.specs.declared.instruction.BranchOp.TheVariants.{Beq, Bne, Blt, Bge, Bltu, Bgeu}
use Rattle.rv_code.specs.declared.instruction.Inst.{Inst}
use Rattle.rv_code.specs.declared.instruction.Inst.TheVariants.{Branch}
use Rattle.rv_asm.specs.declared.item.Item.{Item}
use Rattle.rv_asm.specs.declared.item.Item.TheVariants.{Mark, Jump, BranchTo, Address}
use Rattle.rv_asm.specs.WordMachine.{WordState, Goes, get, put, run_words, instruction_at, Has}
use Rattle.rv_asm.specs.Assembly.{size, total, spot, address_of, far_high, far_low, far_jump, far_address, opposite, instructions, code_from, code_of, are_placed_once}
use Rattle.rv_asm.specs.Arrivals.{Leads, IsAt, moved, moved_with, holds, LabelsStand, JumpsArrive, TakenBranchesArrive, OtherBranchesPass, AddressesLoad}
use Rattle.rv_asm.proofs.Places.{Has-part}
use Rattle.rv_asm.proofs.Registers.{get-put_same, put-put}
use Rattle.rv_asm.proofs.Stretches.{then-runs}
use Rattle.rv_asm.proofs.Bridge.{run-goes}
use Rattle.rv_asm.proofs.Distances.{far-adds}
use Rattle.rv_asm.proofs.Labels.{length-code, code-append, spot_le-total, total-append, spot-placed}
use Rattle.rv_asm.proofs.LabelsKept.{once-split}

-- ---- instructions in the code

-- a piece of what was emitted stands in the code, with its labels resolved as in the whole
pub piece-stands :
    (items before piece behind : List Item) → items ≡ before ++ (piece ++ behind) →
    Has (code_of items) (address_of (total before)) (code_from (spot items) (total before) piece)
piece-stands items before piece behind e =
    let at = spot items in
    let first = code_from at 0 before in
    let part = code_from at (total before) piece in
    let last = code_from at (total before + total piece) behind in
    let whole : code_of items ≡ first ++ (part ++ last) =
    ap (code_from at 0) e ∙ code-append at 0 before (piece ++ behind)
    ∙ ap (λ n. first ++ code_from at n (piece ++ behind)) (zero-add (total before))
    ∙ ap (λ is. first ++ is) (code-append at (total before) piece behind) in
    let stands : Has (first ++ (part ++ last)) (65536 + 4 * length first) part = Has-part first part last in
    subst (λ code. Has code (address_of (total before)) part) (sym whole)
    (subst (λ n. Has (first ++ (part ++ last)) (65536 + 4 * n) part) (length-code at 0 before) stands)

-- ---- two instructions that add a distance

module _
    (base : ℕ) (code : List Inst) (n to : ℕ) (from_below : n < 2 ^ 28) (to_below : to < 2 ^ 28) (c : WordState)
    (here : c.pc ≡ address_of n)
  where
    abbrev high : ℕ
    high = wrap (c.pc + unsigned (far_high n to))

    sum-is : wrap (high + unsigned (far_low n to)) ≡ address_of to
    sum-is =
        ap (λ p. wrap (wrap (p + unsigned (far_high n to)) + unsigned (far_low n to))) here ∙ far-adds n to from_below to_below

    pub far_jump-runs : Has code c.pc (far_jump n to) → run_words base code 2 c ≡ Goes (moved_with c to 31 high)
    far_jump-runs h =
        let target = wrap (high + unsigned (far_low n to)) in
        let even : target - target % 2 ≡ address_of to = omega (arith, sum-is) in
        let aligned : eqb (address_of to % 4) 0 ≡ true = eq-eqb _ _ (omega arith) in
        rw (h.0, h.1.0, even, aligned) refl

    -- the address in register d + 1
    pub far_address-runs :
        (d : ℕ) → Has code c.pc (far_address (suc d) n to) →
        run_words base code 2 c ≡ Goes (moved_with c (n + 2) (suc d) (address_of to))
    far_address-runs d h =
        let written : wrap (get (put c.registers (suc d) high) (suc d) + unsigned (far_low n to)) ≡ address_of to =
        ap (λ x. wrap (x + unsigned (far_low n to))) (get-put_same c.registers d high) ∙ sum-is in
        let registers : put (put c.registers (suc d) high) (suc d) (wrap (get (put c.registers (suc d) high) (suc d) + unsigned (far_low n to))) ≡ put c.registers (suc d) (address_of to) =
        ap (put (put c.registers (suc d) high) (suc d)) written ∙ put-put c.registers (suc d) high (address_of to) in
        let there : c.pc + 4 + 4 ≡ address_of (n + 2) = omega (arith, here) in
        rw (h.0, h.1.0) (ap₂ (λ p r. Goes (record c { pc = p; registers = r })) there registers)

-- ---- the opposite comparison

not-not : (b : Bool) → not (not b) ≡ b
not-not true = refl
not-not false = refl

pub opposite-is_taken : (o : BranchOp) (a b : ℕ) → is_taken (opposite o) a b ≡ not (is_taken o a b)
opposite-is_taken Beq a b = refl
opposite-is_taken Bne a b = sym (not-not (eqb a b))
opposite-is_taken Blt a b = refl
opposite-is_taken Bge a b = sym (not-not (int_lt (signed a) (signed b)))
opposite-is_taken Bltu a b = refl
opposite-is_taken Bgeu a b = sym (not-not (nat_lt a b))

module _
    (base : ℕ) (code : List Inst) (o : BranchOp) (a b n : ℕ) (below : n < 2 ^ 28) (c : WordState)
    (here : c.pc ≡ address_of n) (stands : instruction_at code c.pc ≡ Some (Branch (opposite o) a b (pos 12)))
  where
    -- over the jump
    pub over-runs : holds o a b c ≡ false → run_words base code 1 c ≡ Goes (moved c (n + 3))
    over-runs untaken =
        let taken : holds (opposite o) a b c ≡ true =
        opposite-is_taken o (get c.registers a) (get c.registers b) ∙ ap not untaken in
        let target : wrap (c.pc + unsigned (pos 12)) ≡ address_of (n + 3) = omega (arith, here, below) in
        let aligned : eqb (address_of (n + 3) % 4) 0 ≡ true = eq-eqb _ _ (omega arith) in
        rw (stands, taken, target, aligned) refl

    -- into the jump
    pub into-runs : holds o a b c ≡ true → run_words base code 1 c ≡ Goes (record c { pc = c.pc + 4 })
    into-runs taken =
        let untaken : holds (opposite o) a b c ≡ false =
        opposite-is_taken o (get c.registers a) (get c.registers b) ∙ ap not taken in
        rw (stands, untaken) refl

-- ---- items

-- a run of words is a run of the machine of the table
leads :
    (code : List Inst) (n : ℕ) (c d : WordState) → ((base : ℕ) → run_words base code n c ≡ Goes d) → Leads code n c d
leads code n c d runs = record {
  words = runs;
  table = λ base count layout bounded. (run-goes base code count layout n c d bounded (runs base)).0;
}

module _ (items : List Item) (room : 4 * total items < 1073741824) where
  spot-below : (l : ℕ) → spot items l < 2 ^ 28
  spot-below l = omega (arith, spot_le-total items l)

  before-below : (before behind : List Item) (i : Item) → items ≡ before ++ (i ∷ behind) → total before + size i ≤ total items
  before-below before behind i e = omega (arith, ap total e, total-append before (i ∷ behind))

  -- the instructions of an item at its place
  stands :
      (before behind : List Item) (i : Item) (c : WordState) → IsAt items before i behind c →
      Has (code_of items) c.pc (instructions (spot items) (total before) i)
  stands before behind i c at =
      let n = total before in
      let there : Has (code_of items) (address_of n) (instructions (spot items) n i) =
      subst (Has (code_of items) (address_of n)) (append-nil (instructions (spot items) n i))
      (piece-stands items before (i ∷ []) behind at.emitted) in
      subst (λ p. Has (code_of items) p (instructions (spot items) n i)) (sym at.pc) there

  pub jumps-arrive : JumpsArrive items
  jumps-arrive before behind l c at =
      let n = total before in
      let below : n < 2 ^ 28 = omega (arith, before-below before behind (Jump l) at.emitted) in
      let h = stands before behind (Jump l) c at in
      let runs = λ (base : ℕ). far_jump-runs base (code_of items) n (spot items l) below (spot-below l) c at.pc h in
      (wrap (c.pc + unsigned (far_high n (spot items l))), leads (code_of items) 2 c _ runs)

  pub taken-arrive : TakenBranchesArrive items
  taken-arrive before behind op rs1 rs2 l c at taken =
      let n = total before in
      let to = spot items l in
      let below : n + 3 < 2 ^ 28 = omega (arith, before-below before behind (BranchTo op rs1 rs2 l) at.emitted) in
      let h = stands before behind (BranchTo op rs1 rs2 l) c at in
      let next = record c { pc = c.pc + 4 } in
      let there : c.pc + 4 ≡ address_of (n + 1) = omega (arith, at.pc) in
      let first = λ (base : ℕ). into-runs base (code_of items) op rs1 rs2 n (omega arith) c at.pc h.0 taken in
      let rest = λ (base : ℕ). far_jump-runs base (code_of items) (n + 1) to (omega arith) (spot-below l) next there h.1 in (
        wrap (c.pc + 4 + unsigned (far_high (n + 1) to)),
        leads (code_of items) 3 c _ (λ base. then-runs base (code_of items) 1 2 c next _ (first base) (rest base)),
      )

  pub others-pass : OtherBranchesPass items
  others-pass before behind op rs1 rs2 l c at untaken =
      let n = total before in
      let below : n + 3 < 2 ^ 28 = omega (arith, before-below before behind (BranchTo op rs1 rs2 l) at.emitted) in
      let h = stands before behind (BranchTo op rs1 rs2 l) c at in
      leads (code_of items) 1 c _ (λ base. over-runs base (code_of items) op rs1 rs2 n (omega arith) c at.pc h.0 untaken)

  pub addresses-load : AddressesLoad items
  addresses-load before behind zero l c at some = absurd (some refl)
  addresses-load before behind (suc d) l c at some =
      let n = total before in
      let below : n < 2 ^ 28 = omega (arith, before-below before behind (Address (suc d) l) at.emitted) in
      let h = stands before behind (Address (suc d) l) c at in
      leads (code_of items) 2 c _
      (λ base. far_address-runs base (code_of items) n (spot items l) below (spot-below l) c at.pc d h)

  pub labels-stand : are_placed_once items ≡ true → LabelsStand items
  labels-stand once before behind l e =
      let here : are_placed_once (before ++ (Mark l ∷ behind)) ≡ true = rw (← e) once in
      ap (λ is. spot is l) e ∙ spot-placed before behind l (once-split before behind l here)
