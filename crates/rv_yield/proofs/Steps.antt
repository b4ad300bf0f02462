-- Runs of single instructions, and of a branch to a label, from one known state to the next.
use Rattle.std.proofs.Common.{◌≡◌, ◌≢◌, ◌⊎◌, ⊎_elim, ℕ, zero, suc, ◌+◌, ◌^◌, ◌<◌, ◌≤◌, true, false, List, ◌∷◌, Option, Some, None, ℤ, pos, FitsSigned, refl, ◌∙◌, arith, inl, inr, w64}
use Rattle.rv_code.specs.Arithmetic.{unsigned, operation, immediate_operation, shift_operation}
use Rattle.rv_code.specs.declared.instruction.BranchOp.{BranchOp}
use Rattle.rv_code.specs.declared.instruction.Inst.{Inst}
use Rattle.rv_code.specs.declared.instruction.Inst.TheVariants.{Op, OpImm, Shift, Branch}
use Rattle.rv_code.specs.declared.instruction.OpOp.{OpOp}
use Rattle.rv_code.specs.declared.instruction.OpImmOp.{OpImmOp}
use Rattle.rv_code.specs.declared.instruction.ShiftOp.{ShiftOp}
use Rattle.rv_asm.specs.Arrivals.{moved, moved_with, holds}
use Rattle.rv_asm.specs.Assembly.{address_of, far_jump, opposite}
use Rattle.rv_asm.specs.WordMachine.{WordState, Goes, get, put, run_words, instruction_at, Has}
use Rattle.rv_asm.proofs.LabelsArrive.{over-runs, into-runs, far_jump-runs}
use Rattle.rv_asm.proofs.Registers.{put-other, put-same}
use Rattle.rv_asm.proofs.Stretches.{then-runs}
use Rattle.action_terms.specs.Information.{Datum, Number}

-- a register is set, and the next instruction follows
abbrev pub written : WordState → (register value : ℕ) → WordState
written c rd v = record c { pc = c.pc + 4; registers = put c.registers rd v }

-- a register that was written reads as what was written
pub get-written : (r : ℕ → ℕ) (k v : ℕ) → 0 < k → get (put r k v) k ≡ v
get-written r zero v h = absurd (omega arith)
get-written r (suc k) v h = put-same r k v

pub put-written : (r : ℕ → ℕ) (k v : ℕ) → 0 < k → put r k v k ≡ v
put-written r zero v h = absurd (omega arith)
put-written r (suc k) v h = put-same r k v

module _ (base : ℕ) (code : List Inst) where
  -- ---- one instruction

  pub op-runs :
      (c : WordState) (o : OpOp) (rd a b x y : ℕ) → instruction_at code c.pc ≡ Some (Op o rd a b) →
      get c.registers a ≡ x → get c.registers b ≡ y → run_words base code 1 c ≡ Goes (written c rd (operation o x y))
  op-runs c o rd a b x y h p q = rw (h, p, q) refl

  pub immediate-runs :
      (c : WordState) (o : OpImmOp) (rd a x : ℕ) (z : ℤ) → instruction_at code c.pc ≡ Some (OpImm o rd a z) →
      get c.registers a ≡ x → run_words base code 1 c ≡ Goes (written c rd (immediate_operation o x z))
  immediate-runs c o rd a x z h p = rw (h, p) refl

  pub shift-runs :
      (c : WordState) (o : ShiftOp) (rd a x k : ℕ) → instruction_at code c.pc ≡ Some (Shift o rd a k) →
      get c.registers a ≡ x → run_words base code 1 c ≡ Goes (written c rd (shift_operation o x k))
  shift-runs c o rd a x k h p = rw (h, p) refl

  -- ---- some instructions

  -- so many instructions lead from one state to another. Of the registers below 26 one may have changed
  pub record Ran (count to : ℕ) (c e : WordState) : Type 0 where
    pub runs : run_words base code count c ≡ Goes e
    pub others : (j : ℕ) → j < 26 → j ≢ to → e.registers j ≡ c.registers j
    pub words : e.words ≡ c.words
    pub input : e.input ≡ c.input
    pub output : e.output ≡ c.output

  pub ran-none : (to : ℕ) (c : WordState) → Ran 0 to c c
  ran-none to c = record { runs = refl; others = λ j lt n. refl; words = refl; input = refl; output = refl }

  -- and one more, which sets a register
  pub ran-set :
      (k to : ℕ) (c e : WordState) (rd v : ℕ) → (rd ≡ to) ⊎ (26 ≤ rd) → Ran k to c e →
      run_words base code 1 e ≡ Goes (written e rd v) → Ran (k + 1) to c (written e rd v)
  ran-set k to c e rd v own r one = record {
    runs = then-runs base code k 1 c e (written e rd v) r.runs one;
    others = λ j lt n. put-other e.registers j rd v (⊎_elim (λ same. λ q. n (q ∙ same)) (λ above. omega arith) own) ∙ r.others j lt n;
    words = r.words;
    input = r.input;
    output = r.output;
  }

  -- and one more, a branch that isn't taken
  pub ran-passed :
      (k to : ℕ) (c e : WordState) (o : BranchOp) (x y m : ℕ) → m < 2 ^ 28 → e.pc ≡ address_of m →
      instruction_at code e.pc ≡ Some (Branch (opposite o) x y (pos 12)) → holds o x y e ≡ false → Ran k to c e →
      Ran (k + 1) to c (moved e (m + 3))
  ran-passed k to c e o x y m below here stands untaken r = record {
    runs = then-runs base code k 1 c e (moved e (m + 3)) r.runs (over-runs base code o x y m below e here stands untaken);
    others = r.others;
    words = r.words;
    input = r.input;
    output = r.output;
  }

  -- and three more, a branch that is taken
  pub branch-taken :
      (e : WordState) (o : BranchOp) (x y m l : ℕ) → m + 1 < 2 ^ 28 → l < 2 ^ 28 → e.pc ≡ address_of m →
      Has code e.pc (Branch (opposite o) x y (pos 12) ∷ far_jump (m + 1) l) → holds o x y e ≡ true →
      (v : ℕ) × (run_words base code 3 e ≡ Goes (moved_with e l 31 v))
  branch-taken e o x y m l below to_below here stands taken =
      let d = record e { pc = e.pc + 4 } in
      let there : d.pc ≡ address_of (m + 1) = omega (arith, here) in
      (_, then-runs base code 1 2 e d _ (into-runs base code o x y m (omega arith) e here stands.0 taken) (far_jump-runs base code (m + 1) l below to_below d there stands.1))

  -- ---- what code of a yielder comes to

  -- at most so many instructions lead to an address, and of the registers below `free` one may have changed
  pub record Arrives (limit to free : ℕ) (c : WordState) (address : ℕ) : Type 0 where
    pub count : ℕ
    pub few : count ≤ limit
    pub end : WordState
    pub runs : run_words base code count c ≡ Goes end
    pub at : end.pc ≡ address
    pub others : (k : ℕ) → k < free → k ≢ to → end.registers k ≡ c.registers k
    pub words : end.words ≡ c.words
    pub input : end.input ≡ c.input
    pub output : end.output ≡ c.output

  -- an integer is yielded and its word is in the register, or nothing is and the code has gone elsewhere
  pub data Outcome (limit to free : ℕ) (c : WordState) (next nothing : ℕ) : Option Datum → Type 0 where
    Yielded : (n : ℤ) → FitsSigned w64 n → (a : Arrives limit to free c next) → a.end.registers to ≡ unsigned n → Outcome limit to free c next nothing (Some (Number n))
    NotYielded : Arrives limit to free c nothing → Outcome limit to free c next nothing None

  unfoldable pub ran-arrives : (k limit to free : ℕ) (c e : WordState) (address : ℕ) → Ran k to c e → k ≤ limit → free ≤ 26 → e.pc ≡ address → Arrives limit to free c address
  ran-arrives k limit to free c e address r few low there = record {
    count = k;
    few = few;
    end = e;
    runs = r.runs;
    at = there;
    others = λ j lt n. r.others j (omega arith) n;
    words = r.words;
    input = r.input;
    output = r.output;
  }

  pub ran-yields :
      (k limit to free : ℕ) (c e : WordState) (next nothing : ℕ) (z : ℤ) → Ran k to c e → k ≤ limit → free ≤ 26 → e.pc ≡ next →
      FitsSigned w64 z → e.registers to ≡ unsigned z → Outcome limit to free c next nothing (Some (Number z))
  unfolding ran-arrives
  ran-yields k limit to free c e next nothing z r few low there fits value =
      Yielded z fits (ran-arrives k limit to free c e next r few low there) value

  pub ran-leaves :
      (k limit to free : ℕ) (c e : WordState) (o : BranchOp) (x y m l : ℕ) → m + 1 < 2 ^ 28 → l < 2 ^ 28 → e.pc ≡ address_of m →
      Has code e.pc (Branch (opposite o) x y (pos 12) ∷ far_jump (m + 1) l) → holds o x y e ≡ true →
      Ran k to c e → k + 3 ≤ limit → free ≤ 26 → Arrives limit to free c (address_of l)
  ran-leaves k limit to free c e o x y m l below to_below here stands taken r few low =
      let b = branch-taken e o x y m l below to_below here stands taken in
      record {
        count = k + 3;
        few = few;
        end = moved_with e l 31 b.0;
        runs = then-runs base code k 3 c e _ r.runs b.1;
        at = refl;
        others = λ j lt n. put-other e.registers j 31 b.0 (omega arith) ∙ r.others j (omega arith) n;
        words = r.words;
        input = r.input;
        output = r.output;
      }

  -- ---- one after another

  unfoldable pub arrives-then :
      (l1 l2 limit to1 to2 to free1 free2 free : ℕ) (c : WordState) (p q : ℕ) → (a : Arrives l1 to1 free1 c p) → Arrives l2 to2 free2 a.end q →
      l1 + l2 ≤ limit → free ≤ free1 → free ≤ free2 → (to1 ≡ to) ⊎ (free ≤ to1) → (to2 ≡ to) ⊎ (free ≤ to2) → Arrives limit to free c q
  arrives-then l1 l2 limit to1 to2 to free1 free2 free c p q a b few low1 low2 own1 own2 = record {
    count = a.count + b.count;
    few = omega (arith, a.few, b.few);
    end = b.end;
    runs = then-runs base code a.count b.count c a.end b.end a.runs b.runs;
    at = b.at;
    others = λ k lt n. b.others k (omega arith) (apart k to2 lt n own2) ∙ a.others k (omega arith) (apart k to1 lt n own1);
    words = b.words ∙ a.words;
    input = b.input ∙ a.input;
    output = b.output ∙ a.output;
  }
    where
      apart : (k t : ℕ) → k < free → k ≢ to → (t ≡ to) ⊎ (free ≤ t) → k ≢ t
      apart k t lt n own = ⊎_elim (λ same. λ e. n (e ∙ same)) (λ above. omega arith) own

  pub arrives-weaker :
      (l1 limit to1 to free1 free : ℕ) (c : WordState) (p : ℕ) → Arrives l1 to1 free1 c p → l1 ≤ limit → free ≤ free1 → (to1 ≡ to) ⊎ (free ≤ to1) → Arrives limit to free c p
  arrives-weaker l1 limit to1 to free1 free c p a few low own = record {
    count = a.count;
    few = omega (arith, a.few);
    end = a.end;
    runs = a.runs;
    at = a.at;
    others = λ k lt n. a.others k (omega arith) (⊎_elim (λ same. λ e. n (e ∙ same)) (λ above. omega arith) own);
    words = a.words;
    input = a.input;
    output = a.output;
  }

  pub outcome-then :
      (l1 l2 limit to1 to free1 free2 free : ℕ) (c : WordState) (p next nothing : ℕ) (v : Option Datum) → (a : Arrives l1 to1 free1 c p) → Outcome l2 to free2 a.end next nothing v →
      l1 + l2 ≤ limit → free ≤ free1 → free ≤ free2 → (to1 ≡ to) ⊎ (free ≤ to1) → Outcome limit to free c next nothing v
  unfolding arrives-then
  outcome-then l1 l2 limit to1 to free1 free2 free c p next nothing v a (Yielded n fits b value) few low1 low2 own =
      Yielded n fits (arrives-then l1 l2 limit to1 to to free1 free2 free c p next a b few low1 low2 own (inl refl)) value
  outcome-then l1 l2 limit to1 to free1 free2 free c p next nothing v a (NotYielded b) few low1 low2 own =
      NotYielded (arrives-then l1 l2 limit to1 to to free1 free2 free c p nothing a b few low1 low2 own (inl refl))

  -- what there is behind some code, and what there isn't
  pub record Present (limit to free : ℕ) (c : WordState) (next : ℕ) (v : Option Datum) : Type 0 where
    pub integer : ℤ
    pub is : v ≡ Some (Number integer)
    pub fits : FitsSigned w64 integer
    pub arrives : Arrives limit to free c next
    pub value : arrives.end.registers to ≡ unsigned integer

  pub outcome-cases :
      (limit to free : ℕ) (c : WordState) (next nothing : ℕ) (v : Option Datum) → Outcome limit to free c next nothing v →
      Present limit to free c next v ⊎ ((v ≡ None) × Arrives limit to free c nothing)
  outcome-cases limit to free c next nothing v (Yielded n fits a value) = inl (record { integer = n; is = refl; fits = fits; arrives = a; value = value })
  outcome-cases limit to free c next nothing v (NotYielded a) = inr (refl, a)
