-- What the code of a yielder comes to: its datum's word is in a register, or the code has gone elsewhere.
use Rattle.std.proofs.Common.{◌≡◌, ◌≢◌, ◌⊎◌, ℕ, ◌+◌, ◌<◌, ◌≤◌, List, length, All, Option, Some, None, refl, sym, ap, ◌∙◌, subst, arith, inl, inr}
use Rattle.rv_code.specs.declared.instruction.Inst.{Inst}
use Rattle.rv_asm.specs.DataWords.{Heap, StandsFor}
use Rattle.rv_asm.specs.WordMachine.{WordState, Goes, run_words}
use Rattle.rv_asm.proofs.Registers.{put-other}
use Rattle.action_terms.specs.Information.{Datum, Number, Binds, Data, Storage}
use Rattle.rv_yield.specs.Evaluates.{HasCells, HoldsCells, Finds}
use Rattle.rv_yield.specs.Holding.{Places, Holds, HoldsBinds}
use Rattle.rv_yield.proofs.Steps.{written, put-written, Arrives, Outcome, Yielded, NotYielded, arrives-then}

module _ (base : ℕ) (code : List Inst) (heap : Heap) where
  pub data Valued (limit to free : ℕ) (c : WordState) (next nothing : ℕ) : Option Datum → Type 0 where
    HasValue : (x : Datum) → (a : Arrives base code limit to free c next) → StandsFor base heap (a.end.registers to) x → Valued limit to free c next nothing (Some x)
    NoValue : Arrives base code limit to free c nothing → Valued limit to free c next nothing None

  -- there is a value
  pub record Known (limit to free : ℕ) (c : WordState) (next : ℕ) (v : Option Datum) : Type 0 where
    pub datum : Datum
    pub is : v ≡ Some datum
    pub arrives : Arrives base code limit to free c next
    pub stands : StandsFor base heap (arrives.end.registers to) datum

  pub valued-cases :
      (limit to free : ℕ) (c : WordState) (next nothing : ℕ) (v : Option Datum) → Valued limit to free c next nothing v →
      Known limit to free c next v ⊎ ((v ≡ None) × Arrives base code limit to free c nothing)
  valued-cases limit to free c next nothing v (HasValue x a s) = inl (record { datum = x; is = refl; arrives = a; stands = s })
  valued-cases limit to free c next nothing v (NoValue a) = inr (refl, a)

  -- the value of an operation on integers
  pub valued-integer : (limit to free : ℕ) (c : WordState) (next nothing : ℕ) (v : Option Datum) → Outcome base code limit to free c next nothing v → Valued limit to free c next nothing v
  valued-integer limit to free c next nothing v (Yielded n fits a value) = HasValue (Number n) a (value, fits)
  valued-integer limit to free c next nothing v (NotYielded a) = NoValue a

  pub valued-then :
      (l1 l2 limit to1 to free1 free2 free : ℕ) (c : WordState) (p next nothing : ℕ) (v : Option Datum) → (a : Arrives base code l1 to1 free1 c p) → Valued l2 to free2 a.end next nothing v →
      l1 + l2 ≤ limit → free ≤ free1 → free ≤ free2 → (to1 ≡ to) ⊎ (free ≤ to1) → Valued limit to free c next nothing v
  unfolding arrives-then
  valued-then l1 l2 limit to1 to free1 free2 free c p next nothing v a (HasValue x b s) few low1 low2 own =
      HasValue x (arrives-then base code l1 l2 limit to1 to to free1 free2 free c p next a b few low1 low2 own (inl refl)) s
  valued-then l1 l2 limit to1 to free1 free2 free c p next nothing v a (NoValue b) few low1 low2 own =
      NoValue (arrives-then base code l1 l2 limit to1 to to free1 free2 free c p nothing a b few low1 low2 own (inl refl))

  -- one instruction that sets the register to the word of a datum
  pub sets-value :
      (limit to free : ℕ) (c : WordState) (w next nothing : ℕ) (x : Datum) → 0 < to → 1 ≤ limit → run_words base code 1 c ≡ Goes (written c to w) → c.pc + 4 ≡ next →
      StandsFor base heap w x → Valued limit to free c next nothing (Some x)
  sets-value limit to free c w next nothing x some few runs there s =
      let value : (written c to w).registers to ≡ w = put-written c.registers to w some in
      HasValue x
      (record { count = 1; few = few; end = written c to w; runs = runs; at = there; others = λ k lt n. sets-other k n; words = refl; input = refl; output = refl })
      (subst (λ u. StandsFor base heap u x) (sym value) s)
    where
      sets-other : (k : ℕ) → k ≢ to → (written c to w).registers k ≡ c.registers k
      sets-other k n = put-other c.registers k to w n

  -- what was found is found behind some code
  pub finds-after :
      (places : Places) (f : ℕ) (c e : WordState) (d : Data) (b : Binds) (cells : Storage) → e.registers 2 ≡ c.registers 2 → e.words ≡ c.words → Finds base heap places f c d b cells → Finds base heap places f e d b cells
  finds-after places f c e d b cells frame words h = record {
    frame = record {
      aligned = h.frame.aligned;
      below = omega (arith, h.frame.below, ap length words);
      frame = frame ∙ h.frame.frame;
    };
    inside = subst (λ ws. All (λ o. f + o < length ws) places.given) (sym words) h.inside;
    slots_inside = subst (λ ws. All (λ s. f + s.offset < length ws) places.bound) (sym words) h.slots_inside;
    holds = subst (λ ws. Holds base heap ws f places.given d) (sym words) h.holds;
    binds = subst (λ ws. HoldsBinds base heap ws f places.bound b) (sym words) h.binds;
    cells = subst (λ ws. HasCells heap (length ws)) (sym words) h.cells;
    contents = subst (λ ws. HoldsCells base heap ws cells) (sym words) h.contents;
  }
