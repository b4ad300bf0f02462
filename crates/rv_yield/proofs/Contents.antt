-- What a cell holds is loaded from its unit, or the code has gone to a label where the cell is unset.
use Rattle.std.proofs.Common.{◌≡◌, ◌⊎◌, ℕ, zero, suc, ◌+◌, ◌*◌, ◌^◌, ◌<◌, ◌≤◌, true, false, List, [], ◌∷◌, length, get_or, Option, Some, None, pos, refl, sym, ap, ◌∙◌, subst, arith, inl, inr, eqb}
use Rattle.std.specs.Prelude.{slice_get}
use Rattle.std.proofs.lemmas.Option.{slice_get_within}
use Rattle.rv_code.specs.declared.instruction.Inst.{Inst}
use Rattle.rv_code.specs.declared.instruction.Inst.TheVariants.{Load}
use Rattle.rv_code.specs.declared.instruction.LoadOp.TheVariants.{Ld}
use Rattle.rv_code.specs.declared.instruction.BranchOp.TheVariants.{Beq}
use Rattle.rv_asm.specs.Arrivals.{moved, holds}
use Rattle.rv_asm.specs.Assembly.{address_of, code_from}
use Rattle.rv_asm.specs.DataWords.{Heap, StandsFor}
use Rattle.rv_asm.specs.WordMachine.{WordState, Goes, get, run_words, Has}
use Rattle.rv_asm.proofs.Registers.{get-above, put-other}
use Rattle.rv_asm.proofs.Words.{IsReachable, load-runs}
use Rattle.action_terms.specs.Information.{Datum, Number, Truth, CellOf, Closure, Binds, Data, Storage}
use Rattle.action_terms.specs.Suited.{IsOfSort}
use Rattle.action_terms.specs.Yielding.{and_then, of_sort, set_content, stored}
use Rattle.action_terms.specs.declared.kinds.Sort.{Sort}
use Rattle.action_terms.specs.declared.kinds.Sort.TheVariants as sort
use Rattle.rv_yield.specs.Evaluates.{HasFrame, Finds}
use Rattle.rv_yield.specs.Holding.{Places, HoldsContent}
use Rattle.rv_yield.specs.YielderCode.{content_items}
use Rattle.rv_yield.proofs.Checks.{IsValue}
use Rattle.rv_yield.proofs.Given.{sort-same}
use Rattle.rv_yield.proofs.Steps.{written, put-written, Ran, ran-none, ran-set, ran-passed, ran-leaves, ran-arrives}
use Rattle.rv_yield.proofs.Valued.{Valued, HasValue, NoValue}

module _
    (base : ℕ) (code : List Inst) (heap : Heap) (at : ℕ → ℕ) (n to free l : ℕ) (c : WordState) (wanted : IsValue to) (low : free ≤ 26) (near : n + 5 < 2 ^ 28 + 1) (l_near : at l < 2 ^ 28) (here : c.pc ≡ address_of n)
    (a place f : ℕ) (value : IsValue a) (frame : HasFrame base f c) (address : c.registers a ≡ base + 8 * place) (inside : place + 1 < length c.words)
  where
    -- what comes of the code
    abbrev Gives : Option Datum → Type 0
    Gives v = Valued base code heap 12 to free c (address_of (n + 5)) (address_of (at l)) v

    abbrev pub flag : ℕ
    flag = get_or c.words (place + 0) 0

    flag-is : flag ≡ get_or c.words place 0
    flag-is = let same : place + 0 ≡ place = omega arith in ap (λ p. get_or c.words p 0) same

    -- behind the load of the first word
    abbrev pub c1 : WordState
    c1 = written c 29 flag

    reach : (distance : ℕ) → distance < 2 → IsReachable base c a place distance
    reach distance few = record { aligned = frame.aligned; below = omega (arith, frame.below); is = get-above c.registers a value.0 ∙ address; inside = omega (arith, inside) }

    module _ (h : Has code c.pc (code_from at n (content_items to a l))) where
      flagged : Ran base code 1 to c c1
      flagged = ran-set base code 0 to c c 29 flag (inr (omega arith)) (ran-none base code to c) (load-runs base code c 29 a place 0 (reach 0 (omega arith)) h.0)

      flag-tested : (w : ℕ) → get_or c.words place 0 ≡ w → holds Beq 29 0 c1 ≡ eqb w 0
      flag-tested w e = ap (λ v. eqb v 0) (put-written c.registers 29 flag (omega arith) ∙ flag-is ∙ e)

      -- an unset cell
      unset-goes : get_or c.words place 0 ≡ 0 → Gives None
      unset-goes e =
          let pc : c1.pc ≡ address_of (n + 1) = omega (arith, here) in
          NoValue
          (ran-leaves base code 1 12 to free c c1 Beq 29 0 (n + 1) (at l) (omega (arith, near)) l_near pc (h.1.0, (h.1.1.0, (h.1.1.1.0, tt))) (flag-tested 0 e) flagged (omega arith) low)

      -- a cell that is set
      set-loads : (x : Datum) → get_or c.words place 0 ≡ 1 → StandsFor base heap (get_or c.words (place + 1) 0) x → Gives (Some x)
      unfolding ran-arrives
      set-loads x e stands =
          let pc : c1.pc ≡ address_of (n + 1) = omega (arith, here) in
          let c2 = moved c1 (n + 1 + 3) in
          let w = get_or c.words (place + 1) 0 in
          let passed = ran-passed base code 1 to c c1 Beq 29 0 (n + 1) (omega (arith, near)) pc h.1.0 (flag-tested 1 e) flagged in
          let there : c.pc + 4 + 4 + 4 + 4 ≡ c2.pc = omega (arith, here) in
          let last = subst (λ p. Has code p (Load Ld to a (pos (8 * 1)) ∷ [])) there h.1.1.1.1 in
          let same : get c2.registers a ≡ base + 8 * place = get-above c2.registers a value.0 ∙ put-other c.registers a 29 flag (omega (arith, value.1)) ∙ address in
          let second : IsReachable base c2 a place 1 = record { aligned = frame.aligned; below = omega (arith, frame.below); is = same; inside = inside } in
          let loaded = ran-set base code 2 to c c2 to w (inl refl) passed (load-runs base code c2 to a place 1 second last.0) in
          HasValue x (ran-arrives base code 3 12 to free c (written c2 to w) (address_of (n + 5)) loaded (omega arith) low (omega arith))
          (subst (λ v. StandsFor base heap v x) (sym (put-written c2.registers to w wanted.0)) stands)

      pub content-loads : (o : Option Datum) → HoldsContent base heap c.words place o → Gives o
      content-loads None e = unset-goes e
      content-loads (Some x) e = set-loads x e.0 e.1

-- ---- what a yielder of a cell finds

past : {X : Type 0} (xs : List X) (k : ℕ) → slice_get xs k ≡ None → length xs ≤ k
past [] k e = omega arith
past (x ∷ xs) zero e = absurd (cc)
past (x ∷ xs) (suc k) e = omega (arith, past xs k e)

-- a set cell's content is what it holds
same : (o : Option Datum) → o ≡ set_content (Some o)
same None = refl
same (Some x) = refl

-- one after the other, however they are put together
pub and_then-nested : (o : Option Datum) (f g : Datum → Option Datum) → and_then (and_then o f) g ≡ and_then o (λ x. and_then (f x) g)
and_then-nested None f g = refl
and_then-nested (Some x) f g = refl

module _
    (base : ℕ) (code : List Inst) (heap : Heap) (at : ℕ → ℕ) (to free l : ℕ) (wanted : IsValue to) (a : ℕ) (value : IsValue a) (low : free ≤ 26) (l_near : at l < 2 ^ 28)
    (places : Places) (f : ℕ) (d : Data) (b : Binds) (cells : Storage) (s : Sort)
  where
    -- the content of a cell whose address is in the register
    pub content-comes :
        (n : ℕ) (c : WordState) (x : Datum) → n + 5 < 2 ^ 28 + 1 → c.pc ≡ address_of n → IsOfSort sort.Cell (Some x) → IsOfSort s (stored cells x) → StandsFor base heap (c.registers a) x →
        Finds base heap places f c d b cells → Has code c.pc (code_from at n (content_items to a l)) →
        Valued base code heap 12 to free c (address_of (n + 5)) (address_of (at l)) (and_then (stored cells x) (of_sort s))
    content-comes n c (CellOf k) near here cell sorted stands finds h =
        subst (Valued base code heap 12 to free c (address_of (n + 5)) (address_of (at l))) (sym (sort-same s (stored cells (CellOf k)) sorted)) (by (slice_get cells k) refl)
      where
        by : (o : Option (Option Datum)) → slice_get cells k ≡ o → Valued base code heap 12 to free c (address_of (n + 5)) (address_of (at l)) (stored cells (CellOf k))
        by None e = absurd (omega (arith, slice_get_within heap.cells k stands.place stands.listed, finds.contents.many, past cells k e))
        by (Some o) e =
            subst (Valued base code heap 12 to free c (address_of (n + 5)) (address_of (at l))) (same o ∙ sym (ap set_content e))
            (content-loads base code heap at n to free l c wanted low near l_near here a stands.place f value finds.frame stands.is (finds.cells.inside k stands.place stands.listed) h o (finds.contents.content k stands.place o stands.listed e))
    content-comes n c (Number z) near here cell sorted stands finds h = absurd (cc)
    content-comes n c (Truth t) near here cell sorted stands finds h = absurd (cc)
    content-comes n c (Closure k bs own) near here cell sorted stands finds h = absurd (cc)
