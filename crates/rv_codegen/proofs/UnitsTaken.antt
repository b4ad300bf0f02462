-- Units are taken: for one more cell, or for one more closure.
use Rattle.std.proofs.Common.{◌≡◌, ◌⊎◌, ℕ, zero, suc, ◌+◌, ◌*◌, ◌<◌, ◌≤◌, List, [], ◌∷◌, ◌++◌, Option, Some, None, length, get_or, refl, sym, ap, ◌∙◌, subst, arith, inl, inr, ⊎_elim, length-append}
use Rattle.std.specs.Prelude.{slice_get}
use Rattle.std.proofs.Math.Seq.{get_or-append_seam}
use Rattle.std.proofs.lemmas.List.{get_or_append_left}
use Rattle.std.proofs.lemmas.Option.{none-some, same_Some, slice_get_within, slice_get-get_or, get_or_from_slice_get}
use Rattle.rv_asm.specs.DataWords.{Heap, PlacedClosure, StandsFor}
use Rattle.action_terms.specs.Information.{Datum, CellOf, Closure, Storage}
use Rattle.action_terms.proofs.Each.{slice_get-append_cases}
use Rattle.rv_codegen.proofs.Holding.{Grows}
use Rattle.rv_codegen.proofs.Settings.{Setting}
use Rattle.rv_codegen.proofs.Units.{closure_units, ClosureWords, CellWords, HeapHeld, Spent, cell-words-kept, closure-words-kept}

-- ---- lists with one more element

still_there : {X : Type 0} (xs : List X) (y x : X) (i : ℕ) → slice_get xs i ≡ Some x → slice_get (xs ++ y ∷ []) i ≡ Some x
still_there xs y x i e =
    let lt = slice_get_within xs i x e in
    slice_get-get_or (xs ++ y ∷ []) i x (omega (arith, lt, length-append xs (y ∷ []))) ∙ ap Some (get_or_append_left xs (y ∷ []) x i lt ∙ get_or_from_slice_get xs i x x e)

new_there : {X : Type 0} (xs : List X) (y : X) → slice_get (xs ++ y ∷ []) (length xs) ≡ Some y
new_there xs y = slice_get-get_or (xs ++ y ∷ []) (length xs) y (omega (arith, length-append xs (y ∷ []))) ∙ ap Some (get_or-append_seam xs y [] y)

only_one : {X : Type 0} (y x : X) (j : ℕ) → slice_get (y ∷ []) j ≡ Some x → (j ≡ 0) × (y ≡ x)
only_one y x zero e = (refl, same_Some y x e)
only_one y x (suc j) e = absurd (none-some x e)

-- an element is one of those before, or the new one
old_or_new : {X : Type 0} (xs : List X) (y x : X) (i : ℕ) → slice_get (xs ++ y ∷ []) i ≡ Some x → (slice_get xs i ≡ Some x) ⊎ ((i ≡ length xs) × (y ≡ x))
old_or_new xs y x i e = ⊎_elim (λ h. inl h.0) (λ h. let one = only_one y x h.0 h.2 in inr (omega (arith, h.1, one.0), one.1)) (slice_get-append_cases xs (y ∷ []) i x e)

-- ---- one more block

abbrev pub with_cell : Heap → ℕ → Heap
with_cell heap i = record heap { cells = heap.cells ++ i ∷ [] }

abbrev pub with_closure : Heap → PlacedClosure → Heap
with_closure heap m = record heap { closures = heap.closures ++ m ∷ [] }

-- what stands stays where it is
pub grows-cell : (heap : Heap) (i : ℕ) → Grows heap (with_cell heap i)
grows-cell heap i = record { cells = λ c j q. still_there heap.cells i j c q; closures = λ n m q. q }

pub grows-closure : (heap : Heap) (m : PlacedClosure) → Grows heap (with_closure heap m)
grows-closure heap m = record { cells = λ c j q. q; closures = λ n x q. still_there heap.closures m x n q }

-- the address of the new block is the word of its datum
pub cell-stands : (base : ℕ) (heap : Heap) (i : ℕ) → StandsFor base (with_cell heap i) (base + 8 * i) (CellOf (length heap.cells))
cell-stands base heap i = record { place = i; listed = new_there heap.cells i; is = refl }

pub closure-stands : (base : ℕ) (heap : Heap) (m : PlacedClosure) → StandsFor base (with_closure heap m) (base + 8 * m.place) (Closure m.body m.binds m.own)
closure-stands base heap m = record { place = m.place; index = length heap.closures; listed = new_there heap.closures m; is = refl }

module _ (s : Setting) where
  -- a cell is allocated: its unit is the first that is free, and unset
  pub heap-allocated : (heap : Heap) (low free : ℕ) (ws ws' : List ℕ) (cells : Storage) → low ≤ free → get_or ws' free 0 ≡ 0 → ((j : ℕ) → low ≤ j → j < free → get_or ws' j 0 ≡ get_or ws j 0) → HeapHeld s heap low free ws cells → HeapHeld s (with_cell heap free) low (free + 2) ws' (cells ++ None ∷ [])
  heap-allocated heap low free ws ws' cells lf unset e h = record {
    many = length-append heap.cells (free ∷ []) ∙ ap (λ n. n + 1) h.many ∙ sym (length-append cells (None ∷ []));
    cell = λ c i x p q. ⊎_elim (λ p'. old c i x p' q) (λ z. new c i x z q) (old_or_new heap.cells free i c p);
    closure = λ n m p. let a = h.closure_low n m p in let b = h.closure_free n m p in closure-words-kept s heap (with_cell heap free) ws ws' m (grows-cell heap free) (λ j u v. e j (omega arith) (omega arith)) (h.closure n m p);
    cell_low = λ c i p. ⊎_elim (λ q. h.cell_low c i q) (λ z. omega arith) (old_or_new heap.cells free i c p);
    cell_free = λ c i p. ⊎_elim (λ q. let a = h.cell_free c i q in omega arith) (λ z. omega arith) (old_or_new heap.cells free i c p);
    closure_low = h.closure_low;
    closure_free = λ n m p. let a = h.closure_free n m p in omega arith;
    cells_apart = λ c c' i i' p q n. ⊎_elim
        (λ p'. ⊎_elim (λ q'. h.cells_apart c c' i i' p' q' n) (λ z. let a = h.cell_free c i p' in inl (omega arith)) (old_or_new heap.cells free i' c' q))
        (λ y. ⊎_elim (λ q'. let a = h.cell_free c' i' q' in inr (omega arith)) (λ z. absurd (n (y.0 ∙ sym z.0))) (old_or_new heap.cells free i' c' q))
        (old_or_new heap.cells free i c p);
    closures_apart = λ c i n m p q. ⊎_elim (λ p'. h.closures_apart c i n m p' q) (λ z. let a = h.closure_free n m q in inr (omega arith)) (old_or_new heap.cells free i c p);
  }
    where
      before : (c : ℕ) (x : Option Datum) → c < length cells → slice_get (cells ++ None ∷ []) c ≡ Some x → slice_get cells c ≡ Some x
      before c x lt q = ⊎_elim (λ p. p) (λ z. absurd (omega arith)) (old_or_new cells None x c q)

      old : (c i : ℕ) (x : Option Datum) → slice_get heap.cells c ≡ Some i → slice_get (cells ++ None ∷ []) c ≡ Some x → CellWords s (with_cell heap free) ws' i x
      old c i x p q =
          let n = slice_get_within heap.cells c i p in
          let a = h.cell_low c i p in let b = h.cell_free c i p in
          cell-words-kept s heap (with_cell heap free) ws ws' i x (grows-cell heap free) (e i (omega arith) (omega arith)) (e (i + 1) (omega arith) (omega arith)) (h.cell c i x p (before c x (omega (arith, h.many)) q))

      is_none : (i : ℕ) (x : Option Datum) → free ≡ i → None ≡ x → CellWords s (with_cell heap free) ws' i x
      is_none i None z q = ap (λ j. get_or ws' j 0) (sym z) ∙ unset
      is_none i (Some x) z q = absurd (none-some x q)

      new : (c i : ℕ) (x : Option Datum) → (c ≡ length heap.cells) × (free ≡ i) → slice_get (cells ++ None ∷ []) c ≡ Some x → CellWords s (with_cell heap free) ws' i x
      new c i x z q =
          let a : slice_get (cells ++ None ∷ []) c ≡ Some None = ap (slice_get (cells ++ None ∷ [])) (z.0 ∙ h.many) ∙ new_there cells None in
          is_none i x z.1 (same_Some None x (sym a ∙ q))

  -- a closure is made: its units are the first that are free
  pub heap-closed : (heap : Heap) (low free : ℕ) (ws ws' : List ℕ) (cells : Storage) (m : PlacedClosure) → low ≤ free → m.place ≡ free → ClosureWords s heap ws' m → ((j : ℕ) → low ≤ j → j < free → get_or ws' j 0 ≡ get_or ws j 0) → HeapHeld s heap low free ws cells → HeapHeld s (with_closure heap m) low (free + 2 * closure_units s.bodies m.body) ws' cells
  heap-closed heap low free ws ws' cells m lf at words e h = record {
    many = h.many;
    cell = λ c i x p q. let a = h.cell_low c i p in let b = h.cell_free c i p in cell-words-kept s heap (with_closure heap m) ws ws' i x (grows-closure heap m) (e i (omega arith) (omega arith)) (e (i + 1) (omega arith) (omega arith)) (h.cell c i x p q);
    closure = λ n x p. ⊎_elim (λ q. old n x q) (λ z. subst (ClosureWords s (with_closure heap m) ws') z.1 grown) (old_or_new heap.closures m x n p);
    cell_low = h.cell_low;
    cell_free = λ c i p. let a = h.cell_free c i p in omega arith;
    closure_low = λ n x p. ⊎_elim (λ q. h.closure_low n x q) (λ z. let u = ap (λ y. y.place) z.1 in omega arith) (old_or_new heap.closures m x n p);
    closure_free = λ n x p. ⊎_elim (λ q. let a = h.closure_free n x q in omega arith) (λ z. subst (λ y. y.place + 2 * closure_units s.bodies y.body ≤ free + 2 * closure_units s.bodies m.body) z.1 (omega arith)) (old_or_new heap.closures m x n p);
    cells_apart = h.cells_apart;
    closures_apart = λ c i n x p q. ⊎_elim (λ q'. h.closures_apart c i n x p q') (λ z. let a = h.cell_free c i p in let u = ap (λ y. y.place) z.1 in inl (omega arith)) (old_or_new heap.closures m x n q);
  }
    where
      grown : ClosureWords s (with_closure heap m) ws' m
      grown = closure-words-kept s heap (with_closure heap m) ws' ws' m (grows-closure heap m) (λ j u v. refl) words

      old : (n : ℕ) (x : PlacedClosure) → slice_get heap.closures n ≡ Some x → ClosureWords s (with_closure heap m) ws' x
      old n x p = let a = h.closure_low n x p in let b = h.closure_free n x p in closure-words-kept s heap (with_closure heap m) ws ws' x (grows-closure heap m) (λ j u v. e j (omega arith) (omega arith)) (h.closure n x p)

  -- ---- and the count of those that are spent

  -- the first word behind so many units
  abbrev pub behind_units : ℕ → ℕ
  behind_units spent = 512 + s.stack + 2 * spent

  -- so many more units are counted; the words of the ends, and of the units before, are as they were
  pub record Counted (ws ws' : List ℕ) (spent more : ℕ) : Type 0 where
    pub counted : get_or ws' 4 0 ≡ spent + more
    pub ends : (j : ℕ) → 5 ≤ j → j < 8 → get_or ws' j 0 ≡ get_or ws j 0
    pub before : (j : ℕ) → 512 + s.stack ≤ j → j < behind_units spent → get_or ws' j 0 ≡ get_or ws j 0
    pub within : spent + more ≤ s.room

  spent-more : (heap heap' : Heap) (ws ws' : List ℕ) (spent more : ℕ) (cells cells' : Storage) → Counted ws ws' spent more → Spent s heap ws spent cells → HeapHeld s heap' (512 + s.stack) (behind_units spent + 2 * more) ws' cells' → Spent s heap' ws' (spent + more) cells'
  spent-more heap heap' ws ws' spent more cells cells' c h held = record {
    counted = c.counted;
    stack_end_at = c.ends 5 (omega arith) (omega arith) ∙ h.stack_end_at;
    first_at = c.ends 6 (omega arith) (omega arith) ∙ h.first_at;
    end_at = c.ends 7 (omega arith) (omega arith) ∙ h.end_at;
    within = c.within;
    held = subst (λ free. HeapHeld s heap' (512 + s.stack) free ws' cells') (omega arith) held;
  }

  -- a cell takes the next unit
  pub spent-allocated : (heap : Heap) (ws ws' : List ℕ) (spent : ℕ) (cells : Storage) → get_or ws' (behind_units spent) 0 ≡ 0 → Counted ws ws' spent 1 → Spent s heap ws spent cells → Spent s (with_cell heap (behind_units spent)) ws' (spent + 1) (cells ++ None ∷ [])
  spent-allocated heap ws ws' spent cells unset c h =
      spent-more heap (with_cell heap (behind_units spent)) ws ws' spent 1 cells (cells ++ None ∷ []) c h
      (heap-allocated heap (512 + s.stack) (behind_units spent) ws ws' cells (omega arith) unset c.before h.held)

  -- a closure takes the next units
  pub spent-closed : (heap : Heap) (ws ws' : List ℕ) (spent : ℕ) (cells : Storage) (m : PlacedClosure) → m.place ≡ behind_units spent → ClosureWords s heap ws' m → Counted ws ws' spent (closure_units s.bodies m.body) → Spent s heap ws spent cells → Spent s (with_closure heap m) ws' (spent + closure_units s.bodies m.body) cells
  spent-closed heap ws ws' spent cells m at words c h =
      spent-more heap (with_closure heap m) ws ws' spent (closure_units s.bodies m.body) cells cells c h
      (heap-closed heap (512 + s.stack) (behind_units spent) ws ws' cells m (omega arith) at words c.before h.held)
