-- A datum is stored in a cell: the unit of this cell is written, and no other. The word of a cell tells which it is.
use Rattle.std.proofs.Common.{◌≡◌, ◌≢◌, ◌⊎◌, ℕ, ◌+◌, ◌*◌, ◌<◌, ◌≤◌, List, Option, Some, None, length, get_or, set, sym, ap, ◌∙◌, subst, arith, inl, inr, ⊎_elim, get_or-set_same, get_or-set_other, length-set}
use Rattle.std.specs.Prelude.{slice_get}
use Rattle.std.proofs.lemmas.Option.{none-some, same_Some, slice_get_within, slice_get-get_or, get_or_from_slice_get}
use Rattle.std.proofs.lemmas.Bool.{cases_eq}
use Rattle.rv_asm.specs.DataWords.{Heap, StandsFor, IsCellWord}
use Rattle.action_terms.specs.Information.{Datum, Storage}
use Rattle.rv_codegen.proofs.Holding.{grows-same}
use Rattle.rv_codegen.proofs.Settings.{Setting}
use Rattle.rv_codegen.proofs.Units.{CellWords, HeapHeld, Spent, cell-words-kept, closure-words-kept}

-- ---- the two words of a unit are written

module _ (ws : List ℕ) (i v : ℕ) where
  abbrev pub stored_words : List ℕ
  stored_words = set (set ws i 1) (i + 1) v

  -- all other words are as before
  pub stored-other : (j : ℕ) → (j < i) ⊎ (i + 2 ≤ j) → get_or stored_words j 0 ≡ get_or ws j 0
  stored-other j out =
      let p : j ≢ i + 1 = ⊎_elim (λ lt. omega arith) (λ ge. omega arith) out in
      let q : j ≢ i = ⊎_elim (λ lt. omega arith) (λ ge. omega arith) out in
      get_or-set_other (set ws i 1) (i + 1) j v 0 p ∙ get_or-set_other ws i j 1 0 q

  stored-flag : i + 2 ≤ length ws → get_or stored_words i 0 ≡ 1
  stored-flag h = get_or-set_other (set ws i 1) (i + 1) i v 0 (omega arith) ∙ get_or-set_same ws i 1 0 (omega arith)

  stored-value : i + 2 ≤ length ws → get_or stored_words (i + 1) 0 ≡ v
  stored-value h = get_or-set_same (set ws i 1) (i + 1) v 0 (omega (arith, length-set ws i 1))

-- ---- what was stored last

stored-here : {X : Type 0} (xs : List X) (c : ℕ) (x y : X) → c < length xs → slice_get (set xs c x) c ≡ Some y → x ≡ y
stored-here xs c x y lt q = sym (get_or-set_same xs c x y lt) ∙ get_or_from_slice_get (set xs c x) c y y q

stored-elsewhere : {X : Type 0} (xs : List X) (c j : ℕ) (x y : X) → j ≢ c → slice_get (set xs c x) j ≡ Some y → slice_get xs j ≡ Some y
stored-elsewhere xs c j x y n q =
    let lt = slice_get_within (set xs c x) j y q in
    slice_get-get_or xs j y (omega (arith, lt, length-set xs c x)) ∙ ap Some (sym (get_or-set_other xs c j x y n) ∙ get_or_from_slice_get (set xs c x) j y y q)

module _ (s : Setting) where
  -- a datum is stored: the cell is set, and all else is as before
  pub heap-stored : (heap : Heap) (low free : ℕ) (ws : List ℕ) (cells : Storage) (c i v : ℕ) (x : Datum) → slice_get heap.cells c ≡ Some i → free ≤ length ws → StandsFor s.base heap v x → HeapHeld s heap low free ws cells → HeapHeld s heap low free (stored_words ws i v) (set cells c (Some x))
  heap-stored heap low free ws cells c i v x p fits means h = record {
    many = h.many ∙ sym (length-set cells c (Some x));
    cell = cell;
    closure = λ n m q. closure-words-kept s heap heap ws (stored_words ws i v) m (grows-same heap) (λ j a b. stored-other ws i v j (⊎_elim (λ le. inr (omega arith)) (λ ge. inl (omega arith)) (h.closures_apart c i n m p q))) (h.closure n m q);
    cell_low = h.cell_low;
    cell_free = h.cell_free;
    closure_low = h.closure_low;
    closure_free = h.closure_free;
    cells_apart = h.cells_apart;
    closures_apart = h.closures_apart;
  }
    where
      inside : i + 2 ≤ length ws
      inside = let a = h.cell_free c i p in omega arith

      there : c < length cells
      there = let a = slice_get_within heap.cells c i p in omega (arith, h.many)

      this : (y : Option Datum) → Some x ≡ y → CellWords s heap (stored_words ws i v) i y
      this None e = absurd (none-some x (sym e))
      this (Some y) e = (
        stored-flag ws i v inside,
        subst (λ w. StandsFor s.base heap w y) (sym (stored-value ws i v inside)) (subst (λ y'. StandsFor s.base heap v y') (same_Some x y e) means),
      )

      other : (c' i' : ℕ) (y : Option Datum) → slice_get heap.cells c' ≡ Some i' → slice_get (set cells c (Some x)) c' ≡ Some y → c' ≢ c → CellWords s heap (stored_words ws i v) i' y
      other c' i' y q l n =
          let o = h.cells_apart c' c i' i q p n in
          cell-words-kept s heap heap ws (stored_words ws i v) i' y (grows-same heap)
          (stored-other ws i v i' (⊎_elim (λ le. inl (omega arith)) (λ ge. inr (omega arith)) o))
          (stored-other ws i v (i' + 1) (⊎_elim (λ le. inl (omega arith)) (λ ge. inr (omega arith)) o))
          (h.cell c' i' y q (stored-elsewhere cells c c' (Some x) y n l))

      cell : (c' i' : ℕ) (y : Option Datum) → slice_get heap.cells c' ≡ Some i' → slice_get (set cells c (Some x)) c' ≡ Some y → CellWords s heap (stored_words ws i v) i' y
      cell c' i' y q l = ⊎_elim
          (λ e. let a : Some i ≡ Some i' = sym p ∙ ap (slice_get heap.cells) (sym e) ∙ q in
          let b = stored-here cells c (Some x) y there (ap (slice_get (set cells c (Some x))) (sym e) ∙ l) in
          subst (λ k. CellWords s heap (stored_words ws i v) k y) (same_Some i i' a) (this y b))
          (λ n. other c' i' y q l n)
          (cases_eq c' c)

  -- no more units are spent by it
  pub spent-stored : (heap : Heap) (ws : List ℕ) (spent : ℕ) (cells : Storage) (c i v : ℕ) (x : Datum) → slice_get heap.cells c ≡ Some i → 512 + s.stack + 2 * spent ≤ length ws → StandsFor s.base heap v x → Spent s heap ws spent cells → Spent s heap (stored_words ws i v) spent (set cells c (Some x))
  spent-stored heap ws spent cells c i v x p fits means h =
      let low = h.held.cell_low c i p in
      record {
        counted = stored-other ws i v 4 (inl (omega arith)) ∙ h.counted;
        stack_end_at = stored-other ws i v 5 (inl (omega arith)) ∙ h.stack_end_at;
        first_at = stored-other ws i v 6 (inl (omega arith)) ∙ h.first_at;
        end_at = stored-other ws i v 7 (inl (omega arith)) ∙ h.end_at;
        within = h.within;
        held = heap-stored heap (512 + s.stack) (512 + s.stack + 2 * spent) ws cells c i v x p fits means h.held;
      }

  -- one word, one cell: so two cells are the same where their words are
  pub same-cell : (heap : Heap) (low free : ℕ) (ws : List ℕ) (cells : Storage) (c c' v : ℕ) → HeapHeld s heap low free ws cells → IsCellWord s.base heap c v → IsCellWord s.base heap c' v → c ≡ c'
  same-cell heap low free ws cells c c' v h p q = ⊎_elim (λ e. e)
      (λ n. let i : p.place ≡ q.place = omega (arith, p.is, q.is) in
      absurd (⊎_elim (λ a. let r : p.place + 2 ≤ q.place = a in omega arith) (λ a. let r : q.place + 2 ≤ p.place = a in omega arith) (h.cells_apart c c' p.place q.place p.listed q.listed n)))
      (cases_eq c c')
