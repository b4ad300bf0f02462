-- What stands in the units: cells and closures, and the count of those that are spent.
use Rattle.std.proofs.Common.{◌≡◌, ◌≢◌, ◌⊎◌, ℕ, ◌+◌, ◌*◌, ◌<◌, ◌≤◌, List, ◌∷◌, Option, Some, None, length, get_or, subst, sym, ◌∙◌, arith, inl, inr, ⊎_elim}
use Rattle.std.specs.Prelude.{slice_get}
use Rattle.std.proofs.lemmas.Bool.{cases_lt}
use Rattle.rv_asm.specs.DataWords.{Heap, PlacedClosure, StandsFor}
use Rattle.action_terms.specs.Information.{Datum, Storage}
use Rattle.action_terms.specs.Need.{units}
use Rattle.action_terms.specs.Steps.{Step}
use Rattle.rv_codegen.proofs.Holding.{HoldsBinds, Grows, grows-same, stands-grown, holds-kept_binds}
use Rattle.rv_codegen.proofs.Settings.{Bodies, Setting}

-- the units of a closure of the body
abbrev pub closure_units : Bodies → ℕ → ℕ
closure_units bodies c = 1 + length (bodies.slots c)

module _ (s : Setting) where
  pub record ClosureWords (heap : Heap) (words : List ℕ) (m : PlacedClosure) : Type 0 where
    pub entry : get_or words m.place 0 ≡ s.bodies.entry m.body
    pub size : get_or words (m.place + 1) 0 ≡ 8 * s.bodies.words m.body
    pub captured : HoldsBinds s.base heap words m.place (s.bodies.slots m.body) m.binds
    pub own : m.own ≡ s.bodies.own m.body

  abbrev pub CellWords : Heap → List ℕ → ℕ → Option Datum → Type 0
  CellWords heap words i None = get_or words i 0 ≡ 0
  CellWords heap words i (Some x) = (get_or words i 0 ≡ 1) × StandsFor s.base heap (get_or words (i + 1) 0) x

  -- the units from word `low` to word `free` hold the cells and the closures; it isn't said that all of them do
  pub record HeapHeld (heap : Heap) (low free : ℕ) (words : List ℕ) (cells : Storage) : Type 0 where
    pub many : length heap.cells ≡ length cells
    pub cell : (c i : ℕ) (x : Option Datum) → slice_get heap.cells c ≡ Some i → slice_get cells c ≡ Some x → CellWords heap words i x
    pub closure : (n : ℕ) (m : PlacedClosure) → slice_get heap.closures n ≡ Some m → ClosureWords heap words m
    pub cell_low : (c i : ℕ) → slice_get heap.cells c ≡ Some i → low ≤ i
    pub cell_free : (c i : ℕ) → slice_get heap.cells c ≡ Some i → i + 2 ≤ free
    pub closure_low : (n : ℕ) (m : PlacedClosure) → slice_get heap.closures n ≡ Some m → low ≤ m.place
    pub closure_free : (n : ℕ) (m : PlacedClosure) → slice_get heap.closures n ≡ Some m → m.place + 2 * closure_units s.bodies m.body ≤ free
    pub cells_apart : (c c' i i' : ℕ) → slice_get heap.cells c ≡ Some i → slice_get heap.cells c' ≡ Some i' → c ≢ c' → (i + 2 ≤ i') ⊎ (i' + 2 ≤ i)
    pub closures_apart : (c i n : ℕ) (m : PlacedClosure) → slice_get heap.cells c ≡ Some i → slice_get heap.closures n ≡ Some m → (i + 2 ≤ m.place) ⊎ (m.place + 2 * closure_units s.bodies m.body ≤ i)

  -- a cell or a closure stays where its words aren't written
  pub cell-words-kept : (heap heap' : Heap) (ws ws' : List ℕ) (i : ℕ) (x : Option Datum) → Grows heap heap' → get_or ws' i 0 ≡ get_or ws i 0 → get_or ws' (i + 1) 0 ≡ get_or ws (i + 1) 0 → CellWords heap ws i x → CellWords heap' ws' i x
  cell-words-kept heap heap' ws ws' i None g e f h = e ∙ h
  cell-words-kept heap heap' ws ws' i (Some x) g e f h = (e ∙ h.0, subst (λ w. StandsFor s.base heap' w x) (sym f) (stands-grown s.base heap heap' g _ x h.1))

  pub closure-words-kept : (heap heap' : Heap) (ws ws' : List ℕ) (m : PlacedClosure) → Grows heap heap' → ((j : ℕ) → m.place ≤ j → j < m.place + 2 * closure_units s.bodies m.body → get_or ws' j 0 ≡ get_or ws j 0) → ClosureWords heap ws m → ClosureWords heap' ws' m
  closure-words-kept heap heap' ws ws' m g e h = record {
    entry = e m.place (omega arith) (omega arith) ∙ h.entry;
    size = e (m.place + 1) (omega arith) (omega arith) ∙ h.size;
    captured = holds-kept_binds s.base heap heap' g ws ws' m.place (λ x. 2 + 2 * length (s.bodies.slots m.body) ≤ x) (λ x no. ⊎_elim (λ (lt : x < 2 + 2 * length (s.bodies.slots m.body)). e (m.place + x) (omega arith) (omega arith)) (λ ge. absurd (no ge)) (cases_lt x (2 + 2 * length (s.bodies.slots m.body)))) (s.bodies.slots m.body) m.binds (s.bodies.inside m.body) h.captured;
    own = h.own;
  }

  -- writes to frames, to the front and to units that aren't taken
  pub heap-kept : (heap : Heap) (low free : ℕ) (ws ws' : List ℕ) (cells : Storage) → ((j : ℕ) → low ≤ j → j < free → get_or ws' j 0 ≡ get_or ws j 0) → HeapHeld heap low free ws cells → HeapHeld heap low free ws' cells
  heap-kept heap low free ws ws' cells e h = record {
    many = h.many;
    cell = λ c i x p q. let a = h.cell_low c i p in let b = h.cell_free c i p in cell-words-kept heap heap ws ws' i x (grows-same heap) (e i (omega arith) (omega arith)) (e (i + 1) (omega arith) (omega arith)) (h.cell c i x p q);
    closure = λ n m p. let a = h.closure_low n m p in let b = h.closure_free n m p in closure-words-kept heap heap ws ws' m (grows-same heap) (λ j u v. e j (omega arith) (omega arith)) (h.closure n m p);
    cell_low = h.cell_low;
    cell_free = h.cell_free;
    closure_low = h.closure_low;
    closure_free = h.closure_free;
    cells_apart = h.cells_apart;
    closures_apart = h.closures_apart;
  }

  -- so many units are spent: they are counted, and they hold what was taken
  pub record Spent (heap : Heap) (words : List ℕ) (spent : ℕ) (cells : Storage) : Type 0 where
    pub counted : get_or words 4 0 ≡ spent
    -- the end of the stack, and that is where the units begin
    pub stack_end_at : get_or words 5 0 ≡ s.base + 8 * (512 + s.stack)
    pub first_at : get_or words 6 0 ≡ s.base + 8 * (512 + s.stack)
    pub end_at : get_or words 7 0 ≡ s.base + 8 * (512 + s.stack + 2 * s.room)
    pub within : spent ≤ s.room
    pub held : HeapHeld heap (512 + s.stack) (512 + s.stack + 2 * spent) words cells

  -- the words of the count, of the ends, and of all units are as before
  abbrev pub Untouched : List ℕ → List ℕ → Type 0
  Untouched ws ws' = (j : ℕ) → ((4 ≤ j) × (j < 8)) ⊎ (512 + s.stack ≤ j) → get_or ws' j 0 ≡ get_or ws j 0

  spent-kept : (heap : Heap) (ws ws' : List ℕ) (spent : ℕ) (cells : Storage) → Untouched ws ws' → Spent heap ws spent cells → Spent heap ws' spent cells
  spent-kept heap ws ws' spent cells e h = record {
    counted = e 4 (inl (omega arith, omega arith)) ∙ h.counted;
    stack_end_at = e 5 (inl (omega arith, omega arith)) ∙ h.stack_end_at;
    first_at = e 6 (inl (omega arith, omega arith)) ∙ h.first_at;
    end_at = e 7 (inl (omega arith, omega arith)) ∙ h.end_at;
    within = h.within;
    held = heap-kept heap (512 + s.stack) (512 + s.stack + 2 * spent) ws ws' cells (λ j a b. e j (inr a)) h.held;
  }

  -- between steps: no more are spent than these steps spend
  pub record Units (heap : Heap) (words : List ℕ) (steps : List Step) (cells : Storage) : Type 0 where
    pub spent : ℕ
    pub few : spent ≤ units s.sizes steps
    pub now : Spent heap words spent cells

  -- kept where no unit is written, and through further steps
  pub units-kept : (heap : Heap) (ws ws' : List ℕ) (steps steps' : List Step) (cells : Storage) → Untouched ws ws' → units s.sizes steps ≤ units s.sizes steps' → Units heap ws steps cells → Units heap ws' steps' cells
  units-kept heap ws ws' steps steps' cells e le h = record { spent = h.spent; few = omega (arith, h.few, le); now = spent-kept heap ws ws' h.spent cells e h.now }

  pub units-more : (heap : Heap) (ws : List ℕ) (n : Step) (steps : List Step) (cells : Storage) → Units heap ws steps cells → Units heap ws (n ∷ steps) cells
  units-more heap ws n steps cells h = record { spent = h.spent; few = omega (arith, h.few); now = h.now }
