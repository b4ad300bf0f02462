-- Nodes that allocate: a unit is taken for a new cell, whose address the node leaves; where all units are spent, the run ends as full.
use Rattle.std.proofs.Common.{◌≡◌, ℕ, ◌+◌, ◌*◌, ◌<◌, ◌≤◌, List, [], ◌∷◌, ◌++◌, None, get_or, set, length, refl, sym, ap, ◌∙◌, subst, arith, length-set, get_or-set_same, get_or-set_other, inl, ⊎_elim}
use Rattle.std.proofs.lemmas.Bool.{cases_lt}
use Rattle.rv_asm.specs.Arrivals.{LabelsStand}
use Rattle.rv_asm.specs.Assembly.{address_of}
use Rattle.rv_asm.specs.DataWords.{Heap, StandsFor}
use Rattle.rv_asm.specs.WordMachine.{WordState}
use Rattle.rv_asm.proofs.Stretches.{then-runs}
use Rattle.action_terms.specs.Acting.{Done, Run, Ended}
use Rattle.action_terms.specs.Actions.{Allocate, Simple, node_at}
use Rattle.action_terms.specs.Frames.{plugged}
use Rattle.action_terms.specs.Information.{Datum, CellOf, NoBinds}
use Rattle.action_terms.specs.Performances.{OneOf, Here}
use Rattle.action_terms.specs.Steps.{Step, Allocates, open_steps, with_effect}
use Rattle.rv_prelude.specs.Region.{HasUnits, committed_words}
use Rattle.rv_codegen.specs.Blocks.{allocate_label, full_label, joint_of}
use Rattle.rv_codegen.proofs.Around.{committed}
use Rattle.rv_codegen.proofs.Committing.{committed-other, committed-region}
use Rattle.rv_codegen.proofs.Fetching.{FetchCode, Fetched, calling, calling-at, calling-returns, calling-runs, fetch-stands, fetched-goes, region-kept}
use Rattle.rv_codegen.proofs.FindsGiven.{words-many}
use Rattle.rv_codegen.proofs.InputLeft.{left-same}
use Rattle.rv_codegen.proofs.Performing.{Filled, step-full}
use Rattle.rv_codegen.proofs.RestPoints.{Laid, Region, Starting, StartGoesOn, open-run}
use Rattle.rv_codegen.proofs.Settings.{Setting, code, node_words, point, stop}
use Rattle.rv_codegen.proofs.Standing.{NodeStands}
use Rattle.rv_codegen.proofs.StorageEntries.{HasStorage}
use Rattle.rv_codegen.proofs.Units.{Spent, Units}
use Rattle.rv_codegen.proofs.UnitsTaken.{Counted, behind_units, cell-stands, grows-cell, spent-allocated, with_cell}

module _ (s : Setting) (laid : Laid s) (entries : HasStorage s) (x : Starting s) (stands : FetchCode s allocate_label x.k) (e : node_at s.action x.k ≡ Simple Allocate) where
  -- the number of the new cell, and the node's step
  abbrev number : ℕ
  number = length x.world.cells

  abbrev n : Step
  n = with_effect Allocates (Ended (Done (CellOf number ∷ []) NoBinds))

  abbrev spent : ℕ
  spent = x.runs.here.units_are.spent

  abbrev now : Spent s x.runs.here.heap x.runs.here.words spent x.world.cells
  now = x.runs.here.units_are.now

  abbrev c : WordState
  c = calling s laid x allocate_label stands

  opens : OneOf n (open_steps s.action x.world (Run x.k x.d x.b))
  opens = open-run s x.k x.d x.b x.world (Simple Allocate) n e Here

  has-units : HasUnits s.base (512 + s.stack) s.room spent c.words
  has-units =
      subst (HasUnits s.base (512 + s.stack) s.room spent) (sym x.runs.here.stands.words_are)
      (record {
        counted = now.counted;
        first_at = now.first_at;
        end_at = now.end_at;
        behind = omega arith;
        inside = omega (arith, laid.units_inside, x.runs.here.region.size);
        within = now.within;
      })

  -- all units are spent
  full : s.room ≤ spent → StartGoesOn s x
  full le =
      let g = (entries.allocates_none s.base (512 + s.stack) s.room spent c (calling-at s laid x allocate_label stands) has-units le).0 in
      step-full s laid x (point s full_label).place entries.full_exits n opens (omega (arith, le))
      (record {
        end = g.end;
        count = 4 + g.instructions;
        few = omega (arith, g.few, s.ample);
        runs = then-runs s.base (code s) 4 g.instructions x.state c g.end (calling-runs s laid x allocate_label stands) g.leads.words;
        at = g.at;
        quiet = g.output;
      })

  -- ---- a unit is left

  module _ (less : spent < s.room) where
    abbrev unit : ℕ
    unit = behind_units s spent

    abbrev old : List ℕ
    old = x.runs.here.words

    -- the words with the unit counted and unset
    abbrev taken : List ℕ
    taken = set (set old 4 (spent + 1)) unit 0

    abbrev ws : List ℕ
    ws = committed_words taken

    some : 512 < s.count
    some = laid.some

    unit-inside : unit < length (set old 4 (spent + 1))
    unit-inside = omega (arith, less, laid.units_inside, x.runs.here.region.size, length-set old 4 (spent + 1))

    long : length taken ≡ length old
    long = length-set (set old 4 (spent + 1)) unit 0 ∙ length-set old 4 (spent + 1)

    taken-other : (j : ℕ) → (j ≡ 4 → ⊥) → (j ≡ unit → ⊥) → get_or taken j 0 ≡ get_or old j 0
    taken-other j four at = get_or-set_other (set old 4 (spent + 1)) unit j 0 0 at ∙ get_or-set_other old 4 j (spent + 1) 0 four

    taken-region : Region s taken x.runs.here.chains
    taken-region = region-kept s old taken x.runs.here.chains long (λ j lo lt. taken-other j (λ q. omega arith) (λ q. omega arith)) x.runs.here.region

    shut : (j : ℕ) → 4 ≤ j → get_or ws j 0 ≡ get_or taken j 0
    shut j far = committed-other s taken x.runs.here.chains taken-region.size some j far

    ws-other : (j : ℕ) → 4 < j → (j ≡ unit → ⊥) → get_or ws j 0 ≡ get_or old j 0
    ws-other j far at = shut j (omega arith) ∙ taken-other j (λ q. omega arith) at

    unset : get_or ws unit 0 ≡ 0
    unset = shut unit (omega arith) ∙ get_or-set_same (set old 4 (spent + 1)) unit 0 0 unit-inside

    counts : get_or ws 4 0 ≡ spent + 1
    counts =
        shut 4 (omega arith) ∙ get_or-set_other (set old 4 (spent + 1)) unit 4 0 0 (λ q. omega arith)
        ∙ get_or-set_same old 4 (spent + 1) 0 (omega (arith, x.runs.here.region.size, laid.some))

    counted : Counted s old ws spent 1
    counted = record {
      counted = counts;
      ends = λ j lo lt. ws-other j (omega arith) (λ q. omega arith);
      before = λ j lo lt. ws-other j (omega arith) (λ q. omega arith);
      within = omega (arith, less);
    }

    abbrev heap : Heap
    heap = with_cell x.runs.here.heap unit

    units-now : Units s heap ws (plugged x.frames n ∷ x.steps) (x.world.cells ++ None ∷ [])
    units-now = record {
      spent = spent + 1;
      few = omega (arith, x.runs.here.units_are.few);
      now = spent-allocated s x.runs.here.heap old ws spent x.world.cells unset counted now;
    }

    stands-new : (w : ℕ) → w ≡ s.base + 8 * unit → StandsFor s.base heap w (CellOf number)
    stands-new w is =
        subst (λ v. StandsFor s.base heap v (CellOf number)) (sym is)
        (subst (λ m. StandsFor s.base heap (s.base + 8 * unit) (CellOf m)) now.held.many (cell-stands s.base x.runs.here.heap unit))

    allocated : StartGoesOn s x
    allocated =
        let q = entries.allocates s.base (address_of (stop s x.k).place) (512 + s.stack) s.room spent c (calling-at s laid x allocate_label stands) (calling-returns s laid x allocate_label stands) has-units less in
        let a = q.0.0 in
        let end = a.end in
        let words_are : end.words ≡ ws = a.words ∙ ap (λ z. committed_words (set (set z 4 (spent + 1)) unit 0)) x.runs.here.stands.words_are in
        let fetched : Fetched s laid x allocate_label stands n (CellOf number) = record {
          end = end;
          count = a.instructions;
          few = a.few;
          runs = a.leads.words;
          at = a.at;
          region_at = q.0.1 3 (omega arith);
          frame_at = q.0.1 2 (omega arith);
          heap = heap;
          grows = grows-cell x.runs.here.heap unit;
          word = stands-new (end.registers 10) q.1;
          commits = refl;
          region = subst (λ z. Region s z (committed x.runs.here.chains)) (sym words_are) (committed-region s taken x.runs.here.chains taken-region.size some taken-region);
          same = λ j lo lt. ap (λ z. get_or z j 0) words_are ∙ ws-other j (omega arith) (λ z. omega arith);
          units_are = subst (λ z. Units s heap z (plugged x.frames n ∷ x.steps) (x.world.cells ++ None ∷ [])) (sym words_are) units-now;
          left = left-same {ys = end.input} a.input x.left;
          quiet = a.output;
          silent = refl;
        } in
        fetched-goes s laid x allocate_label stands n (CellOf number) opens refl fetched

  allocates-goes : StartGoesOn s x
  allocates-goes = ⊎_elim (λ lt. allocated lt) (λ ge. full ge) (cases_lt spent s.room)

pub allocate-goes : (s : Setting) (laid : Laid s) → HasStorage s → (x : Starting s) → node_at s.action x.k ≡ Simple Allocate → LabelsStand s.items → joint_of x.k < s.labels → NodeStands s.items (node_words s) s.exits x.k (Simple Allocate) → StartGoesOn s x
allocate-goes s laid entries x e labels within stands =
    allocates-goes s laid entries x (fetch-stands s laid labels allocate_label x.k (Simple Allocate) within refl stands) e
