-- Nodes that give data: their code leaves them where the node leaves its own, or the first item that yields nothing has led to the entry for failures.
use Rattle.std.proofs.Common.{◌≡◌, ℕ, zero, suc, ◌+◌, ◌*◌, ◌^◌, ◌<◌, ◌≤◌, List, [], ◌∷◌, length, get_or, Option, Some, None, refl, sym, ap, ◌∙◌, subst, arith}
use Rattle.rv_asm.specs.Assembly.{address_of, spot, total, code_from}
use Rattle.rv_asm.specs.WordMachine.{Has}
use Rattle.rv_asm.specs.declared.item.Item.{Item as AsmItem}
use Rattle.action_terms.specs.Information.{Data, NoBinds}
use Rattle.action_terms.specs.Actions.{Item, Give, Regive, Simple, node_at}
use Rattle.action_terms.specs.Acting.{Done, Ended, Run}
use Rattle.action_terms.specs.Need.{items_yielder_count, node_yielder_count}
use Rattle.action_terms.specs.Performances.{OneOf, Here}
use Rattle.action_terms.specs.Steps.{closures_in_items, ends_with, failed, making, open_steps, silent}
use Rattle.action_terms.specs.Suited.{AreSuited, IsSuitedNode}
use Rattle.action_terms.specs.Yielding.{items_yield}
use Rattle.rv_codegen.specs.Blocks.{fail_label}
use Rattle.rv_codegen.specs.GivenItems.{give_items, moves_items}
use Rattle.rv_codegen.proofs.AliasWords.{IsOnce}
use Rattle.rv_codegen.proofs.Around.{BindsLeft}
use Rattle.rv_codegen.proofs.FindsGiven.{all-members, finds-given, frame-inside, units-behind}
use Rattle.rv_codegen.proofs.GivenItems.{AreBuilt, Gave, gives-run, holds-length}
use Rattle.rv_codegen.proofs.MovedWords.{moves-run}
use Rattle.rv_codegen.proofs.Nothing.{moves-on}
use Rattle.rv_codegen.proofs.Performing.{step-done, step-failed}
use Rattle.rv_codegen.proofs.RestPoints.{Laid, Starting, StartGoesOn, near, open-run}
use Rattle.rv_codegen.proofs.Settings.{Point, Way, Setting, code, start, exit, failure, frame_words}
use Rattle.rv_codegen.proofs.Suited.{SuitsAt}
use Rattle.rv_codegen.proofs.WrittenTurns.{MayWriteAt, written-did, written-there}

-- the factor covers so many yielders and so many words
pub items-paid : (n y : ℕ) → 24 * y + 20 * n ≤ 24 * (n + 1) * (y + 1)
items-paid n zero = omega arith
items-paid n (suc y) = grind (arith, items-paid n y)

module _ (s : Setting) (laid : Laid s) (x : Starting s) where
  -- where the node finds its data and leaves them: near, in its frame, apart, each word once; it binds nothing
  pub record LeavesData : Type 0 where
    pub near_given : (o : ℕ) → OneOf o (s.places.given x.k) → o < 33554432
    pub given_inside : (o : ℕ) → OneOf o (s.places.given x.k) → o < frame_words s x.k
    pub near_out : (o : ℕ) → OneOf o (s.places.out x.k) → o < 33554432
    pub own : MayWriteAt s laid x (s.places.out x.k)
    pub once : IsOnce (s.places.out x.k)
    pub apart : (o : ℕ) → OneOf o (s.places.given x.k) → OneOf o (s.places.out x.k) → ⊥
    pub few : length (s.places.out x.k) ≤ s.widest
    pub binds : (words : List ℕ) → BindsLeft s x.runs.here.heap words x.runs.here.f x.k NoBinds

  -- some items stand at the node's start, and behind them it goes on
  pub record LeavesBehind (size : ℕ) : Type 0 where
    pub from : Point
    pub from_is : from.place ≡ (start s x.k).place + size
    pub within : from.place < 2 ^ 28
    pub rank : from.rank ≤ (start s x.k).rank
    pub leave : Way (code s) from (exit s x.k)
    pub behind_failure : (failure s).place < (start s x.k).place

  out-inside : LeavesData → (o : ℕ) → OneOf o (s.places.out x.k) → (o < 33554432) × (x.runs.here.f + o < length x.state.words)
  out-inside places o m = (places.near_out o m, frame-inside s laid x o (places.own.inside o m))

  -- ---- `give`

  module _ (is : List Item) (e : node_at s.action x.k ≡ Simple (Give is)) where
    abbrev code_items : List AsmItem
    code_items = give_items (s.places.given x.k) (s.places.out x.k) fail_label is

    abbrev limit : ℕ
    limit = 24 * items_yielder_count is + 20 * length (s.places.out x.k)

    abbrev end_place : ℕ
    end_place = (start s x.k).place + total code_items

    abbrev yielded : Option Data
    yielded = items_yield is x.d x.b x.world.cells

    gives-paid : LeavesData → limit + 400 ≤ s.factor
    gives-paid places =
        let n = length (s.places.out x.k) in
        let paid : 400 + 24 * (n + 1) * (items_yielder_count is + 1) ≤ s.factor = subst (λ m. 400 + 24 * (n + 1) * (node_yielder_count m + 1) ≤ s.factor) e (laid.paid x.k n places.few) in
        omega (arith, paid, items-paid n (items_yielder_count is))

    open-gave : closures_in_items is ≡ [] → (o : Option Data) → yielded ≡ o → OneOf (silent (ends_with (λ d. Done d NoBinds) o)) (open_steps s.action x.world (Run x.k x.d x.b))
    open-gave none o is_o =
        let n = silent (ends_with (λ d. Done d NoBinds) o) in
        let same : making (closures_in_items is) x.b (silent (ends_with (λ d. Done d NoBinds) yielded)) ≡ n = ap (λ cs. making cs x.b (silent (ends_with (λ d. Done d NoBinds) yielded))) none ∙ ap (λ v. silent (ends_with (λ d. Done d NoBinds) v)) is_o in
        open-run s x.k x.d x.b x.world (Simple (Give is)) n e (subst (λ m. OneOf n (m ∷ [])) (sym same) Here)

    -- the code of the items has run
    gave-goes : closures_in_items is ≡ [] → (places : LeavesData) → LeavesBehind (total code_items) → Gave s.base (code s) x.runs.here.heap x.runs.here.f limit (s.places.out x.k) x.state (address_of end_place) (address_of (failure s).place) yielded → StartGoesOn s x
    gave-goes none places behind gave = by yielded refl gave
      where
        by : (o : Option Data) → yielded ≡ o → Gave s.base (code s) x.runs.here.heap x.runs.here.f limit (s.places.out x.k) x.state (address_of end_place) (address_of (failure s).place) o → StartGoesOn s x
        by (Some d) is_o (w, held) =
            let did = written-did s laid x limit (s.places.out x.k) places.own (address_of end_place) w (Ended (Done d NoBinds)) behind.from (exit s x.k) (ap address_of (sym behind.from_is)) behind.within (near s laid (get_or s.exits x.k 0)) behind.rank (omega (arith, gives-paid places)) behind.leave in
            step-done s laid x (silent (Ended (Done d NoBinds))) d NoBinds (open-gave none (Some d) is_o) refl did held (places.binds w.end.words)
        by None is_o w =
            step-failed s laid x (silent failed) (open-gave none None is_o) refl
            (written-there s laid x limit (s.places.out x.k) places.own (address_of (failure s).place) w failed (failure s) refl
            (moves-on s.base (code s) w.count x.state w.end (start s x.k).place (failure s).place w.runs x.runs.at w.at behind.behind_failure) (omega (arith, gives-paid places)))

    -- the node gives its data, or it fails
    pub give-goes : (escaped : ℕ → List ℕ) → SuitsAt s.action s.places.out escaped x.k x.d x.b x.world → AreBuilt is → closures_in_items is ≡ [] → LeavesData → LeavesBehind (total code_items)
        → Has (code s) (address_of (start s x.k).place) (code_from (spot s.items) (start s x.k).place code_items) → StartGoesOn s x
    give-goes escaped suits built none places behind stands =
        let given = s.places.given x.k in
        let out = s.places.out x.k in
        let suited : AreSuited is x.d x.b x.world.cells = subst (λ n. IsSuitedNode n x.d x.b x.world.cells) e suits.suited in
        let enough : (d : Data) → yielded ≡ Some d → length d ≡ length out = λ d q. suits.completes (silent (Ended (Done d NoBinds))) d NoBinds (open-gave none (Some d) q) refl in
        gave-goes none places behind
        (gives-run s.base (code s) x.runs.here.heap x.runs.here.f (spot s.items) fail_label (near s laid fail_label) given (all-members (λ o. o < 33554432) given places.near_given) x.d x.b x.world.cells is out (start s x.k).place x.state built suited
        (record { inside = out-inside places; apart = places.apart; once = places.once; below = λ o number place m p. units-behind s laid x o number place (places.own.inside o m) p; enough = enough })
        (record { near = omega (arith, behind.within, behind.from_is); before = x.runs.at; stands = stands })
        (finds-given s laid x places.given_inside))

  -- ---- `regive`

  -- the node completes with all that it is given
  pub regive-moves : node_at s.action x.k ≡ Simple Regive → (escaped : ℕ → List ℕ) → SuitsAt s.action s.places.out escaped x.k x.d x.b x.world → (places : LeavesData) → LeavesBehind (length (moves_items (s.places.given x.k) (s.places.out x.k)))
      → Has (code s) (address_of (start s x.k).place) (moves_items (s.places.given x.k) (s.places.out x.k)) → StartGoesOn s x
  regive-moves e escaped suits places behind stands =
      let given = s.places.given x.k in
      let out = s.places.out x.k in
      let limit = 20 * length out in
      let f = finds-given s laid x places.given_inside in
      let size = length (moves_items given out) in
      let moved = moves-run s.base (code s) x.runs.here.f x.runs.here.heap given out x.d x.state (λ o m. (places.near_given o m, frame-inside s laid x o (places.given_inside o m))) (out-inside places) places.apart places.once f.frame f.holds
      (subst (λ q. Has (code s) q (moves_items given out)) (sym x.runs.at) stands) in
      let w = moved.written in
      let n = silent (Ended (Done x.d NoBinds)) in
      let paid : 400 + 24 * (length out + 1) * (0 + 1) ≤ s.factor = subst (λ m. 400 + 24 * (length out + 1) * (node_yielder_count m + 1) ≤ s.factor) e (laid.paid x.k (length out) places.few) in
      let did = written-did s laid x limit out places.own (x.state.pc + 4 * size) w (Ended (Done x.d NoBinds)) behind.from (exit s x.k) (omega (arith, x.runs.at, behind.from_is)) behind.within (near s laid (get_or s.exits x.k 0)) behind.rank (omega (arith, paid)) behind.leave in
      let o = open-run s x.k x.d x.b x.world (Simple Regive) n e Here in
      let many : length x.d ≡ length out = suits.completes n x.d NoBinds o refl in
      step-done s laid x n x.d NoBinds o refl did
      (moved.holds (omega (arith, many, holds-length s.base x.runs.here.heap x.state.words x.runs.here.f given x.d f.holds)))
      (places.binds w.end.words)
