-- Nodes that check what they are given: the code goes on where the yielder yields `true`, and else to the entry for failures.
use Rattle.std.proofs.Common.{◌≡◌, ℕ, ◌+◌, ◌*◌, ◌<◌, ◌≤◌, true, false, List, [], ◌∷◌, get_or, Option, Some, None, refl, sym, ap, ◌∙◌, subst, arith}
use Rattle.rv_asm.specs.Assembly.{address_of, spot, total, code_from}
use Rattle.rv_asm.specs.WordMachine.{Has}
use Rattle.action_terms.specs.Information.{Datum, NoBinds, Truth}
use Rattle.action_terms.specs.Actions.{Check, Simple, Yielder, node_at}
use Rattle.action_terms.specs.Acting.{Run}
use Rattle.action_terms.specs.Need.{node_yielder_count, yielder_count}
use Rattle.action_terms.specs.Performances.{OneOf, Here}
use Rattle.action_terms.specs.Steps.{checked, closures_in, done, failed, making, open_steps, silent}
use Rattle.action_terms.specs.Suited.{IsOfSort, IsSuited, IsSuitedNode}
use Rattle.action_terms.specs.Yielding.{yields}
use Rattle.action_terms.specs.declared.kinds.Sort.TheVariants as sort
use Rattle.rv_yield.specs.Conditions.{condition_items}
use Rattle.rv_yield.specs.Registers.{HasWords, is_built, registers_needed}
use Rattle.rv_yield.proofs.Deciding.{Chosen, condition-comes}
use Rattle.rv_yield.proofs.Steps.{Arrives}
use Rattle.rv_codegen.specs.Blocks.{fail_label}
use Rattle.rv_codegen.proofs.FindsGiven.{all-members, finds-given}
use Rattle.rv_codegen.proofs.GivenItems.{gave-nothing, holds-none}
use Rattle.rv_codegen.proofs.Giving.{LeavesBehind, LeavesData}
use Rattle.rv_codegen.specs.GivenItems.{alone}
use Rattle.rv_codegen.proofs.NoSlots.{alone-near, no-slots}
use Rattle.rv_codegen.proofs.Nothing.{nothing-did}
use Rattle.rv_codegen.proofs.Performing.{step-done, step-failed}
use Rattle.rv_codegen.proofs.RestPoints.{Laid, Starting, StartGoesOn, near, open-run}
use Rattle.rv_codegen.proofs.Settings.{Setting, code, start, exit, failure}
use Rattle.rv_codegen.proofs.Suited.{SuitsAt}
use Rattle.rv_codegen.proofs.WrittenTurns.{written-did}

-- what the code of a node needs of the yielder that it checks
pub record CanCheck (y : Yielder) : Type 0 where
  pub built : is_built y ≡ true
  pub words : HasWords y
  pub few : registers_needed y ≤ 16
  pub none_made : closures_in y ≡ []

module _ (s : Setting) (laid : Laid s) (x : Starting s) (y : Yielder) (e : node_at s.action x.k ≡ Simple (Check y)) where
  abbrev size : ℕ
  size = total (condition_items (alone (s.places.given x.k)) true fail_label fail_label y)

  abbrev next : ℕ
  next = address_of ((start s x.k).place + size)

  abbrev limit : ℕ
  limit = 24 * yielder_count y

  paid : limit + 400 ≤ s.factor
  paid = let q : 400 + 24 * (0 + 1) * (yielder_count y + 1) ≤ s.factor = subst (λ m. 400 + 24 * (0 + 1) * (node_yielder_count m + 1) ≤ s.factor) e (laid.paid x.k 0 (omega arith)) in omega (arith, q)

  open-checked : closures_in y ≡ [] → (o : Option Datum) → yields y x.d x.b x.world.cells ≡ o → OneOf (silent (checked o)) (open_steps s.action x.world (Run x.k x.d x.b))
  open-checked none o is =
      let n = silent (checked o) in
      let same : making (closures_in y) x.b (silent (checked (yields y x.d x.b x.world.cells))) ≡ n = ap (λ cs. making cs x.b (silent (checked (yields y x.d x.b x.world.cells)))) none ∙ ap (λ v. silent (checked v)) is in
      open-run s x.k x.d x.b x.world (Simple (Check y)) n e (subst (λ m. OneOf n (m ∷ [])) (sym same) Here)

  module _ (escaped : ℕ → List ℕ) (suits : SuitsAt s.action s.places.out escaped x.k x.d x.b x.world) (ok : CanCheck y) (places : LeavesData s laid x) (behind : LeavesBehind s laid x size) where
    -- `true`
    passes : yields y x.d x.b x.world.cells ≡ Some (Truth true) → Arrives s.base (code s) limit 10 10 x.state next → StartGoesOn s x
    passes is a =
        let o = open-checked ok.none_made (Some (Truth true)) is in
        let w = gave-nothing s.base (code s) x.runs.here.heap x.runs.here.f limit limit (s.places.out x.k) x.state next (omega arith) a in
        let did = written-did s laid x limit (s.places.out x.k) places.own next w done behind.from (exit s x.k) (ap address_of (sym behind.from_is)) behind.within (near s laid (get_or s.exits x.k 0)) behind.rank (omega (arith, paid)) behind.leave in
        step-done s laid x (silent done) [] NoBinds o refl did (holds-none s.base did.heap did.words x.runs.here.f (s.places.out x.k) (suits.completes (silent done) [] NoBinds o refl)) (places.binds did.words)

    fails : (o : Option Datum) → yields y x.d x.b x.world.cells ≡ o → checked o ≡ failed → Arrives s.base (code s) limit 10 10 x.state (address_of (failure s).place) → StartGoesOn s x
    fails o is none a =
        step-failed s laid x (silent failed) (subst (λ z. OneOf (silent z) (open_steps s.action x.world (Run x.k x.d x.b))) none (open-checked ok.none_made o is)) refl (nothing-did s laid x limit (omega (arith, paid)) behind.behind_failure a)

    -- the node completes with nothing, or it fails
    pub check-turns : Has (code s) (address_of (start s x.k).place) (code_from (spot s.items) (start s x.k).place (condition_items (alone (s.places.given x.k)) true fail_label fail_label y)) → StartGoesOn s x
    check-turns stands =
        let given = s.places.given x.k in
        let h = x.runs.here in
        let suited : IsSuited y x.d x.b x.world.cells × IsOfSort sort.Truth (yields y x.d x.b x.world.cells) = subst (λ n. IsSuitedNode n x.d x.b x.world.cells) e suits.suited in
        let chosen = condition-comes s.base (code s) (spot s.items) fail_label fail_label (near s laid fail_label) (near s laid fail_label) h.heap (alone given) (alone-near (all-members (λ o. o < 33554432) given places.near_given)) h.f x.d x.b x.world.cells y true ok.built ok.words (no-slots y ok.built x.b) suited.0 ok.few suited.1 (start s x.k).place x.state (omega (arith, behind.within, behind.from_is)) x.runs.at stands (finds-given s laid x places.given_inside) in
        by (yields y x.d x.b x.world.cells) refl chosen
      where
        by : (o : Option Datum) → yields y x.d x.b x.world.cells ≡ o → Chosen s.base (code s) (spot s.items) true limit x.state next (address_of (failure s).place) (address_of (failure s).place) o → StartGoesOn s x
        by None is a = fails None is refl a
        by (Some (Truth true)) is a = passes is a
        by (Some (Truth false)) is a = fails (Some (Truth false)) is refl a
        by (Some z) is a = absurd a
