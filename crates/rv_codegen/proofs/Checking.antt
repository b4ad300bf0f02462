-- Nodes that check: the code goes on where the yielder yields `true`, and else to the entry for failures.
use Rattle.std.proofs.Common.{◌≡◌, ⊎_elim, ℕ, ◌+◌, ◌*◌, ◌<◌, ◌≤◌, true, false, List, [], ◌∷◌, get_or, Option, Some, None, refl, sym, ap, ◌∙◌, subst, arith, inl, inr}
use Rattle.rv_asm.specs.Arrivals.{LabelsStand}
use Rattle.rv_asm.specs.Assembly.{address_of, spot, total}
use Rattle.rv_asm.specs.declared.item.Item.{Item}
use Rattle.rv_asm.proofs.Stretches.{quiet-between, then-runs}
use Rattle.action_terms.specs.Information.{Datum, Truth}
use Rattle.action_terms.specs.Actions.{Yielder, Check, Simple, node_at}
use Rattle.action_terms.specs.Acting.{Run}
use Rattle.action_terms.specs.Frames.{plugged}
use Rattle.action_terms.specs.Literals.{YielderFits}
use Rattle.action_terms.specs.Need.{yielder_count, node_yielder_count}
use Rattle.action_terms.specs.Performances.{OneOf, Here}
use Rattle.action_terms.specs.Steps.{silent, done, failed, checked, making, closures_in, open_steps}
use Rattle.action_terms.specs.Suited.{IsSuitedNode, IsSuitedPrimitive}
use Rattle.action_terms.specs.Yielding.{yields}
use Rattle.rv_yield.specs.Conditions.{condition_items}
use Rattle.rv_yield.specs.Registers.{is_built}
use Rattle.rv_yield.proofs.Deciding.{Chosen, condition-comes}
use Rattle.rv_yield.proofs.NeedLaws.{registers-enough}
use Rattle.rv_yield.proofs.Steps.{Arrives}
use Rattle.rv_codegen.specs.Blocks.{fail_label, stop_of}
use Rattle.rv_codegen.proofs.Ending.{nothing-done}
use Rattle.rv_codegen.proofs.FindsGiven.{all-members, finds-given}
use Rattle.rv_codegen.proofs.Holding.{grows-same}
use Rattle.rv_codegen.proofs.InputLeft.{left-same}
use Rattle.rv_codegen.specs.GivenItems.{alone}
use Rattle.rv_codegen.proofs.NoSlots.{alone-near, no-slots}
use Rattle.rv_codegen.proofs.Nothing.{built-makes_none, has-words, nothing-did}
use Rattle.rv_codegen.proofs.Performing.{Did, step-failed}
use Rattle.rv_codegen.proofs.PieceStands.{PieceStands, piece-stands}
use Rattle.rv_codegen.proofs.RestPoints.{Laid, Starting, StartGoesOn, near, open-run}
use Rattle.rv_codegen.proofs.Settings.{way-runs, Setting, code, start, stop, exit, failure, node_words}
use Rattle.rv_codegen.proofs.Standing.{NodeStands}
use Rattle.rv_codegen.proofs.Units.{units-more}

-- what the code of a node needs of the yielder that it checks
pub record IsCheckable (y : Yielder) : Type 0 where
  pub built : is_built y ≡ true
  pub few : yielder_count y < 65536
  pub fits : YielderFits y

abbrev condition : List ℕ → Yielder → List Item
condition given y = condition_items (alone given) true fail_label fail_label y

module _ (s : Setting) where
  module _ (laid : Laid s) (x : Starting s) (y : Yielder) (e : node_at s.action x.k ≡ Simple (Check y)) where
    abbrev Stood : Type 0
    Stood = PieceStands s x.k (condition (s.places.given x.k) y)

    abbrev next : ℕ
    next = address_of ((start s x.k).place + total (condition (s.places.given x.k) y))

    paid : 400 + 24 * (0 + 1) * (yielder_count y + 1) ≤ s.factor
    paid = subst (λ m. 400 + 24 * (0 + 1) * (node_yielder_count m + 1) ≤ s.factor) e (laid.paid x.k 0 (omega arith))

    -- the yielder has yielded `true`
    checked-did : (at : Stood) → Arrives s.base (code s) (24 * yielder_count y) 10 10 x.state next → stop_of x.k < s.labels → Did s laid x (silent done) (exit s x.k)
    checked-did at a within_labels =
        let h = x.runs.here in
        let g = way-runs s.base (code s) a.end (stop s x.k) (exit s x.k) (near s laid (stop_of x.k)) (near s laid (get_or s.exits x.k 0)) (a.at ∙ ap address_of (sym at.behind)) at.leave in
        let runs = then-runs s.base (code s) a.count g.count x.state a.end g.end a.runs g.runs in
        let output = g.output ∙ a.output in
        record {
          end = g.end;
          count = a.count + g.count;
          some = ⊎_elim (λ p. inl (omega (arith, p))) (λ p. inr (omega (arith, p, within_labels))) g.some;
          few = omega (arith, a.few, g.few, paid);
          runs = runs;
          between = quiet-between s.base (code s) (a.count + g.count) x.state g.end runs output;
          at = g.at;
          heap = h.heap;
          grows = grows-same h.heap;
          words = h.words;
          stands = record {
            region = g.others 3 (omega arith) ∙ a.others 3 (omega arith) (omega arith) ∙ h.stands.region;
            frame_at = g.others 2 (omega arith) ∙ a.others 2 (omega arith) (omega arith) ∙ h.stands.frame_at;
            words_are = g.words ∙ a.words ∙ h.stands.words_are;
          };
          region = h.region;
          agrees = record { here = λ o no. refl; below = λ j l lt. refl };
          units_are = units-more s h.heap h.words (plugged x.frames (silent done)) x.steps x.world.cells h.units_are;
          left = left-same {ys = g.end.input} (g.input ∙ a.input) x.left;
          output = output ∙ x.shown;
        }

    module _ (ok : IsCheckable y) where
      open-checked : (o : Option Datum) → yields y x.d x.b x.world.cells ≡ o → OneOf (silent (checked o)) (open_steps s.action x.world (Run x.k x.d x.b))
      open-checked o is =
          let n = silent (checked o) in
          let same : making (closures_in y) x.b (silent (checked (yields y x.d x.b x.world.cells))) ≡ n = ap (λ cs. making cs x.b (silent (checked (yields y x.d x.b x.world.cells)))) (built-makes_none y ok.built) ∙ ap (λ v. silent (checked v)) is in
          open-run s x.k x.d x.b x.world (Simple (Check y)) n e (subst (λ m. OneOf n (m ∷ [])) (sym same) Here)

      pub check-goes : LabelsStand s.items → stop_of x.k < s.labels → NodeStands s.items (node_words s) s.exits x.k (Simple (Check y)) → StartGoesOn s x
      check-goes labels within_labels node =
          let h = x.runs.here in
          let given = s.places.given x.k in
          let inside = λ (o : ℕ) (m : OneOf o given). laid.data_laid.given_within x.k o h.node m in
          let near_given = all-members (λ o. o < 33554432) given (λ o m. omega (arith, inside o m, laid.data_laid.reached x.k h.node)) in
          let at = piece-stands s x.k (condition given y) laid labels within_labels (Simple (Check y)) refl node in
          let suited : IsSuitedPrimitive (Check y) x.d x.b x.world.cells = subst (λ n. IsSuitedNode n x.d x.b x.world.cells) e (laid.data_laid.suits x.steps x.frames x.k x.d x.b x.world x.runs.here.node x.reached).suited in
          let chosen = condition-comes s.base (code s) (spot s.items) fail_label fail_label (near s laid fail_label) (near s laid fail_label) h.heap (alone given) (alone-near near_given) h.f x.d x.b x.world.cells y true ok.built (has-words y ok.fits) (no-slots y ok.built x.b) suited.0 (omega (arith, registers-enough y ok.few)) suited.1 (start s x.k).place x.state (omega (arith, at.within)) x.runs.at at.code_stands (finds-given s laid x inside) in
          by at (yields y x.d x.b x.world.cells) refl chosen
        where
          by : Stood → (o : Option Datum) → yields y x.d x.b x.world.cells ≡ o → Chosen s.base (code s) (spot s.items) true (24 * yielder_count y) x.state next (address_of (failure s).place) (address_of (failure s).place) o → StartGoesOn s x
          by at None is a = step-failed s laid x (silent failed) (open-checked None is) refl (nothing-did s laid x (24 * yielder_count y) (omega (arith, paid)) at.behind_failure a)
          by at (Some (Truth true)) is a = nothing-done s laid x (silent done) (open-checked (Some (Truth true)) is) refl (checked-did at a within_labels)
          by at (Some (Truth false)) is a = step-failed s laid x (silent failed) (open-checked (Some (Truth false)) is) refl (nothing-did s laid x (24 * yielder_count y) (omega (arith, paid)) at.behind_failure a)
          by at (Some z) is a = absurd a
