-- Nodes whose code is a way at most: `complete` and `fail`.
use Rattle.std.proofs.Common.{◌≡◌, ℕ, suc, ◌<◌, List, [], ◌∷◌, ◌++◌, length, None, Some, get_or, refl, sym, ap, ap₂, ◌∙◌, subst, arith, inr}
use Rattle.rv_asm.specs.Arrivals.{LabelsStand}
use Rattle.rv_asm.specs.Assembly.{address_of, far_jump, spot}
use Rattle.rv_asm.specs.DataWords.{Heap}
use Rattle.rv_asm.specs.WordMachine.{Has}
use Rattle.rv_asm.specs.declared.item.Item.{Item}
use Rattle.rv_asm.proofs.Stretches.{quiet-between}
use Rattle.action_terms.specs.Information.{NoBinds}
use Rattle.action_terms.specs.Actions.{Primitive, Complete, Failing, Simple, node_at}
use Rattle.action_terms.specs.Acting.{Run}
use Rattle.action_terms.specs.Performances.{OneOf, Here, messages_bytes}
use Rattle.action_terms.specs.Steps.{Step, silent, commits, world_after, done, failed, making, closures_of, performed, open_steps}
use Rattle.action_terms.specs.Frames.{plugged}
use Rattle.rv_codegen.specs.Blocks.{fail_label, front_of, start_of, opening, leaves, body}
use Rattle.rv_codegen.proofs.Around.{BindsLeft}
use Rattle.rv_codegen.proofs.Holding.{Holds, HoldsBinds, grows-same}
use Rattle.rv_codegen.proofs.InputLeft.{Left, left-same}
use Rattle.rv_codegen.proofs.Performing.{chains_after, Did, step-done, step-failed}
use Rattle.rv_codegen.proofs.RestPoints.{Laid, Region, Starting, StartGoesOn, near, open-run, went-stands}
use Rattle.rv_codegen.proofs.Settings.{Way, way-runs, Setting, code, point, start, exit, failure, node_words}
use Rattle.rv_codegen.proofs.Standing.{NodeStands, opens}
use Rattle.rv_codegen.proofs.Units.{Units, units-more}
use Rattle.rv_prelude.proofs.Cursors.{Cursor, jump-stands}
use Rattle.rv_codegen.proofs.Walk.{way-stands}

-- no words are listed where there are none
pub none-long : (os : List ℕ) → 0 ≡ length os → os ≡ []
none-long [] e = refl
none-long (o ∷ os) e = absurd (omega arith)

module _ (s : Setting) where
  pub binds-none : (k : ℕ) → s.places.bound_out k ≡ [] → (heap : Heap) (words : List ℕ) (f : ℕ) → BindsLeft s heap words f k NoBinds
  binds-none k none heap words f = record {
    held = subst (λ ss. HoldsBinds s.base heap words f ss NoBinds) (sym none) tt;
    table = record { ascends = tt; among = λ t x q. absurd (let r : None ≡ Some x = q in cc) };
  }

  -- where a node goes on, from a label before which its code has come
  pub leaves-stand : LabelsStand s.items → (k n from : ℕ) (behind : List Item) → spot s.items from ≡ n → from < front_of (suc k) → from < s.labels → Cursor s.items n (leaves k (get_or s.exits k 0) ++ (opening (suc k) ++ behind)) → Way (code s) (point s from) (exit s k)
  leaves-stand labels k n from behind here lower within c =
      way-stands s n from (front_of (suc k)) (get_or s.exits k 0) (opening (suc k) ++ behind) here c (λ c'. (opens s.items labels (suc k) n behind c').front) (omega arith)

  module _ (laid : Laid s) (x : Starting s) where
    -- the node completes without data and bindings
    pub nothing-done : (n : Step) → OneOf n (open_steps s.action x.world (Run x.k x.d x.b)) → n.tree ≡ done → Did s laid x n (exit s x.k) → StartGoesOn s x
    nothing-done n o tree did =
        let fits = laid.data_laid.fits x.steps x.frames x.k (Run x.k x.d x.b) x.world n [] NoBinds x.runs.here.node refl x.reached o tree in
        let none = none-long (s.places.out x.k) (laid.data_laid.fills x.k [] NoBinds x.runs.here.node fits) in
        step-done s laid x n [] NoBinds o tree did
        (subst (λ os. Holds s.base did.heap did.words x.runs.here.f os []) (sym none) tt)
        (binds-none x.k (laid.data_laid.unbound x.k) did.heap did.words x.runs.here.f)

    -- a way from the node's start is all that its code does, for a step that leaves the world as it is
    way-did : (n : Step) (to : ℕ) → world_after n.effect x.world ≡ x.world → Region s x.runs.here.words (chains_after (commits n.effect) x.runs.here.chains) → Way (code s) (start s x.k) (point s to) → Did s laid x n (point s to)
    way-did n to same region way =
        let h = x.runs.here in
        let g = way-runs s.base (code s) x.state (start s x.k) (point s to) (near s laid (start_of x.k)) (near s laid to) x.runs.at way in
        record {
          end = g.end;
          count = g.count;
          some = g.some;
          few = omega (arith, g.few, s.ample);
          runs = g.runs;
          between = quiet-between s.base (code s) g.count x.state g.end g.runs g.output;
          at = g.at;
          heap = h.heap;
          grows = grows-same h.heap;
          words = h.words;
          stands = went-stands s x.state (start s x.k) (point s to) h.words h.f g h.stands;
          region = region;
          agrees = record { here = λ o no. refl; below = λ j l lt. refl };
          units_are = subst (λ w. Units s h.heap h.words (plugged x.frames n ∷ x.steps) w.cells) (sym same) (units-more s h.heap h.words (plugged x.frames n) x.steps x.world.cells h.units_are);
          left = subst (λ w. Left g.end.input w.input) (sym same) (left-same {ys = g.end.input} g.input x.left);
          output = g.output ∙ x.shown ∙ ap (λ w. messages_bytes w.output) (sym same);
        }

    -- so it does where its code goes on at once
    ends-goes : (p : Primitive) (n : Step) → node_at s.action x.k ≡ Simple p → performed p x.d x.b x.world ≡ n → closures_of p ≡ [] → n.made ≡ [] → n.tree ≡ done → world_after n.effect x.world ≡ x.world → Region s x.runs.here.words (chains_after (commits n.effect) x.runs.here.chains) → LabelsStand s.items → start_of x.k < s.labels → NodeStands s.items (node_words s) s.exits x.k (Simple p) → body (node_words s) x.k (get_or s.exits x.k 0) (Simple p) ≡ leaves x.k (get_or s.exits x.k 0) → StartGoesOn s x
    ends-goes p n e is none_made none_in tree same region labels within stands code_is =
        let cursor = subst (λ b. Cursor s.items stands.place (b ++ (opening (suc x.k) ++ stands.behind))) code_is stands.opened.cursor in
        let way = leaves-stand labels x.k stands.place (start_of x.k) stands.behind stands.opened.start (omega arith) within cursor in
        let did = way-did n (get_or s.exits x.k 0) same region way in
        let made : making (closures_of p) x.b (performed p x.d x.b x.world) ≡ n = ap₂ (λ cs m. making cs x.b m) none_made is ∙ ap (λ ms. record n { made = ms }) (sym none_in) in
        let o = open-run s x.k x.d x.b x.world (Simple p) n e (subst (λ m. OneOf n (m ∷ [])) (sym made) Here) in
        nothing-done n o tree did

    pub complete-goes : node_at s.action x.k ≡ Simple Complete → LabelsStand s.items → start_of x.k < s.labels → NodeStands s.items (node_words s) s.exits x.k (Simple Complete) → StartGoesOn s x
    complete-goes e labels within stands = ends-goes Complete (silent done) e refl refl refl refl refl x.runs.here.region labels within stands refl

    pub fail-goes : node_at s.action x.k ≡ Simple Failing → NodeStands s.items (node_words s) s.exits x.k (Simple Failing) → StartGoesOn s x
    fail-goes e stands =
        let far = jump-stands s.items stands.place fail_label (opening (suc x.k) ++ stands.behind) stands.opened.cursor in
        let way : Way (code s) (start s x.k) (failure s) = inr (subst (λ m. Has (code s) (address_of m) (far_jump m (spot s.items fail_label))) (sym stands.opened.start) far) in
        step-failed s laid x (silent failed) (open-run s x.k x.d x.b x.world (Simple Failing) (silent failed) e Here) refl (way-did (silent failed) fail_label refl x.runs.here.region way)
