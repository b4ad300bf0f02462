-- Nodes that receive: the next integer of the input is taken and left; where none is left, the node fails without a commitment.
use Rattle.std.proofs.Common.{◌≡◌, ℕ, ◌+◌, ◌*◌, ◌<◌, ◌≤◌, ℤ, List, [], ◌∷◌, get_or, set, length, take, drop, refl, sym, ap, ◌∙◌, subst, arith, length-set, get_or-set_other, inl, ⊎_elim}
use Rattle.rv_asm.specs.Arrivals.{LabelsStand}
use Rattle.rv_asm.specs.Assembly.{address_of}
use Rattle.rv_asm.specs.WordMachine.{WordState, received_word}
use Rattle.rv_asm.proofs.Stretches.{then-runs, quiet-between}
use Rattle.rv_code.specs.Bytes.{number_of}
use Rattle.action_terms.specs.Acting.{Done, Run, Ended}
use Rattle.action_terms.specs.Actions.{Receive, Simple, node_at}
use Rattle.action_terms.specs.Frames.{plugged}
use Rattle.action_terms.specs.Information.{Number, NoBinds}
use Rattle.action_terms.specs.Performances.{OneOf, Here}
use Rattle.action_terms.specs.Steps.{Step, Takes, Misses, failed, making, open_steps, received, rest, with_effect}
use Rattle.rv_prelude.specs.Region.{committed_words}
use Rattle.rv_codegen.specs.Blocks.{receive_label, joint_of}
use Rattle.rv_codegen.proofs.Around.{committed}
use Rattle.rv_codegen.proofs.AroundKept.{frames-high}
use Rattle.rv_codegen.proofs.Committing.{sent_words, sent-other, sent-region}
use Rattle.rv_codegen.proofs.Fetching.{FetchCode, Fetched, calling, calling-at, calling-kept, calling-returns, calling-runs, fetch-stands, fetched-goes, region-kept}
use Rattle.rv_codegen.proofs.Holding.{grows-same}
use Rattle.rv_codegen.proofs.InputLeft.{Left, left-same}
use Rattle.rv_codegen.proofs.InputTaken.{IsTaken, left-taken, none-left}
use Rattle.rv_codegen.proofs.Performing.{Did, step-failed}
use Rattle.rv_codegen.proofs.RestPoints.{Laid, Region, Starting, StartGoesOn, open-run}
use Rattle.rv_codegen.proofs.Settings.{Setting, code, failure, node_words, stop}
use Rattle.rv_codegen.proofs.Standing.{NodeStands}
use Rattle.rv_codegen.proofs.StorageEntries.{HasStorage}
use Rattle.rv_codegen.proofs.Units.{Units, units-kept}

module _ (s : Setting) (laid : Laid s) (entries : HasStorage s) (x : Starting s) (stands : FetchCode s receive_label x.k) (e : node_at s.action x.k ≡ Simple Receive) where
  abbrev c : WordState
  c = calling s laid x receive_label stands

  high : 512 ≤ x.runs.here.f
  high = frames-high s x.runs.here.heap x.runs.here.words x.frames x.runs.here.f x.k x.runs.here.chains x.runs.here.around

  opens : (ns : List ℤ) → x.world.input ≡ ns → making [] x.b (received ns) ≡ received ns → OneOf (received ns) (open_steps s.action x.world (Run x.k x.d x.b))
  opens ns is none =
      open-run s x.k x.d x.b x.world (Simple Receive) (received ns) e
      (subst (λ m. OneOf (received ns) (making [] x.b (received m) ∷ [])) (sym is) (subst (λ m. OneOf (received ns) (m ∷ [])) (sym none) Here))

  -- ---- an integer is left

  module _ (n : ℤ) (ns : List ℤ) (is : x.world.input ≡ n ∷ ns) where
    abbrev step : Step
    step = with_effect Takes (Ended (Done (Number n ∷ []) NoBinds))

    taken : IsTaken x.state.input n ns
    taken = left-taken x.state.input n ns (subst (Left x.state.input) is x.left)

    abbrev word : ℕ
    word = number_of (take 8 x.state.input)

    abbrev ws : List ℕ
    ws = sent_words s x.runs.here.words word

    ws-other : (j : ℕ) → 4 ≤ j → get_or ws j 0 ≡ get_or x.runs.here.words j 0
    ws-other j far = sent-other s x.runs.here.words x.runs.here.chains word x.runs.here.region laid.some j far

    takes : StartGoesOn s x
    takes =
        let q = entries.receives s.base (address_of (stop s x.k).place) c (calling-at s laid x receive_label stands) (calling-returns s laid x receive_label stands) taken.many in
        let a = q.0.0 in
        let end = a.end in
        let words_are : end.words ≡ ws = a.words ∙ ap (λ z. sent_words s z word) x.runs.here.stands.words_are in
        let units_now : Units s x.runs.here.heap ws (plugged x.frames step ∷ x.steps) x.world.cells = units-kept s x.runs.here.heap x.runs.here.words ws x.steps (plugged x.frames step ∷ x.steps) x.world.cells
        (λ j out. ws-other j (⊎_elim (λ z. z.0) (λ z. omega arith) out)) (omega arith) x.runs.here.units_are in
        let fetched : Fetched s laid x receive_label stands step (Number n) = record {
          end = end;
          count = a.instructions;
          few = omega (arith, a.few);
          runs = a.leads.words;
          at = a.at;
          region_at = q.0.1 3 (omega arith);
          frame_at = q.0.1 2 (omega arith);
          heap = x.runs.here.heap;
          grows = grows-same x.runs.here.heap;
          word = (q.1 ∙ taken.word, taken.fits);
          commits = refl;
          region = subst (λ z. Region s z (committed x.runs.here.chains)) (sym words_are) (sent-region s x.runs.here.words x.runs.here.chains word x.runs.here.region laid.some);
          same = λ j lo lt. ap (λ z. get_or z j 0) words_are ∙ ws-other j (omega arith);
          units_are = subst (λ z. Units s x.runs.here.heap z (plugged x.frames step ∷ x.steps) x.world.cells) (sym words_are) units_now;
          left = left-same {ys = end.input} a.input (subst (λ z. Left (drop 8 x.state.input) (rest z)) (sym is) taken.rest);
          quiet = a.output;
          silent = refl;
        } in
        fetched-goes s laid x receive_label stands step (Number n) (opens (n ∷ ns) is refl) refl fetched

  -- ---- none is left

  module _ (is : x.world.input ≡ []) where
    abbrev miss : Step
    miss = with_effect Misses failed

    abbrev garbage : ℕ
    garbage = received_word (get_or x.state.words 0 0) x.state.input

    abbrev left_words : List ℕ
    left_words = set x.runs.here.words 0 garbage

    kept : (j : ℕ) → 1 ≤ j → get_or left_words j 0 ≡ get_or x.runs.here.words j 0
    kept j far = get_or-set_other x.runs.here.words 0 j garbage 0 (omega arith)

    misses : StartGoesOn s x
    misses =
        let h = x.runs.here in
        let few = none-left x.state.input (subst (Left x.state.input) is x.left) in
        let q = entries.receives_none s.base c (calling-at s laid x receive_label stands) few in
        let a = q.0 in
        let end = a.end in
        let count = 4 + a.instructions in
        let runs = then-runs s.base (code s) 4 a.instructions x.state c end (calling-runs s laid x receive_label stands) a.leads.words in
        let words_are : end.words ≡ left_words = a.words ∙ ap (λ z. set z 0 garbage) h.stands.words_are in
        let did : Did s laid x miss (failure s) = record {
          end = end;
          count = count;
          some = inl (omega arith);
          few = omega (arith, a.few, s.ample);
          runs = runs;
          between = quiet-between s.base (code s) count x.state end runs a.output;
          at = a.at;
          heap = h.heap;
          grows = grows-same h.heap;
          words = left_words;
          stands = record {
            region = q.1 3 (omega arith) ∙ calling-kept s laid x receive_label stands 3 (omega arith) (omega arith) ∙ h.stands.region;
            frame_at = q.1 2 (omega arith) ∙ calling-kept s laid x receive_label stands 2 (omega arith) (omega arith) ∙ h.stands.frame_at;
            words_are = words_are;
          };
          region = region-kept s h.words left_words h.chains (length-set h.words 0 garbage) (λ j lo lt. kept j lo) h.region;
          agrees = record { here = λ o no. kept (h.f + o) (omega (arith, high)); below = λ j lo lt. kept j (omega arith) };
          units_are = units-kept s h.heap h.words left_words x.steps (plugged x.frames miss ∷ x.steps) x.world.cells (λ j out. kept j (⊎_elim (λ z. omega (arith, z.0)) (λ z. omega arith) out)) (omega arith) h.units_are;
          left = left-same {ys = end.input} a.input (subst (Left []) (sym is) (refl, tt));
          output = a.output ∙ x.shown;
        } in
        step-failed s laid x miss (opens [] is refl) refl did

  receives-goes : (ns : List ℤ) → x.world.input ≡ ns → StartGoesOn s x
  receives-goes [] is = misses is
  receives-goes (n ∷ ns) is = takes n ns is

pub receive-goes : (s : Setting) (laid : Laid s) → HasStorage s → (x : Starting s) → node_at s.action x.k ≡ Simple Receive → LabelsStand s.items → joint_of x.k < s.labels → NodeStands s.items (node_words s) s.exits x.k (Simple Receive) → StartGoesOn s x
receive-goes s laid entries x e labels within stands =
    receives-goes s laid entries x (fetch-stands s laid labels receive_label x.k (Simple Receive) within refl stands) e x.world.input refl
