-- Nodes that send: the value of their yielder is put into register 10, and the entry that sends is called. Where there is no
-- value, the code has gone to the entry for failures.
use Rattle.std.proofs.Common.{◌≡◌, ⊎_elim, ℕ, suc, ◌+◌, ◌*◌, ◌^◌, ◌<◌, ◌≤◌, true, List, [], ◌∷◌, ◌++◌, length, get_or, Some, None, refl, sym, ap, ap₂, ◌∙◌, subst, arith, inl, append_assoc}
use Rattle.rv_code.specs.Bytes.{bytes_of}
use Rattle.rv_asm.specs.Arrivals.{LabelsStand}
use Rattle.rv_asm.specs.Assembly.{address_of, far_address, far_jump, spot, total, code_from}
use Rattle.rv_asm.specs.WordMachine.{WordState, Goes, run_words, Has}
use Rattle.rv_asm.specs.declared.item.Item.{Item}
use Rattle.rv_asm.specs.declared.item.Item.TheVariants.{Mark, Jump, Address}
use Rattle.rv_asm.specs.DataWords.{StandsFor}
use Rattle.rv_prelude.specs.PieceRuns.{HasRegion}
use Rattle.rv_asm.proofs.Stretches.{Between, then-runs, between-then-quiet, quiet-then-between}
use Rattle.action_terms.specs.Information.{Datum, Number}
use Rattle.action_terms.specs.Actions.{Yielder, Send, Simple, node_at}
use Rattle.action_terms.specs.Literals.{YielderFits}
use Rattle.action_terms.specs.Need.{yielder_count, node_yielder_count}
use Rattle.action_terms.specs.Performances.{OneOf, Here}
use Rattle.action_terms.specs.Steps.{Step, Sends as SendsEffect, with_effect, silent, done, failed, sent, making, closures_in, open_steps}
use Rattle.action_terms.specs.Acting.{Run}
use Rattle.action_terms.specs.Frames.{plugged}
use Rattle.action_terms.specs.Suited.{IsOfSort, IsSuitedNode, IsSuitedPrimitive}
use Rattle.action_terms.specs.Yielding.{yields}
use Rattle.action_terms.specs.declared.kinds.Sort.TheVariants as sort
use Rattle.rv_yield.specs.Registers.{is_built}
use Rattle.rv_yield.specs.YielderCode.{value_items}
use Rattle.rv_yield.proofs.Evaluation.{value-comes}
use Rattle.rv_yield.proofs.NeedLaws.{registers-enough}
use Rattle.rv_yield.proofs.Steps.{Arrives, Present}
use Rattle.rv_yield.proofs.Valued.{Known, Valued, valued-cases}
use Rattle.rv_codegen.specs.Blocks.{fail_label, send_label, start_of, stop_of, opening, leaves, sends}
use Rattle.rv_codegen.proofs.AroundKept.{frames-high}
use Rattle.rv_codegen.proofs.Committing.{sent_words, sent-other, sent-region}
use Rattle.rv_codegen.proofs.Ending.{leaves-stand, nothing-done}
use Rattle.rv_codegen.proofs.FindsGiven.{all-members, finds-given}
use Rattle.rv_codegen.proofs.Holding.{grows-same}
use Rattle.rv_codegen.proofs.InputLeft.{left-same}
use Rattle.rv_prelude.proofs.Jumps.{jumped, jump-runs, addressed, address-runs}
use Rattle.rv_codegen.proofs.Nothing.{built-makes_none, has-words, nothing-did}
use Rattle.rv_codegen.proofs.Messages.{bytes_of-message, messages_bytes-append}
use Rattle.rv_codegen.specs.GivenItems.{alone}
use Rattle.rv_codegen.proofs.NoSlots.{alone-near, no-slots}
use Rattle.rv_codegen.proofs.Performing.{Did, step-failed}
use Rattle.rv_codegen.proofs.RestPoints.{Laid, Starting, StartGoesOn, near, open-run}
use Rattle.rv_codegen.proofs.SendEntry.{send_code, send_entry-runs}
use Rattle.rv_codegen.proofs.Settings.{Way, way-runs, Setting, code, point, start, stop, exit, failure, node_words}
use Rattle.rv_codegen.proofs.Standing.{NodeStands}
use Rattle.rv_codegen.proofs.Units.{units-kept}
use Rattle.rv_prelude.proofs.Cursors.{Cursor, stands, over, over-mark, mark-at, jump-stands, over-jump, address-stands, over-address}

-- what the code of a node needs of the yielder that it sends
pub record IsSendable (y : Yielder) : Type 0 where
  pub built : is_built y ≡ true
  pub few : yielder_count y < 65536
  pub fits : YielderFits y

module _ (s : Setting) where
  -- what stands in the code of node k, which sends what a yielder yields: the yielder's code, and the call of the entry
  record Calls (k : ℕ) (y : Yielder) : Type 0 where
    call : ℕ
    value : Has (code s) (address_of (start s k).place) (code_from (spot s.items) (start s k).place (value_items (alone (s.places.given k)) 10 10 fail_label y))
    behind_value : call ≡ (start s k).place + total (value_items (alone (s.places.given k)) 10 10 fail_label y)
    within : call + 2 < 2 ^ 28
    back : Has (code s) (address_of call) (far_address 1 call (stop s k).place)
    enter : Has (code s) (address_of (call + 2)) (far_jump (call + 2) (point s send_label).place)
    leave : Way (code s) (stop s k) (exit s k)

  calls-stand : Laid s → LabelsStand s.items → (k : ℕ) (y : Yielder) (n : ℕ) (behind : List Item) → spot s.items (start_of k) ≡ n → stop_of k < s.labels → Cursor s.items n ((sends (s.places.given k) k y ++ leaves k (get_or s.exits k 0)) ++ (opening (suc k) ++ behind)) → Calls k y
  calls-stand laid labels k y n behind here within c =
      let value = value_items (alone (s.places.given k)) 10 10 fail_label y in
      let rest = leaves k (get_or s.exits k 0) ++ (opening (suc k) ++ behind) in
      let tail = Address 1 (stop_of k) ∷ Jump send_label ∷ Mark (stop_of k) ∷ rest in
      let same : (sends (s.places.given k) k y ++ leaves k (get_or s.exits k 0)) ++ (opening (suc k) ++ behind) ≡ value ++ tail =
      append_assoc (sends (s.places.given k) k y) (leaves k (get_or s.exits k 0)) (opening (suc k) ++ behind) ∙ append_assoc value (Address 1 (stop_of k) ∷ Jump send_label ∷ Mark (stop_of k) ∷ []) rest in
      let c1 : Cursor s.items n (value ++ tail) = subst (Cursor s.items n) same c in
      let m = n + total value in
      let c2 = over s.items n value tail c1 in
      let c3 = over-address s.items m 1 (stop_of k) (Jump send_label ∷ Mark (stop_of k) ∷ rest) c2 in
      let c4 = over-jump s.items (m + 2) send_label (Mark (stop_of k) ∷ rest) c3 in
      let c5 = over-mark s.items (m + 2 + 2) (stop_of k) rest c4 in
      let stop_at = mark-at s.items labels (m + 2 + 2) (stop_of k) rest c4 in
      record {
        call = m;
        value = subst (λ x. Has (code s) (address_of x) (code_from (spot s.items) x value)) (sym here) (stands s.items n value tail c1);
        behind_value = ap (λ x. x + total value) (sym here);
        within = omega (arith, stop_at, near s laid (stop_of k));
        back = address-stands s.items m 1 (stop_of k) (Jump send_label ∷ Mark (stop_of k) ∷ rest) c2;
        enter = jump-stands s.items (m + 2) send_label (Mark (stop_of k) ∷ rest) c3;
        leave = leaves-stand s labels k (m + 2 + 2) (stop_of k) behind stop_at (omega arith) within c5;
      }

  module _ (laid : Laid s) (entry : Has (code s) (address_of (point s send_label).place) send_code) where
    -- the entry has been called from a state, and the node's exit has been reached
    record HasCalled (k : ℕ) (c : WordState) : Type 0 where
      end : WordState
      count : ℕ
      some : 0 < count
      few : count ≤ 16
      runs : run_words s.base (code s) count c ≡ Goes end
      between : Between s.base (code s) count c end
      at : end.pc ≡ address_of (exit s k).place
      region_at : end.registers 3 ≡ c.registers 3
      frame_at : end.registers 2 ≡ c.registers 2
      words : end.words ≡ sent_words s c.words (c.registers 10)
      input : end.input ≡ c.input
      output : end.output ≡ c.output ++ bytes_of 8 (c.registers 10)

    call-runs : (k : ℕ) (y : Yielder) (calls : Calls k y) (c : WordState) → c.pc ≡ address_of calls.call → c.registers 3 ≡ s.base → length c.words ≡ s.count → HasCalled k c
    call-runs k y calls c here region size =
        let c2 = addressed c 0 calls.call (stop s k).place in
        let back = address-runs s.base (code s) c 0 calls.call (stop s k).place (omega (arith, calls.within)) (near s laid (stop_of k)) here calls.back in
        let send_at = (point s send_label).place in
        let c3 = jumped c2 (calls.call + 2) send_at in
        let enters = jump-runs s.base (code s) c2 (calls.call + 2) send_at calls.within (near s laid send_label) refl calls.enter in
        let in_region : HasRegion s.base c3 = record { aligned = laid.aligned; below = omega (arith, laid.below, size); front = omega (arith, size, laid.some); region = region } in
        let sent = send_entry-runs s.base (code s) c3 (address_of (stop s k).place) in_region refl (omega arith) (omega (arith, near s laid (stop_of k))) entry in
        let g = way-runs s.base (code s) sent.to (stop s k) (exit s k) (near s laid (stop_of k)) (near s laid (get_or s.exits k 0)) sent.at calls.leave in
        let to3 = then-runs s.base (code s) 2 2 c c2 c3 back enters in
        let last = then-runs s.base (code s) 10 g.count c3 sent.to g.end sent.runs g.runs in
        record {
          end = g.end;
          count = 4 + (10 + g.count);
          some = omega arith;
          few = omega (arith, g.few);
          runs = then-runs s.base (code s) 4 (10 + g.count) c c3 g.end to3 last;
          between = quiet-then-between s.base (code s) 4 (10 + g.count) c c3 g.end to3 refl (between-then-quiet s.base (code s) 10 g.count c3 sent.to g.end sent.runs sent.between g.runs g.output);
          at = g.at;
          region_at = g.others 3 (omega arith) ∙ sent.others 3 (omega arith);
          frame_at = g.others 2 (omega arith) ∙ sent.others 2 (omega arith);
          words = g.words ∙ sent.words;
          input = g.input ∙ sent.input;
          output = g.output ∙ sent.output;
        }

    module _ (x : Starting s) where
      -- a call of the entry writes four words at the front of the region
      word-kept : (word j : ℕ) → 4 ≤ j → get_or (sent_words s x.runs.here.words word) j 0 ≡ get_or x.runs.here.words j 0
      word-kept word j far = sent-other s x.runs.here.words x.runs.here.chains word x.runs.here.region laid.some j far

      module _ (y : Yielder) (e : node_at s.action x.k ≡ Simple (Send y)) where
        -- the code of the yielder has come to an address
        abbrev Comes : ℕ → Type 0
        Comes address = Arrives s.base (code s) (12 * yielder_count y) 10 10 x.state address

        abbrev Sent : ℕ → Type 0
        Sent address = Present s.base (code s) (12 * yielder_count y) 10 10 x.state address (yields y x.d x.b x.world.cells)

        paid : 400 + 24 * (0 + 1) * (yielder_count y + 1) ≤ s.factor
        paid = subst (λ m. 400 + 24 * (0 + 1) * (node_yielder_count m + 1) ≤ s.factor) e (laid.paid x.k 0 (omega arith))

        -- an integer is sent
        send-did : (calls : Calls x.k y) (v : Sent (address_of calls.call)) → Did s laid x (with_effect (SendsEffect v.integer) done) (exit s x.k)
        send-did calls v =
            let h = x.runs.here in
            let a = v.arrives in
            let word = a.end.registers 10 in
            let step = plugged x.frames (with_effect (SendsEffect v.integer) done) in
            let region_at : a.end.registers 3 ≡ s.base = a.others 3 (omega arith) (omega arith) ∙ h.stands.region in
            let words_at : a.end.words ≡ h.words = a.words ∙ h.stands.words_are in
            let g = call-runs x.k y calls a.end a.at region_at (ap length words_at ∙ h.region.size) in
            let words_are : g.end.words ≡ sent_words s h.words word = g.words ∙ ap (λ ws. sent_words s ws word) words_at in
            record {
              end = g.end;
              count = a.count + g.count;
              some = inl (omega (arith, g.some));
              few = omega (arith, a.few, g.few, paid);
              runs = then-runs s.base (code s) a.count g.count x.state a.end g.end a.runs g.runs;
              between = quiet-then-between s.base (code s) a.count g.count x.state a.end g.end a.runs a.output g.between;
              at = g.at;
              heap = h.heap;
              grows = grows-same h.heap;
              words = sent_words s h.words word;
              stands = record { region = g.region_at ∙ region_at; frame_at = g.frame_at ∙ a.others 2 (omega arith) (omega arith) ∙ h.stands.frame_at; words_are = words_are };
              region = sent-region s h.words h.chains word h.region laid.some;
              agrees = record { here = λ o no. word-kept word (h.f + o) (omega (arith, high)); below = λ j l lt. word-kept word j (omega arith) };
              units_are = units-kept s h.heap h.words (sent_words s h.words word) x.steps (step ∷ x.steps) x.world.cells (λ j out. word-kept word j (⊎_elim (λ o. o.0) (λ o. omega arith) out)) (omega arith) h.units_are;
              left = left-same {ys = g.end.input} (g.input ∙ a.input) x.left;
              output = g.output ∙ ap₂ ◌++◌ (a.output ∙ x.shown) (ap (bytes_of 8) v.value ∙ bytes_of-message v.integer) ∙ sym (messages_bytes-append x.world.output v.integer);
            }
          where
            high : 512 ≤ x.runs.here.f
            high = frames-high s x.runs.here.heap x.runs.here.words x.frames x.runs.here.f x.k x.runs.here.chains x.runs.here.around

        module _ (ok : IsSendable y) where
          -- the node's one step is to send what the yielder yields
          open-sent : (n : Step) → sent (yields y x.d x.b x.world.cells) ≡ n → n.made ≡ [] → OneOf n (open_steps s.action x.world (Run x.k x.d x.b))
          open-sent n is none =
              let same : making (closures_in y) x.b (sent (yields y x.d x.b x.world.cells)) ≡ n = ap₂ (λ bodies m. making bodies x.b m) (built-makes_none y ok.built) is ∙ ap (λ ms. record n { made = ms }) (sym none) in
              open-run s x.k x.d x.b x.world (Simple (Send y)) n e (subst (λ m. OneOf n (m ∷ [])) (sym same) Here)

          -- an integer is in the register
          present : (address : ℕ) → (p : Known s.base (code s) x.runs.here.heap (12 * yielder_count y) 10 10 x.state address (yields y x.d x.b x.world.cells)) → IsOfSort sort.Integer (yields y x.d x.b x.world.cells) → Sent address
          present address p sorted = by p.datum p.is p.stands (subst (IsOfSort sort.Integer) p.is sorted)
            where
              by : (z : Datum) → yields y x.d x.b x.world.cells ≡ Some z → StandsFor s.base x.runs.here.heap (p.arrives.end.registers 10) z → IsOfSort sort.Integer (Some z) → Sent address
              by (Number n) is stands it = record { integer = n; is = is; fits = stands.1; arrives = p.arrives; value = stands.0 }
              by _ is stands it = absurd (cc)

          pub send-goes : LabelsStand s.items → stop_of x.k < s.labels → NodeStands s.items (node_words s) s.exits x.k (Simple (Send y)) → StartGoesOn s x
          send-goes labels within stands =
              let h = x.runs.here in
              let k = x.k in
              let given = s.places.given k in
              let inside = λ (o : ℕ) (m : OneOf o given). laid.data_laid.given_within k o h.node m in
              let near_given = all-members (λ o. o < 33554432) given (λ o m. omega (arith, inside o m, laid.data_laid.reached k h.node)) in
              let calls = calls-stand laid labels k y stands.place stands.behind stands.opened.start within stands.opened.cursor in
              let size = total (value_items (alone given) 10 10 fail_label y) in
              let next : address_of ((start s k).place + size) ≡ address_of calls.call = ap address_of (sym calls.behind_value) in
              let less : (failure s).place < (start s k).place = omega (arith, stands.opened.start, stands.behind_failure) in
              let v = yields y x.d x.b x.world.cells in
              let suited : IsSuitedPrimitive (Send y) x.d x.b x.world.cells = subst (λ n. IsSuitedNode n x.d x.b x.world.cells) e (laid.data_laid.suits x.steps x.frames k x.d x.b x.world x.runs.here.node x.reached).suited in
              let outcome =
              value-comes s.base (code s) (spot s.items) fail_label (near s laid fail_label) h.heap (alone given) (alone-near near_given) h.f x.d x.b x.world.cells y ok.built (has-words y ok.fits) (no-slots y ok.built x.b) suited.0 10 10 (omega arith) (omega (arith, registers-enough y ok.few)) (inl refl) (start s k).place x.state (omega (arith, calls.within, calls.behind_value)) x.runs.at calls.value (finds-given s laid x inside) in
              ⊎_elim
              (λ (q : Known s.base (code s) h.heap (12 * yielder_count y) 10 10 x.state (address_of calls.call) v).
              let p = present (address_of calls.call) q suited.1 in
              nothing-done s laid x (with_effect (SendsEffect p.integer) done) (open-sent (with_effect (SendsEffect p.integer) done) (ap sent p.is) refl) refl (send-did calls p))
              (λ (p : (v ≡ None) × Comes (address_of (failure s).place)).
              step-failed s laid x (silent failed) (open-sent (silent failed) (ap sent p.0) refl) refl (nothing-did s laid x (12 * yielder_count y) (omega (arith, paid)) less p.1))
              (valued-cases s.base (code s) h.heap (12 * yielder_count y) 10 10 x.state (address_of calls.call) (address_of (failure s).place) v
              (subst (λ p. Valued s.base (code s) h.heap (12 * yielder_count y) 10 10 x.state p (address_of (failure s).place) v) next outcome))
