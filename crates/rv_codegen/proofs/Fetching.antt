-- Nodes that call an entry for the word of a datum, which they complete with: the call, and what the node does behind it.
use Rattle.std.proofs.Common.{◌≡◌, ◌⊎◌, ⊎_elim, ℕ, suc, ◌+◌, ◌*◌, ◌^◌, ◌<◌, ◌≤◌, true, List, [], ◌∷◌, ◌++◌, get_or, set, length, map, refl, sym, ap, ◌∙◌, subst, arith, length-set, get_or-set_same, get_or-set_other, inl, inr, append_assoc}
use Rattle.std.proofs.lemmas.Bool.{cases_lt}
use Rattle.rv_asm.specs.Arrivals.{LabelsStand}
use Rattle.rv_asm.specs.Assembly.{address_of, far_address, far_jump, spot}
use Rattle.rv_asm.specs.DataWords.{Heap, StandsFor}
use Rattle.rv_asm.specs.WordMachine.{WordState, Goes, run_words, Has}
use Rattle.rv_asm.specs.declared.item.Item.TheVariants.{Plain, Mark, Jump, Address}
use Rattle.rv_asm.proofs.Registers.{put-other}
use Rattle.rv_asm.proofs.Stretches.{then-runs, quiet-between}
use Rattle.action_terms.specs.Acting.{Done, Run, Ended}
use Rattle.action_terms.specs.Actions.{Node}
use Rattle.action_terms.specs.Frames.{plugged}
use Rattle.action_terms.specs.Information.{Datum, NoBinds}
use Rattle.action_terms.specs.Performances.{OneOf, Here, messages_bytes}
use Rattle.action_terms.specs.Steps.{Step, commits, open_steps, world_after}
use Rattle.rv_prelude.specs.EntryRuns.{IsAt, Returns}
use Rattle.rv_prelude.specs.PieceRuns.{HasRegion}
use Rattle.rv_prelude.specs.Region.{Chains}
use Rattle.rv_prelude.proofs.Cursors.{Cursor, over, over-address, over-jump, over-mark, over-plain, mark-at, address-stands, jump-stands, plain-stands, cursor-within}
use Rattle.rv_prelude.proofs.Jumps.{jumped, jump-runs, addressed, address-runs}
use Rattle.rv_yield.specs.YielderCode.{store_items}
use Rattle.rv_yield.proofs.Stored.{length-store, store-stores}
use Rattle.rv_codegen.specs.Blocks.{start_of, stop_of, joint_of, front_of, opening, leaves, body}
use Rattle.rv_codegen.specs.StorageItems.{fetches, kept_items}
use Rattle.rv_codegen.proofs.Around.{committed}
use Rattle.rv_codegen.proofs.AroundKept.{frames-high}
use Rattle.rv_codegen.proofs.Ending.{binds-none, leaves-stand}
use Rattle.rv_codegen.proofs.FindsGiven.{words-many}
use Rattle.rv_codegen.proofs.Holding.{Grows, Holds}
use Rattle.rv_codegen.proofs.InputLeft.{Left, left-same}
use Rattle.rv_codegen.proofs.Performing.{Did, chains_after, step-done}
use Rattle.rv_codegen.proofs.RestPoints.{Laid, Region, Starting, StartGoesOn, near}
use Rattle.rv_codegen.proofs.Settings.{Way, way-runs, Setting, code, point, start, stop, joint, exit, frame_words, node_words}
use Rattle.rv_codegen.proofs.Standing.{NodeStands}
use Rattle.rv_codegen.proofs.Units.{Units, units-kept}

-- one word is listed where one is wanted
pub record IsSingle (os : List ℕ) : Type 0 where
  pub offset : ℕ
  pub is : os ≡ offset ∷ []

pub single : (os : List ℕ) → 1 ≡ length os → IsSingle os
single [] e = absurd (omega arith)
single (o ∷ []) e = record { offset = o; is = refl }
single (o ∷ (p ∷ os)) e = absurd (omega arith)

module _ (s : Setting) where
  -- the region's front is kept where its words are
  pub region-kept : (ws ws' : List ℕ) (c : Chains) → length ws' ≡ length ws → ((j : ℕ) → 1 ≤ j → j < 4 → get_or ws' j 0 ≡ get_or ws j 0) → Region s ws c → Region s ws' c
  region-kept ws ws' c size same r = record {
    size = size ∙ r.size;
    alternative = same 1 (omega arith) (omega arith) ∙ r.alternative;
    trap = same 2 (omega arith) (omega arith) ∙ r.trap;
    mark = same 3 (omega arith) (omega arith) ∙ r.mark;
  }

  -- what stands in the code of node k, which calls an entry
  pub record FetchCode (entry k : ℕ) : Type 0 where
    pub within : (start s k).place + 4 < 2 ^ 28
    pub back : Has (code s) (address_of (start s k).place) (far_address 1 (start s k).place (stop s k).place)
    pub enter : Has (code s) (address_of ((start s k).place + 2)) (far_jump ((start s k).place + 2) (point s entry).place)
    pub keeps : Has (code s) (address_of (stop s k).place) (kept_items (s.places.out k))
    pub behind : (joint s k).place ≡ (stop s k).place + length (kept_items (s.places.out k))
    pub leave : Way (code s) (joint s k) (exit s k)

  pub fetch-stands : Laid s → LabelsStand s.items → (entry k : ℕ) (node : Node) → joint_of k < s.labels → body (node_words s) k (get_or s.exits k 0) node ≡ fetches entry (s.places.out k) k ++ leaves k (get_or s.exits k 0) → NodeStands s.items (node_words s) s.exits k node → FetchCode entry k
  fetch-stands laid labels entry k node within is at =
      let n = at.place in
      let kept = kept_items (s.places.out k) in
      let leaving = leaves k (get_or s.exits k 0) in
      let next = opening (suc k) ++ at.behind in
      let rest = leaving ++ next in
      let ends = Mark (joint_of k) ∷ rest in
      let start_at : spot s.items (start_of k) ≡ n = at.opened.start in
      let whole = subst (λ b. Cursor s.items n (b ++ next)) is at.opened.cursor in
      let call = Address 1 (stop_of k) ∷ Jump entry ∷ Mark (stop_of k) ∷ map Plain kept in
      let same = append_assoc (call ++ Mark (joint_of k) ∷ []) leaving next ∙ append_assoc call (Mark (joint_of k) ∷ []) rest in
      let c0 : Cursor s.items n (Address 1 (stop_of k) ∷ Jump entry ∷ Mark (stop_of k) ∷ (map Plain kept ++ ends)) = subst (Cursor s.items n) same whole in
      let c1 = over-address s.items n 1 (stop_of k) (Jump entry ∷ Mark (stop_of k) ∷ (map Plain kept ++ ends)) c0 in
      let c2 = over-jump s.items (n + 2) entry (Mark (stop_of k) ∷ (map Plain kept ++ ends)) c1 in
      let m = n + 2 + 2 in
      let c3 = over-mark s.items m (stop_of k) (map Plain kept ++ ends) c2 in
      let c4 = over-plain s.items m kept ends c3 in
      let m2 = m + length kept in
      let c5 = over-mark s.items m2 (joint_of k) rest c4 in
      let stop_at : spot s.items (stop_of k) ≡ m = mark-at s.items labels m (stop_of k) (map Plain kept ++ ends) c2 in
      let joint_at : spot s.items (joint_of k) ≡ m2 = mark-at s.items labels m2 (joint_of k) rest c4 in
      record {
        within = omega (arith, start_at, cursor-within s.items m (map Plain kept ++ ends) c3, laid.small);
        back = subst (λ p. Has (code s) (address_of p) (far_address 1 p (stop s k).place)) (sym start_at) (address-stands s.items n 1 (stop_of k) (Jump entry ∷ Mark (stop_of k) ∷ (map Plain kept ++ ends)) c0);
        enter = subst (λ p. Has (code s) (address_of (p + 2)) (far_jump (p + 2) (point s entry).place)) (sym start_at) (jump-stands s.items (n + 2) entry (Mark (stop_of k) ∷ (map Plain kept ++ ends)) c1);
        keeps = subst (λ p. Has (code s) (address_of p) kept) (sym stop_at) (plain-stands s.items m kept ends c3);
        behind = joint_at ∙ ap (λ p. p + length kept) (sym stop_at);
        leave = leaves-stand s labels k m2 (joint_of k) at.behind joint_at (omega arith) within c5;
      }

  module _ (laid : Laid s) (x : Starting s) (entry : ℕ) (stands : FetchCode entry x.k) where
    -- the state in which the entry is called
    abbrev pub calling : WordState
    calling = jumped (addressed x.state 0 (start s x.k).place (stop s x.k).place) ((start s x.k).place + 2) (point s entry).place

    pub calling-runs : run_words s.base (code s) 4 x.state ≡ Goes calling
    calling-runs =
        let c = addressed x.state 0 (start s x.k).place (stop s x.k).place in
        then-runs s.base (code s) 2 2 x.state c calling
        (address-runs s.base (code s) x.state 0 (start s x.k).place (stop s x.k).place (omega (arith, stands.within)) (near s laid (stop_of x.k)) x.runs.at stands.back)
        (jump-runs s.base (code s) c ((start s x.k).place + 2) (point s entry).place (omega (arith, stands.within)) (near s laid entry) refl stands.enter)

    pub calling-kept : (k : ℕ) → k < 31 → 1 < k → calling.registers k ≡ x.state.registers k
    calling-kept k lt gt = put-other (addressed x.state 0 (start s x.k).place (stop s x.k).place).registers k 31 _ (omega arith) ∙ put-other x.state.registers k 1 _ (omega arith)

    pub calling-at : IsAt s.items entry s.base calling
    calling-at = record {
      here = refl;
      region = record {
        aligned = laid.aligned;
        below = omega (arith, laid.below, words-many s laid x);
        front = omega (arith, words-many s laid x, laid.some);
        region = calling-kept 3 (omega arith) (omega arith) ∙ x.runs.here.stands.region;
      };
    }

    pub calling-returns : Returns (address_of (stop s x.k).place) calling
    calling-returns = record { is = refl; aligned = omega arith; below = omega (arith, near s laid (stop_of x.k)) }

    -- what the entry has done where it returns, for the node's step n: it has committed, and register 10 has the word of the datum that the node completes with
    pub record Fetched (n : Step) (datum : Datum) : Type 0 where
      pub end : WordState
      pub count : ℕ
      pub few : count ≤ 15
      pub runs : run_words s.base (code s) count calling ≡ Goes end
      pub at : end.pc ≡ address_of (stop s x.k).place
      pub region_at : end.registers 3 ≡ calling.registers 3
      pub frame_at : end.registers 2 ≡ calling.registers 2
      pub heap : Heap
      pub grows : Grows x.runs.here.heap heap
      pub word : StandsFor s.base heap (end.registers 10) datum
      pub commits : commits n.effect ≡ true
      pub region : Region s end.words (committed x.runs.here.chains)
      pub same : (j : ℕ) → 512 ≤ j → j < 512 + s.stack → get_or end.words j 0 ≡ get_or x.runs.here.words j 0
      pub units_are : Units s heap end.words (plugged x.frames n ∷ x.steps) (world_after n.effect x.world).cells
      pub left : Left end.input (world_after n.effect x.world).input
      pub quiet : end.output ≡ calling.output
      pub silent : (world_after n.effect x.world).output ≡ x.world.output

    -- the node completes with the datum
    pub fetched-goes : (n : Step) (datum : Datum) → OneOf n (open_steps s.action x.world (Run x.k x.d x.b)) → n.tree ≡ Ended (Done (datum ∷ []) NoBinds) → Fetched n datum → StartGoesOn s x
    fetched-goes n datum o tree g =
        let fits = laid.data_laid.fits x.steps x.frames x.k (Run x.k x.d x.b) x.world n (datum ∷ []) NoBinds x.runs.here.node refl x.reached o tree in
        completes (single (s.places.out x.k) (laid.data_laid.fills x.k (datum ∷ []) NoBinds x.runs.here.node fits))
      where
        completes : IsSingle (s.places.out x.k) → StartGoesOn s x
        completes one =
            let h = x.runs.here in
            let f = h.f in
            let word = g.end.registers 10 in
            let offset = one.offset in
            let mine : OneOf offset (s.places.out x.k) = subst (OneOf offset) (sym one.is) Here in
            let inside = laid.data_laid.out_within x.k offset h.node mine in
            let high = frames-high s h.heap h.words x.frames f x.k h.chains h.around in
            let size : length g.end.words ≡ s.count = g.region.size in
            let keeps : Has (code s) g.end.pc (store_items offset) = subst (λ p. Has (code s) p (store_items offset)) (sym g.at) (subst (λ os. Has (code s) (address_of (stop s x.k).place) (kept_items os)) one.is stands.keeps) in
            let behind : (joint s x.k).place ≡ (stop s x.k).place + length (store_items offset) = stands.behind ∙ ap (λ os. (stop s x.k).place + length (kept_items os)) one.is in
            let region_at : g.end.registers 3 ≡ s.base = g.region_at ∙ calling-kept 3 (omega arith) (omega arith) ∙ h.stands.region in
            let frame_at : g.end.registers 2 ≡ s.base + 8 * f = g.frame_at ∙ calling-kept 2 (omega arith) (omega arith) ∙ h.stands.frame_at in
            let stored = store-stores s.base (code s) f offset g.end (omega (arith, inside, laid.data_laid.reached x.k h.node)) (record { aligned = laid.aligned; below = omega (arith, laid.below, size); frame = frame_at }) (omega (arith, inside, h.clear, laid.units_inside, size)) keeps in
            let e = stored.end in
            let way = way-runs s.base (code s) e (joint s x.k) (exit s x.k) (near s laid (joint_of x.k)) (near s laid (get_or s.exits x.k 0)) (omega (arith, stored.pc, g.at, behind)) stands.leave in
            let ws = set g.end.words (f + offset) word in
            let far = λ (j : ℕ) (ne : (j < f + offset) ⊎ (f + offset < j)). get_or-set_other g.end.words (f + offset) j word 0 (⊎_elim (λ lt. omega arith) (λ gt. omega arith) ne) in
            let long = length-set g.end.words (f + offset) word in
            let count = 4 + (g.count + (length (store_items offset) + way.count)) in
            let last = then-runs s.base (code s) (length (store_items offset)) way.count g.end e way.end stored.runs way.runs in
            let runs = then-runs s.base (code s) 4 (g.count + (length (store_items offset) + way.count)) x.state calling way.end calling-runs (then-runs s.base (code s) g.count (length (store_items offset) + way.count) calling g.end way.end g.runs last) in
            let quiet : way.end.output ≡ x.state.output = way.output ∙ stored.output ∙ g.quiet in
            let did : Did s laid x n (exit s x.k) = record {
              end = way.end;
              count = count;
              some = inl (omega arith);
              few = omega (arith, g.few, length-store offset, way.few, s.ample);
              runs = runs;
              between = quiet-between s.base (code s) count x.state way.end runs quiet;
              at = way.at;
              heap = g.heap;
              grows = g.grows;
              words = ws;
              stands = record {
                region = way.others 3 (omega arith) ∙ stored.others 3 (omega arith) ∙ region_at;
                frame_at = way.others 2 (omega arith) ∙ stored.others 2 (omega arith) ∙ frame_at;
                words_are = way.words ∙ stored.words;
              };
              region = subst (λ q. Region s ws (chains_after q h.chains)) (sym g.commits) (region-kept g.end.words ws (committed h.chains) long (λ j lo lt. far j (inl (omega (arith, high)))) g.region);
              agrees = record {
                here = λ i no. ⊎_elim
                    (λ (lt : i < frame_words s x.k).
                    far (f + i) (apart i (λ same. no (subst (s.places.Writes x.k) (sym same) (laid.data_laid.written x.k offset mine))))
                    ∙ g.same (f + i) (omega (arith, high)) (omega (arith, lt, h.clear)))
                    (λ ge. absurd (no (laid.placed.beyond x.k i ge)))
                    (cases_lt i (frame_words s x.k));
                below = λ j lo lt. far j (inl (omega (arith, lt))) ∙ g.same j lo (omega (arith, lt, h.clear));
              };
              units_are = units-kept s g.heap g.end.words ws (plugged x.frames n ∷ x.steps) (plugged x.frames n ∷ x.steps) (world_after n.effect x.world).cells
                  (λ j out. far j (⊎_elim (λ z. inl (omega (arith, z.1, high))) (λ z. inr (omega (arith, z, inside, h.clear))) out)) (omega arith) g.units_are;
              left = left-same {ys = way.end.input} (way.input ∙ stored.input) g.left;
              output = quiet ∙ x.shown ∙ ap messages_bytes (sym g.silent);
            } in
            let there : get_or ws (f + offset) 0 ≡ word = get_or-set_same g.end.words (f + offset) word 0 (omega (arith, inside, h.clear, laid.units_inside, size)) in
            step-done s laid x n (datum ∷ []) NoBinds o tree did
            (subst (λ os. Holds s.base g.heap ws f os (datum ∷ [])) (sym one.is) (subst (λ w. StandsFor s.base g.heap w datum) (sym there) g.word, tt))
            (binds-none s x.k (laid.data_laid.unbound x.k) g.heap ws f)
          where
            apart : (i : ℕ) → (i ≡ one.offset → ⊥) → (x.runs.here.f + i < x.runs.here.f + one.offset) ⊎ (x.runs.here.f + one.offset < x.runs.here.f + i)
            apart i ne = ⊎_elim (λ lt. inl (omega arith)) (λ ge. inr (more ge)) (cases_lt i one.offset)
              where
                more : one.offset ≤ i → x.runs.here.f + one.offset < x.runs.here.f + i
                more ge = omega (arith, ge, ne)
