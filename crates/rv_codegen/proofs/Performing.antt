-- A node's one step, whatever its code does: it completes, it fails, or it passes the units; with blocks taken in it, and with
-- a commitment.
use Rattle.std.proofs.Common.{◌≡◌, ◌⊎◌, ℕ, ◌+◌, ◌*◌, ◌<◌, ◌≤◌, Bool, true, false, List, ◌∷◌, length, refl, sym, ◌∙◌, subst, arith, inl, inr, ⊎_elim}
use Rattle.rv_asm.specs.Assembly.{address_of}
use Rattle.rv_asm.specs.DataWords.{Heap}
use Rattle.rv_asm.specs.Pieces.{exit_with}
use Rattle.rv_asm.specs.WordMachine.{WordState, Goes, Has, run_words}
use Rattle.rv_asm.proofs.Calls.{before_exit, before_exit-runs, exit-stops}
use Rattle.rv_asm.proofs.Moments.{sending-advance, quiet-stop}
use Rattle.rv_asm.proofs.Stretches.{Between, then-runs}
use Rattle.action_terms.specs.Information.{Binds, Data}
use Rattle.action_terms.specs.Acting.{Done, Esc, Tree, Run, Ended}
use Rattle.action_terms.specs.Need.{effect_units, closures_units, Passes}
use Rattle.action_terms.specs.Performances.{OneOf, messages_bytes}
use Rattle.action_terms.specs.Steps.{Step, commits, world_after, failed, open_steps}
use Rattle.action_terms.specs.Frames.{Frame, plug, plugged, shut_all}
use Rattle.action_terms.proofs.Contexts.{shut_all-false, open-plug}
use Rattle.action_terms.proofs.Parts.{Reaches, reaches-within}
use Rattle.rv_prelude.specs.Region.{Chains}
use Rattle.rv_codegen.proofs.Around.{committed, Leaves, BindsLeft, Around}
use Rattle.rv_codegen.proofs.AroundKept.{Agrees, around-kept, around-shut}
use Rattle.rv_codegen.proofs.Configurations.{depth, performances, pending-shut}
use Rattle.rv_codegen.proofs.Holding.{Holds, Grows, in_row}
use Rattle.rv_codegen.proofs.InputLeft.{Left}
use Rattle.rv_codegen.proofs.RestPoints.{Laid, MayBeCaught, Region, Stands, Stays, RestsAt, IsAt, Starting, starts, StartGoesOn}
use Rattle.rv_codegen.proofs.Settings.{Point, Setting, code, start, exit, failure, escape}
use Rattle.rv_codegen.proofs.Units.{Units}

-- the chains after a step that commits, or doesn't
abbrev pub chains_after : Bool → Chains → Chains
chains_after true c = committed c
chains_after false c = c

module _ (s : Setting) where
  pub around-after : (q : Bool) (heap : Heap) (words : List ℕ) (fs : List Frame) (f k : ℕ) (c : Chains) → Around s heap words fs f k c → Around s heap words (shut_all q fs) f k (chains_after q c)
  around-after true heap words fs f k c h = around-shut s heap words fs f k c h
  around-after false heap words fs f k c h = subst (λ z. Around s heap words z f k c) (sym (shut_all-false fs)) h

  module _ (laid : Laid s) (x : Starting s) where
    -- what the code of the node has done where it ends at a point, for the node's step n
    pub record Did (n : Step) (to : Point) : Type 0 where
      pub end : WordState
      pub count : ℕ
      pub some : (0 < count) ⊎ (to.rank < (start s x.k).rank)
      pub few : count + 64 ≤ s.factor
      pub runs : run_words s.base (code s) count x.state ≡ Goes end
      pub between : Between s.base (code s) count x.state end
      pub at : end.pc ≡ address_of to.place
      pub heap : Heap
      pub grows : Grows x.runs.here.heap heap
      pub words : List ℕ
      pub stands : Stands s end words x.runs.here.f
      pub region : Region s words (chains_after (commits n.effect) x.runs.here.chains)
      -- the node's own words alone, the front of the region, and units
      pub agrees : Agrees s laid.placed x.runs.here.heap heap grows x.runs.here.words words x.runs.here.f x.k
      pub units_are : Units s heap words (plugged x.frames n ∷ x.steps) (world_after n.effect x.world).cells
      pub left : Left end.input (world_after n.effect x.world).input
      pub output : end.output ≡ messages_bytes (world_after n.effect x.world).output

    -- the node stays where it was
    abbrev pub stays-behind : (n : Step) (to : Point) (did : Did n to) → Stays s (plugged x.frames n ∷ x.steps) (world_after n.effect x.world).cells did.end (shut_all (commits n.effect) x.frames) x.k
    stays-behind n to did =
        let h = x.runs.here in
        record {
          f = h.f;
          chains = chains_after (commits n.effect) h.chains;
          heap = did.heap;
          words = did.words;
          stands = did.stands;
          region = did.region;
          clear = h.clear;
          units_are = did.units_are;
          around = around-after (commits n.effect) did.heap did.words x.frames h.f x.k h.chains
              (around-kept s laid.placed h.heap did.heap did.grows h.words did.words x.frames h.f x.k h.chains did.agrees h.around);
          node = h.node;
        }

    -- the step leads to what follows
    pub step-goes : (n : Step) (focus : Tree) (to : Point) → OneOf n (open_steps s.action x.world (Run x.k x.d x.b)) → n.tree ≡ focus → (did : Did n to) → RestsAt s (plugged x.frames n ∷ x.steps) (world_after n.effect x.world).cells to.rank did.end (shut_all (commits n.effect) x.frames) focus → StartGoesOn s x
    step-goes n focus to o same did rests =
        let frames' = shut_all (commits n.effect) x.frames in
        let world' = world_after n.effect x.world in
        let steps' = plugged x.frames n ∷ x.steps in
        let reached' : Reaches s.action s.input steps' (plug frames' focus) world' =
        subst (λ z. Reaches s.action s.input steps' (plug frames' z) world') same (reaches-within s.action s.input x.steps x.frames (Run x.k x.d x.b) x.world n x.reached o) in
        inl
        (sending-advance s.base (code s) (performances s) depth (IsAt s) (start s x.k).rank x.state (starts s x)
        (record {
          count = did.count;
          to = did.end;
          next = record { steps = steps'; frames = frames'; focus = focus; world = world' };
          next_rank = to.rank;
          some = ⊎_elim (λ z. inl z) (λ z. inr (inl z)) did.some;
          runs = did.runs;
          between = did.between;
          before = x.shown;
          output = did.output;
          related = record { rests = rests; shown = did.output; left = did.left };
          started = x.reached;
          reached = reached';
          short = omega (arith, did.few);
          paid = omega (arith, did.few, pending-shut (commits n.effect) x.frames);
        }))

    -- the node has completed
    pub step-done : (n : Step) (d : Data) (b : Binds) → OneOf n (open_steps s.action x.world (Run x.k x.d x.b)) → n.tree ≡ Ended (Done d b) → (did : Did n (exit s x.k)) → Leaves s did.heap did.words x.runs.here.f x.k d → BindsLeft s did.heap did.words x.runs.here.f x.k b → StartGoesOn s x
    step-done n d b o same did leaves binds =
        step-goes n (Ended (Done d b)) (exit s x.k) o same did
        (record { k = x.k; here = stays-behind n (exit s x.k) did; at = did.at; rank_is = refl; leaves = leaves; binds = binds; fits = laid.data_laid.fits x.steps x.frames x.k (Run x.k x.d x.b) x.world n d b x.runs.here.node refl x.reached o same })

    -- the node has failed
    pub step-failed : (n : Step) → OneOf n (open_steps s.action x.world (Run x.k x.d x.b)) → n.tree ≡ failed → Did n (failure s) → StartGoesOn s x
    step-failed n o same did =
        step-goes n failed (failure s) o same did
        (record { k = x.k; here = stays-behind n (failure s) did; at = did.at; rank_is = refl })

    -- the node has escaped with data, which stand in a row from a word of its frame on
    pub step-escaped : (n : Step) (e : Data) → OneOf n (open_steps s.action x.world (Run x.k x.d x.b)) → n.tree ≡ Ended (Esc e) → (did : Did n (escape s)) → (offset : ℕ) → did.end.registers 10 ≡ s.base + 8 * (x.runs.here.f + offset) → Holds s.base did.heap did.words (x.runs.here.f + offset) (in_row 0 (length e)) e → MayBeCaught s x.k offset (length e) → StartGoesOn s x
    step-escaped n e o same did offset at held caught =
        step-goes n (Ended (Esc e)) (escape s) o same did
        (record { k = x.k; here = stays-behind n (escape s) did; at = did.at; rank_is = refl; offset = offset; source_at = at; held = held; caught = caught })

    -- the code of the node has come to where the run ends as full
    pub record Filled (full : ℕ) : Type 0 where
      pub end : WordState
      pub count : ℕ
      pub few : count + 66 ≤ s.factor
      pub runs : run_words s.base (code s) count x.state ≡ Goes end
      pub at : end.pc ≡ address_of full
      pub quiet : end.output ≡ x.state.output

    -- the run ends as full, where the part passes the capacity
    pub filled-stops : (full : ℕ) → Has (code s) (address_of full) (exit_with 3) → Passes s.action s.sizes s.stack s.room x.steps (record { tree = plug x.frames (Run x.k x.d x.b); world = x.world }) → Filled full → StartGoesOn s x
    filled-stops full exits passes filled =
        let has : Has (code s) filled.end.pc (exit_with 3) = subst (λ q. Has (code s) q (exit_with 3)) (sym filled.at) exits in
        let last = before_exit s.base (code s) 3 filled.end in
        inr
        (quiet-stop s.base (code s) (performances s) depth (IsAt s) x.state (starts s x)
        (record {
          count = filled.count + 2;
          to = last;
          last = starts s x;
          exit = 3;
          runs = then-runs s.base (code s) filled.count 2 x.state filled.end last filled.runs (before_exit-runs s.base (code s) 3 filled.end (omega arith) has);
          quiet = filled.quiet;
          output = filled.quiet ∙ x.shown;
          exits = exit-stops s.base (code s) 3 filled.end (omega arith) has;
          reached = x.reached;
          ends = inr (refl, passes);
          paid = omega (arith, filled.few);
        }))

    -- no more units are left than the step spends: nothing is asked of what was done before that
    pub step-full : (full : ℕ) → Has (code s) (address_of full) (exit_with 3) → (n : Step) → OneOf n (open_steps s.action x.world (Run x.k x.d x.b)) → s.room < x.runs.here.units_are.spent + (effect_units n.effect + closures_units s.sizes n.made) → Filled full → StartGoesOn s x
    step-full full exits n o over filled =
        filled-stops full exits
        (inr (plugged x.frames n, open-plug s.action x.world x.frames (Run x.k x.d x.b) n o, inr (omega (arith, over, x.runs.here.units_are.few))))
        filled
