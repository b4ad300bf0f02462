-- The machine performs the action: from each rest point a stretch of code leads to the next, or to the exit.
use Rattle.std.proofs.Common.{◌≡◌, ℕ, ◌+◌, ◌<◌, true, false, List, [], ◌∷◌, get_or, refl, sym, ap, ◌∙◌, subst, arith, inl, inr}
use Rattle.rv_asm.specs.Arrivals.{LabelsStand}
use Rattle.rv_asm.specs.Assembly.{address_of, far_jump}
use Rattle.rv_asm.specs.Pieces.{exit_with}
use Rattle.rv_asm.specs.WordMachine.{WordState, Has}
use Rattle.rv_asm.proofs.Calls.{before_exit, before_exit-runs, exit-stops}
use Rattle.rv_asm.proofs.Moments.{quiet-stop}
use Rattle.rv_asm.proofs.Stretches.{then-runs}
use Rattle.action_terms.specs.Information.{Binds, Data, World}
use Rattle.action_terms.specs.Actions.{Complete, Failing, Escape, EscapeWith, Commit, Regive, Give, Check, Store, Allocate, Receive, Send, Node, Simple, Unfolding, Unfold, Furthermore, Both, Phases, Either, Trapping, node_at}
use Rattle.action_terms.specs.Literals.{NodeFits, NumbersFit}
use Rattle.action_terms.specs.Acting.{Done, Esc, Fail, Tree, Run, Ended}
use Rattle.action_terms.specs.Need.{items_yielder_count, node_yielder_count}
use Rattle.action_terms.specs.Performances.{messages_bytes}
use Rattle.action_terms.specs.Steps.{Step}
use Rattle.action_terms.specs.Frames.{Frame, InCalled, InParLeft, InParRight, InFirst, InSecond, InOr, InCut, InTrap, InOver, InTail, plug}
use Rattle.action_terms.proofs.Parts.{Reaches}
use Rattle.rv_codegen.specs.Blocks.{completed_label, send_label, stop_of, joint_of}
use Rattle.rv_codegen.specs.Built.{is_built_node}
use Rattle.rv_prelude.proofs.Jumps.{jumped, jump-runs}
use Rattle.rv_asm.proofs.Places.{and-true}
use Rattle.rv_yield.specs.Registers.{is_built}
use Rattle.rv_codegen.proofs.Allocating.{allocate-goes}
use Rattle.rv_codegen.proofs.Receiving.{receive-goes}
use Rattle.rv_codegen.proofs.StorageEntries.{HasStorage}
use Rattle.rv_codegen.proofs.Storing.{AreStorable, store-goes}
use Rattle.rv_codegen.proofs.Alternating.{Alternative, or-starts}
use Rattle.rv_codegen.proofs.ArmsDone.{or-done, cut-done}
use Rattle.rv_codegen.proofs.CallsLaid.{LaidCalls}
use Rattle.rv_codegen.proofs.Calling.{call-goes}
use Rattle.rv_codegen.proofs.Catching.{escapes-go}
use Rattle.rv_codegen.proofs.Checking.{IsCheckable, check-goes}
use Rattle.rv_codegen.proofs.Completions.{tail-done}
use Rattle.rv_codegen.proofs.Configurations.{Configuration, depth, performances}
use Rattle.rv_codegen.proofs.BuiltItems.{items-built, items-make_none}
use Rattle.rv_codegen.proofs.Committing.{commit-goes}
use Rattle.rv_codegen.proofs.Ending.{complete-goes, fail-goes}
use Rattle.rv_codegen.proofs.Escaping.{escape-goes}
use Rattle.rv_codegen.proofs.DataTurns.{escapes_with-goes, gives-goes, regives-goes}
use Rattle.rv_codegen.proofs.EscapingWith.{EscapesPlaces}
use Rattle.rv_codegen.proofs.Failing.{fails-go}
use Rattle.rv_codegen.proofs.InputLeft.{Left}
use Rattle.rv_codegen.proofs.Joins.{both-start, left-done, right-done}
use Rattle.rv_codegen.proofs.NodeParts.{IsNode}
use Rattle.rv_codegen.proofs.NumberWords.{node-fits}
use Rattle.rv_codegen.proofs.Phases.{phases-start, first-done, second-done}
use Rattle.rv_codegen.proofs.RestPoints.{Laid, RestsAt, RunsAt, DoneAt, IsAt, GoesOn, Starting, StartGoesOn, near}
use Rattle.rv_codegen.proofs.SendEntry.{send_code}
use Rattle.rv_codegen.proofs.Returning.{called-done}
use Rattle.rv_codegen.proofs.Sending.{IsSendable, send-goes}
use Rattle.rv_codegen.proofs.Settings.{Setting, code, point, start, exit, node_words}
use Rattle.rv_codegen.proofs.TrapDone.{trap-done}
use Rattle.rv_codegen.proofs.Trapping.{LaidTraps, trap-starts}
use Rattle.rv_codegen.proofs.Standing.{NodeStands}

module _ (s : Setting) where
  -- the nodes are of kinds that are built, their code stands, and so do the exits and the entry that sends
  pub record Compiled : Type 0 where
    pub traps : LaidTraps s
    pub alternatives : (n l r : ℕ) → node_at s.action n ≡ Either l r → Alternative s n l r
    pub labels : LabelsStand s.items
    pub each : (k : ℕ) → IsNode (node_at s.action k) → NodeStands s.items (node_words s) s.exits k (node_at s.action k)
    pub built : (k : ℕ) → IsNode (node_at s.action k) → is_built_node (node_at s.action k) ≡ true
    -- the words of what a node escapes with are apart from what it is given, in a row, and in its frame
    pub rows : (x : Starting s) → EscapesPlaces s traps.records.laid x (s.places.escaped x.k)
    pub numbers : NumbersFit s.action
    pub few : (k : ℕ) → node_yielder_count (node_at s.action k) < 65536
    pub within : (k : ℕ) → IsNode (node_at s.action k) → stop_of k < s.labels
    pub joint_within : (k : ℕ) → IsNode (node_at s.action k) → joint_of k < s.labels
    pub calls : LaidCalls s
    pub completed : Has (code s) (address_of (exit s 0).place) (far_jump (exit s 0).place (point s completed_label).place)
    pub completed_exits : Has (code s) (address_of (point s completed_label).place) (exit_with 0)
    pub send : Has (code s) (address_of (point s send_label).place) send_code
    pub storage : HasStorage s

  module _ (it : Compiled) where
    abbrev laid : Laid s
    laid = it.traps.records.laid

    unbuilt : (n : ℕ) (m : Node) → node_at s.action n ≡ m → IsNode m → is_built_node m ≡ false → ⊥
    unbuilt n m e there not =
        let built : is_built_node (node_at s.action n) ≡ true = it.built n (subst IsNode (sym e) there) in
        let here : is_built_node m ≡ true = subst (λ x. is_built_node x ≡ true) e built in
        let r : true ≡ false = sym here ∙ not in cc

    -- ---- a node is to be performed

    run-goes : (x : Starting s) (n : Node) → node_at s.action x.k ≡ n → NodeStands s.items (node_words s) s.exits x.k n → is_built_node n ≡ true → StartGoesOn s x
    run-goes x (Simple Complete) e stands b = complete-goes s laid x e it.labels (omega (arith, it.within x.k x.runs.here.node)) stands
    run-goes x (Simple Commit) e stands b = commit-goes s laid x e it.labels (it.within x.k x.runs.here.node) stands
    run-goes x (Simple Regive) e stands b = regives-goes s laid x e it.labels (it.within x.k x.runs.here.node) stands
    run-goes x (Simple (Give is)) e stands b =
        let few : items_yielder_count is < 65536 = subst (λ n. node_yielder_count n < 65536) e (it.few x.k) in
        let fits : NodeFits (Simple (Give is)) = subst NodeFits e (node-fits s.action x.k it.numbers) in
        gives-goes s laid x is e (items-built is b fits few) (items-make_none is b) it.labels (it.within x.k x.runs.here.node) stands
    run-goes x (Simple (EscapeWith is)) e stands b =
        let few : items_yielder_count is < 65536 = subst (λ n. node_yielder_count n < 65536) e (it.few x.k) in
        let fits : NodeFits (Simple (EscapeWith is)) = subst NodeFits e (node-fits s.action x.k it.numbers) in
        escapes_with-goes s laid x is e (items-built is b fits few) (items-make_none is b) (it.rows x) stands
    run-goes x (Simple Escape) e stands b = escape-goes s laid x e stands
    run-goes x (Simple Failing) e stands b = fail-goes s laid x e stands
    run-goes x (Simple (Check y)) e stands b =
        let ok : IsCheckable y = record { built = b; few = subst (λ n. node_yielder_count n < 65536) e (it.few x.k); fits = subst NodeFits e (node-fits s.action x.k it.numbers) } in
        check-goes s laid x y e ok it.labels (it.within x.k x.runs.here.node) stands
    run-goes x (Simple (Store y1 y2)) e stands b =
        let both = and-true (is_built y1) (is_built y2) b in
        let fits : NodeFits (Simple (Store y1 y2)) = subst NodeFits e (node-fits s.action x.k it.numbers) in
        let ok : AreStorable y1 y2 = record { datum_built = both.0; cell_built = both.1; few = subst (λ n. node_yielder_count n < 65536) e (it.few x.k); datum_fits = fits.0; cell_fits = fits.1 } in
        store-goes s laid x y1 y2 e ok it.labels (it.within x.k x.runs.here.node) stands
    run-goes x (Simple Allocate) e stands b = allocate-goes s laid it.storage x e it.labels (it.joint_within x.k x.runs.here.node) stands
    run-goes x (Simple Receive) e stands b = receive-goes s laid it.storage x e it.labels (it.joint_within x.k x.runs.here.node) stands
    run-goes x (Simple (Send y)) e stands b =
        let ok : IsSendable y = record { built = b; few = subst (λ n. node_yielder_count n < 65536) e (it.few x.k); fits = subst NodeFits e (node-fits s.action x.k it.numbers) } in
        send-goes s laid it.send x y e ok it.labels (it.within x.k x.runs.here.node) stands
    run-goes x (Both j l r) e stands b = both-start s laid x j l r e
    run-goes x (Phases q l r) e stands b = phases-start s laid x q l r e
    run-goes x (Either l r) e stands b = or-starts s it.traps.records it.alternatives x l r e
    run-goes x (Trapping l r) e stands b = trap-starts s it.traps x l r e
    run-goes x (Unfolding c) e stands b = call-goes s it.calls x c (inl e)
    run-goes x (Unfold c) e stands b = call-goes s it.calls x c (inr e)
    run-goes x _ e stands b = absurd (let r : false ≡ true = b in cc)

    -- ---- a part has completed, by what stands around it

    -- the whole action has: the run ends with code 0
    root-done : (steps : List Step) (w : World) (state : WordState) (rank : ℕ) (d : Data) (b : Binds) → state.output ≡ messages_bytes w.output → DoneAt s steps w.cells rank state [] d b → Reaches s.action s.input steps (Ended (Done d b)) w → GoesOn s rank state (record { steps = steps; frames = []; focus = Ended (Done d b); world = w })
    root-done steps w state rank d b shown x reached =
        let at : state.pc ≡ address_of (exit s 0).place = x.at ∙ ap (λ k. address_of (exit s k).place) x.here.around.0 in
        let ends = (point s completed_label).place in
        let to = jumped state (exit s 0).place ends in
        let r = jump-runs s.base (code s) state (exit s 0).place ends (near s laid (get_or s.exits 0 0)) (near s laid completed_label) at it.completed in
        let has : Has (code s) to.pc (exit_with 0) = it.completed_exits in
        let c : Configuration = record { steps = steps; frames = []; focus = Ended (Done d b); world = w } in
        inr
        (quiet-stop s.base (code s) (performances s) depth (IsAt s) state c
        (record {
          count = 2 + 2;
          to = before_exit s.base (code s) 0 to;
          last = c;
          exit = 0;
          runs = then-runs s.base (code s) 2 2 state to (before_exit s.base (code s) 0 to) r (before_exit-runs s.base (code s) 0 to (omega arith) has);
          quiet = refl;
          output = shown;
          exits = exit-stops s.base (code s) 0 to (omega arith) has;
          reached = reached;
          ends = inl (refl, refl);
          paid = omega (arith, s.ample);
        }))

    done-goes : (steps : List Step) (fs : List Frame) (w : World) (state : WordState) (rank : ℕ) (d : Data) (b : Binds) → state.output ≡ messages_bytes w.output → Left state.input w.input → DoneAt s steps w.cells rank state fs d b → Reaches s.action s.input steps (plug fs (Ended (Done d b))) w → GoesOn s rank state (record { steps = steps; frames = fs; focus = Ended (Done d b); world = w })
    done-goes steps [] w state rank d b shown left x r = root-done steps w state rank d b shown x r
    done-goes steps (InParLeft n y ∷ fs) w state rank d b shown left x r = left-done s laid n y (record { steps = steps; frames = fs; d = d; b = b; world = w; rank = rank; state = state; shown = shown; left = left; done = x; reached = r })
    done-goes steps (InParRight n y ∷ fs) w state rank d b shown left x r = right-done s laid n y (record { steps = steps; frames = fs; d = d; b = b; world = w; rank = rank; state = state; shown = shown; left = left; done = x; reached = r })
    done-goes steps (InFirst n d0 b0 ∷ fs) w state rank d b shown left x r = first-done s laid n d0 b0 (record { steps = steps; frames = fs; d = d; b = b; world = w; rank = rank; state = state; shown = shown; left = left; done = x; reached = r })
    done-goes steps (InSecond n d1 b1 ∷ fs) w state rank d b shown left x r = second-done s laid n d1 b1 (record { steps = steps; frames = fs; d = d; b = b; world = w; rank = rank; state = state; shown = shown; left = left; done = x; reached = r })
    done-goes steps (InOr k2 d0 b0 ∷ fs) w state rank d b shown left x r = or-done s it.traps.records it.alternatives k2 d0 b0 (record { steps = steps; frames = fs; d = d; b = b; world = w; rank = rank; state = state; shown = shown; left = left; done = x; reached = r })
    done-goes steps (InCut ∷ fs) w state rank d b shown left x r = cut-done s it.traps.records it.alternatives (record { steps = steps; frames = fs; d = d; b = b; world = w; rank = rank; state = state; shown = shown; left = left; done = x; reached = r })
    done-goes steps (InTrap n b0 ∷ fs) w state rank d b shown left x r = trap-done s it.traps n b0 (record { steps = steps; frames = fs; d = d; b = b; world = w; rank = rank; state = state; shown = shown; left = left; done = x; reached = r })
    done-goes steps (InTail n ∷ fs) w state rank d b shown left x r = tail-done s laid n (record { steps = steps; frames = fs; d = d; b = b; world = w; rank = rank; state = state; shown = shown; left = left; done = x; reached = r })
    done-goes steps (InCalled c ∷ fs) w state rank d b shown left x r = called-done s it.calls c (record { steps = steps; frames = fs; d = d; b = b; world = w; rank = rank; state = state; shown = shown; left = left; done = x; reached = r })
    done-goes steps (InOver b0 ∷ fs) w state rank d b shown left x r = absurd (unbuilt x.here.around.0 (Furthermore x.k) x.here.around.1.node tt refl)

    -- ---- from each rest point

    pub turn : (rank : ℕ) (state : WordState) (c : Configuration) → IsAt s rank state c → Reaches s.action s.input c.steps (plug c.frames c.focus) c.world → GoesOn s rank state c
    turn rank state c at reached = go c.steps c.frames c.focus c.world at.rests at.shown at.left reached
      where
        go : (steps : List Step) (fs : List Frame) (focus : Tree) (w : World) → RestsAt s steps w.cells rank state fs focus → state.output ≡ messages_bytes w.output → Left state.input w.input → Reaches s.action s.input steps (plug fs focus) w → GoesOn s rank state (record { steps = steps; frames = fs; focus = focus; world = w })
        go steps fs (Run k d b) w rests shown left r =
            let here : RunsAt s steps w.cells (start s k).rank state fs k d b = subst (λ q. RunsAt s steps w.cells q state fs k d b) rests.rank_is rests in
            let x : Starting s = record { steps = steps; frames = fs; k = k; d = d; b = b; world = w; state = state; shown = shown; left = left; runs = here; reached = r } in
            subst (λ q. GoesOn s q state (record { steps = steps; frames = fs; focus = Run k d b; world = w })) (sym rests.rank_is)
            (run-goes x (node_at s.action k) refl (it.each k rests.here.node) (it.built k rests.here.node))
        go steps fs (Ended (Done d b)) w rests shown left r = done-goes steps fs w state rank d b shown left rests r
        go steps fs (Ended Fail) w rests shown left r = fails-go s it.traps.records steps fs w state shown left rank rests r
        go steps fs (Ended (Esc e)) w rests shown left r = escapes-go s it.traps steps fs e w state shown left rank rests r
        go steps fs _ w rests shown left r = absurd rests
