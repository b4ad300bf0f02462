-- A body has completed: the code returns to the node that has called it, which takes back what the body has left.
use Rattle.std.proofs.Common.{◌≡◌, ⊎_elim, ℕ, ◌+◌, ◌*◌, ◌<◌, ◌≤◌, List, [], ◌∷◌, ◌++◌, length, length-append, get_or, pos, refl, sym, ap, ◌∙◌, subst, arith, inl, append_assoc}
use Rattle.std.proofs.Math.Nat.{mul-le-mul_left}
use Rattle.rv_code.specs.declared.instruction.Inst.{Inst}
use Rattle.rv_code.specs.declared.instruction.Inst.TheVariants.{Load}
use Rattle.rv_code.specs.declared.instruction.LoadOp.TheVariants.{Ld}
use Rattle.rv_asm.specs.Assembly.{address_of}
use Rattle.rv_asm.specs.WordMachine.{Goes, Has, run_words}
use Rattle.rv_asm.proofs.Moments.{quiet-advance}
use Rattle.rv_asm.proofs.Places.{Has-front, Has-back}
use Rattle.rv_asm.proofs.Stretches.{then-runs}
use Rattle.action_terms.specs.Actions.{Node, Enact, Apply, Unfolding, Unfold, node_at}
use Rattle.action_terms.specs.Acting.{Called, Done, Ended, Tree}
use Rattle.action_terms.specs.Frames.{InCalled, plugged}
use Rattle.action_terms.specs.Need.{node_yielder_count}
use Rattle.action_terms.specs.Performances.{OneOf, Here}
use Rattle.action_terms.specs.Steps.{open_steps, silent}
use Rattle.action_terms.proofs.Parts.{reaches-quiet}
use Rattle.rv_yield.specs.Evaluates.{HasFrame}
use Rattle.rv_codegen.specs.AddressItems.{address_items}
use Rattle.rv_codegen.specs.Blocks.{stop_of}
use Rattle.rv_codegen.specs.CallItems.{fetch_items, return_items}
use Rattle.rv_codegen.specs.CaughtItems.{caught_items}
use Rattle.rv_codegen.proofs.Around.{BindsLeft, CalledFrame}
use Rattle.rv_codegen.proofs.AroundKept.{Agrees, around-kept, frames-high}
use Rattle.rv_codegen.proofs.CallStands.{FetchStands}
use Rattle.rv_codegen.proofs.CallsLaid.{LaidCalls}
use Rattle.rv_codegen.proofs.CaughtPlaces.{row-inside}
use Rattle.rv_codegen.proofs.CaughtWords.{Catches, catches-run}
use Rattle.rv_codegen.proofs.Configurations.{depth, performances}
use Rattle.rv_codegen.proofs.Escaping.{in-row}
use Rattle.rv_codegen.proofs.Holding.{Holds, HoldsBinds, grows-same, in_row}
use Rattle.rv_codegen.proofs.InputLeft.{left-same}
use Rattle.rv_codegen.proofs.NodeParts.{Calls, IsNode}
use Rattle.rv_codegen.proofs.RestPoints.{Laid, Region, IsAt, Completing, completes, EndGoesOn, near}
use Rattle.rv_codegen.proofs.ReturnCode.{HasCaller, HasReturned, caller-comes, returns-run}
use Rattle.rv_codegen.proofs.Settings.{way-runs, Went, Setting, code, stop, exit, frame_words}
use Rattle.rv_codegen.proofs.Units.{units-kept}

module _ (s : Setting) (all : LaidCalls s) (c : ℕ) (x : Completing s (InCalled c)) where
  laid : Laid s
  laid = all.laid

  abbrev f : ℕ
  f = x.done.here.f

  abbrev n : ℕ
  n = x.done.here.around.0

  abbrev up : ℕ
  up = x.done.here.around.1

  frame : CalledFrame s x.done.here.heap x.done.here.words c up f x.done.k n
  frame = x.done.here.around.2

  stands : FetchStands s n c
  stands = all.fetches n c frame.may

  node : IsNode (node_at s.action c)
  node = all.body n c frame.may

  caller : IsNode (node_at s.action n)
  caller = calls-node (node_at s.action n) c frame.node
    where
      calls-node : (m : Node) (c : ℕ) → Calls m c → IsNode m
      calls-node (Unfolding d) c h = tt
      calls-node (Unfold d) c h = tt
      calls-node (Enact y) c h = tt
      calls-node (Apply y is) c h = tt
      calls-node _ c h = absurd h

  abbrev left : List ℕ
  left = s.places.out c

  abbrev wanted : List ℕ
  wanted = s.places.out n

  abbrev first : ℕ
  first = get_or left 0 0

  abbrev there : ℕ
  there = get_or wanted 0 0

  high : 512 ≤ up
  high = frames-high s x.done.here.heap x.done.here.words x.frames up n x.done.here.chains x.done.here.around.3

  large : 32 ≤ frame_words s c
  large = laid.placed.some_frame n c frame.may

  clear : f + frame_words s c ≤ 512 + s.stack
  clear = omega (arith, x.done.here.clear, ap (frame_words s) frame.body)

  size : length x.state.words ≡ s.count
  size = ap length x.done.here.stands.words_are ∙ x.done.here.region.size

  -- ---- what has been left

  ends : s.Ends n x.d x.b
  ends = frame.ends x.d x.b (subst (λ k. s.Ends k x.d x.b) frame.body x.done.fits)

  long : length x.d ≡ length wanted
  long = laid.data_laid.fills n x.d x.b caller ends

  long-left : length x.d ≡ length left
  long-left = laid.data_laid.fills c x.d x.b node (subst (λ k. s.Ends k x.d x.b) frame.body x.done.fits)

  left-row : first + length left ≤ frame_words s c
  left-row = row-inside left (frame_words s c) (all.row c) (λ o m. laid.data_laid.out_within c o node m)

  wanted-row : there + length wanted ≤ frame_words s n
  wanted-row = row-inside wanted (frame_words s n) (all.row n) (λ o m. laid.data_laid.out_within n o caller m)

  near-first : (os : List ℕ) → ((o : ℕ) → OneOf o os → o < 33554432) → get_or os 0 0 < 33554432
  near-first [] h = omega arith
  near-first (o ∷ os) h = h o Here

  -- ---- the way back

  frame-is : HasFrame s.base f x.state
  frame-is = record { aligned = laid.aligned; below = omega (arith, laid.below, size); frame = x.done.here.stands.frame_at }

  word : (i : ℕ) (v : ℕ) → get_or x.done.here.words (f + i) 0 ≡ v → get_or x.state.words (f + i) 0 ≡ v
  word i v e = ap (λ ws. get_or ws (f + i) 0) x.done.here.stands.words_are ∙ e

  at-returns : x.state.pc ≡ address_of all.returns.place
  at-returns = x.done.at ∙ ap (λ k. address_of (exit s k).place) frame.body ∙ ap (λ z. address_of z.place) (all.goes_back n c frame.may)

  returned : HasReturned s.base (code s) (address_of (stop s n).place) x.state
  returned = returns-run s.base (code s) f (address_of (stop s n).place) x.state frame-is (omega (arith, size, large, clear, laid.units_inside)) (word 0 (address_of (stop s n).place) frame.returns) (omega arith) (omega (arith, near s laid (stop_of n))) (subst (λ z. Has (code s) z return_items) (sym at-returns) all.way_back)

  returned-size : length returned.end.words ≡ s.count
  returned-size = ap length returned.words ∙ size

  fetches : Has (code s) returned.end.pc (fetch_items left wanted)
  fetches = subst (λ z. Has (code s) z (fetch_items left wanted)) (sym returned.at) stands.fetches

  abbrev prefix : List Inst
  prefix = address_items first ++ (Load Ld 2 2 (pos 8) ∷ [])

  same-items : prefix ++ caught_items wanted ≡ fetch_items left wanted
  same-items = append_assoc (address_items first) (Load Ld 2 2 (pos 8) ∷ []) (caught_items wanted)

  fetching : Has (code s) returned.end.pc (prefix ++ caught_items wanted)
  fetching = subst (Has (code s) returned.end.pc) (sym same-items) fetches

  came : HasCaller s.base (code s) f up first returned.end
  came =
      let frame1 : HasFrame s.base f returned.end = record { aligned = laid.aligned; below = omega (arith, laid.below, returned-size); frame = returned.others 2 (omega arith) ∙ x.done.here.stands.frame_at } in
      caller-comes s.base (code s) f up first returned.end (near-first left (λ o m. omega (arith, laid.data_laid.out_within c o node m, laid.data_laid.reached c node))) frame1 (omega (arith, returned-size, large, clear, laid.units_inside)) (omega (arith, left-row, clear, laid.units_inside, laid.below)) (ap (λ ws. get_or ws (f + 1) 0) returned.words ∙ word 1 (s.base + 8 * up) frame.caller) (Has-front (code s) returned.end.pc prefix (caught_items wanted) fetching)

  came-words : came.end.words ≡ x.done.here.words
  came-words = came.words ∙ returned.words ∙ x.done.here.stands.words_are

  came-size : length came.end.words ≡ s.count
  came-size = ap length came-words ∙ x.done.here.region.size

  catches : Catches s.base (code s) (f + first) up wanted came.end
  catches =
      let frame2 : HasFrame s.base up came.end = record { aligned = laid.aligned; below = omega (arith, laid.below, came-size); frame = came.frame } in
      let at : returned.end.pc + 4 * length prefix ≡ came.end.pc = omega (arith, came.at, length-append (address_items first) (Load Ld 2 2 (pos 8) ∷ [])) in
      catches-run s.base (code s) (f + first) up wanted came.end (all.row n) frame2 came.source
      (omega (arith, left-row, long, long-left, came-size, clear, laid.units_inside))
      (omega (arith, wanted-row, frame.above, came-size, clear, laid.units_inside))
      (near-first wanted (λ o m. omega (arith, laid.data_laid.out_within n o caller m, laid.data_laid.reached n caller)))
      (inl (omega (arith, wanted-row, frame.above)))
      (subst (λ z. Has (code s) z (caught_items wanted)) at (Has-back (code s) returned.end.pc prefix (caught_items wanted) fetching))

  abbrev words' : List ℕ
  words' = catches.written.end.words

  -- a word that is none of the node's is as it was
  kept : (j : ℕ) → ((o : ℕ) → OneOf o wanted → j ≡ up + o → ⊥) → get_or words' j 0 ≡ get_or x.done.here.words j 0
  kept j free = catches.written.kept j free ∙ ap (λ ws. get_or ws j 0) came-words

  agrees : Agrees s laid.placed x.done.here.heap x.done.here.heap (grows-same x.done.here.heap) x.done.here.words words' up n
  agrees = record {
    here = λ i free. kept (up + i) (λ o m e. free (subst (s.places.Writes n) (let z : o ≡ i = omega (arith, e) in z) (laid.data_laid.written n o m)));
    below = λ j lo lt. kept j (λ o m e. omega (arith, e, lt));
  }

  leaves' : Holds s.base x.done.here.heap words' up wanted x.d
  leaves' =
      let h = x.done.here in
      let held : Holds s.base h.heap came.end.words f left x.d = subst (λ ws. Holds s.base h.heap ws f left x.d) (sym came-words) (subst (λ k. Holds s.base h.heap h.words f (s.places.out k) x.d) frame.body x.done.leaves) in
      let zero : first ≡ first + 0 = omega arith in
      let row : Holds s.base h.heap came.end.words f (in_row (first + 0) (length x.d)) x.d =
      subst (λ m. Holds s.base h.heap came.end.words f (in_row (first + 0) m) x.d) (sym long-left) (subst (λ o. Holds s.base h.heap came.end.words f (in_row o (length left)) x.d) zero (subst (λ os. Holds s.base h.heap came.end.words f os x.d) (all.row c) held)) in
      catches.holds h.heap x.d long (in-row s.base h.heap came.end.words f first 0 (length x.d) x.d row)

  -- no bindings have words
  binds' : BindsLeft s x.done.here.heap words' up n x.b
  binds' = record {
    held = subst (λ ss. HoldsBinds s.base x.done.here.heap words' up ss x.b) (sym (laid.data_laid.unbound n)) tt;
    table = record { ascends = x.done.binds.table.ascends; among = λ t y e. all.binds n c frame.may t (subst (λ k. s.places.BindsAt k t) frame.body (x.done.binds.table.among t y e)) };
  }

  region' : Region s words' x.done.here.chains
  region' = record {
    size = catches.written.size ∙ came-size;
    alternative = kept 1 (λ o m e. omega (arith, e, high)) ∙ x.done.here.region.alternative;
    trap = kept 2 (λ o m e. omega (arith, e, high)) ∙ x.done.here.region.trap;
    mark = kept 3 (λ o m e. omega (arith, e, high)) ∙ x.done.here.region.mark;
  }

  -- the node goes on
  fetched-at : catches.written.end.pc ≡ address_of stands.fetched.place
  fetched-at = omega (arith, catches.written.at, came.at, returned.at, stands.fetched_is, length-append (address_items first) (Load Ld 2 2 (pos 8) ∷ caught_items wanted))

  went : Went s.base (code s) catches.written.end stands.fetched (exit s n)
  went = way-runs s.base (code s) catches.written.end stands.fetched (exit s n) stands.near_fetched (near s laid (get_or s.exits n 0)) fetched-at stands.leave

  abbrev count : ℕ
  count = 2 + (came.count + (catches.written.count + went.count))

  runs : run_words s.base (code s) count x.state ≡ Goes went.end
  runs =
      then-runs s.base (code s) 2 (came.count + (catches.written.count + went.count)) x.state returned.end went.end returned.runs
      (then-runs s.base (code s) came.count (catches.written.count + went.count) returned.end came.end went.end came.runs
      (then-runs s.base (code s) catches.written.count went.count came.end catches.written.end went.end catches.written.runs went.runs))

  few : count + 64 ≤ s.factor
  few =
      let paid : 400 + 24 * (length wanted + 1) * (node_yielder_count (node_at s.action n) + 1) ≤ s.factor = laid.paid n (length wanted) (laid.data_laid.few n caller) in
      let some : 1 ≤ node_yielder_count (node_at s.action n) + 1 = omega arith in
      let one : 24 * (length wanted + 1) * 1 ≤ 24 * (length wanted + 1) * (node_yielder_count (node_at s.action n) + 1) = mul-le-mul_left (24 * (length wanted + 1)) some in
      omega (arith, came.few, catches.written.few, went.few, paid, one)

  output : went.end.output ≡ x.state.output
  output = went.output ∙ catches.written.output ∙ came.output ∙ returned.output

  pub called-done : EndGoesOn s (InCalled c) x
  called-done =
      let h = x.done.here in
      let around' = around-kept s laid.placed h.heap h.heap (grows-same h.heap) h.words words' x.frames up n h.chains agrees h.around.3 in
      let next : Tree = Ended (Done x.d x.b) in
      let step = plugged x.frames (silent next) in
      let opening : OneOf (silent next) (open_steps s.action x.world (Called c next)) = Here in
      inl
      (quiet-advance s.base (code s) (performances s) depth (IsAt s) x.rank x.state (completes s (InCalled c) x)
      (record {
        count = count;
        to = went.end;
        next = record { steps = step ∷ x.steps; frames = x.frames; focus = next; world = x.world };
        next_rank = (exit s n).rank;
        some = inl (omega arith);
        runs = runs;
        quiet = output;
        output = output ∙ x.shown;
        related = record {
          rests = record {
            k = n;
            here = record {
              f = up;
              chains = h.chains;
              heap = h.heap;
              words = words';
              stands = record { region = went.others 3 (omega arith) ∙ catches.written.others 3 (omega arith) ∙ came.region ∙ returned.others 3 (omega arith) ∙ h.stands.region; frame_at = went.others 2 (omega arith) ∙ catches.written.others 2 (omega arith) ∙ came.frame; words_are = went.words };
              region = region';
              clear = omega (arith, h.clear, frame.above);
              units_are = units-kept s h.heap h.words words' x.steps (step ∷ x.steps) x.world.cells (λ j out. kept j (λ o m e. ⊎_elim (λ z. omega (arith, z.1, high, e)) (λ z. omega (arith, z, e, h.clear, frame.above, laid.data_laid.out_within n o caller m)) out)) (omega arith) h.units_are;
              around = around';
              node = caller;
            };
            at = went.at;
            rank_is = refl;
            leaves = leaves';
            binds = binds';
            fits = ends;
          };
          shown = output ∙ x.shown;
          left = left-same {ys = went.end.input} (went.input ∙ catches.written.input ∙ came.input ∙ returned.input) x.left;
        };
        reached = reaches-quiet s.action s.input x.steps x.frames [] (Called c next) next x.world x.reached opening;
        paid = omega (arith, few);
      }))
