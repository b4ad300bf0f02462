-- The code of an action whose nodes are built has all that is asked of it, with the places of a layout for data: no node has bindings.
use Rattle.std.proofs.Common.{◌≡◌, ℕ, suc, ◌+◌, ◌*◌, ◌^◌, ◌<◌, ◌≤◌, ℤ, true, false, List, [], ◌∷◌, ◌++◌, length, replicate, get_or, Option, Some, None, refl, sym, ap, ◌∙◌, subst, arith, inl, inr, ⊎_elim}
use Rattle.std.specs.Prelude.{All, slice_get}
use Rattle.std.proofs.lemmas.List.{length-replicate}
use Rattle.std.proofs.lemmas.Option.{slice_get-get_or, slice_get_within}
use Rattle.rv_asm.specs.Arrivals.{LabelsStand}
use Rattle.rv_asm.specs.Assembly.{address_of, total, spot, far_jump, code_of}
use Rattle.rv_asm.specs.Conventions.{region_address, region_size, region_words}
use Rattle.rv_asm.specs.Pieces.{exit_with}
use Rattle.rv_asm.specs.WordMachine.{Has}
use Rattle.rv_asm.specs.declared.item.Item.{Item}
use Rattle.rv_asm.proofs.Labels.{length-code}
use Rattle.rv_asm.proofs.Regions.{compiled-below}
use Rattle.action_terms.specs.Actions.{Complete, Join, Chain, AndThen, Then, Hence, Before, Node, Simple, Both, Phases, Either, Trapping, Unfold, Unfolding, Stray, Action, node_at, node_or_stray}
use Rattle.action_terms.specs.Information.{Binds, Data, NoBinds, World}
use Rattle.action_terms.specs.Literals.{NumbersFit}
use Rattle.action_terms.specs.Need.{node_yielder_count}
use Rattle.action_terms.specs.Performances.{OneOf, Here, Later}
use Rattle.rv_codegen.specs.Blocks.{completed_label, failed_label, escaped_label, full_label, first_label, front_of, start_of, stop_of, return_of, exits_of, framed_items, opening, goes, body}
use Rattle.sort_rules.specs.Admissible.{IsAdmissible}
use Rattle.sort_rules.specs.Measures.{sizes, slots, width}
use Rattle.sort_rules.specs.Procedures.{procedure_of}
use Rattle.sort_rules.specs.Shapes.{CompletesInShape}
use Rattle.frame_layout.specs.Layouts.{HasApartNodes, IsLayout, Itself}
use Rattle.frame_layout.specs.Places.{Frame, PlacedNode}
use Rattle.frame_layout.proofs.GraphParts.{HasTrees}
use Rattle.frame_layout.proofs.NodeLists.{member-range}
use Rattle.rv_codegen.specs.Aliases.{AreByNumber, given_in, nowhere, place_at, places_in, put_frames, words_at}
use Rattle.rv_codegen.specs.Measures.{factor_by}
use Rattle.rv_codegen.specs.RightImage.{Subject}
use Rattle.rv_codegen.specs.Built.{is_built_node}
use Rattle.rv_codegen.proofs.AliasLengths.{length-out_of}
use Rattle.rv_codegen.proofs.AliasPlaces.{HasOwnWords, given-not_out, given-within, out-once, out-within}
use Rattle.rv_codegen.proofs.AliasRows.{given-row}
use Rattle.rv_codegen.proofs.AliasRules.{Passes, both-given_left, both-given_right, both-joined, either-given, either-out, phases-given_left, phases-given_right, phases-joined, trapping-given_left, then-ends, then-given_right}
use Rattle.rv_codegen.proofs.Alternating.{Alternative}
use Rattle.rv_codegen.proofs.AliasSettings.{alias-placed, both-stays, data_places, phases-stays, same-frame}
use Rattle.rv_codegen.proofs.AliasSteps.{handed-root}
use Rattle.rv_codegen.proofs.AliasWords.{in-word}
use Rattle.rv_codegen.proofs.Around.{InOrder, Shares}
use Rattle.rv_codegen.proofs.CaughtPlaces.{escaped-caught, given-caught}
use Rattle.rv_codegen.proofs.EitherCode.{alternative-stands}
use Rattle.rv_codegen.proofs.Ending.{none-long}
use Rattle.rv_codegen.proofs.ExitLaws.{HasTree, PartExits, body-exit, both-exits, either-exits, phases-exits, root-exit, trapping-exits}
use Rattle.rv_codegen.proofs.Failing.{LaidArms, LaidRecords}
use Rattle.rv_codegen.proofs.Holding.{Apart}
use Rattle.rv_codegen.proofs.LayoutWords.{in-fits, keep-reached, keep-within, layout-words, escaped-row, words-reached, words-some, words-within}
use Rattle.rv_codegen.proofs.NodeParts.{CallsByNumber, IsNode, IsPartOf, IsTailOf, KeepsRecord, part-node}
use Rattle.rv_codegen.proofs.CalledBodies.{HasBodies, body-root, body-whole}
use Rattle.rv_codegen.proofs.CallStands.{CallStands, call-stands}
use Rattle.rv_codegen.proofs.CallsLaid.{LaidCalls}
use Rattle.rv_codegen.proofs.OutRows.{out-row}
use Rattle.rv_codegen.proofs.SuitedCalls.{call-ends}
use Rattle.rv_codegen.proofs.EscapingWith.{EscapesPlaces}
use Rattle.rv_codegen.proofs.PlacedData.{escapes-places}
use Rattle.rv_codegen.proofs.PuttingPlaces.{put-by_number}
use Rattle.rv_codegen.proofs.RestPoints.{Laid, Starting, near, DataLaid, PhasePlaces, LaidPhases, LaidBoth}
use Rattle.rv_codegen.proofs.Settings.{Way, Bodies, Setting, code, point, front, start, frame_words, node_words}
use Rattle.rv_codegen.proofs.SendEntry.{send_code}
use Rattle.rv_codegen.proofs.SharedEnds.{handler-fills, handler-written, trap-where}
use Rattle.rv_codegen.proofs.TrapCodes.{trap-stands}
use Rattle.rv_codegen.proofs.Trapping.{LaidTrap, LaidTraps, TrapCode}
use Rattle.rv_codegen.proofs.Standing.{Stood, NodeStands, opens, action-stands}
use Rattle.rv_codegen.proofs.Suited.{runs-in_shape}
use Rattle.rv_codegen.proofs.SuitedEnds.{tree-completes}
use Rattle.rv_codegen.proofs.SuitedTails.{EndsAs, either-ends, ends-as}
use Rattle.rv_codegen.proofs.SuitedPlaces.{escaped-width, given-width, out-length, out-width, suits}
use Rattle.rv_codegen.proofs.Turns.{Compiled}
use Rattle.rv_codegen.proofs.Unbound.{joins-none, chains-none}
use Rattle.rv_prelude.specs.Items.{entries_from}
use Rattle.rv_prelude.proofs.Cursors.{Cursor}
use Rattle.rv_prelude.proofs.Entered.{Entry as EntryAt, allocates-back, allocates-nothing, escapes, escapes-out, fails, fails-out, receives-back, receives-nothing}
use Rattle.rv_codegen.proofs.Walk.{way-stands}

-- an action whose nodes have code and make a tree
pub record IsCompilable (a : Action) : Type 0 where
  pub tree : HasTree a
  pub trees : HasTrees a
  pub bodies : HasBodies a
  pub built : (k : ℕ) (n : Node) → slice_get a k ≡ Some n → is_built_node n ≡ true
  pub numbers : NumbersFit a
  pub few : (k : ℕ) → node_yielder_count (node_at a k) < 65536
  pub some : 0 < length a

-- ---- nodes that are there

there : (o : Option Node) → IsNode (node_or_stray o) → o ≡ Some (node_or_stray o)
there (Some n) h = refl
there None h = absurd h

built-node : (n : Node) → is_built_node n ≡ true → IsNode n
built-node Stray h = absurd (let r : false ≡ true = h in cc)
built-node _ h = tt

-- ---- no bindings, no bodies of closures

abbrev no_bodies : Bodies
no_bodies = record { slots = λ c. []; entry = λ c. 0; words = λ c. 0; own = λ c. None; inside = λ c. tt }

-- frames in which the nodes of the action have places for what an admissible table gives them
pub record HasFrames (x : Subject) (fs : List Frame) : Type 0 where
  pub admissible : IsAdmissible x.action x.table
  pub layout : IsLayout x.action x.table fs
  pub apart : All HasApartNodes fs

-- some code for the action, in the region behind it
abbrev pub setting : (x : Subject) (fs : List Frame) (items : List Item) → 400 ≤ factor_by x.action x.table → List ℤ → Setting
setting x fs items ample input =
    record {
      action = x.action;
      sizes = sizes x.action x.table;
      stack = x.stack;
      room = x.units;
      input = input;
      factor = factor_by x.action x.table;
      ample = ample;
      items = items;
      exits = exits_of x.action;
      labels = first_label + 4 * length x.action + 4;
      widest = width (length x.action) x.table;
      places = data_places x.action (places_in x.action fs) (words_at fs);
      procedures = record { root_of = procedure_of x.action; words = words_at fs; calls = λ n c. CallsByNumber (node_at x.action n) c };
      bodies = no_bodies;
      Ends = λ k d b. CompletesInShape x.table k d b;
      base = region_address (4 * length (code_of items));
      count = region_words x.stack x.units;
    }

-- what is asked of numbers
pub record IsSized (x : Subject) (items : List Item) : Type 0 where
  pub small : 4 * total items < 1073741824
  pub ample : 400 ≤ factor_by x.action x.table
  pub paid : (k n : ℕ) → n ≤ width (length x.action) x.table → 400 + 24 * (n + 1) * (node_yielder_count (node_at x.action k) + 1) ≤ factor_by x.action x.table
  pub some_words : 1 ≤ x.stack
  pub few_words : x.stack ≤ 16777216
  pub few_units : x.units ≤ 4194304

module _ (x : Subject) (fs : List Frame) (ok : IsCompilable x.action) (framed : HasFrames x fs) (labels : LabelsStand (framed_items x.action fs x.stack x.units)) (sized : IsSized x (framed_items x.action fs x.stack x.units)) (input : List ℤ) where
  abbrev s : Setting
  s = setting x fs (framed_items x.action fs x.stack x.units) sized.ample input

  abbrev ns : List PlacedNode
  ns = put_frames fs (replicate (length x.action) nowhere)

  abbrev p : ℕ → PlacedNode
  p = place_at ns

  by_number : AreByNumber x.action fs ns
  by_number = put-by_number x.action x.table fs framed.layout ns (record { start = replicate (length x.action) nowhere; long = length-replicate (length x.action) nowhere; are = refl })

  own : HasOwnWords x.action p (words_at fs)
  own = layout-words x.action ok.trees x.table fs framed.layout framed.apart ns by_number

  pub stood : Stood (framed_items x.action fs x.stack x.units) (node_words s) x.stack x.units x.action
  stood = action-stands (node_words s) x.stack x.units x.action (framed_items x.action fs x.stack x.units) refl labels

  here : (k : ℕ) → IsNode (node_at x.action k) → slice_get x.action k ≡ Some (node_at x.action k)
  here k h = there (slice_get x.action k) h

  within : (k : ℕ) → IsNode (node_at x.action k) → k < length x.action
  within k h = slice_get_within x.action k (node_at x.action k) (here k h)

  within-node : (c : ℕ) → c < length x.action → IsNode (node_at x.action c)
  within-node c lt =
      let e = slice_get-get_or x.action c (Simple Complete) lt in
      subst (λ o. IsNode (node_or_stray o)) (sym e) (built-node _ (ok.built c _ e))

  part-there : (n k : ℕ) → IsPartOf (node_at x.action n) k → IsNode (node_at x.action k)
  part-there n k part = within-node k (ok.tree.within n k (node_at x.action n) (here n (part-node (node_at x.action n) k part)) part)

  -- the code of a node that is there
  each : (k : ℕ) → IsNode (node_at x.action k) → NodeStands s.items (node_words s) s.exits k (node_at x.action k)
  each k h = stood.each k (node_at x.action k) (here k h)

  -- the front of a node leads to its start without an instruction
  front-leads : (k : ℕ) → IsNode (node_at x.action k) → Way (code s) (front s k) (start s k)
  front-leads k h =
      let o = (each k h).opened in
      let lt = within k h in
      inl (o.front ∙ sym o.start, omega (arith, lt))

  -- the start of a node with parts leads to that of its first part
  start-leads : (k l : ℕ) (n : Node) → IsNode n → NodeStands s.items (node_words s) s.exits k n → k < length x.action → body (node_words s) k (get_or s.exits k 0) n ≡ goes (start_of (suc k)) (start_of l) → Way (code s) (start s k) (start s l)
  start-leads k l n node stands lt is =
      let c = subst (λ b. Cursor s.items stands.place (b ++ (opening (suc k) ++ stands.behind))) is stands.opened.cursor in
      way-stands s stands.place (start_of k) (start_of (suc k)) (start_of l) (opening (suc k) ++ stands.behind) stands.opened.start c (λ c'. (opens s.items labels (suc k) stands.place stands.behind c').start) (omega (arith, lt))

  -- the parts of a node with two parts are performed in order
  in-order : (k l r : ℕ) (n : Node) → node_at x.action k ≡ n → IsNode n → IsPartOf n r → body (node_words s) k (get_or s.exits k 0) n ≡ goes (start_of (suc k)) (start_of l) → PartExits x.action ok.tree k l r (front_of r) → Apart (s.places.Writes r) (s.places.out l) → InOrder s k l r
  in-order k l r n e some part is exits stays =
      let node : IsNode (node_at x.action k) = subst IsNode (sym e) some in
      let second = part-there k r (subst (λ m. IsPartOf m r) (sym e) part) in
      let stands = subst (NodeStands s.items (node_words s) s.exits k) e (each k node) in
      record {
        enter = start-leads k l n some stands (within k node) is;
        first_exit = ap (point s) exits.first;
        turn = front-leads r second;
        second_exit = ap (point s) exits.second;
        stays = stays;
        stays_bound = tt;
      }

  node-there : (k : ℕ) (n : Node) → node_at x.action k ≡ n → IsNode n → slice_get x.action k ≡ Some n
  node-there k n e h = here k (subst IsNode (sym e) h) ∙ ap Some e

  -- a node leaves as many data as it has words of its own
  long : (k : ℕ) → length (s.places.out k) ≡ length (p k).data_out
  long k = length-out_of x.action ok.trees p k

  both-laid : (k l r : ℕ) (j : Join) → node_at x.action k ≡ Both j l r → LaidBoth s j k l r
  both-laid k l r j e = record {
    order = inl (in-order k l r (Both j l r) e tt (inr refl) refl (both-exits x.action ok.tree k l r j (node-there k (Both j l r) e tt)) (both-stays s ok.trees p (words_at fs) own k l r j e));
    left_given = both-given_left x.action ok.trees p k l r j e;
    right_given = both-given_right x.action ok.trees p k l r j e;
    left_bound = refl;
    right_bound = refl;
    joins = λ q. both-joined x.action ok.trees p k l r j e (omega (arith, q, long l, long r));
    binds = joins-none j k l r;
  }

  shared : (q : Chain) (k l r : ℕ) → node_at x.action k ≡ Phases q l r → Passes x.action ok.trees p q → Shares s k l r
  shared q k l r e passes = record {
    right_given = phases-given_right x.action ok.trees p k l r q passes e;
    joins = λ z. phases-joined x.action ok.trees p k l r q passes e (omega (arith, z, long l, long r));
  }

  phase-places : (q : Chain) (k l r : ℕ) → node_at x.action k ≡ Phases q l r → PhasePlaces s q k l r
  phase-places Then k l r e = record {
    right_given = then-given_right x.action ok.trees p k l r e;
    ends = λ z. then-ends x.action ok.trees p k l r e (sym (long r) ∙ z);
  }
  phase-places AndThen k l r e = shared AndThen k l r e tt
  phase-places Hence k l r e = shared Hence k l r e tt
  phase-places Before k l r e = shared Before k l r e tt

  phases-laid : (k l r : ℕ) (q : Chain) → node_at x.action k ≡ Phases q l r → LaidPhases s q k l r
  phases-laid k l r q e = record {
    order = in-order k l r (Phases q l r) e tt (inr refl) refl (phases-exits x.action ok.tree k l r q (node-there k (Phases q l r) e tt)) (phases-stays s ok.trees p (words_at fs) own k l r q e);
    left_given = phases-given_left x.action ok.trees p k l r q e;
    left_bound = refl;
    places = phase-places q k l r e;
    binds = chains-none q k l r;
  }

  data-laid : DataLaid s
  data-laid = record {
    reached = λ k h. words-reached x.action ok.trees x.table fs framed.layout framed.apart ns by_number k (within k h);
    given_within = λ k o h m. (given-within x.action ok.trees p (words_at fs) own k o (within k h) m).1;
    out_within = λ k o h m. (out-within x.action ok.trees p (words_at fs) own k o (within k h) m).1;
    apart = λ k o h m n. given-not_out x.action ok.trees p (words_at fs) own k o (within k h) m n;
    once = λ k h. out-once x.action ok.trees p (words_at fs) own k (within k h);
    few = λ k h. out-width x.action ok.trees x.table fs framed.layout framed.apart ns by_number k (within k h);
    written = λ k o m. inr (inl m);
    row = λ k. given-row x.action ok.trees x.table fs framed.layout framed.apart ns by_number k;
    caught = λ k h. given-caught s ok.trees p (words_at fs) own (λ j. given-row x.action ok.trees x.table fs framed.layout framed.apart ns by_number j) k (within k h);
    unbound = λ k. refl;
    suits = λ steps frames k d b w node reached. suits x.action ok.trees x.table fs framed.layout framed.apart ns by_number framed.admissible input steps frames k (within k node) d b w reached;
    fits = λ steps frames n t w m e u node own_tree reached step ends. tree-completes x.action x.table framed.admissible input steps frames n t w m e u own_tree reached step ends;
    fills = λ n e u node fits. fits.given ∙ sym (out-length x.action ok.trees x.table fs framed.layout framed.apart ns by_number n (within n node));
  }

  base-below : s.base + region_size x.stack x.units < 2000000000
  base-below = compiled-below (4 * length (code s)) x.stack x.units (omega (arith, length-code (spot s.items) 0 s.items, sized.small)) sized.few_words sized.few_units

  main-within : frame_words s 0 ≤ s.sizes.main_slots
  main-within = words-within x.action ok.trees x.table fs framed.layout framed.apart ns by_number 0 ok.some

  body-within : (n c : ℕ) → CallsByNumber (node_at x.action n) c → frame_words s c ≤ s.sizes.slots c
  body-within n c h =
      omega (arith, words-within x.action ok.trees x.table fs framed.layout framed.apart ns by_number c (ok.bodies.within n c h), ap (slots x.action x.table) (body-root x.action ok.trees ok.bodies n c h))

  whole-laid : Laid s
  whole-laid = record {
    placed = alias-placed s ok.trees p (words_at fs) own (λ n c h. words-some x.action ok.trees x.table fs framed.layout framed.apart ns by_number c (ok.bodies.within n c h));
    data_laid = data-laid;
    part_node = part-there;
    same_frame = λ n k part. same-frame s ok.trees p (words_at fs) own n k part;
    main_within = main-within;
    body_within = body-within;
    phases = phases-laid;
    both = both-laid;
    small = omega (arith, sized.small);
    paid = sized.paid;
    aligned = omega arith;
    below = omega (arith, base-below);
    some = omega (arith, sized.some_words);
    units_inside = omega arith;
  }

  -- where labels stand
  ending-at : (l exit : ℕ) → EntryAt s.items l 3 (λ n. exit_with exit) → Has (code s) (address_of (spot s.items l)) (exit_with exit)
  ending-at l exit e = subst (λ n. Has (code s) (address_of n) (exit_with exit)) (sym e.is) e.stands

  -- a node that keeps a record is there
  keeping : (n : ℕ) → KeepsRecord (node_at x.action n) → n < length x.action
  keeping n keeps = within n (keeps-node (node_at x.action n) keeps)
    where
      keeps-node : (m : Node) → KeepsRecord m → IsNode m
      keeps-node (Either l r) h = tt
      keeps-node (Trapping l r) h = tt
      keeps-node _ h = absurd h

  either-there : (k l r : ℕ) → node_at x.action k ≡ Either l r → PartExits x.action ok.tree k l r (stop_of k)
  either-there k l r e = either-exits x.action ok.tree k l r (node-there k (Either l r) e tt)

  -- where an arm completes, it leaves its data where the alternative does
  arm-out : (k l r c : ℕ) → node_at x.action k ≡ Either l r → OneOf c (l ∷ r ∷ []) → IsPartOf (Either l r) c → EndsAs x.action x.table framed.admissible c k → (d : Data) (b : Binds) → CompletesInShape x.table c d b → (s.places.out k ≡ s.places.out c) × CompletesInShape x.table k d b
  arm-out k l r c e listed part like d b h =
      let whole = ends-as x.action x.table framed.admissible c k d b like h in
      let node : IsNode (node_at x.action k) = subst IsNode (sym e) tt in
      let other : IsNode (node_at x.action c) = part-there k c (subst (λ m. IsPartOf m c) (sym e) part) in
      let same : length (p c).data_out ≡ length (s.places.out k) = sym (long c) ∙ sym (data-laid.fills c d b other h) ∙ data-laid.fills k d b node whole in
      (sym (either-out x.action ok.trees p k l r c e listed same), whole)

  arms-laid : (k l r : ℕ) → node_at x.action k ≡ Either l r → LaidArms s k l r
  arms-laid k l r e = record {
    left_given = either-given x.action ok.trees p k l r l e Here;
    left_bound = refl;
    right_given = either-given x.action ok.trees p k l r r e (Later Here);
    right_bound = refl;
    left_out = arm-out k l r l e Here (inl refl) (either-ends x.action x.table framed.admissible k l r e).0;
    right_out = arm-out k l r r e (Later Here) (inr refl) (either-ends x.action x.table framed.admissible k l r e).1;
    left_bound_out = refl;
    right_bound_out = refl;
    left_binds = λ token h. h;
    right_binds = λ token h. h;
    other = front-leads r (part-there k r (subst (λ m. IsPartOf m r) (sym e) (inr refl)));
    second_exit = ap (point s) (either-there k l r e).second;
  }

  alternatives : (k l r : ℕ) → node_at x.action k ≡ Either l r → Alternative s k l r
  alternatives k l r e =
      let node : IsNode (node_at x.action k) = subst IsNode (sym e) tt in
      alternative-stands s whole-laid labels k l r (keep-reached x.action ok.trees x.table fs framed.layout framed.apart ns by_number k) (ap (point s) (either-there k l r e).first)
      (subst (NodeStands s.items (node_words s) s.exits k) e (each k node))

  records : LaidRecords s
  records =
      let e = entries_from 0 in
      let there = stood.entered in
      record {
        laid = whole-laid;
        arms = arms-laid;
        keep_below = λ n keeps. keep-within x.action ok.trees x.table fs framed.layout framed.apart ns by_number n (keeping n keeps);
        keeps = λ n o keeps low high. inl (n, keeping n keeps, Itself, inr (inr (inr (member-range (p n).keep 8 o low high))));
        fails = fails s.items e x.stack x.units there whole-laid.small;
        fails_out = fails-out s.items e x.stack x.units there whole-laid.small;
        failed_exits = ending-at failed_label 1 there.failed;
      }

  trapping-there : (k l r : ℕ) → node_at x.action k ≡ Trapping l r → PartExits x.action ok.tree k l r (stop_of k)
  trapping-there k l r e = trapping-exits x.action ok.tree k l r (node-there k (Trapping l r) e tt)

  trap-laid : (k l r : ℕ) → node_at x.action k ≡ Trapping l r → LaidTrap s k l r
  trap-laid k l r e =
      let there : k < length x.action = within k (subst IsNode (sym e) tt) in
      let ends = trap-where x.action ok.trees x.table fs framed.layout framed.apart ns by_number framed.admissible k l r there e in
      record {
        left_given = trapping-given_left x.action ok.trees p k l r e;
        left_bound = refl;
        left_out = ends.0;
        left_bound_out = refl;
        left_binds = λ token h. h;
        right_bound = refl;
        tail = record { tail = subst (λ m. IsTailOf m r) (sym e) refl; exit_is = ap (point s) (trapping-there k l r e).second; ends = ends.1; ends_bound = refl; table = λ token h. h };
        few = given-width x.action ok.trees x.table fs framed.layout framed.apart ns by_number r;
        written = λ o m. handler-written x.action ok.trees x.table fs framed.layout framed.apart ns by_number framed.admissible (words_at fs) k l r o e m;
      }

  trap-code : (k l r : ℕ) → node_at x.action k ≡ Trapping l r → TrapCode s k l r
  trap-code k l r e =
      let node : IsNode (node_at x.action k) = subst IsNode (sym e) tt in
      let stands = subst (NodeStands s.items (node_words s) s.exits k) e (each k node) in
      trap-stands s whole-laid labels k l r (keep-reached x.action ok.trees x.table fs framed.layout framed.apart ns by_number k) (ap (point s) (trapping-there k l r e).first) stands.place stands.opened.start (opening (suc k) ++ stands.behind) stands.opened.cursor

  trapped-laid : LaidTraps s
  trapped-laid =
      let e = entries_from 0 in
      let there = stood.entered in
      record {
        records = records;
        traps = trap-laid;
        codes = trap-code;
        escapes = escapes s.items e x.stack x.units there whole-laid.small;
        escapes_out = escapes-out s.items e x.stack x.units there whole-laid.small;
        escaped_exits = ending-at escaped_label 2 there.escaped;
        fills = λ steps frames n l r b d w node reached. handler-fills x.action ok.trees x.table fs framed.layout framed.apart ns by_number framed.admissible input steps frames n l r b d w node reached;
      }

  -- ---- calls

  call-code : (n c : ℕ) → CallsByNumber (node_at x.action n) c → CallStands s n c
  call-code n c h = ⊎_elim
      (λ e. call-stands s n c whole-laid labels (Unfolding c) refl (subst (NodeStands s.items (node_words s) s.exits n) e (each n (subst IsNode (sym e) tt))))
      (λ e. call-stands s n c whole-laid labels (Unfold c) refl (subst (NodeStands s.items (node_words s) s.exits n) e (each n (subst IsNode (sym e) tt))))
      h

  -- a body finds its data in words of its own
  body-given : (n c : ℕ) → CallsByNumber (node_at x.action n) c → s.places.given c ≡ (p c).data_in
  body-given n c h = handed-root x.action ok.trees (given_in p) (λ j. (p j).data_in) c (body-whole x.action ok.bodies n c h)

  calls-laid : LaidCalls s
  calls-laid = record {
    laid = whole-laid;
    stands = call-code;
    fetches = λ n c h. (call-code n c h).fetch;
    may = λ n c h. h;
    body = λ n c h. within-node c (ok.bodies.within n c h);
    takes = λ steps frames n c d b w h reached. (runs-in_shape x.action x.table framed.admissible input steps frames c d b w reached).given ∙ sym (in-fits x.action ok.trees x.table fs framed.layout framed.apart ns by_number c (ok.bodies.within n c h)) ∙ sym (ap length (body-given n c h));
    behind = λ n c o h m. (own.within c o (ok.bodies.within n c h) (in-word (p c) o (subst (OneOf o) (body-given n c h) m))).0;
    few = λ c. given-width x.action ok.trees x.table fs framed.layout framed.apart ns by_number c;
    unbound = λ c. refl;
    binds = λ n c h token z. z;
    ends = λ steps frames n c d b w h reached e u z. ends-as x.action x.table framed.admissible c n e u (call-ends x.action x.table framed.admissible input steps frames n c d b w h reached) z;
    row = λ k. out-row x.action ok.trees x.table fs framed.layout framed.apart ns by_number k;
    returns = point s (return_of (length x.action));
    near_returns = near s whole-laid (return_of (length x.action));
    goes_back = λ n c h. ap (point s) (body-exit x.action ok.tree c (ok.bodies.later n c h) (ok.bodies.within n c h) (λ j m at part. ok.bodies.no_part n c j m h at part));
    way_back = stood.returns;
    full_exits = ending-at full_label 3 stood.entered.full;
  }

  rows-laid : (x' : Starting s) → EscapesPlaces s trapped-laid.records.laid x' (s.places.escaped x'.k)
  rows-laid x' =
      let k = x'.k in
      let there : k < length x.action = within k x'.runs.here.node in
      let few : length (p k).escaped ≤ s.widest = escaped-width x.action ok.trees x.table fs framed.layout framed.apart ns by_number k there in
      let some = words-some x.action ok.trees x.table fs framed.layout framed.apart ns by_number k there in
      escapes-places s ok.trees p (words_at fs) own trapped-laid.records.laid x' there (words-reached x.action ok.trees x.table fs framed.layout framed.apart ns by_number k there)
      (escaped-row x.action ok.trees x.table fs framed.layout framed.apart ns by_number k there) few (omega (arith, some))
      (escaped-caught s ok.trees p (words_at fs) own (λ j lt. escaped-row x.action ok.trees x.table fs framed.layout framed.apart ns by_number j lt) k there)

  pub compiled : Compiled s
  compiled =
      let e = entries_from 0 in
      let there = stood.entered in
      record {
        traps = trapped-laid;
        alternatives = alternatives;
        labels = labels;
        each = each;
        built = λ k h. ok.built k (node_at x.action k) (here k h);
        rows = rows-laid;
        numbers = ok.numbers;
        few = ok.few;
        within = λ k h. omega (arith, within k h);
        joint_within = λ k h. omega (arith, within k h);
        calls = calls-laid;
        completed = subst (λ i. Has (code s) (address_of (spot s.items i)) (far_jump (spot s.items i) (spot s.items completed_label))) (sym (root-exit x.action ok.tree ok.some)) stood.completed;
        completed_exits = ending-at completed_label 0 there.completed;
        send = subst (λ n. Has (code s) (address_of n) send_code) (sym there.send.is) there.send.stands;
        storage = record {
          allocates = allocates-back s.items e x.stack x.units there whole-laid.small;
          allocates_none = allocates-nothing s.items e x.stack x.units there whole-laid.small;
          full_exits = ending-at full_label 3 there.full;
          receives = receives-back s.items e x.stack x.units there whole-laid.small;
          receives_none = receives-nothing s.items e x.stack x.units there whole-laid.small;
        };
      }

  -- the region lies below
  pub base-low : s.base + 8 * s.count ≤ 2 ^ 32
  base-low = omega (arith, base-below)

  -- the root is a node
  pub root-there : IsNode (node_at x.action 0)
  root-there = within-node 0 ok.some

  -- nothing is given to the root
  pub root-places : s.places.given 0 ≡ []
  root-places =
      let w : World = record { cells = []; output = []; input = input } in
      let none = runs-in_shape x.action x.table framed.admissible input [] [] 0 [] NoBinds w refl in
      none-long (p 0).data_in (none.given ∙ sym (in-fits x.action ok.trees x.table fs framed.layout framed.apart ns by_number 0 ok.some))
