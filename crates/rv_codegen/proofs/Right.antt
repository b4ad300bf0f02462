-- The image of an action's code is right for the action.
use Rattle.std.proofs.Common.{◌≡◌, ℕ, ◌+◌, ◌-◌, ◌*◌, ◌^◌, ◌<◌, ◌≤◌, true, List, [], ◌∷◌, ◌++◌, get_or, length, set, refl, sym, ap, ◌∙◌, subst, arith, inl, inr, ⊎_elim, append-nil, length-set, get_or-set_same, get_or-set_other}
use Rattle.std.specs.Prelude.{map, replicate, All}
use Rattle.std.proofs.lemmas.List.Elements.{All-head, All-tail}
use Rattle.std.proofs.lemmas.List.{get_or-replicate, length-replicate}
use Rattle.rv_code.specs.Encode.{is_encodable}
use Rattle.rv_code.specs.Machine.{Outcome, Ran, Exited, Trapped, run, loaded}
use Rattle.rv_code.specs.Images.{started}
use Rattle.rv_code.specs.declared.instruction.Inst.{Inst}
use Rattle.rv_asm.specs.Arrivals.{LabelsStand}
use Rattle.rv_asm.specs.Conventions.{code_address, code_bytes, compiled_segments, region_address, region_size}
use Rattle.rv_asm.specs.DataWords.{Heap}
use Rattle.rv_asm.specs.WordMachine.{WordState, Goes, start_state, run_words}
use Rattle.rv_asm.specs.Assembly.{address_of, total, spot, code_of}
use Rattle.rv_asm.specs.Pieces.{exit_with}
use Rattle.rv_asm.specs.declared.item.Item.{Item}
use Rattle.rv_asm.specs.declared.item.Item.TheVariants.{Plain}
use Rattle.rv_asm.specs.Meanings.{IsShown}
use Rattle.rv_asm.proofs.Calls.{before_exit, before_exit-runs, exit-stops}
use Rattle.rv_asm.proofs.Follows.{follows-compiled}
use Rattle.rv_asm.proofs.Labels.{length-code}
use Rattle.rv_asm.proofs.Moments.{CodeFollows, Stops, quiet-stop}
use Rattle.rv_asm.proofs.Places.{length-code_bytes}
use Rattle.rv_asm.proofs.Regions.{compiled-below}
use Rattle.action_terms.specs.Information.{NoBinds, World}
use Rattle.action_terms.specs.Acting.{End, Done, Esc, Fail, Tree, Run, Ended}
use Rattle.action_terms.specs.Need.{Passes}
use Rattle.action_terms.specs.Performances.{messages_bytes, records}
use Rattle.action_terms.specs.Steps.{Step}
use Rattle.action_terms.specs.Frames.{Frame, plug}
use Rattle.action_terms.proofs.Parts.{Reaches}
use Rattle.rv_prelude.specs.EntryRuns.{IsStarted}
use Rattle.rv_prelude.specs.Items.{entries_from}
use Rattle.rv_prelude.specs.Region.{no_chains, with_ends}
use Rattle.rv_prelude.proofs.Entered.{starts as starts-at}
use Rattle.rv_codegen.specs.Blocks.{end_label, framed_items}
use Rattle.sort_rules.specs.Measures.{sizes, slots}
use Rattle.frame_layout.specs.Places.{Frame as PlacedFrame}
use Rattle.rv_codegen.specs.Aliases.{words_at}
use Rattle.rv_codegen.specs.RightImage.{compiled_image, Subject, SomeEnd, ShowsExit, Shows}
use Rattle.rv_codegen.proofs.Configurations.{Configuration, EndCode, depth, performances}
use Rattle.rv_codegen.proofs.Around.{Given}
use Rattle.rv_codegen.proofs.Holding.{Holds}
use Rattle.rv_codegen.proofs.InputLeft.{AreBytes, left-same}
use Rattle.rv_codegen.proofs.RestPoints.{IsAt}
use Rattle.rv_codegen.proofs.Settings.{Setting, start, node_words}
use Rattle.rv_codegen.proofs.Standing.{Stood}
use Rattle.rv_codegen.proofs.Compiling.{IsCompilable, HasFrames, IsSized, setting, compiled, stood, root-there, root-places, base-low}
use Rattle.rv_codegen.proofs.Turns.{turn}
use Rattle.rv_codegen.proofs.Units.{Units}

-- ---- the image as it is loaded

filled-code : (bytes : List ℕ) → bytes ++ replicate (length bytes - length bytes) 0 ≡ bytes
filled-code bytes = let z : length bytes - length bytes ≡ 0 = omega arith in ap (λ n. bytes ++ replicate n 0) z ∙ append-nil bytes

pub started-compiled : (code : List Inst) (stack units : ℕ) (input : List ℕ) → started (compiled_image (code_bytes code) stack units) input ≡ loaded code_address (compiled_segments code stack units) input
started-compiled code stack units input =
    let size = length-code_bytes code in
    let none : region_size stack units - 0 ≡ region_size stack units = omega arith in
    rw (filled-code (code_bytes code), size, none) refl

-- no block was taken
abbrev no_heap : Heap
no_heap = record { cells = []; closures = [] }

are-bytes : (input : List ℕ) → All (λ b. b < 256) input → AreBytes input
are-bytes [] h = tt
are-bytes (b ∷ bs) h = (All-head (λ c. c < 256) b bs h, are-bytes bs (All-tail (λ c. c < 256) b bs h))

-- the code with these items, in the region behind it
module _ (x : Subject) (fs : List PlacedFrame) (items : List Item) (sized : IsSized x items) (input : List ℕ) (bytes : All (λ b. b < 256) input) where
  abbrev code : List Inst
  code = code_of items

  abbrev base : ℕ
  base = region_address (4 * length code)

  abbrev s : Setting
  s = setting x fs items sized.ample (records input)

  abbrev entry : WordState
  entry = start_state s.count input

  abbrev first : Configuration
  first = record { steps = []; frames = []; focus = Run 0 [] NoBinds; world = record { cells = []; output = []; input = records input } }

  -- ---- what the run shows is what a right image shows

  -- a performance that has ended
  some-end : (steps : List Step) (frames : List Frame) (z : End) (world : World) → frames ≡ [] → Reaches x.action (records input) steps (plug frames (Ended z)) world → SomeEnd x input (messages_bytes world.output) z
  some-end steps frames z world none reached =
      (steps, world.output, (world, subst (λ fs. Reaches x.action (records input) steps (plug fs (Ended z)) world) none reached, refl), refl)

  -- its exit code tells how
  shows-end : (steps : List Step) (frames : List Frame) (focus : Tree) (world : World) (exit : ℕ) → frames ≡ [] → EndCode focus exit → Reaches x.action (records input) steps (plug frames focus) world → ShowsExit x input (messages_bytes world.output) exit
  shows-end steps frames (Ended (Done d b)) world exit none code_is reached =
      subst (ShowsExit x input (messages_bytes world.output)) (sym code_is) (d, b, some-end steps frames (Done d b) world none reached)
  shows-end steps frames (Ended Fail) world exit none code_is reached =
      subst (ShowsExit x input (messages_bytes world.output)) (sym code_is) (some-end steps frames Fail world none reached)
  shows-end steps frames (Ended (Esc d)) world exit none code_is reached =
      subst (ShowsExit x input (messages_bytes world.output)) (sym code_is) (d, some-end steps frames (Esc d) world none reached)
  shows-end steps frames _ world exit none code_is reached = absurd code_is

  -- an exit with 3 shows a part that passes the capacity
  shows-full : (steps : List Step) (frames : List Frame) (focus : Tree) (world : World) (exit : ℕ) → exit ≡ 3 → Passes x.action (sizes x.action x.table) x.stack x.units steps (record { tree = plug frames focus; world = world }) → Reaches x.action (records input) steps (plug frames focus) world → ShowsExit x input (messages_bytes world.output) exit
  shows-full steps frames focus world exit code_is passes reached =
      subst (ShowsExit x input (messages_bytes world.output)) (sym code_is) (steps, record { tree = plug frames focus; world = world }, reached, refl, passes)

  shows-of : (m : ℕ) (o : Outcome) → IsShown (performances s) m o → Shows x input m o
  shows-of m (Ran state) h =
      let c = h.0 in
      (c.steps, record { tree = plug c.frames c.focus; world = c.world }, h.1, h.2, h.3)
  shows-of m (Exited exit output) h =
      let c = h.0 in
      subst (λ o. ShowsExit x input o exit) (sym h.2)
      (⊎_elim
      (λ e. shows-end c.steps c.frames c.focus c.world exit e.0 e.1 h.1)
      (λ e. shows-full c.steps c.frames c.focus c.world exit e.0 e.1 h.1)
      h.3)
  shows-of m (Trapped cause) h = absurd h

  below32 : base + region_size x.stack x.units ≤ 2 ^ 32
  below32 = omega (arith, compiled-below (4 * length code) x.stack x.units (omega (arith, length-code (spot items) 0 items, sized.small)) sized.few_words sized.few_units)

  -- after m instructions of the image, where the code follows performances
  pub follows-shows : All (λ i. is_encodable i ≡ true) code → CodeFollows base code (performances s) entry → (m : ℕ) → Shows x input m (run m (started (compiled_image (code_bytes code) x.stack x.units) input))
  follows-shows encodable follows m =
      subst (λ z. Shows x input m (run m z)) (sym (started-compiled code x.stack x.units input))
      (shows-of m _ (follows-compiled code x.stack x.units input (performances s) encodable below32 bytes follows m))

-- ---- the main procedure fits the stack

module _ (x : Subject) (fs : List PlacedFrame) (ok : IsCompilable x.action) (has_frames : HasFrames x fs) (labels : LabelsStand (framed_items x.action fs x.stack x.units)) (sized : IsSized x (framed_items x.action fs x.stack x.units)) (fits : words_at fs 0 ≤ x.stack) (input : List ℕ) (bytes : All (λ b. b < 256) input) where
  abbrev framed : List Item
  framed = framed_items x.action fs x.stack x.units

  abbrev framed_code : List Inst
  framed_code = code_of framed

  abbrev framed_base : ℕ
  framed_base = region_address (4 * length framed_code)

  abbrev framed_setting : Setting
  framed_setting = setting x fs framed sized.ample (records input)

  stands : Stood framed (node_words framed_setting) x.stack x.units x.action
  stands = stood x fs ok has_frames labels sized (records input)

  framed_entry : WordState
  framed_entry = start_state framed_setting.count input

  framed_first : Configuration
  framed_first = record { steps = []; frames = []; focus = Run 0 [] NoBinds; world = record { cells = []; output = []; input = records input } }

  -- the words at the root: the ends of stack and units stand at the front, all others are 0
  abbrev first_words : List ℕ
  first_words = with_ends framed_base x.stack x.units (replicate framed_setting.count 0)

  first-size : length first_words ≡ framed_setting.count
  first-size = by (replicate framed_setting.count 0) (length-replicate framed_setting.count 0)
    where
      by : (ws : List ℕ) → length ws ≡ framed_setting.count → length (with_ends framed_base x.stack x.units ws) ≡ framed_setting.count
      by ws many =
          let stack_end = framed_base + 8 * (512 + x.stack) in
          let units_end = framed_base + 8 * (512 + x.stack + 2 * x.units) in
          length-set (set (set ws 5 stack_end) 6 stack_end) 7 units_end ∙ length-set (set ws 5 stack_end) 6 stack_end ∙ length-set ws 5 stack_end ∙ many

  -- the first words of it
  first-zero : (j : ℕ) → j < 5 → get_or first_words j 0 ≡ 0
  first-zero j lt = by (replicate framed_setting.count 0) (get_or-replicate framed_setting.count j 0 0 (omega arith))
    where
      by : (ws : List ℕ) → get_or ws j 0 ≡ 0 → get_or (with_ends framed_base x.stack x.units ws) j 0 ≡ 0
      by ws none =
          let stack_end = framed_base + 8 * (512 + x.stack) in
          let units_end = framed_base + 8 * (512 + x.stack + 2 * x.units) in
          get_or-set_other (set (set ws 5 stack_end) 6 stack_end) 7 j units_end 0 (omega arith)
          ∙ get_or-set_other (set ws 5 stack_end) 6 j stack_end 0 (omega arith)
          ∙ get_or-set_other ws 5 j stack_end 0 (omega arith)
          ∙ none

  -- no unit is spent
  nothing-spent : Units framed_setting no_heap first_words [] []
  nothing-spent = record {
    spent = 0;
    few = omega arith;
    now = record {
      counted = first-zero 4 (omega arith);
      stack_end_at = ends.0;
      first_at = ends.1;
      end_at = ends.2;
      within = omega arith;
      held = record {
        many = refl;
        cell = λ c i y p q. absurd (cc);
        closure = λ n m p. absurd (cc);
        cell_low = λ c i p. absurd (cc);
        cell_free = λ c i p. absurd (cc);
        closure_low = λ n m p. absurd (cc);
        closure_free = λ n m p. absurd (cc);
        cells_apart = λ c c' i i' p. absurd (cc);
        closures_apart = λ c i n m p. absurd (cc);
      };
    };
  }
    where
      ends : (get_or first_words 5 0 ≡ framed_base + 8 * (512 + x.stack)) × (get_or first_words 6 0 ≡ framed_base + 8 * (512 + x.stack)) × (get_or first_words 7 0 ≡ framed_base + 8 * (512 + x.stack + 2 * x.units))
      ends = by (replicate framed_setting.count 0) (length-replicate framed_setting.count 0)
        where
          by : (ws : List ℕ) → length ws ≡ framed_setting.count → (get_or (with_ends framed_base x.stack x.units ws) 5 0 ≡ framed_base + 8 * (512 + x.stack)) × (get_or (with_ends framed_base x.stack x.units ws) 6 0 ≡ framed_base + 8 * (512 + x.stack)) × (get_or (with_ends framed_base x.stack x.units ws) 7 0 ≡ framed_base + 8 * (512 + x.stack + 2 * x.units))
          by ws many =
              let stack_end = framed_base + 8 * (512 + x.stack) in
              let units_end = framed_base + 8 * (512 + x.stack + 2 * x.units) in
              let one = length-set ws 5 stack_end in
              let two = length-set (set ws 5 stack_end) 6 stack_end in (
                get_or-set_other (set (set ws 5 stack_end) 6 stack_end) 7 5 units_end 0 (λ q. omega arith) ∙ get_or-set_other (set ws 5 stack_end) 6 5 stack_end 0 (λ q. omega arith) ∙ get_or-set_same ws 5 stack_end 0 (omega (arith, many)),
                get_or-set_other (set (set ws 5 stack_end) 6 stack_end) 7 6 units_end 0 (λ q. omega arith) ∙ get_or-set_same (set ws 5 stack_end) 6 stack_end 0 (omega (arith, one, many)),
                get_or-set_same (set (set ws 5 stack_end) 6 stack_end) 7 units_end 0 (omega (arith, one, two, many)),
              )

  -- nothing is given to the root: its row has no data
  root-given : Given framed_setting no_heap first_words 512 0 []
  root-given = none-given (root-places x fs ok has_frames labels sized (records input))
    where
      none-given : framed_setting.places.given 0 ≡ [] → Given framed_setting no_heap first_words 512 0 []
      none-given e = subst (λ os. Holds framed_setting.base no_heap first_words 512 os []) (sym e) tt

  -- the run comes to the root of the action
  record Enters : Type 0 where
    to : WordState
    count : ℕ
    few : count ≤ 64
    runs : run_words framed_base framed_code count framed_entry ≡ Goes to
    rests : IsAt framed_setting (start framed_setting 0).rank to framed_first
    quiet : to.output ≡ framed_entry.output

  enters : Enters
  unfolding framed_entry framed_first
  enters =
      let e = entries_from 0 in
      let size : length framed_code ≡ total framed = length-code (spot framed) 0 framed in
      let base_is : framed_base ≡ region_address (4 * spot framed end_label) = ap (λ n. region_address (4 * n)) (size ∙ sym stands.end) in
      let below : framed_base + 8 * length framed_entry.words ≤ 2 ^ 32 = omega (arith, base-low x fs ok has_frames labels sized (records input), length-replicate {A = ℕ} framed_setting.count 0) in
      let started : IsStarted framed end_label x.stack x.units framed_base framed_entry = record { here = refl; base_is = base_is; below = below; words = refl } in
      let came = starts-at framed e x.stack x.units stands.entered (omega (arith, sized.small)) sized.few_words sized.few_units framed_base framed_entry started in
      let a = came.0 in
      record {
        to = a.end;
        count = a.instructions;
        few = a.few;
        runs = a.leads.words;
        rests = record {
          rests = record {
            here = record {
              f = 512;
              chains = no_chains;
              heap = no_heap;
              words = first_words;
              stands = record { region = came.1; frame_at = came.2; words_are = a.words };
              region = record { size = first-size; alternative = first-zero 1 (omega arith); trap = first-zero 2 (omega arith); mark = first-zero 3 (omega arith) };
              clear = omega (arith, fits);
              units_are = nothing-spent;
              around = (refl, refl, refl, refl);
              node = root-there x fs ok has_frames labels sized (records input);
            };
            at = a.at ∙ ap address_of (sym stands.root);
            rank_is = refl;
            given = root-given;
            receives = tt;
          };
          shown = a.output;
          left = left-same {ys = a.end.input} a.input (refl, are-bytes input bytes);
        };
        quiet = a.output;
      }

  follows : CodeFollows framed_base framed_code (performances framed_setting) framed_entry
  unfolding framed_entry framed_first
  follows =
      let e = enters in
      record {
        depth = depth;
        IsAt = IsAt framed_setting;
        turn = turn framed_setting (compiled x fs ok has_frames labels sized (records input));
        rank = (start framed_setting 0).rank;
        first = e.count;
        state = e.to;
        initial = framed_first;
        runs = e.runs;
        quiet = e.quiet;
        output = e.quiet;
        related = e.rests;
        reached = refl;
        paid = omega (arith, e.few);
      }

  -- after m instructions of the image
  pub image-shows : All (λ i. is_encodable i ≡ true) framed_code → (m : ℕ) → Shows x input m (run m (started (compiled_image (code_bytes framed_code) x.stack x.units) input))
  unfolding framed_entry
  image-shows encodable m = follows-shows x fs framed sized input bytes encodable follows m

-- ---- the main procedure needs more words than the stack has: the code is an exit with 3 at once

-- the exit as items
abbrev pub full_items : List Item
full_items = map Plain (exit_with 3)

module _ (x : Subject) (fs : List PlacedFrame) (sized : IsSized x full_items) (over : x.stack < slots x.action x.table 0) (input : List ℕ) (bytes : All (λ b. b < 256) input) where
  abbrev full_code : List Inst
  full_code = code_of full_items

  abbrev full_base : ℕ
  full_base = region_address (4 * length full_code)

  abbrev full_setting : Setting
  full_setting = setting x fs full_items sized.ample (records input)

  full_entry : WordState
  full_entry = start_state full_setting.count input

  full_first : Configuration
  full_first = record { steps = []; frames = []; focus = Run 0 [] NoBinds; world = record { cells = []; output = []; input = records input } }

  -- the one point of such code
  abbrev AtOnce : ℕ → WordState → Configuration → Type 0
  AtOnce rank state c = (state ≡ full_entry) × (c ≡ full_first)

  -- from the start the run ends as full: the need of the start passes the words
  stops : Stops full_base full_code (performances full_setting) depth AtOnce full_entry full_first
  unfolding full_entry full_first
  stops =
      quiet-stop full_base full_code (performances full_setting) depth AtOnce full_entry full_first
      (record {
        count = 2;
        to = before_exit full_base full_code 3 full_entry;
        last = full_first;
        exit = 3;
        runs = before_exit-runs full_base full_code 3 full_entry (omega arith) (refl, (refl, (refl, tt)));
        quiet = refl;
        output = refl;
        exits = exit-stops full_base full_code 3 full_entry (omega arith) (refl, (refl, (refl, tt)));
        reached = refl;
        ends = inr (refl, inl (inl (omega (arith, over))));
        paid = omega (arith, sized.ample);
      })

  follows-full : CodeFollows full_base full_code (performances full_setting) full_entry
  unfolding full_entry full_first
  follows-full = record {
    depth = depth;
    IsAt = AtOnce;
    turn = λ rank state c at reached. inr (subst (λ z. Stops full_base full_code (performances full_setting) depth AtOnce z c) (sym at.0) (subst (λ z. Stops full_base full_code (performances full_setting) depth AtOnce full_entry z) (sym at.1) stops));
    rank = 0;
    first = 0;
    state = full_entry;
    initial = full_first;
    runs = refl;
    quiet = refl;
    output = refl;
    related = (refl, refl);
    reached = refl;
    paid = omega arith;
  }

  pub full-shows : All (λ i. is_encodable i ≡ true) full_code → (m : ℕ) → Shows x input m (run m (started (compiled_image (code_bytes full_code) x.stack x.units) input))
  unfolding full_entry
  full-shows encodable m = follows-shows x fs full_items sized input bytes encodable follows-full m
