-- Where the machine stands as the code follows a performance: the rest points, and what is asked of the code and its places.
use Rattle.std.proofs.Common.{◌≡◌, ◌⊎◌, ℕ, ◌+◌, ◌*◌, ◌%◌, ◌^◌, ◌<◌, ◌≤◌, List, [], ◌∷◌, length, get_or, refl, sym, ◌∙◌, subst, arith}
use Rattle.rv_asm.specs.Assembly.{address_of, total}
use Rattle.rv_asm.specs.Conventions.{region_register, frame_register}
use Rattle.rv_asm.specs.DataWords.{Heap}
use Rattle.rv_asm.specs.WordMachine.{WordState}
use Rattle.rv_asm.proofs.Labels.{spot_le-total}
use Rattle.rv_asm.proofs.Moments.{Advances, Stops}
use Rattle.action_terms.specs.Information.{Binds, Data, Storage, World}
use Rattle.action_terms.specs.Actions.{Join, Chain, AndThen, Then, Hence, Before, Both, Phases, Trapping, Node, node_at}
use Rattle.action_terms.specs.Acting.{Done, Esc, Fail, Tree, Run, Ended}
use Rattle.action_terms.specs.Need.{units, node_yielder_count}
use Rattle.action_terms.specs.Performances.{OneOf, messages_bytes}
use Rattle.action_terms.specs.Steps.{Step, run_steps, open_steps}
use Rattle.action_terms.specs.Frames.{Frame, plug, wrap}
use Rattle.action_terms.proofs.Parts.{Reaches}
use Rattle.frame_layout.specs.Layouts.{IsIn}
use Rattle.rv_prelude.specs.Region.{Chains}
use Rattle.rv_codegen.proofs.AliasWords.{IsOnce}
use Rattle.rv_codegen.proofs.Around.{IsPlaced, InOrder, JoinsData, Shares, HandsOver, Given, Receives, Leaves, BindsLeft, Around}
use Rattle.rv_codegen.proofs.BindTables.{ChainBinds, JoinBinds}
use Rattle.rv_codegen.proofs.Configurations.{Configuration, depth, performances}
use Rattle.rv_codegen.proofs.Holding.{Holds, in_row}
use Rattle.rv_codegen.proofs.InputLeft.{Left}
use Rattle.rv_codegen.proofs.NodeParts.{IsNode, IsPartOf, IsTreeOf}
use Rattle.rv_codegen.proofs.Settings.{Point, Went, Setting, code, point, start, exit, failure, escape, frame_words}
use Rattle.rv_codegen.proofs.Suited.{SuitsAt}
use Rattle.rv_codegen.proofs.Units.{Units, units-kept}

module _ (s : Setting) where
  -- the registers of the region and of the frame that begins at word f, and the words of the region
  pub record Stands (state : WordState) (words : List ℕ) (f : ℕ) : Type 0 where
    pub region : state.registers region_register ≡ s.base
    pub frame_at : state.registers frame_register ≡ s.base + 8 * f
    pub words_are : state.words ≡ words

  -- the size of the region, and the chains at its front
  pub record Region (words : List ℕ) (c : Chains) : Type 0 where
    pub size : length words ≡ s.count
    pub alternative : get_or words 1 0 ≡ c.alternative
    pub trap : get_or words 2 0 ≡ c.trap
    pub mark : get_or words 3 0 ≡ c.mark

  -- node k is to be performed within frames, or was
  pub record Stays (steps : List Step) (cells : Storage) (state : WordState) (fs : List Frame) (k : ℕ) : Type 0 where
    pub f : ℕ
    pub chains : Chains
    pub heap : Heap
    pub words : List ℕ
    pub stands : Stands state words f
    pub region : Region words chains
    -- the frame lies below the units
    pub clear : f + frame_words s k ≤ 512 + s.stack
    pub units_are : Units s heap words steps cells
    pub around : Around s heap words fs f k chains
    pub node : IsNode (node_at s.action k)

  -- node k is to be performed, at its start
  pub record RunsAt (steps : List Step) (cells : Storage) (rank : ℕ) (state : WordState) (fs : List Frame) (k : ℕ) (d : Data) (b : Binds) : Type 0 where
    pub here : Stays steps cells state fs k
    pub at : state.pc ≡ address_of (start s k).place
    pub rank_is : rank ≡ (start s k).rank
    pub given : Given s here.heap here.words here.f k d
    pub receives : Receives s here.heap here.words here.f k b

  -- node k has completed, at its exit
  pub record DoneAt (steps : List Step) (cells : Storage) (rank : ℕ) (state : WordState) (fs : List Frame) (d : Data) (b : Binds) : Type 0 where
    pub k : ℕ
    pub here : Stays steps cells state fs k
    pub at : state.pc ≡ address_of (exit s k).place
    pub rank_is : rank ≡ (exit s k).rank
    pub leaves : Leaves s here.heap here.words here.f k d
    pub binds : BindsLeft s here.heap here.words here.f k b
    pub fits : s.Ends k d b

  -- node k has failed, at the entry for failures
  pub record FailsAt (steps : List Step) (cells : Storage) (rank : ℕ) (state : WordState) (fs : List Frame) : Type 0 where
    pub k : ℕ
    pub here : Stays steps cells state fs k
    pub at : state.pc ≡ address_of (failure s).place
    pub rank_is : rank ≡ (failure s).rank

  -- n words in a row of the frame of node k, from an offset on: a handler around the node may copy them to its own words, the first one first, and none is written over before it is read
  pub record MayBeCaught (k offset n : ℕ) : Type 0 where
    pub inside : offset + n ≤ frame_words s k
    pub read : (m l r : ℕ) → node_at s.action m ≡ Trapping l r → IsIn s.action l k → (get_or (s.places.given r) 0 0 ≤ offset) ⊎ (offset + n ≤ get_or (s.places.given r) 0 0)

  -- node k has escaped with data, at the entry for escapes: register 10 has the address of the data, which stand in a row
  pub record EscapesAt (steps : List Step) (cells : Storage) (rank : ℕ) (state : WordState) (fs : List Frame) (d : Data) : Type 0 where
    pub k : ℕ
    pub here : Stays steps cells state fs k
    pub at : state.pc ≡ address_of (escape s).place
    pub rank_is : rank ≡ (escape s).rank
    -- the offset of the first word, in the frame of the node
    pub offset : ℕ
    pub source_at : state.registers 10 ≡ s.base + 8 * (here.f + offset)
    pub held : Holds s.base here.heap here.words (here.f + offset) (in_row 0 (length d)) d
    pub caught : MayBeCaught k offset (length d)

  abbrev pub RestsAt : List Step → Storage → (rank : ℕ) → WordState → List Frame → Tree → Type 0
  RestsAt steps cells rank state fs (Run k d b) = RunsAt steps cells rank state fs k d b
  RestsAt steps cells rank state fs (Ended (Done d b)) = DoneAt steps cells rank state fs d b
  RestsAt steps cells rank state fs (Ended Fail) = FailsAt steps cells rank state fs
  RestsAt steps cells rank state fs (Ended (Esc d)) = EscapesAt steps cells rank state fs d
  RestsAt steps cells rank state fs _ = ⊥

  pub record IsAt (rank : ℕ) (state : WordState) (c : Configuration) : Type 0 where
    pub rests : RestsAt c.steps c.world.cells rank state c.frames c.focus
    pub shown : state.output ≡ messages_bytes c.world.output
    -- the integers that are left of the input
    pub left : Left state.input c.world.input

  -- from there a stretch of code leads to another rest point, or to an exit
  abbrev pub GoesOn : (rank : ℕ) → WordState → Configuration → Type 0
  GoesOn rank state c = Advances s.base (code s) (performances s) depth IsAt rank state c ⊎ Stops s.base (code s) (performances s) depth IsAt state c

  -- ---- what is asked of the code and its places

  -- where the parts of a node find and leave data
  abbrev pub PhasePlaces : Chain → (n l r : ℕ) → Type 0
  PhasePlaces AndThen n l r = Shares s n l r
  PhasePlaces Then n l r = HandsOver s n l r
  PhasePlaces Hence n l r = Shares s n l r
  PhasePlaces Before n l r = Shares s n l r

  -- a node with two parts in order
  pub record LaidPhases (q : Chain) (n l r : ℕ) : Type 0 where
    pub order : InOrder s n l r
    pub left_given : s.places.given l ≡ s.places.given n
    pub left_bound : s.places.bound l ≡ s.places.bound n
    pub places : PhasePlaces q n l r
    pub binds : ChainBinds s.places.bound s.places.bound_out s.places.BindsAt q n l r

  -- a node with two parts in either order: the code performs one of them first
  pub record LaidBoth (j : Join) (n l r : ℕ) : Type 0 where
    pub order : InOrder s n l r ⊎ InOrder s n r l
    pub left_given : s.places.given l ≡ s.places.given n
    pub right_given : s.places.given r ≡ s.places.given n
    pub left_bound : s.places.bound l ≡ s.places.bound n
    pub right_bound : s.places.bound r ≡ s.places.bound n
    pub joins : JoinsData s n l r
    pub binds : JoinBinds s.places.bound s.places.bound_out s.places.BindsAt j n l r

  -- the words of data, and what the sorts tell of what nodes are given and leave
  pub record DataLaid : Type 0 where
    pub reached : (k : ℕ) → IsNode (node_at s.action k) → frame_words s k ≤ 33554432
    pub given_within : (k x : ℕ) → IsNode (node_at s.action k) → OneOf x (s.places.given k) → x < frame_words s k
    pub out_within : (k x : ℕ) → IsNode (node_at s.action k) → OneOf x (s.places.out k) → x < frame_words s k
    pub apart : (k x : ℕ) → IsNode (node_at s.action k) → OneOf x (s.places.given k) → OneOf x (s.places.out k) → ⊥
    pub once : (k : ℕ) → IsNode (node_at s.action k) → IsOnce (s.places.out k)
    pub few : (k : ℕ) → IsNode (node_at s.action k) → length (s.places.out k) ≤ s.widest
    pub written : (k x : ℕ) → OneOf x (s.places.out k) → s.places.Writes k x
    -- what a node is given stands in a row
    pub row : (k : ℕ) → s.places.given k ≡ in_row (get_or (s.places.given k) 0 0) (length (s.places.given k))
    pub caught : (k : ℕ) → IsNode (node_at s.action k) → MayBeCaught k (get_or (s.places.given k) 0 0) (length (s.places.given k))
    -- no bindings are left
    pub unbound : (k : ℕ) → s.places.bound_out k ≡ []
    -- what the code of a node counts on, with the words of what it escapes with
    pub suits : (steps : List Step) (fs : List Frame) (k : ℕ) (d : Data) (b : Binds) (w : World) → IsNode (node_at s.action k) → Reaches s.action s.input steps (plug fs (Run k d b)) w → SuitsAt s.action s.places.out s.places.escaped k d b w
    -- a node completes as the sorts let it, and so with as many data as it has words for them
    pub fits : (steps : List Step) (fs : List Frame) (n : ℕ) (t : Tree) (w : World) (m : Step) (e : Data) (u : Binds) → IsNode (node_at s.action n) → IsTreeOf n t → Reaches s.action s.input steps (plug fs t) w → OneOf m (open_steps s.action w t) → m.tree ≡ Ended (Done e u) → s.Ends n e u
    pub fills : (n : ℕ) (e : Data) (u : Binds) → IsNode (node_at s.action n) → s.Ends n e u → length e ≡ length (s.places.out n)

  pub record Laid : Type 0 where
    pub placed : IsPlaced s
    pub data_laid : DataLaid
    pub part_node : (n k : ℕ) → IsPartOf (node_at s.action n) k → IsNode (node_at s.action k)
    pub same_frame : (n k : ℕ) → IsPartOf (node_at s.action n) k → frame_words s k ≡ frame_words s n
    -- the words of frames are within what procedures need
    pub main_within : frame_words s 0 ≤ s.sizes.main_slots
    pub body_within : (n c : ℕ) → s.procedures.calls n c → frame_words s c ≤ s.sizes.slots c
    pub phases : (n l r : ℕ) (q : Chain) → node_at s.action n ≡ Phases q l r → LaidPhases q n l r
    pub both : (n l r : ℕ) (j : Join) → node_at s.action n ≡ Both j l r → LaidBoth j n l r
    -- the code is one that the machine can hold, and the factor covers the code of each node, with lists
    pub small : total s.items < 2 ^ 28
    pub paid : (k n : ℕ) → n ≤ s.widest → 400 + 24 * (n + 1) * (node_yielder_count (node_at s.action k) + 1) ≤ s.factor
    -- the region has a front, with words behind it, which ends with the units
    pub aligned : s.base % 8 ≡ 0
    pub below : s.base + 8 * s.count ≤ 2 ^ 32
    pub some : 512 < s.count
    pub units_inside : 512 + s.stack + 2 * s.room ≤ s.count

  pub near : Laid → (l : ℕ) → (point s l).place < 2 ^ 28
  near laid l = omega (arith, spot_le-total s.items l, laid.small)

  -- ---- a point of a performance

  -- node k is to be performed
  pub record Starting : Type 0 where
    pub steps : List Step
    pub frames : List Frame
    pub k : ℕ
    pub d : Data
    pub b : Binds
    pub world : World
    pub state : WordState
    pub shown : state.output ≡ messages_bytes world.output
    pub left : Left state.input world.input
    pub runs : RunsAt steps world.cells (start s k).rank state frames k d b
    pub reached : Reaches s.action s.input steps (plug frames (Run k d b)) world

  abbrev pub starts : Starting → Configuration
  starts x = record { steps = x.steps; frames = x.frames; focus = Run x.k x.d x.b; world = x.world }

  -- from there the code goes on
  abbrev pub StartGoesOn : Starting → Type 0
  StartGoesOn x = GoesOn (start s x.k).rank x.state (starts x)

  -- a part within a frame has completed
  pub record Completing (frame : Frame) : Type 0 where
    pub steps : List Step
    pub frames : List Frame
    pub d : Data
    pub b : Binds
    pub world : World
    pub rank : ℕ
    pub state : WordState
    pub shown : state.output ≡ messages_bytes world.output
    pub left : Left state.input world.input
    pub done : DoneAt steps world.cells rank state (frame ∷ frames) d b
    pub reached : Reaches s.action s.input steps (plug frames (wrap frame (Ended (Done d b)))) world

  abbrev pub completes : (frame : Frame) → Completing frame → Configuration
  completes frame x = record { steps = x.steps; frames = frame ∷ x.frames; focus = Ended (Done x.d x.b); world = x.world }

  abbrev pub EndGoesOn : (frame : Frame) → Completing frame → Type 0
  EndGoesOn frame x = GoesOn x.rank x.state (completes frame x)

  -- ---- what every turn uses

  -- a step of a node, by what the node is
  pub open-run : (k : ℕ) (d : Data) (b : Binds) (w : World) (n : Node) (x : Step) → node_at s.action k ≡ n → OneOf x (run_steps n k d b w) → OneOf x (open_steps s.action w (Run k d b))
  open-run k d b w n x e h = subst (λ n'. OneOf x (run_steps n' k d b w)) (sym e) h

  pub went-stands : (state : WordState) (from to : Point) (words : List ℕ) (f : ℕ) (g : Went s.base (code s) state from to) → Stands state words f → Stands g.end words f
  went-stands state from to words f g h = record { region = g.others 3 (omega arith) ∙ h.region; frame_at = g.others 2 (omega arith) ∙ h.frame_at; words_are = g.words ∙ h.words_are }

  -- behind a way another node stays where this one did
  abbrev pub moved-here : (steps steps' : List Step) (cells : Storage) (state : WordState) (from to : Point) (fs fs' : List Frame) (k k' : ℕ) (g : Went s.base (code s) state from to) (h : Stays steps cells state fs k) → units s.sizes steps ≤ units s.sizes steps' → frame_words s k' ≡ frame_words s k → IsNode (node_at s.action k') → Around s h.heap h.words fs' h.f k' h.chains → Stays steps' cells g.end fs' k'
  moved-here steps steps' cells state from to fs fs' k k' g h more same node around = record {
    f = h.f;
    chains = h.chains;
    heap = h.heap;
    words = h.words;
    stands = went-stands state from to h.words h.f g h.stands;
    region = h.region;
    clear = omega (arith, h.clear, same);
    units_are = units-kept s h.heap h.words h.words steps steps' cells (λ j out. refl) more h.units_are;
    around = around;
    node = node;
  }
