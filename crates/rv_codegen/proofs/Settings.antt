-- What the simulation of an action by its code is about: the code, and where data, bindings and records stand in frames.
use Rattle.std.proofs.Common.{◌≡◌, ◌⊎◌, ℕ, ◌+◌, ◌-◌, ◌*◌, ◌^◌, ◌<◌, ◌≤◌, ℤ, List, Option, length, get_or, refl, arith, inl, inr}
use Rattle.rv_code.specs.declared.instruction.Inst.{Inst}
use Rattle.rv_asm.specs.Assembly.{address_of, far_jump, spot, code_of}
use Rattle.rv_asm.specs.WordMachine.{WordState, Goes, Has, run_words}
use Rattle.rv_asm.specs.declared.item.Item.{Item}
use Rattle.rv_asm.proofs.Registers.{put-other}
use Rattle.action_terms.specs.Actions.{Action}
use Rattle.action_terms.specs.Information.{Token, Binds, Data}
use Rattle.action_terms.specs.Need.{Sizes}
use Rattle.rv_codegen.specs.Blocks.{NodeWords, fail_label, escape_label, joint_of, front_of, start_of, stop_of}
use Rattle.rv_codegen.proofs.Holding.{Slot, ApartSlots}
use Rattle.rv_prelude.proofs.Jumps.{jumped, jump-runs}

-- a place in the code: how many instructions stand before it, and its rank, which falls from one label to the next
pub record Point : Type 0 where
  pub place : ℕ
  pub rank : ℕ

-- a way from one place to another: a far jump, or none where the other is the same instruction
abbrev pub Way : List Inst → (from to : Point) → Type 0
Way code from to =
    ((from.place ≡ to.place) × (to.rank < from.rank)) ⊎ Has code (address_of from.place) (far_jump from.place to.place)

-- what a way leaves
pub record Went (base : ℕ) (code : List Inst) (c : WordState) (from to : Point) : Type 0 where
  pub count : ℕ
  pub few : count ≤ 2
  pub some : (0 < count) ⊎ (to.rank < from.rank)
  pub end : WordState
  pub runs : run_words base code count c ≡ Goes end
  pub at : end.pc ≡ address_of to.place
  pub others : (k : ℕ) → k < 31 → end.registers k ≡ c.registers k
  pub words : end.words ≡ c.words
  pub input : end.input ≡ c.input
  pub output : end.output ≡ c.output

pub way-runs : (base : ℕ) (code : List Inst) (c : WordState) (from to : Point) → from.place < 2 ^ 28 → to.place < 2 ^ 28 → c.pc ≡ address_of from.place → Way code from to → Went base code c from to
way-runs base code c from to a b at (inl same) = record {
  count = 0;
  few = omega arith;
  some = inr same.1;
  end = c;
  runs = refl;
  at = omega (arith, at, same.0);
  others = λ k lt. refl;
  words = refl;
  input = refl;
  output = refl;
}
way-runs base code c from to a b at (inr far) = record {
  count = 2;
  few = omega arith;
  some = inl (omega arith);
  end = jumped c from.place to.place;
  runs = jump-runs base code c from.place to.place a b at far;
  at = refl;
  others = λ k lt. put-other c.registers k 31 _ (omega arith);
  words = refl;
  input = refl;
  output = refl;
}

-- where data of nodes stand in a frame, in words from its first
pub record DataPlaces : Type 1 where
  -- the data that a node is given, and those that it leaves
  pub given : ℕ → List ℕ
  pub out : ℕ → List ℕ
  -- where it puts those that it escapes with
  pub escaped : ℕ → List ℕ
  -- the bindings that it receives, and those that it leaves
  pub bound : ℕ → List Slot
  pub bound_out : ℕ → List Slot
  -- the tokens that an end of the node may bind
  pub BindsAt : ℕ → Token → Type 0
  -- the words that may be written while the node is performed
  pub Writes : ℕ → ℕ → Type 0
  -- the record of an alternative or of a trap
  pub keep : ℕ → ℕ

-- the procedure of each node, by the root of its body, and the words of a procedure's frame
pub record Procedures : Type 1 where
  pub root_of : ℕ → ℕ
  pub words : ℕ → ℕ
  -- a node may call a body: by its number, or, for a closure, by the sorts
  pub calls : ℕ → ℕ → Type 0

-- what code knows of the body of a closure
pub record Bodies : Type 0 where
  -- where the words of captured tokens stand, from the first word of the closure's units on
  pub slots : ℕ → List Slot
  -- the address of the body's code, and the words of its frame
  pub entry : ℕ → ℕ
  pub words : ℕ → ℕ
  pub own : ℕ → Option Token
  pub inside : (c : ℕ) → ApartSlots (λ x. 2 + 2 * length (slots c) ≤ x) (slots c)

-- an action with its code, in a region of memory, for an input
pub record Setting : Type 1 where
  pub action : Action
  pub sizes : Sizes
  -- the words of the stack, and the units
  pub stack : ℕ
  pub room : ℕ
  pub input : List ℤ
  -- the instructions that a step may take, and the greatest length of data or bindings
  pub factor : ℕ
  pub ample : 400 ≤ factor
  pub widest : ℕ
  -- what the code is assembled from, the label where each node goes on, and a bound of labels
  pub items : List Item
  pub exits : List ℕ
  pub labels : ℕ
  pub places : DataPlaces
  pub procedures : Procedures
  pub bodies : Bodies
  -- what the sorts let a node complete with
  pub Ends : ℕ → Data → Binds → Type 0
  -- the address of the region, and its words
  pub base : ℕ
  pub count : ℕ

abbrev pub code : Setting → List Inst
code s = code_of s.items

-- where a label stands: ranks fall as labels ascend
abbrev pub point : Setting → ℕ → Point
point s l = record { place = spot s.items l; rank = s.labels - l }

-- where the handler of a node copies what it is given
abbrev pub joint : Setting → ℕ → Point
joint s k = point s (joint_of k)

abbrev pub front : Setting → ℕ → Point
front s k = point s (front_of k)

abbrev pub start : Setting → ℕ → Point
start s k = point s (start_of k)

abbrev pub stop : Setting → ℕ → Point
stop s k = point s (stop_of k)

-- where a node goes on
abbrev pub exit : Setting → ℕ → Point
exit s k = point s (get_or s.exits k 0)

-- the entry for failures
abbrev pub failure : Setting → Point
failure s = point s fail_label

-- the entry for escapes
abbrev pub escape : Setting → Point
escape s = point s escape_label

-- the words of the frame that the code of a node names
abbrev pub node_words : Setting → ℕ → NodeWords
node_words s k = record { given = s.places.given k; out = s.places.out k; escaped = s.places.escaped k; keep = s.places.keep k; frame = s.procedures.words (s.procedures.root_of k) }

-- the words of the frame in which a node is performed
abbrev pub frame_words : Setting → ℕ → ℕ
frame_words s k = s.procedures.words (s.procedures.root_of k)
