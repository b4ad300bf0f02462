-- The yielders of a node, and how one may yield nothing although all sorts are right.
use Rattle.std.specs.Prelude.{◌≡◌, ℕ, ℤ, List, [], ◌∷◌, Some, None, slice_get}
use Rattle.action_terms.specs.Information.{Number, CellOf, Binds, Data, Storage}
use Rattle.action_terms.specs.Actions.{Two, One, Yielder, StoredIn, OnTwo, OnOne, Item, Single, Them, Primitive, Give, EscapeWith, Check, Bind, Store, Send, Node, Simple, Enact, Apply, Branch}
use Rattle.action_terms.specs.Yielding.{on_two, on_one, yields}
use Rattle.action_terms.specs.declared.kinds.Sort.{Sort}

-- a yielder yields nothing since a cell is unset, or an operation on integers has no result: one that is out of range, or a divisor of zero
pub data Blocks (d : Data) (b : Binds) (cells : Storage) : Yielder → Type 0 where
  Unset : {s : Sort} {y : Yielder} {i : ℕ} → yields y d b cells ≡ Some (CellOf i) → slice_get cells i ≡ Some None → Blocks d b cells (StoredIn s y)
  CellBlocks : {s : Sort} {y : Yielder} → Blocks d b cells y → Blocks d b cells (StoredIn s y)
  FirstBlocks : {f : Two} {y1 y2 : Yielder} → Blocks d b cells y1 → Blocks d b cells (OnTwo f y1 y2)
  SecondBlocks : {f : Two} {y1 y2 : Yielder} → Blocks d b cells y2 → Blocks d b cells (OnTwo f y1 y2)
  ArgumentBlocks : {f : One} {y : Yielder} → Blocks d b cells y → Blocks d b cells (OnOne f y)
  OutOfRange : {f : Two} {y1 y2 : Yielder} {m n : ℤ} → yields y1 d b cells ≡ Some (Number m) → yields y2 d b cells ≡ Some (Number n) → on_two f (Number m) (Number n) ≡ None → Blocks d b cells (OnTwo f y1 y2)
  OutOfRangeOne : {f : One} {y : Yielder} {n : ℤ} → yields y d b cells ≡ Some (Number n) → on_one f (Number n) ≡ None → Blocks d b cells (OnOne f y)

-- the yielders among items
abbrev pub item_yielders : List Item → List Yielder
item_yielders [] = []
item_yielders (Single y ∷ is) = y ∷ item_yielders is
item_yielders (Them ∷ is) = item_yielders is

-- the yielders of a primitive
abbrev pub primitive_yielders : Primitive → List Yielder
primitive_yielders (Give is) = item_yielders is
primitive_yielders (EscapeWith is) = item_yielders is
primitive_yielders (Check y) = y ∷ []
primitive_yielders (Bind t y) = y ∷ []
primitive_yielders (Store y1 y2) = y1 ∷ y2 ∷ []
primitive_yielders (Send y) = y ∷ []
primitive_yielders _ = []

-- the yielders of a node, each with those in it
abbrev pub node_yielders : Node → List Yielder
node_yielders (Simple p) = primitive_yielders p
node_yielders (Enact y) = y ∷ []
node_yielders (Apply y is) = y ∷ item_yielders is
node_yielders (Branch y l r) = y ∷ []
node_yielders _ = []
