-- Actions, for their meaning: the list of their nodes, with parts and bodies by number. The root has number 0.
use Rattle.std.specs.Prelude.{ℕ, ℤ, Bool, List, Option, Some, None, slice_get}
use Rattle.action_terms.specs.Information.{Token}
use Rattle.action_terms.specs.declared.kinds.Sort.{Sort}

-- the operations on two data, and on one
pub data Two : Type 0 where
  Sum Difference Product Quotient Remainder Is Less BothOf EitherOf : Two

pub data One : Type 0 where
  Negation Not : One

-- what yields one datum; `GivenAt` counts the data from 1, and a closure has its body's root
pub data Yielder : Type 0 where
  NumberLiteral : (n : ℤ) → Yielder
  TruthLiteral : (b : Bool) → Yielder
  Given : (s : Sort) → Yielder
  GivenAt : (s : Sort) (place : ℕ) → Yielder
  BoundTo : (s : Sort) (t : Token) → Yielder
  StoredIn : (s : Sort) (y : Yielder) → Yielder
  OnTwo : (f : Two) (y1 y2 : Yielder) → Yielder
  OnOne : (f : One) (y : Yielder) → Yielder
  ClosureOf : (body : ℕ) → Yielder

-- an item of a tuple of data: one datum, or all that is given
pub data Item : Type 0 where
  Single : (y : Yielder) → Item
  Them : Item

-- `and` and `moreover`, whose parts are interleaved
pub data Join : Type 0 where
  And Moreover : Join

-- `and then`, `then`, `hence` and `before`, whose parts come one after the other
pub data Chain : Type 0 where
  AndThen Then Hence Before : Chain

-- the nodes that are done in one step
pub data Primitive : Type 0 where
  Complete Failing Escape Commit Regive Rebind : Primitive
  Give EscapeWith : (items : List Item) → Primitive
  Check : (y : Yielder) → Primitive
  Bind : (t : Token) (y : Yielder) → Primitive
  BindRec : (t : Token) (body : ℕ) → Primitive
  Store : (y1 y2 : Yielder) → Primitive
  Allocate Receive : Primitive
  Send : (y : Yielder) → Primitive

-- a node; l and r are its left and its right part, and `Stray` stands where no node is
pub data Node : Type 0 where
  Simple : (p : Primitive) → Node
  Enact : (y : Yielder) → Node
  Apply : (y : Yielder) (items : List Item) → Node
  Unfolding Unfold : (body : ℕ) → Node
  Furthermore : (l : ℕ) → Node
  Both : (j : Join) (l r : ℕ) → Node
  Phases : (q : Chain) (l r : ℕ) → Node
  Either Trapping : (l r : ℕ) → Node
  Branch : (y : Yielder) (l r : ℕ) → Node
  Stray : Node

-- an action
abbrev pub Action : Type 0
Action = List Node

abbrev pub node_or_stray : Option Node → Node
node_or_stray (Some n) = n
node_or_stray None = Stray

-- the node of number k
abbrev pub node_at : Action → ℕ → Node
node_at a k = node_or_stray (slice_get a k)
