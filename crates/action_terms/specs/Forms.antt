-- Nodes and yielders by their forms, as code reads them: what each stands for, and what its numbers are.
use Rattle.std.specs.Prelude.{◌≡◌, ℕ, ◌<◌, false, List, length, slice_get, All}
use Rattle.action_terms.specs.Actions.{Two, Sum, Difference, Product, Quotient, Remainder, Is, Less, BothOf, EitherOf, One, Negation, Not, Yielder, NumberLiteral, TruthLiteral, Given, GivenAt, BoundTo, StoredIn, OnTwo, OnOne, ClosureOf, Item, Single, Them, Join, And, Moreover, Chain, AndThen, Then, Hence, Before, Primitive, Complete, Failing, Escape, Commit, Regive, Rebind, Give, EscapeWith, Check, Bind, BindRec, Store, Allocate, Receive, Send, Node, Simple, Enact, Apply, Unfolding, Unfold, Furthermore, Both, Phases, Either, Trapping, Branch, node_at}
use Rattle.action_terms.specs.Numbering.{ListedYielder, Listed}
use Rattle.action_terms.specs.Meaning.{item_or_them, items_from, picked, action_of}
use Rattle.action_terms.specs.declared.view.Join.{Join as JoinView}
use Rattle.action_terms.specs.declared.view.Join.TheVariants as join
use Rattle.action_terms.specs.declared.view.Chain.{Chain as ChainView}
use Rattle.action_terms.specs.declared.view.Chain.TheVariants as chain
use Rattle.action_terms.specs.declared.view.PrimitiveView.{PrimitiveView}
use Rattle.action_terms.specs.declared.view.PrimitiveView.TheVariants as primitive
use Rattle.action_terms.specs.declared.view.NodeView.{NodeView}
use Rattle.action_terms.specs.declared.view.NodeView.TheVariants as node
use Rattle.action_terms.specs.declared.view.Two.{Two as TwoView}
use Rattle.action_terms.specs.declared.view.Two.TheVariants as two
use Rattle.action_terms.specs.declared.view.One.{One as OneView}
use Rattle.action_terms.specs.declared.view.One.TheVariants as one
use Rattle.action_terms.specs.declared.view.YielderView.{YielderView}
use Rattle.action_terms.specs.declared.view.YielderView.TheVariants as yielder

-- the item of number y, of these yielders
abbrev pub item_at : List ListedYielder → ℕ → Item
item_at ls y = item_or_them (slice_get (items_from 0 ls) y)

-- the items of these numbers
abbrev pub items_at : List ListedYielder → List ℕ → List Item
items_at ls numbers = picked 0 (items_from 0 ls) numbers

-- the yielder of an item; `them` has none, and no operand is one
abbrev pub yielder_in : Item → Yielder
yielder_in (Single y) = y
yielder_in Them = TruthLiteral false

-- the yielder of number y
abbrev pub yielder_at : List ListedYielder → ℕ → Yielder
yielder_at ls y = yielder_in (item_at ls y)

-- y is the number of a yielder of one datum
pub record IsDatum (ls : List ListedYielder) (y : ℕ) : Type 0 where
  pub within : y < length ls
  pub single : item_at ls y ≡ Single (yielder_at ls y)

-- these are numbers of yielders
abbrev pub AreItems : List ListedYielder → List ℕ → Type 0
AreItems ls numbers = All (λ y. y < length ls) numbers

-- ---- nodes

abbrev pub join_viewed : JoinView → Join
join_viewed join.And = And
join_viewed join.Moreover = Moreover

abbrev pub chain_viewed : ChainView → Chain
chain_viewed chain.AndThen = AndThen
chain_viewed chain.Then = Then
chain_viewed chain.Hence = Hence
chain_viewed chain.Before = Before

-- the primitive that a view stands for
abbrev pub primitive_viewed : List ListedYielder → PrimitiveView → Primitive
primitive_viewed ls primitive.Complete = Complete
primitive_viewed ls primitive.Failing = Failing
primitive_viewed ls primitive.Escape = Escape
primitive_viewed ls primitive.Commit = Commit
primitive_viewed ls primitive.Regive = Regive
primitive_viewed ls primitive.Rebind = Rebind
primitive_viewed ls (primitive.Give items) = Give (items_at ls items.now)
primitive_viewed ls (primitive.EscapeWith items) = EscapeWith (items_at ls items.now)
primitive_viewed ls (primitive.Check y) = Check (yielder_at ls y)
primitive_viewed ls (primitive.Bind t y) = Bind t.now (yielder_at ls y)
primitive_viewed ls (primitive.BindRec t c) = BindRec t.now c
primitive_viewed ls (primitive.Store y1 y2) = Store (yielder_at ls y1) (yielder_at ls y2)
primitive_viewed ls primitive.Allocate = Allocate
primitive_viewed ls primitive.Receive = Receive
primitive_viewed ls (primitive.Send y) = Send (yielder_at ls y)

-- the node that a view stands for
abbrev pub node_viewed : List ListedYielder → NodeView → Node
node_viewed ls (node.Simple p) = Simple (primitive_viewed ls p)
node_viewed ls (node.Enact y) = Enact (yielder_at ls y)
node_viewed ls (node.Apply y items) = Apply (yielder_at ls y) (items_at ls items.now)
node_viewed ls (node.Unfolding c) = Unfolding c
node_viewed ls (node.Unfold c) = Unfold c
node_viewed ls (node.Furthermore l) = Furthermore l
node_viewed ls (node.Both j l r) = Both (join_viewed j) l r
node_viewed ls (node.Phases q l r) = Phases (chain_viewed q) l r
node_viewed ls (node.Either l r) = Either l r
node_viewed ls (node.Trapping l r) = Trapping l r
node_viewed ls (node.Branch y l r) = Branch (yielder_at ls y) l r

-- the operands are yielders: those of one datum are no `them`
abbrev pub HasPrimitiveOperands : List ListedYielder → PrimitiveView → Type 0
HasPrimitiveOperands ls (primitive.Give items) = AreItems ls items.now
HasPrimitiveOperands ls (primitive.EscapeWith items) = AreItems ls items.now
HasPrimitiveOperands ls (primitive.Check y) = IsDatum ls y
HasPrimitiveOperands ls (primitive.Bind t y) = IsDatum ls y
HasPrimitiveOperands ls (primitive.Store y1 y2) = IsDatum ls y1 × IsDatum ls y2
HasPrimitiveOperands ls (primitive.Send y) = IsDatum ls y
HasPrimitiveOperands ls _ = Unit {0}

abbrev pub HasOperands : List ListedYielder → NodeView → Type 0
HasOperands ls (node.Simple p) = HasPrimitiveOperands ls p
HasOperands ls (node.Enact y) = IsDatum ls y
HasOperands ls (node.Apply y items) = IsDatum ls y × AreItems ls items.now
HasOperands ls (node.Branch y l r) = IsDatum ls y
HasOperands ls _ = Unit {0}

-- the parts of node k are nodes that follow it, the left one first
abbrev pub AreParts : (k count l r : ℕ) → Type 0
AreParts k count l r = (k < l) × (l < r) × (r < count)

-- so many nodes are there: parts and bodies are among them
abbrev pub NamesPrimitiveNodes : (count : ℕ) → PrimitiveView → Type 0
NamesPrimitiveNodes count (primitive.BindRec t c) = c < count
NamesPrimitiveNodes count _ = Unit {0}

abbrev pub NamesNodes : (k count : ℕ) → NodeView → Type 0
NamesNodes k count (node.Simple p) = NamesPrimitiveNodes count p
NamesNodes k count (node.Unfolding c) = c < count
NamesNodes k count (node.Unfold c) = c < count
NamesNodes k count (node.Furthermore l) = (k < l) × (l < count)
NamesNodes k count (node.Both j l r) = AreParts k count l r
NamesNodes k count (node.Phases q l r) = AreParts k count l r
NamesNodes k count (node.Either l r) = AreParts k count l r
NamesNodes k count (node.Trapping l r) = AreParts k count l r
NamesNodes k count (node.Branch y l r) = AreParts k count l r
NamesNodes k count _ = Unit {0}

-- ---- yielders

abbrev pub two_viewed : TwoView → Two
two_viewed two.Sum = Sum
two_viewed two.Difference = Difference
two_viewed two.Product = Product
two_viewed two.Quotient = Quotient
two_viewed two.Remainder = Remainder
two_viewed two.Is = Is
two_viewed two.Less = Less
two_viewed two.BothOf = BothOf
two_viewed two.EitherOf = EitherOf

abbrev pub one_viewed : OneView → One
one_viewed one.Negation = Negation
one_viewed one.Not = Not

-- the item that a view stands for
abbrev pub item_viewed : List ListedYielder → YielderView → Item
item_viewed ls (yielder.Number n) = Single (NumberLiteral n)
item_viewed ls (yielder.Truth b) = Single (TruthLiteral b)
item_viewed ls yielder.Them = Them
item_viewed ls (yielder.Given s) = Single (Given s)
item_viewed ls (yielder.GivenAt s place) = Single (GivenAt s place)
item_viewed ls (yielder.BoundTo s t) = Single (BoundTo s t.now)
item_viewed ls (yielder.StoredIn s y) = Single (StoredIn s (yielder_at ls y))
item_viewed ls (yielder.OnTwo f y1 y2) = Single (OnTwo (two_viewed f) (yielder_at ls y1) (yielder_at ls y2))
item_viewed ls (yielder.OnOne f y) = Single (OnOne (one_viewed f) (yielder_at ls y))
item_viewed ls (yielder.ClosureOf c) = Single (ClosureOf c)

-- x is the number of a yielder of one datum that follows number y
abbrev pub IsArgument : List ListedYielder → (y x : ℕ) → Type 0
IsArgument ls y x = (y < x) × IsDatum ls x

-- the arguments of yielder y are yielders that follow it
abbrev pub HasArguments : List ListedYielder → ℕ → YielderView → Type 0
HasArguments ls y (yielder.StoredIn s x) = IsArgument ls y x
HasArguments ls y (yielder.OnTwo f x1 x2) = IsArgument ls y x1 × IsArgument ls y x2
HasArguments ls y (yielder.OnOne f x) = IsArgument ls y x
HasArguments ls y _ = Unit {0}

-- the body of a closure is one of so many nodes
abbrev pub NamesBody : (count : ℕ) → YielderView → Type 0
NamesBody count (yielder.ClosureOf c) = c < count
NamesBody count _ = Unit {0}

-- ---- views of a graph

-- the view is that of node k of the graph
pub record IsNodeView (g : Listed) (k : ℕ) (v : NodeView) : Type 0 where
  pub node : node_at (action_of g) k ≡ node_viewed g.yielders v
  pub operands : HasOperands g.yielders v
  pub names : NamesNodes k (length g.nodes) v

-- the view is that of yielder y of the graph
pub record IsYielderView (g : Listed) (y : ℕ) (v : YielderView) : Type 0 where
  pub item : item_at g.yielders y ≡ item_viewed g.yielders v
  pub arguments : HasArguments g.yielders y v
  pub names : NamesBody (length g.nodes) v
