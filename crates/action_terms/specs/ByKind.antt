-- What code that reads a node by its kind finds in the lists of the node.
use Rattle.std.specs.Prelude.{◌≡◌, ℕ, zero, suc, ◌<◌, Bool, true, false, List, [], ◌∷◌, length, Option, Some, None, slice_get, slice_index}
use Rattle.action_terms.specs.Actions.{Two, Sum, Difference, Product, Quotient, Remainder, Is, Less, BothOf, EitherOf, Negation, Not, Yielder, NumberLiteral, TruthLiteral, Given, GivenAt, BoundTo, StoredIn, OnTwo, OnOne, ClosureOf, Item, Single, Them, And, Moreover, AndThen, Then, Hence, Before, Complete, Failing, Escape, Commit, Regive, Rebind, Give, EscapeWith, Check, Bind, BindRec, Store, Allocate, Receive, Send, Node, Simple, Enact, Apply, Unfolding, Unfold, Furthermore, Both, Phases, Either, Trapping, Branch, node_at}
use Rattle.action_terms.specs.Numbering.{ListedNode, ListedYielder, Listed}
use Rattle.action_terms.specs.Meaning.{action_of}
use Rattle.action_terms.specs.Forms.{item_at, items_at, yielder_at, IsDatum, AreItems, AreParts, IsArgument}
use Rattle.action_terms.specs.declared.kinds.Kind.{Kind}
use Rattle.action_terms.specs.declared.kinds.Kind.TheVariants as kind
use Rattle.action_terms.specs.declared.kinds.YKind.{YKind}
use Rattle.action_terms.specs.declared.kinds.YKind.TheVariants as ykind

abbrev pub or_no_numbers : Option (List ℕ) → List ℕ
or_no_numbers (Some numbers) = numbers
or_no_numbers None = []

abbrev pub or_no_body : Option ListedYielder → ℕ
or_no_body (Some l) = l.body
or_no_body None = 0

-- the numbers of the items of an operand, the first of them, the number of a part, and the body of a yielder
abbrev pub operand_at : ListedNode → ℕ → List ℕ
operand_at n i = or_no_numbers (slice_get n.operands i)

abbrev pub number_at : ListedNode → ℕ → ℕ
number_at n i = slice_index (operand_at n i) 0

abbrev pub part_at : ListedNode → ℕ → ℕ
part_at n i = slice_index n.children i

abbrev pub body_at : List ListedYielder → ℕ → ℕ
body_at ls y = or_no_body (slice_get ls y)

-- the operand of this place has one item
abbrev pub HasOne : ListedNode → ℕ → Type 0
HasOne n i = (y : ℕ) × (slice_get n.operands i ≡ Some (y ∷ []))

-- the lists have what is read of a node of the kind
abbrev pub HasRead : Kind → ListedNode → Type 0
HasRead kind.Give n = 0 < length n.operands
HasRead kind.EscapeWith n = 0 < length n.operands
HasRead kind.Check n = HasOne n 0
HasRead kind.Bind n = HasOne n 0
HasRead kind.BindRec n = HasOne n 0
HasRead kind.Store n = HasOne n 0 × HasOne n 1
HasRead kind.Send n = HasOne n 0
HasRead kind.Enact n = HasOne n 0
HasRead kind.Apply n = HasOne n 0 × (1 < length n.operands)
HasRead kind.Furthermore n = 0 < length n.children
HasRead kind.Or n = 1 < length n.children
HasRead kind.And n = 1 < length n.children
HasRead kind.AndThen n = 1 < length n.children
HasRead kind.Then n = 1 < length n.children
HasRead kind.Trap n = 1 < length n.children
HasRead kind.Hence n = 1 < length n.children
HasRead kind.Moreover n = 1 < length n.children
HasRead kind.Before n = 1 < length n.children
HasRead kind.Branch n = (1 < length n.children) × HasOne n 0
HasRead _ n = Unit {0}

-- the node that is read
abbrev pub node_read : List ListedYielder → Kind → ListedNode → Node
node_read ls kind.Complete n = Simple Complete
node_read ls kind.Fail n = Simple Failing
node_read ls kind.Escape n = Simple Escape
node_read ls kind.Commit n = Simple Commit
node_read ls kind.Regive n = Simple Regive
node_read ls kind.Rebind n = Simple Rebind
node_read ls kind.Give n = Simple (Give (items_at ls (operand_at n 0)))
node_read ls kind.EscapeWith n = Simple (EscapeWith (items_at ls (operand_at n 0)))
node_read ls kind.Check n = Simple (Check (yielder_at ls (number_at n 0)))
node_read ls kind.Bind n = Simple (Bind n.token (yielder_at ls (number_at n 0)))
node_read ls kind.BindRec n = Simple (BindRec n.token (body_at ls (number_at n 0)))
node_read ls kind.Store n = Simple (Store (yielder_at ls (number_at n 0)) (yielder_at ls (number_at n 1)))
node_read ls kind.Allocate n = Simple Allocate
node_read ls kind.Receive n = Simple Receive
node_read ls kind.Send n = Simple (Send (yielder_at ls (number_at n 0)))
node_read ls kind.Enact n = Enact (yielder_at ls (number_at n 0))
node_read ls kind.Apply n = Apply (yielder_at ls (number_at n 0)) (items_at ls (operand_at n 1))
node_read ls kind.Unfold n = Unfold n.body
node_read ls kind.Unfolding n = Unfolding n.body
node_read ls kind.Furthermore n = Furthermore (part_at n 0)
node_read ls kind.Or n = Either (part_at n 0) (part_at n 1)
node_read ls kind.And n = Both And (part_at n 0) (part_at n 1)
node_read ls kind.AndThen n = Phases AndThen (part_at n 0) (part_at n 1)
node_read ls kind.Then n = Phases Then (part_at n 0) (part_at n 1)
node_read ls kind.Trap n = Trapping (part_at n 0) (part_at n 1)
node_read ls kind.Hence n = Phases Hence (part_at n 0) (part_at n 1)
node_read ls kind.Moreover n = Both Moreover (part_at n 0) (part_at n 1)
node_read ls kind.Before n = Phases Before (part_at n 0) (part_at n 1)
node_read ls kind.Branch n = Branch (yielder_at ls (number_at n 0)) (part_at n 0) (part_at n 1)

-- the operands that are read are yielders
abbrev pub OperandsRead : List ListedYielder → Kind → ListedNode → Type 0
OperandsRead ls kind.Give n = AreItems ls (operand_at n 0)
OperandsRead ls kind.EscapeWith n = AreItems ls (operand_at n 0)
OperandsRead ls kind.Check n = IsDatum ls (number_at n 0)
OperandsRead ls kind.Bind n = IsDatum ls (number_at n 0)
OperandsRead ls kind.BindRec n = IsDatum ls (number_at n 0)
OperandsRead ls kind.Store n = IsDatum ls (number_at n 0) × IsDatum ls (number_at n 1)
OperandsRead ls kind.Send n = IsDatum ls (number_at n 0)
OperandsRead ls kind.Enact n = IsDatum ls (number_at n 0)
OperandsRead ls kind.Apply n = IsDatum ls (number_at n 0) × AreItems ls (operand_at n 1)
OperandsRead ls kind.Branch n = IsDatum ls (number_at n 0)
OperandsRead ls _ n = Unit {0}

-- the parts of node k that are read are nodes behind it, and its body is a node
abbrev pub NamesRead : (k : ℕ) → Listed → Kind → ListedNode → Type 0
NamesRead k g kind.BindRec n = body_at g.yielders (number_at n 0) < length g.nodes
NamesRead k g kind.Unfold n = n.body < length g.nodes
NamesRead k g kind.Unfolding n = n.body < length g.nodes
NamesRead k g kind.Furthermore n = (k < part_at n 0) × (part_at n 0 < length g.nodes)
NamesRead k g kind.Or n = AreParts k (length g.nodes) (part_at n 0) (part_at n 1)
NamesRead k g kind.And n = AreParts k (length g.nodes) (part_at n 0) (part_at n 1)
NamesRead k g kind.AndThen n = AreParts k (length g.nodes) (part_at n 0) (part_at n 1)
NamesRead k g kind.Then n = AreParts k (length g.nodes) (part_at n 0) (part_at n 1)
NamesRead k g kind.Trap n = AreParts k (length g.nodes) (part_at n 0) (part_at n 1)
NamesRead k g kind.Hence n = AreParts k (length g.nodes) (part_at n 0) (part_at n 1)
NamesRead k g kind.Moreover n = AreParts k (length g.nodes) (part_at n 0) (part_at n 1)
NamesRead k g kind.Before n = AreParts k (length g.nodes) (part_at n 0) (part_at n 1)
NamesRead k g kind.Branch n = AreParts k (length g.nodes) (part_at n 0) (part_at n 1)
NamesRead k g _ n = Unit {0}

-- node k of the graph is listed so, and reading it by this kind tells what it is
pub record IsRead (g : Listed) (k : ℕ) (kd : Kind) (n : ListedNode) : Type 0 where
  pub has : HasRead kd n
  pub node : node_at (action_of g) k ≡ node_read g.yielders kd n
  pub operands : OperandsRead g.yielders kd n
  pub names : NamesRead k g kd n

-- the kinds of nodes that are done in one step
abbrev pub is_primitive : Kind → Bool
is_primitive kind.Enact = false
is_primitive kind.Apply = false
is_primitive kind.Unfold = false
is_primitive kind.Unfolding = false
is_primitive kind.Furthermore = false
is_primitive kind.Or = false
is_primitive kind.And = false
is_primitive kind.AndThen = false
is_primitive kind.Then = false
is_primitive kind.Trap = false
is_primitive kind.Hence = false
is_primitive kind.Moreover = false
is_primitive kind.Before = false
is_primitive kind.Branch = false
is_primitive _ = true

-- node k isn't done in one step
abbrev pub IsCompound : Listed → ℕ → Type 0
IsCompound g k = (n : ListedNode) → slice_get g.nodes k ≡ Some n → is_primitive n.kind ≡ false

-- ---- yielders

-- the number of an argument
abbrev pub argument_at : ListedYielder → ℕ → ℕ
argument_at l i = slice_index l.children i

-- the lists have what is read of a yielder of the kind
abbrev pub HasArgumentsRead : YKind → ListedYielder → Type 0
HasArgumentsRead (ykind.Number n) l = Unit {0}
HasArgumentsRead (ykind.Truth b) l = Unit {0}
HasArgumentsRead ykind.Them l = Unit {0}
HasArgumentsRead (ykind.Given s place) l = Unit {0}
HasArgumentsRead (ykind.Bound s) l = Unit {0}
HasArgumentsRead ykind.Closure l = Unit {0}
HasArgumentsRead (ykind.Stored s) l = 0 < length l.children
HasArgumentsRead ykind.Negation l = 0 < length l.children
HasArgumentsRead ykind.Not l = 0 < length l.children
HasArgumentsRead _ l = 1 < length l.children

-- the item that is read, of one argument or of two
abbrev pub one_read : List ListedYielder → (Yielder → Yielder) → ListedYielder → Item
one_read ls f l = Single (f (yielder_at ls (argument_at l 0)))

abbrev pub two_read : List ListedYielder → Two → ListedYielder → Item
two_read ls f l = Single (OnTwo f (yielder_at ls (argument_at l 0)) (yielder_at ls (argument_at l 1)))

abbrev pub item_read : List ListedYielder → YKind → ListedYielder → Item
item_read ls (ykind.Number n) l = Single (NumberLiteral n)
item_read ls (ykind.Truth b) l = Single (TruthLiteral b)
item_read ls ykind.Them l = Them
item_read ls (ykind.Given s zero) l = Single (Given s)
item_read ls (ykind.Given s (suc n)) l = Single (GivenAt s (suc n))
item_read ls (ykind.Bound s) l = Single (BoundTo s l.token)
item_read ls (ykind.Stored s) l = one_read ls (StoredIn s) l
item_read ls ykind.Sum l = two_read ls Sum l
item_read ls ykind.Difference l = two_read ls Difference l
item_read ls ykind.Product l = two_read ls Product l
item_read ls ykind.Quotient l = two_read ls Quotient l
item_read ls ykind.Remainder l = two_read ls Remainder l
item_read ls ykind.Negation l = one_read ls (OnOne Negation) l
item_read ls ykind.Is l = two_read ls Is l
item_read ls ykind.Less l = two_read ls Less l
item_read ls ykind.Not l = one_read ls (OnOne Not) l
item_read ls ykind.Both l = two_read ls BothOf l
item_read ls ykind.Either l = two_read ls EitherOf l
item_read ls ykind.Closure l = Single (ClosureOf l.body)

-- the arguments of yielder y that are read are yielders behind it
abbrev pub ArgumentsRead : List ListedYielder → ℕ → YKind → ListedYielder → Type 0
ArgumentsRead ls y (ykind.Number n) l = Unit {0}
ArgumentsRead ls y (ykind.Truth b) l = Unit {0}
ArgumentsRead ls y ykind.Them l = Unit {0}
ArgumentsRead ls y (ykind.Given s place) l = Unit {0}
ArgumentsRead ls y (ykind.Bound s) l = Unit {0}
ArgumentsRead ls y ykind.Closure l = Unit {0}
ArgumentsRead ls y (ykind.Stored s) l = IsArgument ls y (argument_at l 0)
ArgumentsRead ls y ykind.Negation l = IsArgument ls y (argument_at l 0)
ArgumentsRead ls y ykind.Not l = IsArgument ls y (argument_at l 0)
ArgumentsRead ls y _ l = IsArgument ls y (argument_at l 0) × IsArgument ls y (argument_at l 1)

-- yielder y of the graph is listed so, and reading it by this kind tells what it is
pub record IsYielderRead (g : Listed) (y : ℕ) (kd : YKind) (l : ListedYielder) : Type 0 where
  pub has : HasArgumentsRead kd l
  pub item : item_at g.yielders y ≡ item_read g.yielders kd l
  pub arguments : ArgumentsRead g.yielders y kd l
  pub body : l.body < length g.nodes
