-- The action that a graph stands for, for its meaning: its yielders become trees, and its nodes are grouped.
use Rattle.std.specs.Prelude.{ℕ, zero, suc, ◌-◌, List, [], ◌∷◌, Option, Some, None, map, slice_get}
use Rattle.action_terms.specs.Information.{Token}
use Rattle.action_terms.specs.Actions.{Sum, Difference, Product, Quotient, Remainder, Is, Less, BothOf, EitherOf, Negation, Not, NumberLiteral, TruthLiteral, Given, GivenAt, BoundTo, StoredIn, OnTwo, OnOne, ClosureOf, Item, Single, Them, And, Moreover, AndThen, Then, Hence, Before, Complete, Failing, Escape, Commit, Regive, Rebind, Give, EscapeWith, Check, Bind, BindRec, Store, Allocate, Receive, Send, Node, Simple, Enact, Apply, Unfolding, Unfold, Furthermore, Both, Phases, Either, Trapping, Branch, Stray, Action}
use Rattle.action_terms.specs.Numbering.{ListedNode, ListedYielder, Listed}
use Rattle.action_terms.specs.declared.kinds.Kind.{Kind}
use Rattle.action_terms.specs.declared.kinds.Kind.TheVariants as kind
use Rattle.action_terms.specs.declared.kinds.YKind.{YKind}
use Rattle.action_terms.specs.declared.kinds.YKind.TheVariants as ykind

-- the yielder of a kind, its token, its closure's body and its arguments; the last row is for what no graph has
abbrev pub item_of : YKind → Token → ℕ → List Item → Item
item_of (ykind.Number n) t c args = Single (NumberLiteral n)
item_of (ykind.Truth b) t c args = Single (TruthLiteral b)
item_of ykind.Them t c args = Them
item_of (ykind.Given s zero) t c args = Single (Given s)
item_of (ykind.Given s (suc n)) t c args = Single (GivenAt s (suc n))
item_of (ykind.Bound s) t c args = Single (BoundTo s t)
item_of (ykind.Stored s) t c (Single y ∷ []) = Single (StoredIn s y)
item_of ykind.Sum t c (Single y1 ∷ Single y2 ∷ []) = Single (OnTwo Sum y1 y2)
item_of ykind.Difference t c (Single y1 ∷ Single y2 ∷ []) = Single (OnTwo Difference y1 y2)
item_of ykind.Product t c (Single y1 ∷ Single y2 ∷ []) = Single (OnTwo Product y1 y2)
item_of ykind.Quotient t c (Single y1 ∷ Single y2 ∷ []) = Single (OnTwo Quotient y1 y2)
item_of ykind.Remainder t c (Single y1 ∷ Single y2 ∷ []) = Single (OnTwo Remainder y1 y2)
item_of ykind.Negation t c (Single y ∷ []) = Single (OnOne Negation y)
item_of ykind.Is t c (Single y1 ∷ Single y2 ∷ []) = Single (OnTwo Is y1 y2)
item_of ykind.Less t c (Single y1 ∷ Single y2 ∷ []) = Single (OnTwo Less y1 y2)
item_of ykind.Not t c (Single y ∷ []) = Single (OnOne Not y)
item_of ykind.Both t c (Single y1 ∷ Single y2 ∷ []) = Single (OnTwo BothOf y1 y2)
item_of ykind.Either t c (Single y1 ∷ Single y2 ∷ []) = Single (OnTwo EitherOf y1 y2)
item_of ykind.Closure t c args = Single (ClosureOf c)
item_of _ t c args = Them

abbrev pub item_or_them : Option Item → Item
item_or_them (Some i) = i
item_or_them None = Them

-- the items of these numbers, among those from number y on
abbrev pub picked : (y : ℕ) → List Item → List ℕ → List Item
picked y items [] = []
picked y items (n ∷ numbers) = item_or_them (slice_get items (n - y)) ∷ picked y items numbers

-- the yielders from number y on, with their arguments: these have greater numbers
abbrev pub items_from : (y : ℕ) → List ListedYielder → List Item
items_from y [] = []
items_from y (l ∷ ls) =
    let later = items_from (suc y) ls in
    item_of l.kind l.token l.body (picked (suc y) later l.children) ∷ later

-- the node of a kind, its token, its body, its parts and its operands; the last row is for what no graph has
abbrev pub node_of : Kind → Token → ℕ → List ℕ → List (List Item) → Node
node_of kind.Complete t c parts os = Simple Complete
node_of kind.Fail t c parts os = Simple Failing
node_of kind.Escape t c parts os = Simple Escape
node_of kind.Commit t c parts os = Simple Commit
node_of kind.Regive t c parts os = Simple Regive
node_of kind.Rebind t c parts os = Simple Rebind
node_of kind.Give t c parts (is ∷ []) = Simple (Give is)
node_of kind.EscapeWith t c parts (is ∷ []) = Simple (EscapeWith is)
node_of kind.Check t c parts ((Single y ∷ []) ∷ []) = Simple (Check y)
node_of kind.Bind t c parts ((Single y ∷ []) ∷ []) = Simple (Bind t y)
node_of kind.BindRec t c parts ((Single (ClosureOf k) ∷ []) ∷ []) = Simple (BindRec t k)
node_of kind.Store t c parts ((Single y1 ∷ []) ∷ (Single y2 ∷ []) ∷ []) = Simple (Store y1 y2)
node_of kind.Allocate t c parts os = Simple Allocate
node_of kind.Send t c parts ((Single y ∷ []) ∷ []) = Simple (Send y)
node_of kind.Receive t c parts os = Simple Receive
node_of kind.Enact t c parts ((Single y ∷ []) ∷ []) = Enact y
node_of kind.Apply t c parts ((Single y ∷ []) ∷ is ∷ []) = Apply y is
node_of kind.Unfold t c parts os = Unfold c
node_of kind.Unfolding t c parts os = Unfolding c
node_of kind.Furthermore t c (l ∷ []) os = Furthermore l
node_of kind.Or t c (l ∷ r ∷ []) os = Either l r
node_of kind.And t c (l ∷ r ∷ []) os = Both And l r
node_of kind.AndThen t c (l ∷ r ∷ []) os = Phases AndThen l r
node_of kind.Then t c (l ∷ r ∷ []) os = Phases Then l r
node_of kind.Trap t c (l ∷ r ∷ []) os = Trapping l r
node_of kind.Hence t c (l ∷ r ∷ []) os = Phases Hence l r
node_of kind.Moreover t c (l ∷ r ∷ []) os = Both Moreover l r
node_of kind.Before t c (l ∷ r ∷ []) os = Phases Before l r
node_of kind.Branch t c (l ∷ r ∷ []) ((Single y ∷ []) ∷ []) = Branch y l r
node_of _ t c parts os = Stray

-- a listed node, with the yielders of the graph by number
abbrev pub node_with : List Item → ListedNode → Node
node_with items n = node_of n.kind n.token n.body n.children (map (picked 0 items) n.operands)

-- the action of a graph
abbrev pub action_of : Listed → Action
action_of g = let items = items_from 0 g.yielders in map (node_with items) g.nodes
