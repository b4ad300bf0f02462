-- The labels of nodes as their views show them.
use Rattle.std.specs.Prelude.{◌<◌, [], length}
use Rattle.action_terms.specs.Labels.{Label, ActionNode, YielderNode}
use Rattle.action_terms.specs.declared.kinds.Kind.{Kind}
use Rattle.action_terms.specs.declared.kinds.Kind.TheVariants as kind
use Rattle.action_terms.specs.declared.kinds.YKind.{YKind}
use Rattle.action_terms.specs.declared.kinds.YKind.TheVariants as ykind
use Rattle.action_terms.specs.declared.view.Join.{Join}
use Rattle.action_terms.specs.declared.view.Join.TheVariants as join
use Rattle.action_terms.specs.declared.view.Chain.{Chain}
use Rattle.action_terms.specs.declared.view.Chain.TheVariants as chain
use Rattle.action_terms.specs.declared.view.PrimitiveView.{PrimitiveView}
use Rattle.action_terms.specs.declared.view.PrimitiveView.TheVariants as primitive
use Rattle.action_terms.specs.declared.view.NodeView.{NodeView}
use Rattle.action_terms.specs.declared.view.NodeView.TheVariants as node
use Rattle.action_terms.specs.declared.view.Two.{Two}
use Rattle.action_terms.specs.declared.view.Two.TheVariants as two
use Rattle.action_terms.specs.declared.view.One.{One}
use Rattle.action_terms.specs.declared.view.One.TheVariants as one
use Rattle.action_terms.specs.declared.view.YielderView.{YielderView}
use Rattle.action_terms.specs.declared.view.YielderView.TheVariants as yielder

-- an action without data and token
abbrev plain : Kind → Label
plain k = ActionNode k 0 []

-- the kind of a node with two parts
abbrev pub join_kind : Join → Kind
join_kind join.And = kind.And
join_kind join.Moreover = kind.Moreover

-- the kind of a node with two parts in order
abbrev pub chain_kind : Chain → Kind
chain_kind chain.AndThen = kind.AndThen
chain_kind chain.Then = kind.Then
chain_kind chain.Hence = kind.Hence
chain_kind chain.Before = kind.Before

-- the label of a node that is done in one step
abbrev pub primitive_label : PrimitiveView → Label
primitive_label primitive.Complete = plain kind.Complete
primitive_label primitive.Failing = plain kind.Fail
primitive_label primitive.Escape = plain kind.Escape
primitive_label primitive.Commit = plain kind.Commit
primitive_label primitive.Regive = plain kind.Regive
primitive_label primitive.Rebind = plain kind.Rebind
primitive_label (primitive.Give items) = ActionNode kind.Give (length items.now) []
primitive_label (primitive.EscapeWith items) = ActionNode kind.EscapeWith (length items.now) []
primitive_label (primitive.Check y) = plain kind.Check
primitive_label (primitive.Bind t y) = ActionNode kind.Bind 0 t.now
primitive_label (primitive.BindRec t c) = ActionNode kind.BindRec 0 t.now
primitive_label (primitive.Store y1 y2) = plain kind.Store
primitive_label primitive.Allocate = plain kind.Allocate
primitive_label primitive.Receive = plain kind.Receive
primitive_label (primitive.Send y) = plain kind.Send

-- the label of a node
abbrev pub view_label : NodeView → Label
view_label (node.Simple p) = primitive_label p
view_label (node.Enact y) = plain kind.Enact
view_label (node.Apply y items) = ActionNode kind.Apply (length items.now) []
view_label (node.Unfolding c) = plain kind.Unfolding
view_label (node.Unfold c) = plain kind.Unfold
view_label (node.Furthermore l) = plain kind.Furthermore
view_label (node.Both j l r) = plain (join_kind j)
view_label (node.Phases q l r) = plain (chain_kind q)
view_label (node.Either l r) = plain kind.Or
view_label (node.Trapping l r) = plain kind.Trap
view_label (node.Branch y l r) = plain kind.Branch

-- the kind of an operation on two data, and on one
abbrev pub two_kind : Two → YKind
two_kind two.Sum = ykind.Sum
two_kind two.Difference = ykind.Difference
two_kind two.Product = ykind.Product
two_kind two.Quotient = ykind.Quotient
two_kind two.Remainder = ykind.Remainder
two_kind two.Is = ykind.Is
two_kind two.Less = ykind.Less
two_kind two.BothOf = ykind.Both
two_kind two.EitherOf = ykind.Either

abbrev pub one_kind : One → YKind
one_kind one.Negation = ykind.Negation
one_kind one.Not = ykind.Not

-- the label of a yielder
abbrev pub yielder_view_label : YielderView → Label
yielder_view_label (yielder.Number z) = YielderNode (ykind.Number z) []
yielder_view_label (yielder.Truth b) = YielderNode (ykind.Truth b) []
yielder_view_label yielder.Them = YielderNode ykind.Them []
yielder_view_label (yielder.Given s) = YielderNode (ykind.Given s 0) []
yielder_view_label (yielder.GivenAt s place) = YielderNode (ykind.Given s place) []
yielder_view_label (yielder.BoundTo s t) = YielderNode (ykind.Bound s) t.now
yielder_view_label (yielder.StoredIn s y) = YielderNode (ykind.Stored s) []
yielder_view_label (yielder.OnTwo f y1 y2) = YielderNode (two_kind f) []
yielder_view_label (yielder.OnOne f y) = YielderNode (one_kind f) []
yielder_view_label (yielder.ClosureOf c) = YielderNode ykind.Closure []

-- a place among the transients is counted from 1
abbrev pub HasPlace : YielderView → Type 0
HasPlace (yielder.GivenAt s place) = 0 < place
HasPlace _ = Unit {0}
