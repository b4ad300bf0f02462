-- A view of a node shows what is printed of it.
use Rattle.std.proofs.Common.{◌≡◌, ℕ, zero, suc, true, false, ◌<◌, List, [], ◌∷◌, length, Some, refl, sym, ap, subst, ◌∙◌, arith}
use Rattle.std.specs.Prelude.{slice_get, slice_index_or}
use Rattle.action_terms.specs.Actions.{Sum, Difference, Product, Quotient, Remainder, Is, Less, BothOf, EitherOf, Negation, Not, NumberLiteral, TruthLiteral, Given, GivenAt, BoundTo, StoredIn, OnTwo, OnOne, ClosureOf, Two, One, Join, Chain, Primitive, Item, Single, Them, And, Moreover, AndThen, Then, Hence, Before, Complete, Failing, Escape, Commit, Regive, Rebind, Give, EscapeWith, Check, Bind, BindRec, Store, Allocate, Receive, Send, Node, Simple, Enact, Apply, Unfolding, Unfold, Furthermore, Both, Phases, Either, Trapping, Branch, Stray}
use Rattle.action_terms.specs.Labels.{Label, ActionNode, YielderNode}
use Rattle.action_terms.specs.Meaning.{picked}
use Rattle.action_terms.specs.Numbering.{Listed, ListedNode, ListedYielder, IsGraph}
use Rattle.action_terms.specs.Forms.{items_at, node_viewed, item_viewed, IsNodeView, IsYielderView}
use Rattle.action_terms.specs.ByKind.{operand_at, node_read, item_read}
use Rattle.action_terms.specs.declared.kinds.Kind.{Kind}
use Rattle.action_terms.specs.declared.kinds.Kind.TheVariants as kind
use Rattle.action_terms.specs.declared.kinds.YKind.{YKind}
use Rattle.action_terms.specs.declared.kinds.YKind.TheVariants as ykind
use Rattle.action_terms.specs.declared.view.Join.TheVariants as join
use Rattle.action_terms.specs.declared.view.Chain.TheVariants as chain
use Rattle.action_terms.specs.declared.view.PrimitiveView.{PrimitiveView}
use Rattle.action_terms.specs.declared.view.PrimitiveView.TheVariants as primitive
use Rattle.action_terms.specs.declared.view.NodeView.{NodeView}
use Rattle.action_terms.specs.declared.view.NodeView.TheVariants as node
use Rattle.action_terms.specs.declared.view.Two.TheVariants as two
use Rattle.action_terms.specs.declared.view.One.TheVariants as one
use Rattle.action_terms.specs.declared.view.YielderView.{YielderView}
use Rattle.action_terms.specs.declared.view.YielderView.TheVariants as yielder
use Rattle.action_terms.proofs.ReadGraphs.{is-read}
use Rattle.action_terms.proofs.ReadYielders.{yielder-read}
use Rattle.action_text.specs.declared.print_jobs.Side.{Side}
use Rattle.action_text.specs.Canonical.{IsReadableLabel}
use Rattle.action_text.specs.Printing.{action_due, shape_due, operand_length, items_in, node_label, yielder_label}
use Rattle.action_text.specs.ViewLabels.{primitive_label, view_label, yielder_view_label, HasPlace}

-- the kind of a node with two parts, as the meaning has it
abbrev join_shown : Join → Kind
join_shown And = kind.And
join_shown Moreover = kind.Moreover

abbrev chain_shown : Chain → Kind
chain_shown AndThen = kind.AndThen
chain_shown Then = kind.Then
chain_shown Hence = kind.Hence
chain_shown Before = kind.Before

abbrev primitive_shown : Primitive → Label
primitive_shown Complete = ActionNode kind.Complete 0 []
primitive_shown Failing = ActionNode kind.Fail 0 []
primitive_shown Escape = ActionNode kind.Escape 0 []
primitive_shown Commit = ActionNode kind.Commit 0 []
primitive_shown Regive = ActionNode kind.Regive 0 []
primitive_shown Rebind = ActionNode kind.Rebind 0 []
primitive_shown (Give is) = ActionNode kind.Give (length is) []
primitive_shown (EscapeWith is) = ActionNode kind.EscapeWith (length is) []
primitive_shown (Check y) = ActionNode kind.Check 0 []
primitive_shown (Bind t y) = ActionNode kind.Bind 0 t
primitive_shown (BindRec t c) = ActionNode kind.BindRec 0 t
primitive_shown (Store y1 y2) = ActionNode kind.Store 0 []
primitive_shown Allocate = ActionNode kind.Allocate 0 []
primitive_shown Receive = ActionNode kind.Receive 0 []
primitive_shown (Send y) = ActionNode kind.Send 0 []

-- the label of a node of the meaning
abbrev shown : Node → Label
shown (Simple p) = primitive_shown p
shown (Enact y) = ActionNode kind.Enact 0 []
shown (Apply y is) = ActionNode kind.Apply (length is) []
shown (Unfolding c) = ActionNode kind.Unfolding 0 []
shown (Unfold c) = ActionNode kind.Unfold 0 []
shown (Furthermore l) = ActionNode kind.Furthermore 0 []
shown (Both j l r) = ActionNode (join_shown j) 0 []
shown (Phases q l r) = ActionNode (chain_shown q) 0 []
shown (Either l r) = ActionNode kind.Or 0 []
shown (Trapping l r) = ActionNode kind.Trap 0 []
shown (Branch y l r) = ActionNode kind.Branch 0 []
shown Stray = ActionNode kind.Fail 0 []

length-picked : (items : List Item) (numbers : List ℕ) → length (picked 0 items numbers) ≡ length numbers
length-picked items [] = refl
length-picked items (n ∷ numbers) = ap suc (length-picked items numbers)

length-items : (ls : List ListedYielder) (numbers : List ℕ) → length (items_at ls numbers) ≡ length numbers
length-items ls numbers = length-picked _ numbers

primitive_shows : (ls : List ListedYielder) (p : PrimitiveView) → shown (node_viewed ls (node.Simple p)) ≡ primitive_label p
primitive_shows ls (primitive.Give items) = ap (λ n. ActionNode kind.Give n []) (length-items ls items.now)
primitive_shows ls (primitive.EscapeWith items) = ap (λ n. ActionNode kind.EscapeWith n []) (length-items ls items.now)
primitive_shows ls _ = refl

view_shows : (ls : List ListedYielder) (v : NodeView) → shown (node_viewed ls v) ≡ view_label v
view_shows ls (node.Simple p) = primitive_shows ls p
view_shows ls (node.Apply y items) = ap (λ n. ActionNode kind.Apply n []) (length-items ls items.now)
view_shows ls (node.Both join.And l r) = refl
view_shows ls (node.Both join.Moreover l r) = refl
view_shows ls (node.Phases chain.AndThen l r) = refl
view_shows ls (node.Phases chain.Then l r) = refl
view_shows ls (node.Phases chain.Hence l r) = refl
view_shows ls (node.Phases chain.Before l r) = refl
view_shows ls _ = refl

operand_there : (n : ListedNode) (i : ℕ) → length (operand_at n i) ≡ operand_length n.operands i
operand_there n i = go n.operands i
  where
    go : (os : List (List ℕ)) (i : ℕ) → length (Rattle.action_terms.specs.ByKind.or_no_numbers (slice_get os i)) ≡ length (slice_index_or os i [])
    go [] zero = refl
    go [] (suc i) = refl
    go (o ∷ os) zero = refl
    go (o ∷ os) (suc i) = go os i

-- what is printed of a node tells no more than its meaning
read_due : (ls : List ListedYielder) (s : Side) (k : Kind) (n : ListedNode) → action_due s (shown (node_read ls k n)) ≡ action_due s (ActionNode k (items_in k n.operands) n.token)
read_due ls s kind.Give n = ap (λ m. action_due s (ActionNode kind.Give m n.token)) (length-items ls (operand_at n 0) ∙ operand_there n 0)
read_due ls s kind.EscapeWith n = ap (λ m. action_due s (ActionNode kind.EscapeWith m n.token)) (length-items ls (operand_at n 0) ∙ operand_there n 0)
read_due ls s kind.Apply n = ap (λ m. action_due s (ActionNode kind.Apply m n.token)) (length-items ls (operand_at n 1) ∙ operand_there n 1)
read_due ls s _ n = refl

-- so a view of a node of a graph shows what is due of it
pub view_due : (g : Listed) → IsGraph g → (k : ℕ) (n : ListedNode) (v : NodeView) → slice_get g.nodes k ≡ Some n → IsNodeView g k v → (s : Side) → action_due s (view_label v) ≡ action_due s (node_label n)
view_due g w k n v at is s =
    let read = is-read g w k n at n.kind refl in
    let same : node_read g.yielders n.kind n ≡ node_viewed g.yielders v = sym read.node ∙ is.node in
    ap (action_due s) (sym (view_shows g.yielders v) ∙ ap shown (sym same)) ∙ read_due g.yielders s n.kind n

abbrev two_shown : Two → YKind
two_shown Sum = ykind.Sum
two_shown Difference = ykind.Difference
two_shown Product = ykind.Product
two_shown Quotient = ykind.Quotient
two_shown Remainder = ykind.Remainder
two_shown Is = ykind.Is
two_shown Less = ykind.Less
two_shown BothOf = ykind.Both
two_shown EitherOf = ykind.Either

abbrev one_shown : One → YKind
one_shown Negation = ykind.Negation
one_shown Not = ykind.Not

-- the label of a yielder of the meaning
abbrev item_shown : Item → Label
item_shown Them = YielderNode ykind.Them []
item_shown (Single (NumberLiteral z)) = YielderNode (ykind.Number z) []
item_shown (Single (TruthLiteral b)) = YielderNode (ykind.Truth b) []
item_shown (Single (Given s)) = YielderNode (ykind.Given s 0) []
item_shown (Single (GivenAt s place)) = YielderNode (ykind.Given s place) []
item_shown (Single (BoundTo s t)) = YielderNode (ykind.Bound s) t
item_shown (Single (StoredIn s y)) = YielderNode (ykind.Stored s) []
item_shown (Single (OnTwo f y1 y2)) = YielderNode (two_shown f) []
item_shown (Single (OnOne f y)) = YielderNode (one_shown f) []
item_shown (Single (ClosureOf c)) = YielderNode ykind.Closure []

yielder_shows : (ls : List ListedYielder) (v : YielderView) → item_shown (item_viewed ls v) ≡ yielder_view_label v
yielder_shows ls (yielder.OnTwo two.Sum y1 y2) = refl
yielder_shows ls (yielder.OnTwo two.Difference y1 y2) = refl
yielder_shows ls (yielder.OnTwo two.Product y1 y2) = refl
yielder_shows ls (yielder.OnTwo two.Quotient y1 y2) = refl
yielder_shows ls (yielder.OnTwo two.Remainder y1 y2) = refl
yielder_shows ls (yielder.OnTwo two.Is y1 y2) = refl
yielder_shows ls (yielder.OnTwo two.Less y1 y2) = refl
yielder_shows ls (yielder.OnTwo two.BothOf y1 y2) = refl
yielder_shows ls (yielder.OnTwo two.EitherOf y1 y2) = refl
yielder_shows ls (yielder.OnOne one.Negation y) = refl
yielder_shows ls (yielder.OnOne one.Not y) = refl
yielder_shows ls _ = refl

item_due : (ls : List ListedYielder) (k : YKind) (l : ListedYielder) → shape_due (item_shown (item_read ls k l)) ≡ shape_due (YielderNode k l.token)
item_due ls (ykind.Truth true) l = refl
item_due ls (ykind.Truth false) l = refl
item_due ls (ykind.Given s zero) l = refl
item_due ls (ykind.Given s (suc n)) l = refl
item_due ls _ l = refl

item_seen : (g : Listed) → IsGraph g → (y : ℕ) (l : ListedYielder) (v : YielderView) → slice_get g.yielders y ≡ Some l → IsYielderView g y v → item_read g.yielders l.kind l ≡ item_viewed g.yielders v
item_seen g w y l v at is = let read = yielder-read g w y l l.kind at refl in sym read.item ∙ is.item

-- a view of a yielder of a graph shows what is due of it
pub yielder_view_due : (g : Listed) → IsGraph g → (y : ℕ) (l : ListedYielder) (v : YielderView) → slice_get g.yielders y ≡ Some l → IsYielderView g y v → shape_due (yielder_view_label v) ≡ shape_due (yielder_label l)
yielder_view_due g w y l v at is =
    ap shape_due (sym (yielder_shows g.yielders v) ∙ ap item_shown (sym (item_seen g w y l v at is))) ∙ item_due g.yielders l.kind l

fits_listed : (ls : List ListedYielder) (k : YKind) (l : ListedYielder) → IsReadableLabel (item_shown (item_read ls k l)) → IsReadableLabel (YielderNode k l.token)
fits_listed ls (ykind.Number z) l h = h
fits_listed ls _ l h = tt

-- a text can give the yielder where it can give what the view shows
pub yielder_view_fits : (g : Listed) → IsGraph g → (y : ℕ) (l : ListedYielder) (v : YielderView) → slice_get g.yielders y ≡ Some l → IsYielderView g y v → IsReadableLabel (yielder_view_label v) → IsReadableLabel (yielder_label l)
yielder_view_fits g w y l v at is h =
    fits_listed g.yielders l.kind l (subst IsReadableLabel (sym (yielder_shows g.yielders v) ∙ ap item_shown (sym (item_seen g w y l v at is))) h)

abbrev place_in : Item → ℕ
place_in (Single (GivenAt s place)) = place
place_in _ = 1

some_place : (ls : List ListedYielder) (k : YKind) (l : ListedYielder) → 0 < place_in (item_read ls k l)
some_place ls (ykind.Given s zero) l = omega arith
some_place ls (ykind.Given s (suc n)) l = omega arith
some_place ls _ l = omega arith

-- its place is counted from 1
pub view_has_place : (g : Listed) → IsGraph g → (y : ℕ) (l : ListedYielder) (v : YielderView) → slice_get g.yielders y ≡ Some l → IsYielderView g y v → HasPlace v
view_has_place g w y l v at is = go v (subst (λ i. 0 < place_in i) (item_seen g w y l v at is) (some_place g.yielders l.kind l))
  where
    go : (v : YielderView) → 0 < place_in (item_viewed g.yielders v) → HasPlace v
    go (yielder.GivenAt s place) h = h
    go _ h = tt
