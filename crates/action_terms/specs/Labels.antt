-- Which nodes a text can give, and what stands under each.
use Rattle.std.specs.Prelude.{ℕ, zero, suc, Bool, true, false, ◌&&◌, not, List, [], ◌∷◌, nat_eq, nat_le}
use Rattle.std.specs.List.{list_all}
use Rattle.action_terms.specs.declared.kinds.Kind.{Kind}
use Rattle.action_terms.specs.declared.kinds.Kind.TheVariants as kind
use Rattle.action_terms.specs.declared.kinds.YKind.{YKind}
use Rattle.action_terms.specs.declared.kinds.YKind.TheVariants as ykind

-- a node as it is pushed: an action node with its kind, the number of items of its data, and its token; a yielder with its kind and its token
pub data Label : Type 0 where
  ActionNode : (k : Kind) (items : ℕ) (token : List ℕ) → Label
  YielderNode : (k : YKind) (token : List ℕ) → Label

-- what may stand in a place under a node: an action, one datum, an item of data, or a closure
pub data Wanted : Type 0 where
  AnAction AYielder AnItem AClosure : Wanted

-- a token of a text is one or more of the bytes from 0x21 to 0x7E, but no quote
abbrev pub is_token_byte : ℕ → Bool
is_token_byte b = nat_le 0x21 b && nat_le b 0x7e && not (nat_eq b 0x22)

abbrev pub is_token : List ℕ → Bool
is_token [] = false
is_token (b ∷ bytes) = list_all is_token_byte (b ∷ bytes)

abbrev pub has_no_token : List ℕ → Bool
has_no_token [] = true
has_no_token _ = false

-- the kinds with a token
abbrev pub token_fits : Kind → List ℕ → Bool
token_fits kind.Bind t = is_token t
token_fits kind.BindRec t = is_token t
token_fits _ t = has_no_token t

-- the kinds with data: the number of their items is free, and that of all other kinds is 0
abbrev pub items_fit : Kind → ℕ → Bool
items_fit kind.Give n = true
items_fit kind.EscapeWith n = true
items_fit kind.Apply n = true
items_fit _ n = nat_eq n 0

-- a place among the transients is 0 where a text has none, or from 1 to 64
abbrev pub yielder_fits : YKind → List ℕ → Bool
yielder_fits (ykind.Bound s) t = is_token t
yielder_fits (ykind.Given s place) t = nat_le place 64 && has_no_token t
yielder_fits _ t = has_no_token t

abbrev pub is_datum : YKind → Bool
is_datum ykind.Them = false
is_datum _ = true

abbrev pub is_closure : YKind → Bool
is_closure ykind.Closure = true
is_closure _ = false

-- a text can give the node, and it may stand in such a place
abbrev pub serves : Wanted → Label → Bool
serves AnAction (ActionNode k items t) = items_fit k items && token_fits k t
serves AnAction (YielderNode k t) = false
serves AYielder (YielderNode k t) = is_datum k && yielder_fits k t
serves AYielder (ActionNode k items t) = false
serves AnItem (YielderNode k t) = yielder_fits k t
serves AnItem (ActionNode k items t) = false
serves AClosure (YielderNode k t) = is_closure k && yielder_fits k t
serves AClosure (ActionNode k items t) = false

abbrev pub copies : ℕ → Wanted → List Wanted
copies zero x = []
copies (suc n) x = x ∷ copies n x

-- the places under an action node, in the order of the text
abbrev pub under_action : Kind → ℕ → List Wanted
under_action kind.Give n = copies n AnItem
under_action kind.EscapeWith n = copies n AnItem
under_action kind.Check n = AYielder ∷ []
under_action kind.Bind n = AYielder ∷ []
under_action kind.BindRec n = AClosure ∷ []
under_action kind.Store n = AYielder ∷ AYielder ∷ []
under_action kind.Send n = AYielder ∷ []
under_action kind.Enact n = AYielder ∷ []
under_action kind.Apply n = AYielder ∷ copies n AnItem
under_action kind.Unfolding n = AnAction ∷ []
under_action kind.Furthermore n = AnAction ∷ []
under_action kind.Or n = AnAction ∷ AnAction ∷ []
under_action kind.And n = AnAction ∷ AnAction ∷ []
under_action kind.AndThen n = AnAction ∷ AnAction ∷ []
under_action kind.Then n = AnAction ∷ AnAction ∷ []
under_action kind.Trap n = AnAction ∷ AnAction ∷ []
under_action kind.Hence n = AnAction ∷ AnAction ∷ []
under_action kind.Moreover n = AnAction ∷ AnAction ∷ []
under_action kind.Before n = AnAction ∷ AnAction ∷ []
under_action kind.Branch n = AYielder ∷ AnAction ∷ AnAction ∷ []
under_action _ n = []

-- the places under a yielder
abbrev pub under_yielder : YKind → List Wanted
under_yielder (ykind.Stored s) = AYielder ∷ []
under_yielder ykind.Sum = AYielder ∷ AYielder ∷ []
under_yielder ykind.Difference = AYielder ∷ AYielder ∷ []
under_yielder ykind.Product = AYielder ∷ AYielder ∷ []
under_yielder ykind.Quotient = AYielder ∷ AYielder ∷ []
under_yielder ykind.Remainder = AYielder ∷ AYielder ∷ []
under_yielder ykind.Negation = AYielder ∷ []
under_yielder ykind.Is = AYielder ∷ AYielder ∷ []
under_yielder ykind.Less = AYielder ∷ AYielder ∷ []
under_yielder ykind.Not = AYielder ∷ []
under_yielder ykind.Both = AYielder ∷ AYielder ∷ []
under_yielder ykind.Either = AYielder ∷ AYielder ∷ []
under_yielder ykind.Closure = AnAction ∷ []
under_yielder _ = []

abbrev pub under : Label → List Wanted
under (ActionNode k items t) = under_action k items
under (YielderNode k t) = under_yielder k

-- how many items each operand of a node has: one for a single datum
abbrev pub operand_lengths : Kind → ℕ → List ℕ
operand_lengths kind.Give n = n ∷ []
operand_lengths kind.EscapeWith n = n ∷ []
operand_lengths kind.Check n = 1 ∷ []
operand_lengths kind.Bind n = 1 ∷ []
operand_lengths kind.BindRec n = 1 ∷ []
operand_lengths kind.Store n = 1 ∷ 1 ∷ []
operand_lengths kind.Send n = 1 ∷ []
operand_lengths kind.Enact n = 1 ∷ []
operand_lengths kind.Apply n = 1 ∷ n ∷ []
operand_lengths kind.Branch n = 1 ∷ []
operand_lengths _ n = []
