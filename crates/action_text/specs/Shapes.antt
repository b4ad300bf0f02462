-- How each node of an action is spelled: its own tokens, and the places of its parts among them.
use Rattle.std.specs.Prelude.{ℕ, zero, suc, ℤ, pos, true, false, List, [], ◌∷◌, codes}
use Rattle.action_terms.specs.Labels.{Label, ActionNode, YielderNode}
use Rattle.action_terms.specs.declared.kinds.Kind.{Kind}
use Rattle.action_terms.specs.declared.kinds.Kind.TheVariants as kind
use Rattle.action_terms.specs.declared.kinds.YKind.{YKind}
use Rattle.action_terms.specs.declared.kinds.YKind.TheVariants as ykind
use Rattle.action_terms.specs.declared.kinds.Sort.{Sort}
use Rattle.action_terms.specs.declared.kinds.Sort.TheVariants as sort

-- what stands in the spelling of a node: a token of these bytes, a number of this value, a quoted text of these bytes, or the next part
pub data Piece : Type 0 where
  Fixed : (bytes : List ℕ) → Piece
  Numeral : (value : ℤ) → Piece
  Quoted : (bytes : List ℕ) → Piece
  Part : Piece

abbrev pub open_paren : List ℕ
open_paren = 40 ∷ []

abbrev pub close_paren : List ℕ
close_paren = 41 ∷ []

abbrev pub comma : List ℕ
comma = 44 ∷ []

-- S = integer | truth-value | cell | abstraction
abbrev pub sort_word : Sort → List ℕ
sort_word sort.Integer = codes "integer"
sort_word sort.Truth = codes "truth-value"
sort_word sort.Cell = codes "cell"
sort_word sort.Abstraction = codes "abstraction"

-- { , Item } )
abbrev pub more_items : ℕ → List Piece
more_items zero = Fixed close_paren ∷ []
more_items (suc n) = Fixed comma ∷ Part ∷ more_items n

-- Data = Y | them | ( ) | ( Item , Item { , Item } )
abbrev pub items : ℕ → List Piece
items zero = Fixed open_paren ∷ Fixed close_paren ∷ []
items (suc zero) = Part ∷ []
items (suc (suc n)) = Fixed open_paren ∷ Part ∷ more_items (suc n)

-- ( Y )
abbrev pub one_argument : List Piece
one_argument = Fixed open_paren ∷ Part ∷ Fixed close_paren ∷ []

-- ( Y , Y )
abbrev pub two_arguments : List Piece
two_arguments = Fixed open_paren ∷ Part ∷ Fixed comma ∷ Part ∷ Fixed close_paren ∷ []

-- the primitives, `unfolding Operand` and `furthermore Operand`; an operator and a branch have no spelling of their own
abbrev pub action_shape : Kind → ℕ → List ℕ → List Piece
action_shape kind.Complete n t = Fixed (codes "complete") ∷ []
action_shape kind.Fail n t = Fixed (codes "fail") ∷ []
action_shape kind.Escape n t = Fixed (codes "escape") ∷ []
action_shape kind.Commit n t = Fixed (codes "commit") ∷ []
action_shape kind.Regive n t = Fixed (codes "regive") ∷ []
action_shape kind.Rebind n t = Fixed (codes "rebind") ∷ []
action_shape kind.Give n t = Fixed (codes "give") ∷ items n
action_shape kind.EscapeWith n t = Fixed (codes "escape") ∷ Fixed (codes "with") ∷ items n
action_shape kind.Check n t = Fixed (codes "check") ∷ Part ∷ []
action_shape kind.Bind n t = Fixed (codes "bind") ∷ Quoted t ∷ Fixed (codes "to") ∷ Part ∷ []
action_shape kind.BindRec n t = Fixed (codes "recursively") ∷ Fixed (codes "bind") ∷ Quoted t ∷ Fixed (codes "to") ∷ Part ∷ []
action_shape kind.Store n t = Fixed (codes "store") ∷ Part ∷ Fixed (codes "in") ∷ Part ∷ []
action_shape kind.Allocate n t = Fixed (codes "allocate") ∷ Fixed (codes "a") ∷ Fixed (codes "cell") ∷ []
action_shape kind.Send n t = Fixed (codes "send") ∷ Part ∷ []
action_shape kind.Receive n t = Fixed (codes "receive") ∷ Fixed (codes "an") ∷ Fixed (codes "integer") ∷ []
action_shape kind.Enact n t = Fixed (codes "enact") ∷ Part ∷ []
action_shape kind.Apply n t = Fixed (codes "enact") ∷ Fixed (codes "application") ∷ Fixed (codes "of") ∷ Part ∷ Fixed (codes "to") ∷ items n
action_shape kind.Unfold n t = Fixed (codes "unfold") ∷ []
action_shape kind.Unfolding n t = Fixed (codes "unfolding") ∷ Part ∷ []
action_shape kind.Furthermore n t = Fixed (codes "furthermore") ∷ Part ∷ []
action_shape _ n t = []

-- Y, and `them`; place 0 is `the given S`
abbrev pub yielder_shape : YKind → List ℕ → List Piece
yielder_shape (ykind.Number z) t = Numeral z ∷ []
yielder_shape (ykind.Truth true) t = Fixed (codes "true") ∷ []
yielder_shape (ykind.Truth false) t = Fixed (codes "false") ∷ []
yielder_shape ykind.Them t = Fixed (codes "them") ∷ []
yielder_shape (ykind.Given s zero) t = Fixed (codes "the") ∷ Fixed (codes "given") ∷ Fixed (sort_word s) ∷ []
yielder_shape (ykind.Given s (suc n)) t = Fixed (codes "the") ∷ Fixed (codes "given") ∷ Fixed (sort_word s) ∷ Fixed (35 ∷ []) ∷ Numeral (pos (suc n)) ∷ []
yielder_shape (ykind.Bound s) t = Fixed (codes "the") ∷ Fixed (sort_word s) ∷ Fixed (codes "bound") ∷ Fixed (codes "to") ∷ Quoted t ∷ []
yielder_shape (ykind.Stored s) t = Fixed (codes "the") ∷ Fixed (sort_word s) ∷ Fixed (codes "stored") ∷ Fixed (codes "in") ∷ Part ∷ []
yielder_shape ykind.Sum t = Fixed (codes "sum") ∷ two_arguments
yielder_shape ykind.Difference t = Fixed (codes "difference") ∷ two_arguments
yielder_shape ykind.Product t = Fixed (codes "product") ∷ two_arguments
yielder_shape ykind.Quotient t = Fixed (codes "integer-quotient") ∷ two_arguments
yielder_shape ykind.Remainder t = Fixed (codes "integer-remainder") ∷ two_arguments
yielder_shape ykind.Negation t = Fixed (codes "negation") ∷ one_argument
yielder_shape ykind.Is t = Fixed (codes "is") ∷ two_arguments
yielder_shape ykind.Less t = Fixed (codes "is") ∷ Fixed (codes "less") ∷ Fixed (codes "than") ∷ two_arguments
yielder_shape ykind.Not t = Fixed (codes "not") ∷ one_argument
yielder_shape ykind.Both t = Fixed (codes "both") ∷ two_arguments
yielder_shape ykind.Either t = Fixed (codes "either") ∷ two_arguments
yielder_shape ykind.Closure t = Fixed (codes "closure") ∷ Fixed (codes "abstraction") ∷ Fixed (codes "of") ∷ Part ∷ []

abbrev pub shape : Label → List Piece
shape (ActionNode k n t) = action_shape k n t
shape (YielderNode k t) = yielder_shape k t

-- Op = or | and | and then | then | trap | hence | moreover | before
abbrev pub operator : Kind → List (List ℕ)
operator kind.Or = codes "or" ∷ []
operator kind.And = codes "and" ∷ []
operator kind.AndThen = codes "and" ∷ codes "then" ∷ []
operator kind.Then = codes "then" ∷ []
operator kind.Trap = codes "trap" ∷ []
operator kind.Hence = codes "hence" ∷ []
operator kind.Moreover = codes "moreover" ∷ []
operator kind.Before = codes "before" ∷ []
operator _ = []

abbrev pub operator_of : Label → List (List ℕ)
operator_of (ActionNode k n t) = operator k
operator_of (YielderNode k t) = []
