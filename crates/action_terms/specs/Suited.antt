-- Yielders whose lookups and arguments are of the sorts that are wanted.
use Rattle.std.specs.Prelude.{◌≡◌, ◌⊎◌, List, [], ◌∷◌, Option, Some, IfSome}
use Rattle.action_terms.specs.Information.{Datum, Binds, Data, Storage}
use Rattle.action_terms.specs.Bindings.{lookup}
use Rattle.action_terms.specs.Actions.{Two, Is, BothOf, EitherOf, One, Negation, Not, Yielder, NumberLiteral, TruthLiteral, Given, GivenAt, BoundTo, StoredIn, OnTwo, OnOne, ClosureOf, Item, Single, Them, Primitive, Give, EscapeWith, Check, Bind, Store, Send, Node, Simple, Enact, Apply, Branch}
use Rattle.action_terms.specs.Yielding.{of_sort, only, nth, stored, and_then, yields}
use Rattle.action_terms.specs.declared.kinds.Sort.{Sort}
use Rattle.action_terms.specs.declared.kinds.Sort.TheVariants as sort

-- what is there, if anything is, is of the sort
abbrev pub IsOfSort : Sort → Option Datum → Type 0
IsOfSort s o = IfSome o (λ x. of_sort s x ≡ Some x)

-- what is there of both is of the sort
abbrev pub BothOfSort : Sort → (o1 o2 : Option Datum) → Type 0
BothOfSort s o1 o2 = IsOfSort s o1 × IsOfSort s o2

-- the arguments of an operation on two data, where they are there: `is` compares two integers, two truth-values or two cells
abbrev pub AreWanted : Two → (o1 o2 : Option Datum) → Type 0
AreWanted Is o1 o2 = BothOfSort sort.Integer o1 o2 ⊎ (BothOfSort sort.Truth o1 o2 ⊎ BothOfSort sort.Cell o1 o2)
AreWanted BothOf o1 o2 = BothOfSort sort.Truth o1 o2
AreWanted EitherOf o1 o2 = BothOfSort sort.Truth o1 o2
AreWanted _ o1 o2 = BothOfSort sort.Integer o1 o2

-- the argument of an operation on one datum, where it is there
abbrev pub IsWanted : One → Option Datum → Type 0
IsWanted Negation o = IsOfSort sort.Integer o
IsWanted Not o = IsOfSort sort.Truth o

-- what the yielder looks up is of its sort, and what its arguments yield is of the sorts that the operations want
abbrev pub IsSuited : Yielder → Data → Binds → Storage → Type 0
IsSuited (NumberLiteral n) d b cells = Unit {0}
IsSuited (TruthLiteral t) d b cells = Unit {0}
IsSuited (Given s) d b cells = IsOfSort s (only d)
IsSuited (GivenAt s n) d b cells = IsOfSort s (nth d n)
IsSuited (BoundTo s t) d b cells = IsOfSort s (lookup t b)
IsSuited (StoredIn s y) d b cells =
    IsSuited y d b cells × IsOfSort sort.Cell (yields y d b cells) × IsOfSort s (and_then (yields y d b cells) (stored cells))
IsSuited (OnTwo f y1 y2) d b cells =
    IsSuited y1 d b cells × IsSuited y2 d b cells × AreWanted f (yields y1 d b cells) (yields y2 d b cells)
IsSuited (OnOne f y) d b cells = IsSuited y d b cells × IsWanted f (yields y d b cells)
IsSuited (ClosureOf k) d b cells = Unit {0}

-- so are the yielders of data
abbrev pub AreSuited : List Item → Data → Binds → Storage → Type 0
AreSuited [] d b cells = Unit {0}
AreSuited (Single y ∷ is) d b cells = IsSuited y d b cells × AreSuited is d b cells
AreSuited (Them ∷ is) d b cells = AreSuited is d b cells

-- so are the yielders of a primitive, and what it wants of them
abbrev pub IsSuitedPrimitive : Primitive → Data → Binds → Storage → Type 0
IsSuitedPrimitive (Give is) d b cells = AreSuited is d b cells
IsSuitedPrimitive (EscapeWith is) d b cells = AreSuited is d b cells
IsSuitedPrimitive (Check y) d b cells = IsSuited y d b cells × IsOfSort sort.Truth (yields y d b cells)
IsSuitedPrimitive (Bind t y) d b cells = IsSuited y d b cells
IsSuitedPrimitive (Store y1 y2) d b cells = IsSuited y1 d b cells × IsSuited y2 d b cells × IsOfSort sort.Cell (yields y2 d b cells)
IsSuitedPrimitive (Send y) d b cells = IsSuited y d b cells × IsOfSort sort.Integer (yields y d b cells)
IsSuitedPrimitive _ d b cells = Unit {0}

-- and of a node
abbrev pub IsSuitedNode : Node → Data → Binds → Storage → Type 0
IsSuitedNode (Simple p) d b cells = IsSuitedPrimitive p d b cells
IsSuitedNode (Enact y) d b cells = IsSuited y d b cells × IsOfSort sort.Abstraction (yields y d b cells)
IsSuitedNode (Apply y is) d b cells = IsSuited y d b cells × IsOfSort sort.Abstraction (yields y d b cells) × AreSuited is d b cells
IsSuitedNode (Branch y l r) d b cells = IsSuited y d b cells × IsOfSort sort.Truth (yields y d b cells)
IsSuitedNode _ d b cells = Unit {0}
