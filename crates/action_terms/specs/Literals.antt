-- Actions each number of which is an integer of 64 signed bits, as in the action of each graph.
use Rattle.std.specs.Prelude.{All, FitsSigned}
use Rattle.std.specs.Int.{w64}
use Rattle.action_terms.specs.Actions.{Yielder, NumberLiteral, StoredIn, OnTwo, OnOne, Item, Single, Them, Primitive, Give, EscapeWith, Check, Bind, Store, Send, Node, Simple, Enact, Apply, Branch, Action}

-- the numbers in a yielder are integers of 64 signed bits
abbrev pub YielderFits : Yielder → Type 0
YielderFits (NumberLiteral n) = FitsSigned w64 n
YielderFits (StoredIn s y) = YielderFits y
YielderFits (OnTwo f y1 y2) = YielderFits y1 × YielderFits y2
YielderFits (OnOne f y) = YielderFits y
YielderFits _ = Unit {0}

-- so are those in an item of data
abbrev pub ItemFits : Item → Type 0
ItemFits (Single y) = YielderFits y
ItemFits Them = Unit {0}

-- and those in the yielders of a primitive
abbrev pub PrimitiveFits : Primitive → Type 0
PrimitiveFits (Give is) = All ItemFits is
PrimitiveFits (EscapeWith is) = All ItemFits is
PrimitiveFits (Check y) = YielderFits y
PrimitiveFits (Bind t y) = YielderFits y
PrimitiveFits (Store y1 y2) = YielderFits y1 × YielderFits y2
PrimitiveFits (Send y) = YielderFits y
PrimitiveFits _ = Unit {0}

-- and of a node
abbrev pub NodeFits : Node → Type 0
NodeFits (Simple p) = PrimitiveFits p
NodeFits (Enact y) = YielderFits y
NodeFits (Apply y is) = YielderFits y × All ItemFits is
NodeFits (Branch y l r) = YielderFits y
NodeFits _ = Unit {0}

abbrev pub NumbersFit : Action → Type 0
NumbersFit a = All NodeFits a
