-- What yielders yield. They change nothing; where a part yields nothing, or a datum of another sort than is wanted, the whole yields nothing.
use Rattle.std.specs.Prelude.{ℕ, zero, suc, ◌^◌, ℤ, pos, ◌+ℤ◌, ◌-ℤ◌, ◌*ℤ◌, neg_ℤ, int_lt, int_le, int_div, int_rem, Bool, true, false, ◌&&◌, ◌||◌, not, List, [], ◌∷◌, ◌++◌, Option, Some, None, option_map, nat_eq, if◌then◌else◌, slice_get}
use Rattle.action_terms.specs.Information.{Datum, Number, Truth, CellOf, Closure, Binds, Data, Storage}
use Rattle.action_terms.specs.Bindings.{lookup}
use Rattle.action_terms.specs.Actions.{Two, Sum, Difference, Product, Quotient, Remainder, Is, Less, BothOf, EitherOf, One, Negation, Not, Yielder, NumberLiteral, TruthLiteral, Given, GivenAt, BoundTo, StoredIn, OnTwo, OnOne, ClosureOf, Item, Single, Them}
use Rattle.action_terms.specs.declared.kinds.Sort.{Sort}
use Rattle.action_terms.specs.declared.kinds.Sort.TheVariants as sort

-- an integer within 64 signed bits
abbrev pub within_64 : ℤ → Option Datum
within_64 n = if int_le (neg_ℤ (pos (2 ^ 63))) n && int_lt n (pos (2 ^ 63)) then Some (Number n) else None

-- the datum, where it is of the sort
abbrev pub of_sort : Sort → Datum → Option Datum
of_sort sort.Integer (Number n) = Some (Number n)
of_sort sort.Truth (Truth b) = Some (Truth b)
of_sort sort.Cell (CellOf c) = Some (CellOf c)
of_sort sort.Abstraction (Closure k b own) = Some (Closure k b own)
of_sort _ _ = None

-- the datum of a tuple of one
abbrev pub only : Data → Option Datum
only (x ∷ []) = Some x
only _ = None

-- the datum of a place, from 1
abbrev pub nth : Data → ℕ → Option Datum
nth d zero = None
nth d (suc n) = slice_get d n

abbrev pub set_content : Option (Option Datum) → Option Datum
set_content (Some (Some x)) = Some x
set_content _ = None

-- what a cell holds, where it is set
abbrev pub stored : Storage → Datum → Option Datum
stored cells (CellOf c) = set_content (slice_get cells c)
stored cells _ = None

abbrev pub int_eq : ℤ → ℤ → Bool
int_eq x y = int_le x y && int_le y x

abbrev pub bool_eq : Bool → Bool → Bool
bool_eq true b = b
bool_eq false b = not b

-- a quotient or a remainder, where the divisor isn't 0
abbrev pub divided : (ℤ → ℤ → ℤ) → ℤ → ℤ → Option Datum
divided f x y = if int_eq y (pos 0) then None else within_64 (f x y)

-- the operations on two data: the quotient is cut toward 0, and the remainder has the dividend's sign
abbrev pub on_two : Two → Datum → Datum → Option Datum
on_two Sum (Number x) (Number y) = within_64 (x +ℤ y)
on_two Difference (Number x) (Number y) = within_64 (x -ℤ y)
on_two Product (Number x) (Number y) = within_64 (x *ℤ y)
on_two Quotient (Number x) (Number y) = divided int_div x y
on_two Remainder (Number x) (Number y) = divided int_rem x y
on_two Is (Number x) (Number y) = Some (Truth (int_eq x y))
on_two Is (Truth x) (Truth y) = Some (Truth (bool_eq x y))
on_two Is (CellOf x) (CellOf y) = Some (Truth (nat_eq x y))
on_two Less (Number x) (Number y) = Some (Truth (int_lt x y))
on_two BothOf (Truth x) (Truth y) = Some (Truth (x && y))
on_two EitherOf (Truth x) (Truth y) = Some (Truth (x || y))
on_two _ _ _ = None

-- the operations on one datum
abbrev pub on_one : One → Datum → Option Datum
on_one Negation (Number x) = within_64 (neg_ℤ x)
on_one Not (Truth x) = Some (Truth (not x))
on_one _ _ = None

-- what follows, where a datum is yielded
abbrev pub and_then : Option Datum → (Datum → Option Datum) → Option Datum
and_then None f = None
and_then (Some x) f = f x

-- the datum that a yielder yields with data d given, bindings b received, and this storage
abbrev pub yields : Yielder → Data → Binds → Storage → Option Datum
yields (NumberLiteral n) d b cells = Some (Number n)
yields (TruthLiteral t) d b cells = Some (Truth t)
yields (Given s) d b cells = and_then (only d) (of_sort s)
yields (GivenAt s n) d b cells = and_then (nth d n) (of_sort s)
yields (BoundTo s t) d b cells = and_then (lookup t b) (of_sort s)
yields (StoredIn s y) d b cells = and_then (and_then (yields y d b cells) (stored cells)) (of_sort s)
yields (OnTwo f y1 y2) d b cells = and_then (yields y1 d b cells) (λ x. and_then (yields y2 d b cells) (on_two f x))
yields (OnOne f y) d b cells = and_then (yields y d b cells) (on_one f)
yields (ClosureOf k) d b cells = Some (Closure k b None)

-- the data of an item: `them` is all that is given
abbrev pub item_yields : Item → Data → Binds → Storage → Option Data
item_yields (Single y) d b cells = option_map (λ x. x ∷ []) (yields y d b cells)
item_yields Them d b cells = Some d

abbrev pub both_data : Option Data → Option Data → Option Data
both_data (Some d1) (Some d2) = Some (d1 ++ d2)
both_data _ _ = None

-- the data of a tuple
abbrev pub items_yield : List Item → Data → Binds → Storage → Option Data
items_yield [] d b cells = Some []
items_yield (i ∷ is) d b cells = both_data (item_yields i d b cells) (items_yield is d b cells)
