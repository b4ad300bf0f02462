-- The values of yielders in a table, and which yielders don't fit.
use Rattle.std.specs.Prelude.{ℕ, zero, suc, List, [], ◌∷◌, Option, Some, None, if◌then◌else◌}
use Rattle.action_terms.specs.Actions.{Two, Is, Less, BothOf, EitherOf, One, Negation, Not, Yielder, NumberLiteral, TruthLiteral, Given, GivenAt, BoundTo, StoredIn, OnTwo, OnOne, ClosureOf, Item, Single, Them}
use Rattle.action_terms.specs.declared.kinds.Sort.{Sort}
use Rattle.action_terms.specs.declared.kinds.Sort.TheVariants as sort
use Rattle.sort_rules.specs.Sets.{Set, integers, truths, closures_of_body, is_empty, inside, lies_in}
use Rattle.sort_rules.specs.Parts.{Component, Part, Unreached, Listed, Clash, lookup_set, on_list, concatenation, when, join}

-- a tuple of one set; a value is such a tuple, unreached or a clash
abbrev pub one : Set → Part
one x = Listed (record { token = []; set = x } ∷ [])

-- unreached where the set is empty
abbrev pub one_or_unreached : Set → Part
one_or_unreached x = if is_empty x then Unreached else one x

-- the part with nothing in it
abbrev pub nothing : Part
nothing = Listed []

-- ---- what is looked up

-- the set of the first place
abbrev pub first_set : List Component → Option Set
first_set [] = None
first_set (p ∷ ps) = Some p.set

-- the set of a tuple of one
abbrev pub only_set : List Component → Option Set
only_set (p ∷ []) = Some p.set
only_set _ = None

-- the set of a place, from 1
abbrev pub nth_set : ℕ → List Component → Option Set
nth_set zero ps = None
nth_set (suc n) [] = None
nth_set (suc zero) (p ∷ ps) = Some p.set
nth_set (suc (suc n)) (p ∷ ps) = nth_set (suc n) ps

-- the value of what is looked up: its data of the sort
abbrev pub found : Sort → Option Set → Part
found s None = Unreached
found s (Some x) = one_or_unreached (inside s x)

-- a clash where nothing is found, or not all of it is of the sort
abbrev pub misfit : Sort → Option Set → Part
misfit s None = Clash
misfit s (Some x) = if lies_in s x then Unreached else Clash

-- a clash where the value doesn't lie in the sort
abbrev pub strays : Sort → Part → Part
strays s = on_list (λ ps. misfit s (first_set ps))

-- a clash where the value is a clash
abbrev pub clashes : Part → Part
clashes = on_list (λ ps. Unreached)

-- the `allocate` nodes of its cells
abbrev pub cells_in_set : Option Set → List ℕ
cells_in_set None = []
cells_in_set (Some x) = x.cells

-- what the cells of these nodes may hold; c has the contents of each node
abbrev pub all_contents : (c : ℕ → Part) → List ℕ → Part
all_contents c [] = Unreached
all_contents c (k ∷ ks) = join (c k) (all_contents c ks)

-- what the cells of a value may hold
abbrev pub stored_value : (c : ℕ → Part) → Part → Part
stored_value c = on_list (λ ps. all_contents c (cells_in_set (first_set ps)))

-- ---- operations

-- what an operation on two data gives
abbrev pub result_of_two : Two → Set
result_of_two Is = truths
result_of_two Less = truths
result_of_two BothOf = truths
result_of_two EitherOf = truths
result_of_two _ = integers

-- what an operation on one datum gives
abbrev pub result_of_one : One → Set
result_of_one Negation = integers
result_of_one Not = truths

-- a clash where one of the values does not lie in the sort
abbrev pub both_stray : Sort → Part → Part → Part
both_stray s v1 v2 = join (strays s v1) (strays s v2)

-- a clash where the arguments aren't of the sorts that the operation wants
abbrev pub misfit_two : Two → Part → Part → Part
misfit_two Is v1 v2 = when (both_stray sort.Integer v1 v2) (when (both_stray sort.Truth v1 v2) (both_stray sort.Cell v1 v2))
misfit_two BothOf v1 v2 = both_stray sort.Truth v1 v2
misfit_two EitherOf v1 v2 = both_stray sort.Truth v1 v2
misfit_two _ v1 v2 = both_stray sort.Integer v1 v2

-- so it is for an operation on one datum
abbrev pub misfit_one : One → Part → Part
misfit_one Negation v = strays sort.Integer v
misfit_one Not v = strays sort.Truth v

-- ---- yielders: c has the contents, g the data that are given, h the bindings that are received

-- what a yielder may yield
abbrev pub value : (c : ℕ → Part) (g h : Part) → Yielder → Part
value c g h (NumberLiteral n) = one integers
value c g h (TruthLiteral b) = one truths
value c g h (Given s) = on_list (λ ps. found s (only_set ps)) g
value c g h (GivenAt s n) = on_list (λ ps. found s (nth_set n ps)) g
value c g h (BoundTo s t) = on_list (λ ps. found s (lookup_set t ps)) h
value c g h (StoredIn s y) = on_list (λ ps. found s (first_set ps)) (stored_value c (value c g h y))
value c g h (OnTwo f y1 y2) = when (value c g h y1) (when (value c g h y2) (one (result_of_two f)))
value c g h (OnOne f y) = when (value c g h y) (one (result_of_one f))
value c g h (ClosureOf k) = one (closures_of_body k)

-- a clash where the yielder, or one in it, doesn't fit
abbrev pub wrong : (c : ℕ → Part) (g h : Part) → Yielder → Part
wrong c g h (NumberLiteral n) = Unreached
wrong c g h (TruthLiteral b) = Unreached
wrong c g h (Given s) = on_list (λ ps. misfit s (only_set ps)) g
wrong c g h (GivenAt s n) = on_list (λ ps. misfit s (nth_set n ps)) g
wrong c g h (BoundTo s t) = on_list (λ ps. misfit s (lookup_set t ps)) h
wrong c g h (StoredIn s y) = join (wrong c g h y) (join (strays sort.Cell (value c g h y)) (strays s (stored_value c (value c g h y))))
wrong c g h (OnTwo f y1 y2) = join (wrong c g h y1) (join (wrong c g h y2) (misfit_two f (value c g h y1) (value c g h y2)))
wrong c g h (OnOne f y) = join (wrong c g h y) (misfit_one f (value c g h y))
wrong c g h (ClosureOf k) = Unreached

-- the tuple of an item, and of a tuple of data
abbrev pub item_value : (c : ℕ → Part) (g h : Part) → Item → Part
item_value c g h (Single y) = value c g h y
item_value c g h Them = g

-- the tuple of all items
abbrev pub items_value : (c : ℕ → Part) (g h : Part) → List Item → Part
items_value c g h [] = nothing
items_value c g h (i ∷ is) = concatenation (item_value c g h i) (items_value c g h is)

-- a clash where an item doesn't fit, or is a clash
abbrev pub item_wrong : (c : ℕ → Part) (g h : Part) → Item → Part
item_wrong c g h (Single y) = join (wrong c g h y) (clashes (value c g h y))
item_wrong c g h Them = clashes g

-- so it is for all items
abbrev pub items_wrong : (c : ℕ → Part) (g h : Part) → List Item → Part
items_wrong c g h [] = Unreached
items_wrong c g h (i ∷ is) = join (item_wrong c g h i) (items_wrong c g h is)
