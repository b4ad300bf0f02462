-- The places under a node, and those that are still wanted of pushed nodes, as they stand on a stack.
use Rattle.std.specs.Prelude.{ℕ, suc, Bool, true, false, ◌&&◌, List, [], ◌∷◌, ◌++◌, reverse, Option, Some, None, if◌then◌else◌}
use Rattle.action_terms.specs.Labels.{Label, Wanted, AnAction, AYielder, AnItem, AClosure, serves, under, copies}
use Rattle.action_terms.specs.declared.under.Place.{Place}
use Rattle.action_terms.specs.declared.under.Place.TheVariants.{Action, Yielder, Item, Closure}
use Rattle.action_terms.specs.declared.under.Places.{Places}
use Rattle.action_terms.specs.declared.under.Parts.{Parts}
use Rattle.action_terms.specs.declared.places.Run.{Run}
use Rattle.action_terms.specs.declared.places.Expected.{Expected}

-- the labels are the preorders of one tree for each of these places, one after another
abbrev pub fills : List Wanted → List Label → Bool
fills [] [] = true
fills [] (l ∷ labels) = false
fills (x ∷ places) [] = false
fills (x ∷ places) (l ∷ labels) = serves x l && fills (under l ++ places) labels

-- what a place wants
abbrev pub wanted_by : Place → Wanted
wanted_by Action = AnAction
wanted_by Yielder = AYielder
wanted_by Item = AnItem
wanted_by Closure = AClosure

-- how many of the places want an action, and how many a yielder
abbrev pub actions_wanted : List Wanted → ℕ
actions_wanted [] = 0
actions_wanted (AnAction ∷ xs) = suc (actions_wanted xs)
actions_wanted (AYielder ∷ xs) = actions_wanted xs
actions_wanted (AnItem ∷ xs) = actions_wanted xs
actions_wanted (AClosure ∷ xs) = actions_wanted xs

abbrev pub yielders_wanted : List Wanted → ℕ
yielders_wanted [] = 0
yielders_wanted (AnAction ∷ xs) = yielders_wanted xs
yielders_wanted (AYielder ∷ xs) = suc (yielders_wanted xs)
yielders_wanted (AnItem ∷ xs) = suc (yielders_wanted xs)
yielders_wanted (AClosure ∷ xs) = suc (yielders_wanted xs)

-- the places that stand together, if there are some
abbrev pub places_of : Option Places → List Wanted
places_of None = []
places_of (Some p) = copies p.count (wanted_by p.place)

abbrev pub places_under : Parts → List Wanted
places_under p = places_of p.first ++ places_of p.second

-- so many places for yielders are one operand with so many items, and places for actions are none
abbrev pub operand : Place → ℕ → List ℕ
operand Action n = []
operand Yielder n = n ∷ []
operand Item n = n ∷ []
operand Closure n = n ∷ []

abbrev pub operand_of : Option Places → List ℕ
operand_of None = []
operand_of (Some p) = operand p.place p.count

abbrev pub operands_under : Parts → List ℕ
operands_under p = operand_of p.first ++ operand_of p.second

-- a place and those that follow it
abbrev pub run_of : Option Run → List Wanted
run_of None = []
run_of (Some r) = copies (suc r.more) (wanted_by r.place)

abbrev pub places_in : List Run → List Wanted
places_in [] = []
places_in (r ∷ rs) = copies (suc r.more) (wanted_by r.place) ++ places_in rs

-- the places on a stack, whose last ones come first
abbrev pub wanted_on : List Run → List Wanted
wanted_on stack = places_in (reverse stack)

-- whether the labels are what is expected
abbrev pub expects : Expected → List Label → Bool
expects e labels = if e.fits then fills (wanted_on e.places.items) labels else false
