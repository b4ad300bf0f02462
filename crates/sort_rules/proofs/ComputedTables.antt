-- Marked tables, slots and captured tokens of a few actions, as another program computes them.
use Rattle.std.proofs.Common.{Bool, List, [], false, length, pos, refl, true, ℕ, ◌∷◌, ◌≡◌}
use Rattle.action_terms.specs.Actions.{Action, Allocate, And, AndThen, Apply, Before, Bind, BindRec, Both, BoundTo, Check, ClosureOf, Either, Enact, EscapeWith, Furthermore, Give, Given, GivenAt, Hence, Is, Moreover, Not, NumberLiteral, OnOne, OnTwo, Phases, Quotient, Rebind, Receive, Regive, Remainder, Send, Simple, Single, Store, StoredIn, Sum, Them, Then, Trapping, Unfold, Unfolding}
use Rattle.action_terms.specs.Information.{Token}
use Rattle.action_terms.specs.Need.{most_yielders}
use Rattle.action_terms.specs.declared.kinds.Sort.TheVariants as sort
use Rattle.sort_rules.specs.Measures.{captured, slots, width}
use Rattle.sort_rules.specs.Parts.{Clash, Component, Listed, Unreached}
use Rattle.sort_rules.specs.Sets.{Set}
use Rattle.sort_rules.proofs.Rounds.{first, rounds, table_of}

set : Bool → Bool → List ℕ → List ℕ → Set
set i t c b = record { integer = i; truth = t; cells = c; abstractions = b }

component : Token → Set → Component
component t s = record { token = t; set = s }

applying : Action
applying = Phases Hence 1 3 ∷ Apply (ClosureOf 2) (Single (OnTwo Remainder (OnTwo Sum (NumberLiteral (pos 0)) (NumberLiteral (pos 1))) (NumberLiteral (pos 10))) ∷ Single (OnTwo Is (NumberLiteral (pos 2)) (NumberLiteral (pos 1))) ∷ []) ∷ Simple (Check (GivenAt sort.Truth 2)) ∷ Unfolding 4 ∷ Simple (Give ([])) ∷ []

applying_table : rounds 30 applying (first applying) ≡ Listed ([]) ∷ Listed ([]) ∷ Listed ([]) ∷ Listed ([]) ∷ Unreached ∷ Unreached ∷ Unreached ∷ Listed ([]) ∷ Listed ([]) ∷ Listed ([]) ∷ Listed ([]) ∷ Unreached ∷ Unreached ∷ Unreached ∷ Listed (component [] (set true false ([]) ([])) ∷ component [] (set false true ([]) ([])) ∷ []) ∷ Listed ([]) ∷ Listed ([]) ∷ Listed ([]) ∷ Unreached ∷ Unreached ∷ Unreached ∷ Listed ([]) ∷ Listed ([]) ∷ Listed ([]) ∷ Listed ([]) ∷ Unreached ∷ Unreached ∷ Unreached ∷ Listed ([]) ∷ Listed ([]) ∷ Listed ([]) ∷ Listed ([]) ∷ Unreached ∷ Unreached ∷ Unreached ∷ []
unfolding applying set component
applying_table = refl

applying_measures : (slots applying (table_of (rounds 30 applying (first applying))) 0 ≡ 56) × (slots applying (table_of (rounds 30 applying (first applying))) 2 ≡ 42) × (slots applying (table_of (rounds 30 applying (first applying))) 4 ≡ 40) × (captured applying (table_of (rounds 30 applying (first applying))) 2 ≡ ([])) × (width (length applying) (table_of (rounds 30 applying (first applying))) ≡ 2) × (most_yielders applying ≡ 9)
unfolding applying set component
applying_measures = (refl, refl, refl, refl, refl, refl)

storing : Action
storing = Phases Hence 1 5 ∷ Furthermore 2 ∷ Phases Then 3 4 ∷ Simple Allocate ∷ Simple (Bind (43 ∷ []) (Given sort.Cell)) ∷ Phases Then 6 7 ∷ Simple (Store (StoredIn sort.Integer (BoundTo sort.Cell (43 ∷ []))) (BoundTo sort.Cell (43 ∷ []))) ∷ Phases Then 8 9 ∷ Simple (Give ([])) ∷ Simple Regive ∷ []

storing_table : rounds 30 storing (first storing) ≡ Listed ([]) ∷ Listed ([]) ∷ Unreached ∷ Unreached ∷ Unreached ∷ Unreached ∷ Unreached ∷ Listed ([]) ∷ Listed ([]) ∷ Listed ([]) ∷ Listed (component (43 ∷ []) (set false false (3 ∷ []) ([])) ∷ []) ∷ Unreached ∷ Unreached ∷ Unreached ∷ Listed ([]) ∷ Listed ([]) ∷ Listed ([]) ∷ Listed (component (43 ∷ []) (set false false (3 ∷ []) ([])) ∷ []) ∷ Unreached ∷ Unreached ∷ Unreached ∷ Listed ([]) ∷ Listed ([]) ∷ Listed (component [] (set false false (3 ∷ []) ([])) ∷ []) ∷ Listed ([]) ∷ Unreached ∷ Unreached ∷ Unreached ∷ Listed (component [] (set false false (3 ∷ []) ([])) ∷ []) ∷ Listed ([]) ∷ Listed ([]) ∷ Listed (component (43 ∷ []) (set false false (3 ∷ []) ([])) ∷ []) ∷ Unreached ∷ Unreached ∷ Unreached ∷ Listed ([]) ∷ Listed (component (43 ∷ []) (set false false (3 ∷ []) ([])) ∷ []) ∷ Unreached ∷ Unreached ∷ Unreached ∷ Unreached ∷ Unreached ∷ Listed ([]) ∷ Listed (component (43 ∷ []) (set false false (3 ∷ []) ([])) ∷ []) ∷ Unreached ∷ Unreached ∷ Unreached ∷ Unreached ∷ Unreached ∷ Unreached ∷ Unreached ∷ Unreached ∷ Unreached ∷ Unreached ∷ Unreached ∷ Unreached ∷ Unreached ∷ Unreached ∷ Unreached ∷ Unreached ∷ Unreached ∷ Unreached ∷ Unreached ∷ Unreached ∷ Unreached ∷ Unreached ∷ Unreached ∷ Unreached ∷ Unreached ∷ Unreached ∷ []
unfolding storing set component
storing_table = refl

storing_measures : (slots storing (table_of (rounds 30 storing (first storing))) 0 ≡ 119) × (width (length storing) (table_of (rounds 30 storing (first storing))) ≡ 1) × (most_yielders storing ≡ 3)
unfolding storing set component
storing_measures = (refl, refl, refl)

repeating : Action
repeating = Unfolding 1 ∷ Phases Before 2 3 ∷ Unfold 1 ∷ Trapping 4 5 ∷ Simple (Give ([])) ∷ Simple (Send (OnTwo Quotient (NumberLiteral (pos 2)) (BoundTo sort.Integer (122 ∷ [])))) ∷ []

repeating_table : rounds 30 repeating (first repeating) ≡ Listed ([]) ∷ Listed ([]) ∷ Unreached ∷ Unreached ∷ Unreached ∷ Unreached ∷ Unreached ∷ Listed ([]) ∷ Listed ([]) ∷ Unreached ∷ Unreached ∷ Unreached ∷ Unreached ∷ Unreached ∷ Listed ([]) ∷ Listed ([]) ∷ Unreached ∷ Unreached ∷ Unreached ∷ Unreached ∷ Unreached ∷ Unreached ∷ Unreached ∷ Unreached ∷ Unreached ∷ Unreached ∷ Unreached ∷ Unreached ∷ Unreached ∷ Unreached ∷ Unreached ∷ Unreached ∷ Unreached ∷ Unreached ∷ Unreached ∷ Unreached ∷ Unreached ∷ Unreached ∷ Unreached ∷ Unreached ∷ Unreached ∷ Unreached ∷ []
unfolding repeating set component
repeating_table = refl

repeating_measures : (slots repeating (table_of (rounds 30 repeating (first repeating))) 0 ≡ 40) × (slots repeating (table_of (rounds 30 repeating (first repeating))) 1 ≡ 72) × (width (length repeating) (table_of (rounds 30 repeating (first repeating))) ≡ 0) × (most_yielders repeating ≡ 3)
unfolding repeating set component
repeating_measures = (refl, refl, refl, refl)

misusing_closures : Action
misusing_closures = Either 1 4 ∷ Phases Hence 2 3 ∷ Simple (Give (Single (Given sort.Integer) ∷ Single (OnTwo Sum (Given sort.Abstraction) (BoundTo sort.Abstraction (120 ∷ []))) ∷ Single (Given sort.Abstraction) ∷ [])) ∷ Simple Allocate ∷ Simple (BindRec (122 ∷ []) 5) ∷ Phases AndThen 6 7 ∷ Simple (Give (Single (OnOne Not (Given sort.Integer)) ∷ Them ∷ Single (StoredIn sort.Abstraction (BoundTo sort.Cell (121 ∷ []))) ∷ [])) ∷ Simple (Send (StoredIn sort.Abstraction (StoredIn sort.Truth (BoundTo sort.Abstraction (122 ∷ []))))) ∷ []

misusing_closures_table : rounds 30 misusing_closures (first misusing_closures) ≡ Listed ([]) ∷ Listed ([]) ∷ Listed ([]) ∷ Listed (component (122 ∷ []) (set false false ([]) (5 ∷ [])) ∷ []) ∷ Unreached ∷ Unreached ∷ Unreached ∷ Listed ([]) ∷ Listed ([]) ∷ Unreached ∷ Unreached ∷ Unreached ∷ Unreached ∷ Unreached ∷ Listed ([]) ∷ Listed ([]) ∷ Unreached ∷ Unreached ∷ Unreached ∷ Unreached ∷ Clash ∷ Unreached ∷ Unreached ∷ Unreached ∷ Unreached ∷ Unreached ∷ Unreached ∷ Unreached ∷ Listed ([]) ∷ Listed ([]) ∷ Listed ([]) ∷ Listed (component (122 ∷ []) (set false false ([]) (5 ∷ [])) ∷ []) ∷ Unreached ∷ Unreached ∷ Unreached ∷ Unreached ∷ Listed (component (122 ∷ []) (set false false ([]) (5 ∷ [])) ∷ []) ∷ Unreached ∷ Unreached ∷ Unreached ∷ Unreached ∷ Unreached ∷ Unreached ∷ Unreached ∷ Unreached ∷ Unreached ∷ Unreached ∷ Unreached ∷ Unreached ∷ Unreached ∷ Unreached ∷ Unreached ∷ Unreached ∷ Unreached ∷ Unreached ∷ Unreached ∷ []
unfolding misusing_closures set component
misusing_closures_table = refl

enacting_a_number : Action
enacting_a_number = Trapping 1 5 ∷ Both Moreover 2 3 ∷ Enact (NumberLiteral (pos 3)) ∷ Simple (Give (Single (ClosureOf 4) ∷ [])) ∷ Simple (Bind (121 ∷ []) (BoundTo sort.Integer (122 ∷ []))) ∷ Simple (EscapeWith (Them ∷ [])) ∷ []

enacting_a_number_table : rounds 30 enacting_a_number (first enacting_a_number) ≡ Listed ([]) ∷ Listed ([]) ∷ Unreached ∷ Unreached ∷ Unreached ∷ Unreached ∷ Unreached ∷ Listed ([]) ∷ Listed ([]) ∷ Unreached ∷ Unreached ∷ Unreached ∷ Unreached ∷ Unreached ∷ Listed ([]) ∷ Listed ([]) ∷ Unreached ∷ Unreached ∷ Unreached ∷ Unreached ∷ Clash ∷ Listed ([]) ∷ Listed ([]) ∷ Listed (component [] (set false false ([]) (4 ∷ [])) ∷ []) ∷ Listed ([]) ∷ Unreached ∷ Unreached ∷ Unreached ∷ Unreached ∷ Listed ([]) ∷ Unreached ∷ Unreached ∷ Unreached ∷ Unreached ∷ Unreached ∷ Unreached ∷ Unreached ∷ Unreached ∷ Unreached ∷ Unreached ∷ Unreached ∷ Unreached ∷ []
unfolding enacting_a_number set component
enacting_a_number_table = refl

looking_up_nothing : Action
looking_up_nothing = Trapping 1 4 ∷ Phases Hence 2 3 ∷ Simple (Bind (122 ∷ []) (BoundTo sort.Truth (121 ∷ []))) ∷ Simple Rebind ∷ Simple (Give ([])) ∷ []

looking_up_nothing_table : rounds 30 looking_up_nothing (first looking_up_nothing) ≡ Listed ([]) ∷ Listed ([]) ∷ Unreached ∷ Unreached ∷ Unreached ∷ Unreached ∷ Unreached ∷ Listed ([]) ∷ Listed ([]) ∷ Unreached ∷ Unreached ∷ Unreached ∷ Unreached ∷ Unreached ∷ Listed ([]) ∷ Listed ([]) ∷ Unreached ∷ Unreached ∷ Unreached ∷ Unreached ∷ Clash ∷ Unreached ∷ Unreached ∷ Unreached ∷ Unreached ∷ Unreached ∷ Unreached ∷ Unreached ∷ Unreached ∷ Unreached ∷ Unreached ∷ Unreached ∷ Unreached ∷ Unreached ∷ Unreached ∷ []
unfolding looking_up_nothing set component
looking_up_nothing_table = refl

receiving : Action
receiving = Trapping 1 2 ∷ Simple Regive ∷ Unfolding 3 ∷ Both And 4 5 ∷ Simple (Give (Single (Given sort.Integer) ∷ [])) ∷ Simple Receive ∷ []

receiving_table : rounds 30 receiving (first receiving) ≡ Listed ([]) ∷ Listed ([]) ∷ Listed ([]) ∷ Listed ([]) ∷ Unreached ∷ Unreached ∷ Unreached ∷ Listed ([]) ∷ Listed ([]) ∷ Listed ([]) ∷ Listed ([]) ∷ Unreached ∷ Unreached ∷ Unreached ∷ Unreached ∷ Unreached ∷ Unreached ∷ Unreached ∷ Unreached ∷ Unreached ∷ Unreached ∷ Unreached ∷ Unreached ∷ Unreached ∷ Unreached ∷ Unreached ∷ Unreached ∷ Unreached ∷ Unreached ∷ Unreached ∷ Unreached ∷ Unreached ∷ Unreached ∷ Unreached ∷ Unreached ∷ Unreached ∷ Unreached ∷ Unreached ∷ Unreached ∷ Unreached ∷ Unreached ∷ Unreached ∷ []
unfolding receiving set component
receiving_table = refl

receiving_measures : (slots receiving (table_of (rounds 30 receiving (first receiving))) 0 ≡ 56) × (slots receiving (table_of (rounds 30 receiving (first receiving))) 3 ≡ 56) × (width (length receiving) (table_of (rounds 30 receiving (first receiving))) ≡ 0) × (most_yielders receiving ≡ 1)
unfolding receiving set component
receiving_measures = (refl, refl, refl, refl)
