-- Tables of small actions.
use Rattle.std.proofs.Common.{[], length, pos, refl, true, ◌∷◌, ◌≡◌}
use Rattle.action_terms.specs.Actions.{Action, And, Bind, Both, BoundTo, ClosureOf, Enact, Furthermore, Give, Given, Hence, NumberLiteral, Phases, Send, Simple, Single, Then, Unfold, Unfolding}
use Rattle.action_terms.specs.Information.{Token}
use Rattle.action_terms.specs.declared.kinds.Sort.TheVariants as sort
use Rattle.sort_rules.specs.Measures.{captured, slots, width}
use Rattle.sort_rules.specs.Parts.{Clash, Unreached}
use Rattle.sort_rules.specs.Sets.{integers}
use Rattle.sort_rules.specs.Shapes.{domain}
use Rattle.sort_rules.specs.Tables.{BindsIn, Mark}
use Rattle.sort_rules.specs.Values.{nothing, one}
use Rattle.sort_rules.proofs.Rounds.{all_hold, first, row, rounds, table_of}

-- ---- `(give 1) then (send the given integer)`

giving : Action
giving = Phases Then 1 2 ∷ Simple (Give (Single (NumberLiteral (pos 1)) ∷ [])) ∷ Simple (Send (Given sort.Integer)) ∷ []

giving_rows : row (rounds 4 giving (first giving)) 1 ≡ nothing ∷ nothing ∷ one integers ∷ nothing ∷ Unreached ∷ []
unfolding giving
giving_rows = refl

giving_holds : all_hold giving (rounds 4 giving (first giving)) 3 ≡ true
unfolding giving
giving_holds = refl

giving_width : width (length giving) (table_of (rounds 4 giving (first giving))) ≡ 1
unfolding giving
giving_width = refl

-- ---- `enact 1` is ill-sorted at node 0

enacting : Action
enacting = Enact (NumberLiteral (pos 1)) ∷ []

enacting_mark : table_of (rounds 2 enacting (first enacting)) (Mark 0) ≡ Clash
unfolding enacting
enacting_mark = refl

-- ---- `unfolding unfold`: 40 words and 40 more

looping : Action
looping = Unfolding 1 ∷ Unfold 1 ∷ []

looping_slots : (slots looping (table_of (rounds 3 looping (first looping))) 0 ≡ 40) × (slots looping (table_of (rounds 3 looping (first looping))) 1 ≡ 40)
unfolding looping
looping_slots = (refl, refl)

-- ---- `furthermore (bind "x" to 1 and bind "y" to 2) hence enact closure abstraction of send the integer bound to "x"`: the closure captures x alone

tx : Token
tx = 120 ∷ []

ty : Token
ty = 121 ∷ []

capturing : Action
capturing =
    Phases Hence 1 5 ∷ Furthermore 2 ∷ Both And 3 4 ∷ Simple (Bind tx (NumberLiteral (pos 1))) ∷ Simple (Bind ty (NumberLiteral (pos 2)))
    ∷ Enact (ClosureOf 6) ∷ Simple (Send (BoundTo sort.Integer tx)) ∷ []

capturing_tokens : (captured capturing (table_of (rounds 12 capturing (first capturing))) 6 ≡ tx ∷ []) × (domain (table_of (rounds 12 capturing (first capturing)) (BindsIn 6)) ≡ tx ∷ ty ∷ [])
unfolding capturing tx ty
capturing_tokens = (refl, refl)
