-- Where a token is put among others.
use Rattle.std.specs.Prelude.{◌≡◌, ℕ, List, ◌∷◌, ◌++◌, map}
use Rattle.std.specs.Borrow.{Bor}
use Rattle.action_terms.specs.Information.{Token}
use Rattle.sort_rules.specs.Parts.{bind_component}
use Rattle.sort_rules.specs.Views.{pair_of}
use Rattle.sort_rules.specs.declared.set.Set.{Set}

-- a pair of the token, put between these two lists, is bound among the pairs
abbrev pub Puts : (pairs : List (Bor (List ℕ) × Set)) (t : Token) (front back : List (Bor (List ℕ) × Set)) → Type 0
Puts pairs t front back = (p : Bor (List ℕ) × Set) → p.0.now ≡ t → map pair_of (front ++ p ∷ back) ≡ bind_component (pair_of p) (map pair_of pairs)
