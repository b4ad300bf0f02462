-- The demands of a list that ask for anything: one of an unreached part is always met.
use Rattle.std.specs.Prelude.{List, [], ◌∷◌, ◌++◌}
use Rattle.action_terms.specs.Performances.{OneOf}
use Rattle.sort_rules.specs.Demands.{Demand, ◌⊒◌}
use Rattle.sort_rules.specs.Parts.{Part, Unreached, Listed, Clash}
use Rattle.sort_rules.specs.Tables.{Entry}

-- in front of others, where the part is reached
abbrev pub in_front : Entry → Part → List Demand → List Demand
in_front x Unreached ds = ds
in_front x (Listed ps) ds = (x ⊒ Listed ps) ∷ ds
in_front x Clash ds = (x ⊒ Clash) ∷ ds

-- those of reached parts
abbrev pub reached_ones : List Demand → List Demand
reached_ones [] = []
reached_ones ((x ⊒ v) ∷ ds) = in_front x v (reached_ones ds)

-- each demand of the first list that asks for anything stands in the second
abbrev pub AreAmong : (ds es : List Demand) → Type 0
AreAmong ds es = (d : Demand) → OneOf d (reached_ones ds) → OneOf d (reached_ones es)

-- two lists with the same demands that ask for anything
pub record AskTheSame (ds es : List Demand) : Type 0 where
  pub there : AreAmong ds es
  pub back : AreAmong es ds

-- the new list has the demands of the old one and those of ds, and no other that asks for anything
abbrev pub Adds : (old ds new : List Demand) → Type 0
Adds old ds new = AskTheSame new (old ++ ds)
