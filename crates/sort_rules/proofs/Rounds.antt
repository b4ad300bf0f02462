-- Tables computed by rounds, as lists of entries: seven a node.
use Rattle.std.proofs.Common.{Bool, List, ◌∷◌, if◌then◌else◌, length, suc, true, zero, ℕ, ◌&&◌, ◌*◌, ◌+◌}
use Rattle.std.specs.Prelude.{replicate, slice_index_or, slice_set}
use Rattle.action_terms.specs.Actions.{Action}
use Rattle.sort_rules.specs.Demands.{Demand, demands, ◌⊒◌}
use Rattle.sort_rules.specs.Parts.{Part, Unreached, join}
use Rattle.sort_rules.specs.Tables.{BindsIn, BindsOut, Contents, DataIn, DataOut, Entry, Escaped, Mark, MarkedTable}
use Rattle.sort_rules.specs.Tests.{holds, is_below}
use Rattle.sort_rules.specs.Values.{nothing}
use Rattle.std.proofs.Common.{[]}

-- the place of an entry
abbrev pub code : Entry → ℕ
code (DataIn k) = 7 * k
code (BindsIn k) = 7 * k + 1
code (DataOut k) = 7 * k + 2
code (BindsOut k) = 7 * k + 3
code (Escaped k) = 7 * k + 4
code (Contents k) = 7 * k + 5
code (Mark k) = 7 * k + 6

-- the marked table of such a list
abbrev pub table_of : List Part → MarkedTable
table_of ps x = slice_index_or ps (code x) Unreached

-- one entry raised where a demand is not met, and so for each of some demands
abbrev pub raised : List Part → Demand → List Part
raised ps (x ⊒ v) = if is_below v (table_of ps x) then ps else slice_set ps (code x) (join (table_of ps x) v)

abbrev pub raised_all : List Part → List Demand → List Part
raised_all ps [] = ps
raised_all ps (d ∷ ds) = raised_all (raised ps d) ds

-- every node visited once, and so many times
abbrev pub round : Action → ℕ → List Part → List Part
round a zero ps = ps
round a (suc k) ps = let qs = round a k ps in raised_all qs (demands a (table_of qs) k)

abbrev pub rounds : ℕ → Action → List Part → List Part
rounds zero a ps = ps
rounds (suc m) a ps = rounds m a (round a (length a) ps)

-- the table with nothing but the demand of the root
abbrev pub first : Action → List Part
first a = slice_set (slice_set (replicate (7 * length a) Unreached) 0 nothing) 1 nothing

-- the parts of node k
abbrev pub row : List Part → ℕ → List Part
row ps k = table_of ps (DataIn k) ∷ table_of ps (BindsIn k) ∷ table_of ps (DataOut k) ∷ table_of ps (BindsOut k) ∷ table_of ps (Escaped k) ∷ []

-- the demands at the first so many nodes hold
abbrev pub all_hold : Action → List Part → ℕ → Bool
all_hold a ps zero = true
all_hold a ps (suc k) = holds a (table_of ps) k && all_hold a ps k
