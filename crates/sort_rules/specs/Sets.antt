-- Sets of data: integers, truth-values, the cells of `allocate` nodes, and the closures of bodies.
use Rattle.std.specs.Prelude.{ℕ, Bool, true, false, ◌&&◌, ◌||◌, not, List, [], ◌∷◌, IsTrue}
use Rattle.action_terms.specs.Performances.{OneOf}
use Rattle.sort_rules.specs.Numbers.{is_none, merged}
use Rattle.action_terms.specs.declared.kinds.Sort.{Sort}
use Rattle.action_terms.specs.declared.kinds.Sort.TheVariants as sort

-- a set of data: whether it has the integers and the truth-values, the `allocate` nodes whose cells it has, and the bodies whose closures it has
pub record Set : Type 0 where
  pub integer : Bool
  pub truth : Bool
  pub cells : List ℕ
  pub abstractions : List ℕ

-- what a set is made of
pub data Atom : Type 0 where
  AnInteger ATruth : Atom
  ACell : (k : ℕ) → Atom
  AClosure : (k : ℕ) → Atom

-- the set has what the atom stands for
abbrev pub Has : Set → Atom → Type 0
Has s AnInteger = IsTrue s.integer
Has s ATruth = IsTrue s.truth
Has s (ACell k) = OneOf k s.cells
Has s (AClosure k) = OneOf k s.abstractions

-- the first set lies in the second
pub record IsSubset (x y : Set) : Type 0 where
  pub each : (a : Atom) → Has x a → Has y a

-- ---- sets

-- the set with nothing in it
abbrev pub empty_set : Set
empty_set = record { integer = false; truth = false; cells = []; abstractions = [] }

-- all integers
abbrev pub integers : Set
integers = record empty_set { integer = true }

-- both truth-values
abbrev pub truths : Set
truths = record empty_set { truth = true }

-- the cells that are allocated at node k
abbrev pub cells_of_node : ℕ → Set
cells_of_node k = record empty_set { cells = k ∷ [] }

-- the closures of the body with root k
abbrev pub closures_of_body : ℕ → Set
closures_of_body k = record empty_set { abstractions = k ∷ [] }

-- the data of both
abbrev pub set_union : Set → Set → Set
set_union x y = record { integer = x.integer || y.integer; truth = x.truth || y.truth; cells = merged x.cells y.cells; abstractions = merged x.abstractions y.abstractions }

-- whether nothing is in it
abbrev pub is_empty : Set → Bool
is_empty x = not x.integer && (not x.truth && (is_none x.cells && is_none x.abstractions))

-- the data of the set that are of the sort, and those that aren't
abbrev pub inside : Sort → Set → Set
inside sort.Integer x = record empty_set { integer = x.integer }
inside sort.Truth x = record empty_set { truth = x.truth }
inside sort.Cell x = record empty_set { cells = x.cells }
inside sort.Abstraction x = record empty_set { abstractions = x.abstractions }

-- the data of the set that are of another sort
abbrev pub outside : Sort → Set → Set
outside sort.Integer x = record x { integer = false }
outside sort.Truth x = record x { truth = false }
outside sort.Cell x = record x { cells = [] }
outside sort.Abstraction x = record x { abstractions = [] }

-- all data of the set are of the sort
abbrev pub lies_in : Sort → Set → Bool
lies_in s x = is_empty (outside s x)
