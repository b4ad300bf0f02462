-- Well-formed parts: sets that aren't empty, with ascending numbers of the action's nodes, few components, and tokens in order.
use Rattle.std.specs.Prelude.{◌≡◌, ◌≤◌, ◌<◌, ℕ, false, List, [], ◌∷◌, length, nat_lt, IsTrue}
use Rattle.action_terms.specs.Bindings.{token_lt}
use Rattle.action_terms.specs.Performances.{OneOf}
use Rattle.sort_rules.specs.Sets.{Set, is_empty}
use Rattle.sort_rules.specs.Parts.{Component, Part, Unreached, Listed, Clash, most_components}
use Rattle.sort_rules.specs.Tables.{Entry, BindsIn, BindsOut, MarkedTable, node_of}
use Rattle.sort_rules.specs.Demands.{Demand, ◌⊒◌}

-- numbers that ascend strictly
pub data Ascending : List ℕ → Type 0 where
  NoNumber : Ascending []
  OneNumber : {n : ℕ} → Ascending (n ∷ [])
  MoreNumbers : {n m : ℕ} {ms : List ℕ} → IsTrue (nat_lt n m) → Ascending (m ∷ ms) → Ascending (n ∷ m ∷ ms)

-- ascending numbers, the cells of these nodes and the closures of these bodies
pub record IsSetOf (cells bodies : List ℕ) (s : Set) : Type 0 where
  pub cells_of : (k : ℕ) → OneOf k s.cells → OneOf k cells
  pub abstractions_of : (k : ℕ) → OneOf k s.abstractions → OneOf k bodies
  pub cells_ascend : Ascending s.cells
  pub abstractions_ascend : Ascending s.abstractions

-- such sets, none of them empty
pub data AreOf (cells bodies : List ℕ) : List Component → Type 0 where
  NoneListed : AreOf cells bodies []
  OneListed : {p : Component} {ps : List Component} → IsSetOf cells bodies p.set → is_empty p.set ≡ false → AreOf cells bodies ps → AreOf cells bodies (p ∷ ps)

-- a part of such sets, with few components
pub data IsPartOf (cells bodies : List ℕ) : Part → Type 0 where
  UnreachedOf : IsPartOf cells bodies Unreached
  ListedOf : {ps : List Component} → AreOf cells bodies ps → length ps ≤ most_components → IsPartOf cells bodies (Listed ps)
  ClashOf : IsPartOf cells bodies Clash

-- ascending numbers, whatever they are
pub record IsAscendingSet (s : Set) : Type 0 where
  pub cells : Ascending s.cells
  pub abstractions : Ascending s.abstractions

-- such sets, none of them empty
pub data AreSorts : List Component → Type 0 where
  NoSort : AreSorts []
  OneSort : {p : Component} {ps : List Component} → IsAscendingSet p.set → is_empty p.set ≡ false → AreSorts ps → AreSorts (p ∷ ps)

-- a part without a clash
pub data IsSort : Part → Type 0 where
  UnreachedSort : IsSort Unreached
  ListedSort : {ps : List Component} → AreSorts ps → length ps ≤ most_components → IsSort (Listed ps)

-- the components of a tuple have no tokens, and those of bindings have ascending ones
pub data NoTokens : List Component → Type 0 where
  NoPlace : NoTokens []
  OnePlace : {p : Component} {ps : List Component} → p.token ≡ [] → NoTokens ps → NoTokens (p ∷ ps)

-- the tokens ascend strictly
pub data TokensAscend : List Component → Type 0 where
  NoToken : TokensAscend []
  OneToken : {p : Component} → TokensAscend (p ∷ [])
  MoreTokens : {p q : Component} {ps : List Component} → IsTrue (token_lt p.token q.token) → TokensAscend (q ∷ ps) → TokensAscend (p ∷ q ∷ ps)

-- a tuple
pub data IsTuple : Part → Type 0 where
  UnreachedTuple : IsTuple Unreached
  ATuple : {ps : List Component} → NoTokens ps → IsTuple (Listed ps)
  ClashTuple : IsTuple Clash

-- bindings
pub data IsBindings : Part → Type 0 where
  UnreachedBindings : IsBindings Unreached
  SomeBindings : {ps : List Component} → TokensAscend ps → IsBindings (Listed ps)
  ClashBindings : IsBindings Clash

-- what the part of an entry is: bindings or a tuple
abbrev pub HasShape : Entry → Part → Type 0
HasShape (BindsIn k) v = IsBindings v
HasShape (BindsOut k) v = IsBindings v
HasShape _ v = IsTuple v

-- the part of an entry is well-formed
pub record IsEntryOf (cells bodies : List ℕ) (x : Entry) (v : Part) : Type 0 where
  pub sets : IsPartOf cells bodies v
  pub shape : HasShape x v

-- every entry of the table is well-formed
abbrev pub IsTableOver : (cells bodies : List ℕ) → MarkedTable → Type 0
IsTableOver cells bodies t = (x : Entry) → IsEntryOf cells bodies x (t x)

-- so is what a demand asks for, of a node below n
abbrev pub IsDemandOver : (cells bodies : List ℕ) (n : ℕ) → Demand → Type 0
IsDemandOver cells bodies n (x ⊒ v) = IsEntryOf cells bodies x v × (node_of x < n)
