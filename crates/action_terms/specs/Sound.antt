-- What holds of every state of a performance of a proper action: the nodes, the bodies and the cells that it names are there, and tokens ascend in bindings.
use Rattle.std.specs.Prelude.{◌≡◌, ℕ, ◌<◌, true, length, All, IfSome}
use Rattle.action_terms.specs.Information.{Token, Datum, CellOf, Closure, Binds, NoBinds, Bound, Data, Storage, World}
use Rattle.action_terms.specs.Bindings.{token_lt}
use Rattle.action_terms.specs.Actions.{Node, Both, Phases, Trapping, Action, node_at}
use Rattle.action_terms.specs.Acting.{End, Done, Esc, Fail, Tree, Run, Ended, Called, Par, First, Second, Or, Cut, Trap, Over}
use Rattle.action_terms.specs.Proper.{IsBody}
use Rattle.action_terms.specs.Performances.{State}

-- which bodies of closures and of `unfolding` there are, and which cells
pub record Known : Type 1 where
  pub body : ℕ → Type 0
  pub cell : ℕ → Type 0

-- the first token of the bindings, if there is one, comes after t
abbrev pub Precedes : Token → Binds → Type 0
Precedes t NoBinds = Unit {0}
Precedes t (Bound u x rest) = token_lt t u ≡ true

abbrev mutual
  -- the datum is a cell that is there, or the body of each closure in it is
  pub IsSoundDatum : Known → Datum → Type 0
  IsSoundDatum known (CellOf c) = known.cell c
  IsSoundDatum known (Closure c b own) = known.body c × AreSoundBinds known b
  IsSoundDatum known _ = Unit {0}

  -- so it is in each datum that is bound; each token stands once, tokens ascending
  pub AreSoundBinds : Known → Binds → Type 0
  AreSoundBinds known NoBinds = Unit {0}
  AreSoundBinds known (Bound t x rest) = IsSoundDatum known x × AreSoundBinds known rest × Precedes t rest

-- each datum is sound
abbrev pub AreSoundData : Known → Data → Type 0
AreSoundData known d = All (IsSoundDatum known) d

-- what the cells hold is sound, where they are set
abbrev pub AreSoundCells : Known → Storage → Type 0
AreSoundCells known cells = All (λ content. IfSome content (IsSoundDatum known)) cells

-- the data and the bindings of the end are sound
abbrev pub IsSoundEnd : Known → End → Type 0
IsSoundEnd known (Done d b) = AreSoundData known d × AreSoundBinds known b
IsSoundEnd known (Esc d) = AreSoundData known d
IsSoundEnd known Fail = Unit {0}

-- the node is `and` or `moreover`
abbrev pub IsBoth : Node → Type 0
IsBoth (Both j l r) = Unit {0}
IsBoth _ = ⊥

-- the node has two parts in order
abbrev pub IsPhases : Node → Type 0
IsPhases (Phases q l r) = Unit {0}
IsPhases _ = ⊥

-- the node is `trap`
abbrev pub IsTrapping : Node → Type 0
IsTrapping (Trapping l r) = Unit {0}
IsTrapping _ = ⊥

-- nodes that are to be performed are there, nodes whose parts act are of a kind that has such parts, and all data and bindings are sound
abbrev pub IsKnownTree : Known → Action → Tree → Type 0
IsKnownTree known a (Run k d b) = (k < length a) × AreSoundData known d × AreSoundBinds known b
IsKnownTree known a (Ended z) = IsSoundEnd known z
IsKnownTree known a (Called c x) = known.body c × IsKnownTree known a x
IsKnownTree known a (Par k x y) = IsBoth (node_at a k) × IsKnownTree known a x × IsKnownTree known a y
IsKnownTree known a (First k x d b) = IsPhases (node_at a k) × IsKnownTree known a x × AreSoundData known d × AreSoundBinds known b
IsKnownTree known a (Second k d1 b1 x) = IsPhases (node_at a k) × AreSoundData known d1 × AreSoundBinds known b1 × IsKnownTree known a x
IsKnownTree known a (Or x k2 d b) = IsKnownTree known a x × (k2 < length a) × AreSoundData known d × AreSoundBinds known b
IsKnownTree known a (Cut x) = IsKnownTree known a x
IsKnownTree known a (Trap k x b) = IsTrapping (node_at a k) × IsKnownTree known a x × AreSoundBinds known b
IsKnownTree known a (Over x b) = IsKnownTree known a x × AreSoundBinds known b

-- the same where only the nodes of the action bound the bodies, and nothing is asked of cells
abbrev pub any_node : Action → Known
any_node a = record { body = λ c. c < length a; cell = λ n. Unit {0} }

abbrev pub IsSoundTree : Action → Tree → Type 0
IsSoundTree a t = IsKnownTree (any_node a) a t

-- the bodies of the action, and the cells that are there
abbrev pub known_in : Action → World → Known
known_in a w = record { body = IsBody a; cell = λ n. n < length w.cells }

-- the tree and the contents of the cells are sound: closures and calls have bodies of the action, and the cells that are named are there
pub record IsSound (a : Action) (s : State) : Type 0 where
  pub tree : IsKnownTree (known_in a s.world) a s.tree
  pub cells : AreSoundCells (known_in a s.world) s.world.cells
