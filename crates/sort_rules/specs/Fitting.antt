-- What fits a table at run time: data, bindings, the contents of cells, acting trees and states.
use Rattle.std.specs.Prelude.{◌≡◌, ℕ, ℤ, Bool, List, [], ◌∷◌, Option, Some, None, length, slice_get, IsTrue}
use Rattle.action_terms.specs.Information.{Token, Datum, Number, Truth, CellOf, Closure, Binds, NoBinds, Bound, Data, Storage}
use Rattle.action_terms.specs.Actions.{Join, Chain, Both, Phases, Trapping, Action, node_at}
use Rattle.action_terms.specs.Acting.{Tree, Run, Ended, Called, Par, First, Second, Or, Cut, Trap, Over, Done, Esc, Fail}
use Rattle.action_terms.specs.Performances.{OneOf, State}
use Rattle.sort_rules.specs.Sets.{Set, closures_of_body}
use Rattle.sort_rules.specs.Parts.{Component, Part, Listed, Clash, Below, overlay}
use Rattle.sort_rules.specs.Tables.{DataIn, BindsIn, DataOut, BindsOut, Escaped, Contents, MarkedTable}
use Rattle.sort_rules.specs.Values.{one}
use Rattle.sort_rules.specs.Demands.{bound_to, allocate_nodes, closure_bodies}

-- a table with the `allocate` nodes and the closure bodies of its action
pub record Sorted : Type 0 where
  pub table : MarkedTable
  pub cells : List ℕ
  pub bodies : List ℕ

-- an action with a table
abbrev pub sorted : Action → MarkedTable → Sorted
sorted a t = record { table = t; cells = allocate_nodes a; bodies = closure_bodies a }

-- the bindings of a body: those of its closure, overlaid by the closure's own token
abbrev pub own_part : ℕ → Option Token → Part → Part
own_part k None h = h
own_part k (Some u) h = overlay h (bound_to u (one (closures_of_body k)))

-- a datum fits a set, and bindings fit a part; w has the `allocate` node of each cell. The bindings of a closure fit some part which, with the closure's own token, lies below what its body receives
mutual
  pub data Fits (c : Sorted) (w : List ℕ) : Datum → Set → Type 0 where
    NumberFits : {n : ℤ} {s : Set} → IsTrue s.integer → Fits c w (Number n) s
    TruthFits : {b : Bool} {s : Set} → IsTrue s.truth → Fits c w (Truth b) s
    CellFits : {i k : ℕ} {s : Set} → slice_get w i ≡ Some k → OneOf k c.cells → OneOf k s.cells → Fits c w (CellOf i) s
    ClosureFits : {k : ℕ} {b : Binds} {own : Option Token} {s : Set} {h : Part} → BindsFit c w b h → Below (own_part k own h) (c.table (BindsIn k)) → OneOf k c.bodies → OneOf k s.abstractions → Fits c w (Closure k b own) s

  -- the same tokens, and each datum fits
  pub data EachBoundFits (c : Sorted) (w : List ℕ) : Binds → List Component → Type 0 where
    NoneBound : EachBoundFits c w NoBinds []
    OneBound : {u : Token} {x : Datum} {b : Binds} {p : Component} {ps : List Component} → u ≡ p.token → Fits c w x p.set → EachBoundFits c w b ps → EachBoundFits c w (Bound u x b) (p ∷ ps)

  -- the same of bindings
  pub data BindsFit (c : Sorted) (w : List ℕ) : Binds → Part → Type 0 where
    BindsListed : {b : Binds} {ps : List Component} → EachBoundFits c w b ps → BindsFit c w b (Listed ps)
    BindsClash : {b : Binds} → BindsFit c w b Clash

-- as many data, and each fits
pub data EachFits (c : Sorted) (w : List ℕ) : Data → List Component → Type 0 where
  NoDatum : EachFits c w [] []
  OneDatum : {x : Datum} {d : Data} {p : Component} {ps : List Component} → Fits c w x p.set → EachFits c w d ps → EachFits c w (x ∷ d) (p ∷ ps)

-- data fit a list, and all data fit a clash; none fit an unreached part
pub data DataFit (c : Sorted) (w : List ℕ) : Data → Part → Type 0 where
  DataListed : {d : Data} {ps : List Component} → EachFits c w d ps → DataFit c w d (Listed ps)
  DataClash : {d : Data} → DataFit c w d Clash

-- each cell was allocated at a node, and holds what fits the contents of that node
pub record CellsFit (c : Sorted) (w : List ℕ) (cells : Storage) : Type 0 where
  pub long : length w ≡ length cells
  pub known : (i k : ℕ) → slice_get w i ≡ Some k → OneOf k c.cells
  pub held : (i : ℕ) (x : Datum) → slice_get cells i ≡ Some (Some x) → (k : ℕ) × (slice_get w i ≡ Some k) × DataFit c w (x ∷ []) (c.table (Contents k))

-- the parts with which something may end
pub record Ends : Type 0 where
  pub data_out : Part
  pub binds_out : Part
  pub escaped : Part

-- each part lies below the other
pub record EndsBelow (x y : Ends) : Type 0 where
  pub data_out : Below x.data_out y.data_out
  pub binds_out : Below x.binds_out y.binds_out
  pub escaped : Below x.escaped y.escaped

-- the parts with which node k may end
abbrev pub ends_of : MarkedTable → ℕ → Ends
ends_of t k = record { data_out = t (DataOut k); binds_out = t (BindsOut k); escaped = t (Escaped k) }

-- what node k is given and receives fits its row
pub record Enters (c : Sorted) (w : List ℕ) (k : ℕ) (d : Data) (b : Binds) : Type 0 where
  pub given : DataFit c w d (c.table (DataIn k))
  pub received : BindsFit c w b (c.table (BindsIn k))

-- all that an acting tree holds fits, and it ends only with what fits z
pub data TreeFits (c : Sorted) (a : Action) (w : List ℕ) : Tree → (z : Ends) → Type 0 where
  RunFits : {k : ℕ} {d : Data} {b : Binds} {z : Ends} → Enters c w k d b → EndsBelow (ends_of c.table k) z → TreeFits c a w (Run k d b) z
  DoneFits : {d : Data} {b : Binds} {z : Ends} → DataFit c w d z.data_out → BindsFit c w b z.binds_out → TreeFits c a w (Ended (Done d b)) z
  EscFits : {d : Data} {z : Ends} → DataFit c w d z.escaped → TreeFits c a w (Ended (Esc d)) z
  FailFits : {z : Ends} → TreeFits c a w (Ended Fail) z
  CalledFits : {k : ℕ} {x : Tree} {z : Ends} → TreeFits c a w x z → TreeFits c a w (Called k x) z
  ParFits : {k l r : ℕ} {j : Join} {x y : Tree} {z : Ends} → node_at a k ≡ Both j l r → TreeFits c a w x (ends_of c.table l) → TreeFits c a w y (ends_of c.table r) → EndsBelow (ends_of c.table k) z → TreeFits c a w (Par k x y) z
  FirstFits : {k l r : ℕ} {q : Chain} {x : Tree} {d : Data} {b : Binds} {z : Ends} → node_at a k ≡ Phases q l r → TreeFits c a w x (ends_of c.table l) → Enters c w k d b → EndsBelow (ends_of c.table k) z → TreeFits c a w (First k x d b) z
  SecondFits : {k l r : ℕ} {q : Chain} {x : Tree} {d1 : Data} {b1 : Binds} {z : Ends} → node_at a k ≡ Phases q l r → DataFit c w d1 (c.table (DataOut l)) → BindsFit c w b1 (c.table (BindsOut l)) → TreeFits c a w x (ends_of c.table r) → EndsBelow (ends_of c.table k) z → TreeFits c a w (Second k d1 b1 x) z
  OrFits : {x : Tree} {k : ℕ} {d : Data} {b : Binds} {z : Ends} → TreeFits c a w x z → Enters c w k d b → EndsBelow (ends_of c.table k) z → TreeFits c a w (Or x k d b) z
  CutFits : {x : Tree} {z : Ends} → TreeFits c a w x z → TreeFits c a w (Cut x) z
  TrapFits : {k l r : ℕ} {x : Tree} {b : Binds} {z : Ends} → node_at a k ≡ Trapping l r → TreeFits c a w x (ends_of c.table l) → BindsFit c w b (c.table (BindsIn k)) → EndsBelow (ends_of c.table k) z → TreeFits c a w (Trap k x b) z
  OverFits : {x : Tree} {b : Binds} {h p : Part} {z : Ends} → BindsFit c w b h → TreeFits c a w x (record z { binds_out = p }) → Below (overlay h p) z.binds_out → TreeFits c a w (Over x b) z

-- a state fits the table: its cells have nodes, and its tree ends only as the root may
pub record StateFits (c : Sorted) (a : Action) (s : State) : Type 0 where
  pub nodes : List ℕ
  pub cells : CellsFit c nodes s.world.cells
  pub tree : TreeFits c a nodes s.tree (ends_of c.table 0)
