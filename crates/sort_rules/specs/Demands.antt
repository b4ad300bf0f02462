-- What a table must hold at each action node.
use Rattle.std.specs.Prelude.{ℕ, suc, Bool, true, false, List, [], ◌∷◌, ◌++◌, Option, Some, None, map, if◌then◌else◌}
use Rattle.action_terms.specs.Information.{Token}
use Rattle.action_terms.specs.Actions.{Yielder, Item, Join, And, Moreover, Chain, Then, Hence, Before, Primitive, Complete, Failing, Escape, Commit, Regive, Rebind, Give, EscapeWith, Check, Bind, BindRec, Store, Allocate, Receive, Send, Node, Simple, Enact, Apply, Unfolding, Unfold, Furthermore, Both, Phases, Either, Trapping, Branch, Stray, Action, node_at}
use Rattle.action_terms.specs.Steps.{closures_in, closures_in_items, closures_of}
use Rattle.action_terms.specs.declared.kinds.Sort.TheVariants as sort
use Rattle.sort_rules.specs.Numbers.{is_listed}
use Rattle.sort_rules.specs.Sets.{Set, integers, cells_of_node, closures_of_body}
use Rattle.sort_rules.specs.Parts.{Component, Part, Unreached, Listed, Below, on_list, concatenation, overlay, union, when, join}
use Rattle.sort_rules.specs.Tables.{Entry, DataIn, BindsIn, DataOut, BindsOut, Escaped, Contents, Mark, MarkedTable}
use Rattle.sort_rules.specs.Values.{one, nothing, first_set, strays, clashes, value, wrong, items_value, items_wrong}

-- a demand: the entry is at least so much
infix 80 ◌⊒◌
-- an entry and a part
pub data Demand : Type 0 where
  ◌⊒◌ : (entry : Entry) (least : Part) → Demand

-- the entry of the table is at least the part
abbrev pub IsMet : MarkedTable → Demand → Type 0
IsMet t (x ⊒ least) = Below least (t x)

-- the fact holds of each of the list
pub data Each {X : Type 0} (P : X → Type 0) : List X → Type 0 where
  NoneOf : Each P []
  MoreOf : {x : X} {xs : List X} → P x → Each P xs → Each P (x ∷ xs)

-- ---- the bodies and the `allocate` nodes of an action

-- the bodies of the closures that a node makes
abbrev pub closures_at : Node → List ℕ
closures_at (Simple p) = closures_of p
closures_at (Enact y) = closures_in y
closures_at (Apply y is) = closures_in y ++ closures_in_items is
closures_at (Branch y l r) = closures_in y
closures_at _ = []

-- the bodies of all closures of an action
abbrev pub closure_bodies : Action → List ℕ
closure_bodies [] = []
closure_bodies (n ∷ a) = closures_at n ++ closure_bodies a

-- whether the node allocates a cell
abbrev pub is_allocate : Node → Bool
is_allocate (Simple Allocate) = true
is_allocate _ = false

-- the numbers of the `allocate` nodes of an action, whose first node has number k
abbrev pub allocates_from : (k : ℕ) → Action → List ℕ
allocates_from k [] = []
allocates_from k (n ∷ a) = if is_allocate n then k ∷ allocates_from (suc k) a else allocates_from (suc k) a

-- the numbers of the `allocate` nodes
abbrev pub allocate_nodes : Action → List ℕ
allocate_nodes a = allocates_from 0 a

-- ---- what a node asks for

-- the value and the misfits of the yielders of node k
abbrev pub value_at : MarkedTable → ℕ → Yielder → Part
value_at t k y = value (λ s. t (Contents s)) (t (DataIn k)) (t (BindsIn k)) y

-- a clash where a yielder of node k, or one in it, does not fit
abbrev pub wrong_at : MarkedTable → ℕ → Yielder → Part
wrong_at t k y = wrong (λ s. t (Contents s)) (t (DataIn k)) (t (BindsIn k)) y

-- the tuple of data that node k gives
abbrev pub items_at : MarkedTable → ℕ → List Item → Part
items_at t k is = items_value (λ s. t (Contents s)) (t (DataIn k)) (t (BindsIn k)) is

-- a clash where an item of it does not fit
abbrev pub items_wrong_at : MarkedTable → ℕ → List Item → Part
items_wrong_at t k is = items_wrong (λ s. t (Contents s)) (t (DataIn k)) (t (BindsIn k)) is

-- reached where the node is live
abbrev pub live_at : MarkedTable → ℕ → Part
live_at t k = when (t (DataIn k)) (when (t (BindsIn k)) nothing)

-- a demand that holds only where the condition is reached
abbrev pub only_when : Part → Demand → Demand
only_when c (x ⊒ least) = x ⊒ when c least

-- the components with this token
abbrev pub under_token : Token → List Component → List Component
under_token t [] = []
under_token t (p ∷ ps) = record { token = t; set = p.set } ∷ under_token t ps

-- bindings of the token to a value
abbrev pub bound_to : Token → Part → Part
bound_to t = on_list (λ ps. Listed (under_token t ps))

-- the bindings are received by the bodies of closures that are made with them
abbrev pub received_by : Part → List ℕ → List Demand
received_by h bodies = map (λ c. BindsIn c ⊒ h) bodies

-- reached where the value has the cells of node k, or the closures of body k; a clash has all
abbrev pub reached_if : Bool → Part
reached_if b = if b then nothing else Unreached

-- reached where the set has the cells of node k
abbrev pub has_cell : ℕ → Option Set → Part
has_cell k None = Unreached
has_cell k (Some x) = reached_if (is_listed k x.cells)

-- reached where the set has the closures of body k
abbrev pub has_closure : ℕ → Option Set → Part
has_closure k None = Unreached
has_closure k (Some x) = reached_if (is_listed k x.abstractions)

-- reached where the value has the cells of node k
abbrev pub cell_in : ℕ → Part → Part
cell_in k = on_list (λ ps. has_cell k (first_set ps))

-- reached where the value has the closures of body k
abbrev pub closure_in : ℕ → Part → Part
closure_in k = on_list (λ ps. has_closure k (first_set ps))

-- the node completes with this
abbrev pub completes : ℕ → (o p : Part) → List Demand
completes k o p = DataOut k ⊒ o ∷ BindsOut k ⊒ p ∷ []

-- both are handed to part l, where both are reached
abbrev pub handed : ℕ → (g h : Part) → List Demand
handed l g h = DataIn l ⊒ when h g ∷ BindsIn l ⊒ when g h ∷ []

-- node k ends with what part or body c ends with
abbrev pub ends_like : MarkedTable → (k c : ℕ) → List Demand
ends_like t k c = DataOut k ⊒ t (DataOut c) ∷ BindsOut k ⊒ t (BindsOut c) ∷ Escaped k ⊒ t (Escaped c) ∷ []

-- what the value v stores in cells whose value is w, over all `allocate` nodes
abbrev pub stores : (v w : Part) → List ℕ → List Demand
stores v w cells = map (λ s. Contents s ⊒ when (cell_in s w) v) cells

-- what `enact` asks of each body, of which v may be a closure, with the data d
abbrev pub enacts : MarkedTable → ℕ → (v d : Part) → List ℕ → List Demand
enacts t k v d [] = []
enacts t k v d (c ∷ cs) =
    DataIn c ⊒ when (closure_in c v) d
    ∷ DataOut k ⊒ when (closure_in c v) (t (DataOut c))
    ∷ BindsOut k ⊒ when (closure_in c v) (t (BindsOut c))
    ∷ Escaped k ⊒ when (closure_in c v) (t (Escaped c))
    ∷ enacts t k v d cs

-- the demands of a primitive at a live node k; cells are the `allocate` nodes of the action
abbrev pub primitive_demands : (cells : List ℕ) → MarkedTable → ℕ → Primitive → List Demand
primitive_demands cells t k Complete = completes k nothing nothing
primitive_demands cells t k Commit = completes k nothing nothing
primitive_demands cells t k Failing = []
primitive_demands cells t k Escape = Escaped k ⊒ t (DataIn k) ∷ []
primitive_demands cells t k Regive = completes k (t (DataIn k)) nothing
primitive_demands cells t k Rebind = completes k nothing (t (BindsIn k))
primitive_demands cells t k (Give is) =
    Mark k ⊒ items_wrong_at t k is ∷ received_by (t (BindsIn k)) (closures_in_items is) ++ completes k (items_at t k is) (when (items_at t k is) nothing)
primitive_demands cells t k (EscapeWith is) =
    Mark k ⊒ items_wrong_at t k is ∷ received_by (t (BindsIn k)) (closures_in_items is) ++ Escaped k ⊒ items_at t k is ∷ []
primitive_demands cells t k (Check y) =
    let v = value_at t k y in
    Mark k ⊒ join (wrong_at t k y) (strays sort.Truth v) ∷ received_by (t (BindsIn k)) (closures_in y) ++ completes k (when v nothing) (when v nothing)
primitive_demands cells t k (Send y) =
    let v = value_at t k y in
    Mark k ⊒ join (wrong_at t k y) (strays sort.Integer v) ∷ received_by (t (BindsIn k)) (closures_in y) ++ completes k (when v nothing) (when v nothing)
primitive_demands cells t k (Bind x y) =
    let v = value_at t k y in
    Mark k ⊒ join (wrong_at t k y) (clashes v) ∷ received_by (t (BindsIn k)) (closures_in y) ++ completes k (when v nothing) (bound_to x v)
primitive_demands cells t k (BindRec x c) =
    BindsIn c ⊒ overlay (t (BindsIn k)) (bound_to x (one (closures_of_body c))) ∷ completes k nothing (bound_to x (one (closures_of_body c)))
primitive_demands cells t k (Store y1 y2) =
    let v1 = value_at t k y1 in
    let v2 = value_at t k y2 in
    Mark k ⊒ join (wrong_at t k y1) (join (clashes v1) (join (wrong_at t k y2) (strays sort.Cell v2)))
    ∷ received_by (t (BindsIn k)) (closures_in y1 ++ closures_in y2)
    ++ (stores v1 v2 cells ++ completes k (when v1 (when v2 nothing)) (when v1 (when v2 nothing)))
primitive_demands cells t k Allocate = completes k (one (cells_of_node k)) nothing
primitive_demands cells t k Receive = completes k (one integers) nothing

-- ---- combinators

-- the data and the bindings of the second part, where l is the first
abbrev pub second_data : Chain → MarkedTable → (k l : ℕ) → Part
second_data Then t k l = t (DataOut l)
second_data _ t k l = t (DataIn k)

-- the bindings that the second part is handed
abbrev pub second_binds : Chain → MarkedTable → (k l : ℕ) → Part
second_binds Hence t k l = t (BindsOut l)
second_binds Before t k l = overlay (t (BindsIn k)) (t (BindsOut l))
second_binds _ t k l = t (BindsIn k)

-- what two parts in order complete with
abbrev pub chained_data : Chain → (o1 o2 : Part) → Part
chained_data Then o1 o2 = o2
chained_data _ o1 o2 = concatenation o1 o2

-- the bindings that two parts in order complete with
abbrev pub chained_binds : Chain → (p1 p2 : Part) → Part
chained_binds Hence p1 p2 = p2
chained_binds Before p1 p2 = overlay p1 p2
chained_binds _ p1 p2 = union p1 p2

-- what the parts of `and` and `moreover` complete with
abbrev pub joined_binds : Join → (p1 p2 : Part) → Part
joined_binds And p1 p2 = union p1 p2
joined_binds Moreover p1 p2 = overlay p1 p2

-- the demands of a branch behind those of its yielder, whose value is v
abbrev pub arms : MarkedTable → ℕ → Part → (l r : ℕ) → List Demand
arms t k v l r =
    handed l (t (DataIn k)) (t (BindsIn k)) ++ (handed r (t (DataIn k)) (t (BindsIn k))
    ++ DataOut k ⊒ when v (t (DataOut l)) ∷ BindsOut k ⊒ when v (t (BindsOut l)) ∷ Escaped k ⊒ t (Escaped l)
    ∷ DataOut k ⊒ when v (t (DataOut r)) ∷ BindsOut k ⊒ when v (t (BindsOut r)) ∷ Escaped k ⊒ t (Escaped r) ∷ [])

-- the demands at node k; cells are the `allocate` nodes of the action, and bodies those of its closures
abbrev pub node_demands : (cells bodies : List ℕ) → MarkedTable → ℕ → Node → List Demand
node_demands cells bodies t k (Simple p) = map (only_when (live_at t k)) (primitive_demands cells t k p)
node_demands cells bodies t k (Enact y) =
    map (only_when (live_at t k)) (Mark k ⊒ join (wrong_at t k y) (strays sort.Abstraction (value_at t k y))
    ∷ received_by (t (BindsIn k)) (closures_in y)
    ++ enacts t k (value_at t k y) nothing bodies)
node_demands cells bodies t k (Apply y is) =
    map (only_when (live_at t k)) (Mark k ⊒ join (join (wrong_at t k y) (strays sort.Abstraction (value_at t k y))) (items_wrong_at t k is)
    ∷ received_by (t (BindsIn k)) (closures_in y ++ closures_in_items is)
    ++ enacts t k (value_at t k y) (items_at t k is) bodies)
node_demands cells bodies t k (Unfolding c) = handed c (t (DataIn k)) (t (BindsIn k)) ++ ends_like t k c
node_demands cells bodies t k (Unfold c) = handed c (t (DataIn k)) (t (BindsIn k)) ++ map (only_when (live_at t k)) (ends_like t k c)
node_demands cells bodies t k (Furthermore l) =
    handed l (t (DataIn k)) (t (BindsIn k)) ++ DataOut k ⊒ t (DataOut l) ∷ BindsOut k ⊒ overlay (t (BindsIn k)) (t (BindsOut l)) ∷ Escaped k ⊒ t (Escaped l) ∷ []
node_demands cells bodies t k (Both j l r) =
    handed l (t (DataIn k)) (t (BindsIn k)) ++ (handed r (t (DataIn k)) (t (BindsIn k))
    ++ DataOut k ⊒ concatenation (t (DataOut l)) (t (DataOut r)) ∷ BindsOut k ⊒ joined_binds j (t (BindsOut l)) (t (BindsOut r))
    ∷ Escaped k ⊒ t (Escaped l) ∷ Escaped k ⊒ t (Escaped r) ∷ [])
node_demands cells bodies t k (Phases q l r) =
    handed l (t (DataIn k)) (t (BindsIn k)) ++ (handed r (second_data q t k l) (second_binds q t k l)
    ++ DataOut k ⊒ chained_data q (t (DataOut l)) (t (DataOut r)) ∷ BindsOut k ⊒ chained_binds q (t (BindsOut l)) (t (BindsOut r))
    ∷ Escaped k ⊒ t (Escaped l) ∷ Escaped k ⊒ t (Escaped r) ∷ [])
node_demands cells bodies t k (Either l r) =
    handed l (t (DataIn k)) (t (BindsIn k)) ++ (handed r (t (DataIn k)) (t (BindsIn k)) ++ (ends_like t k l ++ ends_like t k r))
node_demands cells bodies t k (Trapping l r) =
    handed l (t (DataIn k)) (t (BindsIn k)) ++ (handed r (t (Escaped l)) (t (BindsIn k))
    ++ (DataOut k ⊒ t (DataOut l) ∷ BindsOut k ⊒ t (BindsOut l) ∷ ends_like t k r))
node_demands cells bodies t k (Branch y l r) =
    Mark k ⊒ when (live_at t k) (join (wrong_at t k y) (strays sort.Truth (when (live_at t k) (value_at t k y))))
    ∷ received_by (when (live_at t k) (t (BindsIn k))) (closures_in y)
    ++ arms t k (when (live_at t k) (value_at t k y)) l r
node_demands cells bodies t k Stray = []

-- the demands at node k of an action
abbrev pub demands : Action → MarkedTable → ℕ → List Demand
demands a t k = node_demands (allocate_nodes a) (closure_bodies a) t k (node_at a k)
