-- What the nodes of a proper action ask for is well-formed.
use Rattle.std.proofs.Common.{List, None, Option, Some, [], ap, arith, inl, inr, length, map, refl, subst, suc, sym, ℕ, ◌++◌, ◌<◌, ◌∷◌, ◌≡◌, ◌≤◌, ◌⊎◌}
use Rattle.action_terms.proofs.AllLaws.{All-member}
use Rattle.action_terms.proofs.NamedNodes.{named-within}
use Rattle.action_terms.specs.Actions.{Action, Allocate, And, AndThen, Apply, Before, Bind, BindRec, Both, BothOf, BoundTo, Branch, Chain, Check, ClosureOf, Commit, Complete, Difference, Either, EitherOf, Enact, Escape, EscapeWith, Failing, Furthermore, Give, Given, GivenAt, Hence, Is, Item, Join, Less, Moreover, Negation, Node, Not, NumberLiteral, OnOne, OnTwo, One, Phases, Primitive, Product, Quotient, Rebind, Receive, Regive, Remainder, Send, Simple, Single, Store, StoredIn, Stray, Sum, Them, Then, Trapping, TruthLiteral, Two, Unfold, Unfolding, Yielder, node_at}
use Rattle.action_terms.specs.Information.{Token}
use Rattle.action_terms.specs.Performances.{Here, Later, OneOf}
use Rattle.action_terms.specs.Proper.{IsProper, named}
use Rattle.action_terms.specs.Steps.{closures_in, closures_in_items, closures_of, joined}
use Rattle.action_terms.specs.declared.kinds.Sort.TheVariants as sort
use Rattle.action_terms.specs.declared.kinds.Sort.{Sort}
use Rattle.sort_rules.specs.Demands.{Demand, Each, MoreOf, NoneOf, allocate_nodes, bound_to, cell_in, chained_binds, chained_data, closure_bodies, closure_in, closures_at, completes, demands, enacts, ends_like, handed, items_at, items_wrong_at, joined_binds, live_at, node_demands, only_when, primitive_demands, received_by, second_binds, second_data, stores, under_token, value_at, wrong_at, ◌⊒◌}
use Rattle.sort_rules.specs.Parts.{Clash, Component, Listed, Part, Unreached, join, lookup_set, most_components, on_list, when}
use Rattle.sort_rules.specs.Raising.{IsJoined}
use Rattle.sort_rules.specs.Sets.{Set, closures_of_body, lies_in}
use Rattle.sort_rules.specs.Tables.{BindsIn, BindsOut, Contents, DataIn, DataOut, Entry, Escaped, Mark, MarkedTable}
use Rattle.sort_rules.specs.Values.{both_stray, clashes, first_set, items_wrong, misfit, misfit_one, misfit_two, nothing, nth_set, only_set, stored_value, strays, value, wrong}
use Rattle.sort_rules.specs.Wellformed.{AreOf, ClashOf, ClashTuple, HasShape, IsBindings, IsDemandOver, IsEntryOf, IsPartOf, IsTableOver, IsTuple, ListedOf, NoneListed, OneListed, UnreachedOf, UnreachedTuple}
use Rattle.sort_rules.proofs.ActionNumbers.{allocate_nodes-has, allocates_from-below, closure_bodies-below, closure_bodies-has, one_of-second}
use Rattle.sort_rules.proofs.Choices.{of_choice}
use Rattle.sort_rules.proofs.EachLaws.{each_left, each_right}
use Rattle.sort_rules.proofs.Shaped.{bindings-bound_set, bindings-bound_to, bindings-join, bindings-nothing, bindings-overlay, bindings-union, bindings-when, tuple-concatenation, tuple-items, tuple-join, tuple-nothing, tuple-one, tuple-value, tuple-when}
use Rattle.sort_rules.proofs.Wellformed.{set-integers, set-cell, set-closure, part-concatenation, part-items, part-join, part-one, part-overlay, part-union, part-value, part-when}

each_append : {A : Type 0} {P : A → Type 0} {xs ys : List A} → Each P xs → Each P ys → Each P (xs ++ ys)
each_append NoneOf h = h
each_append (MoreOf f g) h = MoreOf f (each_append g h)

-- ---- the numbers of an action

-- a mark is unreached or a clash
data IsMark : Part → Type 0 where
  NoMark : IsMark Unreached
  AMark : IsMark Clash

mark-when : (c : Part) {x : Part} → IsMark x → IsMark (when c x)
mark-when Unreached f = NoMark
mark-when (Listed ps) f = f
mark-when Clash f = f

mark-join : {x y : Part} → IsMark x → IsMark y → IsMark (join x y)
mark-join NoMark g = g
mark-join AMark g = AMark

mark-misfit : (s : Sort) (o : Option Set) → IsMark (misfit s o)
mark-misfit s None = AMark
mark-misfit s (Some x) = of_choice (lies_in s x) _ _ IsMark (λ e. NoMark) (λ e. AMark)

mark-on : {f : List Component → Part} (x : Part) → ((ps : List Component) → IsMark (f ps)) → IsMark (on_list f x)
mark-on Unreached h = NoMark
mark-on (Listed ps) h = h ps
mark-on Clash h = AMark

mark-strays : (s : Sort) (v : Part) → IsMark (strays s v)
mark-strays s v = mark-on v (λ ps. mark-misfit s (first_set ps))

mark-clashes : (v : Part) → IsMark (clashes v)
mark-clashes v = mark-on v (λ ps. NoMark)

mark-both : (s : Sort) (v1 v2 : Part) → IsMark (both_stray s v1 v2)
mark-both s v1 v2 = mark-join (mark-strays s v1) (mark-strays s v2)

mark-two : (f : Two) (v1 v2 : Part) → IsMark (misfit_two f v1 v2)
mark-two Is v1 v2 = mark-when (both_stray sort.Integer v1 v2) (mark-when (both_stray sort.Truth v1 v2) (mark-both sort.Cell v1 v2))
mark-two BothOf v1 v2 = mark-both sort.Truth v1 v2
mark-two EitherOf v1 v2 = mark-both sort.Truth v1 v2
mark-two Sum v1 v2 = mark-both sort.Integer v1 v2
mark-two Difference v1 v2 = mark-both sort.Integer v1 v2
mark-two Product v1 v2 = mark-both sort.Integer v1 v2
mark-two Quotient v1 v2 = mark-both sort.Integer v1 v2
mark-two Remainder v1 v2 = mark-both sort.Integer v1 v2
mark-two Less v1 v2 = mark-both sort.Integer v1 v2

mark-one : (f : One) (v : Part) → IsMark (misfit_one f v)
mark-one Negation v = mark-strays sort.Integer v
mark-one Not v = mark-strays sort.Truth v

mark-wrong : (c : ℕ → Part) (g h : Part) (y : Yielder) → IsMark (wrong c g h y)
mark-wrong c g h (NumberLiteral n) = NoMark
mark-wrong c g h (TruthLiteral b) = NoMark
mark-wrong c g h (Given s) = mark-on g (λ ps. mark-misfit s (only_set ps))
mark-wrong c g h (GivenAt s n) = mark-on g (λ ps. mark-misfit s (nth_set n ps))
mark-wrong c g h (BoundTo s t) = mark-on h (λ ps. mark-misfit s (lookup_set t ps))
mark-wrong c g h (StoredIn s y) = mark-join (mark-wrong c g h y) (mark-join (mark-strays sort.Cell (value c g h y)) (mark-strays s (stored_value c (value c g h y))))
mark-wrong c g h (OnTwo f y1 y2) = mark-join (mark-wrong c g h y1) (mark-join (mark-wrong c g h y2) (mark-two f (value c g h y1) (value c g h y2)))
mark-wrong c g h (OnOne f y) = mark-join (mark-wrong c g h y) (mark-one f (value c g h y))
mark-wrong c g h (ClosureOf k) = NoMark

mark-items : (c : ℕ → Part) (g h : Part) (is : List Item) → IsMark (items_wrong c g h is)
mark-items c g h [] = NoMark
mark-items c g h (Single y ∷ is) = mark-join (mark-join (mark-wrong c g h y) (mark-clashes (value c g h y))) (mark-items c g h is)
mark-items c g h (Them ∷ is) = mark-join (mark-clashes g) (mark-items c g h is)

-- ---- demands

shape-when : (x : Entry) (c v : Part) → HasShape x v → HasShape x (when c v)
shape-when (DataIn k) c v f = tuple-when c f
shape-when (BindsIn k) c v f = bindings-when c f
shape-when (DataOut k) c v f = tuple-when c f
shape-when (BindsOut k) c v f = bindings-when c f
shape-when (Escaped k) c v f = tuple-when c f
shape-when (Contents k) c v f = tuple-when c f
shape-when (Mark k) c v f = tuple-when c f

shape-join : (x : Entry) (u v : Part) → HasShape x u → HasShape x v → HasShape x (join u v)
shape-join (DataIn k) u v f g = tuple-join f g
shape-join (BindsIn k) u v f g = bindings-join f g
shape-join (DataOut k) u v f g = tuple-join f g
shape-join (BindsOut k) u v f g = bindings-join f g
shape-join (Escaped k) u v f g = tuple-join f g
shape-join (Contents k) u v f g = tuple-join f g
shape-join (Mark k) u v f g = tuple-join f g

-- a table goes on to be well-formed
pub joined_over : {cs bs : List ℕ} {t u : MarkedTable} {x : Entry} {v : Part} → IsTableOver cs bs t → IsEntryOf cs bs x v → IsJoined t u x v → IsTableOver cs bs u
joined_over {cs} {bs} {t} {u} {x} {v} ts vs joined y = go (joined.others y)
  where
    here : IsEntryOf cs bs x (u x)
    here = subst (IsEntryOf cs bs x) (sym joined.at) (record { sets = part-join (ts x).sets vs.sets; shape = shape-join x (t x) v (ts x).shape vs.shape })

    go : (y ≡ x) ⊎ (u y ≡ t y) → IsEntryOf cs bs y (u y)
    go (inl e) = subst (λ (z : Entry). IsEntryOf cs bs z (u z)) (sym e) here
    go (inr e) = subst (IsEntryOf cs bs y) (sym e) (ts y)

module _ (cs bs : List ℕ) (n : ℕ) (cells_less : (c : ℕ) → OneOf c cs → c < n) (bodies_less : (c : ℕ) → OneOf c bs → c < n) (t : MarkedTable) (ts : IsTableOver cs bs t) where
  abbrev Over : List Demand → Type 0
  Over ds = Each (IsDemandOver cs bs n) ds

  over-when : (c : Part) {ds : List Demand} → Over ds → Over (map (only_when c) ds)
  over-when c NoneOf = NoneOf
  over-when c (MoreOf {x = x ⊒ v} f g) = MoreOf (record { sets = part-when c f.0.sets; shape = shape-when x c v f.0.shape }, f.1) (over-when c g)

  nothing_of : IsPartOf cs bs nothing
  nothing_of = ListedOf NoneListed (omega arith)

  value_of : (k : ℕ) (y : Yielder) → Each (λ c. OneOf c bs) (closures_in y) → IsPartOf cs bs (value_at t k y)
  value_of k y q = part-value (λ s. (ts (Contents s)).sets) (ts (DataIn k)).sets (ts (BindsIn k)).sets y q

  items_of : (k : ℕ) (is : List Item) → Each (λ c. OneOf c bs) (closures_in_items is) → IsPartOf cs bs (items_at t k is)
  items_of k is q = part-items (λ s. (ts (Contents s)).sets) (ts (DataIn k)).sets (ts (BindsIn k)).sets is q

  value_tuple : (k : ℕ) (y : Yielder) → IsTuple (value_at t k y)
  value_tuple k y = tuple-value (λ s. t (Contents s)) (t (DataIn k)) (t (BindsIn k)) y

  mark_over : (k : ℕ) {v : Part} → k < n → IsMark v → IsDemandOver cs bs n (Mark k ⊒ v)
  mark_over k less NoMark = (record { sets = UnreachedOf; shape = UnreachedTuple }, less)
  mark_over k less AMark = (record { sets = ClashOf; shape = ClashTuple }, less)

  completes_over : (k : ℕ) {o p : Part} → k < n → IsPartOf cs bs o → IsTuple o → IsPartOf cs bs p → IsBindings p → Over (completes k o p)
  completes_over k less f g f2 g2 = MoreOf (record { sets = f; shape = g }, less) (MoreOf (record { sets = f2; shape = g2 }, less) NoneOf)

  nothing_when : (c : Part) → IsPartOf cs bs (when c nothing)
  nothing_when c = part-when c nothing_of

  received_over : {h : Part} → IsPartOf cs bs h → IsBindings h → (bodies : List ℕ) → Each (λ c. OneOf c bs) bodies → Over (received_by h bodies)
  received_over f g [] NoneOf = NoneOf
  received_over f g (c ∷ bodies) (MoreOf m q) = MoreOf (record { sets = f; shape = g }, bodies_less c m) (received_over f g bodies q)

  handed_over : (l : ℕ) {g h : Part} → l < n → IsPartOf cs bs g → IsTuple g → IsPartOf cs bs h → IsBindings h → Over (handed l g h)
  handed_over l {g} {h} less f f2 q q2 =
      MoreOf (record { sets = part-when h f; shape = tuple-when h f2 }, less) (MoreOf (record { sets = part-when g q; shape = bindings-when g q2 }, less) NoneOf)

  ends_over : (k c : ℕ) → k < n → Over (ends_like t k c)
  ends_over k c less =
      MoreOf (record { sets = (ts (DataOut c)).sets; shape = (ts (DataOut c)).shape }, less)
      (MoreOf (record { sets = (ts (BindsOut c)).sets; shape = (ts (BindsOut c)).shape }, less) (MoreOf (record { sets = (ts (Escaped c)).sets; shape = (ts (Escaped c)).shape }, less) NoneOf))

  stores_over : {v : Part} (w : Part) → IsPartOf cs bs v → IsTuple v → (ks : List ℕ) → ((c : ℕ) → OneOf c ks → OneOf c cs) → Over (stores v w ks)
  stores_over w f g [] m = NoneOf
  stores_over w f g (c ∷ ks) m = MoreOf (record { sets = part-when (cell_in c w) f; shape = tuple-when (cell_in c w) g }, cells_less c (m c Here)) (stores_over w f g ks (λ i h. m i (Later h)))

  enacts_over : (k : ℕ) (v : Part) {d : Part} → k < n → IsPartOf cs bs d → IsTuple d → (ks : List ℕ) → ((c : ℕ) → OneOf c ks → OneOf c bs) → Over (enacts t k v d ks)
  enacts_over k v less f g [] m = NoneOf
  enacts_over k v less f g (c ∷ ks) m =
      let q = closure_in c v in
      MoreOf (record { sets = part-when q f; shape = tuple-when q g }, bodies_less c (m c Here))
      (MoreOf (record { sets = part-when q (ts (DataOut c)).sets; shape = tuple-when q (ts (DataOut c)).shape }, less)
      (MoreOf (record { sets = part-when q (ts (BindsOut c)).sets; shape = bindings-when q (ts (BindsOut c)).shape }, less)
      (MoreOf (record { sets = part-when q (ts (Escaped c)).sets; shape = tuple-when q (ts (Escaped c)).shape }, less)
      (enacts_over k v less f g ks (λ i h. m i (Later h))))))

  bound_of : (x : Token) {v : Part} → IsPartOf cs bs v → IsPartOf cs bs (bound_to x v)
  bound_of x UnreachedOf = UnreachedOf
  bound_of x (ListedOf {ps} f l) = ListedOf (under x f) (subst (λ (m : ℕ). m ≤ most_components) (sym (same x ps)) l)
    where
      under : (x : Token) {ps : List Component} → AreOf cs bs ps → AreOf cs bs (under_token x ps)
      under x NoneListed = NoneListed
      under x (OneListed f e g) = OneListed f e (under x g)

      same : (x : Token) (ps : List Component) → length (under_token x ps) ≡ length ps
      same x [] = refl
      same x (p ∷ ps) = ap suc (same x ps)
  bound_of x ClashOf = ClashOf

  value_mark : (k : ℕ) (y : Yielder) → IsMark (wrong_at t k y)
  value_mark k y = mark-wrong (λ s. t (Contents s)) (t (DataIn k)) (t (BindsIn k)) y

  primitive_over : (k : ℕ) (p : Primitive) → k < n → ((p ≡ Allocate) → OneOf k cs) → Each (λ c. OneOf c bs) (closures_of p) → Over (primitive_demands cs t k p)
  primitive_over k Complete less al q = completes_over k less nothing_of tuple-nothing nothing_of bindings-nothing
  primitive_over k Commit less al q = completes_over k less nothing_of tuple-nothing nothing_of bindings-nothing
  primitive_over k Failing less al q = NoneOf
  primitive_over k Escape less al q = MoreOf (record { sets = (ts (DataIn k)).sets; shape = (ts (DataIn k)).shape }, less) NoneOf
  primitive_over k Regive less al q = completes_over k less (ts (DataIn k)).sets (ts (DataIn k)).shape nothing_of bindings-nothing
  primitive_over k Rebind less al q = completes_over k less nothing_of tuple-nothing (ts (BindsIn k)).sets (ts (BindsIn k)).shape
  primitive_over k (Give is) less al q =
      MoreOf (mark_over k less (mark-items (λ s. t (Contents s)) (t (DataIn k)) (t (BindsIn k)) is))
      (each_append (received_over (ts (BindsIn k)).sets (ts (BindsIn k)).shape (closures_in_items is) q)
      (completes_over k less (items_of k is q) (tuple-items (λ s. t (Contents s)) (t (BindsIn k)) (ts (DataIn k)).shape is) (nothing_when (items_at t k is)) (bindings-when (items_at t k is) bindings-nothing)))
  primitive_over k (EscapeWith is) less al q =
      MoreOf (mark_over k less (mark-items (λ s. t (Contents s)) (t (DataIn k)) (t (BindsIn k)) is))
      (each_append (received_over (ts (BindsIn k)).sets (ts (BindsIn k)).shape (closures_in_items is) q)
      (MoreOf (record { sets = items_of k is q; shape = tuple-items (λ s. t (Contents s)) (t (BindsIn k)) (ts (DataIn k)).shape is }, less) NoneOf))
  primitive_over k (Check y) less al q =
      MoreOf (mark_over k less (mark-join (value_mark k y) (mark-strays sort.Truth (value_at t k y))))
      (each_append (received_over (ts (BindsIn k)).sets (ts (BindsIn k)).shape (closures_in y) q)
      (completes_over k less (nothing_when (value_at t k y)) (tuple-when (value_at t k y) tuple-nothing) (nothing_when (value_at t k y)) (bindings-when (value_at t k y) bindings-nothing)))
  primitive_over k (Send y) less al q =
      MoreOf (mark_over k less (mark-join (value_mark k y) (mark-strays sort.Integer (value_at t k y))))
      (each_append (received_over (ts (BindsIn k)).sets (ts (BindsIn k)).shape (closures_in y) q)
      (completes_over k less (nothing_when (value_at t k y)) (tuple-when (value_at t k y) tuple-nothing) (nothing_when (value_at t k y)) (bindings-when (value_at t k y) bindings-nothing)))
  primitive_over k (Bind x y) less al q =
      MoreOf (mark_over k less (mark-join (value_mark k y) (mark-clashes (value_at t k y))))
      (each_append (received_over (ts (BindsIn k)).sets (ts (BindsIn k)).shape (closures_in y) q)
      (completes_over k less (nothing_when (value_at t k y)) (tuple-when (value_at t k y) tuple-nothing) (bound_of x (value_of k y q)) (bindings-bound_to x (λ s. t (Contents s)) (t (DataIn k)) (t (BindsIn k)) y)))
  primitive_over k (BindRec x c) less al (MoreOf m q) =
      let own = bound_of x (part-one (set-closure m) refl) in
      MoreOf (record { sets = part-overlay (ts (BindsIn k)).sets own; shape = bindings-overlay (ts (BindsIn k)).shape (bindings-bound_set x (closures_of_body c)) }, bodies_less c m)
      (completes_over k less nothing_of tuple-nothing own (bindings-bound_set x (closures_of_body c)))
  primitive_over k (Store y1 y2) less al q =
      let q1 = each_left (closures_in y1) (closures_in y2) q in
      let v1 = value_at t k y1 in
      let v2 = value_at t k y2 in
      MoreOf (mark_over k less (mark-join (value_mark k y1) (mark-join (mark-clashes v1) (mark-join (value_mark k y2) (mark-strays sort.Cell v2)))))
      (each_append (received_over (ts (BindsIn k)).sets (ts (BindsIn k)).shape (closures_in y1 ++ closures_in y2) q)
      (each_append (stores_over v2 (value_of k y1 q1) (value_tuple k y1) cs (λ c h. h))
      (completes_over k less (part-when v1 (nothing_when v2)) (tuple-when v1 (tuple-when v2 tuple-nothing)) (part-when v1 (nothing_when v2)) (bindings-when v1 (bindings-when v2 bindings-nothing)))))
  primitive_over k Allocate less al q = completes_over k less (part-one (set-cell (al refl)) refl) tuple-one nothing_of bindings-nothing
  primitive_over k Receive less al q = completes_over k less (part-one set-integers refl) tuple-one nothing_of bindings-nothing

  join_over : (j : Join) {x y : Part} → IsPartOf cs bs x × IsBindings x → IsPartOf cs bs y × IsBindings y → IsPartOf cs bs (joined_binds j x y) × IsBindings (joined_binds j x y)
  join_over And f g = (part-union f.0 g.0, bindings-union f.1 g.1)
  join_over Moreover f g = (part-overlay f.0 g.0, bindings-overlay f.1 g.1)

  chained_binds_over : (q : Chain) {x y : Part} → IsPartOf cs bs x × IsBindings x → IsPartOf cs bs y × IsBindings y → IsPartOf cs bs (chained_binds q x y) × IsBindings (chained_binds q x y)
  chained_binds_over Hence f g = g
  chained_binds_over Before f g = (part-overlay f.0 g.0, bindings-overlay f.1 g.1)
  chained_binds_over AndThen f g = (part-union f.0 g.0, bindings-union f.1 g.1)
  chained_binds_over Then f g = (part-union f.0 g.0, bindings-union f.1 g.1)

  chained_data_over : (q : Chain) {x y : Part} → IsPartOf cs bs x × IsTuple x → IsPartOf cs bs y × IsTuple y → IsPartOf cs bs (chained_data q x y) × IsTuple (chained_data q x y)
  chained_data_over Then f g = g
  chained_data_over AndThen f g = (part-concatenation f.0 g.0, tuple-concatenation f.1 g.1)
  chained_data_over Hence f g = (part-concatenation f.0 g.0, tuple-concatenation f.1 g.1)
  chained_data_over Before f g = (part-concatenation f.0 g.0, tuple-concatenation f.1 g.1)

  second_data_over : (q : Chain) (k l : ℕ) → IsPartOf cs bs (second_data q t k l) × IsTuple (second_data q t k l)
  second_data_over Then k l = ((ts (DataOut l)).sets, (ts (DataOut l)).shape)
  second_data_over AndThen k l = ((ts (DataIn k)).sets, (ts (DataIn k)).shape)
  second_data_over Hence k l = ((ts (DataIn k)).sets, (ts (DataIn k)).shape)
  second_data_over Before k l = ((ts (DataIn k)).sets, (ts (DataIn k)).shape)

  second_binds_over : (q : Chain) (k l : ℕ) → IsPartOf cs bs (second_binds q t k l) × IsBindings (second_binds q t k l)
  second_binds_over Hence k l = ((ts (BindsOut l)).sets, (ts (BindsOut l)).shape)
  second_binds_over Before k l = (part-overlay (ts (BindsIn k)).sets (ts (BindsOut l)).sets, bindings-overlay (ts (BindsIn k)).shape (ts (BindsOut l)).shape)
  second_binds_over AndThen k l = ((ts (BindsIn k)).sets, (ts (BindsIn k)).shape)
  second_binds_over Then k l = ((ts (BindsIn k)).sets, (ts (BindsIn k)).shape)

  own_over : (l k : ℕ) → l < n → Over (handed l (t (DataIn k)) (t (BindsIn k)))
  own_over l k less = handed_over l less (ts (DataIn k)).sets (ts (DataIn k)).shape (ts (BindsIn k)).sets (ts (BindsIn k)).shape

  escapes_over : (k l r : ℕ) → k < n → Over (Escaped k ⊒ t (Escaped l) ∷ Escaped k ⊒ t (Escaped r) ∷ [])
  escapes_over k l r less = MoreOf (record { sets = (ts (Escaped l)).sets; shape = (ts (Escaped l)).shape }, less) (MoreOf (record { sets = (ts (Escaped r)).sets; shape = (ts (Escaped r)).shape }, less) NoneOf)

  arm_over : (k l : ℕ) (v : Part) → k < n → Over (DataOut k ⊒ when v (t (DataOut l)) ∷ BindsOut k ⊒ when v (t (BindsOut l)) ∷ Escaped k ⊒ t (Escaped l) ∷ [])
  arm_over k l v less =
      MoreOf (record { sets = part-when v (ts (DataOut l)).sets; shape = tuple-when v (ts (DataOut l)).shape }, less)
      (MoreOf (record { sets = part-when v (ts (BindsOut l)).sets; shape = bindings-when v (ts (BindsOut l)).shape }, less)
      (MoreOf (record { sets = (ts (Escaped l)).sets; shape = (ts (Escaped l)).shape }, less) NoneOf))

  data_pair : (l : ℕ) → IsPartOf cs bs (t (DataOut l)) × IsTuple (t (DataOut l))
  data_pair l = ((ts (DataOut l)).sets, (ts (DataOut l)).shape)

  binds_pair : (l : ℕ) → IsPartOf cs bs (t (BindsOut l)) × IsBindings (t (BindsOut l))
  binds_pair l = ((ts (BindsOut l)).sets, (ts (BindsOut l)).shape)

  -- what a node asks for is well-formed, and of nodes of the action
  pub node_over : (k : ℕ) (m : Node) → k < n → ((m ≡ Simple Allocate) → OneOf k cs) → Each (λ c. OneOf c bs) (closures_at m) → ((j : ℕ) → OneOf j (named m) → j < n) → Over (node_demands cs bs t k m)
  node_over k (Simple p) less al q w = over-when (live_at t k) (primitive_over k p less (λ e. al (ap Simple e)) q)
  node_over k (Enact y) less al q w =
      over-when (live_at t k) (MoreOf {x = Mark k ⊒ join (wrong_at t k y) (strays sort.Abstraction (value_at t k y))} (mark_over k less (mark-join (value_mark k y) (mark-strays sort.Abstraction (value_at t k y))))
      (each_append (received_over (ts (BindsIn k)).sets (ts (BindsIn k)).shape (closures_in y) q) (enacts_over k (value_at t k y) less nothing_of tuple-nothing bs (λ c h. h))))
  node_over k (Apply y is) less al q w =
      over-when (live_at t k) (MoreOf {x = Mark k ⊒ join (join (wrong_at t k y) (strays sort.Abstraction (value_at t k y))) (items_wrong_at t k is)} (mark_over k less (mark-join (mark-join (value_mark k y) (mark-strays sort.Abstraction (value_at t k y))) (mark-items (λ s. t (Contents s)) (t (DataIn k)) (t (BindsIn k)) is)))
      (each_append (received_over (ts (BindsIn k)).sets (ts (BindsIn k)).shape (closures_in y ++ closures_in_items is) q)
      (enacts_over k (value_at t k y) less (items_of k is (each_right (closures_in y) q)) (tuple-items (λ s. t (Contents s)) (t (BindsIn k)) (ts (DataIn k)).shape is) bs (λ c h. h))))
  node_over k (Unfolding c) less al q w = each_append (own_over c k (w c Here)) (ends_over k c less)
  node_over k (Unfold c) less al q w = each_append (own_over c k (w c Here)) (over-when (live_at t k) (ends_over k c less))
  node_over k (Furthermore l) less al q w =
      each_append (own_over l k (w l Here)) (MoreOf (record { sets = (ts (DataOut l)).sets; shape = (ts (DataOut l)).shape }, less)
      (MoreOf (record { sets = part-overlay (ts (BindsIn k)).sets (ts (BindsOut l)).sets; shape = bindings-overlay (ts (BindsIn k)).shape (ts (BindsOut l)).shape }, less)
      (MoreOf (record { sets = (ts (Escaped l)).sets; shape = (ts (Escaped l)).shape }, less) NoneOf)))
  node_over k (Both j l r) less al q w =
      let b = join_over j (binds_pair l) (binds_pair r) in
      each_append (own_over l k (w l Here)) (each_append (own_over r k (w r (Later Here)))
      (MoreOf (record { sets = part-concatenation (ts (DataOut l)).sets (ts (DataOut r)).sets; shape = tuple-concatenation (ts (DataOut l)).shape (ts (DataOut r)).shape }, less)
      (MoreOf (record { sets = b.0; shape = b.1 }, less) (escapes_over k l r less))))
  node_over k (Phases j l r) less al q w =
      let d = chained_data_over j (data_pair l) (data_pair r) in
      let b = chained_binds_over j (binds_pair l) (binds_pair r) in
      let d2 = second_data_over j k l in
      let b2 = second_binds_over j k l in
      each_append (own_over l k (w l Here)) (each_append (handed_over r (w r (Later Here)) d2.0 d2.1 b2.0 b2.1)
      (MoreOf (record { sets = d.0; shape = d.1 }, less) (MoreOf (record { sets = b.0; shape = b.1 }, less) (escapes_over k l r less))))
  node_over k (Either l r) less al q w =
      each_append (own_over l k (w l Here)) (each_append (own_over r k (w r (Later Here))) (each_append (ends_over k l less) (ends_over k r less)))
  node_over k (Trapping l r) less al q w =
      each_append (own_over l k (w l Here)) (each_append (handed_over r (w r (Later Here)) (ts (Escaped l)).sets (ts (Escaped l)).shape (ts (BindsIn k)).sets (ts (BindsIn k)).shape)
      (MoreOf (record { sets = (ts (DataOut l)).sets; shape = (ts (DataOut l)).shape }, less) (MoreOf (record { sets = (ts (BindsOut l)).sets; shape = (ts (BindsOut l)).shape }, less) (ends_over k r less))))
  node_over k (Branch y l r) less al q w =
      let v = when (live_at t k) (value_at t k y) in
      let wl = w l (one_of-second (closures_in y) (l ∷ r ∷ []) l Here) in
      let wr = w r (one_of-second (closures_in y) (l ∷ r ∷ []) r (Later Here)) in
      MoreOf (mark_over k less (mark-when (live_at t k) (mark-join (value_mark k y) (mark-strays sort.Truth v))))
      (each_append (received_over (part-when (live_at t k) (ts (BindsIn k)).sets) (bindings-when (live_at t k) (ts (BindsIn k)).shape) (closures_in y) q)
      (each_append (own_over l k wl) (each_append (own_over r k wr) (each_append (arm_over k l v less) (arm_over k r v less)))))
  node_over k Stray less al q w = NoneOf

-- the demands of a proper action over a well-formed table
pub demands_over : (a : Action) → IsProper a → (t : MarkedTable) → IsTableOver (allocate_nodes a) (closure_bodies a) t → (k : ℕ) → k < length a → Each (IsDemandOver (allocate_nodes a) (closure_bodies a) (length a)) (demands a t k)
demands_over a proper t ts k less =
    node_over (allocate_nodes a) (closure_bodies a) (length a) cells (λ c h. closure_bodies-below (length a) a c proper.nodes h) t ts k (node_at a k) less
    (λ e. allocate_nodes-has a k e) (closure_bodies-has a k) (λ j h. All-member (λ i. i < length a) j (named (node_at a k)) h (named-within a k proper))
  where
    cells : (c : ℕ) → OneOf c (allocate_nodes a) → c < length a
    cells c h = omega (arith, allocates_from-below 0 a c h)
