-- The yielders of a node that runs with what fits are clear, so they yield nothing only by a cell that is unset or an operation without a result.
use Rattle.std.proofs.Common.{List, None, [], false, refl, subst, ℕ, ◌++◌, ◌∷◌, ◌≡◌}
use Rattle.action_terms.specs.Actions.{Action, Allocate, Apply, Bind, BindRec, Both, Branch, Check, Commit, Complete, Either, Enact, Escape, EscapeWith, Failing, Furthermore, Give, Item, Node, Phases, Primitive, Rebind, Receive, Regive, Send, Simple, Single, Store, Stray, Them, Trapping, Unfold, Unfolding, Yielder, node_at}
use Rattle.action_terms.specs.Information.{Binds, Data, Storage}
use Rattle.action_terms.specs.Performances.{OneOf}
use Rattle.action_terms.specs.Steps.{closures_in, closures_in_items, closures_of}
use Rattle.action_terms.specs.Yielding.{yields}
use Rattle.action_terms.specs.declared.kinds.Sort.TheVariants as sort
use Rattle.sort_rules.specs.Admissible.{is_clash}
use Rattle.sort_rules.specs.Demands.{Demand, Each, IsMet, MoreOf, NoneOf, items_wrong_at, live_at, primitive_demands, received_by, value_at, wrong_at, ◌⊒◌}
use Rattle.sort_rules.specs.Fitting.{CellsFit, Enters, Sorted}
use Rattle.sort_rules.specs.Operands.{Blocks, item_yielders, node_yielders, primitive_yielders}
use Rattle.sort_rules.specs.Parts.{Below, Part, join, when}
use Rattle.sort_rules.specs.Tables.{BindsIn, DataIn, Mark}
use Rattle.sort_rules.specs.Values.{clashes, strays}
use Rattle.sort_rules.proofs.EachLaws.{each_head, each_left, each_one, each_right, each_tail}
use Rattle.sort_rules.proofs.FittedYielders.{Captured}
use Rattle.sort_rules.proofs.LeastTables.{clear_below}
use Rattle.sort_rules.proofs.Progress.{clear_left, clear_right, progress}
use Rattle.sort_rules.proofs.Standing.{Stands, demands_at, each_captured, live_met, live_reached}

-- the closures of the yielder get the node's bindings, and neither it nor a yielder in it is a misfit
record IsClearYielder (c : Sorted) (k : ℕ) (y : Yielder) : Type 0 where
  captured : Each (Captured c (c.table (BindsIn k))) (closures_in y)
  clear : is_clash (wrong_at c.table k y) ≡ false

-- the yielders of items
items_clear : {c : Sorted} {k : ℕ} (is : List Item) → Each (Captured c (c.table (BindsIn k))) (closures_in_items is) → is_clash (items_wrong_at c.table k is) ≡ false → Each (IsClearYielder c k) (item_yielders is)
items_clear [] q e = NoneOf
items_clear {c} {k} (Single y ∷ is) q e =
    let wrong = wrong_at c.table k y in
    let first = join wrong (clashes (value_at c.table k y)) in
    let rest = items_wrong_at c.table k is in
    MoreOf (record { captured = each_left (closures_in y) (closures_in_items is) q; clear = clear_left wrong (clashes (value_at c.table k y)) (clear_left first rest e) })
    (items_clear is (each_right (closures_in y) q) (clear_right first rest e))
items_clear {c} {k} (Them ∷ is) q e = items_clear is q (clear_right (clashes (c.table (DataIn k))) (items_wrong_at c.table k is) e)

-- one yielder
yielder_clear : {c : Sorted} {k : ℕ} {y : Yielder} → Each (Captured c (c.table (BindsIn k))) (closures_in y) → is_clash (wrong_at c.table k y) ≡ false → Each (IsClearYielder c k) (y ∷ [])
yielder_clear q e = MoreOf (record { captured = q; clear = e }) NoneOf

module _ {c : Sorted} {a : Action} {w : List ℕ} {k : ℕ} {d : Data} {b : Binds} (s : Stands c a) (en : Enters c w k d b) where
  -- what a yielder's closures capture, where the demands behind that of the mark are met
  captures : (bodies : List ℕ) {x : Part} (rest : List Demand) → Each (IsMet c.table) (Mark k ⊒ x ∷ received_by (c.table (BindsIn k)) bodies ++ rest) → Each (λ b. OneOf b c.bodies) bodies → Each (Captured c (c.table (BindsIn k))) bodies
  captures bodies rest m bs = each_captured {c = c} bodies (each_left (received_by (c.table (BindsIn k)) bodies) rest (each_tail m)) bs

  mark_clear : {x : Part} {rest : List Demand} → Each (IsMet c.table) (Mark k ⊒ x ∷ rest) → is_clash x ≡ false
  mark_clear m = clear_below (each_head m) (s.clear k)

  primitive_clear : (p : Primitive) → Each (IsMet c.table) (primitive_demands c.cells c.table k p) → Each (λ b. OneOf b c.bodies) (closures_of p) → Each (IsClearYielder c k) (primitive_yielders p)
  primitive_clear (Give is) m bs = items_clear is (captures (closures_in_items is) _ m bs) (mark_clear m)
  primitive_clear (EscapeWith is) m bs = items_clear is (captures (closures_in_items is) _ m bs) (mark_clear m)
  primitive_clear (Check y) m bs = yielder_clear (captures (closures_in y) _ m bs) (clear_left (wrong_at c.table k y) (strays sort.Truth (value_at c.table k y)) (mark_clear m))
  primitive_clear (Send y) m bs = yielder_clear (captures (closures_in y) _ m bs) (clear_left (wrong_at c.table k y) (strays sort.Integer (value_at c.table k y)) (mark_clear m))
  primitive_clear (Bind t y) m bs = yielder_clear (captures (closures_in y) _ m bs) (clear_left (wrong_at c.table k y) (clashes (value_at c.table k y)) (mark_clear m))
  primitive_clear (Store y1 y2) m bs =
      let qs = captures (closures_in y1 ++ closures_in y2) _ m bs in
      let e = mark_clear m in
      let cell = strays sort.Cell (value_at c.table k y2) in
      let second = join (wrong_at c.table k y2) cell in
      let rest = join (clashes (value_at c.table k y1)) second in
      let e2 = clear_right (clashes (value_at c.table k y1)) second (clear_right (wrong_at c.table k y1) rest e) in
      MoreOf (record { captured = each_left (closures_in y1) (closures_in y2) qs; clear = clear_left (wrong_at c.table k y1) rest e })
      (yielder_clear (each_right (closures_in y1) qs) (clear_left (wrong_at c.table k y2) cell e2))
  primitive_clear Complete m bs = NoneOf
  primitive_clear Commit m bs = NoneOf
  primitive_clear Failing m bs = NoneOf
  primitive_clear Escape m bs = NoneOf
  primitive_clear Regive m bs = NoneOf
  primitive_clear Rebind m bs = NoneOf
  primitive_clear (BindRec t j) m bs = NoneOf
  primitive_clear Allocate m bs = NoneOf
  primitive_clear Receive m bs = NoneOf

  node_clear : (n : Node) → node_at a k ≡ n → Each (IsClearYielder c k) (node_yielders n)
  node_clear (Simple p) e = primitive_clear p (live_met (live_reached en) (demands_at k s e)) (s.bodies k _ e)
  node_clear (Enact y) e =
      let m = live_met (live_reached en) (demands_at k s e) in
      yielder_clear (captures (closures_in y) _ m (s.bodies k _ e)) (clear_left (wrong_at c.table k y) (strays sort.Abstraction (value_at c.table k y)) (mark_clear m))
  node_clear (Apply y is) e =
      let m = live_met (live_reached en) (demands_at k s e) in
      let operand = join (wrong_at c.table k y) (strays sort.Abstraction (value_at c.table k y)) in
      let qs = captures (closures_in y ++ closures_in_items is) _ m (s.bodies k _ e) in
      let clear = mark_clear m in
      MoreOf (record { captured = each_left (closures_in y) (closures_in_items is) qs; clear = clear_left (wrong_at c.table k y) (strays sort.Abstraction (value_at c.table k y)) (clear_left operand (items_wrong_at c.table k is) clear) })
      (items_clear is (each_right (closures_in y) qs) (clear_right operand (items_wrong_at c.table k is) clear))
  node_clear (Branch y l r) e =
      let live = live_reached en in
      let val = value_at c.table k y in
      let m = demands_at k s e in
      let mark : Below (join (wrong_at c.table k y) (strays sort.Truth val)) (c.table (Mark k)) =
      subst (λ z. Below (when z (join (wrong_at c.table k y) (strays sort.Truth (when z val)))) (c.table (Mark k))) live (each_head m) in
      let m2 = each_tail {x = Mark k ⊒ when (live_at c.table k) (join (wrong_at c.table k y) (strays sort.Truth (when (live_at c.table k) val)))} m in
      let caps : Each (IsMet c.table) (received_by (c.table (BindsIn k)) (closures_in y)) = subst (λ z. Each (IsMet c.table) (received_by (when z (c.table (BindsIn k))) (closures_in y))) live (each_left (received_by (when (live_at c.table k) (c.table (BindsIn k))) (closures_in y)) _ m2) in
      yielder_clear (each_captured {c = c} (closures_in y) caps (s.bodies k _ e)) (clear_left (wrong_at c.table k y) (strays sort.Truth val) (clear_below mark (s.clear k)))
  node_clear (Unfolding j) e = NoneOf
  node_clear (Unfold j) e = NoneOf
  node_clear (Furthermore l) e = NoneOf
  node_clear (Both j l r) e = NoneOf
  node_clear (Phases q l r) e = NoneOf
  node_clear (Either l r) e = NoneOf
  node_clear (Trapping l r) e = NoneOf
  node_clear Stray e = NoneOf

  -- a yielder of the node that yields nothing
  pub yielders_block : {cells : Storage} → CellsFit c w cells → (y : Yielder) → OneOf y (node_yielders (node_at a k)) → yields y d b cells ≡ None → Blocks d b cells y
  yielders_block cf y m none = let h = each_one m (node_clear (node_at a k) refl) in progress cf en.given en.received y h.captured h.clear none
