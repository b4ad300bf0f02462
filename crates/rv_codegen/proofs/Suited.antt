-- What an admissible sort table tells of a node that is to be performed, and of what its one step ends with: lengths of data and sorts of what yielders yield.
use Rattle.std.proofs.Common.{◌≡◌, ℕ, ℤ, List, length, refl, subst}
use Rattle.action_terms.specs.Information.{Binds, Data, World}
use Rattle.action_terms.specs.Actions.{Item, Yielder, Check, Give, EscapeWith, Send, Primitive, Simple, Action, node_at}
use Rattle.action_terms.specs.Acting.{Done, Esc, Ended, Run}
use Rattle.action_terms.specs.Frames.{Frame, plug}
use Rattle.action_terms.specs.Performances.{OneOf, State}
use Rattle.action_terms.specs.Steps.{Step, open_steps}
use Rattle.action_terms.specs.Suited.{AreSuited, IsOfSort, IsSuited, IsSuitedNode, IsSuitedPrimitive}
use Rattle.action_terms.specs.Yielding.{yields}
use Rattle.action_terms.specs.declared.kinds.Sort.TheVariants as sort
use Rattle.action_terms.proofs.Parts.{Reaches}
use Rattle.sort_rules.specs.Admissible.{IsAdmissible}
use Rattle.sort_rules.specs.Fitting.{Ends, Enters, RunFits, StateFits, TreeFits, ends_of, sorted}
use Rattle.sort_rules.specs.Shapes.{CompletesInShape, EntersInShape, EscapesInShape}
use Rattle.sort_rules.specs.Soundness.{RunsInSort}
use Rattle.sort_rules.specs.Tables.{MarkedTable}
use Rattle.sort_rules.proofs.FittedFrames.{frames_fit}
use Rattle.sort_rules.proofs.FittedTrees.{After}
use Rattle.sort_rules.proofs.InSort.{parts_in_sort}
use Rattle.sort_rules.proofs.Shapes.{completes_in_shape, escapes_in_shape}
use Rattle.sort_rules.proofs.SoundNodes.{run_after}
use Rattle.sort_rules.proofs.SoundStates.{part_fits, stands}

run-enters : (a : Action) (t : MarkedTable) (w : List ℕ) (k : ℕ) (d : Data) (b : Binds) (z : Ends) → TreeFits (sorted a t) a w (Run k d b) z → Enters (sorted a t) w k d b
run-enters a t w k d b z (RunFits h le) = h

-- ---- node k is to be performed within frames, at a point of a performance

module _ (a : Action) (t : MarkedTable) (admissible : IsAdmissible a t) (input : List ℤ) (steps : List Step) (fs : List Frame) (k : ℕ) (d : Data) (b : Binds) (w : World) (reached : Reaches a input steps (plug fs (Run k d b)) w) where
  abbrev here : State
  here = record { tree = plug fs (Run k d b); world = w }

  pub runs-in_sort : RunsInSort a t w.cells k d b
  runs-in_sort = (parts_in_sort a t admissible input steps here reached).runs fs k d b refl

  -- what it is given has the length of its row
  pub runs-in_shape : EntersInShape t k d b
  runs-in_shape = runs-in_sort.shape

  -- and its yielders look up and combine data of the sorts that they want
  pub runs-suited : IsSuitedNode (node_at a k) d b w.cells
  runs-suited = runs-in_sort.suited

  pub primitive-suited : (p : Primitive) → node_at a k ≡ Simple p → IsSuitedPrimitive p d b w.cells
  primitive-suited p e = subst (λ n. IsSuitedNode n d b w.cells) e runs-suited

  pub give-suited : (is : List Item) → node_at a k ≡ Simple (Give is) → AreSuited is d b w.cells
  give-suited is e = primitive-suited (Give is) e

  pub escape-suited : (is : List Item) → node_at a k ≡ Simple (EscapeWith is) → AreSuited is d b w.cells
  escape-suited is e = primitive-suited (EscapeWith is) e

  -- a condition yields a truth-value, if anything
  pub check-suited : (y : Yielder) → node_at a k ≡ Simple (Check y) → IsSuited y d b w.cells × IsOfSort sort.Truth (yields y d b w.cells)
  check-suited y e = primitive-suited (Check y) e

  -- and the operand of `send` an integer
  pub send-suited : (y : Yielder) → node_at a k ≡ Simple (Send y) → IsSuited y d b w.cells × IsOfSort sort.Integer (yields y d b w.cells)
  send-suited y e = primitive-suited (Send y) e

  -- the tree after a step of the node fits the ends of its row
  record FitsAfter (n : Step) : Type 0 where
    nodes : List ℕ
    tree : TreeFits (sorted a t) a nodes n.tree (ends_of t k)

  fits-after : (n : Step) → OneOf n (open_steps a w (Run k d b)) → FitsAfter n
  fits-after n m =
      let f : StateFits (sorted a t) a here = part_fits a t input steps here admissible reached in
      let part = frames_fit (sorted a t) a f.nodes fs (Run k d b) f.tree in
      let after : After (sorted a t) a f.nodes w (ends_of t k) n = run_after (stands a t admissible) w f.cells (run-enters a t f.nodes k d b part.0 part.2) (node_at a k) refl m in
      record { nodes = after.nodes; tree = after.tree }

  -- what the node completes with by its step has the length of its row; so its row is reached
  pub step-completes : (n : Step) (e : Data) (p : Binds) → OneOf n (open_steps a w (Run k d b)) → n.tree ≡ Ended (Done e p) → CompletesInShape t k e p
  step-completes n e p m is =
      let f = fits-after n m in
      completes_in_shape {c = sorted a t} (subst (λ x. TreeFits (sorted a t) a f.nodes x (ends_of t k)) is f.tree) (admissible.clear k)

  -- and what it escapes with
  pub step-escapes : (n : Step) (e : Data) → OneOf n (open_steps a w (Run k d b)) → n.tree ≡ Ended (Esc e) → EscapesInShape t k e
  step-escapes n e m is =
      let f = fits-after n m in
      escapes_in_shape {c = sorted a t} (subst (λ x. TreeFits (sorted a t) a f.nodes x (ends_of t k)) is f.tree) (admissible.clear k)

-- ---- what the code of node k counts on, where it is to be performed with these data and bindings: the places are those where nodes leave their data, and what they escape with

pub record SuitsAt (a : Action) (out escaped : ℕ → List ℕ) (k : ℕ) (d : Data) (b : Binds) (w : World) : Type 0 where
  -- its yielders look up and combine data of the sorts that they want
  pub suited : IsSuitedNode (node_at a k) d b w.cells
  -- what its one step completes with has as many words, and what it escapes with
  pub completes : (n : Step) (e : Data) (p : Binds) → OneOf n (open_steps a w (Run k d b)) → n.tree ≡ Ended (Done e p) → length e ≡ length (out k)
  pub escapes : (n : Step) (e : Data) → OneOf n (open_steps a w (Run k d b)) → n.tree ≡ Ended (Esc e) → length e ≡ length (escaped k)
