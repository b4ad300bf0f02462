-- The steps that stand open in an acting tree, in their order.
use Rattle.std.specs.Prelude.{ℕ, ℤ, Bool, true, false, List, [], ◌∷◌, ◌++◌, Option, Some, None, map, length, if◌then◌else◌, slice_set}
use Rattle.action_terms.specs.Information.{Token, Datum, Number, Truth, CellOf, Closure, Binds, NoBinds, Bound, Data, World}
use Rattle.action_terms.specs.Bindings.{bind, overlaid, meets}
use Rattle.action_terms.specs.Actions.{Yielder, StoredIn, OnTwo, OnOne, ClosureOf, Item, Single, Them, Join, And, Moreover, Chain, AndThen, Then, Hence, Before, Primitive, Complete, Failing, Escape, Commit, Regive, Rebind, Give, EscapeWith, Check, Bind, BindRec, Store, Allocate, Receive, Send, Node, Simple, Enact, Apply, Unfolding, Unfold, Furthermore, Both, Phases, Either, Trapping, Branch, Stray, Action, node_at}
use Rattle.action_terms.specs.Yielding.{yields, items_yield}
use Rattle.action_terms.specs.Acting.{End, Done, Esc, Fail, Tree, Run, Ended, Called, Par, First, Second, Or, Cut, Trap, Over}

-- where in the tree a step is made: into the left or the right part of a `Par`, its parts joined, one of them taken as the end, or an arm of an `or` chosen
pub data Letter : Type 0 where
  InLeft InRight Joins TakesLeft TakesRight ArmOne ArmTwo : Letter

-- what a step does beside the tree; `Misses` is a `receive` where no integer is left
pub data Effect : Type 0 where
  Silent Commits Allocates Takes Misses : Effect
  Puts : (cell : ℕ) (datum : Datum) → Effect
  Sends : (n : ℤ) → Effect

-- the steps that commit to the arms in which they are made
abbrev pub commits : Effect → Bool
commits Silent = false
commits Misses = false
commits _ = true

abbrev pub rest : List ℤ → List ℤ
rest [] = []
rest (n ∷ ns) = ns

-- the world after a step
abbrev pub world_after : Effect → World → World
world_after Allocates w = record w { cells = w.cells ++ None ∷ [] }
world_after Takes w = record w { input = rest w.input }
world_after (Puts c x) w = record w { cells = slice_set w.cells c (Some x) }
world_after (Sends n) w = record w { output = w.output ++ n ∷ [] }
world_after _ w = w

-- a closure that a step makes: its body and the bindings which the primitive received
pub record Made : Type 0 where
  pub body : ℕ
  pub binds : Binds

-- a step: its place, what it does, the closures that it makes, and the tree after it
pub record Step : Type 0 where
  pub place : List Letter
  pub effect : Effect
  pub made : List Made
  pub tree : Tree

-- a step that does nothing beside the tree
abbrev pub silent : Tree → Step
silent t = record { place = []; effect = Silent; made = []; tree = t }

abbrev pub with_effect : Effect → Tree → Step
with_effect e t = record { place = []; effect = e; made = []; tree = t }

-- completed with nothing; failed
abbrev pub done : Tree
done = Ended (Done [] NoBinds)

abbrev pub failed : Tree
failed = Ended Fail

-- ---- the closures of a primitive

-- the bodies of the closures in a yielder
abbrev pub closures_in : Yielder → List ℕ
closures_in (StoredIn s y) = closures_in y
closures_in (OnTwo f y1 y2) = closures_in y1 ++ closures_in y2
closures_in (OnOne f y) = closures_in y
closures_in (ClosureOf k) = k ∷ []
closures_in _ = []

abbrev pub closures_in_items : List Item → List ℕ
closures_in_items [] = []
closures_in_items (Single y ∷ is) = closures_in y ++ closures_in_items is
closures_in_items (Them ∷ is) = closures_in_items is

abbrev pub closures_of : Primitive → List ℕ
closures_of (Give is) = closures_in_items is
closures_of (EscapeWith is) = closures_in_items is
closures_of (Check y) = closures_in y
closures_of (Bind t y) = closures_in y
closures_of (BindRec t c) = c ∷ []
closures_of (Store y1 y2) = closures_in y1 ++ closures_in y2
closures_of (Send y) = closures_in y
closures_of _ = []

-- the step, with these closures made
abbrev pub making : List ℕ → Binds → Step → Step
making bodies b n = record n { made = map (λ c. record { body = c; binds = b }) bodies }

-- ---- what a node that runs becomes

-- `give` and `escape with`
abbrev pub ends_with : (Data → End) → Option Data → Tree
ends_with f (Some d) = Ended (f d)
ends_with f None = failed

abbrev pub checked : Option Datum → Tree
checked (Some (Truth true)) = done
checked _ = failed

abbrev pub bound : Token → Option Datum → Tree
bound t (Some x) = Ended (Done [] (Bound t x NoBinds))
bound t None = failed

abbrev pub sent : Option Datum → Step
sent (Some (Number n)) = with_effect (Sends n) done
sent _ = silent failed

abbrev pub put : Option Datum → Option Datum → Step
put (Some x) (Some (CellOf c)) = with_effect (Puts c x) done
put _ _ = silent failed

abbrev pub received : List ℤ → Step
received [] = with_effect Misses failed
received (n ∷ ns) = with_effect Takes (Ended (Done (Number n ∷ []) NoBinds))

-- a body's bindings: those of its closure, overlaid by the closure's own token bound to itself
abbrev pub own_binds : ℕ → Binds → Option Token → Binds
own_binds c b None = b
own_binds c b (Some t) = bind t (Closure c b (Some t)) b

abbrev pub enacted : Option Data → Option Datum → Tree
enacted (Some d) (Some (Closure c b own)) = Called c (Run c d (own_binds c b own))
enacted _ _ = failed

abbrev pub branched : Option Datum → ℕ → ℕ → Data → Binds → Tree
branched (Some (Truth true)) l r d b = Run l d b
branched (Some (Truth false)) l r d b = Run r d b
branched _ l r d b = failed

-- the step of a primitive, but for its closures
abbrev pub performed : Primitive → Data → Binds → World → Step
performed Complete d b w = silent done
performed Commit d b w = with_effect Commits done
performed Failing d b w = silent failed
performed Escape d b w = silent (Ended (Esc d))
performed Regive d b w = silent (Ended (Done d NoBinds))
performed Rebind d b w = silent (Ended (Done [] b))
performed (Give is) d b w = silent (ends_with (λ x. Done x NoBinds) (items_yield is d b w.cells))
performed (EscapeWith is) d b w = silent (ends_with Esc (items_yield is d b w.cells))
performed (Check y) d b w = silent (checked (yields y d b w.cells))
performed (Bind t y) d b w = silent (bound t (yields y d b w.cells))
performed (BindRec t c) d b w = silent (bound t (Some (Closure c b (Some t))))
performed (Store y1 y2) d b w = put (yields y1 d b w.cells) (yields y2 d b w.cells)
performed Allocate d b w = with_effect Allocates (Ended (Done (CellOf (length w.cells) ∷ []) NoBinds))
performed (Send y) d b w = sent (yields y d b w.cells)
performed Receive d b w = received w.input

-- the steps of a node that runs, in order: `or` has two
abbrev pub run_steps : Node → ℕ → Data → Binds → World → List Step
run_steps (Simple p) k d b w = making (closures_of p) b (performed p d b w) ∷ []
run_steps (Enact y) k d b w = making (closures_in y) b (silent (enacted (Some []) (yields y d b w.cells))) ∷ []
run_steps (Apply y is) k d b w =
    making (closures_in y ++ closures_in_items is) b (silent (enacted (items_yield is d b w.cells) (yields y d b w.cells))) ∷ []
run_steps (Unfolding c) k d b w = silent (Called c (Run c d b)) ∷ []
run_steps (Unfold c) k d b w = silent (Called c (Run c d b)) ∷ []
run_steps (Furthermore l) k d b w = silent (Over (Run l d b) b) ∷ []
run_steps (Both j l r) k d b w = silent (Par k (Run l d b) (Run r d b)) ∷ []
run_steps (Phases q l r) k d b w = silent (First k (Run l d b) d b) ∷ []
run_steps (Either l r) k d b w =
    record (silent (Or (Run l d b) r d b)) { place = ArmOne ∷ [] } ∷ record (silent (Or (Run r d b) l d b)) { place = ArmTwo ∷ [] } ∷ []
run_steps (Trapping l r) k d b w = silent (Trap k (Run l d b) b) ∷ []
run_steps (Branch y l r) k d b w = silent (branched (yields y d b w.cells) l r d b) ∷ []
run_steps Stray k d b w = []

-- ---- what the whole becomes, where its part has ended

-- completed with the union of two bindings, or failed where both bind some token
abbrev pub united : Data → Binds → Binds → End
united d b1 b2 = if meets b1 b2 then Fail else Done d (overlaid b1 b2)

-- what two completed parts of `and` or `moreover` give
abbrev pub joined : Join → Data → Binds → Data → Binds → End
joined And d1 b1 d2 b2 = united (d1 ++ d2) b1 b2
joined Moreover d1 b1 d2 b2 = Done (d1 ++ d2) (overlaid b1 b2)

-- the data and bindings that the second part is handed: d and b are the whole's, d1 and b1 the first part's
abbrev pub handed_data : Chain → Data → Data → Data
handed_data AndThen d d1 = d
handed_data Then d d1 = d1
handed_data Hence d d1 = d
handed_data Before d d1 = d

abbrev pub handed_binds : Chain → Binds → Binds → Binds
handed_binds AndThen b b1 = b
handed_binds Then b b1 = b
handed_binds Hence b b1 = b1
handed_binds Before b b1 = overlaid b b1

-- what two completed parts in order give
abbrev pub chained : Chain → Data → Binds → Data → Binds → End
chained AndThen d1 b1 d2 b2 = united (d1 ++ d2) b1 b2
chained Then d1 b1 d2 b2 = united d2 b1 b2
chained Hence d1 b1 d2 b2 = Done (d1 ++ d2) b2
chained Before d1 b1 d2 b2 = Done (d1 ++ d2) (overlaid b1 b2)

-- the part's end is the whole's
abbrev pub after_any : Tree → List Tree
after_any (Ended z) = Ended z ∷ []
after_any _ = []

-- so it is where the part has escaped or failed
abbrev pub after_broken : Tree → List Tree
after_broken (Ended (Esc e)) = Ended (Esc e) ∷ []
after_broken (Ended Fail) = failed ∷ []
after_broken _ = []

-- both parts of `and` or `moreover` have completed
abbrev pub joined_parts : Node → Data → Binds → Data → Binds → List Tree
joined_parts (Both j l r) d1 b1 d2 b2 = Ended (joined j d1 b1 d2 b2) ∷ []
joined_parts _ d1 b1 d2 b2 = []

abbrev pub after_both : Node → Tree → Tree → List Tree
after_both n (Ended (Done d1 b1)) (Ended (Done d2 b2)) = joined_parts n d1 b1 d2 b2
after_both n _ _ = []

-- the first part has completed: the second one is to be performed
abbrev pub second_part : Node → ℕ → Data → Binds → Data → Binds → List Tree
second_part (Phases q l r) k d b d1 b1 = Second k d1 b1 (Run r (handed_data q d d1) (handed_binds q b b1)) ∷ []
second_part _ k d b d1 b1 = []

abbrev pub after_first : Node → ℕ → Data → Binds → Tree → List Tree
after_first n k d b (Ended (Done d1 b1)) = second_part n k d b d1 b1
after_first n k d b t = after_broken t

-- both parts in order have completed
abbrev pub chained_parts : Node → Data → Binds → Data → Binds → List Tree
chained_parts (Phases q l r) d1 b1 d2 b2 = Ended (chained q d1 b1 d2 b2) ∷ []
chained_parts _ d1 b1 d2 b2 = []

abbrev pub after_second : Node → Data → Binds → Tree → List Tree
after_second n d1 b1 (Ended (Done d2 b2)) = chained_parts n d1 b1 d2 b2
after_second n d1 b1 t = after_broken t

-- the other arm is tried after a failure
abbrev pub after_or : ℕ → Data → Binds → Tree → List Tree
after_or k2 d b (Ended Fail) = Run k2 d b ∷ []
after_or k2 d b t = after_any t

-- the handler is given what the left part escaped with
abbrev pub handler : Node → Data → Binds → List Tree
handler (Trapping l r) e b = Run r e b ∷ []
handler _ e b = []

abbrev pub after_trap : Node → Binds → Tree → List Tree
after_trap n b (Ended (Esc e)) = handler n e b
after_trap n b t = after_any t

abbrev pub after_over : Binds → Tree → List Tree
after_over b (Ended (Done d1 b1)) = Ended (Done d1 (overlaid b b1)) ∷ []
after_over b t = after_broken t

-- ---- a step of a part, as a step of the whole

abbrev pub within : (Tree → Tree) → Step → Step
within f n = record n { tree = f n.tree }

abbrev pub on_side : Letter → (Tree → Tree) → Step → Step
on_side x f n = record n { place = x ∷ n.place; tree = f n.tree }

abbrev pub at_letter : Letter → Tree → Step
at_letter x t = record (silent t) { place = x ∷ [] }

-- a step that commits closes the alternatives around it
abbrev pub or_or_cut : Bool → Tree → ℕ → Data → Binds → Tree
or_or_cut true x k2 d b = Cut x
or_or_cut false x k2 d b = Or x k2 d b

abbrev pub in_or : ℕ → Data → Binds → Step → Step
in_or k2 d b n = record n { tree = or_or_cut (commits n.effect) n.tree k2 d b }

-- the open steps: those of the left or only part, those of the right part, then those of the whole itself
abbrev pub open_steps : Action → World → Tree → List Step
open_steps a w (Run k d b) = run_steps (node_at a k) k d b w
open_steps a w (Ended z) = []
open_steps a w (Called c x) = map (within (Called c)) (open_steps a w x) ++ map silent (after_any x)
open_steps a w (Par k x y) =
    map (on_side InLeft (λ x'. Par k x' y)) (open_steps a w x)
    ++ (map (on_side InRight (Par k x)) (open_steps a w y)
    ++ (map (at_letter Joins) (after_both (node_at a k) x y)
    ++ (map (at_letter TakesLeft) (after_broken x) ++ map (at_letter TakesRight) (after_broken y))))
open_steps a w (First k x d b) = map (within (λ x'. First k x' d b)) (open_steps a w x) ++ map silent (after_first (node_at a k) k d b x)
open_steps a w (Second k d1 b1 x) = map (within (Second k d1 b1)) (open_steps a w x) ++ map silent (after_second (node_at a k) d1 b1 x)
open_steps a w (Or x k2 d b) = map (in_or k2 d b) (open_steps a w x) ++ map silent (after_or k2 d b x)
open_steps a w (Cut x) = map (within Cut) (open_steps a w x) ++ map silent (after_any x)
open_steps a w (Trap k x b) = map (within (λ x'. Trap k x' b)) (open_steps a w x) ++ map silent (after_trap (node_at a k) b x)
open_steps a w (Over x b) = map (within (λ x'. Over x' b)) (open_steps a w x) ++ map silent (after_over b x)
