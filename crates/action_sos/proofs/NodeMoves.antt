-- What a node that runs does, by its form.
use Rattle.std.proofs.Common.{◌≡◌, ℕ, List, [], ◌∷◌, Option, Some, refl, ap, sym, subst, ◌∙◌}
use Rattle.std.specs.Prelude.{Result, IfOk}
use Rattle.std.proofs.lemmas.Result.{IfOk-weaker}
use Rattle.action_terms.specs.Information.{Token, Datum, Closure, NoBinds, Data, World}
use Rattle.action_terms.specs.Actions.{Yielder, Item, Primitive, Give, EscapeWith, Check, Bind, BindRec, Store, Send, Node, Simple, Enact, Apply, Either, Branch}
use Rattle.action_terms.specs.Acting.{Tree, Done, Esc, Or}
use Rattle.action_terms.specs.Steps.{Silent, Step, silent, ends_with, checked, bound, sent, put, enacted, branched, performed, run_steps}
use Rattle.action_sos.specs.Moves.{given_of, bound_of, running, effect_of, next_tree, IsStepAt}
use Rattle.action_sos.specs.Running.{IsYielded, AreYielded, Does, IsPerformed, IsMove}
use Rattle.action_sos.specs.declared.moves.Move.{Move}
use Rattle.action_sos.specs.declared.running.Running.{Running}

-- a silent step to a tree
to_tree : (m : Move) (t u : Tree) → t ≡ u → Does m (silent t) → Does m (silent u)
to_tree m t u e s = subst (λ (x : Tree). Does m (silent x)) e s

-- ---- primitives

pub give_move : (r : Running) (m : Move) (is : List Item) (d : Option Data) (t : Tree) → AreYielded r is d → t ≡ ends_with (λ x. Done x NoBinds) d → Does m (silent t) → IsPerformed r (Give is) m
give_move r m is d t y same s = record { does = λ w o. to_tree m t _ (same ∙ ap (ends_with (λ x. Done x NoBinds)) (y.given w o)) s }

pub escape_with_move : (r : Running) (m : Move) (is : List Item) (d : Option Data) (t : Tree) → AreYielded r is d → t ≡ ends_with Esc d → Does m (silent t) → IsPerformed r (EscapeWith is) m
escape_with_move r m is d t y same s = record { does = λ w o. to_tree m t _ (same ∙ ap (ends_with Esc) (y.given w o)) s }

pub check_move : (r : Running) (m : Move) (z : Yielder) (x : Option Datum) (t : Tree) → IsYielded r z x → t ≡ checked x → Does m (silent t) → IsPerformed r (Check z) m
check_move r m z x t y same s = record { does = λ w o. to_tree m t _ (same ∙ ap checked (y.given w o)) s }

pub bind_move : (r : Running) (m : Move) (k : Token) (z : Yielder) (x : Option Datum) (t : Tree) → IsYielded r z x → t ≡ bound k x → Does m (silent t) → IsPerformed r (Bind k z) m
bind_move r m k z x t y same s = record { does = λ w o. to_tree m t _ (same ∙ ap (bound k) (y.given w o)) s }

pub bind_recursively_move : (r : Running) (m : Move) (k : Token) (c : ℕ) (t : Tree) → t ≡ bound k (Some (Closure c (bound_of r.received) (Some k))) → Does m (silent t) → IsPerformed r (BindRec k c) m
bind_recursively_move r m k c t same s = record { does = λ w o. to_tree m t _ same s }

pub store_move : (r : Running) (m : Move) (z1 z2 : Yielder) (x1 x2 : Option Datum) → IsYielded r z1 x1 → IsYielded r z2 x2 → Does m (put x1 x2) → IsPerformed r (Store z1 z2) m
store_move r m z1 z2 x1 x2 y1 y2 s = record { does = λ w o. subst (λ (n : Step). Does m n) (λ i. put (y1.given w o i) (y2.given w o i)) s }

pub send_move : (r : Running) (m : Move) (z : Yielder) (x : Option Datum) → IsYielded r z x → Does m (sent x) → IsPerformed r (Send z) m
send_move r m z x y s = record { does = λ w o. subst (λ (n : Step). Does m n) (ap sent (y.given w o)) s }

-- ---- other nodes

-- the node is known by another name
pub move_as : {E : Type 0} (result : Result Move E) (r : Running) (n k : Node) → n ≡ k → IfOk result (λ m. IsMove r k 0 m) → IfOk result (λ m. IsMove r n 0 m)
move_as result r n k e h = subst (λ (x : Node). IfOk result (λ m. IsMove r x 0 m)) (sym e) h

pub simple_moves : {E : Type 0} (result : Result Move E) (r : Running) (p : Primitive) → IfOk result (IsPerformed r p) → IfOk result (λ m. IsMove r (Simple p) 0 m)
simple_moves result r p h =
    IfOk-weaker result (IsPerformed r p) (λ m. IsMove r (Simple p) 0 m)
    (λ m does. record { at = λ w o. let d : Does m (performed p (given_of r.received) (bound_of r.received) w) = does.does w o in (_, refl, d.effect, d.tree) }) h

-- a step that does nothing beside the tree
silent_step : (m : Move) (n : Step) (ns : List Step) (t u : Tree) → Does m (silent t) → t ≡ u → n.effect ≡ Silent → n.tree ≡ u →
    IsStepAt (n ∷ ns) 0 (effect_of m.change) (next_tree m.next)
silent_step m n ns t u s e p q = (n, refl, p ∙ s.effect, q ∙ sym e ∙ s.tree)

pub enact_move : (r : Running) (m : Move) (z : Yielder) (x : Option Datum) (t : Tree) → IsYielded r z x → t ≡ enacted (Some []) x → Does m (silent t) → IsMove r (Enact z) 0 m
enact_move r m z x t y same s = record { at = λ w o. silent_step m _ [] t _ s (same ∙ ap (enacted (Some [])) (y.given w o)) refl refl }

pub enact_application_move : (r : Running) (m : Move) (z : Yielder) (is : List Item) (x : Option Datum) (d : Option Data) (t : Tree) → IsYielded r z x → AreYielded r is d
    → t ≡ enacted d x → Does m (silent t) → IsMove r (Apply z is) 0 m
enact_application_move r m z is x d t y ys same s =
    record { at = λ w o. silent_step m _ [] t _ s (same ∙ (λ i. enacted (ys.given w o i) (y.given w o i))) refl refl }

pub branch_move : (r : Running) (m : Move) (z : Yielder) (left right : ℕ) (x : Option Datum) (t : Tree) → IsYielded r z x
    → t ≡ branched x left right (given_of r.received) (bound_of r.received) → Does m (silent t) → IsMove r (Branch z left right) 0 m
branch_move r m z left right x t y same s =
    record { at = λ w o. silent_step m _ [] t _ s (same ∙ ap (λ v. branched v left right (given_of r.received) (bound_of r.received)) (y.given w o)) refl refl }

-- a node whose only step is silent and leads to a tree
pub only_move : (r : Running) (m : Move) (n k : Node) (t u : Tree) → n ≡ k → ((w : World) → run_steps k r.number (given_of r.received) (bound_of r.received) w ≡ silent u ∷ [])
    → t ≡ u → Does m (silent t) → IsMove r n 0 m
only_move r m n k t u e h same s =
    subst (λ (x : Node). IsMove r x 0 m) (sym e)
    (record { at = λ w o. subst (λ (ns : List Step). IsStepAt ns 0 (effect_of m.change) (next_tree m.next)) (sym (h w)) (silent_step m (silent u) [] t u s same refl refl) })

-- the arms of `or`
pub first_arm_move : (r : Running) (m : Move) (n : Node) (left right : ℕ) (t : Tree) → n ≡ Either left right
    → t ≡ Or (running left r.received) right (given_of r.received) (bound_of r.received) → Does m (silent t) → IsMove r n 0 m
first_arm_move r m n left right t e same s =
    subst (λ (x : Node). IsMove r x 0 m) (sym e) (record { at = λ w o. (_, refl, s.effect, sym same ∙ s.tree) })

pub second_arm_move : (r : Running) (m : Move) (n : Node) (left right : ℕ) (t : Tree) → n ≡ Either left right
    → t ≡ Or (running right r.received) left (given_of r.received) (bound_of r.received) → Does m (silent t) → IsMove r n 1 m
second_arm_move r m n left right t e same s =
    subst (λ (x : Node). IsMove r x 1 m) (sym e) (record { at = λ w o. (_, refl, s.effect, sym same ∙ s.tree) })
