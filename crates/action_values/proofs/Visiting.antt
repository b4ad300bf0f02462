-- To visit a yielder is to keep its value, or to evaluate its arguments and to apply its operation.
use Rattle.std.proofs.Common.{◌≡◌, ℕ, ◌≤◌, Bool, true, false, cond, List, ◌∷◌, ◌++◌, Option, Some, None, length, refl, sym, ap, ◌∙◌}
use Rattle.std.specs.Prelude.{option_map, option_and_then}
use Rattle.action_terms.specs.Information.{Datum}
use Rattle.action_terms.specs.Actions.{Item, Single}
use Rattle.action_terms.specs.Forms.{item_at, yielder_at, item_viewed, HasArguments}
use Rattle.action_terms.specs.declared.view.YielderView.{YielderView}
use Rattle.action_terms.specs.declared.view.YielderView.TheVariants as yielder
use Rattle.action_terms.proofs.ItemsAt.{item_at-past}
use Rattle.action_values.specs.Evaluation.{value_in, value_meant, is_operation, opened, finished}
use Rattle.action_values.specs.declared.context.Context.{Context}
use Rattle.action_values.specs.declared.context.ItemValue.{ItemValue}
use Rattle.action_values.specs.declared.walk.Job.{Job}
use Rattle.action_values.specs.declared.walk.Job.TheVariants as job

module _ (c : Context) (n : ℕ) (js : List Job) (vs : List (Option Datum)) where
  -- what follows the value of an item
  abbrev after : List Job → Item → Option (Option Datum)
  after left i = option_and_then (λ x. finished c left (x ∷ vs)) (value_in c i)

  pub visit-past : length c.graph.now.yielders ≤ n → finished c (job.Visit n ∷ js) vs ≡ None
  visit-past past = ap (after js) (item_at-past c.graph.now.yielders n past)

  kept : (o : Option (Option Datum)) (going : Bool) (ws : List (Option Datum)) → cond going (Some ws) None ≡ option_map (λ x. x ∷ vs) o
      → cond going (finished c js ws) None ≡ option_and_then (λ x. finished c js (x ∷ vs)) o
  kept (Some x) true ws e = let same : ws ≡ x ∷ vs = cc in ap (finished c js) same
  kept (Some x) false ws e = cc
  kept None true ws e = cc
  kept None false ws e = refl

  -- the value of the yielder is known
  pub visit-kept : (v : YielderView) → item_at c.graph.now.yielders n ≡ item_viewed c.graph.now.yielders v → (x : ItemValue) → value_meant x ≡ value_in c (item_viewed c.graph.now.yielders v)
      → (going : Bool) (left : List Job) (ws : List (Option Datum)) → left ≡ js → cond going (Some ws) None ≡ option_map (λ y. y ∷ vs) (value_meant x)
      → cond going (finished c left ws) None ≡ finished c (job.Visit n ∷ js) vs
  visit-kept v at x value going left ws same e =
      ap (λ l. cond going (finished c l ws) None) same
      ∙ kept (value_meant x) going ws e
      ∙ ap (option_and_then (λ y. finished c js (y ∷ vs))) (value ∙ sym (ap (value_in c) at))

  -- its arguments are yielders
  pub visit-opened : (v : YielderView) → item_at c.graph.now.yielders n ≡ item_viewed c.graph.now.yielders v → HasArguments c.graph.now.yielders n v → is_operation v ≡ true
      → finished c (opened v ++ js) vs ≡ finished c (job.Visit n ∷ js) vs
  visit-opened (yielder.StoredIn s x) at h operation = ap (after (job.Stored s ∷ js)) h.1.single ∙ sym (ap (after js) at)
  visit-opened (yielder.OnOne f x) at h operation = ap (after (job.One f ∷ js)) h.1.single ∙ sym (ap (after js) at)
  visit-opened (yielder.OnTwo f x y) at h operation =
      ap (λ i. option_and_then (λ w. finished c (job.Visit y ∷ job.Two f ∷ js) (w ∷ vs)) (value_in c i)) h.0.1.single
      ∙ ap (λ i. option_and_then (λ w. option_and_then (λ u. finished c (job.Two f ∷ js) (u ∷ w ∷ vs)) (value_in c i)) (value_in c (Single (yielder_at c.graph.now.yielders x)))) h.1.1.single
      ∙ sym (ap (after js) at)
  visit-opened _ at h operation = cc
