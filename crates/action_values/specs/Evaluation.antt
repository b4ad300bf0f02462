-- How yielders are evaluated without recursion: by jobs that are still to be done, and values that wait for their operation.
use Rattle.std.specs.Prelude.{ℕ, ◌-◌, ◌^◌, Bool, true, false, List, [], ◌∷◌, Option, Some, None, option_map, option_and_then, map, reverse, length, slice_get, sum_by}
use Rattle.action_terms.specs.Information.{Datum, Storage}
use Rattle.action_terms.specs.Actions.{Item, Single, Them}
use Rattle.action_terms.specs.Yielding.{yields, of_sort, stored, and_then, on_one, on_two}
use Rattle.action_terms.specs.Forms.{item_at, one_viewed, two_viewed}
use Rattle.action_terms.specs.declared.kinds.Sort.{Sort}
use Rattle.action_terms.specs.declared.view.One.{One}
use Rattle.action_terms.specs.declared.view.Two.{Two}
use Rattle.action_terms.specs.declared.view.YielderView.{YielderView}
use Rattle.action_terms.specs.declared.view.YielderView.TheVariants as yielder
use Rattle.action_values.specs.Values.{meant, data_of, bindings_of, storage_of}
use Rattle.action_values.specs.declared.context.Context.{Context}
use Rattle.action_values.specs.declared.context.ItemValue.{ItemValue}
use Rattle.action_values.specs.declared.context.ItemValue.TheVariants as value
use Rattle.action_values.specs.declared.walk.Job.{Job}
use Rattle.action_values.specs.declared.walk.Job.TheVariants as job
use Rattle.action_values.specs.declared.walk.Walk.{Walk}

-- the value of an item, if it is a yielder: a datum, or nothing
abbrev pub value_in : Context → Item → Option (Option Datum)
value_in c (Single y) = Some (yields y (data_of c.given.now) (bindings_of c.bound.now) (storage_of c.cells.now))
value_in c Them = None

abbrev pub value_at : Context → ℕ → Option (Option Datum)
value_at c n = value_in c (item_at c.graph.now.yielders n)

-- the same in memory
abbrev pub value_meant : ItemValue → Option (Option Datum)
value_meant (value.Datum x) = Some (Some (meant x))
value_meant value.Nothing = Some None
value_meant value.Them = None

-- a yielder that has arguments
abbrev pub is_operation : YielderView → Bool
is_operation (yielder.StoredIn s x) = true
is_operation (yielder.OnTwo f x1 x2) = true
is_operation (yielder.OnOne f x) = true
is_operation _ = false

-- the value of an operation, from those of its arguments
abbrev pub stored_value : Sort → Storage → Option Datum → Option Datum
stored_value s cells x = and_then (and_then x (stored cells)) (of_sort s)

abbrev pub one_value : One → Option Datum → Option Datum
one_value f x = and_then x (on_one (one_viewed f))

abbrev pub two_value : Two → Option Datum → Option Datum → Option Datum
two_value f x y = and_then x (λ d. and_then y (on_two (two_viewed f) d))

-- the value of a yielder, if it is one, when these jobs are done, the next one first, with these values of arguments, the last one first
abbrev pub finished : Context → List Job → List (Option Datum) → Option (Option Datum)
finished c [] vs = slice_get vs 0
finished c (job.Visit n ∷ js) vs = option_and_then (λ v. finished c js (v ∷ vs)) (value_at c n)
finished c (job.Stored s ∷ js) (x ∷ vs) = finished c js (stored_value s (storage_of c.cells.now) x ∷ vs)
finished c (job.Stored s ∷ js) [] = None
finished c (job.One f ∷ js) (x ∷ vs) = finished c js (one_value f x ∷ vs)
finished c (job.One f ∷ js) [] = None
finished c (job.Two f ∷ js) (y ∷ x ∷ vs) = finished c js (two_value f x y ∷ vs)
finished c (job.Two f ∷ js) (y ∷ []) = None
finished c (job.Two f ∷ js) [] = None

-- the jobs that evaluate the arguments of a yielder and apply its operation
abbrev pub opened : YielderView → List Job
opened (yielder.StoredIn s x) = job.Visit x ∷ job.Stored s ∷ []
opened (yielder.OnOne f x) = job.Visit x ∷ job.One f ∷ []
opened (yielder.OnTwo f x y) = job.Visit x ∷ job.Visit y ∷ job.Two f ∷ []
opened _ = []

-- the jobs and the values of a walk
abbrev pub jobs_of : Walk → List Job
jobs_of w = reverse w.jobs.items

abbrev pub values_of : Walk → List (Option Datum)
values_of w = map (option_map meant) (reverse w.values.items)

-- a bound on the turns that a job takes: arguments have greater numbers
abbrev pub job_turns : (count : ℕ) → Job → ℕ
job_turns count (job.Visit n) = 4 ^ (count - n)
job_turns count (job.Stored s) = 1
job_turns count (job.One f) = 1
job_turns count (job.Two f) = 1

abbrev pub turns : Context → Walk → ℕ
turns c w = sum_by (job_turns (length c.graph.now.yielders)) (jobs_of w)
