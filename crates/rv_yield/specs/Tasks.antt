-- What is still to be emitted of the code of a yielder.
use Rattle.std.specs.Prelude.{◌≡◌, ◌⊎◌, ℕ, ◌+◌, ◌*◌, ◌≤◌, Bool, true, false, nat_lt, ℤ, Option, Some, None, List, [], ◌∷◌, ◌++◌, IsTrue}
use Rattle.rv_code.specs.Encode.{has_bits}
use Rattle.rv_asm.specs.declared.item.Item.{Item}
use Rattle.action_terms.specs.Forms.{yielder_at, two_viewed, one_viewed, IsDatum}
use Rattle.action_terms.specs.declared.view.Two.{Two as TwoView}
use Rattle.action_terms.specs.Need.{yielder_count}
use Rattle.action_terms.specs.Numbering.{ListedYielder}
use Rattle.rv_yield.specs.Holding.{Places}
use Rattle.rv_yield.specs.Registers.{is_built, registers_needed, HasWords, first_register, registers_end, addend, other_addend}
use Rattle.rv_yield.specs.YielderCode.{value_items, operation_items, addition_items, one_items, content_items, second_constant, first_constant, of_literal, addend_for}
use Rattle.rv_yield.specs.declared.tasks.Task.{Task}
use Rattle.rv_yield.specs.declared.tasks.Task.TheVariants as task

-- the items of a task
abbrev pub task_items : List ListedYielder → Places → (nothing : ℕ) → Task → List Item
task_items ls places nothing (task.Value y to free) = value_items places to free nothing (yielder_at ls y)
task_items ls places nothing (task.OnTwo f to a b) = operation_items (two_viewed f) to a b nothing
task_items ls places nothing (task.Addition to a z) = addition_items to a z nothing
task_items ls places nothing (task.OnOne f to a) = one_items (one_viewed f) to a nothing
task_items ls places nothing (task.Content to a) = content_items to a nothing

-- the items of all tasks, of which the last comes first
abbrev pub items_of : List ListedYielder → Places → (nothing : ℕ) → List Task → List Item
items_of ls places nothing [] = []
items_of ls places nothing (t ∷ ts) = items_of ls places nothing ts ++ task_items ls places nothing t

-- ---- the tasks of an operation, the last one first

-- an operand's value, and then a constant added
abbrev pub addition_tasks : (to free : ℕ) → ℤ → (operand : ℕ) → List Task
addition_tasks to free z y = task.Addition to (addend_for to) z ∷ task.Value y (addend_for to) free ∷ []

-- both operands' values, and then the operation
abbrev pub both_tasks : TwoView → (first_later : Bool) → (to free y1 y2 : ℕ) → List Task
both_tasks f true to free y1 y2 = task.OnTwo f to (free + 1) free ∷ task.Value y1 (free + 1) (free + 1) ∷ task.Value y2 free free ∷ []
both_tasks f false to free y1 y2 = task.OnTwo f to free (free + 1) ∷ task.Value y2 (free + 1) (free + 1) ∷ task.Value y1 free free ∷ []

-- a constant is added to one operand, or the operation is done on both
abbrev pub either_tasks : Option ℤ → Option ℤ → TwoView → (first_later : Bool) → (to free y1 y2 : ℕ) → List Task
either_tasks (Some z) _ f later to free y1 y2 = addition_tasks to free z y1
either_tasks None (Some z) f later to free y1 y2 = addition_tasks to free z y2
either_tasks None None f later to free y1 y2 = both_tasks f later to free y1 y2

-- the tasks of an operation on the yielders of two numbers
abbrev pub operand_tasks : List ListedYielder → TwoView → (to free y1 y2 : ℕ) → List Task
operand_tasks ls f to free y1 y2 =
    either_tasks (of_literal (second_constant (two_viewed f)) (yielder_at ls y2)) (of_literal (first_constant (two_viewed f)) (yielder_at ls y1)) f
    (nat_lt (registers_needed (yielder_at ls y1)) (registers_needed (yielder_at ls y2))) to free y1 y2

-- where a value can go: to the first free register, or to one of those for values to which constants are added
abbrev pub IsTarget : (to free : ℕ) → Type 0
IsTarget to free = (to ≡ free) ⊎ ((to ≡ addend) ⊎ (to ≡ other_addend))

-- a task that can be done
abbrev pub IsReady : List ListedYielder → Task → Type 0
IsReady ls (task.Value y to free) = IsDatum ls y × (is_built (yielder_at ls y) ≡ true) × (first_register ≤ free) × (free + registers_needed (yielder_at ls y) ≤ registers_end) × IsTarget to free
IsReady ls (task.Addition to a z) = IsTrue (has_bits 12 z)
IsReady ls _ = Unit {0}

-- the numbers in the yielders that are still to come are those of 64 bits
abbrev pub HasTaskWords : List ListedYielder → Task → Type 0
HasTaskWords ls (task.Value y to free) = HasWords (yielder_at ls y)
HasTaskWords ls _ = Unit {0}

-- so it is for each task
abbrev pub HaveWords : List ListedYielder → List Task → Type 0
HaveWords ls [] = Unit {0}
HaveWords ls (t ∷ ts) = HaveWords ls ts × HasTaskWords ls t

-- at most so many turns are left
abbrev pub task_turns : List ListedYielder → Task → ℕ
task_turns ls (task.Value y to free) = 4 * yielder_count (yielder_at ls y)
task_turns ls _ = 1

-- and for all tasks
abbrev pub turns : List ListedYielder → List Task → ℕ
turns ls [] = 0
turns ls (t ∷ ts) = turns ls ts + task_turns ls t
