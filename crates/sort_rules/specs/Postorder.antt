-- A yielder as the list of the yielders in it, each before its arguments, the second argument's before the first's: from its end, it is evaluated with a stack.
use Rattle.std.specs.Prelude.{ℕ, List, [], ◌∷◌, ◌++◌}
use Rattle.action_terms.specs.Forms.{two_viewed, one_viewed}
use Rattle.action_terms.specs.declared.view.YielderView.{YielderView}
use Rattle.action_terms.specs.declared.view.YielderView.TheVariants as yielder
use Rattle.sort_rules.specs.Sets.{Set, integers, truths, closures_of_body}
use Rattle.sort_rules.specs.Parts.{Part, Unreached, lookup_set}
use Rattle.sort_rules.specs.Values.{one, only_set, nth_set}
use Rattle.sort_rules.specs.Judgements.{Judgement, looked_up, stored_judged, two_judged, one_judged}

-- of what is always of one set
abbrev pub settled : Set → Judgement
settled x = record { value = one x; wrong = Unreached }

-- of what has one argument, and two: it takes their judgements off the stack
abbrev pub on_one_judged : (Judgement → Judgement) → List Judgement → List Judgement
on_one_judged f [] = []
on_one_judged f (j ∷ js) = f j ∷ js

abbrev pub on_two_judged : ((x y : Judgement) → Judgement) → List Judgement → List Judgement
on_two_judged f [] = []
on_two_judged f (j ∷ []) = []
on_two_judged f (j2 ∷ j1 ∷ js) = f j1 j2 ∷ js

-- the judgements after a yielder, with those of its arguments on the stack, the last one first
abbrev pub judged_by : (c : ℕ → Part) (g h : Part) → YielderView → List Judgement → List Judgement
judged_by c g h (yielder.Number n) js = settled integers ∷ js
judged_by c g h (yielder.Truth b) js = settled truths ∷ js
judged_by c g h yielder.Them js = js
judged_by c g h (yielder.Given s) js = looked_up s only_set g ∷ js
judged_by c g h (yielder.GivenAt s n) js = looked_up s (nth_set n) g ∷ js
judged_by c g h (yielder.BoundTo s t) js = looked_up s (lookup_set t.now) h ∷ js
judged_by c g h (yielder.StoredIn s y) js = on_one_judged (stored_judged c s) js
judged_by c g h (yielder.OnTwo f y1 y2) js = on_two_judged (two_judged (two_viewed f)) js
judged_by c g h (yielder.OnOne f y) js = on_one_judged (one_judged (one_viewed f)) js
judged_by c g h (yielder.ClosureOf k) js = settled (closures_of_body k) ∷ js

-- and after all of a list, the last one first
abbrev pub judged_by_all : (c : ℕ → Part) (g h : Part) → List YielderView → List Judgement
judged_by_all c g h [] = []
judged_by_all c g h (v ∷ vs) = judged_by c g h v (judged_by_all c g h vs)

-- the numbers of the arguments of a yielder
abbrev pub arguments_of : YielderView → List ℕ
arguments_of (yielder.StoredIn s y) = y ∷ []
arguments_of (yielder.OnTwo f y1 y2) = y1 ∷ y2 ∷ []
arguments_of (yielder.OnOne f y) = y ∷ []
arguments_of _ = []

-- the body of a closure
abbrev pub own_closures : YielderView → List ℕ
own_closures (yielder.ClosureOf k) = k ∷ []
own_closures _ = []

-- the bodies of the closures in a list of yielders
abbrev pub listed_closures : List YielderView → List ℕ
listed_closures [] = []
listed_closures (v ∷ vs) = own_closures v ++ listed_closures vs
