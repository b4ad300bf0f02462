-- Demands that ask for something, in lists behind others.
use Rattle.std.proofs.Common.{List, [], ap, append_assoc, inl, inr, map, refl, subst, sym, ℕ, ◌++◌, ◌∙◌, ◌∷◌, ◌≡◌, ◌⊎◌}
use Rattle.action_terms.specs.Actions.{Yielder}
use Rattle.action_terms.specs.Performances.{Here, Later, OneOf}
use Rattle.action_terms.specs.Steps.{closures_in}
use Rattle.action_terms.specs.declared.kinds.Sort.TheVariants as sort
use Rattle.action_terms.proofs.Contexts.{of_left, of_right}
use Rattle.sort_rules.specs.Asked.{decision_demands, sort_demands}
use Rattle.sort_rules.specs.Demands.{Demand, live_at, only_when, received_by, value_at, wrong_at, ◌⊒◌}
use Rattle.sort_rules.specs.Parts.{Clash, Listed, Part, Unreached, join, when}
use Rattle.sort_rules.specs.Reached.{Adds, AreAmong, AskTheSame, in_front, reached_ones}
use Rattle.sort_rules.specs.Tables.{BindsIn, Entry, Mark, MarkedTable}
use Rattle.sort_rules.specs.Values.{nothing, strays}

in_front-append : (x : Entry) (v : Part) (xs ys : List Demand) → in_front x v (xs ++ ys) ≡ in_front x v xs ++ ys
in_front-append x Unreached xs ys = refl
in_front-append x (Listed ps) xs ys = refl
in_front-append x Clash xs ys = refl

pub reached_ones-append : (xs ys : List Demand) → reached_ones (xs ++ ys) ≡ reached_ones xs ++ reached_ones ys
reached_ones-append [] ys = refl
reached_ones-append ((x ⊒ v) ∷ xs) ys = ap (in_front x v) (reached_ones-append xs ys) ∙ in_front-append x v (reached_ones xs) (reached_ones ys)

-- ---- lists that ask the same

pub same-refl : (ds : List Demand) → AskTheSame ds ds
same-refl ds = record { there = λ d m. m; back = λ d m. m }

pub same-trans : (ds es fs : List Demand) → AskTheSame ds es → AskTheSame es fs → AskTheSame ds fs
same-trans ds es fs e f = record { there = λ d m. f.there d (e.there d m); back = λ d m. e.back d (f.back d m) }

same-eq : (ds es : List Demand) → ds ≡ es → AskTheSame ds es
same-eq ds es e = subst (λ (zs : List Demand). AskTheSame ds zs) e (same-refl ds)

of_either : {d : Demand} (xs ys : List Demand) → OneOf d (xs ++ ys) → OneOf d xs ⊎ OneOf d ys
of_either [] ys m = inr m
of_either (x ∷ xs) ys Here = inl Here
of_either (x ∷ xs) ys (Later m) = elim (of_either xs ys m) [ inl h ↦ inl (Later h) | inr h ↦ inr h ]

-- one of two lists, one behind the other
pub among-either : {d : Demand} (xs ys : List Demand) → OneOf d (reached_ones (xs ++ ys)) → OneOf d (reached_ones xs) ⊎ OneOf d (reached_ones ys)
among-either {d} xs ys m = of_either (reached_ones xs) (reached_ones ys) (subst (λ (zs : List Demand). OneOf d zs) (reached_ones-append xs ys) m)

pub among-first : {d : Demand} (xs ys : List Demand) → OneOf d (reached_ones xs) → OneOf d (reached_ones (xs ++ ys))
among-first {d} xs ys m = subst (λ (zs : List Demand). OneOf d zs) (sym (reached_ones-append xs ys)) (of_left d (reached_ones xs) (reached_ones ys) m)

pub among-second : {d : Demand} (xs ys : List Demand) → OneOf d (reached_ones ys) → OneOf d (reached_ones (xs ++ ys))
among-second {d} xs ys m = subst (λ (zs : List Demand). OneOf d zs) (sym (reached_ones-append xs ys)) (of_right d (reached_ones xs) (reached_ones ys) m)

among-both : (xs xs2 ys ys2 : List Demand) → AreAmong xs xs2 → AreAmong ys ys2 → AreAmong (xs ++ ys) (xs2 ++ ys2)
among-both xs xs2 ys ys2 f g d m = elim (among-either xs ys m) [ inl h ↦ among-first xs2 ys2 (f d h) | inr h ↦ among-second xs2 ys2 (g d h) ]

-- so do lists behind lists that do
same-both : (xs xs2 ys ys2 : List Demand) → AskTheSame xs xs2 → AskTheSame ys ys2 → AskTheSame (xs ++ ys) (xs2 ++ ys2)
same-both xs xs2 ys ys2 e f = record { there = among-both xs xs2 ys ys2 e.there f.there; back = among-both xs2 xs ys2 ys e.back f.back }

-- ---- lists behind others

-- all of them are put behind
pub adds_all : (old ds new : List Demand) → new ≡ old ++ ds → Adds old ds new
adds_all old ds new e = same-eq new (old ++ ds) e

-- some, and then others
pub adds-more : (old ds mid es new : List Demand) → Adds old ds mid → Adds mid es new → Adds old (ds ++ es) new
adds-more old ds mid es new e f =
    same-trans new (mid ++ es) (old ++ (ds ++ es)) f
    (same-trans (mid ++ es) ((old ++ ds) ++ es) (old ++ (ds ++ es)) (same-both mid (old ++ ds) es es e (same-refl es)) (same-eq ((old ++ ds) ++ es) (old ++ (ds ++ es)) (append_assoc old ds es)))

-- those that ask the same
pub adds-same : (old ds es new : List Demand) → AskTheSame ds es → Adds old ds new → Adds old es new
adds-same old ds es new e f = same-trans new (old ++ ds) (old ++ es) f (same-both old old ds es (same-refl old) e)

-- none is in a list that asks for nothing
pub asks-nothing : {X : Type 0} {d : Demand} (ds : List Demand) → reached_ones ds ≡ [] → OneOf d (reached_ones ds) → X
asks-nothing {X} {d} ds e m = no (subst (λ (zs : List Demand). OneOf d zs) e m)
  where
    no : OneOf d [] → X
    no m = elim m [ ]

-- those that ask for nothing
pub adds-none : (old ds : List Demand) → reached_ones ds ≡ [] → Adds old ds old
adds-none old ds e = record { there = λ d m. among-first old ds m; back = λ d m. elim (among-either old ds m) [ inl h ↦ h | inr h ↦ asks-nothing ds e h ] }

pub only_when-nothing : (ds : List Demand) → map (only_when nothing) ds ≡ ds
only_when-nothing [] = refl
only_when-nothing ((x ⊒ v) ∷ ds) = ap (λ (zs : List Demand). (x ⊒ v) ∷ zs) (only_when-nothing ds)

pub only_when-unreached : (ds : List Demand) → reached_ones (map (only_when Unreached) ds) ≡ []
only_when-unreached [] = refl
only_when-unreached ((x ⊒ v) ∷ ds) = only_when-unreached ds

-- where the condition is reached, all of them
pub adds-live : (live : Part) (old ds new : List Demand) → nothing ≡ live → Adds old ds new → Adds old (map (only_when live) ds) new
adds-live live old ds new e h =
    subst (λ (c : Part). Adds old (map (only_when c) ds) new) e (subst (λ (zs : List Demand). Adds old zs new) (sym (only_when-nothing ds)) h)

-- where it isn't, none
pub adds-dead : (live : Part) (old ds : List Demand) → Unreached ≡ live → Adds old (map (only_when live) ds) old
adds-dead live old ds e = subst (λ (c : Part). Adds old (map (only_when c) ds) old) e (adds-none old (map (only_when Unreached) ds) (only_when-unreached ds))

-- bindings that are unreached ask for nothing
received-unreached : (cs : List ℕ) → reached_ones (received_by Unreached cs) ≡ []
received-unreached [] = refl
received-unreached (c ∷ cs) = received-unreached cs

-- what decides a branch, at a live node and at a dead one
pub decision-live : (t : MarkedTable) (k : ℕ) (y : Yielder) (old new : List Demand) → nothing ≡ live_at t k → Adds old (sort_demands t k sort.Truth y) new → Adds old (decision_demands t k y) new
decision-live t k y old new e h =
    subst (λ (c : Part). Adds old ((Mark k ⊒ when c (join (wrong_at t k y) (strays sort.Truth (when c (value_at t k y))))) ∷ received_by (when c (t (BindsIn k))) (closures_in y)) new) e h

pub decision-dead : (t : MarkedTable) (k : ℕ) (y : Yielder) (old : List Demand) → Unreached ≡ live_at t k → Adds old (decision_demands t k y) old
decision-dead t k y old e =
    subst (λ (c : Part). Adds old ((Mark k ⊒ when c (join (wrong_at t k y) (strays sort.Truth (when c (value_at t k y))))) ∷ received_by (when c (t (BindsIn k))) (closures_in y)) old) e
    (adds-none old ((Mark k ⊒ Unreached) ∷ received_by Unreached (closures_in y)) (received-unreached (closures_in y)))

-- behind them the arms of the branch
pub arms-behind : (b0 b1 b2 b3 ds es fs gs : List Demand) → b1 ≡ b0 ++ (ds ++ es) → b2 ≡ b1 ++ fs → b3 ≡ b2 ++ gs → b3 ≡ b0 ++ (ds ++ (es ++ (fs ++ gs)))
arms-behind b0 b1 b2 b3 ds es fs gs e1 e2 e3 =
    e3 ∙ ap (λ (b : List Demand). b ++ gs) (e2 ∙ ap (λ (b : List Demand). b ++ fs) e1)
    ∙ append_assoc (b0 ++ (ds ++ es)) fs gs ∙ append_assoc b0 (ds ++ es) (fs ++ gs) ∙ ap (λ (zs : List Demand). b0 ++ zs) (append_assoc ds es (fs ++ gs))
