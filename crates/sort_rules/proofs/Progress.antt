-- A yielder that fits yields nothing only by a range, a divisor of zero or an unset cell.
use Rattle.std.proofs.Common.{Bool, List, None, Option, Some, [], ap, false, if◌then◌else◌, inl, inr, length, refl, slice_get, subst, suc, true, zero, ℕ, ℤ, ◌∙◌, ◌∷◌, ◌≡◌, ◌⊎◌}
use Rattle.action_terms.specs.Actions.{BothOf, BoundTo, ClosureOf, EitherOf, Given, GivenAt, Is, Negation, Not, NumberLiteral, OnOne, OnTwo, One, StoredIn, TruthLiteral, Two, Yielder}
use Rattle.action_terms.specs.Bindings.{lookup, token_lt}
use Rattle.action_terms.specs.Information.{Binds, CellOf, Data, Datum, Number, Token, Truth}
use Rattle.action_terms.specs.Steps.{closures_in}
use Rattle.action_terms.specs.Yielding.{and_then, nth, of_sort, on_one, on_two, only, set_content, stored, yields}
use Rattle.action_terms.specs.declared.kinds.Sort.TheVariants as sort
use Rattle.action_terms.specs.declared.kinds.Sort.{Sort}
use Rattle.sort_rules.specs.Admissible.{is_clash}
use Rattle.sort_rules.specs.Demands.{Each}
use Rattle.sort_rules.specs.Fitting.{BindsClash, BindsFit, BindsListed, CellFits, CellsFit, ClosureFits, DataClash, DataFit, DataListed, EachBoundFits, EachFits, Fits, NoDatum, NoneBound, NumberFits, OneBound, OneDatum, Sorted, TruthFits}
use Rattle.sort_rules.specs.Operands.{ArgumentBlocks, Blocks, CellBlocks, FirstBlocks, OutOfRange, OutOfRangeOne, SecondBlocks, Unset}
use Rattle.sort_rules.specs.Parts.{Clash, Component, Listed, Part, Unreached, join, lookup_set, on_list, when}
use Rattle.sort_rules.specs.Sets.{ACell, AClosure, ATruth, AnInteger, Set, lies_in, outside}
use Rattle.sort_rules.specs.Tables.{Contents}
use Rattle.sort_rules.specs.Values.{both_stray, misfit, misfit_one, misfit_two, nth_set, only_set, stored_value, strays, value, wrong}
use Rattle.sort_rules.proofs.Choices.{either, of_choices}
use Rattle.sort_rules.proofs.EachLaws.{each_left, each_right}
use Rattle.sort_rules.proofs.FittedYielders.{Captured, stored_in, yields_in}
use Rattle.sort_rules.proofs.Joins.{join_left, join_right}
use Rattle.sort_rules.proofs.LeastTables.{clear_below}
use Rattle.sort_rules.proofs.SetOrder.{empty_has}

pub of_same : {c : Sorted} {w : List ℕ} (s : Sort) {x : Datum} {q : Set} → Fits c w x q → lies_in s q ≡ true → of_sort s x ≡ Some x
of_same sort.Integer (NumberFits h) e = refl
of_same sort.Truth (TruthFits h) e = refl
of_same sort.Cell (CellFits f m h) e = refl
of_same sort.Abstraction (ClosureFits f g m h) e = refl
of_same s {q} (NumberFits h) e = absurd (empty_has (outside s q) e AnInteger h)
of_same s {q} (TruthFits h) e = absurd (empty_has (outside s q) e ATruth h)
of_same s {q} (CellFits {k} f m h) e = absurd (empty_has (outside s q) e (ACell k) h)
of_same s {q} (ClosureFits {k} f g m h) e = absurd (empty_has (outside s q) e (AClosure k) h)

pub marked_of : (s : Sort) (q : Set) → is_clash (misfit s (Some q)) ≡ false → lies_in s q ≡ true
marked_of s q e = go (lies_in s q) refl e
  where
    go : (b : Bool) → lies_in s q ≡ b → is_clash (if b then Unreached else Clash) ≡ false → lies_in s q ≡ true
    go true f e = f
    go false f e = absurd {0} (cc)

-- both are there, or neither
pub data Agree (c : Sorted) (w : List ℕ) : Option Datum → Option Set → Type 0 where
  Neither : Agree c w None None
  BothThere : {x : Datum} {q : Set} → Fits c w x q → Agree c w (Some x) (Some q)

pub only_agree : {c : Sorted} {w : List ℕ} {d : Data} {ps : List Component} → EachFits c w d ps → Agree c w (only d) (only_set ps)
only_agree NoDatum = Neither
only_agree (OneDatum f NoDatum) = BothThere f
only_agree (OneDatum f (OneDatum g h)) = Neither

pub nth_agree : {c : Sorted} {w : List ℕ} (n : ℕ) {d : Data} {ps : List Component} → EachFits c w d ps → Agree c w (nth d n) (nth_set n ps)
nth_agree zero h = Neither
nth_agree (suc n) NoDatum = Neither
nth_agree (suc zero) (OneDatum f h) = BothThere f
nth_agree (suc (suc n)) (OneDatum f h) = nth_agree (suc n) h

pub lookup_agree : {c : Sorted} {w : List ℕ} (t : Token) {b : Binds} {ps : List Component} → EachBoundFits c w b ps → Agree c w (lookup t b) (lookup_set t ps)
lookup_agree t NoneBound = Neither
lookup_agree {c} {w} t (OneBound {u} {p} e f h) = of_choices (Agree c w) (token_lt t u) (token_lt t p.token) (cc) Neither
    (of_choices (Agree c w) (token_lt u t) (token_lt p.token t) (cc) (lookup_agree t h) (BothThere f))

-- what is looked up is there and of the sort
agree_none : {c : Sorted} {w : List ℕ} (s : Sort) {o : Option Datum} {q : Option Set} → Agree c w o q → is_clash (misfit s q) ≡ false → and_then o (of_sort s) ≡ None → ⊥
agree_none s Neither e h = cc
agree_none s (BothThere {x} {q} f) e h = let r = of_same s f (marked_of s q e) in cc

on_given : {c : Sorted} {w : List ℕ} (s : Sort) {d : Data} {x : Part} {o : Option Datum} {f : List Component → Option Set} → ((ps : List Component) → EachFits c w d ps → Agree c w o (f ps)) → DataFit c w d x → is_clash (on_list (λ ps. misfit s (f ps)) x) ≡ false → and_then o (of_sort s) ≡ None → ⊥
on_given s h (DataListed g) e n = agree_none s (h _ g) e n
on_given s h DataClash e n = cc

on_received : {c : Sorted} {w : List ℕ} (s : Sort) {b : Binds} {x : Part} {o : Option Datum} {f : List Component → Option Set} → ((ps : List Component) → EachBoundFits c w b ps → Agree c w o (f ps)) → BindsFit c w b x → is_clash (on_list (λ ps. misfit s (f ps)) x) ≡ false → and_then o (of_sort s) ≡ None → ⊥
on_received s h (BindsListed g) e n = agree_none s (h _ g) e n
on_received s h BindsClash e n = cc

-- a value that lies in a sort
pub value_sort : {c : Sorted} {w : List ℕ} (s : Sort) {x : Datum} {v : Part} → DataFit c w (x ∷ []) v → is_clash (strays s v) ≡ false → of_sort s x ≡ Some x
value_sort s (DataListed (OneDatum {p} f NoDatum)) e = of_same s f (marked_of s p.set e)
value_sort s DataClash e = absurd {0} (cc)

pub clear_left : (x y : Part) → is_clash (join x y) ≡ false → is_clash x ≡ false
clear_left x y e = clear_below (join_left y) e

pub clear_right : (x y : Part) → is_clash (join x y) ≡ false → is_clash y ≡ false
clear_right x y e = clear_below (join_right x) e

-- data of a sort
a_number : (x : Datum) → of_sort sort.Integer x ≡ Some x → (n : ℤ) × (x ≡ Number n)
a_number (Number n) e = (n, refl)
a_number _ e = absurd {0} (cc)

a_cell : (x : Datum) → of_sort sort.Cell x ≡ Some x → (i : ℕ) × (x ≡ CellOf i)
a_cell (CellOf i) e = (i, refl)
a_cell _ e = absurd {0} (cc)

-- the cell is one of the world's
cell_there : {c : Sorted} {w : List ℕ} {cells : List (Option Datum)} {i : ℕ} {v : Part} → CellsFit c w cells → DataFit c w (CellOf i ∷ []) v → is_clash (strays sort.Cell v) ≡ false → (o : Option Datum) × (slice_get cells i ≡ Some o)
cell_there {w} {cells} {i} wf (DataListed (OneDatum (CellFits f m h) NoDatum)) e = there w cells i wf.long f
  where
    there : {A B : Type 0} (xs : List A) (ys : List B) (i : ℕ) {x : A} → length xs ≡ length ys → slice_get xs i ≡ Some x → (y : B) × (slice_get ys i ≡ Some y)
    there [] ys i e f = absurd {0} (cc)
    there (x ∷ xs) [] i e f = absurd {0} (cc)
    there (x ∷ xs) (y ∷ ys) zero e f = (y, refl)
    there (x ∷ xs) (y ∷ ys) (suc i) e f = there xs ys i (cc) f
cell_there wf DataClash e = absurd {0} (cc)

by_option : {A : Type 0} (o : Option Datum) → (o ≡ None → A) → ((x : Datum) → o ≡ Some x → A) → A
by_option None f g = f refl
by_option (Some x) f g = g x refl

a_truth : (x : Datum) → of_sort sort.Truth x ≡ Some x → (t : Bool) × (x ≡ Truth t)
a_truth (Truth t) e = (t, refl)
a_truth _ e = absurd {0} (cc)

pub when_clear : (x y : Part) → is_clash (when x y) ≡ false → (is_clash x ≡ false) ⊎ (is_clash y ≡ false)
when_clear Unreached y e = inl refl
when_clear (Listed ps) y e = inl refl
when_clear Clash y e = inr e

-- `is`, and the operations on truth-values, never yield nothing: the rest is arithmetic
two_numbers : {c : Sorted} {w : List ℕ} (f : Two) {x1 x2 : Datum} {v1 v2 : Part} → DataFit c w (x1 ∷ []) v1 → DataFit c w (x2 ∷ []) v2 → is_clash (misfit_two f v1 v2) ≡ false → on_two f x1 x2 ≡ None → (m : ℤ) × (n : ℤ) × (x1 ≡ Number m) × (x2 ≡ Number n)
two_numbers {c} {w} f {x1} {x2} {v1} {v2} d1 d2 e n = go f e n
  where
    ints : is_clash (both_stray sort.Integer v1 v2) ≡ false → (m : ℤ) × (n : ℤ) × (x1 ≡ Number m) × (x2 ≡ Number n)
    ints e = let (m, r) = a_number x1 (value_sort sort.Integer d1 (clear_left _ (strays sort.Integer v2) e)) in let (n, t) = a_number x2 (value_sort sort.Integer d2 (clear_right (strays sort.Integer v1) _ e)) in (m, n, r, t)

    truths : (f : Two) → ((a b : Bool) → on_two f (Truth a) (Truth b) ≡ None → ⊥) → is_clash (both_stray sort.Truth v1 v2) ≡ false → on_two f x1 x2 ≡ None → ⊥
    truths f k e n = let (a, r) = a_truth x1 (value_sort sort.Truth d1 (clear_left _ (strays sort.Truth v2) e)) in let (b, t) = a_truth x2 (value_sort sort.Truth d2 (clear_right (strays sort.Truth v1) _ e)) in k a b (subst (λ z. on_two f z (Truth b) ≡ None) r (subst (λ z. on_two f x1 z ≡ None) t n))

    cells : is_clash (both_stray sort.Cell v1 v2) ≡ false → on_two Is x1 x2 ≡ None → ⊥
    cells e n = let (a, r) = a_cell x1 (value_sort sort.Cell d1 (clear_left _ (strays sort.Cell v2) e)) in let (b, t) = a_cell x2 (value_sort sort.Cell d2 (clear_right (strays sort.Cell v1) _ e)) in
        let q : on_two Is (CellOf a) (CellOf b) ≡ None = subst (λ z. on_two Is z (CellOf b) ≡ None) r (subst (λ z. on_two Is x1 z ≡ None) t n) in cc

    is_two : (is_clash (both_stray sort.Integer v1 v2) ≡ false) ⊎ (is_clash (when (both_stray sort.Truth v1 v2) (both_stray sort.Cell v1 v2)) ≡ false) → on_two Is x1 x2 ≡ None → (m : ℤ) × (n : ℤ) × (x1 ≡ Number m) × (x2 ≡ Number n)
    is_two (inl e) n = ints e
    is_two (inr e) n = absurd (either (λ e. truths Is (λ a b h. cc) e n) (λ e. cells e n) (when_clear (both_stray sort.Truth v1 v2) (both_stray sort.Cell v1 v2) e))

    go : (f : Two) → is_clash (misfit_two f v1 v2) ≡ false → on_two f x1 x2 ≡ None → (m : ℤ) × (n : ℤ) × (x1 ≡ Number m) × (x2 ≡ Number n)
    go Is e n = is_two (when_clear (both_stray sort.Integer v1 v2) (when (both_stray sort.Truth v1 v2) (both_stray sort.Cell v1 v2)) e) n
    go BothOf e n = absurd (truths BothOf (λ a b h. cc) e n)
    go EitherOf e n = absurd (truths EitherOf (λ a b h. cc) e n)
    go _ e n = ints e

one_number : {c : Sorted} {w : List ℕ} (f : One) {x : Datum} {v : Part} → DataFit c w (x ∷ []) v → is_clash (misfit_one f v) ≡ false → on_one f x ≡ None → (m : ℤ) × (x ≡ Number m)
one_number Negation {x} h e n = a_number x (value_sort sort.Integer h e)
one_number Not {x} h e n = let (a, r) = a_truth x (value_sort sort.Truth h e) in let q : on_one Not (Truth a) ≡ None = subst (λ z. on_one Not z ≡ None) r n in absurd {0} (cc)

pub progress : {c : Sorted} {w : List ℕ} {cells : List (Option Datum)} {g h : Part} {d : Data} {b : Binds} → CellsFit c w cells → DataFit c w d g → BindsFit c w b h → (y : Yielder) → Each (Captured c h) (closures_in y) → is_clash (wrong (λ s. c.table (Contents s)) g h y) ≡ false → yields y d b cells ≡ None → Blocks d b cells y
progress wf df bf (NumberLiteral n) q e n0 = absurd {0} (cc)
progress wf df bf (TruthLiteral n) q e n0 = absurd {0} (cc)
progress wf df bf (Given s) q e n0 = absurd (on_given s (λ ps h. only_agree h) df e n0)
progress wf df bf (GivenAt s n) q e n0 = absurd (on_given s (λ ps h. nth_agree n h) df e n0)
progress wf df bf (BoundTo s t) q e n0 = absurd (on_received s (λ ps h. lookup_agree t h) bf e n0)
progress {c} {w} {cells} {g} {h} {d} {b} wf df bf (StoredIn s y) q e n0 =
    let v = value (λ s. c.table (Contents s)) g h y in
    let wy = wrong (λ s. c.table (Contents s)) g h y in
    let nv = strays sort.Cell v in
    let ns = strays s (stored_value (λ s. c.table (Contents s)) v) in
    let e2 = clear_right wy (join nv ns) e in
    by_option (yields y d b cells) (λ f. CellBlocks (progress wf df bf y q (clear_left wy (join nv ns) e) f))
    (λ x f. let vx = yields_in wf df bf y q f in
    let (i, r) = a_cell x (value_sort sort.Cell vx (clear_left nv ns e2)) in
    let f2 : yields y d b cells ≡ Some (CellOf i) = cc in
    let vi : DataFit c w (CellOf i ∷ []) v = subst (λ z. DataFit c w (z ∷ []) v) r vx in
    let (o, t) = cell_there wf vi (clear_left nv ns e2) in
    by_option o (λ u. Unset f2 (cc))
    (λ z u.
    let t2 : stored cells (CellOf i) ≡ Some z = ap set_content (t ∙ ap (λ (o : Option Datum). Some o) u) in
    let k : of_sort s z ≡ Some z = value_sort s (stored_in wf vi t2) (clear_right nv ns e2) in
    absurd (stored_none (yields y d b cells) f2 t2 k n0)))
  where
    stored_none : (oy : Option Datum) {i : ℕ} {z : Datum} → oy ≡ Some (CellOf i) → stored cells (CellOf i) ≡ Some z → of_sort s z ≡ Some z → and_then (and_then oy (stored cells)) (of_sort s) ≡ None → ⊥
    stored_none oy {i} {z} f t k n =
        let n2 : and_then (stored cells (CellOf i)) (of_sort s) ≡ None = subst (λ o. and_then (and_then o (stored cells)) (of_sort s) ≡ None) f n in
        let n3 : of_sort s z ≡ None = subst (λ o. and_then o (of_sort s) ≡ None) t n2 in cc
progress {c} {w} {cells} {g} {h} {d} {b} wf df bf (OnTwo f y1 y2) q e n0 =
    let v1 = value (λ s. c.table (Contents s)) g h y1 in
    let v2 = value (λ s. c.table (Contents s)) g h y2 in
    let w1 = wrong (λ s. c.table (Contents s)) g h y1 in
    let w2 = wrong (λ s. c.table (Contents s)) g h y2 in
    let m = misfit_two f v1 v2 in
    let e2 = clear_right w1 (join w2 m) e in
    by_option (yields y1 d b cells) (λ r. FirstBlocks (progress wf df bf y1 (each_left (closures_in y1) (closures_in y2) q) (clear_left w1 (join w2 m) e) r))
    (λ x1 r1. by_option (yields y2 d b cells) (λ r. SecondBlocks (progress wf df bf y2 (each_right (closures_in y1) q) (clear_left w2 m e2) r))
    (λ x2 r2.
    let d1 = yields_in wf df bf y1 (each_left (closures_in y1) (closures_in y2) q) r1 in
    let d2 = yields_in wf df bf y2 (each_right (closures_in y1) q) r2 in
    let n1 : and_then (yields y2 d b cells) (on_two f x1) ≡ None = subst (λ o. and_then o (λ x. and_then (yields y2 d b cells) (on_two f x)) ≡ None) r1 n0 in
    let n2 : on_two f x1 x2 ≡ None = subst (λ o. and_then o (on_two f x1) ≡ None) r2 n1 in
    let (i, j, t1, t2) = two_numbers f d1 d2 (clear_right w2 m e2) n2 in
    OutOfRange {f = f} {m = i} {n = j} (r1 ∙ ap (λ (z : Datum). Some z) t1) (r2 ∙ ap (λ (z : Datum). Some z) t2) (subst (λ z. on_two f z (Number j) ≡ None) t1 (subst (λ z. on_two f x1 z ≡ None) t2 n2))))
progress {c} {w} {cells} {g} {h} {d} {b} wf df bf (OnOne f y) q e n0 =
    let v = value (λ s. c.table (Contents s)) g h y in
    let wy = wrong (λ s. c.table (Contents s)) g h y in
    by_option (yields y d b cells) (λ r. ArgumentBlocks (progress wf df bf y q (clear_left wy (misfit_one f v) e) r))
    (λ x r.
    let n2 : on_one f x ≡ None = subst (λ o. and_then o (on_one f) ≡ None) r n0 in
    let (i, t) = one_number f (yields_in wf df bf y q r) (clear_right wy (misfit_one f v) e) n2 in
    OutOfRangeOne (r ∙ ap (λ (z : Datum). Some z) t) (subst (λ z. on_one f z ≡ None) t n2))
progress wf df bf (ClosureOf k) q e n0 = absurd {0} (cc)
