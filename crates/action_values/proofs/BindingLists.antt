-- Bindings in memory, one at a time.
use Rattle.std.proofs.Common.{◌≡◌, ℕ, ◌+◌, ◌<◌, List, [], ◌∷◌, ◌++◌, length, take, drop, get_or, refl, ap, ◌∙◌, add-one, drop-cons}
use Rattle.std.proofs.lemmas.List.{take_more}
use Rattle.action_terms.specs.Information.{Datum as Meant, Binds, Bound}
use Rattle.action_values.specs.Values.{Pair, datum_step, pair_step, meant, pair_of, bindings_of}
use Rattle.action_values.specs.Puts.{before}
use Rattle.action_values.specs.declared.datum.Binding.{Binding, fold_out-Binding}

pub pair_of-token : (b : Binding) → (pair_of b).token ≡ b.token.now
pair_of-token b = ap (λ (p : Pair). p.token) (fold_out-Binding Meant Pair datum_step pair_step b)

pub pair_of-datum : (b : Binding) → (pair_of b).datum ≡ meant b.datum
pair_of-datum b = ap (λ (p : Pair). p.datum) (fold_out-Binding Meant Pair datum_step pair_step b)

pub bindings_of-cons : (b : Binding) (bs : List Binding) → bindings_of (b ∷ bs) ≡ Bound b.token.now (meant b.datum) (bindings_of bs)
bindings_of-cons b bs = rw (pair_of-token, pair_of-datum)

pub bindings_of-drop : (bs : List Binding) (i : ℕ) (d : Binding) → i < length bs →
    bindings_of (drop i bs) ≡ Bound (get_or bs i d).token.now (meant (get_or bs i d).datum) (bindings_of (drop (i + 1) bs))
bindings_of-drop bs i d h = rw (add-one, drop-cons bs i d h, pair_of-token, pair_of-datum)

pub bindings_of-append : (xs ys : List Binding) → bindings_of (xs ++ ys) ≡ before xs (bindings_of ys)
bindings_of-append [] ys = refl
bindings_of-append (x ∷ xs) ys = bindings_of-cons x (xs ++ ys) ∙ ap (Bound x.token.now (meant x.datum)) (bindings_of-append xs ys)

pub before-append : (xs ys : List Binding) (rest : Binds) → before (xs ++ ys) rest ≡ before xs (before ys rest)
before-append [] ys rest = refl
before-append (x ∷ xs) ys rest = ap (Bound x.token.now (meant x.datum)) (before-append xs ys rest)

pub before-take : (bs : List Binding) (i : ℕ) (d : Binding) (rest : Binds) → i < length bs →
    before (take (i + 1) bs) rest ≡ before (take i bs) (Bound (get_or bs i d).token.now (meant (get_or bs i d).datum) rest)
before-take bs i d rest h = rw (take_more bs i d h) (before-append (take i bs) (get_or bs i d ∷ []) rest)

pub ruleset binding_lists = (bindings_of-drop)
