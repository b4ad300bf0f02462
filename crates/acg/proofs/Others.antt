-- What an iterator gives that passes over the first item.
use Rattle.std.proofs.Common.{◌≡◌, ◌≢◌, ℕ, ◌<◌, List, [], length, drop, Result, Ok, Err, ap, ◌∙◌, arith}
use Rattle.std.specs.Prelude.{OnErr}
use Rattle.std.specs.declared.iter.Skip.{Skip}
use Rattle.std.specs.declared.vec.IntoIter.{IntoIter}
use Rattle.std.specs.Iterator.Adapters.{skip_source, skip_count, skip_steps}
use Rattle.std.specs.Vec.Iter.{into_iter_items, into_iter_len, into_iter_steps}
use Rattle.std.proofs.lemmas.Iterator.{YieldsList}
use Rattle.std.proofs.lemmas.Iterator.Adapters.{YieldsList-from_vec, YieldsList-from_skip}

-- all items but the first
pub others-yielded : {A Z : Type 0} (all : IntoIter A Z) (others : Skip (IntoIter A Z)) → into_iter_len all ≡ length (into_iter_items all) → skip_source others ≡ all → skip_count others ≡ 1
    → YieldsList (skip_steps (into_iter_steps {X = A} {Z = Z})) (λ y. y) others (drop 1 (into_iter_items all))
others-yielded all others len source count =
    let items : into_iter_items (skip_source others) ≡ into_iter_items all = ap into_iter_items source in
    YieldsList-from_skip 1 (YieldsList-from_vec (into_iter_items all) items (ap into_iter_len source ∙ len)) count

-- a list that has an item isn't empty, whatever the error
pub some-at-err : {A T E : Type 0} (result : Result T E) (items : List A) (place : ℕ) → place < length items → OnErr result (items ≢ [])
some-at-err (Ok value) items place below = tt
some-at-err (Err error) items place below = λ none. omega (arith, below, ap length none)
