-- A loop that looks for one that passes a test.
use Rattle.std.proofs.Common.{◌≡◌, ◌∙◌, ℕ, zero, suc, ◌+◌, ◌<◌, Bool, true, false, List, [], ◌∷◌, length, take, get_or, refl, ap, arith}
use Rattle.std.specs.Prelude.{◌||◌}
use Rattle.std.specs.List.{list_any}
use Rattle.std.proofs.lemmas.Bool.{or_from, or_right}
use Rattle.std.proofs.lemmas.List.{take_more}
use Rattle.std.proofs.lemmas.List.Folds.{list_any-append}

-- this one doesn't, nor do those before it
pub none_more_passes : {X : Type 0} (test : X → Bool) (xs : List X) (i : ℕ) (d : X) → i < length xs → list_any test (take i xs) ≡ false → test (get_or xs i d) ≡ false → list_any test (take (i + 1) xs) ≡ false
none_more_passes test xs i d h before here =
    ap (list_any test) (take_more xs i d h) ∙ list_any-append test (take i xs) (get_or xs i d ∷ [])
    ∙ or_from (list_any test (take i xs)) (test (get_or xs i d) || false) before (or_from (test (get_or xs i d)) false here refl)

-- this one does
pub one_passes : {X : Type 0} (test : X → Bool) (xs : List X) (i : ℕ) (d : X) → i < length xs → test (get_or xs i d) ≡ true → list_any test xs ≡ true
one_passes test [] i d h here = absurd (omega (arith, h))
one_passes test (x ∷ xs) zero d h here = ap (λ b. b || list_any test xs) here
one_passes test (x ∷ xs) (suc i) d h here = or_right (test x) (list_any test xs) (one_passes test xs i d (omega (arith, h)) here)
