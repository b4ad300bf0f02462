-- One more in a set that is noted.
use Rattle.std.proofs.Common.{◌≡◌, ◌∙◌, ◌⊎◌, inl, inr, Bool, true, false, List, [], ◌∷◌, ◌++◌, refl, sym}
use Rattle.std.specs.Prelude.{◌||◌, if◌then◌else◌}
use Rattle.std.specs.List.{list_any}
use Rattle.std.proofs.lemmas.List.Folds.{list_any-append}

any-of : (a b : Bool) → (a || (b || false)) ≡ true → (a ≡ true) ⊎ (b ≡ true)
any-of true b h = inl refl
any-of false true h = inr refl
any-of false false h = absurd (let r : false ≡ true = h in cc)

pub one-noted : {K : Type 0} (test : K → Bool) (b : Bool) (keys : List K) (w : K) → list_any test (if b then keys else keys ++ w ∷ []) ≡ true → (list_any test keys ≡ true) ⊎ (test w ≡ true)
one-noted test true keys w h = inl h
one-noted test false keys w h = any-of (list_any test keys) (test w) (sym (list_any-append test keys (w ∷ [])) ∙ h)
