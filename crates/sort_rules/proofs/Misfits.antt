-- What fits, and what is joined.
use Rattle.std.proofs.Common.{Bool, List, None, Some, [], ap, arith, false, get_or, length, map, refl, suc, sym, true, zero, ℕ, ◌&&◌, ◌<◌, ◌||◌, ◌∙◌, ◌∷◌, ◌≡◌, ◌≤◌}
use Rattle.sort_rules.specs.Judgements.{misfit_unless}
use Rattle.sort_rules.specs.Parts.{join, when}
use Rattle.sort_rules.specs.Values.{nth_set}
use Rattle.sort_rules.specs.Views.{place_of, set_of}
use Rattle.sort_rules.specs.declared.set.Set.{Set as Memory}

-- both fit
pub misfit-and : (a b : Bool) → misfit_unless (a && b) ≡ join (misfit_unless a) (misfit_unless b)
misfit-and true b = refl
misfit-and false true = refl
misfit-and false false = refl

-- one of them fits
pub misfit-or : (a b : Bool) → misfit_unless (a || b) ≡ when (misfit_unless a) (misfit_unless b)
misfit-or true b = refl
misfit-or false b = refl

-- the set of a place that is there
pub nth-there : (sets : List Memory) (place index : ℕ) (s : Memory) → place ≡ suc index → index < length sets → s ≡ get_or sets index s → Some (set_of s) ≡ nth_set place (map place_of sets)
nth-there sets place index s e h at = ap (λ (s : Memory). Some (set_of s)) at ∙ sym (ap (λ (n : ℕ). nth_set n (map place_of sets)) e ∙ go sets index h)
  where
    go : (sets : List Memory) (i : ℕ) → i < length sets → nth_set (suc i) (map place_of sets) ≡ Some (set_of (get_or sets i s))
    go [] i h = absurd (omega arith)
    go (x ∷ sets) zero h = refl
    go (x ∷ sets) (suc i) h = go sets i (omega arith)

-- none of a place past the end
pub nth-past : (sets : List Memory) (place index : ℕ) → place ≡ suc index → length sets ≤ index → None ≡ nth_set place (map place_of sets)
nth-past sets place index e h = sym (ap (λ (n : ℕ). nth_set n (map place_of sets)) e ∙ go sets index h)
  where
    go : (sets : List Memory) (i : ℕ) → length sets ≤ i → nth_set (suc i) (map place_of sets) ≡ None
    go [] i h = refl
    go (x ∷ sets) zero h = absurd (omega arith)
    go (x ∷ sets) (suc i) h = go sets i (omega arith)

pub ruleset misfits = (misfit-and, misfit-or)
