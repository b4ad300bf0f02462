-- Looking for a word one word on.
use Rattle.std.proofs.Common.{◌≡◌, ℕ, ◌+◌, ◌<◌, Bool, true, false, List, [], ◌∷◌, length, map, refl, zero, suc, get_or, drop, arith, Bor, if◌then◌else◌}
use Rattle.meta_terms.specs.Words.{same_bytes}
use Rattle.action_text.specs.declared.classes.Class.{Class}
use Rattle.action_text.specs.Numbers.{class_number}
use Rattle.action_text.specs.Classes.{class_among, spelled_class}
use Rattle.action_text.proofs.Words.{same_is, same_back}

pub among_here : (ws : List (Class × Bor (List ℕ))) (i : ℕ) (bytes : List ℕ) (d : Class × Bor (List ℕ)) → i < length ws → (get_or ws i d).1.now ≡ bytes → class_among (map spelled_class (drop i ws)) bytes ≡ class_number (get_or ws i d).0
among_here [] i bytes d h e = absurd (omega arith)
among_here (w ∷ ws) zero bytes d h e = rw (same_back w.1.now bytes e) refl
among_here (w ∷ ws) (suc i) bytes d h e = among_here ws i bytes d (omega arith) e

pub among_next : (ws : List (Class × Bor (List ℕ))) (i j : ℕ) (bytes : List ℕ) (d : Class × Bor (List ℕ)) → j ≡ i + 1 → i < length ws → ((get_or ws i d).1.now ≡ bytes → ⊥)
    → class_among (map spelled_class (drop i ws)) bytes ≡ class_among (map spelled_class (drop j ws)) bytes
among_next [] i j bytes d e h n = absurd (omega arith)
among_next (w ∷ ws) i zero bytes d e h n = absurd (omega arith)
among_next (w ∷ ws) zero (suc j) bytes d e h n = let z : j ≡ 0 = omega arith in rw z (other (same_bytes w.1.now bytes) refl)
  where
    other : (b : Bool) → same_bytes w.1.now bytes ≡ b → (if b then class_number w.0 else class_among (map spelled_class ws) bytes) ≡ class_among (map spelled_class ws) bytes
    other true p = absurd (n (same_is w.1.now bytes p))
    other false p = refl
among_next (w ∷ ws) (suc i) (suc j) bytes d e h n = among_next ws i j bytes d (omega arith) (omega arith) n
