-- The first command with a name, by the place of a loop.
use Rattle.std.proofs.Common.{◌≡◌, ℕ, zero, suc, ◌<◌, true, false, List, [], ◌∷◌, length, get_or, drop, Some, refl, arith}
use Rattle.std.specs.Str.{bytes_eq}
use Rattle.acg_words.specs.declared.table.Kind.{Kind}
use Rattle.acg_words.specs.Commands.{name_of, first_named}

-- at a command with another name
pub first_named-other : (kinds : List Kind) (i : ℕ) (d : Kind) (name : List ℕ) → i < length kinds → bytes_eq (name_of (get_or kinds i d)) name ≡ false
    → first_named (drop i kinds) name ≡ first_named (drop (suc i) kinds) name
first_named-other [] i d name below other = absurd (omega arith)
first_named-other (k ∷ kinds) zero d name below other = rw other refl
first_named-other (k ∷ kinds) (suc i) d name below other = first_named-other kinds i d name (omega arith) other

-- at a command with the name
pub first_named-found : (kinds : List Kind) (i : ℕ) (d : Kind) (name : List ℕ) → i < length kinds → bytes_eq (name_of (get_or kinds i d)) name ≡ true
    → first_named (drop i kinds) name ≡ Some (get_or kinds i d)
first_named-found [] i d name below same = absurd (omega arith)
first_named-found (k ∷ kinds) zero d name below same = rw same refl
first_named-found (k ∷ kinds) (suc i) d name below same = first_named-found kinds i d name (omega arith) same

pub ruleset steps = (first_named-other, first_named-found)
