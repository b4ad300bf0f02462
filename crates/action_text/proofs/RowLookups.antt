-- Looking for a row one row on.
use Rattle.std.proofs.Common.{◌≡◌, ℕ, ◌+◌, ◌<◌, Bool, true, false, List, [], ◌∷◌, length, map, Some, refl, zero, suc, get_or, drop, arith, nat_eq, if◌then◌else◌, ◌⊎◌, inl, inr}
use Rattle.action_text.specs.declared.table.Row.{Row}
use Rattle.action_text.specs.declared.table.OtherRow.{OtherRow}
use Rattle.action_text.specs.Numbers.{class_number, name_number}
use Rattle.action_text.specs.Tables.{line_of, other_of}
use Rattle.action_text.specs.Rows.{line_at, other_at}

either : {A : Type 0} (b : Bool) (x : A) → (if b then x else x) ≡ x
either true x = refl
either false x = refl

pub line_next : (rs : List Row) (i j n c : ℕ) (d : Row) → j ≡ i + 1 → i < length rs → nat_eq (name_number (get_or rs i d).name) n ≡ false ⊎ nat_eq (class_number (get_or rs i d).class) c ≡ false
    → line_of (map line_at (drop i rs)) n c ≡ line_of (map line_at (drop j rs)) n c
unfolding line_of
line_next [] i j n c d e l h = absurd (omega arith)
line_next (r ∷ rs) i zero n c d e l h = absurd (omega arith)
line_next (r ∷ rs) zero (suc j) n c d e l (inl h) = let z : j ≡ 0 = omega arith in rw z (rw h refl)
line_next (r ∷ rs) zero (suc j) n c d e l (inr h) = let z : j ≡ 0 = omega arith in rw z (rw h (either (nat_eq (name_number r.name) n) (line_of (map line_at rs) n c)))
line_next (r ∷ rs) (suc i) (suc j) n c d e l h = line_next rs i j n c d (omega arith) (omega arith) h

pub line_here : (rs : List Row) (i n c : ℕ) (d : Row) → i < length rs → nat_eq (name_number (get_or rs i d).name) n ≡ true → nat_eq (class_number (get_or rs i d).class) c ≡ true
    → line_of (map line_at (drop i rs)) n c ≡ Some (line_at (get_or rs i d))
unfolding line_of
line_here [] i n c d l e f = absurd (omega arith)
line_here (r ∷ rs) zero n c d l e f = rw e (rw f refl)
line_here (r ∷ rs) (suc i) n c d l e f = line_here rs i n c d (omega arith) e f

pub other_next : (rs : List OtherRow) (i j n : ℕ) (d : OtherRow) → j ≡ i + 1 → i < length rs → nat_eq (name_number (get_or rs i d).name) n ≡ false → other_of (map other_at (drop i rs)) n ≡ other_of (map other_at (drop j rs)) n
unfolding other_of
other_next [] i j n d e l h = absurd (omega arith)
other_next (r ∷ rs) i zero n d e l h = absurd (omega arith)
other_next (r ∷ rs) zero (suc j) n d e l h = let z : j ≡ 0 = omega arith in rw z (rw h refl)
other_next (r ∷ rs) (suc i) (suc j) n d e l h = other_next rs i j n d (omega arith) (omega arith) h

pub other_here : (rs : List OtherRow) (i n : ℕ) (d : OtherRow) → i < length rs → nat_eq (name_number (get_or rs i d).name) n ≡ true → other_of (map other_at (drop i rs)) n ≡ Some (other_at (get_or rs i d)).right
unfolding other_of
other_here [] i n d l e = absurd (omega arith)
other_here (r ∷ rs) zero n d l e = rw e refl
other_here (r ∷ rs) (suc i) n d l e = other_here rs i n d (omega arith) e
