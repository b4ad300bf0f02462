-- Lists in a table.
use Rattle.std.proofs.Common.{◌≡◌, ◌≢◌, ℕ, zero, suc, ◌<◌, List, [], ◌∷◌, length, get_or, slice_set, refl, ap, arith, Vec, Global}
use Rattle.chart_parse.specs.declared.rows.Entry.{Entry}
use Rattle.chart_parse.specs.Table.{list_at}

pub set_same : (rows : List (Vec Entry Global)) (i : ℕ) (v : Vec Entry Global) → i < length rows → list_at (slice_set rows i v) i ≡ v.items
set_same [] i v h = absurd (omega arith)
set_same (r ∷ rows) zero v h = refl
set_same (r ∷ rows) (suc i) v h = set_same rows i v (omega arith)

pub set_other : (rows : List (Vec Entry Global)) (i n : ℕ) (v : Vec Entry Global) → n ≢ i → list_at (slice_set rows i v) n ≡ list_at rows n
set_other [] i n v h = refl
set_other (r ∷ rows) zero zero v h = absurd (h refl)
set_other (r ∷ rows) zero (suc n) v h = refl
set_other (r ∷ rows) (suc i) zero v h = refl
set_other (r ∷ rows) (suc i) (suc n) v h = set_other rows i n v (λ e. h (ap suc e))

pub list_is : (rows : List (Vec Entry Global)) (i : ℕ) (d : Vec Entry Global) → i < length rows → list_at rows i ≡ (get_or rows i d).items
list_is [] i d h = absurd (omega arith)
list_is (r ∷ rows) zero d h = refl
list_is (r ∷ rows) (suc i) d h = list_is rows i d (omega arith)
