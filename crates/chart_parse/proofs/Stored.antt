-- What is stored in a list of a place, and what a slice of a row has written back.
use Rattle.std.proofs.Common.{◌≡◌, ◌∙◌, ℕ, ◌<◌, List, ◌++◌, length, take, take_all, drop, get_or, append-nil, sym, ap, arith, Vec, Global}
use Rattle.std.proofs.lemmas.List.{drop_all}
use Rattle.chart_parse.specs.declared.rows.Entry.{Entry}
use Rattle.chart_parse.specs.Table.{list_at}
use Rattle.chart_parse.specs.Places.{Places, lists_of, list_of}
use Rattle.chart_parse.proofs.Table.{list_is}
use Rattle.chart_parse.proofs.Updated.{place_is}

-- a slice over all words of a row
pub written_back : (new old : List ℕ) (n : ℕ) → n ≡ length old → length new ≡ length old → take n (new ++ drop (length new) old) ≡ new
written_back new old n e f = ap (λ t. take n (new ++ t)) (drop_all (length new) old (omega (arith, f))) ∙ ap (take n) (append-nil new) ∙ take_all n new (omega (arith, e, f))

-- the lists of a place
pub lists_there : (p : Places) (i : ℕ) (v : Vec (Vec Entry Global) Global) → i < length p → v ≡ get_or p i v → lists_of p i ≡ v.items
lists_there p i v lt e = place_is p i v lt ∙ sym (ap (λ (x : Vec (Vec Entry Global) Global). x.items) e)

-- a list of a place
pub list_there : (p : Places) (i c : ℕ) (v : Vec (Vec Entry Global) Global) (x : Vec Entry Global) → i < length p → v ≡ get_or p i v → c < length v.items → x ≡ get_or v.items c x → list_of p i c ≡ x.items
list_there p i c v x lt e le f = ap (λ t. list_at t c) (lists_there p i v lt e) ∙ list_is v.items c x le ∙ sym (ap (λ (y : Vec Entry Global). y.items) f)
