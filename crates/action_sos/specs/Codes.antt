-- Data, bindings and acting trees as trees of numbers, by which a proof tells two of them apart.
use Rattle.std.specs.Prelude.{◌≡◌, ℕ, zero, suc, ℤ, pos, negsuc, Bool, true, false, [], ◌∷◌, Option, Some, None}
use Rattle.std.proofs.Common.{refl, ap, sym, ◌∙◌, ap₂}
use base.Stored.{Coded, Gv, gnil, gnum, gcons}
use Rattle.action_terms.specs.Information.{Token, Datum, Number, Truth, CellOf, Closure, Binds, NoBinds, Bound, Data}
use Rattle.action_terms.specs.Acting.{End, Done, Esc, Fail, Tree, Run, Ended, Called, Par, First, Second, Or, Cut, Trap, Over}

abbrev of_truth : Bool → Gv
of_truth true = gnum 1
of_truth false = gnum 0

abbrev of_integer : ℤ → Gv
of_integer (pos n) = gcons (gnum 0) (gnum n)
of_integer (negsuc n) = gcons (gnum 1) (gnum n)

abbrev of_token : Token → Gv
of_token [] = gnil
of_token (b ∷ bytes) = gcons (gnum b) (of_token bytes)

abbrev of_own : Option Token → Gv
of_own None = gnil
of_own (Some t) = gcons gnil (of_token t)

abbrev mutual
  pub of_datum : Datum → Gv
  of_datum (Number n) = gcons (gnum 0) (of_integer n)
  of_datum (Truth b) = gcons (gnum 1) (of_truth b)
  of_datum (CellOf c) = gcons (gnum 2) (gnum c)
  of_datum (Closure k b own) = gcons (gnum 3) (gcons (gnum k) (gcons (of_binds b) (of_own own)))

  of_binds : Binds → Gv
  of_binds NoBinds = gnil
  of_binds (Bound t x rest) = gcons (of_token t) (gcons (of_datum x) (of_binds rest))

abbrev of_data : Data → Gv
of_data [] = gnil
of_data (x ∷ xs) = gcons (of_datum x) (of_data xs)

abbrev of_end : End → Gv
of_end (Done d b) = gcons (gnum 0) (gcons (of_data d) (of_binds b))
of_end (Esc d) = gcons (gnum 1) (of_data d)
of_end Fail = gnil

abbrev pub of_tree : Tree → Gv
of_tree (Run k d b) = gcons (gnum 0) (gcons (gnum k) (gcons (of_data d) (of_binds b)))
of_tree (Ended z) = gcons (gnum 1) (of_end z)
of_tree (Called c x) = gcons (gnum 2) (gcons (gnum c) (of_tree x))
of_tree (Par k x y) = gcons (gnum 3) (gcons (gnum k) (gcons (of_tree x) (of_tree y)))
of_tree (First k x d b) = gcons (gnum 4) (gcons (gnum k) (gcons (of_tree x) (gcons (of_data d) (of_binds b))))
of_tree (Second k d1 b1 x) = gcons (gnum 5) (gcons (gnum k) (gcons (of_tree x) (gcons (of_data d1) (of_binds b1))))
of_tree (Or x k2 d b) = gcons (gnum 6) (gcons (gnum k2) (gcons (of_tree x) (gcons (of_data d) (of_binds b))))
of_tree (Cut x) = gcons (gnum 7) (of_tree x)
of_tree (Trap k x b) = gcons (gnum 8) (gcons (gnum k) (gcons (of_tree x) (of_binds b)))
of_tree (Over x b) = gcons (gnum 9) (gcons (of_tree x) (of_binds b))

-- ---- and back

abbrev truth_in : Gv → Bool
truth_in (gnum (suc n)) = true
truth_in _ = false

abbrev integer_in : Gv → ℤ
integer_in (gcons (gnum zero) (gnum n)) = pos n
integer_in (gcons (gnum (suc m)) (gnum n)) = negsuc n
integer_in _ = pos 0

abbrev number_in : Gv → ℕ
number_in (gnum n) = n
number_in _ = 0

abbrev token_in : Gv → Token
token_in (gcons b bytes) = number_in b ∷ token_in bytes
token_in _ = []

abbrev own_in : Gv → Option Token
own_in (gcons g t) = Some (token_in t)
own_in _ = None

abbrev mutual
  pub datum_in : Gv → Datum
  datum_in (gcons (gnum zero) g) = Number (integer_in g)
  datum_in (gcons (gnum (suc zero)) g) = Truth (truth_in g)
  datum_in (gcons (gnum (suc (suc zero))) g) = CellOf (number_in g)
  datum_in (gcons (gnum (suc (suc (suc n)))) (gcons k (gcons b own))) = Closure (number_in k) (binds_in b) (own_in own)
  datum_in _ = CellOf 0

  binds_in : Gv → Binds
  binds_in (gcons t (gcons x rest)) = Bound (token_in t) (datum_in x) (binds_in rest)
  binds_in _ = NoBinds

abbrev data_in : Gv → Data
data_in (gcons x xs) = datum_in x ∷ data_in xs
data_in _ = []

abbrev end_in : Gv → End
end_in (gcons (gnum zero) (gcons d b)) = Done (data_in d) (binds_in b)
end_in (gcons (gnum (suc n)) d) = Esc (data_in d)
end_in _ = Fail

abbrev pub tree_in : Gv → Tree
tree_in (gcons (gnum zero) (gcons k (gcons d b))) = Run (number_in k) (data_in d) (binds_in b)
tree_in (gcons (gnum (suc zero)) z) = Ended (end_in z)
tree_in (gcons (gnum (suc (suc zero))) (gcons c x)) = Called (number_in c) (tree_in x)
tree_in (gcons (gnum (suc (suc (suc zero)))) (gcons k (gcons x y))) = Par (number_in k) (tree_in x) (tree_in y)
tree_in (gcons (gnum (suc (suc (suc (suc zero))))) (gcons k (gcons x (gcons d b)))) = First (number_in k) (tree_in x) (data_in d) (binds_in b)
tree_in (gcons (gnum (suc (suc (suc (suc (suc zero)))))) (gcons k (gcons x (gcons d b)))) = Second (number_in k) (data_in d) (binds_in b) (tree_in x)
tree_in (gcons (gnum (suc (suc (suc (suc (suc (suc zero))))))) (gcons k (gcons x (gcons d b)))) = Or (tree_in x) (number_in k) (data_in d) (binds_in b)
tree_in (gcons (gnum (suc (suc (suc (suc (suc (suc (suc zero)))))))) x) = Cut (tree_in x)
tree_in (gcons (gnum (suc (suc (suc (suc (suc (suc (suc (suc zero))))))))) (gcons k (gcons x b))) = Trap (number_in k) (tree_in x) (binds_in b)
tree_in (gcons (gnum (suc (suc (suc (suc (suc (suc (suc (suc (suc n)))))))))) (gcons x b)) = Over (tree_in x) (binds_in b)
tree_in _ = Ended Fail

-- ---- the second undoes the first

truth-back : (b : Bool) → truth_in (of_truth b) ≡ b
truth-back true = refl
truth-back false = refl

integer-back : (n : ℤ) → integer_in (of_integer n) ≡ n
integer-back (pos n) = refl
integer-back (negsuc n) = refl

token-back : (t : Token) → token_in (of_token t) ≡ t
token-back [] = refl
token-back (b ∷ bytes) = ap (λ t. b ∷ t) (token-back bytes)

own-back : (own : Option Token) → own_in (of_own own) ≡ own
own-back None = refl
own-back (Some t) = ap Some (token-back t)

mutual
  pub datum-back : (x : Datum) → datum_in (of_datum x) ≡ x
  datum-back (Number n) = ap Number (integer-back n)
  datum-back (Truth b) = ap Truth (truth-back b)
  datum-back (CellOf c) = refl
  datum-back (Closure k b own) = ap₂ (Closure k) (binds-back b) (own-back own)

  binds-back : (b : Binds) → binds_in (of_binds b) ≡ b
  binds-back NoBinds = refl
  binds-back (Bound t x rest) = λ i. Bound (token-back t i) (datum-back x i) (binds-back rest i)

data-back : (d : Data) → data_in (of_data d) ≡ d
data-back [] = refl
data-back (x ∷ xs) = ap₂ ◌∷◌ (datum-back x) (data-back xs)

end-back : (z : End) → end_in (of_end z) ≡ z
end-back (Done d b) = ap₂ Done (data-back d) (binds-back b)
end-back (Esc d) = ap Esc (data-back d)
end-back Fail = refl

pub tree-back : (t : Tree) → tree_in (of_tree t) ≡ t
tree-back (Run k d b) = ap₂ (Run k) (data-back d) (binds-back b)
tree-back (Ended z) = ap Ended (end-back z)
tree-back (Called c x) = ap (Called c) (tree-back x)
tree-back (Par k x y) = ap₂ (Par k) (tree-back x) (tree-back y)
tree-back (First k x d b) = λ i. First k (tree-back x i) (data-back d i) (binds-back b i)
tree-back (Second k d1 b1 x) = λ i. Second k (data-back d1 i) (binds-back b1 i) (tree-back x i)
tree-back (Or x k2 d b) = λ i. Or (tree-back x i) k2 (data-back d i) (binds-back b i)
tree-back (Cut x) = ap Cut (tree-back x)
tree-back (Trap k x b) = λ i. Trap k (tree-back x i) (binds-back b i)
tree-back (Over x b) = ap₂ Over (tree-back x) (binds-back b)

abbrev pub datum_code : Coded Datum
datum_code = record { code = of_datum; inj = λ x y p. sym (datum-back x) ∙ (ap datum_in p ∙ datum-back y) }

abbrev pub tree_code : Coded Tree
tree_code = record { code = of_tree; inj = λ x y p. sym (tree-back x) ∙ (ap tree_in p ∙ tree-back y) }
