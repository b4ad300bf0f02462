-- What a list that grows at its end keeps, and how it is walked.
use Rattle.std.proofs.Common.{◌≡◌, ◌⊎◌, inl, inr, ℕ, ◌+◌, ◌<◌, Bool, true, false, List, [], ◌∷◌, ◌++◌, slice_get, length, Some, None, Contains, refl, sym, ap, subst, arith, ◌∙◌, take, take_all, add-one, append-nil, append_assoc}
use Rattle.std.specs.Bool.{if◌then◌else◌}
use Rattle.std.proofs.lemmas.List.{take-append-le}
use Rattle.std.proofs.lemmas.List.Elements.{Contains-append_left, Contains-push_cases}
use Rattle.std.proofs.lemmas.Option.{slice_get_within, get_or_from_slice_get, slice_get_cases}
use Rattle.std.proofs.Math.Seq.{take-suc}
use Rattle.tree_pick.specs.Longer.{IsKept, IsLonger}

pub longer_kept : {K : Type 0} (S T : List K) → IsLonger S T → IsKept S T
longer_kept {K = K} S T h x there = subst (λ (l : List K). Contains l x) (sym h.1) (Contains-append_left S h.0 x there)

pub longer_same : {K : Type 0} (S : List K) → IsLonger S S
longer_same S = ([], sym (append-nil S))

pub longer_more : {K : Type 0} (S T U : List K) → IsLonger S T → IsLonger T U → IsLonger S U
longer_more {K = K} S T U h k = (h.0 ++ k.0, k.1 ∙ ap (λ (l : List K). l ++ k.0) h.1 ∙ append_assoc S h.0 k.0)

pub at_index : {K : Type 0} (S : List K) (p : ℕ) (x : K) → slice_get S p ≡ Some x → Contains S x
at_index S p x e = (p, slice_get_within S p x e, get_or_from_slice_get S p x x e)

pub all_below : {K : Type 0} (S : List K) (p : ℕ) → None ≡ slice_get S p → take p S ≡ S
all_below S p e = elim (slice_get_cases S p).1 [
  | inl (x, lt, some, at) ↦ absurd (let q : None ≡ Some x = e ∙ some in cc)
  | inr (le, none) ↦ take_all p S le
]

pub one_more : {K : Type 0} (S T : List K) (p : ℕ) (x : K) → IsLonger S T → slice_get S p ≡ Some x → take (p + 1) T ≡ take p S ++ x ∷ []
one_more {K = K} S T p x h e =
    let lt : p < length S = slice_get_within S p x e in
    ap (take (p + 1)) h.1 ∙ take-append-le (p + 1) S h.0 (omega arith) ∙ rw (add-one p) (take-suc S p x lt) ∙ ap (λ (y : K). take p S ++ y ∷ []) (get_or_from_slice_get S p x x e)

-- a key put into a set: it is there already, or goes last
pub longer_one : {K : Type 0} (test : Bool) (ks : List K) (k : K) → IsLonger ks (if test then ks else ks ++ k ∷ [])
longer_one true ks k = longer_same ks
longer_one false ks k = (k ∷ [], refl)

pub only_one : {K : Type 0} (test : Bool) (ks : List K) (k x : K) → Contains (if test then ks else ks ++ k ∷ []) x → Contains ks x ⊎ (k ≡ x)
only_one true ks k x h = inl h
only_one false ks k x h = Contains-push_cases ks k x h
