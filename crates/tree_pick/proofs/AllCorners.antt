-- What a set of all corners tells of growths, and how it is filled.
use Rattle.std.proofs.Common.{◌≡◌, inl, inr, ℕ, zero, suc, ◌+◌, ◌<◌, Bool, true, false, ◌||◌, List, [], ◌∷◌, length, slice_get, get_or, take, Some, Contains, refl, sym, subst, ◌∙◌, arith, Bor}
use Rattle.std.specs.List.{list_any}
use Rattle.std.proofs.lemmas.Bool.{or_left, or_right}
use Rattle.std.proofs.lemmas.List.Elements.{Contains-push_cases}
use Rattle.source_lex.specs.Numbered.{Alternative, Numbered}
use Rattle.source_lex.specs.declared.numbered.Symbol.{Symbol as Part}
use Rattle.source_lex.specs.declared.lexeme.LexKind.{LexKind}
use Rattle.chart_parse.specs.Places.{alternatives_in}
use Rattle.chart_parse.proofs.EndsOfParts.{alternative_within}
use Rattle.gram_form.specs.Trees.{Pieces}
use Rattle.tree_pick.specs.declared.corners.Beginning.{Beginning}
use Rattle.tree_pick.specs.Corners.{beginning, HasFirsts, AreAllCorners}
use Rattle.tree_pick.specs.Longer.{IsKept, IsLonger}
use Rattle.tree_pick.specs.Spines.{Growth, Stay, Step, IsGrowth, CanGrow}
use Rattle.tree_pick.proofs.FewAlternatives.{mapped_at}
use Rattle.tree_pick.proofs.Longer.{longer_kept, one_more}

pub firsts_kept : (g : Numbered) (S T : List Beginning) (m n : ℕ) → IsKept S T → HasFirsts g S m n → HasFirsts g T m n
firsts_kept g S T m n kept h a c rest e = kept (beginning c n) (h a c rest e)

-- one pair more was looked at
pub firsts_more : (g : Numbered) (S T : List Beginning) (p : ℕ) (y : Beginning) → IsLonger S T → slice_get S p ≡ Some y
    → ((x : Beginning) → Contains (take p S) x → HasFirsts g S x.first x.whole) → HasFirsts g T y.first y.whole
    → (x : Beginning) → Contains (take (p + 1) T) x → HasFirsts g T x.first x.whole
firsts_more g S T p y h e below here x there = elim (Contains-push_cases (take p S) y x (rw (one_more S T p y h e) at there)) [
  | inl z ↦ firsts_kept g S T x.first x.whole (longer_kept S T h) (below x z)
  | inr z ↦ subst (λ (s : Beginning). HasFirsts g T s.first s.whole) z here
]

abbrev pub no_parts : Bor (List Part)
no_parts = record { ref_ptr = (0, 0); now = [] }

-- an alternative by its number, in the list that has it
pub parts_at : (list : List (Bor (List Part))) (a : ℕ) (parts : Alternative) → a < length list → slice_get (alternatives_in list) a ≡ Some parts → (get_or list a no_parts).now ≡ parts
parts_at list a parts lt e =
    let r : Some (get_or list a no_parts).now ≡ Some parts = sym (mapped_at (λ (p : Bor (List Part)). p.now) list a no_parts lt) ∙ e in
    cc

pub corner_leads : (g : Numbered) (w : List LexKind) (pairs : List Beginning) → AreAllCorners g pairs → (n j c k m a : ℕ) (ps : Pieces) (l : ℕ) (more : Growth) → IsGrowth g w n j c k (Step m a ps l more) → Contains pairs (beginning c n)
corner_leads g w pairs all n j c k m a ps l Stay x = subst (λ (v : ℕ). Contains pairs (beginning c v)) x.3.0 (all.first m a c x.0 x.1)
corner_leads g w pairs all n j c k m a ps l (Step p b qs h more) x =
    all.more (beginning m n) (corner_leads g w pairs all n j m l p b qs h more x.3) a c x.0 x.1

-- what is no corner grows into nothing but itself
pub no_growth : (g : Numbered) (w : List LexKind) (pairs : List Beginning) → AreAllCorners g pairs → (n j c k : ℕ) → (Contains pairs (beginning c n) → ⊥) → CanGrow g w n j c k → (c ≡ n) × (k ≡ j)
no_growth g w pairs all n j c k apart (Stay, x) = x
no_growth g w pairs all n j c k apart (Step m a ps l more, x) = absurd (apart (corner_leads g w pairs all n j c k m a ps l more x))

-- a test finds a key of the list
pub any_there : {K : Type 0} (eq : K → K → Bool) → ((x : K) → eq x x ≡ true) → (ks : List K) (k : K) → Contains ks k → list_any (eq k) ks ≡ true
any_there eq same [] k (i, lt, e) = absurd (omega (arith, lt))
any_there {K = K} eq same (x ∷ xs) k (zero, lt, e) =
    or_left (eq k x) (list_any (eq k) xs) (subst (λ (y : K). eq k y ≡ true) (sym e) (same k))
any_there eq same (x ∷ xs) k (suc i, lt, e) = or_right (eq k x) (list_any (eq k) xs) (any_there eq same xs k (i, omega (arith, lt), e))
