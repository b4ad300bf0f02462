-- Lists of nonterminals that begin others.
use Rattle.std.proofs.Common.{◌≡◌, ◌≢◌, inl, inr, ℕ, zero, suc, ◌+◌, ◌<◌, List, [], ◌∷◌, ◌++◌, length, length-append, get_or, slice_set, take, Contains, refl, sym, ap, subst, ◌∙◌, arith, Vec, Global}
use Rattle.std.proofs.lemmas.Bool.Decides.{eqb_tells}
use Rattle.std.proofs.lemmas.List.{length-set}
use Rattle.std.proofs.lemmas.List.Elements.{Contains-append_left, Contains-push, Contains-push_cases}
use Rattle.gram_form.specs.Trees.{Pieces}
use Rattle.source_lex.specs.Numbered.{Numbered}
use Rattle.source_lex.specs.declared.lexeme.LexKind.{LexKind}
use Rattle.chart_parse.specs.Places.{row_at}
use Rattle.chart_parse.proofs.EndsOfParts.{alternative_within}
use Rattle.chart_parse.proofs.NearRows.{row_push_here, row_push_other, row_set_same, row_set_other, row_there}
use Rattle.tree_pick.specs.declared.corners.Beginning.{Beginning}
use Rattle.tree_pick.specs.Corners.{beginning, AreAllCorners, AreLists, HaveOwn, HasFirst, AreMore, AreFirsts}
use Rattle.tree_pick.specs.Spines.{Growth, Stay, Step, IsGrowth, CanGrow}
use Rattle.tree_pick.proofs.AllCorners.{corner_leads}

single : (n c : ℕ) → Contains (n ∷ []) c → n ≡ c
single n c (zero, lt, e) = e
single n c (suc i, lt, e) = absurd (omega (arith, lt))

pub no_lists : AreLists 0 []
no_lists = record { count = refl; below = λ n c h. absurd (let lt = h.1 in omega arith) }

-- one nonterminal more, in its own list
pub next_lists : (n : ℕ) (lists : List (Vec ℕ Global)) (v : Vec ℕ Global) → AreLists n lists → v.items ≡ n ∷ [] → AreLists (n + 1) (lists ++ v ∷ [])
next_lists n lists v all is = record {
  count = simp length-append (omega (arith, all.count));
  below = λ m c h. elim (eqb_tells m (length lists)) [
    | inl s ↦ (let e = single n c (subst (λ (l : List ℕ). Contains l c) (row_push_here lists v m s.1 ∙ is) h) in omega (arith, e))
    | inr d ↦ (let lt = all.below m c (subst (λ (l : List ℕ). Contains l c) (row_push_other lists v m d.1) h) in omega (arith, lt))
  ];
}

pub next_own : (n : ℕ) (lists : List (Vec ℕ Global)) (v : Vec ℕ Global) → AreLists n lists → HaveOwn n lists → v.items ≡ n ∷ [] → HaveOwn (n + 1) (lists ++ v ∷ [])
next_own n lists v all own is m lt = elim (eqb_tells m (length lists)) [
  | inl s ↦
      let same : n ≡ m = omega (arith, s.1, all.count) in
      subst (λ (l : List ℕ). Contains l m) (sym (row_push_here lists v m s.1 ∙ is)) (0, (let one : 0 < 1 = omega arith in one), same)
  | inr d ↦ subst (λ (l : List ℕ). Contains l m) (sym (row_push_other lists v m d.1)) (own m (omega (arith, lt, d.1, all.count)))
]

-- the list of m takes f
module _ (count m f : ℕ) (lists : List (Vec ℕ Global)) (was v : Vec ℕ Global) (all : AreLists count lists) (within : m < count) (fits : f < count)
    (is : was ≡ get_or lists m was) (more : v.items ≡ was.items ++ f ∷ []) where
  there : m < length lists
  there = omega (arith, all.count, within)

  here : row_at (slice_set lists m v) m ≡ row_at lists m ++ f ∷ []
  here = row_set_same lists m v there ∙ more ∙ ap (λ (l : List ℕ). l ++ f ∷ []) (sym (row_there lists m was there is))

  pub taken_lists : AreLists count (slice_set lists m v)
  taken_lists = record {
    count = length-set lists m v ∙ all.count;
    below = λ n c h. elim (eqb_tells n m) [
      | inl s ↦ elim (Contains-push_cases (row_at lists m) f c (subst (λ (l : List ℕ). Contains l c) (ap (row_at (slice_set lists m v)) s.1 ∙ here) h)) [
        | inl o ↦ all.below m c o
        | inr q ↦ omega (arith, q, fits)
      ]
      | inr d ↦ all.below n c (subst (λ (l : List ℕ). Contains l c) (row_set_other lists m n v d.1) h)
    ];
  }

  pub taken_more : AreMore lists (slice_set lists m v)
  taken_more n c h = elim (eqb_tells n m) [
    | inl s ↦
        subst (λ (l : List ℕ). Contains l c) (sym (ap (row_at (slice_set lists m v)) s.1 ∙ here))
        (Contains-append_left (row_at lists m) (f ∷ []) c (subst (λ (l : List ℕ). Contains l c) (ap (row_at lists) s.1) h))
    | inr d ↦ subst (λ (l : List ℕ). Contains l c) (sym (row_set_other lists m n v d.1)) h
  ]

  pub taken_there : Contains (row_at (slice_set lists m v) m) f
  taken_there = subst (λ (l : List ℕ). Contains l f) (sym here) (Contains-push (row_at lists m) f)

pub first_kept : (count : ℕ) (old new : List (Vec ℕ Global)) (x : Beginning) → AreMore old new → HasFirst count old x → HasFirst count new x
first_kept count old new x more h a b = more x.whole x.first (h a b)

-- a nonterminal that begins itself
pub first_own : (count : ℕ) (lists : List (Vec ℕ Global)) (x : Beginning) → HaveOwn count lists → x.first ≡ x.whole → HasFirst count lists x
first_own count lists x own same a b = subst (λ (c : ℕ). Contains (row_at lists x.whole) c) (sym same) (own x.whole b)

-- what grows into a phrase of a nonterminal is one of that, or of one that begins it
grown_within : (g : Numbered) (w : List LexKind) (n j c k : ℕ) (growth : Growth) → c < length g → IsGrowth g w n j c k growth → n < length g
grown_within g w n j c k Stay lt x = subst (λ (m : ℕ). m < length g) x.0 lt
grown_within g w n j c k (Step m a ps l more) lt x = grown_within g w n j m l more (alternative_within g m a _ x.1) x.3

pub growth_listed : (g : Numbered) (w : List LexKind) (pairs : List Beginning) (lists : List (Vec ℕ Global)) → AreAllCorners g pairs → AreFirsts (length g) pairs lists
    → (n j c k : ℕ) → c < length g → CanGrow g w n j c k → (n < length g) × Contains (row_at lists n) c
growth_listed g w pairs lists corners all n j c k lt (Stay, x) =
    let within : n < length g = grown_within g w n j c k Stay lt x in
    (within, subst (λ (m : ℕ). Contains (row_at lists n) m) (sym x.0) (all.own n within))
growth_listed g w pairs lists corners all n j c k lt (Step m a ps l more, x) =
    let within : n < length g = grown_within g w n j c k (Step m a ps l more) lt x in
    (within, all.firsts (beginning c n) (corner_leads g w pairs corners n j c k m a ps l more x) lt within)
