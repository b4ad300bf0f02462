-- Places at which only a nonterminal itself grows from it.
use Rattle.std.proofs.Common.{◌≡◌, ◌≢◌, ◌⊎◌, inl, inr, ℕ, zero, suc, ◌+◌, ◌<◌, ◌≤◌, List, [], ◌∷◌, ◌++◌, length, length-append, get_or, slice_set, refl, sym, ap, subst, arith, ◌∙◌, Vec, Global}
use Rattle.std.proofs.lemmas.Bool.Decides.{eqb_tells}
use Rattle.std.proofs.lemmas.List.{length-set}
use Rattle.source_lex.specs.Numbered.{Numbered}
use Rattle.source_lex.specs.declared.lexeme.LexKind.{LexKind}
use Rattle.chart_parse.specs.Rows.{Has}
use Rattle.chart_parse.specs.Places.{Places, width_of, row_at, IsListed, IsAdded, AreNear}
use Rattle.chart_parse.proofs.Bits.{none_in}
use Rattle.chart_parse.proofs.EndsOfParts.{listed_kept}

pub row_push_here : (rows : List (Vec ℕ Global)) (v : Vec ℕ Global) (m : ℕ) → m ≡ length rows → row_at (rows ++ v ∷ []) m ≡ v.items
row_push_here [] v zero e = refl
row_push_here [] v (suc m) e = absurd (omega (arith, e))
row_push_here (x ∷ xs) v zero e = absurd (omega (arith, e))
row_push_here (x ∷ xs) v (suc m) e = row_push_here xs v m (omega (arith, e))

pub row_push_other : (rows : List (Vec ℕ Global)) (v : Vec ℕ Global) (m : ℕ) → m ≢ length rows → row_at (rows ++ v ∷ []) m ≡ row_at rows m
row_push_other [] v zero e = absurd (e refl)
row_push_other [] v (suc m) e = refl
row_push_other (x ∷ xs) v zero e = refl
row_push_other (x ∷ xs) v (suc m) e = row_push_other xs v m (λ q. e (ap suc q))

pub row_set_same : (rows : List (Vec ℕ Global)) (m : ℕ) (v : Vec ℕ Global) → m < length rows → row_at (slice_set rows m v) m ≡ v.items
row_set_same [] m v lt = absurd (omega arith)
row_set_same (x ∷ xs) zero v lt = refl
row_set_same (x ∷ xs) (suc m) v lt = row_set_same xs m v (omega arith)

pub row_set_other : (rows : List (Vec ℕ Global)) (m n : ℕ) (v : Vec ℕ Global) → n ≢ m → row_at (slice_set rows m v) n ≡ row_at rows n
row_set_other [] m n v ne = refl
row_set_other (x ∷ xs) zero zero v ne = absurd (ne refl)
row_set_other (x ∷ xs) zero (suc n) v ne = refl
row_set_other (x ∷ xs) (suc m) zero v ne = refl
row_set_other (x ∷ xs) (suc m) (suc n) v ne = row_set_other xs m n v (λ e. ne (ap suc e))

pub row_is : (rows : List (Vec ℕ Global)) (m : ℕ) (d : Vec ℕ Global) → m < length rows → row_at rows m ≡ (get_or rows m d).items
row_is [] m d lt = absurd (omega arith)
row_is (x ∷ xs) zero d lt = refl
row_is (x ∷ xs) (suc m) d lt = row_is xs m d (omega arith)

pub row_there : (rows : List (Vec ℕ Global)) (m : ℕ) (v : Vec ℕ Global) → m < length rows → v ≡ get_or rows m v → row_at rows m ≡ v.items
row_there rows m v lt e = row_is rows m v lt ∙ sym (ap (λ (x : Vec ℕ Global). x.items) e)

-- so many rows without numbers
pub record AreEmpty (width total : ℕ) (rows : List (Vec ℕ Global)) : Type 0 where
  pub count : length rows ≡ total
  pub wide : (m : ℕ) → m < total → length (row_at rows m) ≡ width
  pub none : (m e : ℕ) → Has (row_at rows m) e → ⊥

pub empty_none : (width : ℕ) → AreEmpty width 0 []
empty_none width = record {
  count = refl;
  wide = λ m lt. absurd (omega arith);
  none = λ m e h. none_in e h;
}

pub empty_next : (width count : ℕ) (rows : List (Vec ℕ Global)) (v : Vec ℕ Global) → AreEmpty width count rows → length v.items ≡ width → ((e : ℕ) → Has v.items e → ⊥) → AreEmpty width (count + 1) (rows ++ v ∷ [])
empty_next width count rows v all len none = record {
  count = simp length-append (omega (arith, all.count));
  wide = λ m lt. elim (eqb_tells m (length rows)) [
    | inl s ↦ ap length (row_push_here rows v m s.1) ∙ len
    | inr d ↦ ap length (row_push_other rows v m d.1) ∙ all.wide m (omega (arith, d.1, all.count))
  ];
  none = λ m e h. elim (eqb_tells m (length rows)) [
    | inl s ↦ none e (subst (λ (r : List ℕ). Has r e) (row_push_here rows v m s.1) h)
    | inr d ↦ all.none m e (subst (λ (r : List ℕ). Has r e) (row_push_other rows v m d.1) h)
  ];
}

pub empty_near : (g : Numbered) (w : List LexKind) (p : Places) (first : ℕ) (rows : List (Vec ℕ Global)) → AreEmpty (width_of w) (length g) rows → AreNear g w p first rows
empty_near g w p first rows all = record {
  count = all.count;
  wide = all.wide;
  behind = λ m l le h. absurd (all.none m l h);
  alone = λ m l n e le h x. absurd (all.none m l h);
}

-- lists of a place before the first one may change
pub near_kept : (g : Numbered) (w : List LexKind) (k : ℕ) (p q : Places) (near : List (Vec ℕ Global)) → AreNear g w p (k + 1) near → IsAdded g w k p q → AreNear g w q (k + 1) near
near_kept g w k p q near all added = record {
  count = all.count;
  wide = all.wide;
  behind = all.behind;
  alone = λ m l n e le h x.
      let up : k + 1 ≤ l = all.behind m l le h in
      let other : l ≢ k = λ s. absurd (omega (arith, s)) in
      all.alone m l n e le h (listed_kept w q p l m n e (sym (added.others l m other)) x);
}

-- the bound may be less
pub near_from : (g : Numbered) (w : List LexKind) (k : ℕ) (p : Places) (near : List (Vec ℕ Global)) → AreNear g w p (k + 1) near → AreNear g w p k near
near_from g w k p near all = record {
  count = all.count;
  wide = all.wide;
  behind = λ m l le h. (let up = all.behind m l le h in omega arith);
  alone = all.alone;
}

-- one nonterminal more at the first place
pub near_marked : (g : Numbered) (w : List LexKind) (k m : ℕ) (p : Places) (near : List (Vec ℕ Global)) (was v : Vec ℕ Global) → AreNear g w p k near → m < length near → was ≡ get_or near m was
    → length v.items ≡ length was.items → ((l : ℕ) → Has v.items l → Has was.items l ⊎ (l ≡ k)) → ((n e : ℕ) → IsListed w p k m n e → (n ≡ m) × (e ≡ k)) → AreNear g w p k (slice_set near m v)
near_marked g w k m p near was v all lt is len more alone =
    let here : row_at (slice_set near m v) m ≡ v.items = row_set_same near m v lt in
    let old : row_at near m ≡ was.items = row_there near m was lt is in
    let cases : (d l : ℕ) → Has (row_at (slice_set near m v) d) l → Has (row_at near d) l ⊎ ((d ≡ m) × (l ≡ k)) = λ d l h. elim (eqb_tells d m) [
      | inl s ↦ elim (more l (subst (λ (r : List ℕ). Has r l) (ap (row_at (slice_set near m v)) s.1 ∙ here) h)) [
        | inl o ↦ inl (subst (λ (r : List ℕ). Has r l) (sym (ap (row_at near) s.1 ∙ old)) o)
        | inr q ↦ inr (s.1, q)
      ]
      | inr x ↦ inl (subst (λ (r : List ℕ). Has r l) (row_set_other near m d v x.1) h)
    ] in
    record {
      count = length-set near m v ∙ all.count;
      wide = λ d below. elim (eqb_tells d m) [
        | inl s ↦ ap length (ap (row_at (slice_set near m v)) s.1 ∙ here) ∙ len ∙ sym (ap length old) ∙ all.wide m (omega (arith, lt, all.count))
        | inr x ↦ ap length (row_set_other near m d v x.1) ∙ all.wide d below
      ];
      behind = λ d l le h. elim (cases d l h) [ inl o ↦ all.behind d l le o | inr q ↦ omega (arith, q.1) ];
      alone = λ d l n e le h x. elim (cases d l h) [
        | inl o ↦ all.alone d l n e le o x
        | inr q ↦
            let a = alone n e (subst (λ (i : ℕ). IsListed w p i m n e) q.1 (subst (λ (i : ℕ). IsListed w p l i n e) q.0 x)) in
            (a.0 ∙ sym q.0, a.1 ∙ sym q.1)
      ];
    }
