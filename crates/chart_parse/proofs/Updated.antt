-- A list of a place that takes what another has.
use Rattle.std.proofs.Common.{◌≡◌, ◌≢◌, ◌⊎◌, inl, inr, ℕ, zero, suc, ◌+◌, ◌*◌, ◌<◌, ◌≤◌, List, [], ◌∷◌, length, get_or, slice_set, refl, ap, sym, subst, arith, ◌∙◌, Vec, Global}
use Rattle.std.proofs.lemmas.Bool.Decides.{eqb_tells}
use Rattle.std.proofs.lemmas.List.{length-set}
use Rattle.source_lex.specs.Numbered.{Numbered}
use Rattle.source_lex.specs.declared.lexeme.LexKind.{LexKind}
use Rattle.chart_parse.specs.declared.rows.Entry.{Entry}
use Rattle.chart_parse.specs.Rows.{Lists, AreWide, ListsBoth}
use Rattle.chart_parse.specs.Table.{list_at, AllWide}
use Rattle.chart_parse.specs.Places.{Places, lists_of, list_of, width_of, IsListed, IsTrueOf, IsPart, IsSame, IsAdded}

pub place_same : (p : Places) (i : ℕ) (v : Vec (Vec Entry Global) Global) → i < length p → lists_of (slice_set p i v) i ≡ v.items
place_same [] i v h = absurd (omega arith)
place_same (r ∷ rows) zero v h = refl
place_same (r ∷ rows) (suc i) v h = place_same rows i v (omega arith)

pub place_other : (p : Places) (i n : ℕ) (v : Vec (Vec Entry Global) Global) → n ≢ i → lists_of (slice_set p i v) n ≡ lists_of p n
place_other [] i n v h = refl
place_other (r ∷ rows) zero zero v h = absurd (h refl)
place_other (r ∷ rows) zero (suc n) v h = refl
place_other (r ∷ rows) (suc i) zero v h = refl
place_other (r ∷ rows) (suc i) (suc n) v h = place_other rows i n v (λ e. h (ap suc e))

pub place_is : (p : Places) (i : ℕ) (d : Vec (Vec Entry Global) Global) → i < length p → lists_of p i ≡ (get_or p i d).items
place_is [] i d h = absurd (omega arith)
place_is (r ∷ rows) zero d h = refl
place_is (r ∷ rows) (suc i) d h = place_is rows i d (omega arith)

-- a number of a place has a bit in each row
pub has_bit : (w : List LexKind) (e : ℕ) → e ≤ length w → e < 64 * width_of w
has_bit w e h = omega arith

-- the place k gets the lists v, of which that of c has taken some entries
module _ (g : Numbered) (w : List LexKind) (p : Places) (k c : ℕ) (taken : List Entry) (v : Vec (Vec Entry Global) Global)
    (part : IsPart g w p) (place : k ≤ length w) (number : c ≤ length g)
    (len : length v.items ≡ length (lists_of p k))
    (others : (n : ℕ) → n ≢ c → list_at v.items n ≡ list_of p k n)
    (wide : AllWide (width_of w) v.items)
    (joined : ListsBoth (width_of w) (list_of p k c) taken (list_at v.items c)) where
  abbrev now : Places
  now = slice_set p k v

  at_place : lists_of now k ≡ v.items
  at_place = place_same p k v (omega (arith, part.count))

  -- each list is the one that has taken more, or as it was
  pub list_cases : (i n : ℕ) → ((i ≡ k) × (n ≡ c)) ⊎ (list_of now i n ≡ list_of p i n)
  list_cases i n = elim (eqb_tells i k) [
    | inl s ↦ elim (eqb_tells n c) [
      | inl t ↦ inl (s.1, t.1)
      | inr d ↦ inr (subst (λ (j : ℕ). list_of now j n ≡ list_of p j n) (sym s.1) (ap (λ t. list_at t n) at_place ∙ others n d.1))
    ]
    | inr d ↦ inr (ap (λ t. list_at t n) (place_other p k i v d.1))
  ]

  here : list_of now k c ≡ list_at v.items c
  here = ap (λ t. list_at t c) at_place

  both : (n e : ℕ) → e ≤ length w → Lists (list_of now k c) n e → Lists (list_of p k c) n e ⊎ Lists taken n e
  both n e below h = (joined n e (has_bit w e below)).0 (subst (λ (x : List Entry). Lists x n e) here h)

  pub more_listed : (i d n e : ℕ) → IsListed w p i d n e → IsListed w now i d n e
  more_listed i d n e h = (
    h.0,
    elim (list_cases i d) [
      | inl (s, t) ↦ subst (λ (j : ℕ). Lists (list_of now j d) n e) (sym s) (subst (λ (j : ℕ). Lists (list_of now k j) n e) (sym t)
          (subst (λ (x : List Entry). Lists x n e) (sym here) ((joined n e (has_bit w e h.0)).1 (inl (subst (λ (j : ℕ). Lists (list_of p j c) n e) s (subst (λ (j : ℕ). Lists (list_of p i j) n e) t h.1))))))
      | inr same ↦ subst (λ (x : List Entry). Lists x n e) (sym same) h.1
    ],
  )

  pub taken_listed : (n e : ℕ) → e ≤ length w → Lists taken n e → IsListed w now k c n e
  taken_listed n e le h = (le, subst (λ (x : List Entry). Lists x n e) (sym here) ((joined n e (has_bit w e le)).1 (inr h)))

  module _ (right : (n e : ℕ) → e ≤ length w → Lists taken n e → IsTrueOf g w c k n e) where
    new_true : (i d n e : ℕ) → IsListed w now i d n e → IsTrueOf g w d i n e
    new_true i d n e h = elim (list_cases i d) [
      | inl (s, t) ↦ subst (λ (j : ℕ). IsTrueOf g w d j n e) (sym s) (subst (λ (j : ℕ). IsTrueOf g w j k n e) (sym t)
          (elim (both n e h.0 (subst (λ (j : ℕ). Lists (list_of now j c) n e) s (subst (λ (j : ℕ). Lists (list_of now i j) n e) t h.1))) [
            | inl old ↦ part.sound k c n e (h.0, old)
            | inr more ↦ right n e h.0 more
          ]))
      | inr same ↦ part.sound i d n e (h.0, subst (λ (x : List Entry). Lists x n e) same h.1)
    ]

    tables : (i : ℕ) → i ≤ length w → length (lists_of now i) ≡ length g + 1
    tables i le = elim (eqb_tells i k) [
      | inl s ↦ subst (λ (j : ℕ). length (lists_of now j) ≡ length g + 1) (sym s.1) (ap length at_place ∙ len ∙ part.tables k place)
      | inr d ↦ ap length (place_other p k i v d.1) ∙ part.tables i le
    ]

    all_wide : (i d : ℕ) → AreWide (width_of w) (list_of now i d)
    all_wide i d = elim (eqb_tells i k) [
      | inl s ↦ subst (λ (j : ℕ). AreWide (width_of w) (list_of now j d)) (sym s.1) (subst (λ (t : List (Vec Entry Global)). AreWide (width_of w) (list_at t d)) (sym at_place) (wide d))
      | inr e ↦ subst (λ (t : List (Vec Entry Global)). AreWide (width_of w) (list_at t d)) (sym (place_other p k i v e.1)) (part.wide i d)
    ]

    pub list_added : IsAdded g w k p now
    list_added = record {
      part = record {
        few = part.few;
        count = length-set p k v ∙ part.count;
        tables = tables;
        wide = all_wide;
        sound = new_true;
        stays = λ i d le lt. more_listed i d d i (part.stays i d le lt);
      };
      kept = more_listed;
      others = λ i d ne. ap (λ t. list_at t d) (place_other p k i v ne);
    }

-- the same, by the lists that the place had
module _ (g : Numbered) (w : List LexKind) (p : Places) (k c : ℕ) (taken : List Entry) (was v : Vec (Vec Entry Global) Global) (part : IsPart g w p) (place : k ≤ length w) (number : c ≤ length g)
    (is : was ≡ get_or p k was) (len : length v.items ≡ length was.items) (others : (n : ℕ) → n ≢ c → list_at v.items n ≡ list_at was.items n) (wide : AllWide (width_of w) v.items)
    (joined : ListsBoth (width_of w) (list_at was.items c) taken (list_at v.items c)) where
  old : lists_of p k ≡ was.items
  old = place_is p k was (omega (arith, part.count)) ∙ sym (ap (λ (x : Vec (Vec Entry Global) Global). x.items) is)

  old_len : length v.items ≡ length (lists_of p k)
  old_len = len ∙ sym (ap length old)

  old_others : (n : ℕ) → n ≢ c → list_at v.items n ≡ list_of p k n
  old_others n ne = others n ne ∙ sym (ap (λ t. list_at t n) old)

  old_joined : ListsBoth (width_of w) (list_of p k c) taken (list_at v.items c)
  old_joined = subst (λ (x : List Entry). ListsBoth (width_of w) x taken (list_at v.items c)) (sym (ap (λ t. list_at t c) old)) joined

  pub list_taken : ((n e : ℕ) → e ≤ length w → Lists taken n e → IsTrueOf g w c k n e) → IsAdded g w k p (slice_set p k v)
  list_taken right = list_added g w p k c taken v part place number old_len old_others wide old_joined right

  pub then_listed : (n e : ℕ) → e ≤ length w → Lists taken n e → IsListed w (slice_set p k v) k c n e
  then_listed n e le h = taken_listed g w p k c taken v part place number old_len old_others wide old_joined n e le h

-- a list that is as before
pub same_set : (w : List LexKind) (p : Places) (k c : ℕ) (was v : Vec (Vec Entry Global) Global) → k < length p → was ≡ get_or p k was → ((n : ℕ) → n ≢ c → list_at v.items n ≡ list_at was.items n) → list_at v.items c ≡ list_at was.items c → IsSame p (slice_set p k v)
same_set w p k c was v lt is others same i n = elim (eqb_tells i k) [
  | inl s ↦ (
      let old : lists_of p k ≡ was.items = place_is p k was lt ∙ sym (ap (λ (x : Vec (Vec Entry Global) Global). x.items) is) in
      let all : list_at v.items n ≡ list_at was.items n = elim (eqb_tells n c) [
        | inl t ↦ subst (λ (d : ℕ). list_at v.items d ≡ list_at was.items d) (sym t.1) same
        | inr d ↦ others n d.1
      ] in
      subst (λ (j : ℕ). list_of (slice_set p k v) j n ≡ list_of p j n) (sym s.1) (ap (λ t. list_at t n) (place_same p k v lt) ∙ all ∙ sym (ap (λ t. list_at t n) old)))
  | inr d ↦ ap (λ t. list_at t n) (place_other p k i v d.1)
]
