-- The lists before any rule.
use Rattle.std.proofs.Common.{◌≡◌, ◌≢◌, inl, inr, ℕ, zero, suc, ◌+◌, ◌*◌, ◌<◌, ◌≤◌, List, [], ◌∷◌, ◌++◌, length, length-append, refl, sym, ap, subst, arith, ◌∙◌, Vec, Global}
use Rattle.std.specs.Prelude.{◌↔◌}
use Rattle.std.proofs.lemmas.Bool.Decides.{eqb_tells}
use Rattle.source_lex.specs.Numbered.{Numbered}
use Rattle.source_lex.specs.declared.lexeme.LexKind.{LexKind}
use Rattle.chart_parse.specs.declared.rows.Entry.{Entry}
use Rattle.chart_parse.specs.Rows.{Has, Lists, AreWide}
use Rattle.chart_parse.specs.Table.{list_at, AllWide}
use Rattle.chart_parse.specs.Growths.{Grows, Stays}
use Rattle.chart_parse.specs.Places.{Places, lists_of, list_of, width_of, IsPart}
use Rattle.chart_parse.proofs.Updated.{has_bit}

pub list_push_here : (table : List (Vec Entry Global)) (v : Vec Entry Global) (d : ℕ) → d ≡ length table → list_at (table ++ v ∷ []) d ≡ v.items
list_push_here [] v zero e = refl
list_push_here [] v (suc d) e = absurd (omega (arith, e))
list_push_here (x ∷ xs) v zero e = absurd (omega (arith, e))
list_push_here (x ∷ xs) v (suc d) e = list_push_here xs v d (omega (arith, e))

pub list_push_other : (table : List (Vec Entry Global)) (v : Vec Entry Global) (d : ℕ) → d ≢ length table → list_at (table ++ v ∷ []) d ≡ list_at table d
list_push_other [] v zero e = absurd (e refl)
list_push_other [] v (suc d) e = refl
list_push_other (x ∷ xs) v zero e = refl
list_push_other (x ∷ xs) v (suc d) e = list_push_other xs v d (λ q. e (ap suc q))

-- in the list of each of the first nonterminals stands that nonterminal with the row
abbrev pub HasFirst : (count : ℕ) → List ℕ → List (Vec Entry Global) → Type 0
HasFirst count row table = (c n e : ℕ) → Lists (list_at table c) n e ↔ ((c < count) × (c ≡ n) × Has row e)

pub first_none : (row : List ℕ) → HasFirst 0 row []
first_none row c n e = (λ h. absurd h, λ h. absurd (let lt = h.0 in omega arith))

pub first_next : (count : ℕ) (row : List ℕ) (table : List (Vec Entry Global)) (v : Vec Entry Global) (x : Entry) → length table ≡ count → HasFirst count row table → v.items ≡ x ∷ [] → x.nonterm ≡ count → x.row.now ≡ row → HasFirst (count + 1) row (table ++ v ∷ [])
first_next count row table v x len first is number same c n e = elim (eqb_tells c (length table)) [
  | inl s ↦ (
      let here : list_at (table ++ v ∷ []) c ≡ x ∷ [] = list_push_here table v c s.1 ∙ is in (
        λ h. elim (subst (λ (l : List Entry). Lists l n e) here h) [
          | inl q ↦ (omega (arith, s.1, len), s.1 ∙ len ∙ sym number ∙ q.0, subst (λ (r : List ℕ). Has r e) same q.1)
          | inr q ↦ absurd q
        ],
        λ h. subst (λ (l : List Entry). Lists l n e) (sym here) (inl (number ∙ sym len ∙ sym s.1 ∙ h.1, subst (λ (r : List ℕ). Has r e) (sym same) h.2)),
      ))
  | inr d ↦ (
      let there : list_at (table ++ v ∷ []) c ≡ list_at table c = list_push_other table v c d.1 in (
        λ h. let q = (first c n e).0 (subst (λ (l : List Entry). Lists l n e) there h) in ((let lt = q.0 in omega arith), q.1, q.2),
        λ h. subst (λ (l : List Entry). Lists l n e) (sym there) ((first c n e).1 ((let lt = h.0 in omega (arith, d.1)), h.1, h.2)),
      ))
]

-- a list without entries behind
pub first_last : (count : ℕ) (row : List ℕ) (table : List (Vec Entry Global)) (v : Vec Entry Global) → length table ≡ count → HasFirst count row table → v.items ≡ [] → HasFirst count row (table ++ v ∷ [])
first_last count row table v len first is c n e = elim (eqb_tells c (length table)) [
  | inl s ↦ (
      let here : list_at (table ++ v ∷ []) c ≡ [] = list_push_here table v c s.1 ∙ is in (
        λ h. absurd (subst (λ (l : List Entry). Lists l n e) here h),
        λ h. absurd (let lt = h.0 in omega (arith, s.1, len)),
      ))
  | inr d ↦ (
      let there : list_at (table ++ v ∷ []) c ≡ list_at table c = list_push_other table v c d.1 in (
        λ h. (first c n e).0 (subst (λ (l : List Entry). Lists l n e) there h),
        λ h. subst (λ (l : List Entry). Lists l n e) (sym there) ((first c n e).1 h),
      ))
]

pub wide_next : (width : ℕ) (table : List (Vec Entry Global)) (v : Vec Entry Global) → AllWide width table → AreWide width v.items → AllWide width (table ++ v ∷ [])
wide_next width table v all one n = elim (eqb_tells n (length table)) [
  | inl s ↦ subst (AreWide width) (sym (list_push_here table v n s.1)) one
  | inr d ↦ subst (AreWide width) (sym (list_push_other table v n d.1)) (all n)
]

pub place_push_here : (p : Places) (v : Vec (Vec Entry Global) Global) (i : ℕ) → i ≡ length p → lists_of (p ++ v ∷ []) i ≡ v.items
place_push_here [] v zero e = refl
place_push_here [] v (suc i) e = absurd (omega (arith, e))
place_push_here (x ∷ xs) v zero e = absurd (omega (arith, e))
place_push_here (x ∷ xs) v (suc i) e = place_push_here xs v i (omega (arith, e))

pub place_push_other : (p : Places) (v : Vec (Vec Entry Global) Global) (i : ℕ) → i ≢ length p → lists_of (p ++ v ∷ []) i ≡ lists_of p i
place_push_other [] v zero e = absurd (e refl)
place_push_other [] v (suc i) e = refl
place_push_other (x ∷ xs) v zero e = refl
place_push_other (x ∷ xs) v (suc i) e = place_push_other xs v i (λ q. e (ap suc q))

-- the first places of a chart, before any rule
pub record AreFirst (g : Numbered) (w : List LexKind) (done : ℕ) (p : Places) : Type 0 where
  pub count : length p ≡ done
  pub tables : (i : ℕ) → i < done → length (lists_of p i) ≡ length g + 1
  pub wide : (i : ℕ) → AllWide (width_of w) (lists_of p i)
  pub lists : (i c n e : ℕ) → e ≤ length w → Lists (list_of p i c) n e ↔ ((i < done) × (c < length g) × (c ≡ n) × (e ≡ i))

pub no_places : (g : Numbered) (w : List LexKind) → AreFirst g w 0 []
no_places g w = record {
  count = refl;
  tables = λ i lt. absurd (omega arith);
  wide = λ i c. tt;
  lists = λ i c n e _. (λ h. absurd h, λ h. absurd (let lt = h.0 in omega arith));
}

pub one_place : (g : Numbered) (w : List LexKind) (done : ℕ) (p : Places) (v : Vec (Vec Entry Global) Global) (row : List ℕ) → done ≤ length w → AreFirst g w done p → length v.items ≡ length g + 1 → AllWide (width_of w) v.items → HasFirst (length g) row v.items → ((e : ℕ) → e < 64 * width_of w → Has row e ↔ (e ≡ done)) → AreFirst g w (done + 1) (p ++ v ∷ [])
one_place g w done p v row le first len wide lists one = record {
  count = simp length-append (omega (arith, first.count));
  tables = λ i lt. elim (eqb_tells i (length p)) [
    | inl s ↦ ap length (place_push_here p v i s.1) ∙ len
    | inr d ↦ ap length (place_push_other p v i d.1) ∙ first.tables i (omega (arith, d.1, first.count))
  ];
  wide = λ i. elim (eqb_tells i (length p)) [
    | inl s ↦ subst (AllWide (width_of w)) (sym (place_push_here p v i s.1)) wide
    | inr d ↦ subst (AllWide (width_of w)) (sym (place_push_other p v i d.1)) (first.wide i)
  ];
  lists = λ i c n e below. elim (eqb_tells i (length p)) [
    | inl s ↦ (
        let here : list_of (p ++ v ∷ []) i c ≡ list_at v.items c = ap (λ t. list_at t c) (place_push_here p v i s.1) in
        let at : i ≡ done = s.1 ∙ first.count in (
          λ h.
              let q = (lists c n e).0 (subst (λ (l : List Entry). Lists l n e) here h) in
              (omega (arith, at), q.0, q.1, (one e (has_bit w e below)).0 q.2 ∙ sym at),
          λ h. subst (λ (l : List Entry). Lists l n e) (sym here) ((lists c n e).1 (h.1, h.2, (one e (has_bit w e below)).1 (h.3 ∙ at))),
        ))
    | inr d ↦ (
        let there : list_of (p ++ v ∷ []) i c ≡ list_of p i c = ap (λ t. list_at t c) (place_push_other p v i d.1) in (
          λ h.
              let q = (first.lists i c n e below).0 (subst (λ (l : List Entry). Lists l n e) there h) in
              ((let lt = q.0 in omega arith), q.1, q.2, q.3),
          λ h. subst (λ (l : List Entry). Lists l n e) (sym there) ((first.lists i c n e below).1 ((let lt = h.0 in omega (arith, d.1, first.count)), h.1, h.2, h.3)),
        ))
  ];
}

stays_there : (g : Numbered) (w : List LexKind) (n e c i : ℕ) → c ≡ n → e ≡ i → Grows g w n e c i
stays_there g w n e c i p q = subst (λ (m : ℕ). Grows g w m e c i) p (subst (λ (j : ℕ). Grows g w c j c i) (sym q) Stays)

pub first_part : (g : Numbered) (w : List LexKind) (p : Places) → length g < 4294967296 → AreFirst g w (length w + 1) p → IsPart g w p
first_part g w p few first = record {
  few = few;
  count = first.count;
  tables = λ i le. first.tables i (omega arith);
  wide = λ i c. first.wide i c;
  sound = λ i c n e h.
      let q = (first.lists i c n e h.0).0 h.1 in
      record {
        growth = λ _. stays_there g w n e c i q.2 q.3;
        end = λ s. absurd (let lt = q.1 in omega (arith, s));
      };
  stays = λ i c le lt. (le, (first.lists i c c i le).1 (omega arith, lt, refl, refl));
}
