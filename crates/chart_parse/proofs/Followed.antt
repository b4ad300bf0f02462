-- The steps of following parts.
use Rattle.std.proofs.Common.{◌≡◌, ◌⊎◌, inl, inr, ℕ, ◌+◌, ◌≤◌, List, [], ◌∷◌, ◌++◌, Contains, length, slice_get, Some, refl, sym, subst, arith}
use Rattle.std.specs.Prelude.{◌↔◌}
use Rattle.std.proofs.lemmas.Option.{slice_get_within}
use Rattle.source_lex.specs.Numbered.{Alternative, Numbered}
use Rattle.source_lex.specs.declared.numbered.Symbol.{Symbol}
use Rattle.source_lex.specs.declared.numbered.Symbol.TheVariants.{Word, Phrase}
use Rattle.source_lex.specs.declared.lexeme.LexKind.{LexKind}
use Rattle.chart_parse.specs.declared.rows.Entry.{Entry}
use Rattle.std.proofs.lemmas.List.Elements.{Contains-append_left, Contains-push, Contains-push_cases}
use Rattle.chart_parse.specs.Rows.{Has, Lists, IsExtra}
use Rattle.chart_parse.specs.Places.{Places, Advances, AdvancesFrom, RunsTo, LeadOn, LeadNowhere}
use Rattle.chart_parse.proofs.Lists.{push_lists}

-- one entry more
pub ends_more : (old mid new : List ℕ) (taken : List Entry) (x : Entry) (n e : ℕ) → (Has mid e ↔ (Has old e ⊎ Lists taken n e)) → (Has new e ↔ (Has mid e ⊎ ((x.nonterm ≡ n) × Has x.row.now e))) → Has new e ↔ (Has old e ⊎ Lists (taken ++ x ∷ []) n e)
ends_more old mid new taken x n e a b = let p = push_lists taken x n e in (
  λ h. elim (b.0 h) [
    | inl m ↦ elim (a.0 m) [ inl o ↦ inl o | inr t ↦ inr (p.1 (inl t)) ]
    | inr q ↦ inr (p.1 (inr q))
  ],
  λ h. elim h [
    | inl o ↦ b.1 (inl (a.1 (inl o)))
    | inr t ↦ elim (p.0 t) [ inl m ↦ b.1 (inl (a.1 (inr m))) | inr q ↦ b.1 (inr q) ]
  ],
)

-- the part leads to e from a place of the list
abbrev pub AdvancesAmong : (g : Numbered) (w : List LexKind) → Places → Symbol → List ℕ → (e : ℕ) → Type 0
AdvancesAmong g w p part list e = (k : ℕ) × Contains list k × Advances g w p part k e

pub among_none : (g : Numbered) (w : List LexKind) (p : Places) (part : Symbol) (none : List ℕ) (e : ℕ) → (Has none e → ⊥) → Has none e ↔ AdvancesAmong g w p part [] e
among_none g w p part none e h = (λ x. absurd (h x), λ x. absurd (let lt = x.1.1 in omega arith))

-- one place more
pub among_next : (g : Numbered) (w : List LexKind) (p : Places) (part : Symbol) (list mid new : List ℕ) (h e : ℕ) → (Has mid e ↔ AdvancesAmong g w p part list e) → (Has new e ↔ (Has mid e ⊎ Advances g w p part h e)) → Has new e ↔ AdvancesAmong g w p part (list ++ h ∷ []) e
among_next g w p part list mid new h e a b = (
  λ x. elim (b.0 x) [
    | inl m ↦ let q = a.0 m in (q.0, Contains-append_left list (h ∷ []) q.0 q.1, q.2)
    | inr q ↦ (h, Contains-push list h, q)
  ],
  λ x. elim (Contains-push_cases list h x.0 x.1) [
    | inl o ↦ b.1 (inl (a.1 (x.0, o, x.2)))
    | inr s ↦ b.1 (inr (subst (λ (k : ℕ). Advances g w p part k e) (sym s) x.2))
  ],
)

pub among_all : (g : Numbered) (w : List LexKind) (p : Places) (part : Symbol) (row none list ends : List ℕ) (e : ℕ) → ((k : ℕ) → Has none k → ⊥) → ((k : ℕ) → Contains list k ↔ IsExtra (length w + 1) row none k) → (Has ends e ↔ AdvancesAmong g w p part list e) → Has ends e ↔ AdvancesFrom g w p part row e
among_all g w p part row none list ends e empty each a = (
  λ x. let y = a.0 x in let q = (each y.0).0 y.1 in (y.0, (let lt = q.0 in omega arith), q.1, y.2),
  λ x. a.1 (x.0, (each x.0).1 ((let le = x.1 in omega arith), x.2, empty x.0), x.3),
)

pub advance_within : (g : Numbered) (w : List LexKind) (p : Places) (part : Symbol) (k h : ℕ) → Advances g w p part k h → h ≤ length w
advance_within g w p (Word c) k h x = omega (arith, x.1, slice_get_within w k c x.0)
advance_within g w p (Phrase m) k h x = x.0

-- what is left of parts behind one more word
pub word_more : (g : Numbered) (w : List LexKind) (p : Places) (parts qs rest : Alternative) (c : LexKind) (k at : ℕ) → qs ≡ Word c ∷ rest → slice_get w at ≡ Some c → LeadOn g w p parts k qs at → LeadOn g w p parts k rest (at + 1)
word_more g w p parts qs rest c k at f there on e = (
  λ h. let x = subst (λ (r : Alternative). RunsTo g w p r at e) f ((on e).0 h) in subst (λ (l : ℕ). RunsTo g w p rest l e) x.1.1 x.2,
  λ h. (on e).1 (subst (λ (r : Alternative). RunsTo g w p r at e) (sym f) (at + 1, (there, refl), h)),
)

-- no word of that kind stands there
pub word_missing : (g : Numbered) (w : List LexKind) (p : Places) (parts qs rest : Alternative) (c : LexKind) (k at : ℕ) → qs ≡ Word c ∷ rest → (slice_get w at ≡ Some c → ⊥) → LeadOn g w p parts k qs at → LeadNowhere g w p parts k
word_missing g w p parts qs rest c k at f never on e h =
    let x = subst (λ (r : Alternative). RunsTo g w p r at e) f ((on e).0 h) in never x.1.0

-- the parts run to e by a place that the row has, and the parts that are left from there
abbrev pub RunsBy : (g : Numbered) (w : List LexKind) → Places → List ℕ → Alternative → (e : ℕ) → Type 0
RunsBy g w p row rest e = (k : ℕ) × (k ≤ length w) × Has row k × RunsTo g w p rest k e

pub run_first : (g : Numbered) (w : List LexKind) (p : Places) (parts : Alternative) (start e : ℕ) (none new : List ℕ) → start ≤ length w → ((k : ℕ) → Has none k → ⊥) → ((k : ℕ) → Has new k ↔ (Has none k ⊎ (k ≡ start))) → RunsTo g w p parts start e ↔ RunsBy g w p new parts e
run_first g w p parts start e none new le empty one = (
  λ h. (start, le, (one start).1 (inr refl), h),
  λ h. elim ((one h.0).0 h.2) [
    | inl o ↦ absurd (empty h.0 o)
    | inr q ↦ subst (λ (k : ℕ). RunsTo g w p parts k e) q h.3
  ],
)

-- the first part
pub run_behind : (g : Numbered) (w : List LexKind) (p : Places) (parts rest : Alternative) (part : Symbol) (start e : ℕ) (none new : List ℕ) → parts ≡ part ∷ rest → ((k : ℕ) → Has none k → ⊥) → ((v : ℕ) → v ≤ length w → Has new v ↔ (Has none v ⊎ Advances g w p part start v)) → RunsTo g w p parts start e ↔ RunsBy g w p new rest e
run_behind g w p parts rest part start e none new f empty b = (
  λ h.
      let y = subst (λ (r : Alternative). RunsTo g w p r start e) f h in
      let within : y.0 ≤ length w = advance_within g w p part start y.0 y.1 in
      (y.0, within, (b y.0 within).1 (inr y.1), y.2),
  λ h. elim ((b h.0 h.1).0 h.2) [
    | inl o ↦ absurd (empty h.0 o)
    | inr x ↦ subst (λ (r : Alternative). RunsTo g w p r start e) (sym f) (h.0, x, h.3)
  ],
)

-- one part more
pub run_next : (g : Numbered) (w : List LexKind) (p : Places) (parts qs rest : Alternative) (part : Symbol) (start e : ℕ) (mid new : List ℕ) → qs ≡ part ∷ rest → (RunsTo g w p parts start e ↔ RunsBy g w p mid qs e) → ((v : ℕ) → v ≤ length w → Has new v ↔ AdvancesFrom g w p part mid v) → RunsTo g w p parts start e ↔ RunsBy g w p new rest e
run_next g w p parts qs rest part start e mid new f a b = (
  λ h.
      let x = a.0 h in
      let y = subst (λ (r : Alternative). RunsTo g w p r x.0 e) f x.3 in
      let within : y.0 ≤ length w = advance_within g w p part x.0 y.0 y.1 in
      (y.0, within, (b y.0 within).1 (x.0, x.1, x.2, y.1), y.2),
  λ h.
      let x = (b h.0 h.1).0 h.2 in
      a.1 (x.0, x.1, x.2, subst (λ (r : Alternative). RunsTo g w p r x.0 e) (sym f) (h.0, x.3, h.3)),
)

pub run_last : (g : Numbered) (w : List LexKind) (p : Places) (parts qs : Alternative) (start e : ℕ) (row : List ℕ) → e ≤ length w → qs ≡ [] → (RunsTo g w p parts start e ↔ RunsBy g w p row qs e) → Has row e ↔ RunsTo g w p parts start e
run_last g w p parts qs start e row le f a = (
  λ h. a.1 (e, le, h, subst (λ (r : Alternative). RunsTo g w p r e e) (sym f) refl),
  λ h. let x = a.0 h in subst (λ (k : ℕ). Has row k) (subst (λ (r : Alternative). RunsTo g w p r x.0 e) f x.3) x.2,
)
