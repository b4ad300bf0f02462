-- What names mean, and what symbols mean then: from moves to meanings, and from parts to moves.
use Rattle.std.proofs.Common.{◌≡◌, inl, inr, ℕ, zero, suc, Bool, true, false, List, [], ◌∷◌, ◌++◌, Some, refl, sym, ap, ◌∙◌, append_assoc, append-nil, nat_eq, if◌then◌else◌, eqb-true}
use Rattle.action_text.specs.declared.table.Mark.{Mark}
use Rattle.action_text.specs.Tables.{Symbol, Read, Keep, Emit, Name, Written, Token, Noted, Line, Other, Table, line_of, other_of, with_token, Writes, Reads}
use Rattle.action_text.specs.Notes.{Noting, note, noted}
use Rattle.action_text.proofs.Moves.{reads_both}

-- what each name does: from one state over tokens to another state
abbrev pub Meant : Type 1
Meant = ℕ → Noting → List (List ℕ) → Noting → Type 0

-- the state in which the right side of a line begins
abbrev pub keeping : Bool → List ℕ → Noting → Noting
keeping true t st = note (Token t) st
keeping false t st = st

-- what symbols do, where names do what they mean
abbrev pub Meaning : Table → Meant → List Symbol → Noting → List (List ℕ) → Noting → Type 0
Meaning g M [] st ts end = (ts ≡ []) × (end ≡ st)
Meaning g M (Read c ∷ s) st [] end = ⊥
Meaning g M (Read c ∷ s) st (t ∷ ts) end = (g.class t ≡ c) × Meaning g M s st ts end
Meaning g M (Keep c ∷ s) st [] end = ⊥
Meaning g M (Keep c ∷ s) st (t ∷ ts) end = (g.class t ≡ c) × Meaning g M s (note (Token t) st) ts end
Meaning g M (Emit e ∷ s) st ts end = Meaning g M s (note (Noted e) st) ts end
Meaning g M (Name n ∷ s) st ts end =
    (front : List (List ℕ)) × (back : List (List ℕ)) × (mid : Noting)
    × (ts ≡ front ++ back) × M n st front mid × Meaning g M s mid back end

-- each line, and each other right side, does what its name means
abbrev pub LineMeans : Table → Meant → Line → Type 0
LineMeans g M l = (t : List ℕ) (st end : Noting) (ts : List (List ℕ)) → g.class t ≡ l.class → Meaning g M l.right (keeping l.keeps t st) ts end → M l.name st (t ∷ ts) end

abbrev pub LinesMean : Table → Meant → List Line → Type 0
LinesMean g M [] = Unit {0}
LinesMean g M (l ∷ ls) = LineMeans g M l × LinesMean g M ls

abbrev pub OtherMeans : Table → Meant → Other → Type 0
OtherMeans g M l = (st end : Noting) (ts : List (List ℕ)) → Meaning g M l.right st ts end → M l.name st ts end

abbrev pub OthersMean : Table → Meant → List Other → Type 0
OthersMean g M [] = Unit {0}
OthersMean g M (l ∷ ls) = OtherMeans g M l × OthersMean g M ls

line_means : (g : Table) (M : Meant) (ls : List Line) (n c : ℕ) (l : Line) → LinesMean g M ls → line_of ls n c ≡ Some l → LineMeans g M l × (l.name ≡ n) × (l.class ≡ c)
unfolding line_of
line_means g M [] n c l all e = absurd (cc)
line_means g M (m ∷ ls) n c l all e = go (nat_eq m.name n) (nat_eq m.class c) refl refl e (line_means g M ls n c l all.1)
  where
    go : (a b : Bool) → nat_eq m.name n ≡ a → nat_eq m.class c ≡ b → (if a then (if b then Some m else line_of ls n c) else line_of ls n c) ≡ Some l
        → (line_of ls n c ≡ Some l → LineMeans g M l × (l.name ≡ n) × (l.class ≡ c)) → LineMeans g M l × (l.name ≡ n) × (l.class ≡ c)
    go true true p q e ih = let x : m ≡ l = cc in rw (sym x) (all.0, eqb-true m.name n p, eqb-true m.class c q)
    go true false p q e ih = ih e
    go false b p q e ih = ih e

other_means : (g : Table) (M : Meant) (ls : List Other) (n : ℕ) (r : List Symbol) → OthersMean g M ls → other_of ls n ≡ Some r → OtherMeans g M (record { name = n; right = r })
unfolding other_of
other_means g M [] n r all e = absurd (cc)
other_means g M (m ∷ ls) n r all e = go (nat_eq m.name n) refl e (other_means g M ls n r all.1)
  where
    go : (a : Bool) → nat_eq m.name n ≡ a → (if a then Some m.right else other_of ls n) ≡ Some r → (other_of ls n ≡ Some r → OtherMeans g M (record { name = n; right = r })) → OtherMeans g M (record { name = n; right = r })
    go true p e ih = let x : m.right ≡ r = cc in let y : m.name ≡ n = eqb-true m.name n p in rw (sym x) (rw (sym y) all.0)
    go false p e ih = ih e

-- symbols one behind the other
pub meaning_split : (g : Table) (M : Meant) (r s : List Symbol) (st end : Noting) (ts : List (List ℕ)) → Meaning g M (r ++ s) st ts end
    → (front : List (List ℕ)) × (back : List (List ℕ)) × (mid : Noting) × (ts ≡ front ++ back) × Meaning g M r st front mid × Meaning g M s mid back end
meaning_split g M [] s st end ts h = ([], ts, st, refl, (refl, refl), h)
meaning_split g M (Read c ∷ r) s st end [] h = absurd h
meaning_split g M (Read c ∷ r) s st end (t ∷ ts) h = let x = meaning_split g M r s st end ts h.1 in (t ∷ x.0, x.1, x.2, ap (λ y. t ∷ y) x.3, (h.0, x.4), x.5)
meaning_split g M (Keep c ∷ r) s st end [] h = absurd h
meaning_split g M (Keep c ∷ r) s st end (t ∷ ts) h = let x = meaning_split g M r s (note (Token t) st) end ts h.1 in (t ∷ x.0, x.1, x.2, ap (λ y. t ∷ y) x.3, (h.0, x.4), x.5)
meaning_split g M (Emit e ∷ r) s st end ts h = meaning_split g M r s (note (Noted e) st) end ts h
meaning_split g M (Name n ∷ r) s st end ts h =
    let x = meaning_split g M r s h.2 end h.1 h.5 in
    (h.0 ++ x.0, x.1, x.2, h.3 ∙ ap (λ y. h.0 ++ y) x.3 ∙ sym (append_assoc h.0 x.0 x.1), (h.0, x.0, h.2, refl, h.4, x.4), x.5)

keeping_is : (b : Bool) (t : List ℕ) (p : List Written) (st : Noting) → noted (with_token b t p) st ≡ noted p (keeping b t st)
keeping_is true t p st = refl
keeping_is false t p st = refl

-- what symbols write is what they mean
pub moves_mean : (g : Table) (M : Meant) → LinesMean g M g.lines → OthersMean g M g.others → (k : ℕ) (s : List Symbol) (st : Noting) (ts : List (List ℕ)) (o : List Written) → Writes g k s ts o → Meaning g M s st ts (noted o st)
moves_mean g M a b zero s st ts o h = rw h.0 (rw h.1 (rw h.2 (refl, refl)))
moves_mean g M a b (suc k) [] st ts o h = absurd h
moves_mean g M a b (suc k) (Read c ∷ s) st [] o h = absurd h
moves_mean g M a b (suc k) (Read c ∷ s) st (t ∷ ts) o h = (h.0, moves_mean g M a b k s st ts o h.1)
moves_mean g M a b (suc k) (Keep c ∷ s) st [] o h = absurd h
moves_mean g M a b (suc k) (Keep c ∷ s) st (t ∷ ts) o h = (h.0, rw h.2 (moves_mean g M a b k s (note (Token t) st) ts h.1 h.3))
moves_mean g M a b (suc k) (Emit e ∷ s) st ts o h = rw h.1 (moves_mean g M a b k s (note (Noted e) st) ts h.0 h.2)
moves_mean g M a b (suc k) (Name n ∷ s) st [] o h =
    let x = meaning_split g M h.0 s st (noted o st) [] (moves_mean g M a b k (h.0 ++ s) st [] o h.2) in
    (x.0, x.1, x.2, x.3, other_means g M g.others n h.0 b h.1 st x.2 x.0 x.4, x.5)
moves_mean g M a b (suc k) (Name n ∷ s) st (t ∷ ts) o (inl h) =
    let y = line_means g M g.lines n (g.class t) h.0 a h.2 in
    let x = meaning_split g M h.0.right s (keeping h.0.keeps t st) (noted h.1 (keeping h.0.keeps t st)) ts (moves_mean g M a b k (h.0.right ++ s) (keeping h.0.keeps t st) ts h.1 h.4) in
    let here : M h.0.name st (t ∷ x.0) x.2 = y.0 t st x.2 x.0 (sym y.2) x.4 in
    (t ∷ x.0, x.1, x.2, ap (λ z. t ∷ z) x.3, rw y.1 at here, rw h.3 (rw (keeping_is h.0.keeps t h.1 st) x.5))
moves_mean g M a b (suc k) (Name n ∷ s) st (t ∷ ts) o (inr h) =
    let x = meaning_split g M h.0 s st (noted o st) (t ∷ ts) (moves_mean g M a b k (h.0 ++ s) st (t ∷ ts) o h.2) in
    (x.0, x.1, x.2, x.3, other_means g M g.others n h.0 b h.1 st x.2 x.0 x.4, x.5)

-- the symbols read the tokens, and what they write leads from the one state to the other
pub record Does (g : Table) (s : List Symbol) (st : Noting) (ts : List (List ℕ)) (end : Noting) : Type 0 where
  pub written : List Written
  pub reads : Reads g s ts written
  pub ends : noted written st ≡ end

pub noted-append : (o p : List Written) (st : Noting) → noted (o ++ p) st ≡ noted p (noted o st)
noted-append [] p st = refl
noted-append (x ∷ o) p st = noted-append o p (note x st)

pub does_nothing : (g : Table) (st : Noting) → Does g [] st [] st
does_nothing g st = record { written = []; reads = (0, (refl, refl, refl)); ends = refl }

pub does_read : (g : Table) (c : ℕ) (s : List Symbol) (st end : Noting) (t : List ℕ) (ts : List (List ℕ)) → g.class t ≡ c → Does g s st ts end → Does g (Read c ∷ s) st (t ∷ ts) end
does_read g c s st end t ts e d = record { written = d.written; reads = (suc d.reads.0, (e, d.reads.1)); ends = d.ends }

pub does_keep : (g : Table) (c : ℕ) (s : List Symbol) (st end : Noting) (t : List ℕ) (ts : List (List ℕ)) → g.class t ≡ c → Does g s (note (Token t) st) ts end → Does g (Keep c ∷ s) st (t ∷ ts) end
does_keep g c s st end t ts e d = record { written = Token t ∷ d.written; reads = (suc d.reads.0, (e, d.written, refl, d.reads.1)); ends = d.ends }

pub does_emit : (g : Table) (m : Mark) (s : List Symbol) (st end : Noting) (ts : List (List ℕ)) → Does g s (note (Noted m) st) ts end → Does g (Emit m ∷ s) st ts end
does_emit g m s st end ts d = record { written = Noted m ∷ d.written; reads = (suc d.reads.0, (d.written, refl, d.reads.1)); ends = d.ends }

-- one behind the other
pub does_both : (g : Table) (r s : List Symbol) (st mid end : Noting) (ts us : List (List ℕ)) → Does g r st ts mid → Does g s mid us end → Does g (r ++ s) st (ts ++ us) end
does_both g r s st mid end ts us d e = record {
  written = d.written ++ e.written;
  reads = reads_both g d.reads.0 e.reads.0 r s ts us d.written e.written d.reads.1 e.reads.1;
  ends = noted-append d.written e.written st ∙ ap (noted e.written) d.ends ∙ e.ends;
}

pub does_line : (g : Table) (n : ℕ) (l : Line) (st end : Noting) (t : List ℕ) (ts : List (List ℕ)) → line_of g.lines n (g.class t) ≡ Some l → Does g l.right (keeping l.keeps t st) ts end → Does g (Name n ∷ []) st (t ∷ ts) end
does_line g n l st end t ts e d = record {
  written = with_token l.keeps t d.written;
  reads = (suc d.reads.0, inl (l, d.written, e, refl, rw (append-nil l.right) d.reads.1));
  ends = keeping_is l.keeps t d.written st ∙ d.ends;
}

pub does_other : (g : Table) (n : ℕ) (r : List Symbol) (st end : Noting) (ts : List (List ℕ)) → other_of g.others n ≡ Some r → Does g r st ts end → Does g (Name n ∷ []) st ts end
does_other g n r st end [] e d = record { written = d.written; reads = (suc d.reads.0, (r, e, rw (append-nil r) d.reads.1)); ends = d.ends }
does_other g n r st end (t ∷ ts) e d = record { written = d.written; reads = (suc d.reads.0, inr (r, e, rw (append-nil r) d.reads.1)); ends = d.ends }
