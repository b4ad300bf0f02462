-- What symbols can start with, and the choice of a line by one token.
use Rattle.std.proofs.Common.{◌≡◌, inl, inr, ℕ, zero, suc, ◌<◌, Bool, true, false, List, [], ◌∷◌, ◌++◌, Some, None, refl, sym, ap, ◌∙◌, nat_eq, ◌&&◌, ◌||◌, eq-eqb}
use Rattle.std.proofs.lemmas.Bool.{and_from, or_left, or_right}
use Rattle.action_text.specs.Tables.{Symbol, Read, Keep, Emit, Name, Written, Line, Table, line_of, other_of, with_token, Writes}

abbrev pub member : ℕ → List ℕ → Bool
member c [] = false
member c (d ∷ ds) = nat_eq c d || member c ds

-- what is known of a table: what its names can start with, whether they can be nothing, what never follows them, how many there are; how many classes there are, and a token of each
pub record Known : Type 0 where
  pub firsts : ℕ → List ℕ
  pub empty : ℕ → Bool
  pub never : ℕ → List ℕ
  pub count : ℕ
  pub classes : ℕ
  pub sample : ℕ → List ℕ

abbrev pub can_be_empty : Known → List Symbol → Bool
can_be_empty w [] = true
can_be_empty w (Read c ∷ s) = false
can_be_empty w (Keep c ∷ s) = false
can_be_empty w (Emit e ∷ s) = can_be_empty w s
can_be_empty w (Name n ∷ s) = w.empty n && can_be_empty w s

abbrev pub can_start : Known → ℕ → List Symbol → Bool
can_start w c [] = false
can_start w c (Read d ∷ s) = nat_eq c d
can_start w c (Keep d ∷ s) = nat_eq c d
can_start w c (Emit e ∷ s) = can_start w c s
can_start w c (Name n ∷ s) = member c (w.firsts n) || (w.empty n && can_start w c s)

-- the facts of a table about first tokens
pub record Starting (g : Table) (w : Known) : Type 0 where
  pub line : (n c : ℕ) (l : Line) → line_of g.lines n c ≡ Some l → member c (w.firsts n) ≡ true
  pub other : (n c : ℕ) (r : List Symbol) → other_of g.others n ≡ Some r → can_start w c r ≡ true → member c (w.firsts n) ≡ true
  pub other_empty : (n : ℕ) (r : List Symbol) → other_of g.others n ≡ Some r → can_be_empty w r ≡ true → w.empty n ≡ true

regroup : (a b x y z : Bool) → (a || (b && (x || (y && z)))) ≡ ((a || (b && x)) || ((b && y) && z))
regroup true b x y z = refl
regroup false true true y z = refl
regroup false true false y z = refl
regroup false false x y z = refl

or_false : (b : Bool) → b ≡ (b || false)
or_false true = refl
or_false false = refl

pub start-append : (w : Known) (c : ℕ) (r s : List Symbol) → can_start w c (r ++ s) ≡ (can_start w c r || (can_be_empty w r && can_start w c s))
start-append w c [] s = refl
start-append w c (Read d ∷ r) s = or_false (nat_eq c d)
start-append w c (Keep d ∷ r) s = or_false (nat_eq c d)
start-append w c (Emit e ∷ r) s = start-append w c r s
start-append w c (Name n ∷ r) s =
    ap (λ b. member c (w.firsts n) || (w.empty n && b)) (start-append w c r s)
    ∙ regroup (member c (w.firsts n)) (w.empty n) (can_start w c r) (can_be_empty w r) (can_start w c s)

start_name : (a b c d e : Bool) → (a || (b && c)) ≡ true → (a ≡ true → d ≡ true) → (b ≡ true → e ≡ true) → (d || (e && c)) ≡ true
start_name true b c d e h p q = or_left d (e && c) (p refl)
start_name false true c d e h p q = or_right d (e && c) (and_from e c (q refl) h)
start_name false false c d e h p q = absurd (cc)

-- symbols that read a token can start with its class
pub starts : (g : Table) (w : Known) → Starting g w → (k : ℕ) (s : List Symbol) (t : List ℕ) (ts : List (List ℕ)) (o : List Written) → Writes g k s (t ∷ ts) o → can_start w (g.class t) s ≡ true
starts g w good zero s t ts o h = absurd (let e : t ∷ ts ≡ [] = h.1 in cc)
starts g w good (suc k) [] t ts o h = absurd h
starts g w good (suc k) (Read c ∷ s) t ts o h = eq-eqb (g.class t) c h.0
starts g w good (suc k) (Keep c ∷ s) t ts o h = eq-eqb (g.class t) c h.0
starts g w good (suc k) (Emit e ∷ s) t ts o h = starts g w good k s t ts h.0 h.2
starts g w good (suc k) (Name n ∷ s) t ts o (inl h) = or_left _ _ (good.line n (g.class t) h.0 h.2)
starts g w good (suc k) (Name n ∷ s) t ts o (inr h) =
    start_name (can_start w (g.class t) h.0) (can_be_empty w h.0) (can_start w (g.class t) s) (member (g.class t) (w.firsts n)) (w.empty n)
    (sym (start-append w (g.class t) h.0 s) ∙ starts g w good k (h.0 ++ s) t ts o h.2)
    (good.other n (g.class t) h.0 h.1) (good.other_empty n h.0 h.1)

-- what stands on a stack: a name is never followed by what must not follow it
abbrev pub Safe : Known → List Symbol → Type 0
Safe w [] = Unit {0}
Safe w (Read c ∷ s) = (c < w.classes) × Safe w s
Safe w (Keep c ∷ s) = (c < w.classes) × Safe w s
Safe w (Emit e ∷ s) = Safe w s
Safe w (Name n ∷ s) = (n < w.count) × ((c : ℕ) → member c (w.never n) ≡ true → can_start w c s ≡ false) × Safe w s

-- the same for the right of a line of n, whatever follows it
abbrev pub SafeRight : Known → ℕ → List Symbol → Type 0
SafeRight w n [] = Unit {0}
SafeRight w n (Read c ∷ s) = (c < w.classes) × SafeRight w n s
SafeRight w n (Keep c ∷ s) = (c < w.classes) × SafeRight w n s
SafeRight w n (Emit e ∷ s) = SafeRight w n s
SafeRight w n (Name m ∷ s) = (m < w.count) × ((c : ℕ) → member c (w.never m) ≡ true → (can_start w c s ≡ false) × (can_be_empty w s ≡ true → member c (w.never n) ≡ true)) × SafeRight w n s

-- what the choice by one token rests on
pub record Choosing (g : Table) (w : Known) : Type 0 where
  pub line : (n c : ℕ) (l : Line) → line_of g.lines n c ≡ Some l → SafeRight w n l.right
  pub other : (n : ℕ) (r : List Symbol) → other_of g.others n ≡ Some r → SafeRight w n r
  pub apart : (n c : ℕ) (l : Line) (r : List Symbol) → line_of g.lines n c ≡ Some l → other_of g.others n ≡ Some r → (can_start w c r ≡ false) × (can_be_empty w r ≡ true → member c (w.never n) ≡ true)

false_start : (a b c : Bool) → a ≡ false → (b ≡ true → c ≡ false) → (a || (b && c)) ≡ false
false_start true b c p q = absurd (cc)
false_start false true c p q = q refl
false_start false false c p q = refl

pub safe_append : (w : Known) (n : ℕ) (r s : List Symbol) → SafeRight w n r → ((c : ℕ) → member c (w.never n) ≡ true → can_start w c s ≡ false) → Safe w s → Safe w (r ++ s)
safe_append w n [] s a b d = d
safe_append w n (Read c ∷ r) s a b d = (a.0, safe_append w n r s a.1 b d)
safe_append w n (Keep c ∷ r) s a b d = (a.0, safe_append w n r s a.1 b d)
safe_append w n (Emit e ∷ r) s a b d = safe_append w n r s a b d
safe_append w n (Name m ∷ r) s a b d =
    (a.0, λ c h. start-append w c r s ∙ false_start (can_start w c r) (can_be_empty w r) (can_start w c s) ((a.1 c h).0) (λ e. b c ((a.1 c h).1 e)), safe_append w n r s a.2 b d)

-- with a line for the token, that line is the only way on
pub by_line : (g : Table) (w : Known) → Starting g w → Choosing g w → (k n : ℕ) (s : List Symbol) (t : List ℕ) (ts : List (List ℕ)) (o : List Written) (l : Line) → Safe w (Name n ∷ s) → line_of g.lines n (g.class t) ≡ Some l
    → Writes g (suc k) (Name n ∷ s) (t ∷ ts) o → (p : List Written) × (o ≡ with_token l.keeps t p) × Writes g k (l.right ++ s) ts p
by_line g w st ch k n s t ts o l safe e (inl h) =
    let f : Some h.0 ≡ Some l = sym h.2 ∙ e in
    let f : h.0 ≡ l = cc in
    (h.1, h.3 ∙ ap (λ (x : Line). with_token x.keeps t h.1) f, rw f at h.4)
by_line g w st ch k n s t ts o l safe e (inr h) =
    let d : can_start w (g.class t) (h.0 ++ s) ≡ true = starts g w st k (h.0 ++ s) t ts o h.2 in
    let a = ch.apart n (g.class t) l h.0 e h.1 in
    let b : can_start w (g.class t) (h.0 ++ s) ≡ false = start-append w (g.class t) h.0 s ∙ false_start (can_start w (g.class t) h.0) (can_be_empty w h.0) (can_start w (g.class t) s) a.0 (λ x. safe.1 (g.class t) (a.1 x)) in
    absurd (let x : true ≡ false = sym d ∙ b in cc)

-- without one, the other right side is
pub by_other : (g : Table) (k n : ℕ) (s : List Symbol) (t : List ℕ) (ts : List (List ℕ)) (o : List Written) → line_of g.lines n (g.class t) ≡ None
    → Writes g (suc k) (Name n ∷ s) (t ∷ ts) o → (r : List Symbol) × (other_of g.others n ≡ Some r) × Writes g k (r ++ s) (t ∷ ts) o
by_other g k n s t ts o e (inl h) = absurd (let x : None ≡ Some h.0 = sym e ∙ h.2 in cc)
by_other g k n s t ts o e (inr h) = h
