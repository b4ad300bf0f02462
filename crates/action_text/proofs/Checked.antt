-- The facts of a table, from a test that computes; and each name reads something.
use Rattle.std.proofs.Common.{◌≡◌, ◌≢◌, ◌⊎◌, inl, inr, ℕ, zero, suc, ◌<◌, Bool, true, false, List, [], ◌∷◌, ◌++◌, Option, Some, None, refl, sym, ap, ◌∙◌, arith, nat_eq, nat_lt, if◌then◌else◌, ◌&&◌, ◌||◌, not, eqb-true, eq-eqb, ltb-true}
use Rattle.std.proofs.lemmas.Bool.Decides.{eqb_tells}
use Rattle.std.proofs.lemmas.Bool.{and_parts, or_cases, or_right}
use Rattle.action_text.proofs.Tests.{and_left, and_right, not_true}
use Rattle.action_text.specs.Tables.{Symbol, Read, Keep, Emit, Name, Written, Token, Line, Other, Table, line_of, other_of, with_token, Reads, Noted}
use Rattle.action_text.proofs.Starts.{member, Known, can_start, can_be_empty, Starting, Choosing, Safe, SafeRight}
use Rattle.action_text.proofs.Moves.{reads_both}

abbrev pub implied : Bool → Bool → Bool
implied a b = not a || b

unfoldable pub each : (ℕ → Bool) → List ℕ → Bool
each p [] = true
each p (c ∷ cs) = p c && each p cs

implies : (a b : Bool) → implied a b ≡ true → a ≡ true → b ≡ true
implies true b h e = h
implies false b h e = absurd (cc)

each_member : (p : ℕ → Bool) (cs : List ℕ) (c : ℕ) → each p cs ≡ true → member c cs ≡ true → p c ≡ true
unfolding each
each_member p [] c h m = absurd (cc)
each_member p (d ∷ ds) c h m = go (or_cases (nat_eq c d) (member c ds) m) (each_member p ds c (and_right (p d) (each p ds) h))
  where
    go : (nat_eq c d ≡ true) ⊎ (member c ds ≡ true) → (member c ds ≡ true → p c ≡ true) → p c ≡ true
    go (inl e) ih = ap p (eqb-true c d e) ∙ and_left (p d) (each p ds) h
    go (inr e) ih = ih e

unfoldable pub starts_of : Known → List Symbol → List ℕ
starts_of w [] = []
starts_of w (Read c ∷ s) = c ∷ []
starts_of w (Keep c ∷ s) = c ∷ []
starts_of w (Emit e ∷ s) = starts_of w s
starts_of w (Name n ∷ s) = w.firsts n ++ (if w.empty n then starts_of w s else [])

member_front : (c : ℕ) (a b : List ℕ) → member c a ≡ true → member c (a ++ b) ≡ true
member_front c [] b h = absurd (cc)
member_front c (d ∷ a) b h = or_more (nat_eq c d) (member c a) (member c (a ++ b)) h (member_front c a b)
  where
    or_more : (x y z : Bool) → (x || y) ≡ true → (y ≡ true → z ≡ true) → (x || z) ≡ true
    or_more true y z h f = refl
    or_more false y z h f = f h

member_back : (c : ℕ) (a b : List ℕ) → member c b ≡ true → member c (a ++ b) ≡ true
member_back c [] b h = h
member_back c (d ∷ a) b h = or_right (nat_eq c d) (member c (a ++ b)) (member_back c a b h)

starts_listed : (w : Known) (c : ℕ) (s : List Symbol) → can_start w c s ≡ true → member c (starts_of w s) ≡ true
unfolding starts_of
starts_listed w c [] h = absurd (cc)
starts_listed w c (Read d ∷ s) h = first (nat_eq c d) h
  where
    first : (x : Bool) → x ≡ true → (x || false) ≡ true
    first true e = refl
    first false e = e
starts_listed w c (Keep d ∷ s) h = first (nat_eq c d) h
  where
    first : (x : Bool) → x ≡ true → (x || false) ≡ true
    first true e = refl
    first false e = e
starts_listed w c (Emit e ∷ s) h = starts_listed w c s h
starts_listed w c (Name n ∷ s) h = go (or_cases (member c (w.firsts n)) (w.empty n && can_start w c s) h) (starts_listed w c s)
  where
    go : (member c (w.firsts n) ≡ true) ⊎ ((w.empty n && can_start w c s) ≡ true) → (can_start w c s ≡ true → member c (starts_of w s) ≡ true) → member c (w.firsts n ++ (if w.empty n then starts_of w s else [])) ≡ true
    go (inl e) ih = member_front c (w.firsts n) _ e
    go (inr e) ih = member_back c (w.firsts n) _ (let x : w.empty n ≡ true = and_left (w.empty n) (can_start w c s) e in rw x (ih (and_right (w.empty n) (can_start w c s) e)))

-- the tests
unfoldable pub right_is_safe : Known → ℕ → List Symbol → Bool
right_is_safe w n [] = true
right_is_safe w n (Read c ∷ s) = nat_lt c w.classes && right_is_safe w n s
right_is_safe w n (Keep c ∷ s) = nat_lt c w.classes && right_is_safe w n s
right_is_safe w n (Emit e ∷ s) = right_is_safe w n s
right_is_safe w n (Name m ∷ s) = nat_lt m w.count && (each (λ c. not (can_start w c s) && implied (can_be_empty w s) (member c (w.never n))) (w.never m) && right_is_safe w n s)

safe_right : (w : Known) (n : ℕ) (s : List Symbol) → right_is_safe w n s ≡ true → SafeRight w n s
unfolding right_is_safe
safe_right w n [] h = tt
safe_right w n (Read c ∷ s) h = (ltb-true c w.classes (and_left (nat_lt c w.classes) (right_is_safe w n s) h), safe_right w n s (and_right (nat_lt c w.classes) (right_is_safe w n s) h))
safe_right w n (Keep c ∷ s) h = (ltb-true c w.classes (and_left (nat_lt c w.classes) (right_is_safe w n s) h), safe_right w n s (and_right (nat_lt c w.classes) (right_is_safe w n s) h))
safe_right w n (Emit e ∷ s) h = safe_right w n s h
safe_right w n (Name m ∷ s) h =
    let b = and_right (nat_lt m w.count) _ h in (
      ltb-true m w.count (and_left (nat_lt m w.count) _ h),
      λ c e. let x = and_parts _ _ (each_member _ (w.never m) c (and_left _ (right_is_safe w n s) b) e) in (not_true _ x.0, implies _ _ x.1),
      safe_right w n s (and_right _ (right_is_safe w n s) b),
    )

-- a line and the other right side of its name
abbrev pub stand_apart : Known → ℕ → ℕ → Option (List Symbol) → Bool
stand_apart w n c None = true
stand_apart w n c (Some r) = not (can_start w c r) && implied (can_be_empty w r) (member c (w.never n))

unfoldable pub line_is_good : Table → Known → Line → Bool
line_is_good g w l = member l.class (w.firsts l.name) && (right_is_safe w l.name l.right && stand_apart w l.name l.class (other_of g.others l.name))

unfoldable pub other_is_good : Known → Other → Bool
other_is_good w r = each (λ c. member c (w.firsts r.name)) (starts_of w r.right) && (implied (can_be_empty w r.right) (w.empty r.name) && right_is_safe w r.name r.right)

unfoldable pub lines_are_good : Table → Known → List Line → Bool
lines_are_good g w [] = true
lines_are_good g w (l ∷ ls) = line_is_good g w l && lines_are_good g w ls

unfoldable pub others_are_good : Known → List Other → Bool
others_are_good w [] = true
others_are_good w (r ∷ rs) = other_is_good w r && others_are_good w rs

-- the line that is found is a line of the list, of that name and class
line_found : (g : Table) (w : Known) (ls : List Line) (n c : ℕ) (l : Line) → lines_are_good g w ls ≡ true → line_of ls n c ≡ Some l → (l.name ≡ n) × (l.class ≡ c) × (line_is_good g w l ≡ true)
unfolding lines_are_good line_of
line_found g w [] n c l h e = absurd (cc)
line_found g w (m ∷ ls) n c l h e = go (nat_eq m.name n) (nat_eq m.class c) refl refl e (line_found g w ls n c l (and_right (line_is_good g w m) (lines_are_good g w ls) h))
  where
    go : (a b : Bool) → nat_eq m.name n ≡ a → nat_eq m.class c ≡ b → (if a then (if b then Some m else line_of ls n c) else line_of ls n c) ≡ Some l
        → (line_of ls n c ≡ Some l → (l.name ≡ n) × (l.class ≡ c) × (line_is_good g w l ≡ true)) → (l.name ≡ n) × (l.class ≡ c) × (line_is_good g w l ≡ true)
    go true true p q e ih = let x : m ≡ l = cc in rw (sym x) (eqb-true m.name n p, eqb-true m.class c q, and_left (line_is_good g w m) (lines_are_good g w ls) h)
    go true false p q e ih = ih e
    go false b p q e ih = ih e

other_found : (w : Known) (rs : List Other) (n : ℕ) (r : List Symbol) → others_are_good w rs ≡ true → other_of rs n ≡ Some r → other_is_good w (record { name = n; right = r }) ≡ true
unfolding others_are_good other_of
other_found w [] n r h e = absurd (cc)
other_found w (m ∷ rs) n r h e = go (nat_eq m.name n) refl e (other_found w rs n r (and_right (other_is_good w m) (others_are_good w rs) h))
  where
    go : (a : Bool) → nat_eq m.name n ≡ a → (if a then Some m.right else other_of rs n) ≡ Some r → (other_of rs n ≡ Some r → other_is_good w (record { name = n; right = r }) ≡ true) → other_is_good w (record { name = n; right = r }) ≡ true
    go true p e ih = let x : m.right ≡ r = cc in let y : m.name ≡ n = eqb-true m.name n p in rw (sym x) (rw (sym y) (and_left (other_is_good w m) (others_are_good w rs) h))
    go false p e ih = ih e

pub starting : (g : Table) (w : Known) → lines_are_good g w g.lines ≡ true → others_are_good w g.others ≡ true → Starting g w
unfolding line_is_good other_is_good
starting g w a b = record {
  line = λ n c l e. let x = line_found g w g.lines n c l a e in rw x.0 at (rw x.1 at (and_left (member l.class (w.firsts l.name)) _ x.2));
  other = λ n c r e h. each_member _ (starts_of w r) c (and_left _ _ (other_found w g.others n r b e)) (starts_listed w c r h);
  other_empty = λ n r e. implies _ _ (and_left _ _ (and_right _ _ (other_found w g.others n r b e)));
}

pub choosing : (g : Table) (w : Known) → lines_are_good g w g.lines ≡ true → others_are_good w g.others ≡ true → Choosing g w
unfolding line_is_good other_is_good
choosing g w a b = record {
  line = λ n c l e. let x = line_found g w g.lines n c l a e in rw x.0 at (safe_right w l.name l.right (and_left _ _ (and_right _ _ x.2)));
  other = λ n r e. safe_right w n r (and_right _ _ (and_right _ _ (other_found w g.others n r b e)));
  apart = λ n c l r e f. let x = line_found g w g.lines n c l a e in
      split n c r (rw f at (rw x.0 at (rw x.1 at (and_right (right_is_safe w l.name l.right) _ (and_right (member l.class (w.firsts l.name)) _ x.2)))));
}
  where
    split : (n c : ℕ) (r : List Symbol) → stand_apart w n c (Some r) ≡ true → (can_start w c r ≡ false) × (can_be_empty w r ≡ true → member c (w.never n) ≡ true)
    split n c r h = (not_true (can_start w c r) (and_left (not (can_start w c r)) (implied (can_be_empty w r) (member c (w.never n))) h), implies (can_be_empty w r) (member c (w.never n)) (and_right (not (can_start w c r)) (implied (can_be_empty w r) (member c (w.never n))) h))

-- each name reads something: by its other right side where it has one, else by its first line
abbrev pub first_line : List Line → ℕ → Option Line
first_line [] n = None
first_line (l ∷ ls) n = if nat_eq l.name n then Some l else first_line ls n

unfoldable pub can_end : Table → ℕ → ℕ → List Symbol → Bool
can_end g classes zero [] = true
can_end g classes zero (_ ∷ _) = false
can_end g classes (suc k) [] = true
can_end g classes (suc k) (Read c ∷ s) = nat_lt c classes && can_end g classes k s
can_end g classes (suc k) (Keep c ∷ s) = nat_lt c classes && can_end g classes k s
can_end g classes (suc k) (Emit e ∷ s) = can_end g classes k s
can_end g classes (suc k) (Name n ∷ s) =
    elim (other_of g.others n) [
      | Some r ↦ can_end g classes k (r ++ s)
      | None ↦ elim (first_line g.lines n) [ Some l ↦ nat_lt l.class classes && can_end g classes k (l.right ++ s) | None ↦ false ]
    ]

-- each class has a token
abbrev pub Sampled : Table → Known → Type 0
Sampled g w = (c : ℕ) → c < w.classes → g.class (w.sample c) ≡ c

first_found : (ls : List Line) (n : ℕ) (l : Line) → first_line ls n ≡ Some l → line_of ls n l.class ≡ Some l
unfolding line_of
first_found [] n l e = absurd (cc)
first_found (m ∷ ls) n l e = go (nat_eq m.name n) (nat_eq m.class l.class) refl refl e (first_found ls n l)
  where
    go : (a b : Bool) → nat_eq m.name n ≡ a → nat_eq m.class l.class ≡ b → (if a then Some m else first_line ls n) ≡ Some l → (first_line ls n ≡ Some l → line_of ls n l.class ≡ Some l) → (if a then (if b then Some m else line_of ls n l.class) else line_of ls n l.class) ≡ Some l
    go true true p q e ih = e
    go true false p q e ih = absurd (let x : m ≡ l = cc in let y : nat_eq m.class l.class ≡ true = eq-eqb m.class l.class (ap (λ (v : Line). v.class) x) in let z : true ≡ false = sym y ∙ q in cc)
    go false b p q e ih = ih e

sampled : (g : Table) (w : Known) → Sampled g w → (c : ℕ) (b : Bool) → (nat_lt c w.classes && b) ≡ true → g.class (w.sample c) ≡ c
sampled g w sm c b h = sm c (ltb-true c w.classes (and_left (nat_lt c w.classes) b h))

pub ends : (g : Table) (w : Known) → Sampled g w → (k : ℕ) (s : List Symbol) → can_end g w.classes k s ≡ true → (ts : List (List ℕ)) × (o : List Written) × Reads g s ts o
unfolding can_end
ends g w sm zero [] h = ([], [], (0, (refl, refl, refl)))
ends g w sm zero (_ ∷ _) h = absurd (cc)
ends g w sm (suc k) [] h = ([], [], (0, (refl, refl, refl)))
ends g w sm (suc k) (Read c ∷ s) h =
    let x = ends g w sm k s (and_right (nat_lt c w.classes) (can_end g w.classes k s) h) in
    (w.sample c ∷ x.0, x.1, (suc x.2.0, (sampled g w sm c (can_end g w.classes k s) h, x.2.1)))
ends g w sm (suc k) (Keep c ∷ s) h =
    let x = ends g w sm k s (and_right (nat_lt c w.classes) (can_end g w.classes k s) h) in
    (w.sample c ∷ x.0, Token (w.sample c) ∷ x.1, (suc x.2.0, (sampled g w sm c (can_end g w.classes k s) h, x.1, refl, x.2.1)))
ends g w sm (suc k) (Emit e ∷ s) h = let x = ends g w sm k s h in (x.0, Noted e ∷ x.1, (suc x.2.0, (x.1, refl, x.2.1)))
ends g w sm (suc k) (Name n ∷ s) h = go (other_of g.others n) (first_line g.lines n) refl refl h (ends g w sm k)
  where
    named : (r : List Symbol) (ts : List (List ℕ)) (o : List Written) → other_of g.others n ≡ Some r → Reads g (r ++ s) ts o → Reads g (Name n ∷ s) ts o
    named r [] o e h = (suc h.0, (r, e, h.1))
    named r (t ∷ ts) o e h = (suc h.0, inr (r, e, h.1))

    go : (a : Option (List Symbol)) (b : Option Line) → other_of g.others n ≡ a → first_line g.lines n ≡ b
        → (elim a [ Some r ↦ can_end g w.classes k (r ++ s) | None ↦ elim b [ Some l ↦ nat_lt l.class w.classes && can_end g w.classes k (l.right ++ s) | None ↦ false ] ]) ≡ true
        → ((r : List Symbol) → can_end g w.classes k r ≡ true → (ts : List (List ℕ)) × (o : List Written) × Reads g r ts o) → (ts : List (List ℕ)) × (o : List Written) × Reads g (Name n ∷ s) ts o
    go (Some r) b e f h ih = let x = ih (r ++ s) h in (x.0, x.1, named r x.0 x.1 e x.2)
    go None (Some l) e f h ih =
        let x = ih (l.right ++ s) (and_right (nat_lt l.class w.classes) (can_end g w.classes k (l.right ++ s)) h) in
        let of_class : g.class (w.sample l.class) ≡ l.class = sampled g w sm l.class (can_end g w.classes k (l.right ++ s)) h in (
          w.sample l.class ∷ x.0,
          with_token l.keeps (w.sample l.class) x.1,
          (suc x.2.0, inl (l, x.1, ap (λ c. line_of g.lines n c) of_class ∙ first_found g.lines n l f, refl, x.2.1)),
        )
    go None None e f h ih = absurd (cc)

unfoldable pub below : (ℕ → Bool) → ℕ → Bool
below p zero = true
below p (suc z) = p z && below p z

-- what holds of each number below the end
pub below_each : (p : ℕ → Bool) (z n : ℕ) → below p z ≡ true → n < z → p n ≡ true
unfolding below
below_each p zero n h l = absurd (omega arith)
below_each p (suc z) n h l = go (eqb_tells n z) (below_each p z n (and_right (p z) (below p z) h))
  where
    go : ((nat_eq n z ≡ true) × (n ≡ z)) ⊎ ((nat_eq n z ≡ false) × (n ≢ z)) → (n < z → p n ≡ true) → p n ≡ true
    go (inl e) ih = ap p e.1 ∙ and_left (p z) (below p z) h
    go (inr e) ih = let d : n ≢ z = e.1 in ih (omega arith)

-- each name reads something
abbrev pub Ending : Table → Known → Type 0
Ending g w = (n : ℕ) → n < w.count → (ts : List (List ℕ)) × (o : List Written) × Reads g (Name n ∷ []) ts o

pub ending : (g : Table) (w : Known) → Sampled g w → (k : ℕ) → below (λ n. can_end g w.classes k (Name n ∷ [])) w.count ≡ true → Ending g w
ending g w sm k h n l = ends g w sm k (Name n ∷ []) (below_each (λ n. can_end g w.classes k (Name n ∷ [])) w.count n h l)

-- so does each safe stack
pub all_end : (g : Table) (w : Known) → Sampled g w → Ending g w → (s : List Symbol) → Safe w s → (ts : List (List ℕ)) × (o : List Written) × Reads g s ts o
all_end g w sm f [] b = ([], [], (0, (refl, refl, refl)))
all_end g w sm f (Read c ∷ s) b = let x = all_end g w sm f s b.1 in (w.sample c ∷ x.0, x.1, (suc x.2.0, (sm c b.0, x.2.1)))
all_end g w sm f (Keep c ∷ s) b = let x = all_end g w sm f s b.1 in (w.sample c ∷ x.0, Token (w.sample c) ∷ x.1, (suc x.2.0, (sm c b.0, x.1, refl, x.2.1)))
all_end g w sm f (Emit e ∷ s) b = let x = all_end g w sm f s b in (x.0, Noted e ∷ x.1, (suc x.2.0, (x.1, refl, x.2.1)))
all_end g w sm f (Name n ∷ s) b =
    let x = all_end g w sm f s b.2 in
    let y = f n b.0 in
    (y.0 ++ x.0, y.1 ++ x.1, reads_both g y.2.0 x.2.0 (Name n ∷ []) s y.0 x.0 y.1 x.1 y.2.1 x.2.1)
