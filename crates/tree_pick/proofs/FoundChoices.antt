-- What was found, and the choices among it.
use Rattle.std.proofs.Common.{◌≡◌, ◌⊎◌, inl, inr, true, false, ◌==◌, ℕ, suc, ◌+◌, ◌-◌, ◌<◌, ◌≤◌, List, [], ◌∷◌, ◌++◌, length, slice_get, Some, None, Option, get_or, Contains, refl, sym, ap, subst, ◌∙◌, arith, take, drop, Bool}
use Rattle.std.specs.Prelude.{◌↔◌}
use Rattle.std.proofs.lemmas.List.{take-append-drop}
use Rattle.std.proofs.lemmas.List.Elements.{Contains-get_or, Contains-append_left}
use Rattle.std.proofs.lemmas.Option.{slice_get_within, slice_get-get_or}
use Rattle.std.proofs.Math.Nat.{eq-or-lt_of_le}
use Rattle.std.specs.Option.{option_and_then, unwrap_or}
use Rattle.source_lex.specs.Numbered.{Alternative, Numbered, alternative_of}
use Rattle.source_lex.specs.declared.lexeme.LexKind.{LexKind}
use Rattle.chart_parse.specs.Growths.{HasPieces}
use Rattle.tree_pick.specs.declared.phrases.Choice.{Choice}
use Rattle.tree_pick.specs.declared.phrases.Corner.{Corner}
use Rattle.tree_pick.specs.declared.phrases.Corner.TheVariants.{Branch}
use Rattle.tree_pick.specs.declared.phrases.Taken.{Taken}
use Rattle.source_lex.specs.declared.numbered.Symbol.{Symbol as Part}
use Rattle.source_lex.specs.declared.numbered.Symbol.TheVariants.{Word}
use Rattle.tree_pick.specs.Runs.{AreWords, Leads, Cuts, CutsAmong}
use Rattle.tree_pick.specs.Spines.{Stay, CanGrow}
use Rattle.tree_pick.specs.Choices.{IsChoice, CanStep, CanTake, Takes, Fits, IsBehind, BeginsNot}
use Rattle.tree_pick.proofs.LeftParts.{empty_list, some_list, fits_begins, fits_some}
use Rattle.chart_parse.proofs.EndsOfParts.{alternative_within}
use Rattle.tree_pick.proofs.FollowedParts.{no_part, first_part, pushed}
use Rattle.tree_pick.proofs.Looked.{taken, taken_same}

pub some_long : {A : Type 0} (xs : List A) (x : A) → Contains xs x → 0 < length xs
some_long xs x h = let k = h.1 in omega arith

pub not_in_nothing : {A : Type 0} (xs : List A) (x : A) → xs ≡ [] → Contains xs x → ⊥
not_in_nothing {A = A} xs x e h = let y = subst (λ (l : List A). Contains l x) e h in let k = y.1 in omega arith

pub pushed_to : {A : Type 0} (xs ys : List A) (x e : A) → ys ≡ xs ++ x ∷ [] → Contains ys e ↔ (Contains xs e ⊎ (x ≡ e))
pushed_to {A = A} xs ys x e more = subst (λ (l : List A). Contains l e ↔ (Contains xs e ⊎ (x ≡ e))) (sym more) (pushed xs x e)

-- one end more was looked at
pub ends_more : (g : Numbered) (w : List LexKind) (b a n j : ℕ) (old mid new : List Taken) (places : List ℕ) (e : ℕ) (x : Taken)
    → (Contains mid x ↔ (Contains old x ⊎ Takes g w b a (Contains places) n j x))
    → (Contains new x ↔ (Contains mid x ⊎ ((taken b a e ≡ x) × CanGrow g w n j b e)))
    → Contains new x ↔ (Contains old x ⊎ Takes g w b a (Contains (places ++ e ∷ [])) n j x)
ends_more g w b a n j old mid new places e x before now = (
  λ h. elim (now.0 h) [
    | inl m ↦ elim (before.0 m) [ inl o ↦ inl o | inr t ↦ inr (t.0, t.1, (pushed places e x.end).1 (inl t.2), t.3) ]
    | inr q ↦ inr (subst (λ (y : Taken). Takes g w b a (Contains (places ++ e ∷ [])) n j y) q.0 (refl, refl, (pushed places e e).1 (inr refl), q.1))
  ],
  λ h. elim h [
    | inl o ↦ now.1 (inl (before.1 (inl o)))
    | inr t ↦ elim ((pushed places e x.end).0 t.2) [
      | inl there ↦ now.1 (inl (before.1 (inr (t.0, t.1, there, t.3))))
      | inr q ↦ now.1 (inr (taken_same (taken b a e) x (sym t.0) (sym t.1) q, subst (λ (v : ℕ). CanGrow g w n j b v) (sym q) t.3))
    ]
  ],
)

pub takes_same : (g : Numbered) (w : List LexKind) (b a n j : ℕ) (Ends Others : ℕ → Type 0) (x : Taken) → ((e : ℕ) → Ends e ↔ Others e) → Takes g w b a Ends n j x ↔ Takes g w b a Others n j x
takes_same g w b a n j Ends Others x same = (
  λ t. (t.0, t.1, (same x.end).0 t.2, t.3),
  λ t. (t.0, t.1, (same x.end).1 t.2, t.3),
)

pub either_same : (A B C : Type 0) → B ↔ C → (A ⊎ B) ↔ (A ⊎ C)
either_same A B C same = (
  λ h. elim h [ inl a ↦ inl a | inr b ↦ inr (same.0 b) ],
  λ h. elim h [ inl a ↦ inl a | inr c ↦ inr (same.1 c) ],
)

pub iff_then : (A B C : Type 0) → A ↔ B → B ↔ C → A ↔ C
iff_then A B C f g = (λ a. g.0 (f.0 a), λ c. f.1 (g.1 c))

-- the number of an alternative is below how many there are
pub alternative_below : (g : Numbered) (n a : ℕ) (parts : Alternative) (alternatives : List Alternative) → alternative_of g n a ≡ Some parts → slice_get g n ≡ Some alternatives → a < length alternatives
alternative_below g n a parts alternatives e is =
    slice_get_within alternatives a parts (subst (λ (o : Option (List Alternative)). option_and_then (λ list. slice_get list a) o ≡ Some parts) is e)

pub alternative_there : (g : Numbered) (n a : ℕ) (alternatives : List Alternative) → slice_get g n ≡ Some alternatives → a < length alternatives → (parts : Alternative) × (alternative_of g n a ≡ Some parts)
alternative_there g n a alternatives is lt =
    (get_or alternatives a [], subst (λ (o : Option (List Alternative)). option_and_then (λ list. slice_get list a) o ≡ Some (get_or alternatives a [])) (sym is) (slice_get-get_or alternatives a [] lt))

pub below : (m k : ℕ) → m < k + 1 → (m < k) ⊎ (m ≡ k)
below m k lt = elim (eq-or-lt_of_le (omega (arith, lt))) [ inl e ↦ inr e | inr l ↦ inl l ]

-- one number more: what is counted below it, and at it
pub counted_next : (New Mid P : Type 0) (m k : ℕ) → Mid ↔ ((m < k) × P) → New ↔ (Mid ⊎ ((m ≡ k) × P)) → New ↔ ((m < k + 1) × P)
counted_next New Mid P m k before now = (
  λ h. elim (now.0 h) [
    | inl x ↦ let y = before.0 x in (omega (arith, y.0), y.1)
    | inr y ↦ (omega (arith, y.0), y.1)
  ],
  λ y. elim (below m k y.0) [
    | inl lt ↦ now.1 (inl (before.1 (lt, y.1)))
    | inr e ↦ now.1 (inr (e, y.1))
  ],
)

-- the same, beside what was there before
pub counted_more : (Old New Mid P : Type 0) (m k : ℕ) → Mid ↔ (Old ⊎ ((m < k) × P)) → New ↔ (Mid ⊎ ((m ≡ k) × P)) → New ↔ (Old ⊎ ((m < k + 1) × P))
counted_more Old New Mid P m k before now = (
  λ h. elim (now.0 h) [
    | inl x ↦ elim (before.0 x) [ inl o ↦ inl o | inr y ↦ inr (omega (arith, y.0), y.1) ]
    | inr y ↦ inr (omega (arith, y.0), y.1)
  ],
  λ h. elim h [
    | inl o ↦ now.1 (inl (before.1 (inl o)))
    | inr y ↦ elim (below m k y.0) [
      | inl lt ↦ now.1 (inl (before.1 (inr (lt, y.1))))
      | inr e ↦ now.1 (inr (e, y.1))
    ]
  ],
)

-- an alternative that begins so, with the ends of what is still to be read of it, is what can be taken of it
pub takes_fits : (g : Numbered) (w : List LexKind) (corner : Corner) (b a n j : ℕ) (parts rest : Alternative) (at : ℕ) (x : Taken)
    → IsBehind g w corner parts rest at → alternative_of g b a ≡ Some parts
    → Takes g w b a (HasPieces g w rest at) n j x ↔ ((x.production ≡ b) × (x.alternative ≡ a) × CanTake g w corner n j x)
takes_fits g w corner b a n j parts rest at x behind is = (
  λ t. (
    t.0,
    t.1,
    (
      subst (λ (v : ℕ). Fits g w corner v x.alternative x.end) (sym t.0) (subst (λ (v : ℕ). Fits g w corner b v x.end) (sym t.1) ((fits_begins g w corner b a x.end parts is).1 ((behind.1 x.end).1 t.2))),
      subst (λ (v : ℕ). CanGrow g w n j v x.end) (sym t.0) t.3,
    ),
  ),
  λ t. (t.0, t.1, (behind.1 x.end).0 ((fits_begins g w corner b a x.end parts is).0 (fitting t.0 t.1 t.2)), subst (λ (v : ℕ). CanGrow g w n j v x.end) t.0 t.2.1),
)
  where
    fitting : x.production ≡ b → x.alternative ≡ a → CanTake g w corner n j x → Fits g w corner b a x.end
    fitting p q can = subst (λ (v : ℕ). Fits g w corner v a x.end) p (subst (λ (v : ℕ). Fits g w corner x.production v x.end) q can.0)

-- where the parts don't begin so, nothing can be taken
pub takes_none : (g : Numbered) (w : List LexKind) (corner : Corner) (b a n j : ℕ) (parts : Alternative) (x : Taken)
    → BeginsNot g w corner parts → alternative_of g b a ≡ Some parts → x.production ≡ b → x.alternative ≡ a → CanTake g w corner n j x → ⊥
takes_none g w corner b a n j parts x none is p q can =
    none x.end ((fits_begins g w corner b a x.end parts is).0 (subst (λ (v : ℕ). Fits g w corner v a x.end) p (subst (λ (v : ℕ). Fits g w corner x.production v x.end) q can.0)))

-- what can be taken has a production and an alternative of it
pub take_within : (g : Numbered) (w : List LexKind) (corner : Corner) (n j : ℕ) (x : Taken) → CanTake g w corner n j x → x.production < length g
take_within g w corner n j x can = let y = fits_some g w corner x.production x.alternative x.end can.0 in alternative_within g x.production x.alternative y.0 y.1

pub take_below : (g : Numbered) (w : List LexKind) (corner : Corner) (b n j : ℕ) (alternatives : List Alternative) (x : Taken)
    → slice_get g b ≡ Some alternatives → x.production ≡ b → CanTake g w corner n j x → x.alternative < length alternatives
take_below g w corner b n j alternatives x is p can =
    let y = fits_some g w corner x.production x.alternative x.end can.0 in
    alternative_below g b x.alternative y.0 alternatives (subst (λ (v : ℕ). alternative_of g v x.alternative ≡ Some y.0) p y.1) is

-- the choices of a growth that may stay where it is
pub stay_choice : (g : Numbered) (w : List LexKind) (n j c k : ℕ) (found : List Taken) (only : Bool)
    → ((x : Taken) → Contains found x ↔ CanTake g w (Branch c k) n j x) → c ≡ n → k ≡ j → only ≡ (length found == 0)
    → IsChoice (CanStep g w n j c k) (record { first = None; only = only })
stay_choice g w n j c k found only exact here there is = (
  (here, there),
  λ yes x fits. alone x (empty_list found (sym yes ∙ is)) fits,
  λ no. let lt = some_list found (sym no ∙ is) in
      let x : Taken = get_or found 0 (taken 0 0 0) in
      (Some x, (exact x).0 (Contains-get_or found 0 (taken 0 0 0) lt), λ e. absurd (cc)),
)
  where
    alone : (x : Option Taken) → found ≡ [] → CanStep g w n j c k x → x ≡ None
    alone None empty fits = refl
    alone (Some x) empty fits = absurd (not_in_nothing found x empty ((exact x).1 fits))

-- the choices of a growth that can't
pub step_choice : (g : Numbered) (w : List LexKind) (n j c k : ℕ) (ch : Choice Taken) → IsChoice (CanTake g w (Branch c k) n j) ch → ((c ≡ n) × (k ≡ j) → ⊥)
    → IsChoice (CanStep g w n j c k) (record { first = Some ch.first; only = ch.only })
step_choice g w n j c k ch h apart = (
  h.0,
  λ yes x fits. first x yes fits,
  λ no. let y = h.2 no in (Some y.0, y.1, λ e. y.2 (let q = e in cc)),
)
  where
    first : (x : Option Taken) → ch.only ≡ true → CanStep g w n j c k x → x ≡ Some ch.first
    first None e fits = absurd (apart fits)
    first (Some x) e fits = ap (λ (y : Taken). Some y) (h.1 e x fits)

-- words lead from a place to one alone
words_lead : (g : Numbered) (w : List LexKind) (parts : Alternative) → AreWords parts → (k e : ℕ) → HasPieces g w parts k e → k + length parts ≡ e
words_lead g w [] all k e h = omega (arith, (no_part g w k e).0 h)
words_lead g w (part ∷ rest) all k e h =
    let x = (first_part g w part rest k e).0 h in
    let word = all 0 (omega arith) in
    let same : part ≡ Word word.0 = (let s : Some part ≡ Some (Word word.0) = word.1 in cc) in
    let step = subst (λ (p : Part). Leads g w p k x.0) same x.1 in
    let more = words_lead g w rest (λ j lt. all (suc j) (omega (arith, lt))) x.0 e x.2 in
    omega (arith, step.1, more)

-- the end of a phrase with words alone behind it
pub last_cut : (g : Numbered) (w : List LexKind) (m : ℕ) (rest : Alternative) (i j : ℕ) → AreWords rest → ((h : ℕ) × Cuts g w m rest i j h) → IsChoice (Cuts g w m rest i j) (record { first = j - length rest; only = true })
last_cut g w m rest i j words some = (
  subst (λ (h : ℕ). Cuts g w m rest i j h) (at some.0 some.1) some.1,
  λ yes x cut. at x cut,
  λ no. absurd (cc),
)
  where
    at : (h : ℕ) → Cuts g w m rest i j h → h ≡ j - length rest
    at h cut = omega (arith, words_lead g w rest words h j cut.1)

-- there is room for words that lead to a place
pub words_within : (g : Numbered) (w : List LexKind) (m : ℕ) (rest : Alternative) (i j : ℕ) → AreWords rest → ((h : ℕ) × Cuts g w m rest i j h) → length rest ≤ j
words_within g w m rest i j words some = omega (arith, words_lead g w rest words some.0 j some.1.1)

-- what is found so far: nothing, or the one that fits
abbrev pub IsOnly : Option ℕ → (ℕ → Type 0) → Type 0
IsOnly None P = (h : ℕ) → P h → ⊥
IsOnly (Some f) P = P f × ((h : ℕ) → P h → h ≡ f)

pub only_same : (found : Option ℕ) (P Q : ℕ → Type 0) → ((h : ℕ) → P h ↔ Q h) → IsOnly found P → IsOnly found Q
only_same None P Q same only = λ h q. only h ((same h).1 q)
only_same (Some f) P Q same only = ((same f).0 only.0, λ h q. only.1 h ((same h).1 q))

-- one place more that doesn't fit, or fits
pub among_without : (g : Numbered) (w : List LexKind) (rest : Alternative) (j : ℕ) (places : List ℕ) (e : ℕ) → (HasPieces g w rest e j → ⊥) → (h : ℕ) → CutsAmong g w rest j places h ↔ CutsAmong g w rest j (places ++ e ∷ []) h
among_without g w rest j places e none h = (
  λ x. ((pushed places e h).1 (inl x.0), x.1),
  λ x. elim ((pushed places e h).0 x.0) [
    | inl there ↦ (there, x.1)
    | inr q ↦ absurd (none (subst (λ (v : ℕ). HasPieces g w rest v j) (sym q) x.1))
  ],
)

pub only_first_one : (g : Numbered) (w : List LexKind) (rest : Alternative) (j : ℕ) (places : List ℕ) (e : ℕ) → HasPieces g w rest e j → IsOnly None (CutsAmong g w rest j places) → IsOnly (Some e) (CutsAmong g w rest j (places ++ e ∷ []))
only_first_one g w rest j places e has only = (
  ((pushed places e e).1 (inr refl), has),
  λ h x. elim ((pushed places e h).0 x.0) [ inl there ↦ absurd (only h (there, x.1)) | inr q ↦ sym q ],
)

pub only_again : (g : Numbered) (w : List LexKind) (rest : Alternative) (j : ℕ) (places : List ℕ) (e f : ℕ) → f ≡ e → IsOnly (Some f) (CutsAmong g w rest j places) → IsOnly (Some f) (CutsAmong g w rest j (places ++ e ∷ []))
only_again g w rest j places e f same only = (
  ((pushed places e f).1 (inl only.0.0), only.0.1),
  λ h x. elim ((pushed places e h).0 x.0) [ inl there ↦ only.1 h (there, x.1) | inr q ↦ sym q ∙ sym same ],
)

-- the one that is found
pub only_choice : (P : ℕ → Type 0) (found : Option ℕ) (d r : ℕ) → r ≡ unwrap_or found d → IsOnly found P → ((h : ℕ) × P h) → IsChoice P (record { first = r; only = true })
only_choice P None d r is only some = absurd (only some.0 some.1)
only_choice P (Some f) d r is only some = (
  subst P (sym is) only.0,
  λ e x px. only.1 x px ∙ sym is,
  λ e. absurd (cc),
)

-- one that is found and another
pub two_found : (P : ℕ → Type 0) (first other : ℕ) → P first → P other → (first ≡ other → ⊥) → IsChoice P (record { first = first; only = false })
two_found P first other pf po apart = (pf, λ e. absurd (cc), λ e. (other, po, λ same. apart (sym same)))

-- what is among the first places is among all
pub in_all : (g : Numbered) (w : List LexKind) (rest : Alternative) (j : ℕ) (places : List ℕ) (k h : ℕ) → CutsAmong g w rest j (take k places) h → CutsAmong g w rest j places h
in_all g w rest j places k h x = (subst (λ (l : List ℕ). Contains l h) (take-append-drop k places) (Contains-append_left (take k places) (drop k places) h x.0), x.1)

-- what grows into nothing but itself: it is of another nonterminal, doesn't lead to the end, or is the one
pub whole_other : (g : Numbered) (w : List LexKind) (b a n j : ℕ) (Ends : ℕ → Type 0) (found : List Taken) (x : Taken) → ((j k : ℕ) → CanGrow g w n j b k → (b ≡ n) × (k ≡ j)) → (b ≡ n → ⊥)
    → Contains found x ↔ (Contains found x ⊎ Takes g w b a Ends n j x)
whole_other g w b a n j Ends found x stays apart = (
  λ h. inl h,
  λ h. elim h [ inl o ↦ o | inr t ↦ absurd (apart (stays j x.end t.3).0) ],
)

pub whole_none : (g : Numbered) (w : List LexKind) (b a n j : ℕ) (Ends : ℕ → Type 0) (found : List Taken) (x : Taken) → ((j k : ℕ) → CanGrow g w n j b k → (b ≡ n) × (k ≡ j)) → (Ends j → ⊥)
    → Contains found x ↔ (Contains found x ⊎ Takes g w b a Ends n j x)
whole_none g w b a n j Ends found x stays none = (
  λ h. inl h,
  λ h. elim h [ inl o ↦ o | inr t ↦ absurd (none (subst Ends (stays j x.end t.3).1 t.2)) ],
)

pub whole_one : (g : Numbered) (w : List LexKind) (b a n j : ℕ) (Ends : ℕ → Type 0) (old new : List Taken) (x : Taken) → ((j k : ℕ) → CanGrow g w n j b k → (b ≡ n) × (k ≡ j)) → b ≡ n → Ends j → new ≡ old ++ taken b a j ∷ []
    → Contains new x ↔ (Contains old x ⊎ Takes g w b a Ends n j x)
whole_one g w b a n j Ends old new x stays same ends more = (
  λ h. elim ((pushed_to old new (taken b a j) x more).0 h) [
    | inl o ↦ inl o
    | inr q ↦ inr (subst (λ (y : Taken). Takes g w b a Ends n j y) q (refl, refl, ends, (Stay, (same, refl))))
  ],
  λ h. elim h [
    | inl o ↦ (pushed_to old new (taken b a j) x more).1 (inl o)
    | inr t ↦ (pushed_to old new (taken b a j) x more).1 (inr (taken_same (taken b a j) x (sym t.0) (sym t.1) (sym (stays j x.end t.3).1)))
  ],
)
