-- Lists of rows, entry by entry.
use Rattle.std.proofs.Common.{◌≡◌, ◌⊎◌, inl, inr, ℕ, zero, suc, ◌*◌, ◌<◌, List, [], ◌∷◌, ◌++◌, length, get_or, set, sym, arith, ◌∙◌}
use Rattle.std.specs.Prelude.{◌↔◌}
use Rattle.chart_parse.specs.declared.rows.Entry.{Entry}
use Rattle.chart_parse.specs.Rows.{Has, HasMore, Lists, AreWide}
use Rattle.chart_parse.specs.Places.{HaveRoom}

pub wide_at : (width : ℕ) (xs : List Entry) (i : ℕ) (d : Entry) → i < length xs → AreWide width xs → length (get_or xs i d).row.now ≡ width
wide_at width [] i d lt h = absurd (omega arith)
wide_at width (x ∷ xs) zero d lt h = h.0
wide_at width (x ∷ xs) (suc i) d lt h = wide_at width xs i d (omega arith) h.1

pub set_wide : (width : ℕ) (xs : List Entry) (i : ℕ) (y : Entry) → length y.row.now ≡ width → AreWide width xs → AreWide width (set xs i y)
set_wide width [] i y e h = tt
set_wide width (x ∷ xs) zero y e h = (e, h.1)
set_wide width (x ∷ xs) (suc i) y e h = (h.0, set_wide width xs i y e h.1)

pub push_wide : (width : ℕ) (xs : List Entry) (y : Entry) → length y.row.now ≡ width → AreWide width xs → AreWide width (xs ++ y ∷ [])
push_wide width [] y e h = (e, tt)
push_wide width (x ∷ xs) y e h = (h.0, push_wide width xs y e h.1)

-- the entry at the place takes a row of both
pub set_lists : (xs : List Entry) (i : ℕ) (d x y : Entry) (n e : ℕ) → i < length xs → (get_or xs i d).nonterm ≡ x.nonterm → y.nonterm ≡ x.nonterm → HasMore (get_or xs i d).row.now x.row.now y.row.now e → Lists (set xs i y) n e ↔ (Lists xs n e ⊎ ((x.nonterm ≡ n) × Has x.row.now e))
set_lists [] i d x y n e lt p q h = absurd (omega arith)
set_lists (z ∷ zs) zero d x y n e lt p q h = (
  λ a. elim a [
    | inl b ↦ elim (h.0 b.1) [ inl c ↦ inl (inl (p ∙ sym q ∙ b.0, c)) | inr c ↦ inr (sym q ∙ b.0, c) ]
    | inr b ↦ inl (inr b)
  ],
  λ a. elim a [
    | inl b ↦ elim b [ inl c ↦ inl (q ∙ sym p ∙ c.0, h.1 (inl c.1)) | inr c ↦ inr c ]
    | inr b ↦ inl (q ∙ b.0, h.1 (inr b.1))
  ],
)
set_lists (z ∷ zs) (suc i) d x y n e lt p q h =
    let r = set_lists zs i d x y n e (omega arith) p q h in (
      λ a. elim a [
        | inl b ↦ inl (inl b)
        | inr b ↦ elim (r.0 b) [ inl c ↦ inl (inr c) | inr c ↦ inr c ]
      ],
      λ a. elim a [
        | inl b ↦ elim b [ inl c ↦ inl c | inr c ↦ inr (r.1 (inl c)) ]
        | inr b ↦ inr (r.1 (inr b))
      ],
    )

pub push_lists : (xs : List Entry) (x : Entry) (n e : ℕ) → Lists (xs ++ x ∷ []) n e ↔ (Lists xs n e ⊎ ((x.nonterm ≡ n) × Has x.row.now e))
push_lists [] x n e = (λ a. elim a [ inl b ↦ inr b | inr b ↦ absurd b ], λ a. elim a [ inl b ↦ absurd b | inr b ↦ inl b ])
push_lists (z ∷ zs) x n e =
    let r = push_lists zs x n e in (
      λ a. elim a [
        | inl b ↦ inl (inl b)
        | inr b ↦ elim (r.0 b) [ inl c ↦ inl (inr c) | inr c ↦ inr c ]
      ],
      λ a. elim a [
        | inl b ↦ elim b [ inl c ↦ inl c | inr c ↦ inr (r.1 (inl c)) ]
        | inr b ↦ inr (r.1 (inr b))
      ],
    )

-- the entry at the place has the row already
pub same_lists : (xs : List Entry) (i : ℕ) (d x : Entry) (n e : ℕ) → i < length xs → (get_or xs i d).nonterm ≡ x.nonterm → HasMore (get_or xs i d).row.now x.row.now (get_or xs i d).row.now e → Lists xs n e ↔ (Lists xs n e ⊎ ((x.nonterm ≡ n) × Has x.row.now e))
same_lists [] i d x n e lt p h = absurd (omega arith)
same_lists (z ∷ zs) zero d x n e lt p h = (λ a. inl a, λ a. elim a [ inl b ↦ b | inr b ↦ inl (p ∙ b.0, h.1 (inr b.1)) ])
same_lists (z ∷ zs) (suc i) d x n e lt p h = let r = same_lists zs i d x n e (omega arith) p h in (λ a. inl a, λ a. elim a [ inl b ↦ b | inr b ↦ inr (r.1 (inr b)) ])

-- an entry at a place of the list
pub listed_at : (xs : List Entry) (i : ℕ) (d : Entry) (n e : ℕ) → i < length xs → (get_or xs i d).nonterm ≡ n → Has (get_or xs i d).row.now e → Lists xs n e
listed_at [] i d n e lt p h = absurd (omega arith)
listed_at (x ∷ xs) zero d n e lt p h = inl (p, h)
listed_at (x ∷ xs) (suc i) d n e lt p h = inr (listed_at xs i d n e (omega arith) p h)

pub room_at : (e : ℕ) (xs : List Entry) (i : ℕ) (d : Entry) → i < length xs → HaveRoom e xs → e < 64 * length (get_or xs i d).row.now
room_at e [] i d lt h = absurd (omega arith)
room_at e (x ∷ xs) zero d lt h = h.0
room_at e (x ∷ xs) (suc i) d lt h = room_at e xs i d (omega arith) h.1

pub wide_room : (width e : ℕ) (xs : List Entry) → e < 64 * width → AreWide width xs → HaveRoom e xs
wide_room width e [] lt h = tt
wide_room width e (x ∷ xs) lt h = (omega (arith, h.0, lt), wide_room width e xs lt h.1)
