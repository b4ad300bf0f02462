-- The numbers of rows, put into a list word by word and bit by bit.
use Rattle.std.proofs.Common.{◌≡◌, ◌≢◌, ◌⊎◌, inl, inr, ℕ, ◌+◌, ◌-◌, ◌*◌, ◌/◌, ◌%◌, ◌<◌, List, Contains, ◌∙◌, sym, ap, arith}
use Rattle.std.specs.Prelude.{◌↔◌}
use Rattle.std.specs.Int.{bit_at}
use Rattle.std.proofs.lemmas.Bool.Decides.{eqb_tells}
use Rattle.std.proofs.lemmas.Nat.Bits.{bit_at-zero}
use Rattle.chart_parse.specs.Rows.{IsBitOf}

-- beside some numbers the list has those of a word, below a bound, whose bits aren't left
abbrev pub Collects : (below word first : ℕ) (old now : List ℕ) (left e : ℕ) → Type 0
Collects below word first old now left e = Contains now e ↔ (Contains old e ⊎ ((e < below) × IsBitOf word first e × (IsBitOf left first e → ⊥)))

-- the bits that are left are bits of the word
abbrev pub IsLeft : (word left : ℕ) → Type 0
IsLeft word left = (i : ℕ) → i < 64 → bit_at left i ≡ 1 → bit_at word i ≡ 1

-- all bits are left
pub collects_none : (below word first : ℕ) (old : List ℕ) (e : ℕ) → Collects below word first old old word e
collects_none below word first old e = (λ h. inl h, λ h. elim h [ inl o ↦ o | inr x ↦ absurd (x.2 x.1) ])

-- one bit fewer is left
pub collects_bit : (below word first : ℕ) (old mid new : List ℕ) (left less b e : ℕ) → IsLeft word left → b < 64 → bit_at left b ≡ 1
    → bit_at less b ≡ 0 → ((i : ℕ) → i < 64 → i ≢ b → bit_at less i ≡ bit_at left i)
    → (Contains new e ↔ (Contains mid e ⊎ ((first + b < below) × (first + b ≡ e)))) → Collects below word first old mid left e → Collects below word first old new less e
collects_bit below word first old mid new left less b e within small here cleared others add h = (
  λ y. elim (add.0 y) [
    | inl m ↦ elim (h.0 m) [
      | inl o ↦ inl o
      | inr x ↦ inr (x.0, x.1, λ z. x.2 (z.0, z.1, still z))
    ]
    | inr s ↦ inr (omega (arith, s.0, s.1), (omega (arith, s.1), omega (arith, s.1, small), ap (bit_at word) (place s.1) ∙ within b small here), λ z. gone s.1 z)
  ],
  λ y. elim y [
    | inl o ↦ add.1 (inl (h.1 (inl o)))
    | inr x ↦ elim (eqb_tells (first + b) e) [
      | inl s ↦ add.1 (inr (omega (arith, s.1, x.0), s.1))
      | inr d ↦ add.1 (inl (h.1 (inr (x.0, x.1, λ z. x.2 (z.0, z.1, others (e - first) (omega (arith, z.0, z.1)) (λ q. d.1 (omega (arith, q, z.0))) ∙ z.2)))))
    ]
  ],
)
  where
    place : first + b ≡ e → e - first ≡ b
    place s = omega (arith, s)

    gone : first + b ≡ e → IsBitOf less first e → ⊥
    gone s z = absurd (let zero = sym cleared ∙ ap (bit_at less) (sym (place s)) ∙ z.2 in omega (arith, zero))

    still : IsBitOf less first e → bit_at left (e - first) ≡ 1
    still z = elim (eqb_tells (first + b) e) [
      | inl s ↦ absurd (gone s.1 z)
      | inr d ↦ sym (others (e - first) (omega (arith, z.0, z.1)) (λ q. d.1 (omega (arith, q, z.0)))) ∙ z.2
    ]

-- fewer bits are left
pub left_less : (word left less b : ℕ) → IsLeft word left → bit_at less b ≡ 0 → ((i : ℕ) → i < 64 → i ≢ b → bit_at less i ≡ bit_at left i) → IsLeft word less
left_less word left less b within cleared others i small h = elim (eqb_tells i b) [
  | inl s ↦ absurd (let zero = sym cleared ∙ ap (bit_at less) (sym s.1) ∙ h in omega (arith, zero))
  | inr d ↦ within i small (sym (others i small d.1) ∙ h)
]

-- no bit is left
pub collects_all : (below word first : ℕ) (old now : List ℕ) (left e : ℕ) → left ≡ 0 → Collects below word first old now left e → Contains now e ↔ (Contains old e ⊎ ((e < below) × IsBitOf word first e))
collects_all below word first old now left e none h = (
  λ y. elim (h.0 y) [ inl o ↦ inl o | inr x ↦ inr (x.0, x.1) ],
  λ y. elim y [
    | inl o ↦ h.1 (inl o)
    | inr x ↦ h.1 (inr (x.0, x.1, λ z. absurd (let zero = sym (bit_at-zero (e - first)) ∙ ap (λ n. bit_at n (e - first)) (sym none) ∙ z.2 in omega (arith, zero))))
  ],
)

-- one word more of a row: wanted are the numbers whose bits the word has
pub word_more : (wanted : ℕ → Type 0) (old mid new : List ℕ) (below word k e : ℕ) → (e / 64 ≡ k → wanted e ↔ ((e < below) × (bit_at word (e % 64) ≡ 1)))
    → (Contains mid e ↔ (Contains old e ⊎ ((e < 64 * k) × wanted e)))
    → (Contains new e ↔ (Contains mid e ⊎ ((e < below) × IsBitOf word (64 * k) e)))
    → Contains new e ↔ (Contains old e ⊎ ((e < 64 * (k + 1)) × wanted e))
word_more wanted old mid new below word k e means a b = (
  λ y. elim (b.0 y) [
    | inl m ↦ elim (a.0 m) [ inl o ↦ inl o | inr q ↦ inr ((let lt = q.0 in omega arith), q.1) ]
    | inr q ↦
        let lo = q.1.0 in
        let hi = q.1.1 in
        let at : e / 64 ≡ k = omega arith in
        inr (omega (arith, hi), (means at).1 (q.0, ap (bit_at word) (bit at) ∙ q.1.2))
  ],
  λ y. elim y [
    | inl o ↦ b.1 (inl (a.1 (inl o)))
    | inr q ↦ elim (eqb_tells (e / 64) k) [
      | inl s ↦
          let x = (means s.1).0 q.1 in
          b.1 (inr (x.0, (omega (arith, s.1), omega (arith, s.1), ap (bit_at word) (sym (bit s.1)) ∙ x.1)))
      | inr d ↦ b.1 (inl (a.1 (inr ((let lt = q.0 in omega (arith, d.1)), q.1))))
    ]
  ],
)
  where
    bit : e / 64 ≡ k → e % 64 ≡ e - 64 * k
    bit at = omega (arith, at)
