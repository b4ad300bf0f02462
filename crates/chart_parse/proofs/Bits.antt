-- Bits of words.
use Rattle.std.proofs.Common.{◌≡◌, ◌≢◌, max, min, ◌-◌, ◌⊎◌, inl, inr, ℕ, zero, suc, ◌*◌, ◌/◌, ◌%◌, ◌^◌, ◌<◌, List, [], length, slice_set, get_or, get_or-set_same, get_or-set_other, eqb, true, ◌∙◌, sym, ap, subst, refl, arith, eq-eqb, eqb-true}
use Rattle.std.proofs.lemmas.Bool.Decides.{eqb_tells}
use Rattle.std.proofs.lemmas.Nat.Bits.{bit_at_and, bit_at_not, bit_at_or, bit_at-zero, shr_and_one, bit_at_set_same, bit_at_set_other}
use Rattle.std.specs.Prelude.{bit_and, bit_or, ◌↔◌, replicate}
use Rattle.std.specs.Int.{bit_at, bit_not, w64}
use Rattle.chart_parse.specs.Rows.{Has, HasMore}

pub has_tests : (row : List ℕ) (e : ℕ) → (eqb (bit_and (get_or row (e / 64) 0 / 2 ^ (e % 64)) 1) 1 ≡ true) ↔ Has row e
unfolding Has
has_tests row e = rw shr_and_one (eqb-true _ 1, eq-eqb _ 1)

one_of : (x y m : ℕ) → x < 2 → y < 2 → m ≡ max x y → (m ≡ 1) ↔ ((x ≡ 1) ⊎ (y ≡ 1))
one_of x y m a b e = (
  λ h. elim (eqb_tells x 1) [ inl p ↦ inl p.1 | inr p ↦ inr (let d : x ≢ 1 = p.1 in omega (arith, e, h)) ],
  λ h. elim h [ inl p ↦ omega (arith, e, p) | inr p ↦ omega (arith, e, p) ],
)

bit_small : (n i : ℕ) → bit_at n i < 2
bit_small n i = omega arith

pub joined : (old added new : List ℕ) (n : ℕ) → ((j : ℕ) → j < n → get_or new j 0 ≡ bit_or (get_or old j 0) (get_or added j 0)) → (e : ℕ) → e < 64 * n → HasMore old added new e
unfolding Has
joined old added new n each e within =
    one_of (bit_at (get_or old (e / 64) 0) (e % 64)) (bit_at (get_or added (e / 64) 0) (e % 64)) (bit_at (get_or new (e / 64) 0) (e % 64)) (bit_small _ _) (bit_small _ _)
    (ap (λ x. bit_at x (e % 64)) (each (e / 64) (omega arith)) ∙ bit_at_or _ _ (e % 64))

-- the word with one more bit
abbrev with_bit : ℕ → ℕ → ℕ
with_bit n k = bit_or n (1 * 2 ^ k % 18446744073709551616)

pub inserted : (row : List ℕ) (e : ℕ) → e < 64 * length row → (d : ℕ) → Has (slice_set row (e / 64) (with_bit (get_or row (e / 64) 0) (e % 64))) d ↔ (Has row d ⊎ (d ≡ e))
unfolding Has
inserted row e within d =
    let small : e % 64 < 64 = omega arith in
    let inside : e / 64 < length row = omega arith in
    let word : ℕ = with_bit (get_or row (e / 64) 0) (e % 64) in
    elim (eqb_tells (d / 64) (e / 64)) [
      | inr other ↦
          let same : get_or (slice_set row (e / 64) word) (d / 64) 0 ≡ get_or row (d / 64) 0 = (let ne : d / 64 ≢ e / 64 = other.1 in rw get_or-set_other refl) in (
            λ h. inl (ap (λ x. bit_at x (d % 64)) (sym same) ∙ h),
            λ h. elim h [ inl old ↦ ap (λ x. bit_at x (d % 64)) same ∙ old | inr q ↦ absurd (other.1 (ap (λ x. x / 64) q)) ],
          )
      | inl s ↦
          let here : get_or (slice_set row (e / 64) word) (d / 64) 0 ≡ word = ap (λ x. get_or (slice_set row (e / 64) word) x 0) s.1 ∙ (rw get_or-set_same refl) in
          let was : get_or row (d / 64) 0 ≡ get_or row (e / 64) 0 = ap (λ x. get_or row x 0) s.1 in
          elim (eqb_tells (d % 64) (e % 64)) [
            | inl t ↦ (
              λ _. inr (omega (arith, s.1, t.1)),
              λ _. ap (λ x. bit_at x (d % 64)) here ∙ ap (λ x. bit_at word x) t.1 ∙ bit_at_set_same w64 (get_or row (e / 64) 0) (e % 64) small,
            )
            | inr t ↦
                let kept : bit_at word (d % 64) ≡ bit_at (get_or row (e / 64) 0) (d % 64) = bit_at_set_other w64 (get_or row (e / 64) 0) (e % 64) small (d % 64) t.1 in (
                  λ h. inl (ap (λ x. bit_at x (d % 64)) was ∙ sym kept ∙ sym (ap (λ x. bit_at x (d % 64)) here) ∙ h),
                  λ h. elim h [
                    | inl old ↦ ap (λ x. bit_at x (d % 64)) here ∙ kept ∙ sym (ap (λ x. bit_at x (d % 64)) was) ∙ old
                    | inr q ↦ absurd (t.1 (ap (λ x. x % 64) q))
                  ],
                )
          ]
    ]

zeros : (n k : ℕ) → ◌≡◌ {A = ℕ} (get_or (replicate n 0) k 0) 0
zeros zero k = refl
zeros (suc n) zero = refl
zeros (suc n) (suc k) = zeros n k

-- words that are all 0 have no number
pub none_there : (n e : ℕ) → Has (replicate n 0) e → ⊥
unfolding Has
none_there n e h = absurd (let z : bit_at (get_or (replicate n 0) (e / 64) 0) (e % 64) ≡ 0 = ap (λ x. bit_at x (e % 64)) (zeros n (e / 64)) ∙ bit_at-zero (e % 64) in omega (arith, z, h))

pub none_in : (e : ℕ) → Has [] e → ⊥
unfolding Has
none_in e h = absurd (let z : bit_at (get_or [] (e / 64) 0) (e % 64) ≡ 0 = bit_at-zero (e % 64) in omega (arith, z, h))

-- a word to which a row adds nothing has the bits of that row
pub covered : (row other : List ℕ) (k e : ℕ) → bit_or (get_or row k 0) (get_or other k 0) ≡ get_or other k 0 → e / 64 ≡ k → Has row e → Has other e
unfolding Has
covered row other k e same at h =
    let word : bit_or (get_or row (e / 64) 0) (get_or other (e / 64) 0) ≡ get_or other (e / 64) 0 = subst (λ (j : ℕ). bit_or (get_or row j 0) (get_or other j 0) ≡ get_or other j 0) (sym at) same in
    (one_of (bit_at (get_or row (e / 64) 0) (e % 64)) (bit_at (get_or other (e / 64) 0) (e % 64)) (bit_at (get_or other (e / 64) 0) (e % 64)) (bit_small _ _) (bit_small _ _)
    (ap (λ x. bit_at x (e % 64)) (sym word) ∙ bit_at_or _ _ (e % 64))).1 (inl h)

pub has_or_not : (row : List ℕ) (e : ℕ) → Has row e ⊎ (Has row e → ⊥)
unfolding Has
has_or_not row e = elim (eqb_tells (bit_at (get_or row (e / 64) 0) (e % 64)) 1) [ inl h ↦ inl h.1 | inr d ↦ inr d.1 ]

-- whether a row has a number, by the word of its bit
pub has_word : (row : List ℕ) (k e : ℕ) → e / 64 ≡ k → Has row e ↔ (bit_at (get_or row k 0) (e % 64) ≡ 1)
unfolding Has
has_word row k e at = (
  λ h. subst (λ (j : ℕ). bit_at (get_or row j 0) (e % 64) ≡ 1) at h,
  λ h. subst (λ (j : ℕ). bit_at (get_or row j 0) (e % 64) ≡ 1) (sym at) h,
)

one_not : (x y n m : ℕ) → x < 2 → y < 2 → n ≡ 1 - y → m ≡ min x n → ((x ≡ 1) × (y ≡ 1 → ⊥)) ↔ (m ≡ 1)
one_not x y n m a b c d = (
  λ h. elim (eqb_tells y 1) [ inl s ↦ absurd (h.1 s.1) | inr s ↦ omega (arith, h.0, s.1, a, b, c, d) ],
  λ h. (omega (arith, a, b, c, d, h), λ s. absurd (omega (arith, a, b, c, d, h, s))),
)

-- the bits of a word that another doesn't have
pub extra_word : (row other : List ℕ) (k e : ℕ) → e / 64 ≡ k → get_or other k 0 < 2 ^ 64
    → (Has row e × (Has other e → ⊥)) ↔ (bit_at (bit_and (get_or row k 0) (bit_not w64 (get_or other k 0))) (e % 64) ≡ 1)
extra_word row other k e at fits =
    let r = has_word row k e at in
    let o = has_word other k e at in
    let q = one_not (bit_at (get_or row k 0) (e % 64)) (bit_at (get_or other k 0) (e % 64)) (bit_at (bit_not w64 (get_or other k 0)) (e % 64)) (bit_at (bit_and (get_or row k 0) (bit_not w64 (get_or other k 0))) (e % 64)) (bit_small _ _) (bit_small _ _)
    (bit_at_not w64 (get_or other k 0) (e % 64) fits (omega arith)) (bit_at_and _ _ (e % 64)) in (
      λ h. q.0 (r.0 h.0, λ s. h.1 (o.1 s)),
      λ h. let x = q.1 h in (r.1 x.0, λ s. x.1 (o.0 s)),
    )
