-- The next integer is taken from what is left of the input, where eight bytes are left or more.
use Rattle.std.proofs.Common.{◌≡◌, ℕ, ◌^◌, ◌<◌, ◌≤◌, ℤ, List, [], ◌∷◌, take, drop, length, FitsSigned, w64, refl, sym, ap, ◌∙◌, subst, arith}
use Rattle.std.specs.Int.{cast_signed, from_le_bytes}
use Rattle.std.proofs.lemmas.Int.{of_z-to_z}
use Rattle.std.proofs.Math.Facts.{sfits_to_z}
use Rattle.rv_code.specs.Bytes.{number_of}
use Rattle.rv_asm.specs.Conventions.{integer_word}
use Rattle.action_terms.specs.Performances.{records}
use Rattle.rv_codegen.proofs.InputLeft.{Left}

-- the first eight bytes that are left are those of an integer, and the bytes behind them are those of the others
pub record IsTaken (bytes : List ℕ) (n : ℤ) (ns : List ℤ) : Type 0 where
  pub many : 8 ≤ length bytes
  pub word : number_of (take 8 bytes) ≡ integer_word n
  pub fits : FitsSigned w64 n
  pub rest : Left (drop 8 bytes) ns

module _ (b0 b1 b2 b3 b4 b5 b6 b7 : ℕ) where
  abbrev eight : List ℕ
  eight = b0 ∷ b1 ∷ b2 ∷ b3 ∷ b4 ∷ b5 ∷ b6 ∷ b7 ∷ []

  eight-number : number_of eight ≡ from_le_bytes w64 eight
  unfolding number_of
  eight-number = omega arith

  pub first-taken : (bytes : List ℕ) (n : ℤ) (ns : List ℤ) → Left (b0 ∷ b1 ∷ b2 ∷ b3 ∷ b4 ∷ b5 ∷ b6 ∷ b7 ∷ bytes) (n ∷ ns) → IsTaken (b0 ∷ b1 ∷ b2 ∷ b3 ∷ b4 ∷ b5 ∷ b6 ∷ b7 ∷ bytes) n ns
  first-taken bytes n ns h =
      let v = from_le_bytes w64 eight in
      let small = h.1 in
      let p0 = small.0 in
      let p1 = small.1.0 in
      let p2 = small.1.1.0 in
      let p3 = small.1.1.1.0 in
      let p4 = small.1.1.1.1.0 in
      let p5 = small.1.1.1.1.1.0 in
      let p6 = small.1.1.1.1.1.1.0 in
      let p7 = small.1.1.1.1.1.1.1.0 in
      let below : v < 2 ^ 64 = omega (arith, p0, p1, p2, p3, p4, p5, p6, p7) in
      let both = h.0 in
      let head : cast_signed w64 v ≡ n = cc in
      let tail : records bytes ≡ ns = cc in
      record {
        many = omega arith;
        word = eight-number ∙ sym (of_z-to_z w64 v below) ∙ ap integer_word head;
        fits = subst (FitsSigned w64) head (sfits_to_z {w = w64} {n = v} (record { fits = below }));
        rest = (tail, small.1.1.1.1.1.1.1.1);
      }

pub left-taken : (bytes : List ℕ) (n : ℤ) (ns : List ℤ) → Left bytes (n ∷ ns) → IsTaken bytes n ns
left-taken (b0 ∷ b1 ∷ b2 ∷ b3 ∷ b4 ∷ b5 ∷ b6 ∷ b7 ∷ bytes) n ns h = first-taken b0 b1 b2 b3 b4 b5 b6 b7 bytes n ns h
left-taken [] n ns h = absurd (let e = h.0 in cc)
left-taken (b0 ∷ []) n ns h = absurd (let e = h.0 in cc)
left-taken (b0 ∷ b1 ∷ []) n ns h = absurd (let e = h.0 in cc)
left-taken (b0 ∷ b1 ∷ b2 ∷ []) n ns h = absurd (let e = h.0 in cc)
left-taken (b0 ∷ b1 ∷ b2 ∷ b3 ∷ []) n ns h = absurd (let e = h.0 in cc)
left-taken (b0 ∷ b1 ∷ b2 ∷ b3 ∷ b4 ∷ []) n ns h = absurd (let e = h.0 in cc)
left-taken (b0 ∷ b1 ∷ b2 ∷ b3 ∷ b4 ∷ b5 ∷ []) n ns h = absurd (let e = h.0 in cc)
left-taken (b0 ∷ b1 ∷ b2 ∷ b3 ∷ b4 ∷ b5 ∷ b6 ∷ []) n ns h = absurd (let e = h.0 in cc)

-- where no integer is left, fewer bytes are
pub none-left : (bytes : List ℕ) → Left bytes [] → length bytes < 8
none-left (b0 ∷ b1 ∷ b2 ∷ b3 ∷ b4 ∷ b5 ∷ b6 ∷ b7 ∷ bytes) h = absurd (let e = h.0 in cc)
none-left [] h = omega arith
none-left (b0 ∷ []) h = omega arith
none-left (b0 ∷ b1 ∷ []) h = omega arith
none-left (b0 ∷ b1 ∷ b2 ∷ []) h = omega arith
none-left (b0 ∷ b1 ∷ b2 ∷ b3 ∷ []) h = omega arith
none-left (b0 ∷ b1 ∷ b2 ∷ b3 ∷ b4 ∷ []) h = omega arith
none-left (b0 ∷ b1 ∷ b2 ∷ b3 ∷ b4 ∷ b5 ∷ []) h = omega arith
none-left (b0 ∷ b1 ∷ b2 ∷ b3 ∷ b4 ∷ b5 ∷ b6 ∷ []) h = omega arith
