-- What is still to be read of an alternative that begins so.
use Rattle.std.proofs.Common.{◌≡◌, inl, inr, true, false, ◌==◌, ℕ, ◌+◌, ◌-◌, ◌<◌, ◌≤◌, List, [], ◌∷◌, length, slice_get, Some, drop, take, get_or, refl, sym, ap, subst, ◌∙◌, arith}
use Rattle.std.specs.Prelude.{◌↔◌}
use Rattle.std.proofs.lemmas.Bool.Decides.{nat_tests}
use Rattle.std.proofs.lemmas.List.{nil_from_length}
use Rattle.std.proofs.lemmas.Option.{slice_get_within}
use Rattle.gram_form.specs.Trees.{End}
use Rattle.source_lex.specs.Numbered.{Alternative, Numbered, alternative_of}
use Rattle.source_lex.specs.Trees.{Has}
use Rattle.source_lex.specs.declared.numbered.Symbol.{Symbol as Part}
use Rattle.source_lex.specs.declared.numbered.Symbol.TheVariants.{Word, Phrase}
use Rattle.source_lex.specs.declared.lexeme.LexKind.{LexKind}
use Rattle.chart_parse.specs.Growths.{HasPieces}
use Rattle.tree_pick.specs.declared.phrases.Corner.{Corner}
use Rattle.tree_pick.specs.declared.phrases.Corner.TheVariants.{Leaf, Branch}
use Rattle.tree_pick.specs.declared.phrases.Taken.{Taken}
use Rattle.tree_pick.specs.Spines.{Stay, Step, CanGrow}
use Rattle.tree_pick.specs.Choices.{CanLeaf, CanTake, Begins, IsBehind, Fits}
use Rattle.tree_pick.proofs.FollowedParts.{no_part}
use Rattle.tree_pick.proofs.SpinePick.{has_spine, leaf_fits, leaf_of, growth_of}
use Rattle.tree_pick.proofs.Looked.{next, tail, taken}

-- tests of emptiness
pub empty_list : {A : Type 0} (xs : List A) → true ≡ (length xs == 0) → xs ≡ []
empty_list xs e = nil_from_length xs (grind (arith, nat_tests))

pub some_list : {A : Type 0} (xs : List A) → false ≡ (length xs == 0) → 0 < length xs
some_list xs e = grind (arith, nat_tests)

-- parts as the first and the rest
pub first_and_rest : (parts : Alternative) (d x : Part) → 0 < length parts → get_or parts 0 d ≡ x → parts ≡ x ∷ take (length parts - 1) (drop 1 parts)
first_and_rest parts d x lt e = next parts 0 d x lt e ∙ ap (λ (r : Alternative). x ∷ r) (sym (tail parts 0))

pub begins_empty : (g : Numbered) (w : List LexKind) (i : ℕ) (parts : Alternative) → i ≤ length w → parts ≡ [] → IsBehind g w (Leaf i) parts parts i
begins_empty g w i parts le empty = (
  le,
  λ e. (
    λ b. elim b [
      | inl (q, r) ↦ (End, (q, sym r))
      | inr (c, rest, q, at, ps) ↦ absurd (let z : [] ≡ Word c ∷ rest = sym empty ∙ q in cc)
    ],
    λ h. inl (empty, sym ((no_part g w i e).0 (subst (λ (r : Alternative). HasPieces g w r i e) empty h))),
  ),
)

pub begins_word : (g : Numbered) (w : List LexKind) (i : ℕ) (parts rest : Alternative) (c : LexKind) → parts ≡ Word c ∷ rest → slice_get w i ≡ Some c → IsBehind g w (Leaf i) parts rest (i + 1)
begins_word g w i parts rest c is at = (
  omega (arith, slice_get_within w i c at),
  λ e. (
    λ b. elim b [
      | inl (q, r) ↦ absurd (let z : Word c ∷ rest ≡ [] = sym is ∙ q in cc)
      | inr (d, others, q, there, ps) ↦ (let z : Word c ∷ rest ≡ Word d ∷ others = sym is ∙ q in let y : others ≡ rest = cc in subst (λ (r : Alternative). HasPieces g w r (i + 1) e) y ps)
    ],
    λ h. inr (c, rest, is, at, h),
  ),
)

same_parts : (x y : Alternative) → Some x ≡ Some y → x ≡ y
same_parts x y e = cc

-- an alternative fits where its parts begin so
pub fits_begins : (g : Numbered) (w : List LexKind) (corner : Corner) (b a e : ℕ) (parts : Alternative) → alternative_of g b a ≡ Some parts → Fits g w corner b a e ↔ Begins g w corner parts e
fits_begins g w (Leaf i) b a e parts is = (
  λ h. elim h [
    | inl (q, r) ↦ inl (same_parts parts [] (sym is ∙ q), r)
    | inr (c, rest, q, at, ps) ↦ inr (c, rest, same_parts parts (Word c ∷ rest) (sym is ∙ q), at, ps)
  ],
  λ h. elim h [
    | inl (q, r) ↦ inl (is ∙ ap (λ (p : Alternative). Some p) q, r)
    | inr (c, rest, q, at, ps) ↦ inr (c, rest, is ∙ ap (λ (p : Alternative). Some p) q, at, ps)
  ],
)
fits_begins g w (Branch c k) b a e parts is = (
  λ h. (h.0, same_parts parts (Phrase c ∷ h.0) (sym is ∙ h.1), h.2),
  λ h. (h.0, is ∙ ap (λ (p : Alternative). Some p) h.1, h.2),
)

-- what fits is an alternative
pub fits_some : (g : Numbered) (w : List LexKind) (corner : Corner) (b a e : ℕ) → Fits g w corner b a e → (parts : Alternative) × (alternative_of g b a ≡ Some parts)
fits_some g w (Leaf i) b a e (inl (q, r)) = ([], q)
fits_some g w (Leaf i) b a e (inr (c, rest, q, at, ps)) = (Word c ∷ rest, q)
fits_some g w (Branch c k) b a e h = (Phrase c ∷ h.0, h.1)

-- a phrase that has a tree has a leaf
pub has_leaf : (g : Numbered) (w : List LexKind) (n i j : ℕ) → Has g w n i j → (x : Taken) × CanLeaf g w n i j x
has_leaf g w n i j (t, is) =
    let s = has_spine g w n j n i j t Stay is (refl, refl) in
    (taken s.production s.alternative s.ends, (leaf_fits g w n i j (leaf_of t Stay) (growth_of t Stay) s, (growth_of t Stay, s.grows)))

-- what can grow, and isn't there yet, has a step
pub has_step : (g : Numbered) (w : List LexKind) (n j c k : ℕ) → CanGrow g w n j c k → ((c ≡ n) × (k ≡ j) → ⊥) → (x : Taken) × CanTake g w (Branch c k) n j x
has_step g w n j c k (Stay, h) apart = absurd (apart h)
has_step g w n j c k (Step m a ps l more, h) apart = (taken m a l, ((h.0, h.1, (ps, h.2)), (more, h.3)))
