-- What stands for a node of a template, by the part of its variable.
use Rattle.std.proofs.Common.{of_z, to_z, w64, ◌≡◌, ◌∙◌, ℕ, Bor, Bool, true, false, List, [], ◌∷◌, Option, Some, None, Ok, Err, refl, sym, ap, subst}
use Rattle.std.specs.Prelude.{IfErr, IfSome, IsTrue, Result, if◌then◌else◌, nat_lt, option_map, pos, slice_get, ℤ, ◌^◌}
use Rattle.std.specs.Option.{option_copied}
use Rattle.std.specs.Slice.{IsItemAt}
use Rattle.std.proofs.lemmas.Option.{slice_get-get_or, slice_get_past}
use Rattle.std.proofs.lemmas.Bool.{ltb-true}
use Rattle.std.proofs.lemmas.Int.{to_z-of_z}
use Rattle.acg_base.specs.Decimals.{number_of, spelled_i64}
use Rattle.action_terms.specs.Labels as plain
use Rattle.action_terms.specs.declared.kinds.YKind.TheVariants as ykind
use Rattle.gram_form.specs.Trees.{plain_tree}
use Rattle.gram_form.specs.declared.tree.Tree.{Tree}
use Rattle.gram_form.specs.declared.tree.TreePart.{TreePart, Sub}
use Rattle.source_lex.specs.Forms.{has_form, is_numeral}
use Rattle.source_lex.specs.Lexemes.{PlainLexeme}
use Rattle.source_lex.specs.Uniform.{Holds}
use Rattle.source_lex.specs.declared.lexeme.LexKind.{LexKind}
use Rattle.source_lex.specs.declared.lexeme.LexKind.TheVariants.{Numeral}
use Rattle.equation_expand.specs.Meaning.{Meaning, LargeNumeral, applied, valued, valued_by}
use Rattle.equation_expand.specs.Seen.{seen_part}
use Rattle.equation_expand.specs.Sources.{PlainSource, meaning_in}
use Rattle.equation_expand.specs.Frames.{IsPartOf}
use Rattle.equation_expand.specs.declared.errors.ExpandError.{ExpandError}
use Rattle.equation_expand.proofs.HeldTrees.{holds-part, seen-phrase}
use Rattle.equation_expand.proofs.Numerals.{numeral-spells}

-- an error that is handed on
pub exits : {T : Type 0} (P : ExpandError → Type 0) (r : Result T ExpandError) (e : ExpandError) → r ≡ Err e → P e → IfErr r P
exits P r e is h = subst (λ x. IfErr x P) (sym is) h

-- a phrase for a variable
pub phrase-applied : (s : PlainSource) (o : Option TreePart) (x : TreePart) (t : Bor Tree) (f : List ℕ) → o ≡ Some x → x ≡ Sub t → applied (option_map (seen_part s) o) f ≡ meaning_in s (plain_tree t.now) f
phrase-applied s o x t f e g = ap (λ p. applied (option_map (seen_part s) p) f) (e ∙ ap Some g) ∙ ap (λ p. applied (Some p) f) (seen-phrase s t)

pub phrase-under : (o : Option TreePart) (x : TreePart) (u : Bor Tree) (t : Tree) → o ≡ Some x → x ≡ Sub u → IfSome o (IsPartOf t) → Holds (plain_tree t) (plain_tree u.now)
phrase-under o x u t e g h =
    let part : IsPartOf t (Sub u) = subst (λ p. IfSome p (IsPartOf t)) (e ∙ ap Some g) h in
    holds-part t u part.0 part.1

-- a part that is there
pub part-there : (t : Tree) (k : ℕ) (o : Option TreePart) → o ≡ slice_get t.parts.now k → IfSome o (IsPartOf t)
part-there t k None e = tt
part-there t k (Some x) e = (k, sym e)

-- ---- numerals

value-is : (k : LexKind) (n offset : ℕ) (b : Bool) → nat_lt n (2 ^ 63) ≡ b → k ≡ Numeral → (let m : Meaning = valued_by k n offset in m) ≡ (if b then Ok (plain.YielderNode (ykind.Number (pos n)) [] ∷ []) else Err (LargeNumeral offset))
value-is k n offset b h e =
    ap (λ q. valued_by q n offset) e
    ∙ ap (λ (c : Bool). if c then Ok (plain.YielderNode (ykind.Number (pos n)) [] ∷ []) else Err (LargeNumeral offset)) h

pub value-filled : (l : PlainLexeme) → IsTrue (has_form l.kind l.bytes) → l.kind ≡ Numeral → (v : ℤ) → spelled_i64 l.bytes ≡ Some v → valued (Some l) ≡ Ok (plain.YielderNode (ykind.Number v) [] ∷ [])
value-filled l form is v h = go (nat_lt (number_of l.bytes) (2 ^ 63)) refl (sym (numeral-spells l.bytes (subst (λ k. IsTrue (has_form k l.bytes)) is form)) ∙ h)
  where
    go : (b : Bool) → nat_lt (number_of l.bytes) (2 ^ 63) ≡ b → (if b then Some (pos (number_of l.bytes)) else None) ≡ Some v → valued (Some l) ≡ Ok (plain.YielderNode (ykind.Number v) [] ∷ [])
    go true e g = let same : pos (number_of l.bytes) ≡ v = cc in value-is l.kind (number_of l.bytes) l.offset true e is ∙ ap (λ z. Ok (plain.YielderNode (ykind.Number z) [] ∷ [])) same
    go false e g = absurd (cc)

pub value-large : (l : PlainLexeme) → IsTrue (has_form l.kind l.bytes) → l.kind ≡ Numeral → spelled_i64 l.bytes ≡ None → valued (Some l) ≡ Err (LargeNumeral l.offset)
value-large l form is h = go (nat_lt (number_of l.bytes) (2 ^ 63)) refl (sym (numeral-spells l.bytes (subst (λ k. IsTrue (has_form k l.bytes)) is form)) ∙ h)
  where
    go : (b : Bool) → nat_lt (number_of l.bytes) (2 ^ 63) ≡ b → (if b then Some (pos (number_of l.bytes)) else None) ≡ None → valued (Some l) ≡ Err (LargeNumeral l.offset)
    go true e g = absurd (cc)
    go false e g = value-is l.kind (number_of l.bytes) l.offset false e is

-- ---- lists

-- what stands at a place
pub item-got : {A : Type 0} (xs : List A) (i : ℕ) (r : Option (Bor A)) → IsItemAt xs i r → option_copied r ≡ slice_get xs i
item-got xs i None h = sym (slice_get_past xs i h.3)
item-got xs i (Some x) h = sym (slice_get-get_or xs i x.now h.3.0 ∙ ap Some (sym h.1))

-- the value of a numeral has 64 signed bits
pub value-same : (bytes : List ℕ) → is_numeral bytes ≡ true → (v : ℤ) → spelled_i64 bytes ≡ Some v → to_z w64 (of_z w64 v) ≡ v
value-same bytes form v h = go (nat_lt (number_of bytes) (2 ^ 63)) refl (sym (numeral-spells bytes form) ∙ h)
  where
    go : (b : Bool) → nat_lt (number_of bytes) (2 ^ 63) ≡ b → (if b then Some (pos (number_of bytes)) else None) ≡ Some v → to_z w64 (of_z w64 v) ≡ v
    go true e g =
        let same : pos (number_of bytes) ≡ v = cc in
        subst (λ z. to_z w64 (of_z w64 z) ≡ z) same (to_z-of_z w64 (pos (number_of bytes)) (record { sfits = ltb-true (number_of bytes) (2 ^ 63) e }))
    go false e g = absurd (cc)
