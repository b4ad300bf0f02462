-- The class of a token of each kind.
use Rattle.std.proofs.Common.{◌≡◌, ℕ, suc, Bool, true, false, ◌&&◌, ◌==◌, List, [], ◌∷◌, length, take, Option, Some, None, refl, sym, ◌∙◌, arith, nat_lt, if◌then◌else◌}
use Rattle.std.proofs.Math.Seq.{take-length}
use Rattle.std.specs.Prelude.{ℤ, pos, neg_ℤ}
use Rattle.std.specs.Option.{option_map, option_and_then}
use Rattle.std.specs.Char.{is_ascii_digit}
use Rattle.std.specs.Str.{all_ascii_digits}
use Rattle.std.proofs.lemmas.Bool.Decides.{nat_tests}
use Rattle.acg_base.specs.Decimals.{spelled_i64, spelled_number, fits_i64, number_of}
use Rattle.meta_lex.specs.Forms.{has_form, is_quoted, kind_of}
use Rattle.meta_lex.specs.declared.token.TokenKind.{TokenKind}
use Rattle.meta_lex.specs.declared.token.TokenKind.TheVariants.{Number, Quoted}
use Rattle.meta_lex.proofs.FirstBytes.{kind_of_front, no_form}
use Rattle.action_text.specs.declared.classes.Class.TheVariants as class
use Rattle.action_text.specs.Numbers.{class_number}
use Rattle.meta_terms.specs.Words.{words}
use Rattle.action_text.specs.Classes.{word_class, number_class, class_of}

-- the first byte of a token says its kind
first_kind : (kind : TokenKind) (b : ℕ) (rest : List ℕ) → has_form kind (b ∷ rest) ≡ true → kind_of b ≡ kind
first_kind kind b rest h =
    let whole : take (suc (length rest)) (b ∷ rest) ≡ b ∷ rest = take-length (b ∷ rest) in
    let form : has_form kind (take (suc (length rest)) (b ∷ rest)) ≡ true = rw whole h in
    kind_of_front kind b rest (suc (length rest)) (omega arith, form)

hyphen_is : (b : ℕ) → (b == 45) ≡ true → kind_of b ≡ Number
hyphen_is b h = grind (arith, nat_tests)

digit_is : (b : ℕ) → is_ascii_digit b ≡ true → kind_of b ≡ Number
digit_is b h = grind (arith, nat_tests)

digit_first : (f : ℤ → Option ℤ) (x d r : Bool) (n : ℕ) (z : ℤ) → option_and_then f (option_map pos (if x && (d && r) then Some n else None)) ≡ Some z → d ≡ true
digit_first f x true r n z h = refl
digit_first f true false r n z h = absurd (cc)
digit_first f false false r n z h = absurd (cc)

-- what spells a number begins as a number
number_begins : (b : ℕ) (rest : List ℕ) (z : ℤ) → spelled_i64 (b ∷ rest) ≡ Some z → kind_of b ≡ Number
number_begins b rest z h = by_hyphen (b == 45) refl h
  where
    limit : ℤ → Option ℤ
    limit = λ integer. if fits_i64 integer then Some integer else None

    by_hyphen : (x : Bool) → (b == 45) ≡ x
        → option_and_then (λ integer. if fits_i64 integer then Some integer else None) (if x then option_map (λ number. neg_ℤ (pos number)) (spelled_number rest) else option_map pos (spelled_number (b ∷ rest))) ≡ Some z → kind_of b ≡ Number
    by_hyphen true e h = hyphen_is b e
    by_hyphen false e h = digit_is b (digit_first (λ integer. if fits_i64 integer then Some integer else None) (nat_lt 0 (length (b ∷ rest))) (is_ascii_digit b) (all_ascii_digits rest) (number_of (b ∷ rest)) z h)

-- the class of a word or a symbol
pub plain_class : (kind : TokenKind) (t : List ℕ) → has_form kind t ≡ true → (kind ≡ Quoted → ⊥) → (kind ≡ Number → ⊥) → class_of t ≡ word_class 0 words t
plain_class kind [] h q n = absurd (no_form kind h)
plain_class kind (b ∷ rest) h q n = go (is_quoted (b ∷ rest)) (spelled_i64 (b ∷ rest)) refl refl
  where
    go : (x : Bool) (o : Option ℤ) → is_quoted (b ∷ rest) ≡ x → spelled_i64 (b ∷ rest) ≡ o
        → (if x then (class_number class.Quoted) else number_class o (b ∷ rest)) ≡ word_class 0 words (b ∷ rest)
    go true o e f = absurd (q (sym (first_kind kind b rest h) ∙ first_kind Quoted b rest e))
    go false (Some z) e f = absurd (n (sym (first_kind kind b rest h) ∙ number_begins b rest z f))
    go false None e f = refl
