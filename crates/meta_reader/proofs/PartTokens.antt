-- A part is its token, and the token is that part.
use Rattle.std.proofs.Common.{◌≡◌, ◌∙◌, ℕ, ◌<◌, ◌≤◌, Bool, true, false, ◌&&◌, List, [], ◌∷◌, ◌++◌, Some, None, refl, sym, ap, codes, nat_eq, arith, if◌then◌else◌}
use Rattle.std.specs.Str.{bytes_eq}
use Rattle.std.proofs.lemmas.Slice.Eq.{bytes_eq-Decides}
use Rattle.std.proofs.lemmas.Bool.Decides.{nat_tests}
use Rattle.meta_lex.specs.Forms.{is_quoted}
use Rattle.meta_lex.proofs.Prefixes.{left, right}
use Rattle.gram_form.specs.Plain.{PlainPart, PlainLiteral, PlainNonterm, PlainIdentifier, PlainNumeral}
use Rattle.meta_terms.specs.Names.{is_variable}
use Rattle.meta_reader.specs.ItemForms.{quoted, part_token, is_part, closing}
use Rattle.action_text.specs.Notes.{unquoted}
use Rattle.action_text.proofs.QuotedTokens.{quoted_is, unquoted_back}
use Rattle.meta_reader.specs.Parsing.{part_of}

pub halves : (a b : Bool) → (a && b) ≡ true → (a ≡ true) × (b ≡ true)
halves a b h = (left a b h, right a b h)

-- a variable begins with a capital letter
pub capital : (b : ℕ) (rest : List ℕ) → is_variable (b ∷ rest) ≡ true → (65 ≤ b) × (b ≤ 90)
capital b rest h = grind (arith, nat_tests, h)

-- a text with another first byte is another one
pub differs : (b c : ℕ) (xs ys : List ℕ) → b < c → bytes_eq (b ∷ xs) (c ∷ ys) ≡ false
differs b c xs ys h = pick (bytes_eq (b ∷ xs) (c ∷ ys)) refl
  where
    pick : (x : Bool) → bytes_eq (b ∷ xs) (c ∷ ys) ≡ x → x ≡ false
    pick false e = refl
    pick true e =
        let same : b ∷ xs ≡ c ∷ ys = (bytes_eq-Decides (b ∷ xs) (c ∷ ys)).0 e in
        let first : b ≡ c = cc in
        absurd (omega arith)

-- so it is no text with a later first byte
pub variable_unlike : (c : ℕ) (name ys : List ℕ) → 91 ≤ c → is_variable name ≡ true → bytes_eq name (c ∷ ys) ≡ false
variable_unlike c [] ys l h = absurd (cc)
variable_unlike c (b ∷ rest) ys l h = let k = capital b rest h in differs b c rest ys (omega (arith, k.1))

-- and no quoted text
pub variable_unquoted : (name : List ℕ) → is_variable name ≡ true → is_quoted name ≡ false
variable_unquoted [] h = absurd (cc)
variable_unquoted (b ∷ rest) h = let k = capital b rest h in let n : nat_eq b 34 ≡ false = grind (arith, nat_tests, k) in rw n refl

-- the token of a part is that part
pub part_of_token : (p : PlainPart) → is_part p ≡ true → part_of (part_token p) ≡ Some p
part_of_token (PlainLiteral bytes) h = rw (h, unquoted_back bytes (quoted bytes) refl) refl
part_of_token (PlainNonterm name) h = rw (variable_unquoted name h, variable_unlike 105 name _ (omega arith) h, variable_unlike 110 name _ (omega arith) h, h) refl
part_of_token PlainIdentifier h = refl
part_of_token PlainNumeral h = refl

-- and it doesn't close an alternative
pub part_not_closing : (p : PlainPart) → is_part p ≡ true → bytes_eq (part_token p) closing ≡ false
part_not_closing (PlainLiteral bytes) h = differs 34 93 (bytes ++ 34 ∷ []) (93 ∷ []) (omega arith)
part_not_closing (PlainNonterm name) h = variable_unlike 93 name (93 ∷ []) (omega arith) h
part_not_closing PlainIdentifier h = refl
part_not_closing PlainNumeral h = refl

-- a part has that token
pub token_of_part : (t : List ℕ) (p : PlainPart) → part_of t ≡ Some p → (t ≡ part_token p) × (is_part p ≡ true)
token_of_part t p h = by_quoted (is_quoted t) refl h
  where
    named : (v : Bool) → is_variable t ≡ v → (if v then Some (PlainNonterm t) else None) ≡ Some p → (t ≡ part_token p) × (is_part p ≡ true)
    named true e h = let same : PlainNonterm t ≡ p = cc in (ap part_token same, sym (ap is_part same) ∙ e)
    named false e h = absurd (cc)

    by_numeral : (n : Bool) → bytes_eq t (codes "numeral") ≡ n → (if n then Some PlainNumeral else if is_variable t then Some (PlainNonterm t) else None) ≡ Some p → (t ≡ part_token p) × (is_part p ≡ true)
    by_numeral true e h = let same : PlainNumeral ≡ p = cc in ((bytes_eq-Decides t (codes "numeral")).0 e ∙ ap part_token same, sym (ap is_part same))
    by_numeral false e h = named (is_variable t) refl h

    by_identifier : (n : Bool) → bytes_eq t (codes "identifier") ≡ n
        → (if n then Some PlainIdentifier else if bytes_eq t (codes "numeral") then Some PlainNumeral else if is_variable t then Some (PlainNonterm t) else None) ≡ Some p → (t ≡ part_token p) × (is_part p ≡ true)
    by_identifier true e h = let same : PlainIdentifier ≡ p = cc in ((bytes_eq-Decides t (codes "identifier")).0 e ∙ ap part_token same, sym (ap is_part same))
    by_identifier false e h = by_numeral (bytes_eq t (codes "numeral")) refl h

    by_quoted : (q : Bool) → is_quoted t ≡ q
        → (if q then Some (PlainLiteral (unquoted t)) else if bytes_eq t (codes "identifier") then Some PlainIdentifier else if bytes_eq t (codes "numeral") then Some PlainNumeral else if is_variable t then Some (PlainNonterm t) else None) ≡ Some p
        → (t ≡ part_token p) × (is_part p ≡ true)
    by_quoted true e h =
        let same : PlainLiteral (unquoted t) ≡ p = cc in
        let back : t ≡ quoted (unquoted t) = (quoted_is t e).0 in
        (back ∙ ap part_token same, sym (ap is_part same) ∙ ap is_quoted (sym back) ∙ e)
    by_quoted false e h = by_identifier (bytes_eq t (codes "identifier")) refl h
