-- Patterns are read from their tokens, and from no others.
use Rattle.std.proofs.Common.{◌≡◌, ◌∙◌, ℕ, Bool, true, false, List, [], ◌∷◌, ◌++◌, Option, Some, None, refl, sym, ap, subst, append_assoc, arith, if◌then◌else◌}
use Rattle.std.specs.List.{list_all, flat_map}
use Rattle.std.specs.Str.{bytes_eq}
use Rattle.std.proofs.lemmas.Slice.Eq.{bytes_eq-Decides}
use Rattle.meta_lex.specs.Forms.{is_quoted}
use Rattle.meta_lex.proofs.Prefixes.{both}
use Rattle.gram_form.specs.Plain.{PlainPart, PlainLiteral, PlainNonterm, PlainIdentifier, PlainNumeral}
use Rattle.meta_terms.specs.Names.{is_variable}
use Rattle.meta_terms.specs.PlainItems.{PlainPatternPart}
use Rattle.action_text.specs.Notes.{unquoted}
use Rattle.action_text.proofs.QuotedTokens.{quoted_is, unquoted_back}
use Rattle.meta_reader.specs.ItemForms.{Tokens, quoted, closing, colon, part_token, variable_tokens, pattern_tokens, is_part, is_named, is_pattern_part}
use Rattle.meta_reader.specs.Parsing.{Pattern, with_pattern_part, part_of, named_part, pattern_of, behind_variable, behind_colon}
use Rattle.meta_reader.proofs.PartTokens.{halves, variable_unlike, variable_unquoted, part_of_token, token_of_part}

-- a part of a pattern is read from its tokens
part_found : (v : Option (List ℕ)) (part : PlainPart) (more : Tokens) → is_named v part ≡ true → is_part part ≡ true
    → pattern_of (variable_tokens v ++ (part_token part ∷ more)) ≡ with_pattern_part (Some (record { variable = v; part = part })) (pattern_of more)
part_found None (PlainLiteral bytes) more n h = rw (h, unquoted_back bytes (quoted bytes) refl) refl
part_found None (PlainNonterm name) more n h = absurd (cc)
part_found None PlainIdentifier more n h = absurd (cc)
part_found None PlainNumeral more n h = absurd (cc)
part_found (Some v) (PlainLiteral bytes) more n h = absurd (cc)
part_found (Some v) (PlainNonterm name) more n h = rw (variable_unlike 93 v (93 ∷ []) (omega arith) n, variable_unquoted v n, n, part_of_token (PlainNonterm name) h) refl
part_found (Some v) PlainIdentifier more n h = rw (variable_unlike 93 v (93 ∷ []) (omega arith) n, variable_unquoted v n, n) refl
part_found (Some v) PlainNumeral more n h = rw (variable_unlike 93 v (93 ∷ []) (omega arith) n, variable_unquoted v n, n) refl

-- the tokens of a pattern are read as it, up to the closing brackets
pub pattern_found : (ps : List PlainPatternPart) (rest : Tokens) → list_all is_pattern_part ps ≡ true → pattern_of (flat_map pattern_tokens ps ++ (closing ∷ rest)) ≡ Some (ps, rest)
pattern_found [] rest h = refl
pattern_found (p ∷ ps) rest h =
    let valid = halves (is_pattern_part p) (list_all is_pattern_part ps) h in
    let one = halves (is_named p.variable p.part) (is_part p.part) valid.0 in
    let more : Tokens = flat_map pattern_tokens ps ++ (closing ∷ rest) in
    ap pattern_of (append_assoc (pattern_tokens p) (flat_map pattern_tokens ps) (closing ∷ rest) ∙ append_assoc (variable_tokens p.variable) (part_token p.part ∷ []) more)
    ∙ part_found p.variable p.part more one.0 one.1
    ∙ ap (with_pattern_part (Some p)) (pattern_found ps rest valid.1)

-- the tokens are those of a pattern, closing brackets, and the rest
pub record IsPattern (ts : Tokens) (r : Pattern) : Type 0 where
  pub valid : list_all is_pattern_part r.0 ≡ true
  pub tokens_are : ts ≡ flat_map pattern_tokens r.0 ++ (closing ∷ r.1)

one_more : (p : PlainPatternPart) (ts : Tokens) (r : Pattern) (o : Option Pattern) → is_pattern_part p ≡ true → pattern_of ts ≡ o → with_pattern_part (Some p) o ≡ Some r
    → ((s : Pattern) → pattern_of ts ≡ Some s → IsPattern ts s) → IsPattern (pattern_tokens p ++ ts) r
one_more p ts r None valid e h sound = absurd (cc)
one_more p ts r (Some s) valid e h sound =
    let i = sound s e in
    let longer : Pattern = (p ∷ s.0, s.1) in
    let same : longer ≡ r = cc in
    subst (λ (x : Pattern). IsPattern (pattern_tokens p ++ ts) x) same (record {
      valid = both (is_pattern_part p) (list_all is_pattern_part s.0) valid i.valid;
      tokens_are = ap (λ us. pattern_tokens p ++ us) i.tokens_are ∙ sym (append_assoc (pattern_tokens p) (flat_map pattern_tokens s.0) (closing ∷ s.1));
    })

a_literal : (t : List ℕ) (ts : Tokens) (r : Pattern) → is_quoted t ≡ true → with_pattern_part (Some (record { variable = None; part = PlainLiteral (unquoted t) })) (pattern_of ts) ≡ Some r
    → ((s : Pattern) → pattern_of ts ≡ Some s → IsPattern ts s) → IsPattern (t ∷ ts) r
a_literal t ts r q h sound =
    let back : t ≡ quoted (unquoted t) = (quoted_is t q).0 in
    let valid : is_quoted (quoted (unquoted t)) ≡ true = ap is_quoted (sym back) ∙ q in
    let p : PlainPatternPart = record { variable = None; part = PlainLiteral (unquoted t) } in
    subst (λ u. IsPattern (u ∷ ts) r) (sym back) (one_more p ts r (pattern_of ts) (both true (is_part p.part) refl valid) refl h sound)

named : (v t : List ℕ) (ts : Tokens) (r : Pattern) (part : PlainPart) → is_named (Some v) part ≡ true → part_of t ≡ Some part
    → with_pattern_part (Some (record { variable = Some v; part = part })) (pattern_of ts) ≡ Some r
    → ((s : Pattern) → pattern_of ts ≡ Some s → IsPattern ts s) → IsPattern (v ∷ colon ∷ t ∷ ts) r
named v t ts r part n e h sound =
    let token = token_of_part t part e in
    let p : PlainPatternPart = record { variable = Some v; part = part } in
    subst (λ u. IsPattern (v ∷ colon ∷ u ∷ ts) r) (sym token.0) (one_more p ts r (pattern_of ts) (both (is_named (Some v) part) (is_part part) n token.1) refl h sound)

a_part : (v t : List ℕ) (ts : Tokens) (r : Pattern) (o : Option PlainPart) → is_variable v ≡ true → part_of t ≡ o → with_pattern_part (named_part v o) (pattern_of ts) ≡ Some r
    → ((s : Pattern) → pattern_of ts ≡ Some s → IsPattern ts s) → IsPattern (v ∷ colon ∷ t ∷ ts) r
a_part v t ts r None n e h sound = absurd (cc)
a_part v t ts r (Some (PlainLiteral bytes)) n e h sound = absurd (cc)
a_part v t ts r (Some (PlainNonterm name)) n e h sound = named v t ts r (PlainNonterm name) n e h sound
a_part v t ts r (Some PlainIdentifier) n e h sound = named v t ts r PlainIdentifier n e h sound
a_part v t ts r (Some PlainNumeral) n e h sound = named v t ts r PlainNumeral n e h sound

followed : (v c : List ℕ) (ts : Tokens) (r : Pattern) (b : Bool) → bytes_eq c colon ≡ b → (if b then behind_colon v ts else None) ≡ Some r
    → ((s : Pattern) → behind_colon v ts ≡ Some s → IsPattern (v ∷ colon ∷ ts) s) → IsPattern (v ∷ c ∷ ts) r
followed v c ts r false e h sound = absurd (cc)
followed v c ts r true e h sound = subst (λ u. IsPattern (v ∷ u ∷ ts) r) (sym ((bytes_eq-Decides c colon).0 e)) (sound r h)

begun : (t : List ℕ) (ts : Tokens) (r : Pattern) (c q v : Bool) → bytes_eq t closing ≡ c → is_quoted t ≡ q → is_variable t ≡ v
    → (if c then Some ([], ts) else if q then with_pattern_part (Some (record { variable = None; part = PlainLiteral (unquoted t) })) (pattern_of ts) else if v then behind_variable t ts else None) ≡ Some r
    → ((s : Pattern) → pattern_of ts ≡ Some s → IsPattern ts s) → ((s : Pattern) → behind_variable t ts ≡ Some s → is_variable t ≡ true → IsPattern (t ∷ ts) s) → IsPattern (t ∷ ts) r
begun t ts r true q v c d e h sound after =
    let none : Pattern = ([], ts) in
    let same : none ≡ r = cc in
    subst (λ (x : Pattern). IsPattern (t ∷ ts) x) same (record { valid = refl; tokens_are = ap (λ u. u ∷ ts) ((bytes_eq-Decides t closing).0 c) })
begun t ts r false true v c d e h sound after = a_literal t ts r d h sound
begun t ts r false false true c d e h sound after = after r h e
begun t ts r false false false c d e h sound after = absurd (cc)

-- tokens that are read as a pattern are its
mutual
  pub pattern_sound : (ts : Tokens) (r : Pattern) → pattern_of ts ≡ Some r → IsPattern ts r
  pattern_sound [] r h = absurd (cc)
  pattern_sound (t ∷ ts) r h = begun t ts r (bytes_eq t closing) (is_quoted t) (is_variable t) refl refl refl h (λ s k. pattern_sound ts s k) (λ s k n. variable_sound t ts s n k)

  variable_sound : (v : List ℕ) (ts : Tokens) (r : Pattern) → is_variable v ≡ true → behind_variable v ts ≡ Some r → IsPattern (v ∷ ts) r
  variable_sound v [] r n h = absurd (cc)
  variable_sound v (c ∷ ts) r n h = followed v c ts r (bytes_eq c colon) refl h (λ s k. colon_sound v ts s n k)

  colon_sound : (v : List ℕ) (ts : Tokens) (r : Pattern) → is_variable v ≡ true → behind_colon v ts ≡ Some r → IsPattern (v ∷ colon ∷ ts) r
  colon_sound v [] r n h = absurd (cc)
  colon_sound v (t ∷ ts) r n h = a_part v t ts r (part_of t) n refl h (λ s k. pattern_sound ts s k)
