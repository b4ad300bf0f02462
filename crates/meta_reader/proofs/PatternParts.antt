-- One part of a pattern, read from the tokens of a run.
use Rattle.std.proofs.Common.{◌≡◌, ◌∙◌, ℕ, ◌+◌, ◌-◌, ◌<◌, Bool, true, false, List, [], ◌∷◌, length, drop, length-drop, get_or, if◌then◌else◌, Option, Some, None, refl, sym, ap, arith}
use Rattle.std.specs.Str.{bytes_eq}
use Rattle.meta_lex.specs.Forms.{is_quoted}
use Rattle.meta_lex.specs.declared.token.Token.{Token}
use Rattle.gram_form.specs.Plain.{PlainLiteral}
use Rattle.meta_terms.specs.Names.{is_variable}
use Rattle.meta_terms.specs.PlainItems.{PlainPatternPart}
use Rattle.action_text.specs.Notes.{unquoted}
use Rattle.action_text.specs.Texts.{texts}
use Rattle.meta_reader.specs.ItemForms.{Tokens, closing, colon}
use Rattle.meta_reader.specs.Parsing.{with_pattern_part, part_of, named_part, pattern_of, behind_colon, begins_with}
use Rattle.meta_reader.proofs.Walking.{cut_at, length_texts}

-- where a part of a pattern begins
pub record IsBegun (run : List Token) (at : ℕ) (t : Token) : Type 0 where
  pub within : at < length run
  pub unclosed : begins_with closing (drop at (texts run)) ≡ false
  pub token : t ≡ get_or run at t

begun : (run : List Token) (at : ℕ) (t : Token) → IsBegun run at t → drop at (texts run) ≡ t.bytes.now ∷ drop (at + 1) (texts run)
begun run at t h = cut_at run at t h.within h.token

open_at : (run : List Token) (at : ℕ) (t : Token) → IsBegun run at t → bytes_eq t.bytes.now closing ≡ false
open_at run at t h = sym (ap (begins_with closing) (begun run at t h)) ∙ h.unclosed

-- a quoted text is a part
pub literal_read : (run : List Token) (at : ℕ) (t : Token) (p : PlainPatternPart) → IsBegun run at t → true ≡ is_quoted t.bytes.now → p ≡ record { variable = None; part = PlainLiteral (unquoted t.bytes.now) }
    → pattern_of (drop at (texts run)) ≡ with_pattern_part (Some p) (pattern_of (drop (at + 1) (texts run)))
literal_read run at t p h q e =
    ap pattern_of (begun run at t h)
    ∙ step t.bytes.now (drop (at + 1) (texts run)) (open_at run at t h) (sym q)
    ∙ ap (λ x. with_pattern_part (Some x) (pattern_of (drop (at + 1) (texts run)))) (sym e)
  where
    step : (b : List ℕ) (ts : Tokens) → bytes_eq b closing ≡ false → is_quoted b ≡ true → pattern_of (b ∷ ts) ≡ with_pattern_part (Some (record { variable = None; part = PlainLiteral (unquoted b) })) (pattern_of ts)
    step b ts o q = rw (o, q) refl

-- another text that is no variable is none
pub unnamed_none : (run : List Token) (at : ℕ) (t : Token) → IsBegun run at t → false ≡ is_quoted t.bytes.now → false ≡ is_variable t.bytes.now → pattern_of (drop at (texts run)) ≡ None
unnamed_none run at t h q v = ap pattern_of (begun run at t h) ∙ step t.bytes.now (drop (at + 1) (texts run)) (open_at run at t h) (sym q) (sym v)
  where
    step : (b : List ℕ) (ts : Tokens) → bytes_eq b closing ≡ false → is_quoted b ≡ false → is_variable b ≡ false → pattern_of (b ∷ ts) ≡ None
    step b ts o q v = rw (o, q, v) refl

-- nor is a variable at the end
pub short_none : (run : List Token) (at : ℕ) (t : Token) → IsBegun run at t → false ≡ is_quoted t.bytes.now → true ≡ is_variable t.bytes.now → length run - at < 3 → pattern_of (drop at (texts run)) ≡ None
short_none run at t h q v l =
    let size : length (drop (at + 1) (texts run)) ≡ length run - (at + 1) = length-drop (at + 1) (texts run) ∙ ap (λ n. n - (at + 1)) (length_texts run) in
    let within : at < length run = h.within in
    ap pattern_of (begun run at t h) ∙ step t.bytes.now (drop (at + 1) (texts run)) (open_at run at t h) (sym q) (sym v) (omega (arith, size))
  where
    step : (b : List ℕ) (ts : Tokens) → bytes_eq b closing ≡ false → is_quoted b ≡ false → is_variable b ≡ true → length ts < 2 → pattern_of (b ∷ ts) ≡ None
    step b [] o q v l = rw (o, q, v) refl
    step b (c ∷ []) o q v l = rw (o, q, v) (pick (bytes_eq c colon))
      where
        pick : (x : Bool) → (if x then behind_colon b [] else None) ≡ None
        pick true = refl
        pick false = refl
    step b (c ∷ d ∷ ts) o q v l = absurd (omega arith)

-- nor one without a colon
pub uncoloned_none : (run : List Token) (at : ℕ) (t c : Token) → IsBegun run at t → false ≡ is_quoted t.bytes.now → true ≡ is_variable t.bytes.now → at + 1 < length run → c ≡ get_or run (at + 1) c → false ≡ bytes_eq c.bytes.now colon → pattern_of (drop at (texts run)) ≡ None
uncoloned_none run at t c h q v l e n =
    ap pattern_of (begun run at t h ∙ ap (λ us. t.bytes.now ∷ us) (cut_at run (at + 1) c l e))
    ∙ step t.bytes.now c.bytes.now (drop (at + 1 + 1) (texts run)) (open_at run at t h) (sym q) (sym v) (sym n)
  where
    step : (b c : List ℕ) (ts : Tokens) → bytes_eq b closing ≡ false → is_quoted b ≡ false → is_variable b ≡ true → bytes_eq c colon ≡ false → pattern_of (b ∷ c ∷ ts) ≡ None
    step b c ts o q v n = rw (o, q, v, n) refl

-- behind the colon stands the part
pub record IsNamed (run : List Token) (at : ℕ) (t c d : Token) : Type 0 where
  pub begun : IsBegun run at t
  pub unquoted : false ≡ is_quoted t.bytes.now
  pub variable : true ≡ is_variable t.bytes.now
  pub room : at + 2 < length run
  pub colon_at : c ≡ get_or run (at + 1) c
  pub colon_is : true ≡ bytes_eq c.bytes.now colon
  pub part_at : d ≡ get_or run (at + 2) d

pub named_read : (run : List Token) (at : ℕ) (t c d : Token) (o : Option PlainPatternPart) → IsNamed run at t c d → o ≡ named_part t.bytes.now (part_of d.bytes.now)
    → pattern_of (drop at (texts run)) ≡ with_pattern_part o (pattern_of (drop (at + 3) (texts run)))
named_read run at t c d o h e =
    let room : at + 2 < length run = h.room in
    let two : at + 1 + 1 ≡ at + 2 = omega arith in
    let three : at + 2 + 1 ≡ at + 3 = omega arith in
    let behind : drop (at + 1 + 1) (texts run) ≡ d.bytes.now ∷ drop (at + 3) (texts run) =
    ap (λ n. drop n (texts run)) two ∙ cut_at run (at + 2) d room h.part_at ∙ ap (λ n. d.bytes.now ∷ drop n (texts run)) three in
    ap pattern_of (begun run at t h.begun ∙ ap (λ us. t.bytes.now ∷ us) (cut_at run (at + 1) c (omega arith) h.colon_at ∙ ap (λ us. c.bytes.now ∷ us) behind))
    ∙ step t.bytes.now c.bytes.now d.bytes.now (drop (at + 3) (texts run)) (open_at run at t h.begun) (sym h.unquoted) (sym h.variable) (sym h.colon_is)
    ∙ ap (λ x. with_pattern_part x (pattern_of (drop (at + 3) (texts run)))) (sym e)
  where
    step : (b c d : List ℕ) (ts : Tokens) → bytes_eq b closing ≡ false → is_quoted b ≡ false → is_variable b ≡ true → bytes_eq c colon ≡ true → pattern_of (b ∷ c ∷ d ∷ ts) ≡ with_pattern_part (named_part b (part_of d)) (pattern_of ts)
    step b c d ts o q v n = rw (o, q, v, n) refl
