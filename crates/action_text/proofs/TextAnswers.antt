-- What the parts of reading an action text answer together.
use Rattle.std.proofs.Common.{◌≡◌, ℕ, zero, suc, ◌<◌, ◌≤◌, List, [], ◌∷◌, length, get_or, take, drop, map, refl, sym, ap, subst, ◌-◌, ◌∙◌, arith}
use Rattle.std.specs.Prelude.{slice_range}
use Rattle.std.proofs.lemmas.List.{take-map, drop-map}
use Rattle.meta_lex.specs.Tokens.{PlainToken, AreTokens, plain_token}
use Rattle.meta_lex.specs.declared.token.Token.{Token}
use Rattle.action_terms.specs.Trees.{Tree}
use Rattle.action_text.specs.ActionText.{Spells, IsFirstBad}
use Rattle.action_text.specs.Answers.{IsTextOf, IsBadText, token_bytes, offset_of}
use Rattle.action_text.specs.Texts.{texts}
use Rattle.action_text.proofs.ActionTemplates.{one_action}

texts_plain : (tokens : List Token) → texts tokens ≡ token_bytes (map plain_token tokens)
texts_plain [] = refl
texts_plain (t ∷ tokens) = ap (λ y. t.bytes.now ∷ y) (texts_plain tokens)

texts_read : (tokens : List Token) (read : List PlainToken) → map plain_token tokens ≡ read → texts tokens ≡ token_bytes read
texts_read tokens read e = texts_plain tokens ∙ ap token_bytes e

-- a text whose tokens spell an action is its text
pub is_text : (bytes : List ℕ) (tokens : List Token) (read : List PlainToken) (t : Tree) → map plain_token tokens ≡ read → AreTokens bytes read → Spells t (texts tokens) → IsTextOf bytes t
is_text bytes tokens read t e are spells =
    let sp : Spells t (token_bytes read) = subst (λ y. Spells t y) (texts_read tokens read e) spells in
    record { tokens = read; are_tokens = are; spells = sp; no_other = λ u other. one_action u t (token_bytes read) other sp }

-- a text that goes wrong at a token goes wrong at its offset
pub is_bad : (bytes : List ℕ) (tokens : List Token) (read : List PlainToken) (place offset : ℕ) → map plain_token tokens ≡ read → AreTokens bytes read → IsFirstBad (texts tokens) place
    → offset ≡ offset_of (map plain_token tokens) place (length bytes) → IsBadText bytes offset
is_bad bytes tokens read place offset e are bad at = record {
  tokens = read;
  are_tokens = are;
  place = place;
  first_bad = subst (λ y. IsFirstBad y place) (texts_read tokens read e) bad;
  offset_is = at ∙ ap (λ y. offset_of y place (length bytes)) e;
}

pub offset_here : (tokens : List Token) (place size : ℕ) (d : Token) → place < length tokens → offset_of (map plain_token tokens) place size ≡ (get_or tokens place d).offset
offset_here [] place size d h = absurd (omega arith)
offset_here (t ∷ tokens) zero size d h = refl
offset_here (t ∷ tokens) (suc place) size d h = offset_here tokens place size d (omega arith)

pub offset_past : (tokens : List Token) (place size : ℕ) → length tokens ≤ place → offset_of (map plain_token tokens) place size ≡ size
offset_past [] place size h = refl
offset_past (t ∷ tokens) zero size h = absurd (omega arith)
offset_past (t ∷ tokens) (suc place) size h = offset_past tokens place size (omega arith)

-- the bytes of some tokens of a list
pub texts_cut : (tokens : List Token) (read : List PlainToken) (from to : ℕ) → map plain_token tokens ≡ read → texts (slice_range tokens from to) ≡ slice_range (token_bytes read) from to
texts_cut tokens read from to e =
    sym (take-map (λ (t : Token). t.bytes.now) (to - from) (drop from tokens))
    ∙ ap (take (to - from)) (sym (drop-map (λ (t : Token). t.bytes.now) from tokens))
    ∙ ap (λ all. slice_range all from to) (texts_read tokens read e)
