-- Alternatives are read from their tokens, and from no others.
use Rattle.std.proofs.Common.{◌≡◌, ◌∙◌, ℕ, ◌<◌, Bool, true, false, List, [], ◌∷◌, ◌++◌, length, map, Option, Some, None, refl, sym, ap, subst, append_assoc, arith, if◌then◌else◌}
use Rattle.std.specs.Prelude.{option_map}
use Rattle.std.specs.List.{list_all}
use Rattle.std.specs.Str.{bytes_eq}
use Rattle.std.proofs.lemmas.Slice.Eq.{bytes_eq-Decides}
use Rattle.gram_form.specs.Plain.{PlainPart}
use Rattle.meta_reader.specs.ItemForms.{Tokens, opening, closing, bar, part_token, is_part, alternatives_tokens}
use Rattle.meta_reader.specs.Parsing.{front, with_part, part_of, unopened, inside, behind}
use Rattle.meta_lex.proofs.Prefixes.{both}
use Rattle.meta_reader.proofs.PartTokens.{halves, part_of_token, part_not_closing, token_of_part}

-- what follows an alternative
abbrev behind_tokens : List (List PlainPart) → Tokens
behind_tokens [] = []
behind_tokens (a ∷ list) = bar ∷ alternatives_tokens (a ∷ list)

first_then : (a : List PlainPart) (list : List (List PlainPart)) → alternatives_tokens (a ∷ list) ≡ opening ∷ (map part_token a ++ closing ∷ behind_tokens list)
first_then a [] = refl
first_then a (b ∷ list) = ap (λ ts. opening ∷ ts) (append_assoc (map part_token a) (closing ∷ []) (bar ∷ alternatives_tokens (b ∷ list)))

inside_tokens : (parts : List PlainPart) (rest : Tokens) → list_all is_part parts ≡ true → inside (map part_token parts ++ closing ∷ rest) ≡ option_map (λ list. parts ∷ list) (behind rest)
inside_tokens [] rest h = refl
inside_tokens (p ∷ ps) rest h =
    let valid = halves (is_part p) (list_all is_part ps) h in
    rw (part_not_closing p valid.0, part_of_token p valid.0, inside_tokens ps rest valid.1) (put (behind rest))
  where
    put : (o : Option (List (List PlainPart))) → option_map (front p) (option_map (λ list. ps ∷ list) o) ≡ option_map (λ list. (p ∷ ps) ∷ list) o
    put None = refl
    put (Some list) = refl

-- the tokens of alternatives are read as these
before : (a : List PlainPart) (list : List (List PlainPart)) → list_all is_part a ≡ true → behind (behind_tokens list) ≡ Some list → unopened (alternatives_tokens (a ∷ list)) ≡ Some (a ∷ list)
before a list valid rest = ap unopened (first_then a list) ∙ inside_tokens a (behind_tokens list) valid ∙ ap (option_map (λ bs. a ∷ bs)) rest

behind_are : (list : List (List PlainPart)) → list_all (list_all is_part) list ≡ true → behind (behind_tokens list) ≡ Some list
behind_are [] h = refl
behind_are (a ∷ list) h =
    let valid = halves (list_all is_part a) (list_all (list_all is_part) list) h in
    before a list valid.0 (behind_are list valid.1)

pub unopened_tokens : (a : List PlainPart) (list : List (List PlainPart)) → list_all (list_all is_part) (a ∷ list) ≡ true → unopened (alternatives_tokens (a ∷ list)) ≡ Some (a ∷ list)
unopened_tokens a list h = behind_are (a ∷ list) h

-- what is read inside [[ and ]]: the first alternative, and what follows it
record IsInside (ts : Tokens) (list : List (List PlainPart)) : Type 0 where
  first : List PlainPart
  rest : List (List PlainPart)
  are : list ≡ first ∷ rest
  valid : list_all (list_all is_part) (first ∷ rest) ≡ true
  tokens_are : ts ≡ map part_token first ++ closing ∷ behind_tokens rest

closed : (t : List ℕ) (ts : Tokens) (list : List (List PlainPart)) (o : Option (List (List PlainPart))) → bytes_eq t closing ≡ true → behind ts ≡ o → option_map (λ bs. [] ∷ bs) o ≡ Some list
    → ((bs : List (List PlainPart)) → behind ts ≡ Some bs → (list_all (list_all is_part) bs ≡ true) × (ts ≡ behind_tokens bs)) → IsInside (t ∷ ts) list
closed t ts list None e o h sound = absurd (cc)
closed t ts list (Some bs) e o h sound =
    let b = sound bs o in
    let same : [] ∷ bs ≡ list = cc in
    record {
      first = [];
      rest = bs;
      are = sym same;
      valid = b.0;
      tokens_are = ap (λ u. u ∷ ts) ((bytes_eq-Decides t closing).0 e) ∙ ap (λ us. closing ∷ us) b.1;
    }

longer_by : (t : List ℕ) (ts : Tokens) (list : List (List PlainPart)) (p : PlainPart) (o : Option (List (List PlainPart))) → part_of t ≡ Some p → inside ts ≡ o → option_map (front p) o ≡ Some list
    → ((bs : List (List PlainPart)) → inside ts ≡ Some bs → IsInside ts bs) → IsInside (t ∷ ts) list
longer_by t ts list p None e o h sound = absurd (cc)
longer_by t ts list p (Some bs) e o h sound =
    let i = sound bs o in
    let token = token_of_part t p e in
    let valid = halves (list_all is_part i.first) (list_all (list_all is_part) i.rest) i.valid in
    let same : front p bs ≡ list = cc in
    record {
      first = p ∷ i.first;
      rest = i.rest;
      are = sym same ∙ ap (front p) i.are;
      valid = both (list_all is_part (p ∷ i.first)) (list_all (list_all is_part) i.rest) (both (is_part p) (list_all is_part i.first) token.1 valid.0) valid.1;
      tokens_are = ap (λ u. u ∷ ts) token.0 ∙ ap (λ us. part_token p ∷ us) i.tokens_are;
    }

opened : (t : List ℕ) (ts : Tokens) (list : List (List PlainPart)) (b : Bool) → bytes_eq t opening ≡ b → (if b then inside ts else None) ≡ Some list
    → ((bs : List (List PlainPart)) → inside ts ≡ Some bs → IsInside ts bs) → (0 < length list) × (list_all (list_all is_part) list ≡ true) × (t ∷ ts ≡ alternatives_tokens list)
opened t ts list false e h sound = absurd (cc)
opened t ts list true e h sound =
    let i = sound list h in
    let back : i.first ∷ i.rest ≡ list = sym i.are in (
      subst (λ bs. 0 < length bs) back (omega arith),
      ap (list_all (list_all is_part)) i.are ∙ i.valid,
      ap (λ u. u ∷ ts) ((bytes_eq-Decides t opening).0 e) ∙ ap (λ us. opening ∷ us) i.tokens_are ∙ sym (first_then i.first i.rest) ∙ ap alternatives_tokens back,
    )

one_more : (t : List ℕ) (ts : Tokens) (list : List (List PlainPart)) (b : Bool) (o : Option PlainPart) → bytes_eq t closing ≡ b → part_of t ≡ o
    → (if b then option_map (λ bs. [] ∷ bs) (behind ts) else with_part o (inside ts)) ≡ Some list
    → ((bs : List (List PlainPart)) → behind ts ≡ Some bs → (list_all (list_all is_part) bs ≡ true) × (ts ≡ behind_tokens bs))
    → ((bs : List (List PlainPart)) → inside ts ≡ Some bs → IsInside ts bs) → IsInside (t ∷ ts) list
one_more t ts list true o e f h after sound = closed t ts list (behind ts) e refl h after
one_more t ts list false None e f h after sound = absurd (cc)
one_more t ts list false (Some p) e f h after sound = longer_by t ts list p (inside ts) f refl h sound

barred : (t : List ℕ) (ts : Tokens) (list : List (List PlainPart)) (b : Bool) → bytes_eq t bar ≡ b → (if b then unopened ts else None) ≡ Some list
    → ((bs : List (List PlainPart)) → unopened ts ≡ Some bs → (0 < length bs) × (list_all (list_all is_part) bs ≡ true) × (ts ≡ alternatives_tokens bs))
    → (list_all (list_all is_part) list ≡ true) × (t ∷ ts ≡ behind_tokens list)
barred t ts list false e h sound = absurd (cc)
barred t ts [] true e h sound = absurd (omega (arith, (sound [] h).0))
barred t ts (a ∷ list) true e h sound =
    let u = sound (a ∷ list) h in
    (u.1, ap (λ v. v ∷ ts) ((bytes_eq-Decides t bar).0 e) ∙ ap (λ vs. bar ∷ vs) u.2)

-- tokens that are read as alternatives are theirs
mutual
  pub unopened_sound : (ts : Tokens) (list : List (List PlainPart)) → unopened ts ≡ Some list → (0 < length list) × (list_all (list_all is_part) list ≡ true) × (ts ≡ alternatives_tokens list)
  unopened_sound [] list h = absurd (cc)
  unopened_sound (t ∷ ts) list h = opened t ts list (bytes_eq t opening) refl h (λ bs k. inside_sound ts bs k)

  inside_sound : (ts : Tokens) (list : List (List PlainPart)) → inside ts ≡ Some list → IsInside ts list
  inside_sound [] list h = absurd (cc)
  inside_sound (t ∷ ts) list h = one_more t ts list (bytes_eq t closing) (part_of t) refl refl h (λ bs k. behind_sound ts bs k) (λ bs k. inside_sound ts bs k)

  behind_sound : (ts : Tokens) (list : List (List PlainPart)) → behind ts ≡ Some list → (list_all (list_all is_part) list ≡ true) × (ts ≡ behind_tokens list)
  behind_sound [] list h = let none : [] ≡ list = cc in (ap (list_all (list_all is_part)) (sym none), ap behind_tokens none)
  behind_sound (t ∷ ts) list h = barred t ts list (bytes_eq t bar) refl h (λ bs k. unopened_sound ts bs k)
