-- How a run is read, token by token: what private functions answer.
use Rattle.std.specs.Prelude.{ℕ, Bool, false, not, ◌&&◌, List, [], ◌∷◌, Option, Some, None, option_map, codes, if◌then◌else◌}
use Rattle.std.specs.Str.{bytes_eq}
use Rattle.meta_lex.specs.Forms.{is_quoted}
use Rattle.meta_lex.specs.declared.token.Token.{Token}
use Rattle.gram_form.specs.Plain.{PlainPart, PlainLiteral, PlainNonterm, PlainIdentifier, PlainNumeral, PlainProduction}
use Rattle.meta_terms.specs.Names.{is_function, is_variable}
use Rattle.meta_terms.specs.PlainItems.{PlainDeclaration, PlainPatternPart}
use Rattle.action_text.specs.Notes.{unquoted}
use Rattle.meta_reader.specs.ItemForms.{Tokens, opening, closing, equals, bar, underscore, colon}

-- what is found is of the form; where nothing is found, nothing is of it
abbrev pub Finds : {A : Type 0} → (A → Type 0) → Option A → Type 0
Finds Form None = (x : _) → Form x → ⊥
Finds Form (Some x) = Form x

-- the first token is the word
abbrev pub begins_with : List ℕ → Tokens → Bool
begins_with word [] = false
begins_with word (t ∷ ts) = bytes_eq t word

-- the token is no full stop
abbrev pub is_inside : Token → Bool
is_inside t = not (bytes_eq t.bytes.now (46 ∷ []))

-- the part that a token is
abbrev pub part_of : List ℕ → Option PlainPart
part_of t =
    if is_quoted t then Some (PlainLiteral (unquoted t))
    else if bytes_eq t (codes "identifier") then Some PlainIdentifier
    else if bytes_eq t (codes "numeral") then Some PlainNumeral
    else if is_variable t then Some (PlainNonterm t)
    else None

-- a part in front of the first alternative
abbrev pub front : PlainPart → List (List PlainPart) → List (List PlainPart)
front p [] = []
front p (a ∷ list) = (p ∷ a) ∷ list

-- a part, where there is one, in front of those behind it
abbrev pub with_part : Option PlainPart → Option (List (List PlainPart)) → Option (List (List PlainPart))
with_part None rest = None
with_part (Some p) rest = option_map (front p) rest

-- the alternatives that the tokens are: before [[, inside it, and behind ]]
abbrev mutual
  pub unopened : Tokens → Option (List (List PlainPart))
  unopened [] = None
  unopened (t ∷ ts) = if bytes_eq t opening then inside ts else None

  pub inside : Tokens → Option (List (List PlainPart))
  inside [] = None
  inside (t ∷ ts) = if bytes_eq t closing then option_map (λ list. [] ∷ list) (behind ts) else with_part (part_of t) (inside ts)

  pub behind : Tokens → Option (List (List PlainPart))
  behind [] = Some []
  behind (t ∷ ts) = if bytes_eq t bar then unopened ts else None

-- the production that the tokens are
abbrev pub production_of : Tokens → Option PlainProduction
production_of [] = None
production_of (n ∷ []) = None
production_of (n ∷ e ∷ ts) =
    if is_variable n && bytes_eq e equals then option_map (λ list. record { name = n; alternatives = list }) (unopened ts) else None

-- the declaration that the tokens are
abbrev pub declaration_of : Tokens → Option PlainDeclaration
declaration_of (f ∷ u ∷ c ∷ n ∷ []) =
    if (is_function f && is_variable n) && (bytes_eq u underscore && bytes_eq c colon) then Some (record { function = f; nonterminal = n }) else None
declaration_of _ = None

-- parts of a pattern up to ]], and the tokens behind it
abbrev pub Pattern : Type 0
Pattern = List PlainPatternPart × Tokens

-- a part of a pattern, where there is one, in front of those behind it
abbrev pub with_pattern_part : Option PlainPatternPart → Option Pattern → Option Pattern
with_pattern_part None rest = None
with_pattern_part (Some p) rest = option_map (λ r. (p ∷ r.0, r.1)) rest

-- a part that has a variable: any but a literal
abbrev pub named_part : List ℕ → Option PlainPart → Option PlainPatternPart
named_part v None = None
named_part v (Some (PlainLiteral bytes)) = None
named_part v (Some part) = Some (record { variable = Some v; part = part })

-- the parts of a pattern: where one begins, behind a variable, and behind its colon
abbrev mutual
  pub pattern_of : Tokens → Option Pattern
  pattern_of [] = None
  pattern_of (t ∷ ts) =
      if bytes_eq t closing then Some ([], ts)
      else if is_quoted t then with_pattern_part (Some (record { variable = None; part = PlainLiteral (unquoted t) })) (pattern_of ts)
      else if is_variable t then behind_variable t ts
      else None

  pub behind_variable : List ℕ → Tokens → Option Pattern
  behind_variable v [] = None
  behind_variable v (c ∷ ts) = if bytes_eq c colon then behind_colon v ts else None

  pub behind_colon : List ℕ → Tokens → Option Pattern
  behind_colon v [] = None
  behind_colon v (t ∷ ts) = with_pattern_part (named_part v (part_of t)) (pattern_of ts)

-- what stands in front of the action of an equation: its function and its pattern; and the tokens of the action
pub record PlainHead : Type 0 where
  pub function : List ℕ
  pub pattern : List PlainPatternPart
  pub action_tokens : Tokens

-- the head with a function and a pattern, where = stands behind it
abbrev pub head_from : List ℕ → Option Pattern → Option PlainHead
head_from f None = None
head_from f (Some (parts, [])) = None
head_from f (Some (parts, e ∷ ts)) =
    if bytes_eq e equals then Some (record { function = f; pattern = parts; action_tokens = ts }) else None

-- the head of the equation that the tokens begin
abbrev pub head_of : Tokens → Option PlainHead
head_of [] = None
head_of (f ∷ []) = None
head_of (f ∷ o ∷ ts) = if is_function f && bytes_eq o opening then head_from f (pattern_of ts) else None
