-- The meaning of a phrase: the template of its equation, with the meanings of its parts, the values of its numerals and the bytes of its identifiers put in.
use Rattle.std.specs.Prelude.{ℕ, Bool, ◌&&◌, ◌++◌, List, [], ◌∷◌, Option, Some, None, Result, Ok, Err, nat_lt, if◌then◌else◌, map, slice_get, pos, ◌^◌}
use Rattle.std.specs.List.{list_any, position_or_len}
use Rattle.std.specs.Option.{option_to_list}
use Rattle.std.specs.Str.{bytes_eq}
use Rattle.acg_base.specs.Decimals.{number_of}
use Rattle.action_terms.specs.Labels as plain
use Rattle.action_terms.specs.declared.kinds.YKind.TheVariants as ykind
use Rattle.gram_form.specs.Trees.{PlainTree, Node, Pieces, End, Lexeme, Under}
use Rattle.source_lex.specs.Lexemes.{PlainLexeme}
use Rattle.source_lex.specs.declared.lexeme.LexKind.{LexKind}
use Rattle.source_lex.specs.declared.lexeme.LexKind.TheVariants.{Identifier, Numeral}
use Rattle.meta_terms.specs.PlainItems.{PlainDeclaration, PlainPatternPart, PlainEquation}
use Rattle.meta_terms.specs.Templates.{Label, ActionNode, YielderNode, ActionTokenOf, YielderTokenOf, Applied, ValueOf}
use Rattle.meta_check.specs.Checked.{PlainDescription, items_of}
use Rattle.meta_check.specs.Rules.{same_number}
use Rattle.meta_check.specs.Views.{alternative_of}

-- why a phrase has no meaning
pub data Gap : Type 0 where
  -- there is no equation of the function for the alternative of the production, by their numbers from 0
  NoEquation : (function production alternative : ℕ) → Gap
  -- the value of the numeral at this offset of the source passes 64 signed bits
  LargeNumeral : (offset : ℕ) → Gap
  -- a variable stands for no part of the kind that the template asks for: the rules of descriptions exclude it
  Misfit : Gap

-- the nodes of an action in preorder, or what is met first in the way
abbrev pub Meaning : Type 0
Meaning = Result (List plain.Label) Gap

-- what a part of a phrase is for a template: a lexeme, where there is one of its number, or a phrase with its meaning by the name of each function
pub data Part : Type 0 where
  Word : (lexeme : Option PlainLexeme) → Part
  Phrase : (meaning : List ℕ → Meaning) → Part

-- ---- the equation of a phrase

-- the number of a function
abbrev pub number_of_function : PlainDescription → List ℕ → ℕ
number_of_function d name =
    position_or_len (bytes_eq name) (map (λ (f : PlainDeclaration). f.function) d.functions)

-- the equation is for the function and the alternative
abbrev pub is_equation_for : PlainDescription → (function : List ℕ) → (alternative : ℕ)
    → PlainEquation → Bool
is_equation_for d function alternative e =
    bytes_eq function e.function && same_number (alternative_of (items_of d) e) (Some alternative)

-- the first such equation among some
abbrev pub equation_among : PlainDescription → List PlainEquation
    → (function : List ℕ) → (alternative : ℕ) → Option PlainEquation
equation_among d [] function alternative = None
equation_among d (e ∷ es) function alternative =
    if is_equation_for d function alternative e then Some e
    else equation_among d es function alternative

-- the equation of a function for an alternative
abbrev pub equation_of : PlainDescription → (function : List ℕ) → (alternative : ℕ)
    → Option PlainEquation
equation_of d function alternative = equation_among d d.equations function alternative

-- ---- what is put into a template

-- the part for which a variable of the pattern stands
abbrev pub part_of : List PlainPatternPart → List Part → List ℕ → Option Part
part_of (p ∷ pattern) (x ∷ parts) v =
    if list_any (bytes_eq v) (option_to_list p.variable) then Some x else part_of pattern parts v
part_of _ _ v = None

-- the lexeme, where the part is one
abbrev pub lexeme_of : Option Part → Option PlainLexeme
lexeme_of (Some (Word l)) = l
lexeme_of _ = None

-- the bytes of an identifier stand in the place of a node's token
abbrev pub named_by : LexKind → (bytes : List ℕ) → (List ℕ → plain.Label) → Meaning
named_by Identifier bytes node = Ok (node bytes ∷ [])
named_by _ bytes node = Err Misfit

abbrev pub named : Option PlainLexeme → (List ℕ → plain.Label) → Meaning
named (Some l) node = named_by l.kind l.bytes node
named None node = Err Misfit

-- the value of a numeral is a number of the action
abbrev pub valued_by : LexKind → (value offset : ℕ) → Meaning
valued_by Numeral value offset =
    if nat_lt value (2 ^ 63) then Ok (plain.YielderNode (ykind.Number (pos value)) [] ∷ [])
    else Err (LargeNumeral offset)
valued_by _ value offset = Err Misfit

abbrev pub valued : Option PlainLexeme → Meaning
valued (Some l) = valued_by l.kind (number_of l.bytes) l.offset
valued None = Err Misfit

-- the meaning of a phrase by a function
abbrev pub applied : Option Part → (function : List ℕ) → Meaning
applied (Some (Phrase meaning)) function = meaning function
applied _ function = Err Misfit

-- what stands for a node of a template
abbrev pub node_filled : (part : List ℕ → Option Part) → Label → Meaning
node_filled part (ActionNode k n t) = Ok (plain.ActionNode k n t ∷ [])
node_filled part (YielderNode k t) = Ok (plain.YielderNode k t ∷ [])
node_filled part (ActionTokenOf k n t v) =
    named (lexeme_of (part v)) (λ bytes. plain.ActionNode k n bytes)
node_filled part (YielderTokenOf k t v) =
    named (lexeme_of (part v)) (λ bytes. plain.YielderNode k bytes)
node_filled part (ValueOf v) = valued (lexeme_of (part v))
node_filled part (Applied f v) = applied (part v) f

-- one behind the other, or the first gap
abbrev pub joined : Meaning → Meaning → Meaning
joined (Ok xs) (Ok ys) = Ok (xs ++ ys)
joined (Ok xs) (Err gap) = Err gap
joined (Err gap) _ = Err gap

-- a template with all that is put in
abbrev pub filled : (part : List ℕ → Option Part) → List Label → Meaning
filled part [] = Ok []
filled part (l ∷ ls) = joined (node_filled part l) (filled part ls)

-- ---- phrases

-- the template of an equation with the parts of a phrase, or a gap where there is no equation
abbrev pub equation_filled : Option PlainEquation → List Part → Gap → Meaning
equation_filled (Some e) parts gap = filled (part_of e.pattern parts) e.action
equation_filled None parts gap = Err gap

abbrev mutual
  -- the meaning of a phrase by a function
  pub meaning : PlainDescription → List PlainLexeme → PlainTree → (function : List ℕ) → Meaning
  meaning d ls (Node production alternative pieces start end) function =
      equation_filled (equation_of d function alternative) (parts_of d ls pieces)
      (NoEquation (number_of_function d function) production alternative)

  -- the parts of a phrase
  pub parts_of : PlainDescription → List PlainLexeme → Pieces → List Part
  parts_of d ls End = []
  parts_of d ls (Lexeme number rest) = Word (slice_get ls number) ∷ parts_of d ls rest
  parts_of d ls (Under tree rest) = Phrase (meaning d ls tree) ∷ parts_of d ls rest

-- the meaning by the main function, which is the first
abbrev pub meaning_by : PlainDescription → List PlainLexeme → PlainTree → List PlainDeclaration → Meaning
meaning_by d ls t [] = Err Misfit
meaning_by d ls t (main ∷ functions) = meaning d ls t main.function

-- what a source means: the meaning of its tree by the main function
abbrev pub expansion : PlainDescription → List PlainLexeme → PlainTree → Meaning
expansion d ls t = meaning_by d ls t d.functions
