-- The canonical text of an action: its tokens, and the spaces between them.
use Rattle.std.specs.Prelude.{◌≢◌, All, ℕ, Bool, true, false, ◌||◌, ◌&&◌, List, [], ◌∷◌, ◌++◌, codes, if◌then◌else◌, FitsSigned}
use Rattle.std.specs.Int.{w64}
use Rattle.std.specs.List.{list_any}
use Rattle.acg_base.specs.Decimals.{decimal_of}
use Rattle.action_terms.specs.Labels.{Label, ActionNode, YielderNode}
use Rattle.action_terms.specs.Trees.{Tree, tree, Trees, none, more}
use Rattle.action_terms.specs.Numbering.{Listed, ListedNode}
use Rattle.action_terms.specs.declared.kinds.Kind.TheVariants as kind
use Rattle.action_terms.specs.declared.kinds.YKind.TheVariants as ykind
use Rattle.action_text.specs.Shapes.{Piece, Fixed, Numeral, Quoted, Part, shape, operator_of, open_paren, close_paren, comma}
use Rattle.action_text.specs.ActionText.{label_of}
use Rattle.meta_terms.specs.Words.{same_bytes}

-- a branch is printed, and can't be read
abbrev pub printed_shape : Label → List Piece
printed_shape (ActionNode kind.Branch n t) = Fixed (codes "branch") ∷ Fixed open_paren ∷ Part ∷ Fixed comma ∷ Part ∷ Fixed comma ∷ Part ∷ Fixed close_paren ∷ []
printed_shape l = shape l

-- the tokens of the pieces, with the parts in their places
abbrev pub woven : List Piece → List (List (List ℕ)) → List (List ℕ)
woven [] parts = []
woven (Part ∷ pieces) [] = woven pieces []
woven (Part ∷ pieces) (part ∷ parts) = part ++ woven pieces parts
woven (Fixed bytes ∷ pieces) parts = bytes ∷ woven pieces parts
woven (Numeral value ∷ pieces) parts = decimal_of value ∷ woven pieces parts
woven (Quoted bytes ∷ pieces) parts = (34 ∷ (bytes ++ 34 ∷ [])) ∷ woven pieces parts

abbrev pub is_some_word : List (List ℕ) → Bool
is_some_word [] = false
is_some_word (w ∷ ws) = true

abbrev pub is_operator : Label → Bool
is_operator l = is_some_word (operator_of l)

-- the words of both operators are the same
abbrev pub same_words : List (List ℕ) → List (List ℕ) → Bool
same_words [] [] = true
same_words [] (w ∷ ws) = false
same_words (v ∷ vs) [] = false
same_words (v ∷ vs) (w ∷ ws) = same_bytes v w && same_words vs ws

abbrev mutual
  -- the tokens of a node that is no chain
  pub plain_tokens : Tree → List (List ℕ)
  plain_tokens (tree l ts) = woven (printed_shape l) (operand_tokens ts)

  -- the tokens of a chain: a left operand with the same operator is a part of it, and any other chain stands in parentheses
  pub chain_tokens : Tree → List (List ℕ)
  chain_tokens (tree l none) = []
  chain_tokens (tree l (more a none)) = []
  chain_tokens (tree l (more a (more b ts))) =
      (if same_words (operator_of (label_of a)) (operator_of l) then chain_tokens a
      else if is_operator (label_of a) then open_paren ∷ (chain_tokens a ++ close_paren ∷ [])
      else plain_tokens a)
      ++ operator_of l
      ++ (if is_operator (label_of b) then open_paren ∷ (chain_tokens b ++ close_paren ∷ []) else plain_tokens b)

  -- the tokens of each part of a node, a chain in parentheses
  pub operand_tokens : Trees → List (List (List ℕ))
  operand_tokens none = []
  operand_tokens (more t ts) =
      (if is_operator (label_of t) then open_paren ∷ (chain_tokens t ++ close_paren ∷ []) else plain_tokens t) ∷ operand_tokens ts

-- the tokens of an action
abbrev pub action_tokens : Tree → List (List ℕ)
action_tokens t = if is_operator (label_of t) then chain_tokens t else plain_tokens t

-- the words behind which a parenthesis opens arguments
abbrev pub function_words : List (List ℕ)
function_words =
    codes "sum" ∷ codes "difference" ∷ codes "product" ∷ codes "integer-quotient" ∷ codes "integer-remainder" ∷ codes "is" ∷ codes "than"
    ∷ codes "both" ∷ codes "either" ∷ codes "negation" ∷ codes "not" ∷ codes "branch" ∷ []

-- no space stands behind an opening parenthesis, before a closing one, before a comma and before a parenthesis that opens arguments
abbrev pub is_joined : List ℕ → List ℕ → Bool
is_joined before token =
    same_bytes before open_paren || same_bytes token close_paren || same_bytes token comma
    || (same_bytes token open_paren && list_any (same_bytes before) function_words)

-- tokens with one space between them, or none
abbrev pub spaced : List (List ℕ) → List ℕ
spaced [] = []
spaced (token ∷ []) = token
spaced (token ∷ next ∷ tokens) = token ++ ((if is_joined token next then [] else 32 ∷ []) ++ spaced (next ∷ tokens))

-- the canonical text of an action
abbrev pub canonical_text : Tree → List ℕ
canonical_text t = spaced (action_tokens t)

-- a node that a text can give, with a number of 64 signed bits
abbrev pub IsReadableLabel : Label → Type 0
IsReadableLabel (ActionNode kind.Branch n t) = ⊥
IsReadableLabel (ActionNode _ n t) = Unit {0}
IsReadableLabel (YielderNode (ykind.Number z) t) = FitsSigned w64 z
IsReadableLabel (YielderNode _ t) = Unit {0}

-- no branch, and each number of 64 signed bits
abbrev mutual
  pub IsReadable : Tree → Type 0
  IsReadable (tree l ts) = IsReadableLabel l × AreReadable ts

  pub AreReadable : Trees → Type 0
  AreReadable none = Unit {0}
  AreReadable (more t ts) = IsReadable t × AreReadable ts

-- no node of the graph is a branch
abbrev pub HasNoBranch : Listed → Type 0
HasNoBranch g = All (λ (n : ListedNode). n.kind ≢ kind.Branch) g.nodes
