-- The grammar of action text, as a relation between trees and lists of tokens, each given by its bytes.
use Rattle.std.specs.Prelude.{◌≡◌, ◌⊎◌, ℕ, zero, suc, List, [], ◌∷◌, ◌++◌, Some, length, take, ◌<◌, ◌≤◌, ◌+◌}
use Rattle.acg_base.specs.Decimals.{spelled_i64}
use Rattle.action_terms.specs.Labels.{Label, Wanted, AnAction, AYielder, AnItem, AClosure, under}
use Rattle.action_terms.specs.Trees.{TreeOf, TreesOf, Tree, tree, Trees, none, more, IsAction}
use Rattle.action_text.specs.Shapes.{Piece, Fixed, Numeral, Quoted, Part, shape, operator_of, open_paren, close_paren}

-- the token is spelled as the piece says
abbrev pub IsSpelled : Piece → List ℕ → Type 0
IsSpelled (Fixed bytes) token = token ≡ bytes
IsSpelled (Numeral value) token = spelled_i64 token ≡ Some value
IsSpelled (Quoted bytes) token = token ≡ 34 ∷ (bytes ++ 34 ∷ [])
IsSpelled Part token = ⊥

-- the tokens are the pieces in order, with the parts in their places
abbrev pub Weaves : List Piece → List (List (List ℕ)) → List (List ℕ) → Type 0
Weaves [] [] tokens = tokens ≡ []
Weaves [] (part ∷ parts) tokens = ⊥
Weaves (Part ∷ pieces) [] tokens = ⊥
Weaves (Part ∷ pieces) (part ∷ parts) tokens = (rest : List (List ℕ)) × (tokens ≡ part ++ rest) × Weaves pieces parts rest
Weaves (Fixed bytes ∷ pieces) parts [] = ⊥
Weaves (Fixed bytes ∷ pieces) parts (token ∷ tokens) = IsSpelled (Fixed bytes) token × Weaves pieces parts tokens
Weaves (Numeral value ∷ pieces) parts [] = ⊥
Weaves (Numeral value ∷ pieces) parts (token ∷ tokens) = IsSpelled (Numeral value) token × Weaves pieces parts tokens
Weaves (Quoted bytes ∷ pieces) parts [] = ⊥
Weaves (Quoted bytes ∷ pieces) parts (token ∷ tokens) = IsSpelled (Quoted bytes) token × Weaves pieces parts tokens

-- what an operand may be, in so many pairs of parentheses; within one pair it may be a chain
abbrev pub IsEnclosed : ℕ → (List (List ℕ) → Type 0) → (List (List ℕ) → Type 0) → List (List ℕ) → Type 0
IsEnclosed zero Plain Chain tokens = Plain tokens
IsEnclosed (suc pairs) Plain Chain tokens =
    (inner : List (List ℕ)) × (tokens ≡ open_paren ∷ (inner ++ close_paren ∷ []))
    × (IsEnclosed pairs Plain Chain inner ⊎ Chain inner)

-- Operand = Primitive | unfolding Operand | furthermore Operand | ( Action )
abbrev pub IsOperand : (List (List ℕ) → Type 0) → (List (List ℕ) → Type 0) → List (List ℕ) → Type 0
IsOperand Plain Chain tokens = (pairs : ℕ) × IsEnclosed pairs Plain Chain tokens

-- a part: an action stands there as an operand, a yielder as it is
abbrev pub IsPart : Wanted → (List (List ℕ) → Type 0) → (List (List ℕ) → Type 0) → List (List ℕ) → Type 0
IsPart AnAction Plain Chain tokens = IsOperand Plain Chain tokens
IsPart AYielder Plain Chain tokens = Plain tokens
IsPart AnItem Plain Chain tokens = Plain tokens
IsPart AClosure Plain Chain tokens = Plain tokens

abbrev pub label_of : {L : Type 0} → TreeOf L → L
label_of (tree l ts) = l

-- labels with a spelling: what stands under each, its own tokens, and the words of an operator
pub record Forms (L : Type 0) : Type 0 where
  pub under : L → List Wanted
  pub shape : L → List Piece
  pub operator_of : L → List (List ℕ)

abbrev mutual
  -- a node by its own spelling: Primitive, `unfolding Operand`, `furthermore Operand`, Y or `them`
  pub IsPlainIn : {L : Type 0} → Forms L → TreeOf L → List (List ℕ) → Type 0
  IsPlainIn f (tree l ts) tokens = (parts : List (List (List ℕ))) × ArePartsIn f ts (f.under l) parts × Weaves (f.shape l) parts tokens

  -- Operand Op Operand { Op Operand }, every Op the same: the left operand of the last Op is the chain before it, or the first operand
  pub IsChainIn : {L : Type 0} → Forms L → TreeOf L → List (List ℕ) → Type 0
  IsChainIn f (tree l none) tokens = ⊥
  IsChainIn f (tree l (more a none)) tokens = ⊥
  IsChainIn f (tree l (more a (more b none))) tokens =
      (left : List (List ℕ)) × (op : List ℕ) × (ops : List (List ℕ)) × (right : List (List ℕ))
      × (tokens ≡ left ++ (op ∷ ops) ++ right)
      × (f.operator_of l ≡ op ∷ ops)
      × (((label_of a ≡ l) × IsChainIn f a left) ⊎ IsOperand (IsPlainIn f a) (IsChainIn f a) left)
      × IsOperand (IsPlainIn f b) (IsChainIn f b) right
  IsChainIn f (tree l (more a (more b (more c ts)))) tokens = ⊥

  -- the parts under a node, each with its tokens
  pub ArePartsIn : {L : Type 0} → Forms L → TreesOf L → List Wanted → List (List (List ℕ)) → Type 0
  ArePartsIn f none [] parts = parts ≡ []
  ArePartsIn f none (x ∷ xs) parts = ⊥
  ArePartsIn f (more t ts) [] parts = ⊥
  ArePartsIn f (more t ts) (x ∷ xs) [] = ⊥
  ArePartsIn f (more t ts) (x ∷ xs) (part ∷ parts) = IsPart x (IsPlainIn f t) (IsChainIn f t) part × ArePartsIn f ts xs parts

-- the forms of actions
abbrev pub action_forms : Forms Label
action_forms = record { under = under; shape = shape; operator_of = operator_of }

abbrev pub IsPlain : Tree → List (List ℕ) → Type 0
IsPlain t tokens = IsPlainIn action_forms t tokens

abbrev pub IsChain : Tree → List (List ℕ) → Type 0
IsChain t tokens = IsChainIn action_forms t tokens

abbrev pub ArePartsOf : Trees → List Wanted → List (List (List ℕ)) → Type 0
ArePartsOf ts xs parts = ArePartsIn action_forms ts xs parts

-- Action = Operand { Op Operand }
abbrev pub IsActionText : Tree → List (List ℕ) → Type 0
IsActionText t tokens = IsOperand (IsPlain t) (IsChain t) tokens ⊎ IsChain t tokens

-- the tokens spell the action
abbrev pub Spells : Tree → List (List ℕ) → Type 0
Spells t tokens = IsAction t × IsActionText t tokens

-- some tokens make these an action text
abbrev pub BeginsAction : List (List ℕ) → Type 0
BeginsAction tokens = (following : List (List ℕ)) × (t : Tree) × Spells t (tokens ++ following)

-- the tokens before the place begin an action text, and with the token there they don't; at the end they are none
pub record IsFirstBad (tokens : List (List ℕ)) (place : ℕ) : Type 0 where
  pub inside : place ≤ length tokens
  pub before : BeginsAction (take place tokens)
  pub token : place < length tokens → BeginsAction (take (place + 1) tokens) → ⊥
  pub early : place ≡ length tokens → (t : Tree) → Spells t tokens → ⊥
