-- The grammar of templates: that of action text, with operands `f V`, yielders `value of V` and tokens `token of V` besides.
use Rattle.std.specs.Prelude.{◌≡◌, ◌⊎◌, ℕ, Bool, true, false, List, [], ◌∷◌, ◌++◌, length, take, ◌<◌, ◌≤◌, ◌+◌, codes}
use Rattle.action_terms.specs.Labels.{Wanted}
use Rattle.action_terms.specs.Trees.{tree, none, more}
use Rattle.action_terms.specs.declared.kinds.Kind.TheVariants as kind
use Rattle.action_terms.specs.declared.kinds.YKind.TheVariants as ykind
use Rattle.action_text.specs.Shapes.{Piece, Fixed, Part, action_shape, yielder_shape, operator, sort_word}
use Rattle.action_text.specs.ActionText.{Forms, IsPlainIn, IsChainIn, ArePartsIn, IsOperand}
use Rattle.meta_terms.specs.Templates.{Label, ActionNode, YielderNode, ActionTokenOf, YielderTokenOf, Applied, ValueOf, Tree, Trees, under, IsAction}

abbrev pub shape : Label → List Piece
shape (ActionNode k n t) = action_shape k n t
shape (YielderNode k t) = yielder_shape k t
shape (ActionTokenOf kind.Bind n t v) = Fixed (codes "bind") ∷ Fixed (codes "token") ∷ Fixed (codes "of") ∷ Fixed v ∷ Fixed (codes "to") ∷ Part ∷ []
shape (ActionTokenOf kind.BindRec n t v) = Fixed (codes "recursively") ∷ Fixed (codes "bind") ∷ Fixed (codes "token") ∷ Fixed (codes "of") ∷ Fixed v ∷ Fixed (codes "to") ∷ Part ∷ []
shape (ActionTokenOf _ n t v) = []
shape (YielderTokenOf (ykind.Bound s) t v) = Fixed (codes "the") ∷ Fixed (sort_word s) ∷ Fixed (codes "bound") ∷ Fixed (codes "to") ∷ Fixed (codes "token") ∷ Fixed (codes "of") ∷ Fixed v ∷ []
shape (YielderTokenOf _ t v) = []
shape (Applied f v) = Fixed f ∷ Fixed v ∷ []
shape (ValueOf v) = Fixed (codes "value") ∷ Fixed (codes "of") ∷ Fixed v ∷ []

abbrev pub operator_of : Label → List (List ℕ)
operator_of (ActionNode k n t) = operator k
operator_of _ = []

abbrev pub template_forms : Forms Label
template_forms = record { under = under; shape = shape; operator_of = operator_of }

abbrev pub IsPlain : Tree → List (List ℕ) → Type 0
IsPlain t tokens = IsPlainIn template_forms t tokens

abbrev pub IsChain : Tree → List (List ℕ) → Type 0
IsChain t tokens = IsChainIn template_forms t tokens

abbrev pub ArePartsOf : Trees → List Wanted → List (List (List ℕ)) → Type 0
ArePartsOf ts xs parts = ArePartsIn template_forms ts xs parts

abbrev pub IsActionText : Tree → List (List ℕ) → Type 0
IsActionText t tokens = IsOperand (IsPlain t) (IsChain t) tokens ⊎ IsChain t tokens

-- the tokens spell the template
abbrev pub Spells : Tree → List (List ℕ) → Type 0
Spells t tokens = IsAction t × IsActionText t tokens

-- the tree is an action
abbrev pub is_plain_label : Label → Bool
is_plain_label (ActionNode k n t) = true
is_plain_label (YielderNode k t) = true
is_plain_label _ = false

abbrev mutual
  pub IsBare : Tree → Type 0
  IsBare (tree l ts) = (is_plain_label l ≡ true) × AreBare ts

  pub AreBare : Trees → Type 0
  AreBare none = Unit {0}
  AreBare (more t ts) = IsBare t × AreBare ts

-- the tokens spell the template; without parameters, it is an action
abbrev pub SpellsIn : Bool → Tree → List (List ℕ) → Type 0
SpellsIn true t tokens = Spells t tokens
SpellsIn false t tokens = IsBare t × Spells t tokens

-- some tokens make these such a text
abbrev pub BeginsIn : Bool → List (List ℕ) → Type 0
BeginsIn p tokens = (following : List (List ℕ)) × (t : Tree) × SpellsIn p t (tokens ++ following)

-- the tokens before the place begin such a text, and with the token there they don't; at the end they are none
pub record IsFirstBadIn (p : Bool) (tokens : List (List ℕ)) (place : ℕ) : Type 0 where
  pub inside : place ≤ length tokens
  pub before : BeginsIn p (take place tokens)
  pub token : place < length tokens → BeginsIn p (take (place + 1) tokens) → ⊥
  pub early : place ≡ length tokens → (t : Tree) → SpellsIn p t tokens → ⊥
