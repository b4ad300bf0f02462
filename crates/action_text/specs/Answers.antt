-- What reading an action text answers, and when each error comes.
use Rattle.std.specs.Prelude.{◌≡◌, ℕ, zero, suc, ◌<◌, ◌≤◌, List, [], ◌∷◌, length, map, Some, slice_get}
use Rattle.meta_lex.specs.Tokens.{PlainToken, AreTokens, IsBadByte}
use Rattle.action_terms.specs.Labels.{Label}
use Rattle.action_terms.specs.Trees.{Tree, IsAction, preorder}
use Rattle.action_terms.specs.Numbering.{Listed, IsGraphOf, strays, node_limit}
use Rattle.action_text.specs.declared.errors.TextError.{TextError}
use Rattle.action_text.specs.declared.errors.TextError.TheVariants as error
use Rattle.action_text.specs.ActionText.{Spells, IsFirstBad}

abbrev pub token_bytes : List PlainToken → List (List ℕ)
token_bytes ts = map (λ (t : PlainToken). t.bytes) ts

-- the text is that of the action: its tokens spell it, and no other action
pub record IsTextOf (bytes : List ℕ) (t : Tree) : Type 0 where
  pub tokens : List PlainToken
  pub are_tokens : AreTokens bytes tokens
  pub spells : Spells t (token_bytes tokens)
  pub no_other : (u : Tree) → Spells u (token_bytes tokens) → u ≡ t

-- the graph is that of the action of the text
abbrev pub IsReadAs : List ℕ → Listed → Type 0
IsReadAs bytes g = (t : Tree) × IsTextOf bytes t × IsGraphOf g t

-- the labels are those of the action of the text, in preorder
abbrev pub AreTextLabels : List ℕ → List Label → Type 0
AreTextLabels bytes labels = (t : Tree) × IsTextOf bytes t × (labels ≡ preorder t)

-- the graph is that of the action that has the labels in preorder
abbrev pub IsGraphOfLabels : Listed → List Label → Type 0
IsGraphOfLabels g labels = (t : Tree) → IsAction t → preorder t ≡ labels → IsGraphOf g t

-- the node is the first stray `unfold` of the action that has the labels in preorder
abbrev pub IsStrayOf : ℕ → List Label → Type 0
IsStrayOf node labels = (t : Tree) → IsAction t → preorder t ≡ labels → slice_get (strays t) 0 ≡ Some node

-- where a token begins, or how many bytes there are behind the last one
abbrev pub offset_of : List PlainToken → ℕ → ℕ → ℕ
offset_of [] place size = size
offset_of (t ∷ ts) zero size = t.offset
offset_of (t ∷ ts) (suc place) size = offset_of ts place size

-- the tokens before the offset begin an action text, and with the token there they don't; at the end of the text they are none
pub record IsBadText (bytes : List ℕ) (offset : ℕ) : Type 0 where
  pub tokens : List PlainToken
  pub are_tokens : AreTokens bytes tokens
  pub place : ℕ
  pub first_bad : IsFirstBad (token_bytes tokens) place
  pub offset_is : offset ≡ offset_of tokens place (length bytes)

-- want of memory is free to come. Bytes come before text, text before nodes, and nodes before a stray `unfold`
abbrev pub IsTextError : List ℕ → TextError → Type 0
IsTextError bytes error.Memory = Unit {0}
IsTextError bytes (error.BadByte offset) = IsBadByte bytes offset
IsTextError bytes (error.NotAction offset) = IsBadText bytes offset
IsTextError bytes error.Nodes = (t : Tree) × IsTextOf bytes t × (node_limit < length (preorder t))
IsTextError bytes (error.StrayUnfold node) = (t : Tree) × IsTextOf bytes t × (length (preorder t) ≤ node_limit) × (slice_get (strays t) 0 ≡ Some node)
