-- The description of a language that bytes are, and why they are none.
use Rattle.std.specs.Prelude.{◌<◌, ◌≤◌, ℕ, List, length}
use Rattle.acg_base.specs.declared.limits.TheConstants.{LIMIT_DESCRIPTION}
use Rattle.gram_form.specs.Grammars.{IsGrammar}
use Rattle.meta_lex.specs.Tokens.{PlainToken, AreTokens, IsBadByte}
use Rattle.meta_terms.specs.PlainItems.{PlainItem}
use Rattle.action_text.specs.Answers.{token_bytes}
use Rattle.meta_reader.specs.Descriptions.{IsDescription, IsBadItem}
use Rattle.meta_check.specs.Checked.{PlainDescription, IsDescriptionOf}
use Rattle.meta_check.specs.Rules.{IsWellFormed, IsFirstBroken}

-- the bytes are within their limit and are the tokens of items that meet the rules, and the description has what these items have
pub record Describes (bytes : List ℕ) (d : PlainDescription) : Type 0 where
  pub within : length bytes ≤ LIMIT_DESCRIPTION
  pub tokens : List PlainToken
  pub are_tokens : AreTokens bytes tokens
  pub items : List PlainItem
  pub are_items : IsDescription (token_bytes tokens) items
  pub rules : IsWellFormed items
  pub kept : IsDescriptionOf items d
  pub grammar : IsGrammar d.grammar

-- why bytes are no description
pub data DescriptionCause : Type 0 where
  -- they are more than the limit
  TooLong : DescriptionCause
  -- no token begins at the offset
  NoToken : (offset : ℕ) → DescriptionCause
  -- with the item of this number they begin no description
  NoItem : (index : ℕ) → DescriptionCause
  -- the item breaks the rule, and is the first that does; no rule before it is broken
  BrokenRule : (rule item : ℕ) → DescriptionCause

-- each cause is looked at only where none before it holds, so two never come together
abbrev pub IsDescriptionCause : (bytes : List ℕ) → DescriptionCause → Type 0
IsDescriptionCause bytes TooLong = LIMIT_DESCRIPTION < length bytes
IsDescriptionCause bytes (NoToken offset) =
    (length bytes ≤ LIMIT_DESCRIPTION) × IsBadByte bytes offset
    × ((tokens : List PlainToken) → AreTokens bytes tokens → ⊥)
IsDescriptionCause bytes (NoItem index) =
    (length bytes ≤ LIMIT_DESCRIPTION)
    × (tokens : List PlainToken) × AreTokens bytes tokens × IsBadItem (token_bytes tokens) index
IsDescriptionCause bytes (BrokenRule rule item) =
    (length bytes ≤ LIMIT_DESCRIPTION)
    × (tokens : List PlainToken) × (items : List PlainItem) × AreTokens bytes tokens
    × IsDescription (token_bytes tokens) items × IsFirstBroken items rule item
