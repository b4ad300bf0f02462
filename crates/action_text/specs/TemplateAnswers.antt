-- What reading a template answers, and when each error comes.
use Rattle.std.specs.Prelude.{◌≡◌, true, ℕ, ◌+◌, List}
use Rattle.action_terms.specs.Trees.{preorder}
use Rattle.meta_terms.specs.Templates.{Label, Tree}
use Rattle.action_text.specs.TemplateText.{Spells, IsFirstBadIn}
use Rattle.action_text.specs.declared.template_reader.TemplateError.{TemplateError}
use Rattle.action_text.specs.declared.template_reader.TemplateError.TheVariants as error

-- the labels are those, in preorder, of the template that the tokens spell, and they spell no other
pub record IsTemplateOf (tokens : List (List ℕ)) (labels : List Label) : Type 0 where
  pub template : Tree
  pub spells : Spells template tokens
  pub labels_are : labels ≡ preorder template
  pub no_other : (u : Tree) → Spells u tokens → u ≡ template

-- want of memory is free to come; the token is the first with which those so far begin no template, or the end of tokens that begin one and are none
abbrev pub IsTemplateError : List (List ℕ) → ℕ → TemplateError → Type 0
IsTemplateError tokens from error.Memory = Unit {0}
IsTemplateError tokens from (error.At token) = (place : ℕ) × (token ≡ from + place) × IsFirstBadIn true tokens place
