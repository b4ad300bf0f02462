-- What reading tokens as a template or an action text answers.
use Rattle.std.specs.Prelude.{◌≡◌, ℕ, List, Bool}
use Rattle.action_text.specs.declared.reading.PlaceError.{PlaceError}
use Rattle.action_text.specs.declared.reading.PlaceError.TheVariants.{Memory, At}
use Rattle.meta_terms.specs.Templates.{Label, Tree}
use Rattle.action_text.specs.TemplateText.{SpellsIn, IsFirstBadIn}
use Rattle.action_text.specs.Posts.{postorder}

-- the labels are those of the template that the tokens spell, in postorder
abbrev pub AreLabelsOf : Bool → List (List ℕ) → List Label → Type 0
AreLabelsOf p tokens labels = (t : Tree) × SpellsIn p t tokens × (labels ≡ postorder t)

-- want of memory is free to come; a place is that of the first token with which the tokens so far begin no such text, or of their end
abbrev pub FailsAt : Bool → List (List ℕ) → PlaceError → Type 0
FailsAt p tokens Memory = Unit {0}
FailsAt p tokens (At place) = IsFirstBadIn p tokens place
