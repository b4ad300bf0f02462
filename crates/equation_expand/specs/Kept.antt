-- What the equations of a description and the lexemes of a source keep in memory.
use Rattle.std.specs.Prelude.{◌≡◌, true, List, [], ◌∷◌, All, IsTrue}
use Rattle.action_terms.specs.Labels.{AnAction}
use Rattle.source_lex.specs.Forms.{has_form}
use Rattle.source_lex.specs.Lexemes.{PlainLexeme}
use Rattle.meta_terms.specs.PlainItems.{PlainEquation}
use Rattle.meta_terms.specs.Templates.{fills}

-- the template of each equation is one whole action
abbrev pub HasWholeTemplates : List PlainEquation → Type 0
HasWholeTemplates es = All (λ (e : PlainEquation). fills (AnAction ∷ []) e.action ≡ true) es

-- identifiers and numerals have their forms
abbrev pub HaveForms : List PlainLexeme → Type 0
HaveForms ls = All (λ (l : PlainLexeme). IsTrue (has_form l.kind l.bytes)) ls
