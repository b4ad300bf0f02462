-- What contracts see of notes and labels.
use Rattle.std.specs.Prelude.{◌≡◌, List, [], ◌∷◌, ◌++◌, map, reverse}
use Rattle.meta_terms.specs.Templates.{Label}
use Rattle.meta_terms.specs.Nodes.{label_of}
use Rattle.meta_terms.specs.declared.template.TemplateNode.{TemplateNode}
use Rattle.action_text.specs.declared.notes.Note.{Note}
use Rattle.action_text.specs.declared.notes.Note.TheVariants as note
use Rattle.action_text.specs.Notes as plain

-- a note outside the arena of its token
abbrev pub plain_note : Note → plain.Note
plain_note (note.Kept t) = plain.KeptToken t.now
plain_note (note.Items n) = plain.Count n
plain_note (note.Noted s) = plain.NotedSort s

-- the notes, the last first
abbrev pub notes_of : List Note → List plain.Note
notes_of notes = reverse (map plain_note notes)

-- notes and labels, the last note last in its list
abbrev pub noting_of : List Note → List TemplateNode → plain.Noting
noting_of notes labels = record { notes = notes_of notes; labels = map label_of labels }

-- the labels are those before, and one more
abbrev pub HasMore : (old new : List TemplateNode) → Label → Type 0
HasMore old new l = map label_of new ≡ map label_of old ++ l ∷ []
