-- Descriptions as runs of tokens, and the first run that is none of one.
use Rattle.std.specs.Prelude.{◌≡◌, ℕ, ◌+◌, ◌<◌, ◌≤◌, Bool, true, List, [], ◌∷◌, ◌++◌, length, take, Option, Some, None, codes, if◌then◌else◌}
use Rattle.std.specs.Str.{bytes_eq}
use Rattle.std.specs.Option.{option_to_list}
use Rattle.meta_terms.specs.PlainItems.{PlainItem}
use Rattle.meta_reader.specs.declared.phase.Phase.{Phase}
use Rattle.meta_reader.specs.declared.phase.Phase.TheVariants.{Heading, Productions, Equations, Ended}
use Rattle.meta_reader.specs.ItemForms.{Tokens, IsOfGrammar, IsOfSemantics}

-- a full stop
abbrev pub is_stop : List ℕ → Bool
is_stop token = bytes_eq token (46 ∷ [])

-- a token in front of the first run
abbrev pub longer : List ℕ → List Tokens → List Tokens
longer token [] = []
longer token (run ∷ runs) = (token ∷ run) ∷ runs

-- the runs of tokens, each up to a full stop, which is no part of it; what stands behind the last full stop is none of them
abbrev pub runs_of : Tokens → List Tokens
runs_of [] = []
runs_of (t ∷ ts) = if is_stop t then [] ∷ runs_of ts else longer t (runs_of ts)

-- nothing stands behind the last full stop
abbrev pub is_finished : Tokens → Bool
is_finished [] = true
is_finished (t ∷ []) = is_stop t
is_finished (t ∷ u ∷ ts) = is_finished (u ∷ ts)

-- the run begins with the word, and the rest is of the form
abbrev pub IsHeaded : List ℕ → (Tokens → PlainItem → Type 0) → Tokens → PlainItem → Type 0
IsHeaded word Form run item = (rest : Tokens) × (run ≡ word ∷ rest) × Form rest item

-- a run that stands in one phase, its item, and the phase behind it
abbrev pub Steps : Phase → Tokens → Option PlainItem → Phase → Type 0
Steps Heading run (Some item) Productions = IsHeaded (codes "grammar") IsOfGrammar run item
Steps Productions run (Some item) Productions = IsOfGrammar run item
Steps Productions run (Some item) Equations = IsHeaded (codes "semantics") IsOfSemantics run item
Steps Equations run (Some item) Equations = IsOfSemantics run item
Steps Equations run None Ended = run ≡ codes "end" ∷ []
Steps _ run item next = ⊥

-- runs that lead from one phase to another, and their items
abbrev pub Leads : Phase → List Tokens → List PlainItem → Phase → Type 0
Leads phase [] items last = (items ≡ []) × (phase ≡ last)
Leads phase (run ∷ runs) items last =
    (item : Option PlainItem) × (next : Phase) × (rest : List PlainItem)
    × (items ≡ option_to_list item ++ rest) × Steps phase run item next × Leads next runs rest last

-- the tokens are those of a description with these items
abbrev pub IsDescription : Tokens → List PlainItem → Type 0
IsDescription tokens items = (is_finished tokens ≡ true) × Leads Heading (runs_of tokens) items Ended

-- with some more runs, they are those of a description
abbrev pub Begins : List Tokens → Type 0
Begins runs = (more : List Tokens) × (items : List PlainItem) × Leads Heading (runs ++ more) items Ended

-- the runs before the index begin a description, and with the run there they don't; behind the last run they are none
pub record IsBadItem (tokens : Tokens) (index : ℕ) : Type 0 where
  pub within : index ≤ length (runs_of tokens)
  pub before : Begins (take index (runs_of tokens))
  pub run : index < length (runs_of tokens) → Begins (take (index + 1) (runs_of tokens)) → ⊥
  pub early : index ≡ length (runs_of tokens) → (items : List PlainItem) → IsDescription tokens items → ⊥
