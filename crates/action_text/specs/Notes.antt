-- What the marks of a text write: the labels of its nodes, each behind those of its parts.
use Rattle.std.specs.Prelude.{ℕ, Bool, false, ◌==◌, ◌+◌, ◌-◌, List, [], ◌∷◌, ◌++◌, length, take, drop, ℤ, pos, negsuc, unwrap_or, nat_le, if◌then◌else◌}
use Rattle.acg_base.specs.Decimals.{spelled_i64}
use Rattle.meta_terms.specs.Templates.{Label, ActionNode, YielderNode, ActionTokenOf, YielderTokenOf, Applied, ValueOf}
use Rattle.action_terms.specs.declared.kinds.Kind.{Kind}
use Rattle.action_terms.specs.declared.kinds.YKind.{YKind}
use Rattle.action_terms.specs.declared.kinds.YKind.TheVariants as ykind
use Rattle.action_terms.specs.declared.kinds.Sort.{Sort}
use Rattle.action_terms.specs.declared.kinds.Sort.TheVariants as sort
use Rattle.action_text.specs.declared.table.Mark.{Mark}
use Rattle.action_text.specs.declared.table.Mark.TheVariants as mark
use Rattle.action_text.specs.Tables.{Written, Token, Noted}

-- what is remembered until its node is written: a token, a number of items, or a sort
pub data Note : Type 0 where
  KeptToken : (token : List ℕ) → Note
  Count : (items : ℕ) → Note
  NotedSort : (sort : Sort) → Note

-- the notes, the last first, and the labels that are written
pub record Noting : Type 0 where
  pub notes : List Note
  pub labels : List Label

-- the token, the number of items and the sort of the last note
abbrev pub kept : List Note → List ℕ
kept (KeptToken t ∷ notes) = t
kept _ = []

abbrev pub counted : List Note → ℕ
counted (Count n ∷ notes) = n
counted _ = 0

abbrev pub noted_sort : List Note → Sort
noted_sort (NotedSort s ∷ notes) = s
noted_sort _ = sort.Integer

-- the bytes between the quotes
abbrev pub unquoted : List ℕ → List ℕ
unquoted token = take (length token - 2) (drop 1 token)

-- the value of a number
abbrev pub value_of : List ℕ → ℤ
value_of token = unwrap_or (spelled_i64 token) (pos 0)

-- the place among the transients that a number names, from 1 to 64
abbrev pub place_of : ℤ → ℕ
place_of (pos n) = if nat_le n 64 then n else 0
place_of (negsuc n) = 0

-- of the tokens that are kept, only a quoted text begins with a quote
abbrev pub begins_quoted : List ℕ → Bool
begins_quoted [] = false
begins_quoted (b ∷ rest) = b == 34

-- a node with the token that was kept: a quoted text, or a variable
abbrev pub action_with : Kind → List ℕ → Label
action_with k t = if begins_quoted t then ActionNode k 0 (unquoted t) else ActionTokenOf k 0 [] t

abbrev pub yielder_with : YKind → List ℕ → Label
yielder_with k t = if begins_quoted t then YielderNode k (unquoted t) else YielderTokenOf k [] t

-- the notes without the last n, and one more label
abbrev pub writes : ℕ → Label → Noting → Noting
writes n l st = record { notes = drop n st.notes; labels = st.labels ++ l ∷ [] }

-- the notes without the last n, and another note
abbrev pub notes : ℕ → Note → Noting → Noting
notes n x st = record { notes = x ∷ drop n st.notes; labels = st.labels }

abbrev pub marked : Mark → Noting → Noting
marked (mark.Action k) st = writes 0 (ActionNode k 0 []) st
marked (mark.ActionWithItems k) st = writes 1 (ActionNode k (counted st.notes) []) st
marked (mark.ActionWithToken k) st = writes 1 (action_with k (kept st.notes)) st
marked (mark.Yielder k) st = writes 0 (YielderNode k []) st
marked mark.Number st = writes 1 (YielderNode (ykind.Number (value_of (kept st.notes))) []) st
marked mark.Given st = writes 1 (YielderNode (ykind.Given (noted_sort st.notes) 0) []) st
marked mark.GivenAt st = writes 2 (YielderNode (ykind.Given (noted_sort (drop 1 st.notes)) (place_of (value_of (kept st.notes)))) []) st
marked mark.Bound st = writes 2 (yielder_with (ykind.Bound (noted_sort (drop 1 st.notes))) (kept st.notes)) st
marked mark.Stored st = writes 1 (YielderNode (ykind.Stored (noted_sort st.notes)) []) st
marked mark.NoItems st = notes 0 (Count 0) st
marked mark.FirstItem st = notes 0 (Count 1) st
marked mark.NextItem st = notes 1 (Count (counted st.notes + 1)) st
marked (mark.Sort s) st = notes 0 (NotedSort s) st
marked mark.Applied st = writes 2 (Applied (kept (drop 1 st.notes)) (kept st.notes)) st
marked mark.ValueOf st = writes 1 (ValueOf (kept st.notes)) st

-- the notes with the token, where it is kept
abbrev pub kept_if : Bool → List ℕ → List Note → List Note
kept_if keeps t notes = if keeps then KeptToken t ∷ notes else notes

-- the notes with one item more
abbrev pub one_more : List Note → List Note
one_more notes = Count (counted notes + 1) ∷ drop 1 notes

abbrev pub note : Written → Noting → Noting
note (Token t) st = notes 0 (KeptToken t) st
note (Noted m) st = marked m st

-- what a list writes
abbrev pub noted : List Written → Noting → Noting
noted [] st = st
noted (o ∷ os) st = noted os (note o st)
