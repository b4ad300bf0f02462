-- What each name of the table of action text means.
use Rattle.std.proofs.Common.{◌≡◌, ◌⊎◌, true, ℕ, ◌+◌, List, [], ◌∷◌, ◌++◌, get_or, codes}
use Rattle.action_terms.specs.Labels.{Wanted, AnAction, AYielder, AnItem, AClosure, copies}
use Rattle.meta_terms.specs.Templates.{Label, ActionNode, Tree, Trees, Is, Are, IsAction}
use Rattle.action_terms.specs.declared.kinds.Kind.{Kind}
use Rattle.action_terms.specs.declared.kinds.Kind.TheVariants as kind
use Rattle.action_text.specs.Shapes.{items, more_items, sort_word, open_paren}
use Rattle.action_text.specs.ActionText.{IsPart, IsOperand, Weaves, label_of}
use Rattle.action_text.specs.TemplateText.{IsPlain, IsChain, ArePartsOf, IsActionText}
use Rattle.action_text.specs.Posts.{postorder, postorders}
use Rattle.meta_lex.specs.Forms.{is_quoted}
use Rattle.meta_terms.specs.Names.{is_variable}
use Rattle.action_text.specs.Tables.{Token}
use Rattle.action_text.specs.Notes.{Noting, Note, Count, NotedSort, note}
use Rattle.action_text.proofs.Meanings.{Meant}

-- more labels are written
abbrev pub wrote : List Label → Noting → Noting
wrote ls st = record { notes = st.notes; labels = st.labels ++ ls }

-- the tokens spell a part, and its labels are written
abbrev pub MeansPart : Wanted → Noting → List (List ℕ) → Noting → Type 0
MeansPart x st ts end = (t : Tree) × Is x t × IsPart x (IsPlain t) (IsChain t) ts × (end ≡ wrote (postorder t) st)

abbrev pub MeansAction : Noting → List (List ℕ) → Noting → Type 0
MeansAction st ts end = (t : Tree) × IsAction t × IsActionText t ts × (end ≡ wrote (postorder t) st)

-- behind the tokens before, the tokens spell a node
abbrev pub MeansRest : Wanted → List (List ℕ) → Noting → List (List ℕ) → Noting → Type 0
MeansRest x before st ts end = (t : Tree) × Is x t × IsPlain t (before ++ ts) × (end ≡ wrote (postorder t) st)

-- the labels in place of those of the tree that was written last
abbrev pub replaced : List Label → List Label → Noting → Noting
replaced ls new st = record { notes = st.notes; labels = ls ++ new }

-- behind an operand and the tokens between, the tokens go on an action
abbrev pub MeansChain : List (List ℕ) → Noting → List (List ℕ) → Noting → Type 0
MeansChain between st ts end = (ls : List Label) (a : Tree) → IsAction a → st.labels ≡ ls ++ postorder a →
    (t : Tree) × IsAction t × (end ≡ replaced ls (postorder t) st)
    × ((left : List (List ℕ)) → IsOperand (IsPlain a) (IsChain a) left → IsActionText t (left ++ (between ++ ts)))

-- behind a chain of the operator the tokens go it on
abbrev pub MeansMore : Kind → Noting → List (List ℕ) → Noting → Type 0
MeansMore k st ts end = (ls : List Label) (a : Tree) → IsAction a → label_of a ≡ ActionNode k 0 [] → st.labels ≡ ls ++ postorder a →
    (t : Tree) × IsAction t × (end ≡ replaced ls (postorder t) st)
    × ((left : List (List ℕ)) → IsChain a left → IsChain t (left ++ ts))

-- the tokens, behind those before, spell the items of data, and their number is noted
abbrev pub MeansItems : List (List ℕ) → Noting → List (List ℕ) → Noting → Type 0
MeansItems before st ts end =
    (n : ℕ) × (kids : Trees) × (parts : List (List (List ℕ))) × Are (copies n AnItem) kids × ArePartsOf kids (copies n AnItem) parts
    × Weaves (items n) parts (before ++ ts) × (end ≡ record { notes = Count n ∷ st.notes; labels = st.labels ++ postorders kids })

-- the tokens go on behind n items
abbrev pub MeansMoreItems : Noting → List (List ℕ) → Noting → Type 0
MeansMoreItems st ts end = (n : ℕ) (ns : List Note) → st.notes ≡ Count n ∷ ns →
    (m : ℕ) × (kids : Trees) × (parts : List (List (List ℕ))) × Are (copies m AnItem) kids × ArePartsOf kids (copies m AnItem) parts
    × Weaves (more_items m) parts ts × (end ≡ record { notes = Count (n + m) ∷ ns; labels = st.labels ++ postorders kids })

-- behind the tokens before and a sort, the tokens spell a yielder
abbrev pub MeansSorted : List (List ℕ) → Noting → List (List ℕ) → Noting → Type 0
MeansSorted before st ts end = (s : Rattle.action_terms.specs.declared.kinds.Sort.Sort) (ns : List Note) → st.notes ≡ NotedSort s ∷ ns →
    (t : Tree) × Is AYielder t × IsPlain t (before ++ (sort_word s ∷ ts)) × (end ≡ record { notes = ns; labels = st.labels ++ postorder t })

abbrev pub MeansSort : Noting → List (List ℕ) → Noting → Type 0
MeansSort st ts end = (s : Rattle.action_terms.specs.declared.kinds.Sort.Sort) × (ts ≡ sort_word s ∷ []) × (end ≡ record { notes = NotedSort s ∷ st.notes; labels = st.labels })

-- the token is a quoted text, or the variable of `token of V`
abbrev pub IsTokenForm : List ℕ → List (List ℕ) → Type 0
IsTokenForm kept ts = ((is_quoted kept ≡ true) × (ts ≡ kept ∷ [])) ⊎ ((is_variable kept ≡ true) × (ts ≡ codes "token" ∷ codes "of" ∷ kept ∷ []))

-- the tokens spell a token of a node, and it is kept
abbrev pub MeansToken : Noting → List (List ℕ) → Noting → Type 0
MeansToken st ts end = (kept : List ℕ) × (end ≡ note (Token kept) st) × IsTokenForm kept ts

abbrev pub MeansNothing : Noting → List (List ℕ) → Noting → Type 0
MeansNothing st ts end = ⊥

-- in the order of the names
abbrev pub meanings : List (Noting → List (List ℕ) → Noting → Type 0)
meanings =
    MeansAction
    ∷ MeansChain []
    ∷ MeansChain (codes "and" ∷ [])
    ∷ MeansMore kind.Or
    ∷ MeansMore kind.And
    ∷ MeansMore kind.AndThen
    ∷ MeansMore kind.Then
    ∷ MeansMore kind.Trap
    ∷ MeansMore kind.Hence
    ∷ MeansMore kind.Moreover
    ∷ MeansMore kind.Before
    ∷ MeansPart AnAction
    ∷ MeansRest AnAction (codes "enact" ∷ [])
    ∷ MeansRest AnAction (codes "escape" ∷ [])
    ∷ MeansItems []
    ∷ MeansItems (open_paren ∷ [])
    ∷ MeansMoreItems
    ∷ MeansPart AnItem
    ∷ MeansPart AYielder
    ∷ MeansRest AYielder (codes "is" ∷ [])
    ∷ MeansRest AYielder (codes "the" ∷ [])
    ∷ MeansSorted (codes "the" ∷ [])
    ∷ MeansSorted (codes "the" ∷ codes "given" ∷ [])
    ∷ MeansSort
    ∷ MeansPart AClosure
    ∷ MeansToken
    ∷ []

abbrev pub means : Meant
means n = get_or meanings n MeansNothing
