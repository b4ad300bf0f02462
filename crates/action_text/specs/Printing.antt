-- What is still due while a graph is printed: tokens, and the places of nodes.
use Rattle.std.specs.Prelude.{◌≡◌, ◌≤◌, ℕ, Bool, true, false, List, [], ◌∷◌, ◌++◌, Option, None, Some, length, drop, map, reverse, slice_index_or, if◌then◌else◌}
use Rattle.acg_base.specs.Decimals.{decimal_of}
use Rattle.action_terms.specs.Labels.{Label, ActionNode, YielderNode, Wanted, AnAction, AYielder, under}
use Rattle.action_terms.specs.Numbering.{ListedNode, ListedYielder}
use Rattle.action_terms.specs.declared.kinds.Kind.{Kind}
use Rattle.action_terms.specs.declared.kinds.Kind.TheVariants as kind
use Rattle.action_text.specs.declared.print_jobs.Side.{Side}
use Rattle.action_text.specs.declared.print_jobs.Side.TheVariants.{Whole, Operand, LeftOf}
use Rattle.action_text.specs.declared.print_jobs.Part.{Part}
use Rattle.action_text.specs.declared.print_jobs.Part.TheVariants as part
use Rattle.action_text.specs.declared.print_jobs.Job.{Job}
use Rattle.action_text.specs.declared.print_jobs.Job.TheVariants as job
use Rattle.action_text.specs.declared.unfinished.Text.{Text}
use Rattle.action_text.specs.Shapes as shapes
use Rattle.action_text.specs.Canonical.{printed_shape, is_some_word, same_words, is_joined, spaced}

-- a token of these bytes, or the place of a node
pub data Due : Type 0 where
  Token : (token : List ℕ) → Due
  Node : (place : Part) → Due

-- a job is a token, or the place of a node
abbrev pub due : Job → Due
due (job.Word w) = Token w.now
due (job.Number z) = Token (decimal_of z)
due (job.Quoted q) = Token (34 ∷ (q.now ++ 34 ∷ []))
due (job.Part p) = Node p

-- what is due by a stack of jobs, whose last one comes first
abbrev pub due_on : List Job → List Due
due_on jobs = map due (reverse jobs)

-- the jobs put these things before what was due
abbrev pub Puts : (old new : List Job) → List Due → Type 0
Puts old new ds = due_on new ≡ ds ++ due_on old

-- an action under a node is an operand
abbrev pub place_of : Wanted → Part
place_of AnAction = part.Action Operand
place_of _ = part.Yielder

-- the pieces of a node, with its parts in their places
abbrev pub pieces_due : List shapes.Piece → List Wanted → List Due
pieces_due [] xs = []
pieces_due (shapes.Part ∷ ps) [] = pieces_due ps []
pieces_due (shapes.Part ∷ ps) (x ∷ xs) = Node (place_of x) ∷ pieces_due ps xs
pieces_due (shapes.Fixed w ∷ ps) xs = Token w ∷ pieces_due ps xs
pieces_due (shapes.Numeral z ∷ ps) xs = Token (decimal_of z) ∷ pieces_due ps xs
pieces_due (shapes.Quoted q ∷ ps) xs = Token (34 ∷ (q ++ 34 ∷ [])) ∷ pieces_due ps xs

-- a node that is no chain
abbrev pub shape_due : Label → List Due
shape_due l = pieces_due (printed_shape l) (under l)

-- whether a chain stands there without parentheses
abbrev pub is_bare : Side → Kind → Bool
is_bare Whole k = true
is_bare Operand k = false
is_bare (LeftOf j) k = same_words (shapes.operator k) (shapes.operator j)

-- a chain without parentheses, and in its place
abbrev pub sides_due : Kind → List Due
sides_due k = Node (part.Action (LeftOf k)) ∷ (map Token (shapes.operator k) ++ Node (part.Action Operand) ∷ [])

abbrev pub chain_due : Side → Kind → List Due
chain_due s k = if is_bare s k then sides_due k else Token shapes.open_paren ∷ (sides_due k ++ Token shapes.close_paren ∷ [])

-- an action in its place
abbrev pub action_due : Side → Label → List Due
action_due s (ActionNode k n t) = if is_some_word (shapes.operator k) then chain_due s k else shape_due (ActionNode k n t)
action_due s (YielderNode k t) = []

-- how many items the operand at a place has
abbrev pub operand_length : List (List ℕ) → ℕ → ℕ
operand_length operands place = length (slice_index_or operands place [])

-- how many items the data of an action has
abbrev pub items_in : Kind → List (List ℕ) → ℕ
items_in kind.Give operands = operand_length operands 0
items_in kind.EscapeWith operands = operand_length operands 0
items_in kind.Apply operands = operand_length operands 1
items_in _ operands = 0

-- the labels of the nodes of a graph
abbrev pub node_label : ListedNode → Label
node_label n = ActionNode n.kind (items_in n.kind n.operands) n.token

abbrev pub yielder_label : ListedYielder → Label
yielder_label y = YielderNode y.kind y.token

-- the last token of a text in the making begins there, if there is one
abbrev pub IsLastAt : List ℕ → Option ℕ → List (List ℕ) → Type 0
IsLastAt bytes None tokens = tokens ≡ []
IsLastAt bytes (Some start) tokens = (before : List (List ℕ)) × (start ≤ length bytes) × (tokens ≡ before ++ drop start bytes ∷ [])

-- a text in the making is that of these tokens
pub record Says (text : Text) (tokens : List (List ℕ)) : Type 0 where
  pub bytes_are : text.bytes.items ≡ spaced tokens
  pub last_at : IsLastAt text.bytes.items text.last tokens

-- the text in the making has this token more
abbrev pub SaysMore : (old new : Text) → List ℕ → Type 0
SaysMore old new token = (tokens : List (List ℕ)) → Says old tokens → Says new (tokens ++ token ∷ [])

-- a node that is due, if there is one
abbrev pub part_due : Option Part → List Due
part_due None = []
part_due (Some p) = Node p ∷ []

-- what was due is these tokens, then the node that comes next, if one does, and then what is due
abbrev pub AreNext : (old new : List Job) → Option Part → List (List ℕ) → Type 0
AreNext old new next words = due_on old ≡ map Token words ++ (part_due next ++ due_on new)

-- the tokens before the next node were said
abbrev pub SaysNext : (old new : Text) → (jobs rest : List Job) → Option Part → Type 0
SaysNext old new jobs rest next = (said : List (List ℕ)) → Says old said →
    (words : List (List ℕ)) × Says new (said ++ words) × AreNext jobs rest next words

-- the jobs put the words and two arguments before what was due
abbrev pub PutsCall : (old new words : List Job) → Type 0
PutsCall old new words = due_on new ≡ map due words ++ (pieces_due shapes.two_arguments (AYielder ∷ AYielder ∷ []) ++ due_on old)

-- the bytes between the tokens and the next one
abbrev pub gap_behind : List (List ℕ) → List ℕ → List ℕ
gap_behind [] next = []
gap_behind (t ∷ []) next = if is_joined t next then [] else 32 ∷ []
gap_behind (t ∷ u ∷ ts) next = gap_behind (u ∷ ts) next

-- the bytes are those of the tokens of the text, and of the gap behind them
abbrev pub HasGap : Text → List ℕ → (next : List ℕ) → Type 0
HasGap text bytes next = (tokens : List (List ℕ)) → Says text tokens → bytes ≡ spaced tokens ++ gap_behind tokens next
