-- The text of a sort table.
use Rattle.std.specs.Prelude.{◌≡◌, ℕ, zero, suc, Bool, true, false, if◌then◌else◌, List, [], ◌∷◌, ◌++◌, map, length, codes, Option, Some, slice_get, option_map, Result, Err, OnOk, IsTrue}
use Rattle.std.specs.List.{join_with_byte}
use Rattle.acg_base.specs.Decimals.{unsigned_decimal_of}
use Rattle.acg_base.specs.Outside.{GainsFrontOf}
use Rattle.acg_base.specs.declared.sink.Sink.{Ghosts}
use Rattle.acg_words.specs.Lines.{numbered_line}
use Rattle.acg_words.specs.Prints.{Took, Broke}
use Rattle.action_terms.specs.declared.kinds.Kind.{Kind}
use Rattle.action_terms.specs.declared.kinds.Kind.TheVariants as kind
use Rattle.action_terms.specs.Meaning.{action_of}
use Rattle.action_terms.specs.Need.{most_yielders, factor}
use Rattle.action_terms.specs.Numbering.{Listed, ListedNode}
use Rattle.sort_rules.specs.Sets.{Set, is_empty}
use Rattle.sort_rules.specs.Parts as part
use Rattle.sort_rules.specs.Rows.{SortRow, SortTable, unmarked}
use Rattle.sort_rules.specs.Measures.{width}
use Rattle.sort_report.specs.declared.error.ReportError.{ReportError}
use Rattle.sort_report.specs.declared.error.ReportError.TheVariants as error

-- ---- sets and parts

-- the word where there is one
abbrev pub word_if : Bool → List ℕ → List (List ℕ)
word_if true word = word ∷ []
word_if false word = []

-- a text with a number behind it
abbrev pub numbered : List ℕ → ℕ → List ℕ
numbered text n = text ++ unsigned_decimal_of n

-- the words of a set: whether it has integers, and truth-values
abbrev pub words_of : (integer truth : Bool) → List (List ℕ)
words_of integer truth = word_if integer (codes "integer") ++ word_if truth (codes "truth-value")

-- the members of a set: integers, truth-values, the cells of `allocate` nodes, the closures of bodies
abbrev pub member_texts : Set → List (List ℕ)
member_texts s =
    words_of s.integer s.truth
    ++ (map (numbered (codes "cell@")) s.cells ++ map (numbered (codes "abstraction@")) s.abstractions)

-- a set: its members, `|` between each two
abbrev pub set_text : Set → List ℕ
set_text s = join_with_byte 124 (member_texts s)

-- the set of a place
abbrev pub place_text : part.Component → List ℕ
place_text c = set_text c.set

-- a token and its set, `:` between them
abbrev pub binding_text : part.Component → List ℕ
binding_text c = c.token ++ (58 ∷ set_text c.set)

-- data: `(s,s)`, or `-` where none are reached
abbrev pub tuple_text : part.Part → List ℕ
tuple_text (part.Listed cs) = codes "(" ++ (join_with_byte 44 (map place_text cs) ++ codes ")")
tuple_text _ = codes "-"

-- bindings: `{x:s,y:s}`, or `-` where none are reached
abbrev pub binds_text : part.Part → List ℕ
binds_text (part.Listed cs) = codes "{" ++ (join_with_byte 44 (map binding_text cs) ++ codes "}")
binds_text _ = codes "-"

-- ---- lines

-- the word of a kind of action node
abbrev pub kind_word : Kind → List ℕ
kind_word kind.Complete = codes "complete"
kind_word kind.Fail = codes "fail"
kind_word kind.Escape = codes "escape"
kind_word kind.Commit = codes "commit"
kind_word kind.Regive = codes "regive"
kind_word kind.Rebind = codes "rebind"
kind_word kind.Give = codes "give"
kind_word kind.EscapeWith = codes "escape-with"
kind_word kind.Check = codes "check"
kind_word kind.Bind = codes "bind"
kind_word kind.BindRec = codes "recursively-bind"
kind_word kind.Store = codes "store"
kind_word kind.Allocate = codes "allocate"
kind_word kind.Send = codes "send"
kind_word kind.Receive = codes "receive"
kind_word kind.Enact = codes "enact"
kind_word kind.Apply = codes "apply"
kind_word kind.Unfold = codes "unfold"
kind_word kind.Unfolding = codes "unfolding"
kind_word kind.Furthermore = codes "furthermore"
kind_word kind.Or = codes "or"
kind_word kind.And = codes "and"
kind_word kind.AndThen = codes "and-then"
kind_word kind.Then = codes "then"
kind_word kind.Trap = codes "trap"
kind_word kind.Hence = codes "hence"
kind_word kind.Moreover = codes "moreover"
kind_word kind.Before = codes "before"
kind_word kind.Branch = codes "branch"

-- what a node is given and receives, and what it completes and escapes with
abbrev pub row_text : SortRow → List ℕ
row_text r =
    codes " " ++ (tuple_text r.data_in
    ++ (codes " " ++ (binds_text r.binds_in
    ++ (codes " -> " ++ (tuple_text r.data_out
    ++ (codes " " ++ (binds_text r.binds_out
    ++ (codes " " ++ tuple_text r.escaped))))))))

-- the kind of node k
abbrev pub kind_at : Listed → ℕ → Option Kind
kind_at g k = option_map (λ (n : ListedNode). n.kind) (slice_get g.nodes k)

-- the line of a node: its number, the word of its kind, and its row
abbrev pub row_line : ℕ → Option Kind → Option SortRow → List ℕ
row_line k (Some kind) (Some r) = unsigned_decimal_of k ++ (codes " " ++ (kind_word kind ++ (row_text r ++ codes "\n")))
row_line _ _ _ = []

-- that of node k of a graph by a table
abbrev pub node_line : Listed → SortTable → ℕ → List ℕ
node_line g t k = row_line k (kind_at g k) (slice_get t.rows k)

-- what the cells of a node may hold, `-` where that is nothing
abbrev pub contents_text : Set → List ℕ
contents_text s = if is_empty s then codes "-" else set_text s

-- whether a node of the kind allocates a cell
abbrev pub allocates : Kind → Bool
allocates kind.Allocate = true
allocates _ = false

-- for a node that allocates a cell, its number and what its cells may hold; no line for another
abbrev pub cells_line : ℕ → Option Kind → Option Set → List ℕ
cells_line k (Some kind) (Some s) =
    if allocates kind then codes "contents " ++ (unsigned_decimal_of k ++ (codes " " ++ (contents_text s ++ codes "\n"))) else []
cells_line _ _ _ = []

-- that of node k of a graph by a table
abbrev pub contents_line : Listed → SortTable → ℕ → List ℕ
contents_line g t k = cells_line k (kind_at g k) (slice_get t.contents k)

-- the width of the table, the most yielders of a node, and the factor of both
abbrev pub measures_line : Listed → SortTable → List ℕ
measures_line g t =
    let w = width (length g.nodes) (unmarked t) in
    let z = most_yielders (action_of g) in
    codes "width " ++ (unsigned_decimal_of w ++ (codes " yielders " ++ (unsigned_decimal_of z ++ numbered_line (codes " factor ") (factor w z))))

-- the lines of the numbers below n
abbrev pub lines_below : (ℕ → List ℕ) → ℕ → List ℕ
lines_below line zero = []
lines_below line (suc k) = lines_below line k ++ line k

-- the report of a graph by a table: a line for each node, one for each that allocates a cell, and that of the measures
abbrev pub report_text : Listed → SortTable → List ℕ
report_text g t =
    lines_below (node_line g t) (length g.nodes)
    ++ (lines_below (contents_line g t) (length g.nodes) ++ measures_line g t)

-- ---- what a report does to a sink

-- the sink took a front of the text, and no write failed
pub record TookFrontOf {K : Type 0} (sink : Ghosts K) (text : List ℕ) (old new : K) : Type 0 where
  pub part : IsTrue (sink.tells old) → GainsFrontOf text (sink.written old) (sink.written new)
  pub still : sink.faults new ≡ sink.faults old
  pub tells_still : sink.tells new ≡ sink.tells old

-- the text is printed; or memory ran out behind a front of it; or a write failed, the last one
pub record Reported {K : Type 0} (sink : Ghosts K) (text : List ℕ) (old new : K) (result : Result (Unit {0}) ReportError) : Type 0 where
  pub done : OnOk result (Took sink text old new)
  pub memory : result ≡ Err error.Memory → TookFrontOf sink text old new
  pub failed : result ≡ Err error.SinkFault → Broke sink text old new
