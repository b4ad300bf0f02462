-- The printed lines, and the status that goes with each that ends an answer. Each ends with a line feed.
use Rattle.std.specs.Prelude.{◌≡◌, ℕ, zero, suc, ℤ, Bool, true, false, List, [], ◌∷◌, ◌++◌, length, codes}
use Rattle.acg_base.specs.Decimals.{decimal_of, unsigned_decimal_of}
use Rattle.acg_base.specs.declared.limits.TheConstants.{LIMIT_DESCRIPTION, LIMIT_SOURCE, LIMIT_LEXEMES, LIMIT_ACTION, LIMIT_INPUT, LIMIT_IMAGE, LIMIT_NODES}
use Rattle.acg_base.specs.declared.sink.Sink.{Ghosts}
use Rattle.acg_base.specs.declared.status.Status.{Status}
use Rattle.acg_base.specs.declared.status.Status.TheVariants as status
use Rattle.rv_code.specs.declared.cause.Cause.{Cause}
use Rattle.rv_code.specs.declared.cause.Cause.TheVariants as cause
use Rattle.acg_words.specs.Prints.{writes_behind}
use Rattle.acg_words.specs.declared.line.Line.{Line}
use Rattle.acg_words.specs.declared.line.Line.TheVariants.{Words, ReadFault, WriteFault, LimitDescription, LimitSource, LimitLexemes, LimitAction, LimitInput, LimitImage, LimitNodes, DescriptionByte, DescriptionItem, DescriptionRule, SourceByte, NoTree, Ambiguous, Uncovered, Numeral, ActionByte, ActionText, StrayUnfold, IllSorted, Unbuilt, ImageShort, ImageMagic, ImageClass, ImageMachine, ImageKind, ImageHeader, ImageSegment, Memory, Completed, Failed, Escaped, Full, Running, Exited, Trapped}

-- a text, a number and a line feed
abbrev pub numbered_line : List ℕ → ℕ → List ℕ
numbered_line text n = text ++ (unsigned_decimal_of n ++ codes "\n")

-- a text, a name and a line feed: in one, and piece by piece
abbrev pub named_line : (text name : List ℕ) → List ℕ
named_line text name = text ++ (name ++ codes "\n")

abbrev pub named_pieces : (text name : List ℕ) → List (List ℕ)
named_pieces text name = text ∷ (name ∷ (codes "\n" ∷ []))

-- a read of the store failed at a name
abbrev pub read_fault_line : List ℕ → List ℕ
read_fault_line name = named_line (codes "read fault ") name

-- a write of the store failed at a name
abbrev pub write_fault_line : List ℕ → List ℕ
write_fault_line name = named_line (codes "write fault ") name

-- a description breaks a rule, a number from 1, at an item, a number from 0
abbrev pub rule_line : (rule item : ℕ) → List ℕ
rule_line rule item = codes "description rule " ++ (unsigned_decimal_of rule ++ numbered_line (codes " item ") item)

-- a function has no equation for an alternative, a number from 1, of a production: in one, and piece by piece
abbrev pub uncovered_line : (function production : List ℕ) (alternative : ℕ) → List ℕ
uncovered_line function production alternative =
    codes "uncovered " ++ (function ++ (codes " " ++ (production ++ numbered_line (codes " ") alternative)))

abbrev pub uncovered_pieces : (function production : List ℕ) (alternative : ℕ) → List (List ℕ)
uncovered_pieces function production alternative =
    codes "uncovered " ∷ (function ∷ (codes " " ∷ (production ∷ (numbered_line (codes " ") alternative ∷ []))))

-- the name of the cause of a trap
abbrev pub cause_name : Cause → List ℕ
cause_name cause.Fetch = codes "fetch"
cause_name cause.Undefined = codes "undefined"
cause_name cause.Load = codes "load"
cause_name cause.Store = codes "store"
cause_name cause.Target = codes "target"
cause_name cause.Ebreak = codes "ebreak"
cause_name cause.Call = codes "call"
cause_name cause.Buffer = codes "buffer"

-- the machine trapped at an address
abbrev pub trapped_line : Cause → (pc : ℕ) → List ℕ
trapped_line c pc = codes "trapped " ++ (cause_name c ++ numbered_line (codes " ") pc)

-- the bytes of a line that ends an answer
abbrev pub bytes_of : Line → List ℕ
bytes_of Words = codes "words\n"
bytes_of (ReadFault name) = read_fault_line name
bytes_of (WriteFault name) = write_fault_line name
bytes_of LimitDescription = numbered_line (codes "limit description ") LIMIT_DESCRIPTION
bytes_of LimitSource = numbered_line (codes "limit source ") LIMIT_SOURCE
bytes_of LimitLexemes = numbered_line (codes "limit lexemes ") LIMIT_LEXEMES
bytes_of LimitAction = numbered_line (codes "limit action ") LIMIT_ACTION
bytes_of LimitInput = numbered_line (codes "limit input ") LIMIT_INPUT
bytes_of LimitImage = numbered_line (codes "limit image ") LIMIT_IMAGE
bytes_of LimitNodes = numbered_line (codes "limit nodes ") LIMIT_NODES
bytes_of (DescriptionByte offset) = numbered_line (codes "description byte ") offset
bytes_of (DescriptionItem index) = numbered_line (codes "description item ") index
bytes_of (DescriptionRule rule item) = rule_line rule item
bytes_of (SourceByte offset) = numbered_line (codes "source byte ") offset
bytes_of NoTree = codes "source no tree\n"
bytes_of Ambiguous = codes "source ambiguous\n"
bytes_of (Uncovered function production alternative) = uncovered_line function.items production.items alternative
bytes_of (Numeral offset) = numbered_line (codes "numeral ") offset
bytes_of (ActionByte offset) = numbered_line (codes "action byte ") offset
bytes_of (ActionText offset) = numbered_line (codes "action text ") offset
bytes_of (StrayUnfold node) = numbered_line (codes "stray unfold ") node
bytes_of (IllSorted node) = numbered_line (codes "ill-sorted ") node
bytes_of (Unbuilt node) = numbered_line (codes "unbuilt ") node
bytes_of ImageShort = codes "image short\n"
bytes_of ImageMagic = codes "image magic\n"
bytes_of ImageClass = codes "image class\n"
bytes_of ImageMachine = codes "image machine\n"
bytes_of ImageKind = codes "image kind\n"
bytes_of ImageHeader = codes "image header\n"
bytes_of (ImageSegment index) = numbered_line (codes "image segment ") index
bytes_of Memory = codes "memory\n"
bytes_of Completed = codes "completed\n"
bytes_of Failed = codes "failed\n"
bytes_of Escaped = codes "escaped\n"
bytes_of Full = codes "full\n"
bytes_of Running = codes "running\n"
bytes_of (Exited code) = numbered_line (codes "exited ") code
bytes_of (Trapped c pc) = trapped_line c pc

-- the status of an image that exits with a code
abbrev pub exit_status : (code : ℕ) → Status
exit_status zero = status.Done
exit_status (suc zero) = status.Failed
exit_status (suc (suc zero)) = status.Escaped
exit_status (suc (suc (suc zero))) = status.Full
exit_status (suc (suc (suc (suc code)))) = status.ExitAbove

-- the status that goes with it
abbrev pub status_of : Line → Status
status_of Words = status.Words
status_of (ReadFault name) = status.ReadFault
status_of (WriteFault name) = status.WriteFault
status_of LimitDescription = status.Limit
status_of LimitSource = status.Limit
status_of LimitLexemes = status.Limit
status_of LimitAction = status.Limit
status_of LimitInput = status.Limit
status_of LimitImage = status.Limit
status_of LimitNodes = status.Limit
status_of (DescriptionByte offset) = status.Description
status_of (DescriptionItem index) = status.Description
status_of (DescriptionRule rule item) = status.Description
status_of (SourceByte offset) = status.Source
status_of NoTree = status.Source
status_of Ambiguous = status.Source
status_of (Uncovered function production alternative) = status.Uncovered
status_of (Numeral offset) = status.Numeral
status_of (ActionByte offset) = status.Action
status_of (ActionText offset) = status.Action
status_of (StrayUnfold node) = status.Action
status_of (IllSorted node) = status.IllSorted
status_of (Unbuilt node) = status.Action
status_of ImageShort = status.Image
status_of ImageMagic = status.Image
status_of ImageClass = status.Image
status_of ImageMachine = status.Image
status_of ImageKind = status.Image
status_of ImageHeader = status.Image
status_of (ImageSegment index) = status.Image
status_of Memory = status.Memory
status_of Completed = status.Done
status_of Failed = status.Failed
status_of Escaped = status.Escaped
status_of Full = status.Full
status_of Running = status.Running
status_of (Exited code) = exit_status code
status_of (Trapped c pc) = status.Trapped

-- whether it is printed by one write: names may have any length
abbrev pub is_one_piece : Line → Bool
is_one_piece (ReadFault name) = false
is_one_piece (WriteFault name) = false
is_one_piece (Uncovered function production alternative) = false
is_one_piece _ = true

-- the pieces by which it is printed, each by one write: a name is a piece of its own
abbrev pub pieces_of : Line → List (List ℕ)
pieces_of (ReadFault name) = named_pieces (codes "read fault ") name
pieces_of (WriteFault name) = named_pieces (codes "write fault ") name
pieces_of (Uncovered function production alternative) = uncovered_pieces function.items production.items alternative
pieces_of line = bytes_of line ∷ []

-- the line tells itself that a write of the store failed, and all its pieces were written
pub record TellsWriteFault {K : Type 0} (sink : Ghosts K) (line : Line) (old new : K) : Type 0 where
  pub tells : status_of line ≡ status.WriteFault
  pub writes : sink.writes new ≡ writes_behind (length (pieces_of line)) (sink.writes old)

-- before a run: the words of the stack, the units, and the factor
abbrev pub header_line : (stack units factor : ℕ) → List ℕ
header_line stack units factor =
    codes "stack " ++ (unsigned_decimal_of stack ++ (codes " units " ++ (unsigned_decimal_of units ++ numbered_line (codes " factor ") factor)))

-- a message
abbrev pub message_line : ℤ → List ℕ
message_line n = decimal_of n ++ codes "\n"

-- messages, a line each
abbrev pub message_lines : List ℤ → List ℕ
message_lines [] = []
message_lines (n ∷ ns) = message_line n ++ message_lines ns
