-- The measures of an action by a table: its width, the slots of its procedures, and the tokens that closures capture.
use Rattle.std.specs.Prelude.{ℕ, zero, suc, ◌+◌, Bool, false, ◌||◌, List, [], ◌∷◌, ◌++◌, length, max, nat_eq, if◌then◌else◌}
use Rattle.action_terms.specs.Information.{Token}
use Rattle.action_terms.specs.Actions.{Yielder, BoundTo, StoredIn, OnTwo, OnOne, Item, Single, Them, Primitive, Give, EscapeWith, Check, Bind, Store, Send, Node, Simple, Enact, Apply, Branch, Action, node_at}
use Rattle.action_terms.specs.Need.{Sizes}
use Rattle.sort_rules.specs.Numbers.{is_listed}
use Rattle.sort_rules.specs.Parts.{same_token}
use Rattle.sort_rules.specs.Tables.{DataIn, BindsIn, DataOut, BindsOut, Escaped, MarkedTable}
use Rattle.sort_rules.specs.Demands.{closure_bodies}
use Rattle.sort_rules.specs.Shapes.{part_length, domain}
use Rattle.sort_rules.specs.Procedures.{procedure_of, is_beneath}

-- the numbers below n, ascending behind those that are there
abbrev pub numbers_before : ℕ → List ℕ → List ℕ
numbers_before zero ks = ks
numbers_before (suc n) ks = numbers_before n (n ∷ ks)

-- the numbers of an action
abbrev pub node_numbers : Action → List ℕ
node_numbers a = numbers_before (length a) []

-- ---- width

-- the greatest length in the row of node k
abbrev pub row_width : MarkedTable → ℕ → ℕ
row_width t k =
    max (part_length (t (DataIn k))) (max (part_length (t (BindsIn k))) (max (part_length (t (DataOut k))) (max (part_length (t (BindsOut k))) (part_length (t (Escaped k))))))

-- the greatest length of data or bindings in the rows of the first so many nodes
abbrev pub width : (nodes : ℕ) → MarkedTable → ℕ
width zero t = 0
width (suc k) t = max (row_width t k) (width k t)

-- ---- slots, in words of 8 bytes

-- the words of the row of node k
abbrev pub row_slots : MarkedTable → ℕ → ℕ
row_slots t k = 8 + part_length (t (DataIn k)) + part_length (t (BindsIn k)) + part_length (t (DataOut k)) + part_length (t (BindsOut k)) + part_length (t (Escaped k))

-- the words of those of the nodes whose procedure has root c
abbrev pub rows_slots : Action → MarkedTable → (root : ℕ) → List ℕ → ℕ
rows_slots a t c [] = 0
rows_slots a t c (k ∷ ks) = (if nat_eq (procedure_of a k) c then row_slots t k else 0) + rows_slots a t c ks

-- the slots of the procedure with root c; 0 where it is none
abbrev pub slots : Action → MarkedTable → ℕ → ℕ
slots a t c = if nat_eq (procedure_of a c) c then 32 + rows_slots a t c (node_numbers a) else 0

-- ---- captured tokens

-- whether the token stands in the list
abbrev pub has_token : Token → List Token → Bool
has_token t [] = false
has_token t (u ∷ us) = same_token t u || has_token t us

-- the tokens that a yielder names by `bound to`; those in the body of a closure are the body's
abbrev pub named_in : Yielder → List Token
named_in (BoundTo s t) = t ∷ []
named_in (StoredIn s y) = named_in y
named_in (OnTwo f y1 y2) = named_in y1 ++ named_in y2
named_in (OnOne f y) = named_in y
named_in _ = []

-- so it is for items
abbrev pub named_in_items : List Item → List Token
named_in_items [] = []
named_in_items (Single y ∷ is) = named_in y ++ named_in_items is
named_in_items (Them ∷ is) = named_in_items is

-- so it is for a primitive
abbrev pub named_by : Primitive → List Token
named_by (Give is) = named_in_items is
named_by (EscapeWith is) = named_in_items is
named_by (Check y) = named_in y
named_by (Bind t y) = named_in y
named_by (Store y1 y2) = named_in y1 ++ named_in y2
named_by (Send y) = named_in y
named_by _ = []

-- and for a node
abbrev pub named_at : Node → List Token
named_at (Simple p) = named_by p
named_at (Enact y) = named_in y
named_at (Apply y is) = named_in y ++ named_in_items is
named_at (Branch y l r) = named_in y
named_at _ = []

-- what node k asks of the bindings of a body above it: the tokens that its yielders name, and, where it is itself the body of a closure, those that it completes with
abbrev pub asked_at : Action → MarkedTable → ℕ → List Token
asked_at a t k = named_at (node_at a k) ++ (if is_listed k (closure_bodies a) then domain (t (BindsOut k)) else [])

-- what is asked for by those of the nodes that stand in body c
abbrev pub asked_beneath : Action → MarkedTable → (c : ℕ) → List ℕ → List Token
asked_beneath a t c [] = []
asked_beneath a t c (k ∷ ks) = (if is_beneath a c k then asked_at a t k else []) ++ asked_beneath a t c ks

-- those of the first tokens that stand among the second
abbrev pub kept_tokens : List Token → List Token → List Token
kept_tokens [] asked = []
kept_tokens (t ∷ ts) asked = if has_token t asked then t ∷ kept_tokens ts asked else kept_tokens ts asked

-- the tokens of the bindings of body c that are read in it, ascending
abbrev pub captured : Action → MarkedTable → ℕ → List Token
captured a t c = kept_tokens (domain (t (BindsIn c))) (asked_beneath a t c (node_numbers a))

-- what the parts of an action's performances need
abbrev pub sizes : Action → MarkedTable → Sizes
sizes a t = record { main_slots = slots a t 0; slots = slots a t; captured = captured a t }
