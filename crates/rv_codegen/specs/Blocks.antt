-- The items that the code of an action is assembled from.
use Rattle.std.specs.Prelude.{ℕ, suc, nat_eq, if◌then◌else◌, true, List, [], ◌∷◌, ◌++◌, map, slice_index, slice_set, replicate, length}
use Rattle.rv_asm.specs.declared.item.Item.{Item}
use Rattle.rv_asm.specs.declared.item.Item.TheVariants.{Plain, Mark, Jump, Address}
use Rattle.action_terms.specs.Actions.{Yielder, Item as DataItem, Complete, Failing, Escape, EscapeWith, Commit, Regive, Give, Check, Store, Allocate, Receive, Send, Node, Simple, Unfolding, Unfold, Both, Phases, Either, Trapping, Action}
use Rattle.rv_yield.specs.Conditions.{condition_items}
use Rattle.rv_yield.specs.YielderCode.{value_items}
use Rattle.rv_prelude.specs.Items.{entries_from, prelude_items}
use Rattle.rv_prelude.specs.Pieces.{commit, close_alternative, open_alternative_items}
use Rattle.sort_rules.specs.Procedures.{procedure_of}
use Rattle.frame_layout.specs.Places.{Frame, PlacedNode}
use Rattle.rv_codegen.specs.Aliases.{given_of, list_at, out_of, places_in, words_at}
pub use Rattle.rv_codegen.specs.NodeLabels.{completed_label, failed_label, escaped_label, full_label, fail_label, escape_label, send_label, receive_label, allocate_label, start_label, end_label, first_label, front_of, start_of, stop_of, joint_of, return_of}
pub use Rattle.rv_codegen.specs.AddressItems.{address_items}
use Rattle.rv_codegen.specs.CallItems.{call_items, fetch_items, return_items}
use Rattle.rv_codegen.specs.TrapItems.{traps}
use Rattle.rv_codegen.specs.StorageItems.{fetches, stores}
use Rattle.rv_codegen.specs.GivenItems.{alone, escape_with_items, give_items, moves_items}

-- ---- nodes

-- the labels where nodes go on once they have completed, by the number of the node: the first part of a node goes on at the
-- front of the second, that of an alternative or of a trap at the stop of its node, and the second where the node does
abbrev pub with_exits : Node → ℕ → List ℕ → List ℕ
with_exits (Both j l r) k exits = slice_set (slice_set exits l (front_of r)) r (slice_index exits k)
with_exits (Phases q l r) k exits = slice_set (slice_set exits l (front_of r)) r (slice_index exits k)
with_exits (Either l r) k exits = slice_set (slice_set exits l (stop_of k)) r (slice_index exits k)
with_exits (Trapping l r) k exits = slice_set (slice_set exits l (stop_of k)) r (slice_index exits k)
with_exits _ k exits = exits

-- so it is for the nodes from number k on
abbrev pub exits_from : ℕ → Action → List ℕ → List ℕ
exits_from k [] exits = exits
exits_from k (n ∷ a) exits = exits_from (suc k) a (with_exits n k exits)

-- the action itself goes on behind its last node, where it has completed; the body of a procedure returns to what has called it
abbrev pub root_exits : (nodes : ℕ) → List ℕ
root_exits nodes = slice_set (replicate nodes (return_of nodes)) 0 (front_of nodes)

abbrev pub exits_of : Action → List ℕ
exits_of a = exits_from 0 a (root_exits (length a))

-- the way to a label from before another: nothing where that is the one
abbrev pub goes : (next label : ℕ) → List Item
goes next label = if nat_eq label next then [] else Jump label ∷ []

-- to where node k goes on
abbrev pub leaves : (k exit : ℕ) → List Item
leaves k exit = goes (front_of (suc k)) exit

-- sends the integer of a yielder by the entry that sends, which commits; where the yielder yields nothing, this goes to the entry for failures
abbrev pub sends : (given : List ℕ) → (k : ℕ) → Yielder → List Item
sends given k y = value_items (alone given) 10 10 fail_label y ++ (Address 1 (stop_of k) ∷ Jump send_label ∷ Mark (stop_of k) ∷ [])

-- closes every open alternative
abbrev pub commits : (k : ℕ) → List Item
commits k = map Plain commit ++ Mark (stop_of k) ∷ []

-- goes on where a yielder yields `true`, and else to the entry for failures
abbrev pub checks : (given : List ℕ) → (k : ℕ) → Yielder → List Item
checks given k y = condition_items (alone given) true fail_label fail_label y ++ Mark (stop_of k) ∷ []

-- leaves data; where one of their items yields nothing, this goes to the entry for failures
abbrev pub gives : (given out : List ℕ) → (k : ℕ) → List DataItem → List Item
gives given out k is = give_items given out fail_label is ++ Mark (stop_of k) ∷ []

-- leaves what is given where the node leaves its data
abbrev pub regives : (given out : List ℕ) → (k : ℕ) → List Item
regives given out k = map Plain (moves_items given out) ++ Mark (stop_of k) ∷ []

-- escapes by the entry for escapes, which finds the address of the data in register 10: they stand in a row from the first of these words on
abbrev pub escapes : (given : List ℕ) → List Item
escapes given = map Plain (address_items (slice_index given 0)) ++ Jump escape_label ∷ []

-- opens the record of an alternative, whose other arm begins at the front of node r, and goes on to node l; where that has completed, it closes the record
abbrev pub arms : (keep k l r : ℕ) → List Item
arms keep k l r =
    (open_alternative_items keep (front_of r) ++ (Jump (start_of l) ∷ []))
    ++ (Mark (stop_of k) ∷ map Plain (close_alternative keep))

-- escapes with the data of items, which are put in a row
abbrev pub escapes_with : (given escaped : List ℕ) → List DataItem → List Item
escapes_with given escaped is = escape_with_items given escaped fail_label is ++ Jump escape_label ∷ []

-- the words of a frame that the code of a node names: where it finds its data, where it leaves them, where it puts those that it escapes with, and the first word of its record; and how many words the frame has
pub record NodeWords : Type 0 where
  pub given : List ℕ
  pub out : List ℕ
  pub escaped : List ℕ
  pub keep : ℕ
  pub frame : ℕ

-- calls the body c, in a frame behind that of the node, and takes back what it has left
abbrev pub calls : (node body : NodeWords) → (k c : ℕ) → List Item
calls node body k c =
    call_items node.frame body.frame node.given body.given full_label (stop_of k) (start_of c)
    ++ (Mark (stop_of k) ∷ map Plain (fetch_items body.out node.out))

-- the code of node k behind its start, where the node goes on at a label
abbrev pub body : (ℕ → NodeWords) → (k exit : ℕ) → Node → List Item
body ws k exit (Simple Complete) = leaves k exit
body ws k exit (Simple Commit) = commits k ++ leaves k exit
body ws k exit (Simple Regive) = regives (ws k).given (ws k).out k ++ leaves k exit
body ws k exit (Simple (Give is)) = gives (ws k).given (ws k).out k is ++ leaves k exit
body ws k exit (Simple Failing) = Jump fail_label ∷ []
body ws k exit (Simple Escape) = escapes (ws k).given
body ws k exit (Simple (EscapeWith is)) = escapes_with (ws k).given (ws k).escaped is
body ws k exit (Simple (Check y)) = checks (ws k).given k y ++ leaves k exit
body ws k exit (Simple (Store y1 y2)) = stores (ws k).given k y1 y2 ++ leaves k exit
body ws k exit (Simple Allocate) = fetches allocate_label (ws k).out k ++ leaves k exit
body ws k exit (Simple Receive) = fetches receive_label (ws k).out k ++ leaves k exit
body ws k exit (Simple (Send y)) = sends (ws k).given k y ++ leaves k exit
body ws k exit (Both j l r) = goes (start_of (suc k)) (start_of l)
body ws k exit (Phases q l r) = goes (start_of (suc k)) (start_of l)
body ws k exit (Either l r) = arms (ws k).keep k l r ++ (Jump exit ∷ [])
body ws k exit (Trapping l r) = traps (ws k).keep k exit l r (ws r).given
body ws k exit (Unfolding c) = calls (ws k) (ws c) k c ++ leaves k exit
body ws k exit (Unfold c) = calls (ws k) (ws c) k c ++ leaves k exit
body ws k exit _ = []

-- the marks before the body of node k
abbrev pub opening : (k : ℕ) → List Item
opening k = Mark (front_of k) ∷ Mark (start_of k) ∷ []

-- the code of node k
abbrev pub block : (ℕ → NodeWords) → (k exit : ℕ) → Node → List Item
block ws k exit n = opening k ++ body ws k exit n

-- the code of the nodes from number k on, by the words of nodes
abbrev pub blocks_from : (ℕ → NodeWords) → (k : ℕ) → List ℕ → Action → List Item
blocks_from ws k exits [] = []
blocks_from ws k exits (n ∷ a) =
    block ws k (slice_index exits k) n ++ blocks_from ws (suc k) exits a

-- ---- all of the code

-- what stands behind the last of so many nodes: an action that has completed goes to the end of the run for that, and a body returns to what has called it
abbrev pub ending : (nodes : ℕ) → List Item
ending nodes =
    opening nodes
    ++ (Jump completed_label ∷ (Mark (return_of nodes) ∷ (map Plain return_items ++ (Mark end_label ∷ []))))

-- the code of an action for a capacity: the prelude, from which the run comes to the root, and the nodes
abbrev pub action_items : (ℕ → NodeWords) → (stack units : ℕ) → Action → List Item
action_items ws stack units a =
    prelude_items (entries_from 0) stack units ++ (Mark start_label ∷ (blocks_from ws 0 (exits_of a) a ++ ending (length a)))

-- the words that some places have for the nodes of an action
abbrev pub placed_words : (ℕ → PlacedNode) → (words : ℕ → ℕ) → Action → ℕ → NodeWords
placed_words p words a k = record { given = given_of p a k; out = out_of p a k; escaped = (p k).escaped; keep = (p k).keep; frame = words (procedure_of a k) }

-- the same, with the places that these frames have
abbrev pub framed_items : Action → List Frame → (stack units : ℕ) → List Item
framed_items a fs stack units = action_items (placed_words (places_in a fs) (words_at fs) a) stack units a

-- the words that tables have for nodes, by their numbers
abbrev pub table_words : (given out escaped : List (List ℕ)) → (keeps frames : List ℕ) → ℕ → NodeWords
table_words given out escaped keeps frames k = record { given = list_at given k; out = list_at out k; escaped = list_at escaped k; keep = slice_index keeps k; frame = slice_index frames k }
