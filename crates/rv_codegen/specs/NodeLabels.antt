-- The labels of the code of an action: those of the prelude, and four for each node.
use Rattle.std.specs.Prelude.{ℕ, ◌+◌, ◌*◌}

-- ---- labels: first those of the prelude, `entries_from 0`

-- the end of a run whose action has completed
abbrev pub completed_label : ℕ
completed_label = 0

-- the end of one whose action has failed
abbrev pub failed_label : ℕ
failed_label = 1

-- the end of one whose action has escaped
abbrev pub escaped_label : ℕ
escaped_label = 2

-- the end of one that passes the capacity
abbrev pub full_label : ℕ
full_label = 3

-- the entry for failures
abbrev pub fail_label : ℕ
fail_label = 4

-- the entry for escapes
abbrev pub escape_label : ℕ
escape_label = 5

-- the entry that sends
abbrev pub send_label : ℕ
send_label = 7

-- the entry that receives
abbrev pub receive_label : ℕ
receive_label = 8

-- the entry that allocates
abbrev pub allocate_label : ℕ
allocate_label = 9

-- where the first instructions arrive
abbrev pub start_label : ℕ
start_label = 10

-- the end of the code
abbrev pub end_label : ℕ
end_label = 11

-- how many labels there are before those of nodes
abbrev pub first_label : ℕ
first_label = 12

-- A node has four labels, in the order in which they stand.

-- where the part before node k goes on
abbrev pub front_of : ℕ → ℕ
front_of k = first_label + 4 * k

-- where node k starts
abbrev pub start_of : ℕ → ℕ
start_of k = first_label + 1 + 4 * k

-- the place behind what node k calls, or behind the first part of the alternative or of the trap k
abbrev pub stop_of : ℕ → ℕ
stop_of k = first_label + 2 + 4 * k

-- where the trap k copies what was caught for its handler, or the place behind what node k does with the word that an entry returned
abbrev pub joint_of : ℕ → ℕ
joint_of k = first_label + 3 + 4 * k

-- where the bodies of an action of so many nodes go on once they have completed
abbrev pub return_of : (nodes : ℕ) → ℕ
return_of nodes = stop_of nodes
