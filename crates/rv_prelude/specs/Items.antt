-- The items of the prelude: the first instructions, and the entries.
use Rattle.std.specs.Prelude.{◌≡◌, ℕ, ◌+◌, ◌≤◌, false, List, [], ◌∷◌, ◌++◌, map, pos}
use Rattle.rv_code.specs.declared.instruction.Inst.TheVariants.{Load}
use Rattle.rv_code.specs.declared.instruction.LoadOp.TheVariants.{Ld}
use Rattle.rv_code.specs.declared.instruction.BranchOp.TheVariants.{Beq, Bne}
use Rattle.rv_asm.specs.Assembly.{Listing, is_placed}
use Rattle.rv_asm.specs.Pieces.{exit_with, send_word}
use Rattle.rv_asm.specs.declared.item.Item.{Item}
use Rattle.rv_asm.specs.declared.item.Item.TheVariants.{Plain, Mark, Jump, BranchTo, Address}
use Rattle.rv_prelude.specs.declared.entries.Entries.{Entries}
use Rattle.rv_prelude.specs.Pieces.{round_up, store_ends, commit, go_back, restore_alternative, restore_trap, take_items, make_cell, receive_bytes, load_message}

-- a listing with more items behind
abbrev pub extended : Listing → List Item → Listing
extended listing items = record listing { items = listing.items ++ items }

-- no label from this one on is placed
abbrev pub AreFresh : ℕ → List Item → Type 0
AreFresh first items = (l : ℕ) → first ≤ l → is_placed items l ≡ false

-- ---- labels

-- how many labels the prelude makes
abbrev pub entry_count : ℕ
entry_count = 12

-- the labels of the entries, from the first on; the last two of them are placed by the caller
abbrev pub entries_from : (first : ℕ) → Entries
entries_from n = record {
  completed = n;
  failed = n + 1;
  escaped = n + 2;
  full = n + 3;
  fail = n + 4;
  escape = n + 5;
  commit = n + 6;
  send = n + 7;
  receive = n + 8;
  allocate = n + 9;
  start = n + 10;
  code_end = n + 11;
}

-- ---- items

-- the registers of the region and of the frame are set, and the ends of stack and units
abbrev pub first_items : Entries → (stack units : ℕ) → List Item
first_items e stack units =
    Address 3 e.code_end ∷ (map Plain round_up ++ (map Plain (store_ends stack units) ++ (Jump e.start ∷ [])))

-- an end of the run
abbrev pub exit_items : (label exit : ℕ) → List Item
exit_items label exit = Mark label ∷ map Plain (exit_with exit)

-- the ends of the run: completed, failed, escaped, and full
abbrev pub ends_items : Entries → List Item
ends_items e = exit_items e.completed 0 ++ (exit_items e.failed 1 ++ (exit_items e.escaped 2 ++ exit_items e.full 3))

-- a failure goes to the innermost open alternative, and ends the run where none is open
abbrev pub fail_items : Entries → List Item
fail_items e = Mark e.fail ∷ Plain (Load Ld 5 3 (pos 8)) ∷ BranchTo Beq 5 0 e.failed ∷ map Plain restore_alternative

-- an escape goes to the innermost trap, and ends the run where there is none
abbrev pub escape_items : Entries → List Item
escape_items e = Mark e.escape ∷ Plain (Load Ld 5 3 (pos 16)) ∷ BranchTo Beq 5 0 e.escaped ∷ map Plain restore_trap

-- commits and returns
abbrev pub commit_items : Entries → List Item
commit_items e = Mark e.commit ∷ map Plain (commit ++ go_back)

-- sends the integer in register 10, commits and returns
abbrev pub send_items : Entries → List Item
send_items e = Mark e.send ∷ map Plain (send_word 10 0 ++ (commit ++ go_back))

-- receives an integer into register 10, commits and returns; where none is left it fails
abbrev pub receive_items : Entries → List Item
receive_items e = Mark e.receive ∷ (map Plain receive_bytes ++ (BranchTo Bne 10 5 e.fail ∷ map Plain (load_message ++ (commit ++ go_back))))

-- takes a unit for a cell, whose address goes to register 10, commits and returns; where the units would pass it goes to `full`
abbrev pub allocate_items : Entries → List Item
allocate_items e = Mark e.allocate ∷ (take_items 1 e.full ++ map Plain (make_cell ++ (commit ++ go_back)))

-- those that return
abbrev pub calls_items : Entries → List Item
calls_items e = commit_items e ++ (send_items e ++ (receive_items e ++ allocate_items e))

-- the entries
abbrev pub entries_items : Entries → List Item
entries_items e = ends_items e ++ (fail_items e ++ (escape_items e ++ calls_items e))

-- all of the prelude
abbrev pub prelude_items : Entries → (stack units : ℕ) → List Item
prelude_items e stack units = first_items e stack units ++ entries_items e
