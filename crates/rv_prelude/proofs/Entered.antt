-- The entries stand in any code that begins with the prelude, and do what they are for.
use Rattle.std.proofs.Common.{◌≡◌, ℕ, ◌+◌, ◌^◌, ◌<◌, ◌≤◌, List, [], ◌∷◌, ◌++◌, length, map, refl, sym, ap, ◌∙◌, subst, arith}
use Rattle.rv_code.specs.declared.instruction.Inst.{Inst}
use Rattle.rv_code.specs.declared.instruction.Inst.TheVariants.{Load}
use Rattle.rv_code.specs.declared.instruction.LoadOp.TheVariants.{Ld}
use Rattle.rv_code.specs.declared.instruction.BranchOp.TheVariants.{Beq, Bne}
use Rattle.std.proofs.Common.{pos}
use Rattle.rv_asm.specs.Arrivals.{LabelsStand}
use Rattle.rv_asm.specs.Assembly.{address_of, total, spot, far_address, far_jump, code_from, code_of}
use Rattle.rv_asm.specs.Pieces.{exit_with, send_word}
use Rattle.rv_asm.specs.WordMachine.{WordState, Has}
use Rattle.rv_asm.specs.declared.item.Item.{Item}
use Rattle.rv_asm.specs.declared.item.Item.TheVariants.{Plain, Mark, Jump, BranchTo}
use Rattle.rv_asm.proofs.Bridge.{run-exits}
use Rattle.rv_asm.proofs.Calls.{exit_with-exits}
use Rattle.rv_asm.proofs.Labels.{spot_le-total}
use Rattle.rv_prelude.specs.declared.entries.Entries.{Entries}
use Rattle.rv_prelude.specs.EntryRuns.{Starts, Ends, FailsToRecord, FailsOut, EscapesToRecord, EscapesOut, CommitsBack, SendsBack, ReceivesBack, ReceivesNone, AllocatesBack, AllocatesNone}
use Rattle.rv_prelude.specs.Items.{first_items, entries_items, prelude_items}
use Rattle.rv_prelude.specs.Pieces.{round_up, store_ends, commit, go_back, restore_alternative, restore_trap, take_items, make_cell, receive_bytes, load_message}
use Rattle.rv_prelude.proofs.Cells.{allocate-code, allocates, allocates-none}
use Rattle.rv_prelude.proofs.Commitments.{commits-back, sends-back}
use Rattle.rv_prelude.proofs.Cursors.{Cursor, cursor-start, cursor-within, regroup, stands, over, plain-stands, over-plain, over-mark, mark-at, jump-stands, over-jump, address-stands, over-address}
use Rattle.rv_prelude.proofs.Input.{receive_code, receive-code, receives, receives-none}
use Rattle.rv_prelude.proofs.Restoring.{found_code, found-code, fails-to, escapes-to, goes-out}
use Rattle.rv_prelude.proofs.Started.{starts-within}
use Rattle.rv_prelude.proofs.UnitsTaken.{take_code}

-- an entry: where its label stands, and what stands there
pub record Entry (items : List Item) (label size : ℕ) (instructions : ℕ → List Inst) : Type 0 where
  pub place : ℕ
  pub is : spot items label ≡ place
  pub stands : Has (code_of items) (address_of place) (instructions place)
  pub within : place + size ≤ total items

-- all that stands in code that begins with the prelude
pub record Stood (items : List Item) (e : Entries) (stack units : ℕ) : Type 0 where
  pub first : Has (code_of items) (address_of 0) (far_address 3 0 (spot items e.code_end))
  pub round : Has (code_of items) (address_of 2) round_up
  pub ends : Has (code_of items) (address_of 9) (store_ends stack units)
  pub last : Has (code_of items) (address_of (9 + length (store_ends stack units))) (far_jump (9 + length (store_ends stack units)) (spot items e.start))
  pub completed : Entry items e.completed 3 (λ n. exit_with 0)
  pub failed : Entry items e.failed 3 (λ n. exit_with 1)
  pub escaped : Entry items e.escaped 3 (λ n. exit_with 2)
  pub full : Entry items e.full 3 (λ n. exit_with 3)
  pub fail : Entry items e.fail 13 (λ n. found_code 1 n (spot items e.failed) restore_alternative)
  pub escape : Entry items e.escape 16 (λ n. found_code 2 n (spot items e.escaped) restore_trap)
  pub commit_entry : Entry items e.commit 4 (λ n. commit ++ go_back)
  pub send : Entry items e.send 10 (λ n. send_word 10 0 ++ (commit ++ go_back))
  pub receive : Entry items e.receive 14 (λ n. receive_code n (spot items e.fail))
  pub allocate : Entry items e.allocate 17 (λ n. take_code 1 n (spot items e.full) ++ (make_cell ++ (commit ++ go_back)))

module _ (items : List Item) (labels : LabelsStand items) where
  -- an entry of so many instructions, and what stands behind it
  entry : (n l size : ℕ) (piece rest : List Item) (instructions : ℕ → List Inst) → Cursor items n (Mark l ∷ (piece ++ rest)) → total piece ≡ size → code_from (spot items) n piece ≡ instructions n → Entry items l size instructions × Cursor items (n + size) rest
  entry n l size piece rest instructions c size_is same =
      let c1 = over-mark items n l (piece ++ rest) c in
      let c2 : Cursor items (n + size) rest = subst (λ m. Cursor items (n + m) rest) size_is (over items n piece rest c1) in
      let has : Has (code_of items) (address_of n) (instructions n) = subst (Has (code_of items) (address_of n)) same (stands items n piece rest c1) in
      (record { place = n; is = mark-at items labels n l (piece ++ rest) c; stands = has; within = omega (arith, cursor-within items (n + size) rest c2) }, c2)

  pub prelude-stands : (e : Entries) (stack units : ℕ) (behind : List Item) → items ≡ prelude_items e stack units ++ behind → Stood items e stack units
  prelude-stands e stack units behind same =
      let ends = store_ends stack units in
      let l = length ends in
      let rest = entries_items e ++ behind in
      let c0 = regroup items 0 (first_items e stack units) (entries_items e) behind (subst (Cursor items 0) same (cursor-start items)) in
      let c1 = over-address items 0 3 e.code_end _ c0 in
      let c2 = over-plain items 2 round_up _ c1 in
      let c3 = regroup items 9 (map Plain ends) (Jump e.start ∷ []) rest c2 in
      let c4 = over-plain items 9 ends (Jump e.start ∷ rest) c3 in
      let n0 = 9 + l + 2 in
      let c5 : Cursor items n0 rest = over-jump items (9 + l) e.start rest c4 in
      let completed = entry n0 e.completed 3 (map Plain (exit_with 0)) _ (λ m. exit_with 0) c5 refl refl in
      let n1 = n0 + 3 in
      let failed = entry n1 e.failed 3 (map Plain (exit_with 1)) _ (λ m. exit_with 1) completed.1 refl refl in
      let n2 = n1 + 3 in
      let escaped = entry n2 e.escaped 3 (map Plain (exit_with 2)) _ (λ m. exit_with 2) failed.1 refl refl in
      let n3 = n2 + 3 in
      let full = entry n3 e.full 3 (map Plain (exit_with 3)) _ (λ m. exit_with 3) escaped.1 refl refl in
      let n4 = n3 + 3 in
      let fail = entry n4 e.fail 13 (Plain (Load Ld 5 3 (pos 8)) ∷ BranchTo Beq 5 0 e.failed ∷ map Plain restore_alternative) _ (λ m. found_code 1 m (spot items e.failed) restore_alternative) full.1 refl (found-code (spot items) 1 n4 e.failed restore_alternative) in
      let n5 = n4 + 13 in
      let escape = entry n5 e.escape 16 (Plain (Load Ld 5 3 (pos 16)) ∷ BranchTo Beq 5 0 e.escaped ∷ map Plain restore_trap) _ (λ m. found_code 2 m (spot items e.escaped) restore_trap) fail.1 refl (found-code (spot items) 2 n5 e.escaped restore_trap) in
      let n6 = n5 + 16 in
      let commits = entry n6 e.commit 4 (map Plain (commit ++ go_back)) _ (λ m. commit ++ go_back) escape.1 refl refl in
      let n7 = n6 + 4 in
      let send = entry n7 e.send 10 (map Plain (send_word 10 0 ++ (commit ++ go_back))) _ (λ m. send_word 10 0 ++ (commit ++ go_back)) commits.1 refl refl in
      let n8 = n7 + 10 in
      let receive = entry n8 e.receive 14 (map Plain receive_bytes ++ (BranchTo Bne 10 5 e.fail ∷ map Plain (load_message ++ (commit ++ go_back)))) _ (λ m. receive_code m (spot items e.fail)) send.1 refl (receive-code (spot items) n8 e.fail) in
      let n9 = n8 + 14 in
      let allocate = entry n9 e.allocate 17 (take_items 1 e.full ++ map Plain (make_cell ++ (commit ++ go_back))) behind (λ m. take_code 1 m (spot items e.full) ++ (make_cell ++ (commit ++ go_back))) receive.1 refl (allocate-code (spot items) n9 e.full) in
      record {
        first = address-stands items 0 3 e.code_end _ c0;
        round = plain-stands items 2 round_up _ c1;
        ends = plain-stands items 9 ends (Jump e.start ∷ rest) c3;
        last = jump-stands items (9 + l) e.start rest c4;
        completed = completed.0;
        failed = failed.0;
        escaped = escaped.0;
        full = full.0;
        fail = fail.0;
        escape = escape.0;
        commit_entry = commits.0;
        send = send.0;
        receive = receive.0;
        allocate = allocate.0;
      }

-- ---- what each of them does

module _ (items : List Item) (e : Entries) (stack units : ℕ) (s : Stood items e stack units) (near : total items < 2 ^ 28) where
  abbrev code : List Inst
  code = code_of items

  -- the instructions of an entry, from where the machine stands
  there : {l size : ℕ} {instructions : ℕ → List Inst} (x : Entry items l size instructions) (c : WordState) → c.pc ≡ address_of (spot items l) → c.pc ≡ address_of x.place
  there x c h = h ∙ ap address_of x.is

  stands-at : {l size : ℕ} {instructions : ℕ → List Inst} (x : Entry items l size instructions) (c : WordState) → c.pc ≡ address_of (spot items l) → Has code c.pc (instructions x.place)
  stands-at {l} {size} {instructions} x c h = subst (λ p. Has code p (instructions x.place)) (sym (there x c h)) x.stands

  spot-near : (l : ℕ) → spot items l < 2 ^ 28
  spot-near l = omega (arith, near, spot_le-total items l)

  pub starts : stack ≤ 16777216 → units ≤ 4194304 → Starts e.start e.code_end stack units items
  starts few few_units base c h = starts-within items e.start e.code_end stack units few few_units near s.first s.round s.ends s.last base c h

  pub ends-with : (label exit : ℕ) → exit < 256 → Entry items label 3 (λ n. exit_with exit) → Ends label exit items
  ends-with label exit few x base c here =
      let runs = exit_with-exits base code exit c few (stands-at x c here) in
      record { words = runs; table = λ count layout bounded. run-exits base code count layout 3 c exit c.output bounded runs }

  pub fails : FailsToRecord e.fail items
  fails base k f arm before c at kept head =
      let here = there s.fail c at.here in
      fails-to base code s.fail.place (spot items e.failed) c at.region (omega (arith, s.fail.within, near)) here k f arm before (stands-at s.fail c at.here) kept head

  pub fails-out : FailsOut e.fail e.failed items
  fails-out base c at head =
      let here = there s.fail c at.here in
      goes-out base code 1 s.fail.place (spot items e.failed) restore_alternative c at.region (omega arith) (omega (arith, s.fail.within, near)) here (stands-at s.fail c at.here) (spot-near e.failed) head

  pub escapes : EscapesToRecord e.escape items
  escapes base k f arm mark before c at kept head marked =
      let here = there s.escape c at.here in
      escapes-to base code s.escape.place (spot items e.escaped) c at.region (omega (arith, s.escape.within, near)) here k f arm mark before (stands-at s.escape c at.here) kept head marked

  pub escapes-out : EscapesOut e.escape e.escaped items
  escapes-out base c at head =
      let here = there s.escape c at.here in
      goes-out base code 2 s.escape.place (spot items e.escaped) restore_trap c at.region (omega arith) (omega (arith, s.escape.within, near)) here (stands-at s.escape c at.here) (spot-near e.escaped) head

  pub commits : CommitsBack e.commit items
  commits base back c at returns =
      commits-back base code back c at.region returns (stands-at s.commit_entry c at.here)

  pub sends : SendsBack e.send items
  sends base back c at returns =
      sends-back base code back c at.region returns (stands-at s.send c at.here)

  pub receives-back : ReceivesBack e.receive items
  receives-back base back c at returns many =
      let here = there s.receive c at.here in
      receives base code s.receive.place (spot items e.fail) c at.region here (omega (arith, s.receive.within, near)) (stands-at s.receive c at.here) back returns many

  pub receives-nothing : ReceivesNone e.receive e.fail items
  receives-nothing base c at few =
      let here = there s.receive c at.here in
      receives-none base code s.receive.place (spot items e.fail) c at.region here (omega (arith, s.receive.within, near)) (stands-at s.receive c at.here) (spot-near e.fail) few

  pub allocates-back : AllocatesBack e.allocate items
  allocates-back base back low room spent c at returns u lt =
      let here = there s.allocate c at.here in
      allocates base code s.allocate.place (spot items e.full) low room spent c at.region u here (omega (arith, s.allocate.within, near)) (stands-at s.allocate c at.here) back returns lt

  pub allocates-nothing : AllocatesNone e.allocate e.full items
  allocates-nothing base low room spent c at u le =
      let here = there s.allocate c at.here in
      allocates-none base code s.allocate.place (spot items e.full) low room spent c at.region u here (omega (arith, s.allocate.within, near)) (stands-at s.allocate c at.here) (spot-near e.full) le
