-- What the entries do, where the prelude was appended.
use Rattle.std.proofs.Common.{◌≡◌, ℕ, ◌+◌, ◌≤◌, ◌++◌, List, refl, sym, subst, arith, Result, Ok, Err, IfOk, OnOk}
use Rattle.rv_asm.specs.Arrivals.{LabelsStand}
use Rattle.rv_asm.specs.Assembly.{Listing}
use Rattle.rv_asm.specs.declared.item.Item.{Item}
use Rattle.rv_prelude.specs.declared.entries.Entries.{Entries}
use Rattle.rv_prelude.specs.EntryRuns.{Whatever, Starts, Ends, FailsToRecord, FailsOut, EscapesToRecord, EscapesOut, CommitsBack, SendsBack, ReceivesBack, ReceivesNone, AllocatesBack, AllocatesNone}
use Rattle.rv_prelude.specs.Items.{entry_count, entries_from, prelude_items}
use Rattle.rv_prelude.proofs.Entered.{Stood, prelude-stands, starts, ends-with, fails, fails-out, escapes, escapes-out, commits, sends, receives-back, receives-nothing, allocates-back, allocates-nothing}

-- a fact of the labels and of all that was appended, where both are known
pub known : {E : Type 0} (r : Result Entries E) (n : Entries) (l new : Listing) (P : Entries → Listing → Type 0) → P n l → IfOk r (λ e. e ≡ n) → OnOk r (new ≡ l) → IfOk r (λ e. P e new)
known (Ok x) n l new P p a b = subst (P x) (sym b) (subst (λ y. P y l) (sym a) p)
known (Err e) n l new P p a b = tt

module _ (n stack units : ℕ) where
  abbrev e : Entries
  e = entries_from n

  -- what is appended to nothing
  abbrev pub prelude_listing : Listing
  prelude_listing = record { items = prelude_items (entries_from n) stack units; labels = n + entry_count }

  abbrev all : List Item → List Item
  all behind = prelude_items (entries_from n) stack units ++ behind

  stood : (behind : List Item) → LabelsStand (all behind) → Stood (all behind) (entries_from n) stack units
  stood behind labels = prelude-stands (all behind) labels (entries_from n) stack units behind refl

  pub starts-whatever : stack ≤ 16777216 → units ≤ 4194304 → Whatever prelude_listing (Starts e.start e.code_end stack units)
  starts-whatever few few_units behind labels near = starts (all behind) (entries_from n) stack units (stood behind labels) near few few_units

  pub completed-whatever : Whatever prelude_listing (Ends e.completed 0)
  completed-whatever behind labels near = ends-with (all behind) (entries_from n) stack units (stood behind labels) near e.completed 0 (omega arith) (stood behind labels).completed

  pub failed-whatever : Whatever prelude_listing (Ends e.failed 1)
  failed-whatever behind labels near = ends-with (all behind) (entries_from n) stack units (stood behind labels) near e.failed 1 (omega arith) (stood behind labels).failed

  pub escaped-whatever : Whatever prelude_listing (Ends e.escaped 2)
  escaped-whatever behind labels near = ends-with (all behind) (entries_from n) stack units (stood behind labels) near e.escaped 2 (omega arith) (stood behind labels).escaped

  pub full-whatever : Whatever prelude_listing (Ends e.full 3)
  full-whatever behind labels near = ends-with (all behind) (entries_from n) stack units (stood behind labels) near e.full 3 (omega arith) (stood behind labels).full

  pub fails-whatever : Whatever prelude_listing (FailsToRecord e.fail)
  fails-whatever behind labels near = fails (all behind) (entries_from n) stack units (stood behind labels) near

  pub fails-out-whatever : Whatever prelude_listing (FailsOut e.fail e.failed)
  fails-out-whatever behind labels near = fails-out (all behind) (entries_from n) stack units (stood behind labels) near

  pub escapes-whatever : Whatever prelude_listing (EscapesToRecord e.escape)
  escapes-whatever behind labels near = escapes (all behind) (entries_from n) stack units (stood behind labels) near

  pub escapes-out-whatever : Whatever prelude_listing (EscapesOut e.escape e.escaped)
  escapes-out-whatever behind labels near = escapes-out (all behind) (entries_from n) stack units (stood behind labels) near

  pub commits-whatever : Whatever prelude_listing (CommitsBack e.commit)
  commits-whatever behind labels near = commits (all behind) (entries_from n) stack units (stood behind labels) near

  pub sends-whatever : Whatever prelude_listing (SendsBack e.send)
  sends-whatever behind labels near = sends (all behind) (entries_from n) stack units (stood behind labels) near

  pub receives-whatever : Whatever prelude_listing (ReceivesBack e.receive)
  receives-whatever behind labels near = receives-back (all behind) (entries_from n) stack units (stood behind labels) near

  pub receives-none-whatever : Whatever prelude_listing (ReceivesNone e.receive e.fail)
  receives-none-whatever behind labels near = receives-nothing (all behind) (entries_from n) stack units (stood behind labels) near

  pub allocates-whatever : Whatever prelude_listing (AllocatesBack e.allocate)
  allocates-whatever behind labels near = allocates-back (all behind) (entries_from n) stack units (stood behind labels) near

  pub allocates-none-whatever : Whatever prelude_listing (AllocatesNone e.allocate e.full)
  allocates-none-whatever behind labels near = allocates-nothing (all behind) (entries_from n) stack units (stood behind labels) near
