-- The entries that allocate and receive, and the end for what passes the capacity, as the code of an action has them.
use Rattle.rv_asm.specs.Assembly.{address_of}
use Rattle.rv_asm.specs.Pieces.{exit_with}
use Rattle.rv_asm.specs.WordMachine.{Has}
use Rattle.rv_prelude.specs.EntryRuns.{AllocatesBack, AllocatesNone, ReceivesBack, ReceivesNone}
use Rattle.rv_codegen.specs.Blocks.{allocate_label, fail_label, full_label, receive_label}
use Rattle.rv_codegen.proofs.Settings.{Setting, code, point}

module _ (s : Setting) where
  pub record HasStorage : Type 0 where
    pub allocates : AllocatesBack allocate_label s.items
    pub allocates_none : AllocatesNone allocate_label full_label s.items
    pub full_exits : Has (code s) (address_of (point s full_label).place) (exit_with 3)
    pub receives : ReceivesBack receive_label s.items
    pub receives_none : ReceivesNone receive_label fail_label s.items
