-- The entry that sends, and commits.
use Rattle.std.proofs.Common.{◌≡◌, ℕ, ◌%◌, ◌^◌, ◌<◌, List, ◌++◌, set, refl, ◌∙◌, arith}
use Rattle.rv_code.specs.Bytes.{bytes_of}
use Rattle.rv_code.specs.declared.instruction.Inst.{Inst}
use Rattle.rv_asm.specs.Pieces.{send_word}
use Rattle.rv_asm.specs.WordMachine.{WordState, Goes, run_words, Has}
use Rattle.rv_asm.proofs.Calls.{after_send, after_send-others}
use Rattle.rv_asm.proofs.Registers.{put-other}
use Rattle.rv_asm.proofs.Stretches.{Between}
use Rattle.rv_prelude.specs.EntryRuns.{Returns}
use Rattle.rv_prelude.specs.PieceRuns.{HasRegion}
use Rattle.rv_prelude.specs.Pieces.{commit, go_back}
use Rattle.rv_prelude.specs.Region.{committed_words}
use Rattle.rv_prelude.proofs.Commitments.{sent_back, send-runs, send-between}

-- what stands at the entry
abbrev pub send_code : List Inst
send_code = send_word 10 0 ++ (commit ++ go_back)

-- what a call of the entry leaves
pub record HasSent (base : ℕ) (code : List Inst) (c : WordState) (back : ℕ) : Type 0 where
  pub to : WordState
  pub runs : run_words base code 10 c ≡ Goes to
  pub between : Between base code 10 c to
  pub at : to.pc ≡ back
  pub others : (k : ℕ) → k < 5 → to.registers k ≡ c.registers k
  pub words : to.words ≡ committed_words (set c.words 0 (c.registers 10))
  pub input : to.input ≡ c.input
  pub output : to.output ≡ c.output ++ bytes_of 8 (c.registers 10)

pub send_entry-runs : (base : ℕ) (code : List Inst) (c : WordState) (back : ℕ) → HasRegion base c → c.registers 1 ≡ back → back % 4 ≡ 0 → back < 2 ^ 64 → Has code c.pc send_code → HasSent base code c back
send_entry-runs base code c back region returns even below has =
    let r : Returns back c = record { is = returns; aligned = even; below = below } in
    record {
      to = sent_back base code back c region r has;
      runs = send-runs base code back c region r has;
      between = send-between base code back c region r has;
      at = refl;
      others = λ k lt. put-other (after_send base code 10 0 c).registers k 5 1 (omega arith) ∙ after_send-others base code 10 0 k c (omega arith) (omega arith) (omega arith) (omega arith);
      words = refl;
      input = refl;
      output = refl;
    }
