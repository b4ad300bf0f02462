-- The instructions that set the unit of a cell and commit: the datum's word is in one register, and the cell's address in another.
use Rattle.std.proofs.Common.{◌≡◌, ℕ, ◌+◌, ◌*◌, ◌^◌, ◌<◌, ◌≤◌, List, ◌∷◌, ◌++◌, length, set, pos, refl, ap, ap₂, ◌∙◌, arith, length-set}
use Rattle.rv_code.specs.declared.instruction.Inst.{Inst}
use Rattle.rv_asm.specs.WordMachine.{WordState, Goes, get, put, run_words, Has}
use Rattle.rv_asm.proofs.Registers.{get-above, put-other, put-same}
use Rattle.rv_asm.proofs.Stretches.{then-runs}
use Rattle.rv_asm.proofs.Words.{IsReachable, store-runs}
use Rattle.rv_prelude.specs.PieceRuns.{HasRegion}
use Rattle.rv_prelude.specs.Pieces.{commit}
use Rattle.rv_prelude.specs.Region.{committed_words}
use Rattle.rv_prelude.proofs.Commitments.{committed, commit-runs, region-written}
use Rattle.rv_codegen.specs.StorageItems.{put_word}
use Rattle.rv_codegen.proofs.UnitsStored.{stored_words}

-- what is behind them
pub record HasPut (base : ℕ) (code : List Inst) (a place : ℕ) (c : WordState) : Type 0 where
  pub end : WordState
  pub runs : run_words base code 6 c ≡ Goes end
  pub pc : end.pc ≡ c.pc + 24
  pub others : (k : ℕ) → k < 5 → end.registers k ≡ c.registers k
  pub words : end.words ≡ committed_words (stored_words c.words place (c.registers a))
  pub input : end.input ≡ c.input
  pub output : end.output ≡ c.output

pub put-runs : (base : ℕ) (code : List Inst) (a b place : ℕ) (c : WordState) → HasRegion base c → 5 < a → 5 < b → c.registers b ≡ base + 8 * place → place + 2 ≤ length c.words → Has code c.pc (put_word a b ++ commit) → HasPut base code a place c
put-runs base code a b place c r high_a high_b is inside has =
    let c1 : WordState = record c { pc = c.pc + 4; registers = put c.registers 5 1 } in
    let r1 : run_words base code 1 c ≡ Goes c1 = rw (has.0) refl in
    let kept_b : get c1.registers b ≡ base + 8 * place = get-above c1.registers b (omega (arith, high_b)) ∙ put-other c.registers b 5 1 (omega (arith, high_b)) ∙ is in
    let kept_a : get c1.registers a ≡ c.registers a = get-above c1.registers a (omega (arith, high_a)) ∙ put-other c.registers a 5 1 (omega (arith, high_a)) in
    let one : get c1.registers 5 ≡ 1 = put-same c.registers 4 1 in
    let c2 : WordState = record c1 { pc = c1.pc + 4; words = set c.words (place + 0) (get c1.registers 5) } in
    let r2 : run_words base code 1 c1 ≡ Goes c2 = store-runs base code c1 b 5 place 0 (record { aligned = r.aligned; below = omega (arith, r.below); is = kept_b; inside = omega (arith, inside) }) has.1.0 in
    let long = length-set c.words (place + 0) (get c1.registers 5) in
    let c3 : WordState = record c2 { pc = c2.pc + 4; words = set c2.words (place + 1) (get c1.registers a) } in
    let r3 : run_words base code 1 c2 ≡ Goes c3 = store-runs base code c2 b a place 1 (record { aligned = r.aligned; below = omega (arith, r.below, long); is = kept_b; inside = omega (arith, inside, long) }) has.1.1.0 in
    let size : length c3.words ≡ length c.words = length-set c2.words (place + 1) (get c1.registers a) ∙ long in
    let last = commit-runs base code c3 (region-written base c c3 r size (put-other c.registers 3 5 1 (omega arith))) has.1.1.1 in
    let first : place + 0 ≡ place = omega arith in
    let flagged : c2.words ≡ set c.words place 1 = ap₂ (set c.words) first one in
    record {
      end = committed c3;
      runs = then-runs base code 3 3 c c3 (committed c3) (then-runs base code 2 1 c c2 c3 (then-runs base code 1 1 c c1 c2 r1 r2) r3) last;
      pc = omega arith;
      others = λ k lt. put-other c3.registers k 5 1 (omega arith) ∙ put-other c.registers k 5 1 (omega arith);
      words = ap committed_words (ap₂ (λ ws v. set ws (place + 1) v) flagged kept_a);
      input = refl;
      output = refl;
    }
