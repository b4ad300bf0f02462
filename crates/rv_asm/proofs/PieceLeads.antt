-- Pieces of code that were appended do what they are for, on both machines and whatever is emitted behind them.
use Rattle.std.proofs.Common.{◌≡◌, ℕ, Result, OnOk, ◌+◌, ◌*◌, ◌^◌, ◌<◌, List, ◌++◌, length, map, refl, sym, ap, ◌∙◌, subst, arith, append_assoc}
use Rattle.std.proofs.lemmas.Result.{on_ok_weaker}
use Rattle.rv_code.specs.declared.instruction.Inst.{Inst}
use Rattle.rv_asm.specs.declared.item.Item.{Item}
use Rattle.rv_asm.specs.declared.item.Item.TheVariants.{Plain}
use Rattle.rv_asm.specs.Assembly.{Listing, total, spot, code_of}
use Rattle.rv_asm.specs.Pieces.{appended, load_constant, copy_words, send_word, exit_with}
use Rattle.rv_asm.specs.PieceRuns.{LeadsAt, ExitsAt, code_with, end_of, IsBefore, LoadsConstant, CopiesWords, SendsWord, ExitsWith}
use Rattle.rv_asm.specs.WordMachine.{WordState, Goes, Exits, put, run_words, Has}
use Rattle.rv_asm.proofs.Bridge.{run-goes, run-exits}
use Rattle.rv_asm.proofs.Constants.{length-load_constant, load_constant-runs}
use Rattle.rv_asm.proofs.Copies.{length-copy_words, copy_words-runs}
use Rattle.rv_asm.proofs.Calls.{after_send, after_send-others, send_word-runs, exit_with-exits}
use Rattle.rv_asm.proofs.Labels.{total-append}
use Rattle.rv_asm.proofs.LabelsArrive.{piece-stands}
use Rattle.rv_asm.proofs.Sending.{code_from-plain, total-plain}

-- a run of words is a run of the machine of the table
leads-at : (base : ℕ) (code : List Inst) (n : ℕ) (c d : WordState) → run_words base code n c ≡ Goes d → LeadsAt base code n c d
leads-at base code n c d runs = record {
  words = runs;
  table = λ count layout bounded. (run-goes base code count layout n c d bounded runs).0;
}

exits-at : (base : ℕ) (code : List Inst) (n : ℕ) (c : WordState) (exit : ℕ) → run_words base code n c ≡ Exits exit c.output → ExitsAt base code n c exit
exits-at base code n c exit runs = record {
  words = runs;
  table = λ count layout bounded. run-exits base code count layout n c exit c.output bounded runs;
}

module _ (old : Listing) (piece : List Inst) where
  abbrev new : Listing
  new = appended old piece

  -- the piece stands in the code
  stands : (behind : List Item) (c : WordState) → IsBefore old c → Has (code_with new behind) c.pc piece
  stands behind c before =
      let items = new.items ++ behind in
      let parts : items ≡ old.items ++ (map Plain piece ++ behind) = append_assoc old.items (map Plain piece) behind in
      let there : Has (code_of items) (end_of old) piece =
      subst (Has (code_of items) (end_of old)) (code_from-plain (spot items) (total old.items) piece) (piece-stands items old.items (map Plain piece) behind parts) in
      subst (λ p. Has (code_of items) p piece) (sym before) there

  -- and the next instruction behind it
  end-is : (c : WordState) (n : ℕ) → IsBefore old c → length piece ≡ n → c.pc + 4 * n ≡ end_of new
  end-is c n before size = omega (arith, before, size, total-append old.items (map Plain piece), total-plain piece)

-- ---- each piece

loads-constant : (old : Listing) (rd value : ℕ) → value < 2 ^ 64 → LoadsConstant rd value old (appended old (load_constant rd value))
loads-constant old rd value small =
    let piece = load_constant rd value in
    record {
      instructions = length piece;
      few = length-load_constant rd value;
      leads = λ behind c base before some.
          let code = code_with (appended old piece) behind in
          let runs = load_constant-runs base code rd value c (omega arith) small (stands old piece behind c before) in
          leads-at base code (length piece) c _ (runs ∙ ap (λ p. Goes (record c { pc = p; registers = put c.registers rd value })) (end-is old piece c (length piece) before refl));
    }

pub copies-words : (old : Listing) (n scratch source from target to : ℕ) → CopiesWords n scratch source from target to old (appended old (copy_words n scratch source from target to))
copies-words old n scratch source from target to behind c base i j before can =
    let piece = copy_words n scratch source from target to in
    let code = code_with (appended old piece) behind in
    let ran = copy_words-runs base code n scratch source from target to i j c can (stands old piece behind c before) in
    let there = end-is old piece c (2 * n) before (length-copy_words n scratch source from target to) in
    let pc : c.pc + 8 * n ≡ end_of (appended old piece) = omega (arith, there) in
    let d : WordState = record c { pc = c.pc + 8 * n; registers = ran.registers; words = ran.words } in
    (d, pc, leads-at base code (2 * n) c d ran.runs, record { copied = ran.copied; others = ran.others; input = refl; output = refl })

sends-word : (old : Listing) (register place : ℕ) → SendsWord register place old (appended old (send_word register place))
sends-word old register place behind c base before can =
    let piece = send_word register place in
    let code = code_with (appended old piece) behind in
    let d = after_send base code register place c in
    let there = end-is old piece c 6 before refl in
    let pc : d.pc ≡ end_of (appended old piece) = omega (arith, there) in
    let runs = send_word-runs base code register place c can (stands old piece behind c before) in
    (d, pc, leads-at base code 6 c d runs, record { output = refl; words = refl; others = λ k a b e f. after_send-others base code register place k c a b e f; input = refl })

exits-with : (old : Listing) (exit : ℕ) → exit < 256 → ExitsWith exit old (appended old (exit_with exit))
exits-with old exit few behind c base before =
    let piece = exit_with exit in
    let code = code_with (appended old piece) behind in
    exits-at base code 3 c exit (exit_with-exits base code exit c few (stands old piece behind c before))

-- ---- where they were appended

module _ {E : Type 0} (r : Result (Unit {0}) E) (old new : Listing) where
  pub loads-ok : (rd value : ℕ) → value < 2 ^ 64 → OnOk r (new ≡ appended old (load_constant rd value)) → OnOk r (LoadsConstant rd value old new)
  loads-ok rd value small = on_ok_weaker r (λ e. subst (LoadsConstant rd value old) (sym e) (loads-constant old rd value small))

  pub sends-ok : (register place : ℕ) → OnOk r (new ≡ appended old (send_word register place)) → OnOk r (SendsWord register place old new)
  sends-ok register place = on_ok_weaker r (λ e. subst (SendsWord register place old) (sym e) (sends-word old register place))

  pub exits-ok : (exit : ℕ) → exit < 256 → OnOk r (new ≡ appended old (exit_with exit)) → OnOk r (ExitsWith exit old new)
  exits-ok exit few = on_ok_weaker r (λ e. subst (ExitsWith exit old) (sym e) (exits-with old exit few))
