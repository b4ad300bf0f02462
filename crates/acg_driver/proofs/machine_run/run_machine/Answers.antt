use Rattle.std.proofs.Common.{◌≡◌, ◌≢◌, ℕ, ◌+◌, [], sym, ap, ◌∙◌, subst, arith}
use Rattle.rv_code.specs.Machine.{run}
use Rattle.rv_machine.specs.Machines.{left, state_of, sent, sent_in, Runs}
use Rattle.rv_machine.proofs.RunsLemmas.{runs-none, runs-then, runs-more, sent_in-none}
use Rattle.rv_machine.specs.declared.answers.QuietEnd.TheVariants as quiet_end
use Rattle.acg_words.specs.Prints.{Took, Broke}
use Rattle.acg_words.specs.declared.line.Line.TheVariants.{Running}
use Rattle.acg_words.proofs.PrintsLemmas.{took-none, took-then, broke-then}
use Rattle.acg_driver.specs.Runs.{output_lines, IsRunOf}
use Rattle.acg_driver.proofs.RunLemmas.{lines-more, quiet-behind, never-traps, exit-code, exit-answer, running-answer, says-at}
use Rattle.acg_driver.proofs.Saying.{printed-whole, printed-failed, said-line, said-broke}
use Rattle.acg_driver.proofs.machine_run.run_machine.Goals as goal

pub runs-init : goal.runs-init
runs-init g c = record {
  within = omega arith;
  ran = runs-none c.args.machine.now c.args.input.now;
  took = subst (λ lines. Took g.K.Sink (output_lines lines) c.args.out.now c.args.out.now) (sym (sent_in-none c.args.machine.now c.args.input.now)) (took-none c.args.out.now);
}

pub exit_line-requires : goal.exit_line-requires
exit_line-requires g c =
    let before = c.runs.invariant in
    let quiet = c.run_quietly-quiet in
    let ran = runs-then c.runs.ran quiet.result.ran c.args.machine.now c.args.input.now c.runs.machine (left c.runs.input) quiet.new.self (left quiet.new.input) before.ran quiet.ensures.ran in
    let other : quiet.result.end ≢ quiet_end.Budget = λ e. let both = sym e ∙ c.in-Exited.is in cc in
    exit-code (c.runs.ran + quiet.result.ran) c.args.budget c.args.machine.now quiet.new.self c.args.input.now (left quiet.new.input) c.in-Exited.code c.requires ran
    (quiet.ensures.exited c.in-Exited.code c.in-Exited.is) (omega (arith, quiet.ensures.fewer other, before.within))

pub returns-in-Exited : goal.returns-in-Exited
returns-in-Exited g c =
    let before = c.runs.invariant in
    let quiet = c.run_quietly-quiet in
    let m = c.args.machine.now in
    let n = c.runs.ran + quiet.result.ran in
    let ran = runs-then c.runs.ran quiet.result.ran m c.args.input.now c.runs.machine (left c.runs.input) quiet.new.self (left quiet.new.input) before.ran quiet.ensures.ran in
    let same = quiet-behind c.runs.ran quiet.result.ran m c.runs.machine quiet.new.self c.args.input.now (left c.runs.input) (left quiet.new.input) before.ran quiet.ensures.ran quiet.ensures.silent in
    let other : quiet.result.end ≢ quiet_end.Budget = λ e. let both = sym e ∙ c.in-Exited.is in cc in
    let took = subst (λ sent. Took g.K.Sink (output_lines sent) c.args.out.now c.runs.out) (sym same) before.took in
    said-line {P = IsRunOf (run c.args.budget (state_of m c.args.input.now []))} c.exit_line.result took c.answer.ensures.answered
    (exit-answer n c.args.budget m quiet.new.self c.args.input.now (left quiet.new.input) c.in-Exited.code c.exit_line.result ran
    (quiet.ensures.exited c.in-Exited.code c.in-Exited.is) (omega (arith, quiet.ensures.fewer other, before.within)) c.exit_line.ensures)

pub unreachable-requires : goal.unreachable-requires
unreachable-requires g c =
    let before = c.runs.invariant in
    let quiet = c.run_quietly-quiet in
    let ran = runs-then c.runs.ran quiet.result.ran c.args.machine.now c.args.input.now c.runs.machine (left c.runs.input) quiet.new.self (left quiet.new.input) before.ran quiet.ensures.ran in
    let other : quiet.result.end ≢ quiet_end.Budget = λ e. let both = sym e ∙ c.in-Trapped.is in cc in
    let trapped = quiet.ensures.trapped c.in-Trapped.cause c.in-Trapped.pc c.in-Trapped.is in
    never-traps (c.runs.ran + quiet.result.ran) c.args.budget c.args.machine.now quiet.new.self c.args.input.now (left quiet.new.input) c.in-Trapped.cause c.requires ran
    trapped.0 (omega (arith, quiet.ensures.fewer other, before.within))

pub returns-in-Budget : goal.returns-in-Budget
returns-in-Budget g c =
    let before = c.runs.invariant in
    let quiet = c.run_quietly-quiet in
    let m = c.args.machine.now in
    let n = c.runs.ran + quiet.result.ran in
    let ran = runs-then c.runs.ran quiet.result.ran m c.args.input.now c.runs.machine (left c.runs.input) quiet.new.self (left quiet.new.input) before.ran quiet.ensures.ran in
    let same = quiet-behind c.runs.ran quiet.result.ran m c.runs.machine quiet.new.self c.args.input.now (left c.runs.input) (left quiet.new.input) before.ran quiet.ensures.ran quiet.ensures.silent in
    let all : n ≡ c.args.budget = omega (arith, quiet.ensures.all c.in-Budget.is, before.within) in
    let took = subst (λ sent. Took g.K.Sink (output_lines sent) c.args.out.now c.runs.out) (sym same ∙ ap (λ count. sent_in count m c.args.input.now) all) before.took in
    let Ran : ℕ → Type 0 = λ count. Runs count m c.args.input.now quiet.new.self (left quiet.new.input) in
    said-line {P = IsRunOf (run c.args.budget (state_of m c.args.input.now []))} Running took c.answer-in-Budget.ensures.answered
    (running-answer c.args.budget m quiet.new.self c.args.input.now (left quiet.new.input) (subst Ran all ran))

pub returns-then-is_err : goal.returns-then-is_err
returns-then-is_err g c =
    let before = c.runs.invariant in
    let quiet = c.run_quietly-quiet in
    let m = c.args.machine.now in
    let k = quiet.new.self in
    let n = c.runs.ran + quiet.result.ran in
    let ran = runs-then c.runs.ran quiet.result.ran m c.args.input.now c.runs.machine (left c.runs.input) k (left quiet.new.input) before.ran quiet.ensures.ran in
    let same = quiet-behind c.runs.ran quiet.result.ran m c.runs.machine k c.args.input.now (left c.runs.input) (left quiet.new.input) before.ran quiet.ensures.ran quiet.ensures.silent in
    let took = subst (λ sent. Took g.K.Sink (output_lines sent) c.args.out.now c.runs.out) (sym same) before.took in
    let broke = printed-failed c.print_messages.result (sym c.is_err.ensures.value ∙ c.if-is_err.true) c.print_messages.ensures in
    let sends = quiet.ensures.sends c.in-Sends.is in
    let other : quiet.result.end ≢ quiet_end.Budget = λ e. let both = sym e ∙ c.in-Sends.is in cc in
    let says = says-at n c.args.budget m k c.args.input.now (left quiet.new.input) c.requires (omega (arith, quiet.ensures.fewer other, before.within)) ran sends.0 sends.1 in
    let piece : Broke g.K.Sink (output_lines (sent k)) c.runs.out c.print_messages.new.out = subst (λ bytes. Broke g.K.Sink (output_lines bytes) c.runs.out c.print_messages.new.out) c.sending.ensures.bytes broke in
    said-broke {P = IsRunOf (run c.args.budget (state_of m c.args.input.now []))} says.rest says.status (broke-then took piece) says.right

pub pass_over-requires : goal.pass_over-requires
pass_over-requires g c = rw c.sending.follows.holds-at-none (c.run_quietly-quiet.ensures.sends c.in-Sends.is).0

pub runs-preserved : goal.runs-preserved
runs-preserved g c =
    let before = c.runs.invariant in
    let quiet = c.run_quietly-quiet in
    let m = c.args.machine.now in
    let k = quiet.new.self in
    let j = left quiet.new.input in
    let n = c.runs.ran + quiet.result.ran in
    let ran = runs-then c.runs.ran quiet.result.ran m c.args.input.now c.runs.machine (left c.runs.input) k j before.ran quiet.ensures.ran in
    let same = quiet-behind c.runs.ran quiet.result.ran m c.runs.machine k c.args.input.now (left c.runs.input) j before.ran quiet.ensures.ran quiet.ensures.silent in
    let took = subst (λ sent. Took g.K.Sink (output_lines sent) c.args.out.now c.runs.out) (sym same) before.took in
    let other : quiet.result.end ≢ quiet_end.Budget = λ e. let both = sym e ∙ c.in-Sends.is in cc in
    let steps = (rw c.sending.follows.holds-at-none at c.pass_over.ensures).ran j in
    let sent_now = printed-whole c.print_messages.result (sym c.is_err.ensures.value ∙ c.if-is_err.false) c.print_messages.ensures in
    let piece : Took g.K.Sink (output_lines (sent k)) c.runs.out c.print_messages.new.out = subst (λ bytes. Took g.K.Sink (output_lines bytes) c.runs.out c.print_messages.new.out) c.sending.ensures.bytes sent_now in
    let lines = lines-more n m k c.pass_over.new.self c.args.input.now j j c.requires ran steps in
    let count : n + 1 ≡ c.runs.ran + (quiet.result.ran + 1) = omega arith in
    let Ran : ℕ → Type 0 = λ i. Runs i m c.args.input.now c.pass_over.new.self j in
    let Wrote : ℕ → Type 0 = λ i. Took g.K.Sink (output_lines (sent_in i m c.args.input.now)) c.args.out.now c.print_messages.new.out in
    record {
      within = omega (arith, quiet.ensures.fewer other, before.within);
      ran = subst Ran count (runs-more n m c.args.input.now k j c.pass_over.new.self j ran steps);
      took = subst Wrote count (subst (λ text. Took g.K.Sink text c.args.out.now c.print_messages.new.out) (sym lines) (took-then took piece));
    }
