use Rattle.std.proofs.Common.{◌≡◌, suc, ◌+◌, ℤ, List, ◌++◌, length, drop, refl, sym, ap, subst, ◌∙◌, arith}
use Rattle.action_sos.specs.Schedules.{number_at, next_number}
use Rattle.acg_words.specs.Lines.{message_lines, bytes_of, status_of}
use Rattle.acg_words.specs.Prints.{Took, Printed, Answered}
use Rattle.acg_words.specs.declared.line.Line.{Line}
use Rattle.acg_words.specs.declared.line.Line.TheVariants.{Memory, Running}
use Rattle.acg_words.proofs.PrintsLemmas.{took-none, took-then, broke-then}
use Rattle.acg_driver.specs.Commands.Perform.{IsPerformed, step_limit, end_line}
use Rattle.acg_driver.proofs.PerformanceLemmas.{chosen-within, moved-ended, moved-on, one-more, start-going, start-silent, reached-start, reached-more, same-graph, lines-step, step-goes, ended-performed, running-performed, broken-performed}
use Rattle.acg_driver.proofs.Saying.{printed-whole, printed-failed, said-line, said-broke}
use Rattle.acg_driver.proofs.performance.take_steps.Goals as goal

pub loop-turn-init : goal.loop-turn-init
loop-turn-init g c =
    let start = c.args.performer.now in
    let input = start.state.world.input in
    record {
      same = refl;
      reached = reached-start c.args.number start.graph input start.state c.requires;
      chooses = refl;
      going = start-going start.state input c.requires;
      took = subst (λ lines. Took g.K.Sink lines c.args.out.now c.args.out.now) (sym (start-silent start.state input c.requires)) (took-none c.args.out.now);
    }

pub returns-in_default : goal.returns-in_default
returns-in_default g c =
    let start = c.args.performer.now in
    let before = c.loop-turn.invariant in
    said-line {P = IsPerformed c.args.number start.graph start.state.world.input} Memory before.took c.answer.ensures.answered
    (broken-performed c.args.number start.graph start.state.world.input c.loop-turn._turn c.loop-turn.performer.state before.reached (omega arith) before.going)

pub returns-in-Ended : goal.returns-in-Ended
returns-in-Ended g c =
    let start = c.args.performer.now in
    let before = c.loop-turn.invariant in
    let old = c.loop-turn.performer in
    let new = c.step.new.self in
    let takes = c.in-Ok.ensures.takes in
    let behind : List ℤ → Type 0 = λ output. Printed g.K.Sink (message_lines (drop (length c.output-before.result.now) output)) c.loop-turn.out c.print_sent.new.out c.print_sent.result in
    let sent = printed-whole c.print_sent.result (sym c.is_err.ensures.value ∙ c.if-is_err.false) (subst behind c.output.ensures c.print_sent.ensures) in
    let reached = reached-more c.args.number c.loop-turn.number start.graph start.state.world.input c.loop-turn._turn c.chosen-choice.result c.open_steps.result old new before.reached
    before.same before.chooses c.open_steps.ensures.count c.chosen-choice.ensures takes in
    let ended = moved-ended new.state.tree c.in-Ended.outcome (sym c.in-Ended.is ∙ c.in-Ok.ensures.moved) in
    let lines = lines-step c.chosen-choice.result (length c.output-before.result.now) old new (ap length c.output-before.ensures) takes in
    let took : Took g.K.Sink (message_lines new.state.world.output) c.args.out.now c.print_sent.new.out =
    subst (λ text. Took g.K.Sink text c.args.out.now c.print_sent.new.out) (sym lines) (took-then before.took sent) in
    let AnsweredOf : Line → Type 0 = λ line. Answered g.K.Sink (bytes_of line) (status_of line) c.print_sent.new.out c.answer-in-Ended.new.out c.answer-in-Ended.result in
    said-line {P = IsPerformed c.args.number start.graph start.state.world.input} (end_line ended.0) took
    (subst AnsweredOf (c.end_line.ensures ended.0 ended.2) c.answer-in-Ended.ensures.answered)
    (ended-performed c.args.number start.graph start.state.world.input (c.loop-turn._turn + 1) new.state ended.0 reached (omega arith) ended.1)

pub loop-turn-preserved : goal.loop-turn-preserved
loop-turn-preserved g c =
    let start = c.args.performer.now in
    let before = c.loop-turn.invariant in
    let old = c.loop-turn.performer in
    let new = c.step.new.self in
    let takes = c.in-Ok.ensures.takes in
    let behind : List ℤ → Type 0 = λ output. Printed g.K.Sink (message_lines (drop (length c.output-before.result.now) output)) c.loop-turn.out c.print_sent.new.out c.print_sent.result in
    let sent = printed-whole c.print_sent.result (sym c.is_err.ensures.value ∙ c.if-is_err.false) (subst behind c.output.ensures c.print_sent.ensures) in
    let next : suc c.loop-turn._turn ≡ c.loop-turn._turn + 1 = omega arith in
    let lines = lines-step c.chosen-choice.result (length c.output-before.result.now) old new (ap length c.output-before.ensures) takes in
    record {
      same = same-graph c.chosen-choice.result old new takes ∙ before.same;
      reached = reached-more c.args.number c.loop-turn.number start.graph start.state.world.input c.loop-turn._turn c.chosen-choice.result c.open_steps.result old new before.reached
          before.same before.chooses c.open_steps.ensures.count c.chosen-choice.ensures takes;
      chooses = c.next_number-number.ensures ∙ ap next_number before.chooses ∙ ap (number_at c.args.number) next;
      going = moved-on new.state.tree (sym c.in_default-moved.is ∙ c.in-Ok.ensures.moved);
      took = subst (λ text. Took g.K.Sink text c.args.out.now c.print_sent.new.out) (sym lines) (took-then before.took sent);
    }

pub returns : goal.returns
returns g c =
    let start = c.args.performer.now in
    let before = c.loop-turn.invariant in
    let all : c.loop-turn._turn ≡ step_limit = omega arith in
    said-line {P = IsPerformed c.args.number start.graph start.state.world.input} Running before.took c.answer-2.ensures.answered
    (running-performed c.args.number start.graph start.state.world.input c.loop-turn._turn c.loop-turn.performer.state before.reached all before.going)

pub chosen-choice-requires : goal.chosen-choice-requires
chosen-choice-requires g c =
    let some : c.open_steps.result ≡ 0 → ⊥ = λ none. c.loop-turn.invariant.going (c.open_steps.ensures.at_end.0 none) in
    omega (arith, some)

pub step-requires : goal.step-requires
step-requires g c =
    let some : c.open_steps.result ≡ 0 → ⊥ = λ none. c.loop-turn.invariant.going (c.open_steps.ensures.at_end.0 none) in
    let within = chosen-within c.loop-turn.number c.open_steps.result (omega (arith, some)) in
    omega (arith, within, c.chosen-choice.ensures, c.open_steps.ensures.count)

pub print_sent-requires : goal.print_sent-requires
print_sent-requires g c =
    let more = one-more c.chosen-choice.result c.loop-turn.performer c.step.new.self c.in-Ok.ensures.takes in
    omega (arith, more, ap length c.output.ensures, ap length c.output-before.ensures)

pub returns-then-is_err : goal.returns-then-is_err
returns-then-is_err g c =
    let start = c.args.performer.now in
    let before = c.loop-turn.invariant in
    let old = c.loop-turn.performer in
    let new = c.step.new.self in
    let takes = c.in-Ok.ensures.takes in
    let behind : List ℤ → Type 0 = λ output. Printed g.K.Sink (message_lines (drop (length c.output-before.result.now) output)) c.loop-turn.out c.print_sent.new.out c.print_sent.result in
    let broke = printed-failed c.print_sent.result (sym c.is_err.ensures.value ∙ c.if-is_err.true) (subst behind c.output.ensures c.print_sent.ensures) in
    let reached = reached-more c.args.number c.loop-turn.number start.graph start.state.world.input c.loop-turn._turn c.chosen-choice.result c.open_steps.result old new before.reached
    before.same before.chooses c.open_steps.ensures.count c.chosen-choice.ensures takes in
    let lines = lines-step c.chosen-choice.result (length c.output-before.result.now) old new (ap length c.output-before.ensures) takes in
    let goes = step-goes c.args.number start.graph start.state.world.input (c.loop-turn._turn + 1) new.state c.in-Ok.moved reached (omega arith) c.in-Ok.ensures.moved in
    let Performed = IsPerformed c.args.number start.graph start.state.world.input in
    said-broke {P = Performed} (bytes_of goes.line) (status_of goes.line) (broke-then before.took broke)
    (subst (λ text. Performed (text ++ bytes_of goes.line) (status_of goes.line)) lines goes.right)
