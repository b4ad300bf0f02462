use Rattle.std.proofs.Common.{◌≡◌}
use Rattle.action_sos.specs.Performers.{IsEnd}
use Rattle.action_sos.specs.Schedules.{number_at}
use Rattle.acg_words.specs.Lines.{message_lines}
use Rattle.acg_words.specs.Prints.{Took}
use Rattle.acg_driver.proofs.PerformanceLemmas.{IsReached}
use Rattle.acg_driver.proofs.performance.take_steps.Given as goal

abbrev pub invariant-loop-turn : goal.invariant-loop-turn
invariant-loop-turn g l = record {
  same : l.performer.graph ≡ l.fn.performer.graph;
  reached : IsReached l.fn.number l.fn.performer.graph l.fn.performer.state.world.input l._turn l.performer.state;
  chooses : l.number ≡ number_at l.fn.number l._turn;
  going : IsEnd l.performer.state.tree → ⊥;
  took : Took g.K.Sink (message_lines l.performer.state.world.output) l.fn.out l.out;
}
