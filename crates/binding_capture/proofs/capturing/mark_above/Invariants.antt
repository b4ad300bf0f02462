use Rattle.std.proofs.Common.{Vec, length, ℕ, ◌-◌, ◌<◌, ◌≡◌}
use Rattle.std.specs.Global.{Global}
use Rattle.action_terms.specs.Actions.{Action}
use Rattle.sort_rules.specs.Procedures.{reaches}
use Rattle.binding_capture.specs.Asked.{tokens_of}
use Rattle.binding_capture.specs.Captures.{AreAbove, marked_at, with_asked_if}
use Rattle.binding_capture.specs.declared.marking.Candidate.{Candidate}
use Rattle.binding_capture.proofs.capturing.mark_above.Given as goal

-- what is marked from here on is all that is left
abbrev pub invariant-loop : goal.invariant-loop
invariant-loop l = record {
  long : length l.candidates.items ≡ length l.initial.candidates.items;
  within : l.at < length l.holders;
  rest : (a : Action) → AreAbove a l.holders → (c : ℕ) (d : Vec Candidate Global) → c < length l.initial.candidates.items
      → with_asked_if (reaches (l.node - l.counter) a c l.at) (tokens_of l.asked) (marked_at l.candidates.items d c)
      ≡ with_asked_if (reaches l.node a c l.node) (tokens_of l.asked) (marked_at l.initial.candidates.items d c);
}
