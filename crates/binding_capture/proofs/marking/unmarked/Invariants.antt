use Rattle.std.proofs.Common.{[], drop, ◌++◌, ◌≡◌}
use Rattle.binding_capture.specs.Asked.{tokens_of}
use Rattle.binding_capture.specs.Captures.{marked_of, marks}
use Rattle.binding_capture.proofs.marking.unmarked.Given as goal

-- the first tokens, and those that are left
abbrev pub invariant-loop-i : goal.invariant-loop-i
invariant-loop-i l = marked_of l.candidates.items ++ marks (tokens_of (drop l.i l.tokens)) [] ≡ marks (tokens_of l.tokens) []
